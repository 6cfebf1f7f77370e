use Rattle.std.proofs.Common.{ap, ◌∙◌}
use Rattle.std.specs.Prelude.{Option}
use Rattle.std.specs.Option.{option_map_or}
use Rattle.desk_words.specs.declared.records.RegisterRow.{RegisterRow}
use Rattle.proxy_rules.specs.Shares.{shares_of}
use Rattle.sql_load.proofs.StoredOfficeLemmas.{holds_so}
use Rattle.sql_load_needed.proofs.look_ups.shares_of.Goals as goal

pub returns-clause-holds : goal.returns-clause-holds
returns-clause-holds g c =
    holds_so g.S.Store _ _ _ _ c.in_ok-row.row _ c.in_ok-row.ensures.holds
    (λ office preserved row. c.shares_in.ensures ∙ ap (λ (r : Option RegisterRow). option_map_or shares_of r 0) row)

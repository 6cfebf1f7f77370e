use Rattle.std.proofs.Common.{◌≡◌, ℕ, List, Err, slice_get, ◌∙◌, rules}
use Rattle.desk_words.specs.Finding.{meeting_named}
use Rattle.desk_words.specs.declared.office.OfficeLists.{OfficeLists}
use Rattle.desk_words.specs.declared.records.RegisterRow.{RegisterRow}
use Rattle.sql_schema.specs.Contents as table
use Rattle.proxy_rules.specs.Shares as shares
use Rattle.row_source.specs.LookUps.{register_in}
use Rattle.sql_load.proofs.FoundRecordLemmas.{items_returned}
use Rattle.sql_load_needed.proofs.LoadedPartyRowLemmas.{row_so}
use Rattle.sql_load.proofs.StoredOfficeLemmas.{holds_so, holds_stop}
use Rattle.sql_load_needed.proofs.look_ups.row_of.Goals as goal

-- the first of the rows is the member's, if it has one
abbrev IsRow : List ℕ → List ℕ → OfficeLists → List RegisterRow → Type 0
IsRow id member office rows = slice_get rows 0 ≡ shares.row_of (register_in (meeting_named office.meetings id)) member

pub returns-in_err-rows-clause-holds : goal.returns-in_err-rows-clause-holds
returns-in_err-rows-clause-holds g c =
    let is : c.from_residual.result ≡ Err c.in_err-rows.field-0.0 = search rules in
    holds_stop g.S.Store _ _ (IsRow c.args.meeting c.args.member) _ c.in_err-rows.field-0.0 c.from_residual.result is
    (items_returned g.S.Store c.args.tx.now.conn.now c.find.new.tx.conn.now (λ v. v.items) table.register (λ flat. flat.register) (λ trees flat held. held.register) _ c.find.result c.find.ensures.rows c.find.ensures.changes c.records_found.result c.records_found.ensures
    (Err c.in_err-rows.field-0.0) c.in_err-rows.ensures (IsRow c.args.meeting c.args.member) (λ flat office of preserved. row_so c.args.meeting c.args.member flat office of preserved))

pub returns-clause-holds : goal.returns-clause-holds
returns-clause-holds g c =
    holds_so g.S.Store _ _ (IsRow c.args.meeting c.args.member) _ c.in_ok-rows.rows _
    (items_returned g.S.Store c.args.tx.now.conn.now c.find.new.tx.conn.now (λ v. v.items) table.register (λ flat. flat.register) (λ trees flat held. held.register) _ c.find.result c.find.ensures.rows c.find.ensures.changes c.records_found.result c.records_found.ensures
    _ c.in_ok-rows.ensures (IsRow c.args.meeting c.args.member) (λ flat office of preserved. row_so c.args.meeting c.args.member flat office of preserved))
    (λ office preserved row. c.first.ensures ∙ row)

use Rattle.std.proofs.Common.{Bool, false, List, map, ap, sym, ◌∙◌}
use Rattle.std.specs.Prelude.{◌&&◌, nat_le, Result, Ok, Err}
use Rattle.std.specs.declared.alloc.AllocError.{AllocError}
use Rattle.vocabulary.specs.declared.range.TheConstants.{MOST_PLACES}
use Rattle.desk_words.specs.declared.records.Appointment.{Appointment}
use Rattle.proxy_rules.specs.Holdings.{are_numbered_from, are_tags, claim_of}
use Rattle.proxy_rules.proofs.ClaimLemmas.{valid_so, valid_alike}
use Rattle.proxy_rules.proofs.holdings.Holding.is_valid.Goals as goal

pub returns-clause-value : goal.returns-clause-value
returns-clause-value c =
    let holding = c.args.self.now in
    c.are_valid.ensures
    ∙ ap (λ (l : List Appointment). are_numbered_from 0 l && are_tags l && nat_le holding.shares MOST_PLACES)
    (c.as_slice-2.ensures.value ∙ c.in_ok-claims.ensures ∙ ap (map claim_of) c.as_slice.ensures)
    ∙ valid_alike holding

abbrev got : Result Bool AllocError → Bool
got (Ok b) = b
got (Err e) = false

pub returns-clause-valid : goal.returns-clause-valid
returns-clause-valid c = λ same. valid_so c.args.self.now (sym (returns-clause-value c) ∙ ap got same)

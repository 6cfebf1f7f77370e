use Rattle.std.proofs.Common.{length, ap, ◌∙◌}
use Rattle.std.specs.Prelude.{count_by, nat_le}
use Rattle.keyed_seq.specs.Positions.{has_first}
use Rattle.vocabulary.specs.Names.{name_cmp}
use Rattle.desk_words.specs.declared.limits.TheConstants.{MOST_AUTHORITIES}
use Rattle.desk_words.specs.declared.records.Authority.{Authority}
use Rattle.office_validation.proofs.ValidKeyLemmas.{length-places_that}
use Rattle.office_validation.proofs.TieLemmas.{name-ties}
use Rattle.office_validation.proofs.attendance.gave_few.Goals as goal

pub returns : goal.returns
returns c =
    let corporation = c.args.authority.now.corporation in
    ap (λ n. nat_le n MOST_AUTHORITIES)
    (ap length c.places_by_first.ensures.places
    ∙ length-places_that (has_first name_cmp (λ (a : Authority). a.corporation) corporation) c.args.given.now
    ∙ ap (λ test. count_by test c.args.given.now) (λ i a. name-ties a.corporation corporation i))

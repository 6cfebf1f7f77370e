use Rattle.std.proofs.Common.{◌≡◌, ◌<◌, ◌==◌, length, get_or, ap, sym, ◌∙◌, arith}
use Rattle.std.specs.Prelude.{not, take}
use Rattle.std.specs.List.{list_any}
use Rattle.std.proofs.lemmas.Option.{get_or_from_slice_get, slice_get_within}
use Rattle.keyed_seq.specs.Positions.{has_first, places_passing}
use Rattle.vocabulary.specs.Names.{name_cmp, same_name}
use Rattle.desk_words.proofs.WordRowLemmas.{same_name-refl}
use Rattle.desk_words.specs.declared.records.CastMark.{CastMark}
use Rattle.office_validation.proofs.RankLemmas.{first-place, stands}
use Rattle.office_validation.proofs.TieLemmas.{name-ties}
use Rattle.office_validation.proofs.polls.is_first.Goals as goal

pub bounds-places_by_first-0 : goal.bounds-places_by_first-0
bounds-places_by_first-0 c =
    let casts = c.args.casts.now in
    let cast = c.args.cast.now in
    let places = c.places_by_first.ensures.places ∙ ap (λ test. places_passing test casts) (λ i d. name-ties d.voter cast.voter i) in
    let at =
    stands (λ (d : CastMark). same_name d.voter cast.voter) casts c.args.place cast (slice_get_within casts c.args.place cast c.requires)
    (ap (λ (d : CastMark). same_name d.voter cast.voter) (get_or_from_slice_get casts c.args.place cast cast c.requires) ∙ same_name-refl cast.voter) in
    omega (arith, at.within, ap length places)

pub returns : goal.returns
returns c =
    let casts = c.args.casts.now in
    let cast = c.args.cast.now in
    ap (λ ps. get_or ps 0 0 == c.args.place) (c.places_by_first.ensures.places ∙ ap (λ test. places_passing test casts) (λ i d. name-ties d.voter cast.voter i))
    ∙ first-place (λ (d : CastMark). same_name d.voter cast.voter) casts c.args.place cast (slice_get_within casts c.args.place cast c.requires)
    (ap (λ (d : CastMark). same_name d.voter cast.voter) (get_or_from_slice_get casts c.args.place cast cast c.requires) ∙ same_name-refl cast.voter)

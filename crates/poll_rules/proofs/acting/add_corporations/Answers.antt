use Rattle.std.proofs.Common.{List, get_or, take, ap, sym, ◌∙◌}
use Rattle.std.specs.Prelude.{◌||◌}
use Rattle.std.specs.List.{filter_map, list_any, slice_get}
use Rattle.std.proofs.Math.Bool.{or-false}
use Rattle.std.proofs.lemmas.List.{take_all}
use Rattle.vocabulary.specs.Names.{same_name}
use Rattle.desk_words.specs.declared.records.Authority.{Authority}
use Rattle.poll_rules.specs.Acting.{is_one_of}
use Rattle.poll_rules.proofs.ActingLemmas.{any-place, authorised-found, or-apart, place-there, put-more}
use Rattle.poll_rules.proofs.acting.add_corporations.Goals as goal

pub loop-place-init : goal.loop-place-init
loop-place-init c = λ member. sym (or-false (is_one_of c.args.members.now member))

pub loop-place-preserved : goal.loop-place-preserved
loop-place-preserved c = λ member.
    let before = is_one_of c.args.members.now member in
    let all = c.as_slice-all.result.now in
    let places = c.places_by_second-place-items.result.now in
    let i = c.loop-place.place-index in
    let read = c.index-all-place.result in
    let a = get_or all (get_or places i 0) read in
    let p = λ (x : Authority). same_name x.corporation member in
    put-more a.corporation member _ _ (c.in_ok-insert.ensures.updates.0 member)
    ∙ ap (λ b. b || p a) (c.loop-place.invariant member)
    ∙ or-apart before (list_any p (filter_map (slice_get all) (take i places))) (p a)
    ∙ ap (λ b. before || b) (sym (any-place p all places i a c.loop-place-test.true
    (place-there c.args.authorities.now all places i read c.loop-place-test.true c.places_by_second-place-items.ensures.within c.as_slice-all.ensures)))

pub returns : goal.returns
returns c = λ member.
    let all = c.as_slice-all.result.now in
    let places = c.places_by_second-place-items.result.now in
    let p = λ (x : Authority). same_name x.corporation member in
    c.loop-place.invariant member
    ∙ ap (λ b. is_one_of c.args.members.now member || b)
    (ap (λ l. list_any p (filter_map (slice_get all) l)) (take_all c.loop-place.place-index places c.loop-place-test.false)
    ∙ ap (λ (items : List Authority). list_any p (filter_map (slice_get items) places)) c.as_slice-all.ensures
    ∙ ap (list_any p) c.places_by_second-place-items.ensures.picked
    ∙ authorised-found c.args.authorities.now c.args.person member)

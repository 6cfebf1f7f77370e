use Rattle.std.proofs.Common.{ℕ, List, cond, ap, ◌∙◌, arith}
use Rattle.std.specs.BTreeMap.{get}
use Rattle.std.specs.Ordering.{is_eq}
use Rattle.std.specs.Prelude.{Some}
use Rattle.std.proofs.lemmas.List.{take_all}
use Rattle.vocabulary.specs.Names.{name_cmp}
use Rattle.party_views.specs.OwnViews.{rows_by}
use Rattle.party_views.specs.declared.own_rows.MemberRows.{MemberRows}
use Rattle.party_views.proofs.ViewPreservedLemmas.{place-put}
use Rattle.party_views.proofs.governed.places_by_member.Goals as goal

pub loop-rows-preserved : goal.loop-rows-preserved
loop-rows-preserved c =
    let before = c.loop-rows.invariant in
    let rows = c.rows-item.result in
    record {
      count = omega (arith, before.count);
      found = λ member.
          place-put c.args.members.now c.loop-rows.rows-index rows member (get name_cmp c.loop-rows.places member) _ c.loop-rows-test.true c.rows-item.is
          (c.in_ok-insert.ensures.updates.0 member ∙ ap (λ (n : ℕ). cond (is_eq (name_cmp rows.member member)) (Some n) (get name_cmp c.loop-rows.places member)) before.count)
          (before.found member);
    }

pub returns : goal.returns
returns c = λ member.
    c.loop-rows.invariant.found member ∙ ap (λ (l : List MemberRows). rows_by l member) (take_all c.loop-rows.rows-index c.args.members.now c.loop-rows-test.false)

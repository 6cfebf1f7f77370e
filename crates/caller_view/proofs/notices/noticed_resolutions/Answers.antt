use Rattle.std.proofs.Common.{◌≡◌, ◌+◌, ◌∷◌, ◌++◌, [], length, take, ap, sym, ◌∙◌, arith}
use Rattle.std.proofs.lemmas.List.{take_more}
use Rattle.caller_view.specs.Notices.{noticed_resolution}
use Rattle.party_views.specs.SessionLists.{enumerate_from}
use Rattle.party_views.proofs.Numbering.{length-numbered, numbered-more}
use Rattle.caller_view.proofs.notices.noticed_resolutions.Goals as goal

pub loop-resolution-preserved : goal.loop-resolution-preserved
loop-resolution-preserved c =
    let public = c.args.public.now in
    let f = noticed_resolution c.args.meeting.now public.polls public.closed c.args.now in
    let xs = c.args.meeting.now.resolutions in
    let held = c.as_slice-resolutions.result.now in
    let same = c.as_slice-resolutions.ensures.value in
    let i = c.loop-resolution.resolution-index in
    let x = c.resolution-item.result in
    let more = take_more held i x c.loop-resolution-test.true ∙ ap (λ z. take i held ++ z ∷ []) (sym c.resolution-item.is) in
    let next : take (i + 1) xs ≡ take i xs ++ x ∷ [] = ap (take (i + 1)) (sym same) ∙ more ∙ ap (λ zs. take i zs ++ x ∷ []) same in
    let count : length c.as_slice.result.now ≡ length (take i xs) =
    ap length (c.as_slice.ensures.value ∙ c.loop-resolution.invariant) ∙ length-numbered f 1 (take i xs) in
    let number : length c.as_slice.result.now + 1 ≡ 1 + length (take i xs) = omega (arith, count) in
    c.in_ok-push.ensures.items
    ∙ ap (λ zs. zs ++ c.in_ok-noticed_resolution.field-0 ∷ []) c.loop-resolution.invariant
    ∙ ap (λ y. enumerate_from f 1 (take i xs) ++ y ∷ []) (c.in_ok-noticed_resolution.ensures ∙ ap (λ k. f k x) number)
    ∙ sym (numbered-more f 1 (take i xs) x)
    ∙ ap (enumerate_from f 1) (sym next)

use Rattle.std.proofs.Common.{◌≡◌, ◌+◌, ◌∷◌, ◌++◌, [], length, take, ap, sym, ◌∙◌, arith}
use Rattle.std.proofs.lemmas.List.{take_more}
use Rattle.caller_view.specs.Notices.{noticed_session}
use Rattle.party_views.specs.SessionLists.{enumerate_from}
use Rattle.party_views.proofs.Numbering.{length-numbered, numbered-more}
use Rattle.caller_view.proofs.notices.noticed_sessions.Goals as goal

pub loop-session-preserved : goal.loop-session-preserved
loop-session-preserved c =
    let f = noticed_session c.args.meeting.now c.args.closed.now c.args.now in
    let xs = c.args.meeting.now.later in
    let held = c.as_slice-session-items.result.now in
    let same = c.as_slice-session-items.ensures in
    let i = c.loop-session.session-index in
    let x = c.session-item.result in
    let more = take_more held i x c.loop-session-test.true ∙ ap (λ z. take i held ++ z ∷ []) (sym c.session-item.is) in
    let next : take (i + 1) xs ≡ take i xs ++ x ∷ [] = ap (take (i + 1)) (sym same) ∙ more ∙ ap (λ zs. take i zs ++ x ∷ []) same in
    let count : length c.as_slice.result.now ≡ length (take i xs) =
    ap length (c.as_slice.ensures.value ∙ c.loop-session.invariant) ∙ length-numbered f 2 (take i xs) in
    let number : length c.as_slice.result.now + 2 ≡ 2 + length (take i xs) = omega (arith, count) in
    c.in_ok-push.ensures.items
    ∙ ap (λ zs. zs ++ c.noticed_session.result ∷ []) c.loop-session.invariant
    ∙ ap (λ y. enumerate_from f 2 (take i xs) ++ y ∷ []) (c.noticed_session.ensures ∙ ap (λ k. f k x) number)
    ∙ sym (numbered-more f 2 (take i xs) x)
    ∙ ap (enumerate_from f 2) (sym next)

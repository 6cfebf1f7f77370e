use Rattle.std.proofs.Common.{◌≡◌, ◌+◌, ◌∷◌, ◌++◌, [], ℕ, length, take, ap, sym, ◌∙◌, arith}
use Rattle.std.proofs.lemmas.List.{take_more}
use Rattle.desk_words.specs.declared.records.Session.{Session}
use Rattle.party_views.specs.ViewsByMember.{cutoffs_in_session}
use Rattle.party_views.specs.SessionLists.{enumerate_from}
use Rattle.party_views.specs.declared.governed.SessionCutoffs.{SessionCutoffs}
use Rattle.party_views.proofs.Numbering.{length-numbered, numbered-more}
use Rattle.party_views.proofs.governed.all_cutoffs.Goals as goal

pub loop-session-preserved : goal.loop-session-preserved
loop-session-preserved c =
    let meeting = c.args.meeting.now in
    let f : ℕ → Session → SessionCutoffs = λ number s. cutoffs_in_session meeting c.args.closed.now c.args.now number in
    let xs = meeting.later in
    let held = c.as_slice-session-items.result.now in
    let same = c.as_slice-session-items.ensures in
    let i = c.loop-session._session-index in
    let x = c._session-item.result in
    let front = take i xs in
    let more = take_more held i x c.loop-session-test.true ∙ ap (λ z. take i held ++ z ∷ []) (sym c._session-item.is) in
    let next : take (i + 1) xs ≡ front ++ x ∷ [] = ap (take (i + 1)) (sym same) ∙ more ∙ ap (λ zs. take i zs ++ x ∷ []) same in
    let count : length c.as_slice.result.now ≡ length front =
    ap length (c.as_slice.ensures.value ∙ c.loop-session.invariant) ∙ length-numbered f 2 front in
    let number : length c.as_slice.result.now + 2 ≡ 2 + length front = omega (arith, count) in
    c.in_ok-push.ensures.items
    ∙ ap (λ zs. zs ++ c.session_cutoffs.result ∷ []) c.loop-session.invariant
    ∙ ap (λ y. enumerate_from f 2 front ++ y ∷ []) (c.session_cutoffs.ensures ∙ ap (λ k. f k x) number)
    ∙ sym (numbered-more f 2 front x)
    ∙ ap (enumerate_from f 2) (sym next)

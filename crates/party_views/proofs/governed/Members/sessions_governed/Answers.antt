use Rattle.std.proofs.Common.{◌≡◌, ◌+◌, ◌∷◌, ◌++◌, [], ℕ, suc, map, take, ap, sym, ◌∙◌, arith}
use Rattle.std.proofs.lemmas.List.{map-append, take_more}
use Rattle.party_views.specs.ViewsByMember.{session_in_rows}
use Rattle.party_views.proofs.governed.Members.sessions_governed.Goals as goal

pub loop-session-preserved : goal.loop-session-preserved
loop-session-preserved c =
    let f = session_in_rows c.args.self.now.rows.now c.args.member c.args.number in
    let sessions = c.args.sessions.now in
    let first = c.sessions.inside.first in
    let later = c.as_slice-later.result.now in
    let i = c.loop-session.session-index in
    let x = c.session-item.result in
    let whole : sessions ≡ first ∷ later = sym c.sessions.view_is ∙ ap (λ l. first ∷ l) (sym c.as_slice-later.ensures.value) in
    let more : take (i + 1) later ≡ take i later ++ x ∷ [] = take_more later i x c.loop-session-test.true ∙ ap (λ z. take i later ++ z ∷ []) (sym c.session-item.is) in
    let one_more : (n : ℕ) → take (n + 1) (first ∷ later) ≡ first ∷ take n later = λ n. let same : n + 1 ≡ suc n = omega arith in ap (λ k. take k (first ∷ later)) same in
    let next : take (i + 1) sessions ++ x ∷ [] ≡ take (i + 1 + 1) sessions =
    ap (λ s. take (i + 1) s ++ x ∷ []) whole
    ∙ ap (λ l. l ++ x ∷ []) (one_more i)
    ∙ ap (λ l. first ∷ l) (sym more)
    ∙ sym (one_more (i + 1))
    ∙ ap (take (i + 1 + 1)) (sym whole) in
    let made = c.in_ok-session_governed-2.field-0 in
    c.in_ok-push-2.ensures.ok
    ∙ ap (λ l. l ++ made ∷ []) c.loop-session.invariant
    ∙ ap (λ y. map f (take (i + 1) sessions) ++ y ∷ []) c.in_ok-session_governed-2.ensures
    ∙ sym (map-append f (take (i + 1) sessions) (x ∷ []))
    ∙ ap (map f) next

-- The text of resolutions and of sessions, one after the other.
use Rattle.std.proofs.Common.{◌≡◌, ℕ, suc, ◌+◌, ◌<◌, List, ◌∷◌, ◌++◌, length, get_or, drop, codes, sym, ap, ◌∙◌, arith, append_assoc}
use Rattle.std.proofs.Math.Seq.{drop-cons}
use Rattle.desk_words.specs.declared.records.Poll.{Poll}
use Rattle.desk_words.specs.declared.records.Resolution.{Resolution}
use Rattle.desk_words.specs.declared.records.Session.{Session}
use Rattle.desk_words.specs.Finding.{poll_on}
use Rattle.desk_papers.specs.PrintedResults.{line, resolution_text, resolutions_text, session_text, sessions_text}
use Rattle.desk_papers.specs.States.{state_of}

-- one resolution more
pub resolutions-more : (polls : List Poll) (n i : ℕ) (rs : List Resolution) (r : Resolution) (text new : List ℕ) → i < length rs → r ≡ get_or rs i r
    → new ≡ text ++ resolution_text n r (state_of r.kind (poll_on polls n)) → new ++ resolutions_text polls (n + 1) (drop (i + 1) rs) ≡ text ++ resolutions_text polls n (drop i rs)
resolutions-more polls n i rs r text new lt is added =
    let number : n + 1 ≡ suc n = omega arith in
    let place : i + 1 ≡ suc i = omega arith in
    let first : drop i rs ≡ r ∷ drop (suc i) rs = drop-cons rs i r lt ∙ ap (λ x. x ∷ drop (suc i) rs) (sym is) in
    rw (added, number, place, first, append_assoc)

-- one session more
pub sessions-more : (n i : ℕ) (ss : List Session) (s : Session) (text new : List ℕ) → i < length ss → s ≡ get_or ss i s
    → new ≡ text ++ line (codes "session") (session_text n s) → new ++ sessions_text (n + 1) (drop (i + 1) ss) ≡ text ++ sessions_text n (drop i ss)
sessions-more n i ss s text new lt is added =
    let number : n + 1 ≡ suc n = omega arith in
    let place : i + 1 ≡ suc i = omega arith in
    let first : drop i ss ≡ s ∷ drop (suc i) ss = drop-cons ss i s lt ∙ ap (λ x. x ∷ drop (suc i) ss) (sym is) in
    rw (added, number, place, first, append_assoc)

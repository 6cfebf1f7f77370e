-- What a proxy is told of a session is by the session's number.
use Rattle.std.proofs.Common.{◌≡◌, ℕ, zero, suc, ◌+◌, ◌∷◌, List, [], refl, sym, ap, ◌∙◌, add-zero, arith}
use Rattle.std.specs.Prelude.{Option, Some, None, option_map, unwrap_or}
use Rattle.std.specs.List.{slice_get}
use Rattle.std.specs.Option.{option_map_or, option_or}
use Rattle.vocabulary.specs.Places.{Places}
use Rattle.desk_words.specs.Sessions.{sessions_of}
use Rattle.desk_words.specs.declared.own_things.SessionGoverned.{SessionGoverned}
use Rattle.desk_words.specs.declared.records.Meeting.{Meeting}
use Rattle.desk_words.specs.declared.records.Session.{Session}
use Rattle.proxy_rules.specs.Cutoffs.{cutoffs_of, session_cutoffs}
use Rattle.proxy_rules.specs.Uses.{Acts, Votes}
use Rattle.proxy_rules.specs.declared.meeting_records.Cutoffs.{Cutoffs}
use Rattle.party_views.specs.SessionLists.{at_session, each_session, enumerate_from}

-- what there is for each session is found by its number
at-numbered : {X : Type 0} (g : ℕ → X) (n i : ℕ) (sessions : List Session) → slice_get (enumerate_from (λ number (s : Session). g number) n sessions) i ≡ option_map (λ (s : Session). g (n + i)) (slice_get sessions i)
at-numbered g n i [] = refl
at-numbered g n zero (s ∷ sessions) = ap (λ number. Some (g number)) (sym (add-zero n))
at-numbered g n (suc i) (s ∷ sessions) =
    let next : suc n + i ≡ n + suc i = omega arith in
    at-numbered g (suc n) i sessions ∙ ap (λ number. option_map (λ (s : Session). g number) (slice_get sessions i)) next

module _ (meeting : Meeting) (closed : List ℕ) (now : ℕ) (governed : Cutoffs → List Places) where
  -- what is governed in a session
  abbrev pub in_session : ℕ → SessionGoverned
  in_session number = record { acts = governed (cutoffs_of meeting (Acts number) closed now); votes = governed (cutoffs_of meeting (Votes number) closed now) }

  -- what is shown of a session that is looked up
  abbrev shown_of : (SessionGoverned → List Places) → Option SessionGoverned → List Places
  shown_of part found = option_map_or part (option_or found (Some (in_session 1))) []

  -- what is governed by a session that is looked up
  abbrev by : (Session → Session) → Option Session → List Places
  by ended_by found = let s = unwrap_or found meeting.first in governed (session_cutoffs s (ended_by s) closed now)

  -- for acts in a session, which may be none of the meeting
  pub acts-shown : (number : ℕ) → option_map_or (λ (s : SessionGoverned). s.acts) (at_session (each_session in_session meeting) number) [] ≡ governed (cutoffs_of meeting (Acts number) closed now)
  acts-shown zero = refl
  acts-shown (suc at) =
      let acts = shown_of (λ (s : SessionGoverned). s.acts) in
      let there : 1 + at ≡ suc at = omega arith in
      ap acts (at-numbered in_session 1 at (sessions_of meeting) ∙ ap (λ number. option_map (λ (s : Session). in_session number) (slice_get (sessions_of meeting) at)) there)
      ∙ (elim (slice_get (sessions_of meeting) at) as (λ found. slice_get (sessions_of meeting) at ≡ found
      → acts (option_map (λ (s : Session). in_session (suc at)) found) ≡ by (λ s. meeting.first) found) [
        | None ↦ λ e. refl
        | Some s ↦ λ e. ap (by (λ s. meeting.first)) e
      ]) refl

  -- and for votes
  pub votes-shown : (number : ℕ) → option_map_or (λ (s : SessionGoverned). s.votes) (at_session (each_session in_session meeting) number) [] ≡ governed (cutoffs_of meeting (Votes number) closed now)
  votes-shown zero = refl
  votes-shown (suc at) =
      let votes = shown_of (λ (s : SessionGoverned). s.votes) in
      let there : 1 + at ≡ suc at = omega arith in
      ap votes (at-numbered in_session 1 at (sessions_of meeting) ∙ ap (λ number. option_map (λ (s : Session). in_session number) (slice_get (sessions_of meeting) at)) there)
      ∙ (elim (slice_get (sessions_of meeting) at) as (λ found. slice_get (sessions_of meeting) at ≡ found
      → votes (option_map (λ (s : Session). in_session (suc at)) found) ≡ by (λ s. s) found) [
        | None ↦ λ e. refl
        | Some s ↦ λ e. ap (by (λ s. s)) e
      ]) refl

-- An office without secret votes, and what a change leaves of it.
use Rattle.std.proofs.Common.{◌≡◌, ℕ, true, false, not, cond, List, [], ◌∷◌, ◌++◌, map, refl, ap, sym, ◌∙◌, subst}
use Rattle.std.specs.Prelude.{Option, Some, None, option_map, nat_lt, ◌==◌}
use Rattle.std.proofs.lemmas.Bool.{eqb-true}
use Rattle.seq.specs.Edits.{change_first}
use Rattle.seq.specs.Sorting.{insert_by}
use Rattle.vocabulary.specs.Names.{same_name}
use Rattle.desk_words.proofs.WordRowLemmas.{same_name-true}
use Rattle.desk_words.specs.Changes.{applied_if_any, change_at, changed, entered, advanced, new_lists}
use Rattle.desk_words.specs.Office.{poll_before}
use Rattle.desk_words.specs.declared.change.Change.{Change}
use Rattle.desk_words.specs.declared.change.Change.TheVariants.{AddMeeting, InMeeting, SetClosedDays, SetKeys}
use Rattle.desk_words.specs.declared.change.Entry.{Entry}
use Rattle.desk_words.specs.declared.change.Entry.TheVariants as entry
use Rattle.desk_words.specs.declared.change.MeetingChange.{MeetingChange}
use Rattle.desk_words.specs.declared.change.MeetingChange.TheVariants.{AddPoll, Enter, SetPoll}
use Rattle.desk_words.specs.declared.change.PollChange.{PollChange}
use Rattle.desk_words.specs.declared.change.PollChange.TheVariants as poll
use Rattle.desk_words.specs.declared.office.MeetingLists.{MeetingLists}
use Rattle.desk_words.specs.declared.office.OfficeLists.{OfficeLists}
use Rattle.desk_words.specs.declared.records.CastMark.{CastMark}
use Rattle.desk_words.specs.declared.records.Meeting.{Meeting}
use Rattle.desk_words.specs.declared.records.Poll.{Poll}
use Rattle.laws_run.specs.SecretCalls.{Secret, office_without, hidden_in, is_secret_cast, no_tally, uncounted, without_count}
use Rattle.laws_run.proofs.RunsFoundLemmas.{changed-name}
use Rattle.laws_run.proofs.RunsListLemmas.{filter-more}

-- ---- changes of two meetings, or of one

-- two changes of meetings of different names may be made in either order
commute : (f g : MeetingLists → MeetingLists) (at id : List ℕ) (meetings : List MeetingLists) → ((m : MeetingLists) → (f m).meeting.id ≡ m.meeting.id)
    → ((m : MeetingLists) → (g m).meeting.id ≡ m.meeting.id) → same_name at id ≡ false
    → change_at g id (change_at f at meetings) ≡ change_at f at (change_at g id meetings)
commute f g at id [] f_named g_named differ = refl
commute f g at id (x ∷ xs) f_named g_named differ =
    (elim (same_name x.meeting.id at) as (λ a. same_name x.meeting.id at ≡ a → change_at g id (cond a (f x ∷ xs) (x ∷ change_at f at xs)) ≡ change_at f at (change_at g id (x ∷ xs))) [
      | true ↦ λ is_at. (
          let not_id : same_name x.meeting.id id ≡ false = ap (λ name. same_name name id) (same_name-true x.meeting.id at is_at) ∙ differ in
          ap (λ b. cond b (g (f x) ∷ xs) (f x ∷ change_at g id xs)) (ap (λ name. same_name name id) (f_named x) ∙ not_id)
          ∙ sym (ap (λ b. change_at f at (cond b (g x ∷ xs) (x ∷ change_at g id xs))) not_id ∙ ap (λ b. cond b (f x ∷ change_at g id xs) (x ∷ change_at f at (change_at g id xs))) is_at))
      | false ↦ λ not_at. (elim (same_name x.meeting.id id) as (λ b. same_name x.meeting.id id ≡ b
          → cond b (g x ∷ change_at f at xs) (x ∷ change_at g id (change_at f at xs)) ≡ change_at f at (cond b (g x ∷ xs) (x ∷ change_at g id xs))) [
            | true ↦ λ is_id. sym (ap (λ b. cond b (f (g x) ∷ xs) (g x ∷ change_at f at xs)) (ap (λ name. same_name name at) (g_named x) ∙ not_at))
            | false ↦ λ other. ap (λ l. x ∷ l) (commute f g at id xs f_named g_named differ)
                ∙ sym (ap (λ b. cond b (f x ∷ change_at g id xs) (x ∷ change_at f at (change_at g id xs))) not_at)
          ]) refl
    ]) refl

-- two changes of one meeting, where a third makes of the second what the second makes of the first
swap : (f g h : MeetingLists → MeetingLists) (id : List ℕ) (meetings : List MeetingLists) → ((m : MeetingLists) → (f m).meeting.id ≡ m.meeting.id)
    → ((m : MeetingLists) → (g m).meeting.id ≡ m.meeting.id) → ((m : MeetingLists) → g (f m) ≡ h (g m))
    → change_at g id (change_at f id meetings) ≡ change_at h id (change_at g id meetings)
swap f g h id [] f_named g_named same = refl
swap f g h id (x ∷ xs) f_named g_named same =
    (elim (same_name x.meeting.id id) as (λ a. same_name x.meeting.id id ≡ a
    → change_at g id (cond a (f x ∷ xs) (x ∷ change_at f id xs)) ≡ change_at h id (cond a (g x ∷ xs) (x ∷ change_at g id xs))) [
      | true ↦ λ is. ap (λ b. cond b (g (f x) ∷ xs) (f x ∷ change_at g id xs)) (ap (λ name. same_name name id) (f_named x) ∙ is)
          ∙ ap (λ y. y ∷ xs) (same x)
          ∙ sym (ap (λ b. cond b (h (g x) ∷ xs) (g x ∷ change_at h id xs)) (ap (λ name. same_name name id) (g_named x) ∙ is))
      | false ↦ λ other. ap (λ b. cond b (g x ∷ change_at f id xs) (x ∷ change_at g id (change_at f id xs))) other
          ∙ ap (λ l. x ∷ l) (swap f g h id xs f_named g_named same)
          ∙ sym (ap (λ b. cond b (h x ∷ change_at g id xs) (x ∷ change_at h id (change_at g id xs))) other)
    ]) refl

-- a change that another hides
absorb : (f g : MeetingLists → MeetingLists) (id : List ℕ) (meetings : List MeetingLists) → ((m : MeetingLists) → (f m).meeting.id ≡ m.meeting.id)
    → ((m : MeetingLists) → g (f m) ≡ g m) → change_at g id (change_at f id meetings) ≡ change_at g id meetings
absorb f g id [] named same = refl
absorb f g id (x ∷ xs) named same =
    (elim (same_name x.meeting.id id) as (λ a. same_name x.meeting.id id ≡ a → change_at g id (cond a (f x ∷ xs) (x ∷ change_at f id xs)) ≡ cond a (g x ∷ xs) (x ∷ change_at g id xs)) [
      | true ↦ λ is. ap (λ b. cond b (g (f x) ∷ xs) (f x ∷ change_at g id xs)) (ap (λ name. same_name name id) (named x) ∙ is) ∙ ap (λ y. y ∷ xs) (same x)
      | false ↦ λ other. ap (λ b. cond b (g x ∷ change_at f id xs) (x ∷ change_at g id (change_at f id xs))) other ∙ ap (λ l. x ∷ l) (absorb f g id xs named same)
    ]) refl

-- a meeting that is added has neither votes nor polls
hidden-added : (secret : Secret) (meeting : Meeting) (meetings : List MeetingLists)
    → change_at (hidden_in secret) secret.meeting (meetings ++ new_lists meeting ∷ []) ≡ change_at (hidden_in secret) secret.meeting meetings ++ new_lists meeting ∷ []
hidden-added secret meeting [] =
    elim (same_name meeting.id secret.meeting) as (λ b. cond b (new_lists meeting ∷ []) (new_lists meeting ∷ []) ≡ new_lists meeting ∷ []) [ true ↦ refl | false ↦ refl ]
hidden-added secret meeting (x ∷ xs) =
    elim (same_name x.meeting.id secret.meeting) as (λ b. cond b (hidden_in secret x ∷ (xs ++ new_lists meeting ∷ [])) (x ∷ change_at (hidden_in secret) secret.meeting (xs ++ new_lists meeting ∷ []))
    ≡ cond b (hidden_in secret x ∷ xs) (x ∷ change_at (hidden_in secret) secret.meeting xs) ++ new_lists meeting ∷ []) [
      | true ↦ refl
      | false ↦ ap (λ l. x ∷ l) (hidden-added secret meeting xs)
    ]

-- ---- polls without a count

uncounted-number : (resolution : ℕ) (p : Poll) → (uncounted resolution p).resolution ≡ p.resolution
uncounted-number resolution p =
    elim (p.resolution == resolution) as (λ b. (cond b (without_count p) p).resolution ≡ p.resolution) [ true ↦ refl | false ↦ refl ]

uncounted-inserted : (resolution : ℕ) (p : Poll) (polls : List Poll)
    → map (uncounted resolution) (insert_by poll_before p polls) ≡ insert_by poll_before (uncounted resolution p) (map (uncounted resolution) polls)
uncounted-inserted resolution p [] = refl
uncounted-inserted resolution p (q ∷ qs) =
    let seen = uncounted resolution in
    let first = sym (uncounted-number resolution p) in
    let second = sym (uncounted-number resolution q) in
    (elim (poll_before p q) as (λ b. map seen (cond b (p ∷ q ∷ qs) (q ∷ insert_by poll_before p qs))
    ≡ cond b (seen p ∷ seen q ∷ map seen qs) (seen q ∷ insert_by poll_before (seen p) (map seen qs))) [
      | true ↦ refl
      | false ↦ ap (λ l. seen q ∷ l) (uncounted-inserted resolution p qs)
    ])
    ∙ (λ i. cond (nat_lt (first i) (second i)) (seen p ∷ seen q ∷ map seen qs) (seen q ∷ insert_by poll_before (seen p) (map seen qs)))

-- the change of the poll on a resolution, without what is counted on the resolution
abbrev pub uncounted_change : ℕ → ℕ → PollChange → PollChange
uncounted_change resolution number (poll.Declared tally) = poll.Declared (cond (number == resolution) no_tally tally)
uncounted_change resolution number other = other

moved-uncounted : (resolution number : ℕ) (change : PollChange) (p : Poll) → (p.resolution == number) ≡ true
    → uncounted resolution (advanced change p) ≡ advanced (uncounted_change resolution number change) (uncounted resolution p)
moved-uncounted resolution number (poll.Started moment) p on =
    elim (p.resolution == resolution) as (λ b. cond b (without_count (record p { started = Some moment })) (record p { started = Some moment }) ≡ advanced (poll.Started moment) (cond b (without_count p) p))
    [ true ↦ refl | false ↦ refl ]
moved-uncounted resolution number (poll.Closed moment) p on =
    elim (p.resolution == resolution) as (λ b. cond b (without_count (record p { closed = Some moment })) (record p { closed = Some moment }) ≡ advanced (poll.Closed moment) (cond b (without_count p) p))
    [ true ↦ refl | false ↦ refl ]
moved-uncounted resolution number (poll.Declared tally) p on =
    (elim (p.resolution == resolution) as (λ b. cond b (record p { declared = Some no_tally }) (record p { declared = Some tally })
    ≡ advanced (poll.Declared (cond b no_tally tally)) (cond b (without_count p) p)) [ true ↦ refl | false ↦ refl ])
    ∙ ap (λ n. advanced (poll.Declared (cond (n == resolution) no_tally tally)) (uncounted resolution p)) (eqb-true p.resolution number on)

uncounted-changed : (resolution number : ℕ) (change : PollChange) (polls : List Poll)
    → map (uncounted resolution) (change_first (λ (p : Poll). p.resolution == number) (advanced change) polls)
    ≡ change_first (λ (p : Poll). p.resolution == number) (advanced (uncounted_change resolution number change)) (map (uncounted resolution) polls)
uncounted-changed resolution number change [] = refl
uncounted-changed resolution number change (p ∷ ps) =
    let seen = uncounted resolution in
    let on = λ (q : Poll). q.resolution == number in
    let after = advanced (uncounted_change resolution number change) in
    let same = sym (uncounted-number resolution p) in
    (elim (p.resolution == number) as (λ b. (p.resolution == number) ≡ b → map seen (cond b (advanced change p ∷ ps) (p ∷ change_first on (advanced change) ps))
    ≡ cond b (after (seen p) ∷ map seen ps) (seen p ∷ change_first on after (map seen ps))) [
      | true ↦ λ is. ap (λ q. q ∷ map seen ps) (moved-uncounted resolution number change p is)
      | false ↦ λ other. ap (λ l. seen p ∷ l) (uncounted-changed resolution number change ps)
    ]) refl
    ∙ (λ i. cond (same i == number) (after (seen p) ∷ map seen ps) (seen p ∷ change_first on after (map seen ps)))

-- ---- a change, without what is secret of it

abbrev pub hidden_entry : Secret → Entry → Option MeetingChange
hidden_entry secret (entry.Cast c) = cond (is_secret_cast secret c) None (Some (Enter (entry.Cast c)))
hidden_entry secret other = Some (Enter other)

abbrev pub hidden_change_in : Secret → MeetingChange → Option MeetingChange
hidden_change_in secret (AddPoll p) = Some (AddPoll (uncounted secret.resolution p))
hidden_change_in secret (SetPoll number change) = Some (SetPoll number (uncounted_change secret.resolution number change))
hidden_change_in secret (Enter e) = hidden_entry secret e
hidden_change_in secret other = Some other

abbrev pub hidden_change : Secret → Change → Option Change
hidden_change secret (InMeeting at change) = cond (same_name at secret.meeting) (option_map (InMeeting at) (hidden_change_in secret change)) (Some (InMeeting at change))
hidden_change secret other = Some other

abbrev pub hidden_some : Secret → Option Change → Option Change
hidden_some secret None = None
hidden_some secret (Some change) = hidden_change secret change

-- a meeting after a change, if there is one
abbrev changed_some : Option MeetingChange → MeetingLists → MeetingLists
changed_some None m = m
changed_some (Some change) m = changed change m

-- a vote that is entered, if it is none of the secret ones
entered-cast : (secret : Secret) (c : CastMark) (m : MeetingLists) → hidden_in secret (entered (entry.Cast c) m) ≡ changed_some (hidden_entry secret (entry.Cast c)) (hidden_in secret m)
entered-cast secret c m =
    ap (λ casts. record (hidden_in secret m) { casts = casts }) (filter-more (λ (d : CastMark). not (is_secret_cast secret d)) m.casts c)
    ∙ (elim (is_secret_cast secret c) as (λ b. record (hidden_in secret m) { casts = cond (not b) ((hidden_in secret m).casts ++ c ∷ []) (hidden_in secret m).casts }
    ≡ changed_some (cond b None (Some (Enter (entry.Cast c)))) (hidden_in secret m)) [ true ↦ refl | false ↦ refl ])

-- what it leaves of a meeting
changed-hidden : (secret : Secret) (change : MeetingChange) (m : MeetingLists) → hidden_in secret (changed change m) ≡ changed_some (hidden_change_in secret change) (hidden_in secret m)
changed-hidden secret (AddPoll p) m = ap (λ polls. record (hidden_in secret m) { polls = polls }) (uncounted-inserted secret.resolution p m.polls)
changed-hidden secret (SetPoll number change) m = ap (λ polls. record (hidden_in secret m) { polls = polls }) (uncounted-changed secret.resolution number change m.polls)
changed-hidden secret (Enter (entry.Cast c)) m = entered-cast secret c m
changed-hidden secret other m = refl

-- and of the meeting of the secret in an office
changed-here : (secret : Secret) (o : OfficeLists) (change : MeetingChange) → office_without secret (applied_if_any o (Some (InMeeting secret.meeting change)))
    ≡ applied_if_any (office_without secret o) (option_map (InMeeting secret.meeting) (hidden_change_in secret change))
changed-here secret o change =
    (elim (hidden_change_in secret change) as (λ left. hidden_change_in secret change ≡ left
    → office_without secret (applied_if_any o (Some (InMeeting secret.meeting change))) ≡ applied_if_any (office_without secret o) (option_map (InMeeting secret.meeting) left)) [
      | None ↦ λ none. ap (λ meetings. record o { meetings = meetings })
          (absorb (changed change) (hidden_in secret) secret.meeting o.meetings (changed-name change) (λ m.
          changed-hidden secret change m ∙ ap (λ left. changed_some left (hidden_in secret m)) none))
      | Some left ↦ λ some. ap (λ meetings. record o { meetings = meetings })
          (swap (changed change) (hidden_in secret) (changed left) secret.meeting o.meetings (changed-name change) (λ m. refl) (λ m.
          changed-hidden secret change m ∙ ap (λ left. changed_some left (hidden_in secret m)) some))
    ]) refl

in-meeting : (secret : Secret) (o : OfficeLists) (at : List ℕ) (change : MeetingChange)
    → office_without secret (applied_if_any o (Some (InMeeting at change))) ≡ applied_if_any (office_without secret o) (hidden_change secret (InMeeting at change))
in-meeting secret o at change =
    (elim (same_name at secret.meeting) as (λ b. same_name at secret.meeting ≡ b → office_without secret (applied_if_any o (Some (InMeeting at change)))
    ≡ applied_if_any (office_without secret o) (cond b (option_map (InMeeting at) (hidden_change_in secret change)) (Some (InMeeting at change)))) [
      | true ↦ λ is. subst (λ name. office_without secret (applied_if_any o (Some (InMeeting name change))) ≡ applied_if_any (office_without secret o) (option_map (InMeeting name) (hidden_change_in secret change)))
          (sym (same_name-true at secret.meeting is)) (changed-here secret o change)
      | false ↦ λ other. ap (λ meetings. record o { meetings = meetings })
          (commute (changed change) (hidden_in secret) at secret.meeting o.meetings (changed-name change) (λ m. refl) other)
    ]) refl

-- what a change leaves of an office without secret votes: what is not secret of it is changed
pub hidden-after : (secret : Secret) (o : OfficeLists) (change : Option Change) → office_without secret (applied_if_any o change) ≡ applied_if_any (office_without secret o) (hidden_some secret change)
hidden-after secret o None = refl
hidden-after secret o (Some (AddMeeting meeting)) = ap (λ meetings. record o { meetings = meetings }) (hidden-added secret meeting o.meetings)
hidden-after secret o (Some (SetClosedDays days)) = refl
hidden-after secret o (Some (SetKeys rows)) = refl
hidden-after secret o (Some (InMeeting at change)) = in-meeting secret o at change

-- What is entered into a meeting's lists is in no public record.
use Rattle.std.proofs.Common.{◌≡◌, ℕ, Bool, true, false, cond, List, [], ◌∷◌, refl, ap, ◌∙◌}
use Rattle.std.specs.Prelude.{Option, Some, None, option_map, find}
use Rattle.desk_words.specs.Edits.{change_first}
use Rattle.desk_words.specs.Names.{same_name}
use Rattle.desk_words.specs.declared.change.Change.TheVariants.{InMeeting}
use Rattle.desk_words.specs.declared.change.Entry.{Entry}
use Rattle.desk_words.specs.declared.change.MeetingChange.TheVariants.{Enter}
use Rattle.desk_words.specs.declared.office.OfficeLists.{OfficeLists}
use Rattle.desk_words.specs.declared.office.MeetingLists.{MeetingLists}
use Rattle.desk_words.specs.declared.records.Meeting.{Meeting}
use Rattle.party_views.specs.Views.{polls_in, public_of}
use Rattle.desk_words.specs.Changes.{applied_if_any, change_at, changed}
use Rattle.meeting_core.proofs.OfficePreserved.{entered_meeting, entered_polls}

-- what is found is seen alike after a change that neither the search nor the view sees
seen_alike : {X : Type 0} {Y : Type 0} (view : Option X → Y) (wanted test : X → Bool) (f : X → X) (xs : List X)
    → ((x : X) → view (Some (f x)) ≡ view (Some x)) → ((x : X) → wanted (f x) ≡ wanted x) → view (find wanted (change_first test f xs)) ≡ view (find wanted xs)
seen_alike view wanted test f [] same found = refl
seen_alike view wanted test f (x ∷ xs) same found =
    elim (test x) as (λ b. view (find wanted (cond b (f x ∷ xs) (x ∷ change_first test f xs))) ≡ view (find wanted (x ∷ xs))) [
      | true ↦ ap (λ b. view (cond b (Some (f x)) (find wanted xs))) (found x)
          ∙ (elim (wanted x) as (λ b. view (cond b (Some (f x)) (find wanted xs)) ≡ view (cond b (Some x) (find wanted xs))) [ true ↦ same x | false ↦ refl ])
      | false ↦ elim (wanted x) as (λ b. view (cond b (Some x) (find wanted (change_first test f xs))) ≡ view (cond b (Some x) (find wanted xs)))
          [ true ↦ refl | false ↦ seen_alike view wanted test f xs same found ]
    ]

-- what leaves a meeting's notice and polls as they are changes no public record
unseen_at : (o : OfficeLists) (f : MeetingLists → MeetingLists) (at id : List ℕ) → ((m : MeetingLists) → (f m).meeting ≡ m.meeting) → ((m : MeetingLists) → (f m).polls ≡ m.polls)
    → public_of (record o { meetings = change_at f at o.meetings }) id ≡ public_of o id
unseen_at o f at id meeting polls =
    let test = λ (m : MeetingLists). same_name m.meeting.id at in
    let wanted = λ (m : MeetingLists). same_name m.meeting.id id in
    let named = λ (m : MeetingLists). ap (λ (x : Meeting). same_name x.id id) (meeting m) in
    let meetings = seen_alike (λ found. option_map (λ (m : MeetingLists). m.meeting) found) wanted test f o.meetings (λ m. ap (λ (x : Meeting). Some x) (meeting m)) named in
    let all = seen_alike polls_in wanted test f o.meetings polls named in
    λ i. record { closed = o.closed; meeting = meetings i; polls = all i }

-- what is entered changes no public record
pub entry_unseen : (o : OfficeLists) (at : List ℕ) (entry : Option Entry) (id : List ℕ)
    → public_of (applied_if_any o (option_map (λ e. InMeeting at (Enter e)) entry)) id ≡ public_of o id
entry_unseen o at None id = refl
entry_unseen o at (Some entry) id = unseen_at o (changed (Enter entry)) at id (entered_meeting entry) (entered_polls entry)

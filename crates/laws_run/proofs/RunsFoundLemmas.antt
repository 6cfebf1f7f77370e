-- The meeting that is found after a change.
use Rattle.std.proofs.Common.{◌≡◌, ℕ, Bool, true, false, cond, List, [], ◌∷◌, refl, ap, sym, ◌∙◌, true≢false}
use Rattle.std.specs.Prelude.{Option, Some, None, option_map}
use Rattle.vocabulary.specs.Names.{same_name}
use Rattle.desk_words.proofs.WordRowLemmas.{same_name-true, same_name-refl}
use Rattle.desk_words.specs.Changes.{applied_if_any, change_at, change_meeting, changed, entered}
use Rattle.desk_words.specs.Finding.{meeting_named}
use Rattle.desk_words.specs.Sessions.{last_later, open_there}
use Rattle.desk_words.specs.declared.change.Change.TheVariants.{InMeeting}
use Rattle.desk_words.specs.declared.change.Entry.{Entry}
use Rattle.desk_words.specs.declared.change.MeetingChange.{MeetingChange}
use Rattle.desk_words.specs.declared.change.MeetingChange.TheVariants.{Enter, SetOpened}
use Rattle.desk_words.specs.declared.office.MeetingLists.{MeetingLists}
use Rattle.desk_words.specs.declared.office.OfficeLists.{OfficeLists}
use Rattle.desk_words.specs.declared.records.Meeting.{Meeting}
use Rattle.party_views.specs.Views.{meeting_at, public_in, public_of}
use Rattle.meeting_core.proofs.OfficePreserved.{entered_meeting, entered_polls}

-- no change gives a meeting another name
pub changed-name : (change : MeetingChange) (m : MeetingLists) → (changed change m).meeting.id ≡ m.meeting.id
changed-name (Enter entry) m = ap (λ (meeting : Meeting). meeting.id) (entered_meeting entry m)
changed-name (SetOpened moment) m = elim (last_later m.meeting) as (λ found. (open_there moment m.meeting found).id ≡ m.meeting.id) [ None ↦ refl | Some s ↦ refl ]
changed-name other m = refl

-- of three names, the first of which is not the second, but the third, the second is not the third
apart : (name at id : List ℕ) → same_name name at ≡ false → same_name name id ≡ true → same_name at id ≡ false
apart name at id other same =
    (elim (same_name at id) as (λ b. same_name at id ≡ b → b ≡ false) [
      | true ↦ λ is. (
          let one : name ≡ id = same_name-true name id same in
          let two : at ≡ id = same_name-true at id is in
          let both : same_name name at ≡ true = (λ i. same_name (one i) (two i)) ∙ same_name-refl id in
          absurd (true≢false (sym both ∙ other)))
      | false ↦ λ is. refl
    ]) refl

-- the meeting of a name after a change of that of another, or of the same name
pub found-changed : (f : MeetingLists → MeetingLists) (at id : List ℕ) (meetings : List MeetingLists) → ((m : MeetingLists) → (f m).meeting.id ≡ m.meeting.id)
    → meeting_named (change_at f at meetings) id ≡ cond (same_name at id) (option_map f (meeting_named meetings id)) (meeting_named meetings id)
found-changed f at id [] named =
    elim (same_name at id) as (λ b. None ≡ cond b (option_map f None) None) [ true ↦ refl | false ↦ refl ]
found-changed f at id (x ∷ xs) named =
    let rest = meeting_named xs id in
    (elim (same_name x.meeting.id at) as (λ b. same_name x.meeting.id at ≡ b → meeting_named (cond b (f x ∷ xs) (x ∷ change_at f at xs)) id
    ≡ cond (same_name at id) (option_map f (meeting_named (x ∷ xs) id)) (meeting_named (x ∷ xs) id)) [
      | true ↦ λ is. here (same_name-true x.meeting.id at is)
      | false ↦ λ other. (elim (same_name x.meeting.id id) as (λ w. same_name x.meeting.id id ≡ w → cond w (Some x) (meeting_named (change_at f at xs) id)
          ≡ cond (same_name at id) (option_map f (cond w (Some x) rest)) (cond w (Some x) rest)) [
            | true ↦ λ wanted. ap (λ b. cond b (Some (f x)) (Some x)) (sym (apart x.meeting.id at id other wanted))
            | false ↦ λ unwanted. found-changed f at id xs named
          ]) refl
    ]) refl
  where
    both : (b : Bool) (rest : Option MeetingLists) → cond b (Some (f x)) rest ≡ cond b (option_map f (cond b (Some x) rest)) (cond b (Some x) rest)
    both true rest = refl
    both false rest = refl

    here : x.meeting.id ≡ at → meeting_named (f x ∷ xs) id ≡ cond (same_name at id) (option_map f (meeting_named (x ∷ xs) id)) (meeting_named (x ∷ xs) id)
    here e =
        ap (λ name. cond (same_name name id) (Some (f x)) (meeting_named xs id)) (named x ∙ e) ∙ both (same_name at id) (meeting_named xs id)
        ∙ ap (λ name. cond (same_name at id) (option_map f (cond (same_name name id) (Some x) (meeting_named xs id))) (cond (same_name name id) (Some x) (meeting_named xs id))) (sym e)

-- what is seen alike of a meeting before and after a change is seen alike of the one that is found
pub view-changed : {Y : Type 0} (view : Option MeetingLists → Y) (o : OfficeLists) (f : MeetingLists → MeetingLists) (at id : List ℕ)
    → ((m : MeetingLists) → (f m).meeting.id ≡ m.meeting.id) → ((m : MeetingLists) → view (Some (f m)) ≡ view (Some m))
    → view (meeting_at (change_meeting f at o) id) ≡ view (meeting_at o id)
view-changed view o f at id named same =
    ap view (found-changed f at id o.meetings named)
    ∙ elim (same_name at id) as (λ b. view (cond b (option_map f (meeting_at o id)) (meeting_at o id)) ≡ view (meeting_at o id)) [
      | true ↦ elim (meeting_at o id) as (λ found. view (option_map f found) ≡ view found) [ None ↦ refl | Some m ↦ same m ]
      | false ↦ refl
    ]

-- what is entered into a meeting, if anything is
abbrev pub after_entry : OfficeLists → List ℕ → Option Entry → OfficeLists
after_entry o at entry = applied_if_any o (option_map (λ e. InMeeting at (Enter e)) entry)

pub entered-name : (e : Entry) (m : MeetingLists) → (entered e m).meeting.id ≡ m.meeting.id
entered-name e m = ap (λ (meeting : Meeting). meeting.id) (entered_meeting e m)

-- changes no public record
pub public-entry : (o : OfficeLists) (at : List ℕ) (entry : Option Entry) (id : List ℕ) → public_of (after_entry o at entry) id ≡ public_of o id
public-entry o at None id = refl
public-entry o at (Some e) id =
    view-changed (λ found. public_in found o.closed) o (entered e) at id (entered-name e)
    (λ m i. record { closed = o.closed; meeting = Some (entered_meeting e m i); polls = entered_polls e m i })

-- What an office decides it can make.
use Rattle.std.proofs.Common.{◌≡◌, ℕ, Bool, true, false, List, Option, Some, None, is_some, refl, sym, ap, ◌∙◌}
use Rattle.std.specs.Prelude.{option_map}
use Rattle.desk_words.specs.Finding.{meeting_named}
use Rattle.desk_words.specs.KeyRows.{same_keys}
use Rattle.desk_words.specs.Rulings.{Ruling, in_found, loaded}
use Rattle.desk_words.specs.declared.caller.Caller.{Caller}
use Rattle.desk_words.specs.declared.caller.Caller.TheVariants as caller
use Rattle.desk_words.specs.declared.caller.KeyRow.{KeyRow}
use Rattle.desk_words.specs.declared.change.Change.{Change}
use Rattle.desk_words.specs.declared.change.Change.TheVariants.{InMeeting, SetClosedDays, SetKeys}
use Rattle.desk_words.specs.declared.change.MeetingChange.{MeetingChange}
use Rattle.desk_words.specs.declared.change.MeetingChange.TheVariants.{Enter}
use Rattle.desk_words.specs.declared.office.MeetingLists.{MeetingLists}
use Rattle.desk_words.specs.declared.office.OfficeLists.{OfficeLists}
use Rattle.desk_words.specs.declared.request.Call.{Call}
use Rattle.desk_words.specs.declared.request.DeskRequest.{DeskRequest}
use Rattle.desk_words.specs.declared.request.DeskRequest.TheVariants.{CallMeeting, ClosedDays, Keys}
use Rattle.desk_words.specs.declared.request.Request.{Request}
use Rattle.desk_words.specs.declared.request.Request.TheVariants as asked
use Rattle.caller_view.specs.PartyRulings.{ruling_for}
use Rattle.party_views.specs.Views.{meeting_at, own_of, public_of}
use Rattle.office_decisions.specs.OfficeRulings.{desk_ruling, ruling_on}
use Rattle.office_decisions.specs.DeskRulings.{same_days}
use Rattle.desk_words.specs.Changes.{is_placed}
use Rattle.meeting_core.specs.Decisions.{DecidedChangesCanBeMade}
use Rattle.meeting_core.specs.Step.{decided, ruling}
use Rattle.meeting_core.proofs.RulingLemmas.{change_of}

-- a change, if there is one, is made in a meeting that stands
abbrev is_placed_if_any : OfficeLists → Option Change → Bool
is_placed_if_any office None = true
is_placed_if_any office (Some change) = is_placed office change

loaded_placed : (office : OfficeLists) (same : Bool) (change : Change) → is_placed office change ≡ true → is_placed_if_any office (loaded same change).change ≡ true
loaded_placed office true change h = refl
loaded_placed office false change h = h

desk_placed : (office : OfficeLists) (keys : List KeyRow) (closed : List ℕ) (meetings : List MeetingLists) (what : DeskRequest) → is_placed_if_any office (desk_ruling keys closed meetings what).accepted.change ≡ true
desk_placed office keys closed meetings (CallMeeting new) = refl
desk_placed office keys closed meetings (ClosedDays days) = loaded_placed office (same_days closed days) (SetClosedDays days) refl
desk_placed office keys closed meetings (Keys rows) = loaded_placed office (same_keys keys rows) (SetKeys rows) refl

some_placed : {C : Type 0} (office : OfficeLists) (id : List ℕ) (larger : C → MeetingChange) (change : Option C) → is_some (meeting_named office.meetings id) ≡ true
    → is_placed_if_any office (option_map (λ c. InMeeting id (larger c)) change) ≡ true
some_placed office id larger None h = refl
some_placed office id larger (Some c) h = h

-- where a meeting is found, it stands
found_placed : {X C : Type 0} (office : OfficeLists) (id : List ℕ) (larger : C → MeetingChange) (found : Option X) (f : X → Ruling C) → is_some found ≡ is_some (meeting_named office.meetings id)
    → is_placed_if_any office (option_map (λ c. InMeeting id (larger c)) (in_found found f).accepted.change) ≡ true
found_placed office id larger None f h = refl
found_placed office id larger (Some x) f h = some_placed office id larger (f x).accepted.change (sym h)

same_found : {X Y : Type 0} (f : X → Y) (o : Option X) → is_some (option_map f o) ≡ is_some o
same_found f None = refl
same_found f (Some x) = refl

accepted_placed : (office : OfficeLists) (now : ℕ) (who : Caller) (request : Request) → is_placed_if_any office (ruling office now who request).accepted.change ≡ true
accepted_placed office now caller.Office (asked.Desk what) = desk_placed office office.keys office.closed office.meetings what
accepted_placed office now caller.Office (asked.Office meeting what) = found_placed office meeting (λ c. c) (meeting_at office meeting) (ruling_on office.closed now what) refl
accepted_placed office now caller.Office (asked.Party meeting what) = refl
accepted_placed office now (caller.Party party) (asked.Party meeting what) =
    let public = public_of office meeting in
    let own = own_of office party meeting now in
    found_placed office meeting Enter public.meeting (ruling_for public own now what) (same_found (λ (m : MeetingLists). m.meeting) (meeting_at office meeting))
accepted_placed office now (caller.Party party) request = refl

-- the change that is decided is made in a meeting that stands
decided_placed : (office : OfficeLists) (call : Call) (change : Change) → (decided office call).change ≡ Some change → is_placed office change ≡ true
decided_placed office call change h =
    sym (ap (is_placed_if_any office) h)
    ∙ change_of (λ found. is_placed_if_any office found ≡ true) (ruling office call.moment call.caller call.request) refl (λ _. accepted_placed office call.moment call.caller call.request)

-- so the office can make it
pub can_be_made : DecidedChangesCanBeMade
can_be_made office call change h before later = rw (before, decided_placed office call change h, later) refl

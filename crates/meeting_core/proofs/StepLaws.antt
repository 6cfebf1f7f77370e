-- The laws of the step.
use Rattle.std.proofs.Common.{◌≡◌, ℕ, ◌||◌, true, List, refl, ap}
use Rattle.std.specs.Prelude.{Option, Some, None, option_map, is_some}
use Rattle.desk_words.specs.Rulings.{Ruling, in_found, is_refused, loaded, refusal_in, map_ruling_change, ruled_answer}
use Rattle.desk_words.specs.declared.answer.Answer.{Answer}
use Rattle.desk_words.specs.declared.caller.Caller.{Caller}
use Rattle.desk_words.specs.declared.caller.Caller.TheVariants as caller
use Rattle.desk_words.specs.declared.change.Change.{Change}
use Rattle.desk_words.specs.declared.change.Change.TheVariants.{InMeeting, SetClosedDays, SetKeys}
use Rattle.desk_words.specs.declared.change.MeetingChange.{MeetingChange}
use Rattle.desk_words.specs.declared.change.MeetingChange.TheVariants.{SetRegister}
use Rattle.desk_words.specs.declared.office.OfficeLists.{OfficeLists}
use Rattle.desk_words.specs.declared.office.MeetingLists.{MeetingLists}
use Rattle.desk_words.specs.declared.reply.Reply.TheVariants as reply
use Rattle.desk_words.specs.declared.request.Call.{Call}
use Rattle.desk_words.specs.declared.request.DeskRequest.TheVariants as desk
use Rattle.desk_words.specs.declared.request.NewRegister.{NewRegister}
use Rattle.desk_words.specs.declared.request.OfficeRequest.TheVariants.{LoadRegister, Start, Close}
use Rattle.desk_words.specs.declared.request.Request.{Request}
use Rattle.desk_words.specs.declared.request.Request.TheVariants as asked
use Rattle.vocabulary.specs.declared.refusal.Refusal.{Refusal}
use Rattle.party_views.specs.Views.{meeting_at}
use Rattle.office_decisions.specs.OfficeRulings.{is_register_held, is_some_at_once, ruling_on}
use Rattle.office_decisions.specs.RequestLimits.{if_any}
use Rattle.desk_words.specs.Changes.{applied_if_any, sets_fields}
use Rattle.meeting_core.specs.Step.{decided, is_at_once_to, is_start_or_close, needs_no_memory, ruling, stepped}
use Rattle.meeting_core.proofs.RulingLemmas.{change_of, quiet_of}
use Rattle.meeting_core.proofs.Rulings.{sound_ruling}

-- ---- refusals

quiet : (o : OfficeLists) (call : Call) → is_refused (decided o call) ≡ true → (decided o call).change ≡ None
quiet o call h = quiet_of (ruling o call.moment call.caller call.request) (sound_ruling o call.moment call.caller call.request) h

-- a refused call has no change
pub no_change : (o : OfficeLists) (call : Call) (r : Refusal) → (decided o call).reply ≡ reply.Refused r → (decided o call).change ≡ None
no_change o call r h = quiet o call (ap (λ x. is_some (refusal_in x)) h)

-- and the office after it is the office before it
pub office_left : (o : OfficeLists) (call : Call) (r : Refusal) → (decided o call).reply ≡ reply.Refused r → stepped o call ≡ o
office_left o call r h = ap (applied_if_any o) (no_change o call r h)

pub at_once_refused : (refusal : Option Refusal) → is_some_at_once refusal ≡ true → is_some refusal ≡ true
at_once_refused None h = h
at_once_refused (Some r) h = refl

at_once_by : (who : Caller) (answer : Answer Change) → is_at_once_to who answer ≡ true → is_refused answer ≡ true
at_once_by caller.Office answer h = at_once_refused (refusal_in answer.reply) h
at_once_by (caller.Party party) answer h = absurd (cc)

-- what is refused at once has no change that memory could be refused to
pub at_once_quiet : (o : OfficeLists) (call : Call) → is_at_once_to call.caller (decided o call) ≡ true → (decided o call).change ≡ None
at_once_quiet o call h = quiet o call (at_once_by call.caller (decided o call) h)

-- ---- limits of what a party changes, and what sets fields alone

sets_found : (found : Option MeetingLists) (id : List ℕ) (f : MeetingLists → Ruling MeetingChange)
    → ((m : MeetingLists) → if_any sets_fields (option_map (InMeeting id) (f m).accepted.change) ≡ true)
    → if_any sets_fields (ruled_answer (map_ruling_change (InMeeting id) (in_found found f))).change ≡ true
sets_found None id f h = refl
sets_found (Some m) id f h =
    change_of (λ change. if_any sets_fields change ≡ true) (map_ruling_change (InMeeting id) (in_found (Some m) f)) refl (λ _. h m)

-- what is held already changes nothing when it is loaded again
sets_held : (o : OfficeLists) (now : ℕ) (found : Option MeetingLists) (id : List ℕ) (new : NewRegister) → is_register_held found (LoadRegister new) ≡ true
    → if_any sets_fields (ruled_answer (map_ruling_change (InMeeting id) (in_found found (ruling_on o.closed now (LoadRegister new))))).change ≡ true
sets_held o now None id new h = absurd (cc)
sets_held o now (Some m) id new h =
    change_of (λ change. if_any sets_fields change ≡ true) (map_ruling_change (InMeeting id) (in_found (Some m) (ruling_on o.closed now (LoadRegister new)))) refl
    (λ _. ap (λ same. if_any sets_fields (option_map (InMeeting id) (loaded same (SetRegister new.rows)).change)) h)

-- what needs no memory sets fields alone
pub sets_alone : (o : OfficeLists) (now : ℕ) (who : Caller) (request : Request) → needs_no_memory o who request ≡ true
    → if_any sets_fields (ruled_answer (ruling o now who request)).change ≡ true
sets_alone o now caller.Office (asked.Office id (Start resolution)) h = sets_found (meeting_at o id) id (ruling_on o.closed now (Start resolution)) (λ m. refl)
sets_alone o now caller.Office (asked.Office id (Close resolution)) h = sets_found (meeting_at o id) id (ruling_on o.closed now (Close resolution)) (λ m. refl)
sets_alone o now caller.Office (asked.Office id (LoadRegister new)) h = sets_held o now (meeting_at o id) id new h
sets_alone o now caller.Office (asked.Office id what) h =
    (elim (meeting_at o id) as (λ found. (is_start_or_close what || is_register_held found what) ≡ true → if_any sets_fields (ruled_answer (ruling o now caller.Office (asked.Office id what))).change ≡ true)
    [ None ↦ λ k. absurd (cc) | Some m ↦ λ k. absurd (cc) ]) h
sets_alone o now caller.Office (asked.Desk (desk.ClosedDays days)) h = ap (λ same. if_any sets_fields (loaded same (SetClosedDays days)).change) h
sets_alone o now caller.Office (asked.Desk (desk.Keys rows)) h = ap (λ same. if_any sets_fields (loaded same (SetKeys rows)).change) h
sets_alone o now caller.Office (asked.Desk what) h = absurd (cc)
sets_alone o now caller.Office (asked.Party id what) h = refl
sets_alone o now (caller.Party party) (asked.Party id what) h = absurd (cc)
sets_alone o now (caller.Party party) request h = refl

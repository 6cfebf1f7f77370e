-- What each ruling accepts is no refusal.
use Rattle.std.proofs.Common.{◌≡◌, ℕ, List, refl}
use Rattle.std.specs.Prelude.{None}
use Rattle.desk_words.specs.SameRows.{same_rows}
use Rattle.desk_words.specs.KeyRows.{same_keys}
use Rattle.desk_words.specs.Rulings.{refusal_in}
use Rattle.desk_words.specs.declared.caller.Caller.{Caller}
use Rattle.desk_words.specs.declared.caller.Caller.TheVariants as caller
use Rattle.desk_words.specs.declared.caller.KeyRow.{KeyRow}
use Rattle.desk_words.specs.declared.change.Change.TheVariants.{SetClosedDays, SetKeys, InMeeting}
use Rattle.desk_words.specs.declared.change.MeetingChange.TheVariants.{SetRegister, Enter}
use Rattle.desk_words.specs.declared.office.MeetingLists.{MeetingLists}
use Rattle.desk_words.specs.declared.office.OfficeLists.{OfficeLists}
use Rattle.desk_words.specs.declared.records.Meeting.{Meeting}
use Rattle.desk_words.specs.declared.request.DeskRequest.{DeskRequest}
use Rattle.desk_words.specs.declared.request.DeskRequest.TheVariants.{CallMeeting, ClosedDays, Keys}
use Rattle.desk_words.specs.declared.request.OfficeRequest.{OfficeRequest}
use Rattle.desk_words.specs.declared.request.OfficeRequest.TheVariants.{LoadRegister}
use Rattle.desk_words.specs.declared.request.PartyRequest.{PartyRequest}
use Rattle.desk_words.specs.declared.request.PartyRequest.TheVariants.{Notice}
use Rattle.desk_words.specs.declared.request.Request.{Request}
use Rattle.desk_words.specs.declared.request.Request.TheVariants as asked
use Rattle.caller_view.specs.PartyRulings.{party_ruling, ruling_for}
use Rattle.party_views.specs.Views.{meeting_at, own_of, public_of}
use Rattle.party_views.specs.declared.views.OwnView.{OwnView}
use Rattle.party_views.specs.Public.{PublicRecord}
use Rattle.office_decisions.specs.OfficeRulings.{desk_ruling, office_ruling, ruling_on}
use Rattle.office_decisions.specs.DeskRulings.{same_days}
use Rattle.meeting_core.specs.Step.{ruling}
use Rattle.meeting_core.proofs.RulingLemmas.{IsSound, loaded_accepted, sound_in_found, sound_within}

party_accepts : (public : PublicRecord) (own : OwnView) (now : ℕ) (what : PartyRequest) (meeting : Meeting)
    → refusal_in (ruling_for public own now what meeting).accepted.reply ≡ None
party_accepts public own now Notice meeting = refl
party_accepts public own now what meeting = refl

office_accepts : (closed : List ℕ) (now : ℕ) (what : OfficeRequest) (m : MeetingLists) → refusal_in (ruling_on closed now what m).accepted.reply ≡ None
office_accepts closed now (LoadRegister new) m = loaded_accepted (same_rows m.register new.rows) (SetRegister new.rows)
office_accepts closed now what m = refl

desk_accepts : (keys : List KeyRow) (closed : List ℕ) (meetings : List MeetingLists) (what : DeskRequest)
    → refusal_in (desk_ruling keys closed meetings what).accepted.reply ≡ None
desk_accepts keys closed meetings (CallMeeting new) = refl
desk_accepts keys closed meetings (ClosedDays days) = loaded_accepted (same_days closed days) (SetClosedDays days)
desk_accepts keys closed meetings (Keys rows) = loaded_accepted (same_keys keys rows) (SetKeys rows)

pub sound_ruling : (o : OfficeLists) (now : ℕ) (who : Caller) (request : Request) → IsSound (ruling o now who request)
sound_ruling o now caller.Office (asked.Desk what) = record { sound = λ _. desk_accepts o.keys o.closed o.meetings what }
sound_ruling o now caller.Office (asked.Office meeting what) =
    let s = sound_within (InMeeting meeting) (office_ruling o.closed (meeting_at o meeting) now what)
    (sound_in_found (meeting_at o meeting) (ruling_on o.closed now what) (office_accepts o.closed now what)) in
    record { sound = s.sound }
sound_ruling o now caller.Office (asked.Party meeting what) = record { sound = λ e. absurd (cc) }
sound_ruling o now (caller.Party party) (asked.Party meeting what) =
    let public = public_of o meeting in
    let own = own_of o party meeting now in
    let s = sound_within (λ entry. InMeeting meeting (Enter entry)) (party_ruling public own now what)
    (sound_in_found public.meeting (ruling_for public own now what) (party_accepts public own now what)) in
    record { sound = s.sound }
sound_ruling o now (caller.Party party) request = record { sound = λ e. absurd (cc) }

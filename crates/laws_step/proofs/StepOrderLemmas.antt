-- Each ruling refuses in the one order, by the first condition that holds.
use Rattle.std.proofs.Common.{◌≡◌, ℕ, true, List, refl}
use Rattle.std.specs.Prelude.{None, Option, Some}
use Rattle.desk_words.specs.Refusals.{first_refusal}
use Rattle.desk_words.specs.Rulings.{refusal_in, Ruling, in_found, ruled_answer, refused_or}
use Rattle.desk_words.specs.declared.caller.Caller.{Caller}
use Rattle.desk_words.specs.declared.caller.Caller.TheVariants as caller
use Rattle.desk_words.specs.declared.caller.KeyRow.{KeyRow}
use Rattle.desk_words.specs.declared.office.MeetingLists.{MeetingLists}
use Rattle.desk_words.specs.declared.office.OfficeLists.{OfficeLists}
use Rattle.desk_words.specs.declared.records.Meeting.{Meeting}
use Rattle.desk_words.specs.declared.request.DeskRequest.{DeskRequest}
use Rattle.desk_words.specs.declared.request.DeskRequest.TheVariants.{CallMeeting}
use Rattle.desk_words.specs.declared.request.OfficeRequest.{OfficeRequest}
use Rattle.desk_words.specs.declared.request.OfficeRequest.TheVariants.{LoadRegister}
use Rattle.desk_words.specs.declared.request.PartyRequest.{PartyRequest}
use Rattle.desk_words.specs.declared.request.PartyRequest.TheVariants.{Notice}
use Rattle.desk_words.specs.declared.request.Request.{Request}
use Rattle.desk_words.specs.declared.request.Request.TheVariants as asked
use Rattle.caller_view.specs.PartyRulings.{ruling_for}
use Rattle.party_views.specs.Views.{meeting_at, own_of, public_of}
use Rattle.party_views.specs.declared.views.OwnView.{OwnView}
use Rattle.party_views.specs.Public.{PublicRecord}
use Rattle.office_decisions.specs.OfficeRulings.{desk_ruling, ruling_on}
use Rattle.meeting_core.specs.Step.{ruling}
use Rattle.desk_words.specs.declared.answer.Answer.{Answer}
use Rattle.vocabulary.specs.declared.refusal.Refusal.{Refusal}
use Rattle.meeting_core.proofs.RulingLemmas.{IsSound}
use Rattle.meeting_core.proofs.Rulings.{sound_ruling}
use Rattle.laws_step.specs.RefusalLaws.{ConditionsStandInOrder, TheLowestRefusalIsAnswered, are_in_order, ascend_from}

lowest_by : {C : Type 0} (refusal : Option Refusal) (accepted : Answer C) → (refusal ≡ None → refusal_in accepted.reply ≡ None)
    → refusal_in (refused_or refusal accepted).reply ≡ refusal
lowest_by None accepted h = h refl
lowest_by (Some r) accepted h = refl

-- the answer is refused by the first condition that holds
lowest_of : {C : Type 0} (ruling : Ruling C) → IsSound ruling → refusal_in (ruled_answer ruling).reply ≡ first_refusal ruling.cases
lowest_of ruling s = lowest_by (first_refusal ruling.cases) ruling.accepted s.sound

-- ---- the one order

order_in_found : {X C : Type 0} (found : Option X) (f : X → Ruling C) → ((x : X) → ascend_from 8 (f x).cases ≡ true) → ascend_from 7 (in_found found f).cases ≡ true
order_in_found None f h = refl
order_in_found (Some x) f h = h x

party_order : (public : PublicRecord) (own : OwnView) (now : ℕ) (what : PartyRequest) (meeting : Meeting)
    → ascend_from 8 (ruling_for public own now what meeting).cases ≡ true
party_order public own now Notice meeting = refl
party_order public own now what meeting = refl

office_order : (closed : List ℕ) (now : ℕ) (what : OfficeRequest) (m : MeetingLists) → ascend_from 8 (ruling_on closed now what m).cases ≡ true
office_order closed now (LoadRegister new) m = refl
office_order closed now what m = refl

desk_order : (keys : List KeyRow) (closed : List ℕ) (meetings : List MeetingLists) (what : DeskRequest) → ascend_from 7 (desk_ruling keys closed meetings what).cases ≡ true
desk_order keys closed meetings (CallMeeting new) = refl
desk_order keys closed meetings what = refl

ordered_ruling : (o : OfficeLists) (now : ℕ) (who : Caller) (request : Request) → are_in_order (ruling o now who request).cases ≡ true
ordered_ruling o now caller.Office (asked.Desk what) = desk_order o.keys o.closed o.meetings what
ordered_ruling o now caller.Office (asked.Office meeting what) = order_in_found (meeting_at o meeting) (ruling_on o.closed now what) (office_order o.closed now what)
ordered_ruling o now caller.Office (asked.Party meeting what) = refl
ordered_ruling o now (caller.Party party) (asked.Party meeting what) =
    let public = public_of o meeting in
    let own = own_of o party meeting now in
    order_in_found public.meeting (ruling_for public own now what) (party_order public own now what)
ordered_ruling o now (caller.Party party) request = refl

-- ---- of calls

pub lowest : TheLowestRefusalIsAnswered
lowest o call = lowest_of (ruling o call.moment call.caller call.request) (sound_ruling o call.moment call.caller call.request)

pub in_order : ConditionsStandInOrder
in_order o call = ordered_ruling o call.moment call.caller call.request

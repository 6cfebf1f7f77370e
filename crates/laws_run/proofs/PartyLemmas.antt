-- What a party's call enters, and of which calls it is the same in two offices.
use Rattle.std.proofs.Common.{◌≡◌, ℕ, Bool, true, false, cond, List, [], ◌∷◌, ◌++◌, length, filter, refl, ap, sym, ◌∙◌}
use Rattle.std.specs.Prelude.{Option, Some, None}
use Rattle.seq.proofs.Booleans.{neither_first}
use Rattle.vocabulary.specs.Names.{same_name}
use Rattle.desk_words.specs.Office.{implies}
use Rattle.desk_words.specs.Rulings.{in_found, noted, ruled_answer, map_change}
use Rattle.desk_words.specs.Sessions.{last_number}
use Rattle.desk_words.specs.declared.answer.Answer.{Answer}
use Rattle.desk_words.specs.declared.caller.Caller.TheVariants as caller
use Rattle.desk_words.specs.declared.change.Change.TheVariants.{InMeeting}
use Rattle.desk_words.specs.declared.change.Entry.{Entry}
use Rattle.desk_words.specs.declared.change.Entry.TheVariants as entry
use Rattle.desk_words.specs.declared.change.MeetingChange.TheVariants.{Enter}
use Rattle.desk_words.specs.declared.office.MeetingLists.{MeetingLists}
use Rattle.desk_words.specs.declared.office.OfficeLists.{OfficeLists}
use Rattle.desk_words.specs.declared.records.CastKind.TheVariants.{AsInstructed}
use Rattle.desk_words.specs.declared.records.Meeting.{Meeting}
use Rattle.desk_words.specs.declared.request.PartyRequest.{PartyRequest}
use Rattle.desk_words.specs.declared.request.PartyRequest.TheVariants.{Notice, Mine, Appoint, End, Authorise, Attend, Demand, Cast, Instructed}
use Rattle.desk_words.specs.declared.request.Request.TheVariants as asked
use Rattle.proxy_rules.specs.Holdings.{is_ended_of, is_given_by}
use Rattle.proxy_rules.specs.Parties.{is_authority_of}
use Rattle.caller_view.specs.PartyRulings.{party_ruling, ruling_for}
use Rattle.caller_view.specs.AppointmentRulings.{appointment_of, ending_of}
use Rattle.caller_view.specs.AttendanceRulings.{authority_of, demand_mark, gave_authority, is_present, own_demanded, presence_of}
use Rattle.caller_view.specs.CastRulings.{block_of, cast_of}
use Rattle.party_views.specs.OwnViews.{own_from}
use Rattle.party_views.specs.Public.{PublicRecord}
use Rattle.party_views.specs.RowsRead.{given_read, own_rows_part, own_rows_read}
use Rattle.party_views.specs.PartyRows.{no_own_rows, own_rows_in}
use Rattle.party_views.specs.declared.reads.Reads.TheVariants.{GivenCount}
use Rattle.party_views.specs.Views.{meeting_at, own_of, public_in, public_of}
use Rattle.party_views.specs.declared.views.OwnView.{OwnView}
use Rattle.meeting_core.specs.Step.{decided}
use Rattle.meeting_core.proofs.RulingLemmas.{change_of, settled_within}
use Rattle.laws_step.proofs.StepReadLemmas.{rows_enough}
use Rattle.laws_run.specs.Isolation.{AreIndistinguishable}
use Rattle.laws_run.specs.NearParts.{Near, Part, Viewer, is_near, near_in}
use Rattle.laws_run.specs.Traces.{is_giving, is_shown, names_party}
use Rattle.laws_run.proofs.RunsPartLemmas.{authorising-near, counting-near, giving-near, is_near_some, near_some, rows_from, rows-near}

-- the answer to a party in a meeting, before the meeting of its change is set
abbrev pub answer_to : OfficeLists → List ℕ → ℕ → List ℕ → PartyRequest → Answer Entry
answer_to o party now at what = ruled_answer (party_ruling (public_of o at) (own_of o party at now) now what)

pub by-party : (o : OfficeLists) (party : List ℕ) (now : ℕ) (at : List ℕ) (what : PartyRequest)
    → decided o (record { moment = now; caller = caller.Party party; request = asked.Party at what }) ≡ map_change (λ e. InMeeting at (Enter e)) (answer_to o party now at what)
by-party o party now at what = settled_within (λ e. InMeeting at (Enter e)) (party_ruling (public_of o at) (own_of o party at now) now what)

-- own things are the party's
pub own-party : (o : OfficeLists) (party at : List ℕ) (now : ℕ) → (own_of o party at now).party ≡ party
own-party o party at now =
    elim (meeting_at o at) as (λ found. (own_from (own_rows_in found party) (public_in found o.closed) now).party ≡ party) [ None ↦ refl | Some m ↦ refl ]

-- ---- what is entered

-- what a party's request enters where it is accepted
abbrev pub the_entry : Meeting → OwnView → ℕ → PartyRequest → Option Entry
the_entry meeting own now Notice = None
the_entry meeting own now Mine = None
the_entry meeting own now (Appoint new) = Some (entry.Appointment (appointment_of own now new))
the_entry meeting own now (End number) = Some (entry.Ending (ending_of own now number))
the_entry meeting own now (Authorise person) = Some (entry.Authority (authority_of own now person))
the_entry meeting own now Attend = Some (entry.Presence (presence_of meeting own now))
the_entry meeting own now (Demand resolution) = Some (entry.Demand (demand_mark meeting own now resolution))
the_entry meeting own now (Cast new) = Some (entry.Cast (cast_of own now new.resolution (block_of new)))
the_entry meeting own now (Instructed resolution) = Some (entry.Cast (cast_of own now resolution AsInstructed))

pub noted-either : {C : Type 0} (P : Option C → Type 0) (stands : Bool) (change : C) → P None → P (Some change) → P (noted stands change).change
noted-either P true change none some = none
noted-either P false change none some = some

accepted-entry : (P : Option Entry → Type 0) (public : PublicRecord) (own : OwnView) (now : ℕ) (meeting : Meeting) (what : PartyRequest)
    → P None → P (the_entry meeting own now what) → P (ruling_for public own now what meeting).accepted.change
accepted-entry P public own now meeting Notice none some = none
accepted-entry P public own now meeting Mine none some = none
accepted-entry P public own now meeting (Authorise person) none some = noted-either P (gave_authority own person) (entry.Authority (authority_of own now person)) none some
accepted-entry P public own now meeting Attend none some = noted-either P (is_present meeting own) (entry.Presence (presence_of meeting own now)) none some
accepted-entry P public own now meeting (Demand resolution) none some = noted-either P (own_demanded meeting own resolution) (entry.Demand (demand_mark meeting own now resolution)) none some
accepted-entry P public own now meeting what none some = some

-- what holds of nothing, and of what is entered in any meeting where the request is accepted, holds of what is entered
pub entry-of : (P : Option Entry → Type 0) (public : PublicRecord) (own : OwnView) (now : ℕ) (what : PartyRequest)
    → P None → ((meeting : Meeting) → P (the_entry meeting own now what)) → P (ruled_answer (party_ruling public own now what)).change
entry-of P public own now what none some =
    elim (public.meeting) as (λ found. P (ruled_answer (in_found found (ruling_for public own now what))).change) [
      | None ↦ none
      | Some meeting ↦ change_of P (in_found (Some meeting) (ruling_for public own now what)) none (λ _. accepted-entry P public own now meeting what none (some meeting))
    ]

-- what is not shown to a viewer changes nothing near it
pub unseen-entry : (viewer : Viewer) (own : OwnView) (now : ℕ) (at : List ℕ) (what : PartyRequest) (n : Near)
    → is_shown viewer own.party (asked.Party at what) ≡ false → (meeting : Meeting) → near_some viewer (the_entry meeting own now what) n ≡ n
unseen-entry viewer own now at Notice n h meeting = refl
unseen-entry viewer own now at Mine n h meeting = refl
unseen-entry viewer own now at (Appoint new) n h meeting = ap (λ b. record n { appointments = cond b (n.appointments ++ appointment_of own now new ∷ []) n.appointments }) h
unseen-entry viewer own now at (End number) n h meeting = ap (λ b. record n { endings = cond b (n.endings ++ ending_of own now number ∷ []) n.endings }) h
unseen-entry viewer own now at (Authorise person) n h meeting = ap (λ b. record n { authorities = cond b (n.authorities ++ authority_of own now person ∷ []) n.authorities }) h
unseen-entry viewer own now at Attend n h meeting =
    let other = neither_first (same_name own.party viewer.party) false h in
    ap (λ b. record n { presences = cond b (n.presences ++ last_number meeting ∷ []) n.presences }) other
unseen-entry viewer own now at (Demand resolution) n h meeting =
    let other = neither_first (same_name own.party viewer.party) false h in
    ap (λ b. record n { demands = cond b (n.demands ++ demand_mark meeting own now resolution ∷ []) n.demands }) other
unseen-entry viewer own now at (Cast new) n h meeting =
    let other = neither_first (same_name own.party viewer.party) false h in
    ap (λ b. record n { casts = cond b (n.casts ++ cast_of own now new.resolution (block_of new) ∷ []) n.casts }) other
unseen-entry viewer own now at (Instructed resolution) n h meeting =
    let other = neither_first (same_name own.party viewer.party) false h in
    ap (λ b. record n { casts = cond b (n.casts ++ cast_of own now resolution AsInstructed ∷ []) n.casts }) other

-- what names or authorises a viewer is of one who is near, where the call is
pub sourced-what : (viewer : Viewer) (own : OwnView) (now : ℕ) (at : List ℕ) (what : PartyRequest)
    → implies (names_party viewer.party (asked.Party at what)) (is_near viewer own.party) ≡ true → (meeting : Meeting) → is_near_some viewer (the_entry meeting own now what) ≡ true
sourced-what viewer own now at (Appoint new) h meeting = h
sourced-what viewer own now at (Authorise person) h meeting = h
sourced-what viewer own now at what h meeting = refl

-- ---- the same answer in two offices

-- to the viewer
pub own-answer : (viewer : Viewer) (one other : OfficeLists) (now : ℕ) (at : List ℕ) (what : PartyRequest) → AreIndistinguishable viewer one other
    → answer_to one viewer.party now at what ≡ answer_to other viewer.party now at what
own-answer viewer one other now at what alike =
    let public : public_of one at ≡ public_of other at = ap (λ (part : Part). part.public) (alike.parts at) in
    let near : near_in viewer (meeting_at one at) ≡ near_in viewer (meeting_at other at) = ap (λ (part : Part). part.near) (alike.parts at) in
    let rows : own_rows_in (meeting_at one at) viewer.party ≡ own_rows_in (meeting_at other at) viewer.party =
    sym (rows-near viewer (meeting_at one at) (alike.first at)) ∙ ap (rows_from viewer) near ∙ rows-near viewer (meeting_at other at) (alike.second at) in
    λ i. ruled_answer (party_ruling (public i) (own_from (rows i) (public i) now) now what)

-- the rows that are read are the party's
party-in : (found : Option MeetingLists) (party : List ℕ) → (own_rows_in found party).party ≡ party
party-in None party = refl
party-in (Some m) party = refl

-- what is read of the appointments and endings of one who is near
given-read : (viewer : Viewer) (one other : Option MeetingLists) (party : List ℕ) → is_near viewer party ≡ true → near_in viewer one ≡ near_in viewer other
    → given_read (own_rows_in one party) ≡ given_read (own_rows_in other party)
given-read viewer one other party near same =
    let named = λ (found : Option MeetingLists). ap (λ who. record (no_own_rows who) { given = (own_rows_in found party).given; ended = (own_rows_in found party).ended }) (party-in found party) in
    named one ∙ sym (giving-near viewer one party near)
    ∙ ap (λ (n : Near). record (no_own_rows party) { given = filter (is_given_by party) n.appointments; ended = filter (is_ended_of party) n.endings }) same
    ∙ giving-near viewer other party near ∙ sym (named other)

-- what is read of how many appointments one who is near gave
count-read : (viewer : Viewer) (one other : Option MeetingLists) (party : List ℕ) → is_near viewer party ≡ true → near_in viewer one ≡ near_in viewer other
    → own_rows_part GivenCount (own_rows_in one party) ≡ own_rows_part GivenCount (own_rows_in other party)
count-read viewer one other party near same =
    let named = λ (found : Option MeetingLists). ap (λ who. record (no_own_rows who) { given_count = (own_rows_in found party).given_count }) (party-in found party) in
    named one ∙ sym (counting-near viewer one party near)
    ∙ ap (λ (n : Near). record (no_own_rows party) { given_count = length (filter (is_given_by party) n.appointments) }) same
    ∙ counting-near viewer other party near ∙ sym (named other)

-- what is read of what one who is near gave
read-near : (viewer : Viewer) (one other : Option MeetingLists) (party : List ℕ) (what : PartyRequest) → is_near viewer party ≡ true → is_giving what ≡ true
    → near_in viewer one ≡ near_in viewer other → own_rows_read what (own_rows_in one party) ≡ own_rows_read what (own_rows_in other party)
read-near viewer one other party (Appoint new) near h same = count-read viewer one other party near same
read-near viewer one other party (End number) near h same = given-read viewer one other party near same
read-near viewer one other party (Authorise person) near h same =
    let named = λ (found : Option MeetingLists). ap (λ who. record (no_own_rows who) { persons = (own_rows_in found party).persons }) (party-in found party) in
    named one ∙ sym (authorising-near viewer one party near)
    ∙ ap (λ (n : Near). record (no_own_rows party) { persons = filter (is_authority_of party) n.authorities }) same
    ∙ authorising-near viewer other party near ∙ sym (named other)
read-near viewer one other party what near h same = absurd (cc)

-- to a party that is near the viewer, of what it gives
pub source-answer : (viewer : Viewer) (one other : OfficeLists) (party : List ℕ) (now : ℕ) (at : List ℕ) (what : PartyRequest) → AreIndistinguishable viewer one other
    → is_near viewer party ≡ true → is_giving what ≡ true → answer_to one party now at what ≡ answer_to other party now at what
source-answer viewer one other party now at what alike close h =
    let public : public_of one at ≡ public_of other at = ap (λ (part : Part). part.public) (alike.parts at) in
    let near : near_in viewer (meeting_at one at) ≡ near_in viewer (meeting_at other at) = ap (λ (part : Part). part.near) (alike.parts at) in
    let rows = read-near viewer (meeting_at one at) (meeting_at other at) party what close h near in
    sym (rows_enough (own_rows_in (meeting_at one at) party) (public_of one at) now what)
    ∙ (λ i. ruled_answer (party_ruling (public i) (own_from (rows i) (public i) now) now what))
    ∙ rows_enough (own_rows_in (meeting_at other at) party) (public_of other at) now what

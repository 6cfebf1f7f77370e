-- What a list of calls shows to a party: its own calls whole; the calls of the office so far as
-- they are public or touch the party; of others only how its sources name it.
use Rattle.std.specs.Prelude.{Bool, true, false, ◌&&◌, ◌||◌, List, [], ◌∷◌, ◌++◌, Option, Some, None, option_map, if◌then◌else◌}
use Rattle.std.specs.List.{flat_map}
use Rattle.vocabulary.specs.Names.{same_name}
use Rattle.desk_words.specs.Office.{implies}
use Rattle.desk_words.specs.ViewTypes.{MeetingName, Moment, Party}
use Rattle.desk_words.specs.declared.caller.Caller.{Caller}
use Rattle.desk_words.specs.declared.caller.Caller.TheVariants as caller
use Rattle.desk_words.specs.declared.office.OfficeLists.{OfficeLists}
use Rattle.desk_words.specs.declared.records.RegisterRow.{RegisterRow}
use Rattle.desk_words.specs.declared.reply.Reply.{Reply}
use Rattle.desk_words.specs.declared.request.Call.{Call}
use Rattle.desk_words.specs.declared.request.DeskRequest.TheVariants as desk
use Rattle.desk_words.specs.declared.request.OfficeRequest.TheVariants as office
use Rattle.desk_words.specs.declared.request.PartyRequest.{PartyRequest}
use Rattle.desk_words.specs.declared.request.PartyRequest.TheVariants.{Appoint, End, Authorise}
use Rattle.desk_words.specs.declared.request.Request.{Request}
use Rattle.desk_words.specs.declared.request.Request.TheVariants as asked
use Rattle.party_views.specs.Public.{PublicRecord}
use Rattle.party_views.specs.Views.{public_of}
use Rattle.meeting_core.specs.Step.{Run, after_reply}
use Rattle.laws_step.specs.Loads.{Deciding, after_call}
use Rattle.laws_run.specs.NearParts.{Viewer, is_near, is_source, rows_near}

-- the run of a list of calls, each decided in the office after those before it
abbrev pub run_by : Deciding → OfficeLists → List Call → Run
run_by deciding office [] = record { office = office; replies = [] }
run_by deciding office (call ∷ calls) =
    after_reply (deciding office call).reply
    (run_by deciding (after_call deciding office call) calls)

-- the party calls
abbrev pub is_by : Party → Caller → Bool
is_by party caller.Office = false
is_by party (caller.Party other) = same_name other party

-- the replies to a party, among those to a list of calls
abbrev pub replies_to : Party → List Call → List Reply → List Reply
replies_to party [] replies = []
replies_to party (call ∷ calls) [] = []
replies_to party (call ∷ calls) (reply ∷ replies) =
    let later = replies_to party calls replies in
    if is_by party call.caller then reply ∷ later else later

-- a party appoints a proxy, ends an appointment, or authorises a person
abbrev pub is_giving : PartyRequest → Bool
is_giving (Appoint new) = true
is_giving (End number) = true
is_giving (Authorise person) = true
is_giving other = false

-- it is asked in a meeting
abbrev pub gives : Request → Bool
gives (asked.Party meeting what) = is_giving what
gives other = false

-- a call of a party is shown to the viewer: its own, and what its sources give
abbrev pub is_shown : Viewer → Party → Request → Bool
is_shown viewer party request =
    same_name party viewer.party || (gives request && is_source viewer party)

-- what is shown of what the office asks, beside the public records: of a register its moments and
-- the rows of the viewer and its sources, and that the viewer itself is present
pub data ShownRequest : Type 0 where
  Register : MeetingName → Moment → Moment → (Party → Option RegisterRow) → ShownRequest
  Present : MeetingName → ShownRequest
  Public : ShownRequest

-- what is shown of what the office asks at a moment; of keys, and of the presence of another party,
-- nothing at all
abbrev pub shown_request : Viewer → Moment → Request → Option ShownRequest
shown_request viewer now (asked.Desk (desk.Keys rows)) = None
shown_request viewer now (asked.Office meeting (office.LoadRegister new)) =
    Some (Register meeting now new.record_moment (rows_near viewer new.rows))
shown_request viewer now (asked.Office meeting (office.Presence party)) =
    if same_name party viewer.party then Some (Present meeting) else None
shown_request viewer now other = Some Public

-- what is shown of a call: all of it, or what is shown of a call of the office with the public
-- records of all meetings after it
pub data Shown : Type 0 where
  Whole : Call → Shown
  Office : ShownRequest → (MeetingName → PublicRecord) → Shown

-- what is shown of a call by its caller, with the public records after it
abbrev pub shown_by : Viewer → (MeetingName → PublicRecord) → Call → Caller → Option Shown
shown_by viewer after call caller.Office =
    option_map (λ viewed. Office viewed after) (shown_request viewer call.moment call.request)
shown_by viewer after call (caller.Party party) =
    if is_shown viewer party call.request then Some (Whole call) else None

-- what is shown of a call in an office
abbrev pub shown_of : Deciding → Viewer → OfficeLists → Call → Option Shown
shown_of deciding viewer office call =
    shown_by viewer (public_of (after_call deciding office call)) call call.caller

-- a list behind a value, if there is one
abbrev pub with_head : {X : Type 0} → Option X → List X → List X
with_head None xs = xs
with_head (Some x) xs = x ∷ xs

-- the trace of a list of calls: what is shown of each, in order
abbrev pub trace_of : Deciding → Viewer → OfficeLists → List Call → List Shown
trace_of deciding viewer office [] = []
trace_of deciding viewer office (call ∷ calls) =
    with_head (shown_of deciding viewer office call)
    (trace_of deciding viewer (after_call deciding office call) calls)

-- the request names the party as proxy, or authorises it (sections 323 and 324)
abbrev pub names_party : Party → Request → Bool
names_party party (asked.Party meeting (Appoint new)) = same_name new.proxy party
names_party party (asked.Party meeting (Authorise person)) = same_name person party
names_party party other = false

-- who asks it is near the viewer, where it names or authorises the viewer
abbrev pub is_near_by : Viewer → Request → Caller → Bool
is_near_by viewer request caller.Office = true
is_near_by viewer request (caller.Party party) =
    implies (names_party viewer.party request) (is_near viewer party)

-- whoever names or authorises the viewer by the call is near it
abbrev pub is_near_call : Viewer → Call → Bool
is_near_call viewer call = is_near_by viewer call.request call.caller

-- the party that calls, if it names or authorises the party
abbrev pub source_by : Party → Request → Caller → List Party
source_by party request caller.Office = []
source_by party request (caller.Party other) =
    if names_party party request then other ∷ [] else []

-- the sources of a party in a list of calls: those who name or authorise it
abbrev pub sources_in : Party → List Call → List Party
sources_in party calls =
    flat_map (λ (call : Call). source_by party call.request call.caller) calls

-- a party with its sources in two lists of calls
abbrev pub viewer_of : Party → List Call → List Call → Viewer
viewer_of party calls again = record {
  party = party;
  sources = sources_in party (calls ++ again);
}

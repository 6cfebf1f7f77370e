-- The answer to the office.
use Rattle.std.specs.Prelude.{List, Bool, true, false, Option, Some}
use Rattle.std.specs.Option.{option_map_or}
use Rattle.desk_words.specs.KeyRows.{same_keys}
use Rattle.desk_words.specs.Refusals.{first_refusal}
use Rattle.desk_words.specs.SameRows.{same_rows}
use Rattle.desk_words.specs.Rulings.{Ruling, in_found, refusal_in}
use Rattle.desk_words.specs.ViewTypes.{Day, Moment}
use Rattle.desk_words.specs.declared.answer.Answer.{Answer}
use Rattle.desk_words.specs.declared.caller.KeyRow.{KeyRow}
use Rattle.desk_words.specs.declared.change.Change.{Change}
use Rattle.desk_words.specs.declared.change.MeetingChange.{MeetingChange}
use Rattle.desk_words.specs.declared.office.MeetingLists.{MeetingLists}
use Rattle.desk_words.specs.declared.request.DeskRequest.{DeskRequest}
use Rattle.desk_words.specs.declared.request.DeskRequest.TheVariants as desk
use Rattle.desk_words.specs.declared.request.OfficeRequest.{OfficeRequest}
use Rattle.desk_words.specs.declared.request.OfficeRequest.TheVariants.{LoadRegister, Presence, OpenMeeting, Adjourn, Order, Start, Close, Declare}
use Rattle.vocabulary.specs.declared.refusal.Refusal.{Refusal}
use Rattle.vocabulary.specs.declared.refusal.Refusal.TheVariants.{NoQuorum, DemandTooSmall}
use Rattle.office_decisions.specs.PresenceRulings.{presence_ruling}
use Rattle.office_decisions.specs.CallRulings.{call_ruling, load_ruling}
use Rattle.office_decisions.specs.DeskRulings.{closed_ruling, keys_ruling, same_days}
use Rattle.office_decisions.specs.PollRulings.{open_ruling, adjourn_ruling, order_ruling, start_ruling, close_ruling, declare_ruling}

-- what decides what the office asks of the whole desk, from its keys, its closed days and its
-- meetings
abbrev pub desk_ruling : List KeyRow → List Day → List MeetingLists → DeskRequest → Ruling Change
desk_ruling keys closed meetings (desk.CallMeeting new) = call_ruling meetings new
desk_ruling keys closed meetings (desk.ClosedDays days) = closed_ruling closed days
desk_ruling keys closed meetings (desk.Keys rows) = keys_ruling keys rows

-- what decides what the office asks in a meeting, from the closed days, the moment and the
-- meeting's lists
abbrev pub ruling_on : List Day → Moment → OfficeRequest → MeetingLists → Ruling MeetingChange
ruling_on closed now (LoadRegister new) m = load_ruling m now new
ruling_on closed now (Presence party) m = presence_ruling m now party
ruling_on closed now OpenMeeting m = open_ruling m closed now
ruling_on closed now (Adjourn appointed) m = adjourn_ruling m closed now appointed
ruling_on closed now (Order new) m = order_ruling m closed now new
ruling_on closed now (Start resolution) m = start_ruling m now resolution
ruling_on closed now (Close resolution) m = close_ruling m now resolution
ruling_on closed now (Declare resolution) m = declare_ruling m closed now resolution

-- that there is no such meeting, and else what is ruled in it
abbrev pub office_ruling : List Day → Option MeetingLists → Moment → OfficeRequest
    → Ruling MeetingChange
office_ruling closed found now asked = in_found found (ruling_on closed now asked)

-- what is asked and answered without memory: a presence, an adjournment, an order by the chair, a
-- start and a close
abbrev pub office_needs_no_memory : OfficeRequest → Bool
office_needs_no_memory (Presence party) = true
office_needs_no_memory (Adjourn appointed) = true
office_needs_no_memory (Order new) = new.chair
office_needs_no_memory (Start resolution) = true
office_needs_no_memory (Close resolution) = true
office_needs_no_memory other = false

-- the closed days or the keys that come are those that are held already
abbrev pub is_list_held : List KeyRow → List Day → DeskRequest → Bool
is_list_held keys closed (desk.ClosedDays days) = same_days closed days
is_list_held keys closed (desk.Keys rows) = same_keys keys rows
is_list_held keys closed other = false

-- the register that comes is the one that is held already (section 113)
abbrev pub is_register_held : Option MeetingLists → OfficeRequest → Bool
is_register_held (Some m) (LoadRegister new) = same_rows m.register new.rows
is_register_held found other = false

-- a refusal that is decided before any memory is taken: all but those for which it is counted who
-- is present (section 318), or which shares demand a poll (section 321)
abbrev pub is_at_once : Refusal → Bool
is_at_once NoQuorum = false
is_at_once DemandTooSmall = false
is_at_once other = true

-- such a refusal
abbrev pub is_some_at_once : Option Refusal → Bool
is_some_at_once refusal = option_map_or is_at_once refusal false

-- the answer is such a refusal
abbrev pub is_refused_at_once : {C : Type 0} → Answer C → Bool
is_refused_at_once answer = is_some_at_once (refusal_in answer.reply)

-- it is ruled so
abbrev pub refuses_at_once : {C : Type 0} → Ruling C → Bool
refuses_at_once ruling = is_some_at_once (first_refusal ruling.cases)

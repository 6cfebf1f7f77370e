-- Isolation: what others do, and is not shown to a party, changes none of the replies to it.
use Rattle.std.specs.Prelude.{◌≡◌, List, Some, None, IsTrue}
use Rattle.std.specs.List.{list_all}
use Rattle.desk_words.specs.Changes.{empty_office}
use Rattle.desk_words.specs.ViewTypes.{MeetingName, Party}
use Rattle.desk_words.specs.declared.office.OfficeLists.{OfficeLists}
use Rattle.desk_words.specs.declared.request.Call.{Call}
use Rattle.meeting_core.specs.Step.{decided, run_of}
use Rattle.laws_step.specs.Loads.{Deciding, after_call}
use Rattle.laws_run.specs.NearParts.{IsSourced, Viewer, part_of}
use Rattle.laws_run.specs.Traces.{Shown, is_by, is_near_call, replies_to, run_by, shown_of, trace_of, viewer_of}

-- two offices are one to a viewer: each meeting has the same part, and whoever named or authorised
-- the viewer in either is near it
pub record AreIndistinguishable (viewer : Viewer) (one other : OfficeLists) : Type 0 where
  pub parts : (meeting : MeetingName) → part_of viewer one meeting ≡ part_of viewer other meeting
  pub first : IsSourced viewer one
  pub second : IsSourced viewer other

-- one step isolates: a call of which nothing is shown leaves each part as it is; two calls of which
-- the same is shown, in two offices that are one to the viewer, leave each part the same in both;
-- the viewer's own call has the same reply in both; and whoever names or authorises the viewer
-- stays near it
pub record IsolatesSteps (deciding : Deciding) : Type 0 where
  pub unseen : (viewer : Viewer) (office : OfficeLists) (call : Call)
      → IsTrue (is_near_call viewer call)
      → shown_of deciding viewer office call ≡ None
      → (meeting : MeetingName)
      → part_of viewer (after_call deciding office call) meeting ≡ part_of viewer office meeting
  pub seen : (viewer : Viewer) (one other : OfficeLists) (call again : Call) (shown : Shown)
      → AreIndistinguishable viewer one other
      → IsTrue (is_near_call viewer call)
      → IsTrue (is_near_call viewer again)
      → shown_of deciding viewer one call ≡ Some shown
      → shown_of deciding viewer other again ≡ Some shown
      → (meeting : MeetingName)
      → part_of viewer (after_call deciding one call) meeting
      ≡ part_of viewer (after_call deciding other again) meeting
  pub replied : (viewer : Viewer) (one other : OfficeLists) (call : Call)
      → AreIndistinguishable viewer one other
      → IsTrue (is_by viewer.party call.caller)
      → (deciding one call).reply ≡ (deciding other call).reply
  pub preserved : (viewer : Viewer) (office : OfficeLists) (call : Call)
      → IsTrue (is_near_call viewer call)
      → IsSourced viewer office
      → IsSourced viewer (after_call deciding office call)

-- two runs end alike to a viewer: the replies to it are the same, one for one, and the offices
-- after them are one to it
pub record EndIndistinguishable (deciding : Deciding) (viewer : Viewer) (one other : OfficeLists)
    (calls again : List Call) : Type 0 where
  pub replies : replies_to viewer.party calls (run_by deciding one calls).replies
      ≡ replies_to viewer.party again (run_by deciding other again).replies
  pub offices : AreIndistinguishable viewer (run_by deciding one calls).office
      (run_by deciding other again).office

-- runs are isolated: from two offices that are one to a viewer, two lists of calls with the same
-- trace, in which whoever names or authorises the viewer is near it, end alike to it
abbrev pub IsolatesRuns : Deciding → Type 0
IsolatesRuns deciding =
    (viewer : Viewer) (one other : OfficeLists) (calls again : List Call)
    → AreIndistinguishable viewer one other
    → IsTrue (list_all (is_near_call viewer) calls)
    → IsTrue (list_all (is_near_call viewer) again)
    → trace_of deciding viewer one calls ≡ trace_of deciding viewer other again
    → EndIndistinguishable deciding viewer one other calls again

-- where each step isolates, runs are isolated
abbrev pub StepsIsolateRuns : Type 0
StepsIsolateRuns = (deciding : Deciding) → IsolatesSteps deciding → IsolatesRuns deciding

-- from the office that holds nothing, two lists of calls with the same trace for a party and its
-- sources in both give it the same replies, one for one
abbrev pub IsolatesCalls : Deciding → Type 0
IsolatesCalls deciding =
    (party : Party) (calls again : List Call)
    → let viewer = viewer_of party calls again in
    trace_of deciding viewer empty_office calls ≡ trace_of deciding viewer empty_office again
    → replies_to party calls (run_by deciding empty_office calls).replies
    ≡ replies_to party again (run_by deciding empty_office again).replies

-- the desk's own deciding makes the desk's runs
abbrev pub RunsAreTheDesks : Type 0
RunsAreTheDesks =
    (office : OfficeLists) (calls : List Call) → run_by decided office calls ≡ run_of office calls

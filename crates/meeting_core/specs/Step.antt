-- One step of the office, and runs of steps.
use Rattle.std.specs.Prelude.{Bool, true, false, ◌&&◌, ◌||◌, not, List, [], ◌∷◌, ◌++◌}
use Rattle.desk_words.specs.Refusals.{Case}
use Rattle.desk_words.specs.Rulings.{Ruling, refused, map_ruling_change, ruled_answer}
use Rattle.desk_words.specs.ViewTypes.{Moment}
use Rattle.desk_words.specs.declared.answer.Answer.{Answer}
use Rattle.desk_words.specs.declared.caller.Caller.{Caller}
use Rattle.desk_words.specs.declared.caller.Caller.TheVariants as caller
use Rattle.desk_words.specs.declared.change.Change.{Change}
use Rattle.desk_words.specs.declared.change.Change.TheVariants.{InMeeting}
use Rattle.desk_words.specs.declared.change.MeetingChange.TheVariants.{Enter}
use Rattle.desk_words.specs.declared.office.OfficeLists.{OfficeLists}
use Rattle.desk_words.specs.declared.reply.Reply.{Reply}
use Rattle.desk_words.specs.declared.request.Call.{Call}
use Rattle.desk_words.specs.declared.request.OfficeRequest.{OfficeRequest}
use Rattle.desk_words.specs.declared.request.OfficeRequest.TheVariants.{Start, Close}
use Rattle.desk_words.specs.declared.request.Request.{Request}
use Rattle.desk_words.specs.declared.request.Request.TheVariants as asked
use Rattle.vocabulary.specs.declared.refusal.Refusal.{Refusal}
use Rattle.vocabulary.specs.declared.refusal.Refusal.TheVariants.{OfficeOnly, PartyOnly}
use Rattle.caller_view.specs.PartyRulings.{party_ruling}
use Rattle.party_views.specs.Views.{meeting_at, own_of, public_of}
use Rattle.office_decisions.specs.OfficeRulings.{desk_ruling, is_list_held, is_refused_at_once, is_register_held, office_ruling}
use Rattle.desk_words.specs.Changes.{applied_if_any}

-- a party calls
abbrev pub is_a_party : Caller → Bool
is_a_party caller.Office = false
is_a_party (caller.Party party) = true

-- only the office may ask it
abbrev pub is_for_office : Request → Bool
is_for_office (asked.Party meeting what) = false
is_for_office other = true

-- a party asks what only the office may; the office asks what only a party may
abbrev pub side_cases : Caller → Request → List Case
side_cases who request =
    record { refusal = OfficeOnly; holds = is_a_party who && is_for_office request }
    ∷ record { refusal = PartyOnly; holds = not (is_a_party who) && not (is_for_office request) }
    ∷ []

-- of the wrong side nothing more is asked
abbrev pub nothing_more : Refusal → Ruling Change
nothing_more refusal = record { cases = []; accepted = refused refusal }

-- what decides what is asked, where the right side asks it: the office is answered from all that it
-- holds, a party from its views of the meeting
abbrev pub asked_ruling : OfficeLists → Moment → Caller → Request → Ruling Change
asked_ruling office now caller.Office (asked.Desk what) =
    desk_ruling office.keys office.closed office.meetings what
asked_ruling office now caller.Office (asked.Office meeting what) =
    map_ruling_change (InMeeting meeting)
    (office_ruling office.closed (meeting_at office meeting) now what)
asked_ruling office now caller.Office (asked.Party meeting what) = nothing_more PartyOnly
asked_ruling office now (caller.Party party) (asked.Party meeting what) =
    map_ruling_change (λ entry. InMeeting meeting (Enter entry))
    (party_ruling (public_of office meeting) (own_of office party meeting now) now what)
asked_ruling office now (caller.Party party) other = nothing_more OfficeOnly

-- what decides a call: which side asks, and then what it asks
abbrev pub ruling : OfficeLists → Moment → Caller → Request → Ruling Change
ruling office now who request = record {
  cases = side_cases who request ++ (asked_ruling office now who request).cases;
  accepted = (asked_ruling office now who request).accepted;
}

-- an office request of a party, or a party request of the office
abbrev pub is_misplaced : Caller → Request → Bool
is_misplaced caller.Office request = not (is_for_office request)
is_misplaced (caller.Party party) request = is_for_office request

-- the start and the close of a poll
abbrev pub is_start_or_close : OfficeRequest → Bool
is_start_or_close (Start resolution) = true
is_start_or_close (Close resolution) = true
is_start_or_close other = false

-- what is never answered by want of memory: what the wrong side asks, and of the office a start, a
-- close and what it loads that is held already
abbrev pub needs_no_memory : OfficeLists → Caller → Request → Bool
needs_no_memory office caller.Office (asked.Desk what) =
    is_list_held office.keys office.closed what
needs_no_memory office caller.Office (asked.Office meeting what) =
    is_start_or_close what || is_register_held (meeting_at office meeting) what
needs_no_memory office who request = is_misplaced who request

-- the office is refused, before any memory is taken
abbrev pub is_at_once_to : Caller → Answer Change → Bool
is_at_once_to caller.Office answer = is_refused_at_once answer
is_at_once_to (caller.Party party) answer = false

-- the reply to a call, and its change
abbrev pub decided : OfficeLists → Call → Answer Change
decided office call = ruled_answer (ruling office call.moment call.caller call.request)

-- the office after a call
abbrev pub stepped : OfficeLists → Call → OfficeLists
stepped office call = applied_if_any office (decided office call).change

-- what a list of calls comes to: the office after them, and the replies to them
pub record Run : Type 0 where
  pub office : OfficeLists
  pub replies : List Reply

-- a run that begins with a reply
abbrev pub after_reply : Reply → Run → Run
after_reply reply run = record { office = run.office; replies = reply ∷ run.replies }

-- the run of a list of calls: each is decided in the office after those before it
abbrev pub run_of : OfficeLists → List Call → Run
run_of office [] = record { office = office; replies = [] }
run_of office (call ∷ calls) =
    after_reply (decided office call).reply (run_of (stepped office call) calls)

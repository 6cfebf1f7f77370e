-- Loads: a file that comes twice in turn acts once.
use Rattle.std.specs.Prelude.{◌≡◌, ⊤, Bool, true, false, nat_le, List, ◌∷◌, Some, IsTrue, option_map}
use Rattle.desk_words.specs.Changes.{applied_if_any}
use Rattle.desk_words.specs.Rulings.{reply_unchanged}
use Rattle.desk_words.specs.ViewTypes.{Moment}
use Rattle.desk_words.specs.declared.answer.Answer.{Answer}
use Rattle.desk_words.specs.declared.change.Change.{Change}
use Rattle.desk_words.specs.declared.office.MeetingLists.{MeetingLists}
use Rattle.desk_words.specs.declared.office.OfficeLists.{OfficeLists}
use Rattle.desk_words.specs.declared.reply.Reply.{Reply}
use Rattle.desk_words.specs.declared.reply.Reply.TheVariants as reply
use Rattle.desk_words.specs.declared.request.Call.{Call}
use Rattle.desk_words.specs.declared.request.DeskRequest.TheVariants as desk
use Rattle.desk_words.specs.declared.request.OfficeRequest.TheVariants.{LoadRegister}
use Rattle.desk_words.specs.declared.request.Request.{Request}
use Rattle.desk_words.specs.declared.request.Request.TheVariants as asked
use Rattle.party_views.specs.Views.{meeting_at}
use Rattle.meeting_core.specs.Step.{after_reply, decided, run_of, stepped}

-- what decides calls: from an office and a call, a reply and at most one change
abbrev pub Deciding : Type 0
Deciding = OfficeLists → Call → Answer Change

-- the office after a call that is so decided
abbrev pub after_call : Deciding → OfficeLists → Call → OfficeLists
after_call deciding office call = applied_if_any office (deciding office call).change

-- closed days, keys or the register of a meeting are to be loaded (sections 1173 and 113)
abbrev pub is_load : Request → Bool
is_load (asked.Desk (desk.ClosedDays days)) = true
is_load (asked.Desk (desk.Keys rows)) = true
is_load (asked.Office meeting (LoadRegister new)) = true
is_load other = false

-- a load is accepted: it is loaded, or it is what is held
abbrev pub accepts_load : Reply → Bool
accepts_load reply.Loaded = true
accepts_load reply.Same = true
accepts_load other = false

-- the moment at which a load comes again is in turn: for closed days and keys any, for a register,
-- which may come too early, the same or a later one (section 113)
abbrev pub is_in_turn : Request → Moment → Moment → Bool
is_in_turn (asked.Desk what) first again = true
is_in_turn other first again = nat_le first again

-- the same call at another moment
abbrev pub again_at : Moment → Call → Call
again_at moment call = record call { moment = moment }

-- the office holds what is to be loaded
abbrev pub HoldsLoad : OfficeLists → Request → Type 0
HoldsLoad office (asked.Desk (desk.ClosedDays days)) = office.closed ≡ days
HoldsLoad office (asked.Desk (desk.Keys rows)) = office.keys ≡ rows
HoldsLoad office (asked.Office meeting (LoadRegister new)) =
    option_map (λ (m : MeetingLists). m.register) (meeting_at office meeting) ≡ Some new.rows
HoldsLoad office other = ⊤

-- a load that is accepted acts: what was to be loaded is held after it
abbrev pub HoldsWhatIsLoaded : Deciding → Type 0
HoldsWhatIsLoaded deciding =
    (office : OfficeLists) (call : Call) → accepts_load (deciding office call).reply ≡ true
    → HoldsLoad (after_call deciding office call) call.request

-- a load that was accepted in an office comes again in turn, at some moment
pub record ComesAgain (deciding : Deciding) (office : OfficeLists) (call : Call) (again : Moment)
    : Type 0 where
  pub load : IsTrue (is_load call.request)
  pub accepted : IsTrue (accepts_load (deciding office call).reply)
  pub in_turn : IsTrue (is_in_turn call.request call.moment again)

-- a load that comes again is answered as the same, without a change
abbrev pub AnswersSameAgain : Deciding → Type 0
AnswersSameAgain deciding =
    (office : OfficeLists) (call : Call) (again : Moment) → ComesAgain deciding office call again
    → deciding (after_call deciding office call) (again_at again call) ≡ reply_unchanged reply.Same

-- so both together leave the office that one of them leaves
abbrev pub LeavesTheOfficeOfOne : Type 0
LeavesTheOfficeOfOne =
    (office : OfficeLists) (call : Call) (again : Moment) → ComesAgain decided office call again
    → stepped (stepped office call) (again_at again call) ≡ stepped office call

-- and a run is as though the load had come once, but for one reply more, that it is the same
abbrev pub RunsAsOfOne : Type 0
RunsAsOfOne =
    (office : OfficeLists) (call : Call) (again : Moment) (later : List Call)
    → ComesAgain decided office call again
    → run_of office (call ∷ again_at again call ∷ later)
    ≡ after_reply (decided office call).reply
    (after_reply reply.Same (run_of (stepped office call) later))

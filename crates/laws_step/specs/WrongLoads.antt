-- Wrong ways to decide loads, and an office and a load on which each of them acts twice, or
-- never.
use Rattle.std.specs.Prelude.{◌≡◌, IsTrue, [], ◌∷◌, Option, Some, None}
use Rattle.desk_words.specs.Office.{is_office}
use Rattle.desk_words.specs.Rulings.{reply_unchanged}
use Rattle.desk_words.specs.ViewTypes.{Moment}
use Rattle.desk_words.specs.declared.answer.Answer.{Answer}
use Rattle.desk_words.specs.declared.caller.Caller.TheVariants as caller
use Rattle.desk_words.specs.declared.change.Change.{Change}
use Rattle.desk_words.specs.declared.change.Change.TheVariants.{InMeeting, SetClosedDays, SetKeys}
use Rattle.desk_words.specs.declared.change.MeetingChange.TheVariants.{SetRegister}
use Rattle.desk_words.specs.declared.office.OfficeLists.{OfficeLists}
use Rattle.desk_words.specs.declared.reply.Reply.{Reply}
use Rattle.desk_words.specs.declared.reply.Reply.TheVariants as reply
use Rattle.desk_words.specs.declared.request.Call.{Call}
use Rattle.desk_words.specs.declared.request.DeskRequest.TheVariants as desk
use Rattle.desk_words.specs.declared.request.OfficeRequest.TheVariants.{LoadRegister}
use Rattle.desk_words.specs.declared.request.Request.{Request}
use Rattle.desk_words.specs.declared.request.Request.TheVariants as asked
use Rattle.meeting_core.specs.Step.{decided}
use Rattle.laws_step.specs.Loads.{ComesAgain, Deciding, HoldsLoad, accepts_load, after_call, again_at}

-- the change that a load makes, were it held or not
abbrev pub change_by : Request → Option Change
change_by (asked.Desk (desk.ClosedDays days)) = Some (SetClosedDays days)
change_by (asked.Desk (desk.Keys rows)) = Some (SetKeys rows)
change_by (asked.Office meeting (LoadRegister new)) =
    Some (InMeeting meeting (SetRegister new.rows))
change_by other = None

-- the wrong answer where what is to be loaded is held, and else the right one
abbrev pub where_held : Answer Change → Answer Change → Reply → Answer Change
where_held wrong right reply.Same = wrong
where_held wrong right other = right

-- what is held is loaded once more
abbrev pub loads_anew : Deciding
loads_anew office call =
    let right = decided office call in where_held
    (record { reply = reply.Loaded; change = change_by call.request }) right right.reply

-- the reply to what is held is `Same`, and it is written once more
abbrev pub writes_anew : Deciding
writes_anew office call =
    let right = decided office call in where_held
    (record { reply = reply.Same; change = change_by call.request }) right right.reply

-- the reply to what is loaded is `Loaded`, and it is not written
abbrev pub shows_alone : Deciding
shows_alone office call = reply_unchanged (decided office call).reply

-- the load of one closed day
abbrev pub a_load : Call
a_load = record {
  moment = 0;
  caller = caller.Office;
  request = asked.Desk (desk.ClosedDays (1 ∷ []));
}

-- a load that comes again in an office acts again
pub record ActsTwice (deciding : Deciding) (office : OfficeLists) (call : Call) (again : Moment)
    : Type 0 where
  pub is_one : IsTrue (is_office office)
  pub comes : ComesAgain deciding office call again
  pub acts : deciding (after_call deciding office call) (again_at again call)
      ≡ reply_unchanged reply.Same → ⊥

-- what is accepted in an office as a load is not held after it
pub record ActsNever (deciding : Deciding) (office : OfficeLists) (call : Call) : Type 0 where
  pub is_one : IsTrue (is_office office)
  pub accepted : IsTrue (accepts_load (deciding office call).reply)
  pub lacks : HoldsLoad (after_call deciding office call) call.request → ⊥

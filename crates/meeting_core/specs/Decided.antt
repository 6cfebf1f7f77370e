-- What a book decides of a call.
use Rattle.std.specs.Prelude.{◌≡◌, true, Result, IfOk, IsOk}
use Rattle.std.specs.declared.alloc.AllocError.{AllocError}
use Rattle.desk_words.specs.declared.answer.Answer.{Answer}
use Rattle.desk_words.specs.declared.change.Change.{Change}
use Rattle.desk_words.specs.declared.office.OfficeLists.{OfficeLists}
use Rattle.desk_words.specs.declared.request.Call.{Call}
use Rattle.office_decisions.specs.RequestLimits.{if_any, keeps_limits}
use Rattle.meeting_core.specs.Step.{decided, is_at_once_to, needs_no_memory}

-- it is what is decided of the call in the office, within the limits of what a change adds; the
-- error is want of memory, and there is none where none is needed
pub record IsDecidedOf (office : OfficeLists) (result : Result (Answer Change) AllocError)
    (call : Call) : Type 0 where
  pub answer : IfOk result (λ a. a ≡ decided office call)
  pub limits : IfOk result (λ a. if_any keeps_limits a.change ≡ true)
  pub sure : needs_no_memory office call.caller call.request ≡ true → IsOk result
  pub refusals : is_at_once_to call.caller (decided office call) ≡ true → IsOk result

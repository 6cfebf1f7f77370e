-- What a look-up returns of a meeting, where its source may be trusted.
use Rattle.std.specs.Prelude.{Option, Result, MatchResult, OnOk}
use Rattle.desk_words.specs.declared.office.MeetingLists.{MeetingLists}

-- where the source may be trusted after the look-up, the answer holds of the meeting that it showed
-- before, or of there being none, and an error is one that may be met; after an answer the source
-- is kept, and no look-up leaves more than this
pub record IsTrueLookUp {S X E : Type 0} (trusted : S → Type 0)
    (shows : S → Option MeetingLists → Type 0)
    (keeps leaves : S → S → Type 0) (may_fail : E → Type 0) (old new : S) (result : Result X E)
    (Holds : Option MeetingLists → X → Type 0) : Type 0 where
  pub holds : trusted new → (found : Option MeetingLists) → shows old found
      → MatchResult result (Holds found) may_fail
  pub preserved : OnOk result (keeps old new)
  pub left : leaves old new

-- What is replied to what was received, and which call is made of it.
use Rattle.std.specs.Prelude.{◌≡◌, ◌⊎◌, Bool, true, false, List, [], ◌∷◌, Option, Some, None, is_some, IsTrue, Result, Ok, Err}
use Rattle.any_office.specs.CrashedOffice.{LeadsOn, OfficeEvent, calls_answered}
use Rattle.any_office.specs.OfficeRuns.{LeavesOffice, calls_in}
use Rattle.any_office.specs.declared.Office as office
use Rattle.vocabulary.specs.declared.refusal.Refusal.TheVariants.{Key}
use Rattle.desk_words.specs.ViewTypes.{Moment}
use Rattle.desk_words.specs.declared.caller.Caller.{Caller}
use Rattle.desk_words.specs.declared.office.OfficeLists.{OfficeLists}
use Rattle.desk_words.specs.declared.reply.Reply.{Reply}
use Rattle.desk_words.specs.declared.reply.Reply.TheVariants as reply
use Rattle.desk_words.specs.declared.request.Call.{Call}
use Rattle.desk_words.specs.declared.request.Request.{Request}
use Rattle.json_replies.specs.Replies.{reply_bytes}
use Rattle.desk_words.specs.declared.reply.Failure.{Failure}
use Rattle.desk_words.specs.declared.reply.Failure.TheVariants as failure
use Rattle.http_requests.specs.ReceivedRequests.{is_cut_off}
use Rattle.http_requests.specs.declared.received.ReceivedRequest.{ReceivedRequest}
use Rattle.http_requests.specs.declared.received.ReceivedRequest.TheVariants.{Refused, With}
use Rattle.http_requests.specs.declared.received.ReceiveError.{ReceiveError}
use Rattle.http_requests.specs.declared.received.ReceiveError.TheVariants as unreceived
use Rattle.http_routes.specs.Statuses.{reply_status}
use Rattle.meeting_core.specs.KeyHolders.{caller_with}
use Rattle.meeting_core.specs.Step.{decided}
use Rattle.desk_http.specs.AskedOffice.{calls_tried}
use Rattle.desk_http.specs.declared.answers.Answered.{Answered}
use Rattle.desk_http.specs.declared.answers.AnswerError.{AnswerError}
use Rattle.desk_http.specs.declared.answers.AnswerError.TheVariants as unanswered

-- the call that a caller makes by what was received, at a moment; nobody makes one, and an
-- unreadable request makes none
abbrev pub call_of : Moment → Option Caller → Result Request ReceiveError → Option Call
call_of now None content = None
call_of now (Some who) (Ok request) =
    Some (record { moment = now; caller = who; request = request })
call_of now (Some who) (Err why) = None

-- the call that a caller makes of what was received; none of what was refused as it came
abbrev pub call_by : Moment → Option Caller → ReceivedRequest → Option Call
call_by now who (Refused refusal) = None
call_by now who (With key content) = call_of now who content

-- the call that is made of what was received: that of the caller whose key it is
abbrev pub call_received : OfficeLists → Moment → ReceivedRequest → Option Call
call_received office now (Refused refusal) = None
call_received office now (With key content) = call_of now (caller_with office.keys key) content

-- an unreadable request is refused; want of memory and a source that failed have no reply
abbrev pub unread_reply : ReceiveError → Option Reply
unread_reply (unreceived.Refused refusal) = Some (reply.Refused refusal)
unread_reply unreceived.Memory = None
unread_reply unreceived.Failed = None

-- the reply to a caller: to nobody `Key`, whatever was received, and to a request what is decided
abbrev pub reply_of : OfficeLists → Moment → Option Caller → Result Request ReceiveError
    → Option Reply
reply_of office now None content = Some (reply.Refused Key)
reply_of office now (Some who) (Ok request) =
    Some (decided office (record { moment = now; caller = who; request = request })).reply
reply_of office now (Some who) (Err why) = unread_reply why

-- the reply to what was received: what is refused as it came, whoever sent it, or the reply to the
-- caller whose key it is
abbrev pub reply_in : OfficeLists → Moment → ReceivedRequest → Option Reply
reply_in office now (Refused refusal) = Some (reply.Refused refusal)
reply_in office now (With key content) = reply_of office now (caller_with office.keys key) content

-- it is that reply, as it is sent
abbrev pub ShowsReply : Reply → Answered → Type 0
ShowsReply reply a = (a.status ≡ reply_status reply) × (a.body.items ≡ reply_bytes reply)

-- there is such a reply, and it is that one, as it is sent
abbrev pub IsAnswer : Option Reply → Answered → Type 0
IsAnswer found a = (reply : Reply) × (found ≡ Some reply) × ShowsReply reply a

-- why an unreadable request is not answered: its source failed; else memory was refused, for the
-- text of its refusal too
abbrev pub unread_fault : ReceiveError → AnswerError
unread_fault unreceived.Failed = unanswered.CutOff
unread_fault why = unanswered.Failure failure.Memory

-- why what was received of a caller is not answered: a request by a failure of the office or of
-- memory
abbrev pub AnswerMayFail : Result Request ReceiveError → AnswerError → Type 0
AnswerMayFail (Ok request) why = (failed : Failure) × (why ≡ unanswered.Failure failed)
AnswerMayFail (Err content) why = why ≡ unread_fault content

-- the key that came is a caller's
abbrev pub is_of_caller : OfficeLists → ReceivedRequest → Bool
is_of_caller office (Refused refusal) = false
is_of_caller office (With key content) = is_some (caller_with office.keys key)

-- the call, if it was answered
abbrev pub if_ok : {T E : Type 0} → Result T E → Option Call → Option Call
if_ok (Ok x) call = call
if_ok (Err e) call = None

-- no call, or this one
abbrev pub IsNoneOr : Option Call → Option Call → Type 0
IsNoneOr made call = (made ≡ None) ⊎ (made ≡ call)

-- ---- wherever the office is stored

module _ {O : Type 0} (g : office.Ghosts O) where
  -- a body was cut off, with the key of a caller: a key that is nobody's comes first
  pub record IsCutOff (received : ReceivedRequest) (old new : O) : Type 0 where
    pub cut_off : is_cut_off received ≡ true
    pub caller : g.is_reliable new → (office : OfficeLists) → g.stands old office
        → IsTrue (is_of_caller office received)

  -- what was asked of the office for what was received. One call was tried, or none, answered or
  -- failed: that of the caller whose key was found, if one was. It is the call that the office that
  -- was stored lets be made, and it was made or not
  pub record MakesCall (now : Moment) (received : ReceivedRequest) (old new : O) : Type 0 where
    pub asked : List OfficeEvent
    pub leads : LeadsOn g old asked new
    pub found : Option Caller
    pub tries : calls_tried asked ≡ calls_in (call_by now found received ∷ [])
    pub by : g.is_reliable new → (office : OfficeLists) → g.stands old office
        → IsNoneOr (call_by now found received) (call_received office now received)
    pub made : Option Call
    pub answers : calls_answered asked ≡ calls_in (made ∷ [])
    pub is_tried : IsNoneOr made (call_by now found received)
    pub leaves : LeavesOffice g made old new

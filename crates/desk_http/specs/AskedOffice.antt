-- The calls that are tried on an office.
use Rattle.std.specs.Prelude.{List, [], ◌∷◌, filter_map, Option, Some, None, Result, Ok, Err}
use Rattle.any_office.specs.CrashedOffice.{OfficeEvent, Reads, Answers, Fails}
use Rattle.desk_words.specs.declared.request.Call.{Call}

-- the call that was tried, whether it was answered or failed
abbrev pub call_tried : OfficeEvent → Option Call
call_tried Reads = None
call_tried (Answers call) = Some call
call_tried (Fails call) = Some call

-- the calls that were tried
abbrev pub calls_tried : List OfficeEvent → List Call
calls_tried = filter_map call_tried

-- what a call asks of an office, by its result: it is answered or fails; no call asks nothing
abbrev pub asked_by : {T E : Type 0} → Option Call → Result T E → List OfficeEvent
asked_by None result = []
asked_by (Some call) (Ok x) = Answers call ∷ []
asked_by (Some call) (Err e) = Fails call ∷ []

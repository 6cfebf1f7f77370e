-- Laws of requests.
use Rattle.std.specs.Prelude.{◌≡◌, ◌⊎◌, ℕ, List, Option, Some, None, Ok, Err}
use Rattle.vocabulary.specs.declared.refusal.Refusal.{Refusal}
use Rattle.vocabulary.specs.declared.refusal.Refusal.TheVariants.{Route, Unreadable}
use Rattle.vocabulary.specs.Names.{meeting_of}
use Rattle.desk_words.specs.declared.request.Request.{Request}
use Rattle.desk_words.specs.declared.request.Request.TheVariants.{Desk, Office, Party}
use Rattle.desk_words.specs.declared.request.DeskRequest.{DeskRequest}
use Rattle.desk_words.specs.declared.request.DeskRequest.TheVariants.{CallMeeting}
use Rattle.json_requests.specs.declared.verb.Verb.{Verb}
use Rattle.json_requests.specs.Requests.{request_of}
use Rattle.json_requests.specs.Verbs.{verb_word, verb_of}

-- each word reads back as the verb that it was written for
abbrev pub VerbsReadBack : Type 0
VerbsReadBack = (verb : Verb) → verb_of (verb_word verb) ≡ Some verb

-- every refusal is one of two
abbrev pub RefusalsAreTwo : Type 0
RefusalsAreTwo =
    (meeting verb body : List ℕ) (refusal : Refusal)
    → request_of meeting verb body ≡ Err refusal
    → (refusal ≡ Route) ⊎ (refusal ≡ Unreadable)

-- what has no route has none with any other body
abbrev pub RouteComesFirst : Type 0
RouteComesFirst =
    (meeting verb body other : List ℕ)
    → request_of meeting verb body ≡ Err Route
    → request_of meeting verb other ≡ Err Route

-- the meeting that is called; what else is asked of the whole desk is of none
abbrev pub meeting_called : DeskRequest → Option (List ℕ)
meeting_called (CallMeeting called) = Some called.meeting
meeting_called other = None

-- the meeting of a request
abbrev pub meeting_asked : Request → Option (List ℕ)
meeting_asked (Desk what) = meeting_called what
meeting_asked (Office meeting what) = Some meeting
meeting_asked (Party meeting what) = Some meeting

-- a request is of the meeting that was named, and one of the whole desk of none
abbrev pub RequestsKeepTheMeeting : Type 0
RequestsKeepTheMeeting =
    (meeting verb body : List ℕ) (request : Request)
    → request_of meeting verb body ≡ Ok request
    → meeting_of meeting ≡ meeting_asked request

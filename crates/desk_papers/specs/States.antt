-- How far a resolution has come.
use Rattle.std.specs.Prelude.{ℕ, List, Option, Some, None, codes, if◌then◌else◌}
use Rattle.vocabulary.specs.declared.kinds.ResKind.{ResKind}
use Rattle.desk_words.specs.declared.records.Poll.{Poll}
use Rattle.desk_words.specs.declared.records.Tally.{Tally}
use Rattle.desk_words.specs.Majority.{result_of}
use Rattle.desk_papers.specs.declared.state.State.{State}
use Rattle.desk_papers.specs.declared.state.State.TheVariants.{NoPoll, Ordered, Open, Closed, Declared}

-- declared, or else closed, or else started, or else only ordered
abbrev pub stage : ResKind → Option Tally → Option ℕ → Option ℕ → State
stage kind (Some tally) closed started = Declared (result_of kind tally)
stage kind None (Some closed) started = Closed
stage kind None None (Some started) = Open
stage kind None None None = Ordered

-- the state of a resolution on which a poll is ordered (section 321)
abbrev pub polled_state : ResKind → Poll → State
polled_state kind poll = stage kind poll.declared poll.closed poll.started

-- the state of a resolution of this kind
abbrev pub state_of : ResKind → Option Poll → State
state_of kind None = NoPoll
state_of kind (Some poll) = polled_state kind poll

-- the words for it; a declared resolution is carried or lost (sections 282 and 283)
abbrev pub state_word : State → List ℕ
state_word NoPoll = codes "no poll"
state_word Ordered = codes "poll ordered"
state_word Open = codes "poll open"
state_word Closed = codes "poll closed"
state_word (Declared declaration) = if declaration.carried then codes "carried" else codes "lost"

-- How far a poll has come.
use Rattle.std.specs.Prelude.{Bool, false, nat_lt, Option, Some, None, is_some, is_none}
use Rattle.desk_words.specs.ViewTypes.{Moment}
use Rattle.desk_words.specs.declared.records.Poll.{Poll}

-- whether there is a poll, and it passes a test
abbrev pub there_is : (Poll → Bool) → Option Poll → Bool
there_is test None = false
there_is test (Some p) = test p

-- it is started
abbrev pub is_started : Poll → Bool
is_started p = is_some p.started

-- it is not started
abbrev pub is_waiting : Poll → Bool
is_waiting p = is_none p.started

-- it is closed
abbrev pub is_closed : Poll → Bool
is_closed p = is_some p.closed

-- it is not closed
abbrev pub is_unclosed : Poll → Bool
is_unclosed p = is_none p.closed

-- it is declared
abbrev pub is_declared : Poll → Bool
is_declared p = is_some p.declared

-- it is to be taken later
abbrev pub is_taken_after : Moment → Poll → Bool
is_taken_after now p = nat_lt now p.take

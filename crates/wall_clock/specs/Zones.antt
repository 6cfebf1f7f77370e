-- The zone of the office's wall clock, over the words of `jiff_tz`.
use Rattle.std.specs.Prelude.{ℕ, List, Option}
use Rattle.jiff_tz.specs.PosixReader.{read_whole}
use Rattle.jiff_tz.specs.PosixText.{TzText, tz_view}
use Rattle.jiff_tz.specs.declared.posix.TimeZone.{TimeZone}

-- a zone, as contracts see it
abbrev pub Zone : Type 0
Zone = TimeZone

-- what a POSIX rule says: a name and an offset, and those of daylight saving time with its days
abbrev pub Rule : Type 0
Rule = TzText

-- the rule that a text spells, if it is a POSIX rule
abbrev pub rule_in : List ℕ → Option Rule
rule_in text = read_whole text

-- the rule of a zone
abbrev pub rule_of : Zone → Rule
rule_of zone = tz_view zone

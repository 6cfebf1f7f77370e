-- A meeting whose resolutions are counted, and not read.
use Rattle.std.specs.Prelude.{ℕ, List, cond, length, replicate, Option, Some, None, codes}
use Rattle.vocabulary.specs.declared.kinds.ResKind.TheVariants.{Ordinary}
use Rattle.desk_words.specs.Office.{is_resolution}
use Rattle.desk_words.specs.ViewTypes.{Number}
use Rattle.desk_words.specs.declared.records.Meeting.{Meeting}
use Rattle.desk_words.specs.declared.records.Resolution.{Resolution}

-- so many resolutions, none of which is read: each is the same, and of one letter
abbrev pub unread : ℕ → List Resolution
unread count = replicate count (record { kind = Ordinary; text = codes "-" })

-- a meeting with so many of these in place of its resolutions
abbrev pub with_unread : ℕ → Meeting → Meeting
with_unread count m = record m { resolutions = unread count }

-- with as many as it has
abbrev pub counted : Meeting → Meeting
counted m = with_unread (length m.resolutions) m

-- the first of so many resolutions up to that of a number, if it is one of them, and else all
abbrev pub up_to : Number → ℕ → ℕ
up_to number count = cond (is_resolution count number) number count

-- how many stand in place of so many resolutions: those up to the one that is asked for, and else
-- one
abbrev pub stand_ins : Option Number → ℕ → ℕ
stand_ins (Some number) count = up_to number count
stand_ins None count = 1

-- a meeting with as many as tell whether the one that is asked for is among its own
abbrev pub counted_up_to : Option Number → Meeting → Meeting
counted_up_to on m = with_unread (stand_ins on (length m.resolutions)) m

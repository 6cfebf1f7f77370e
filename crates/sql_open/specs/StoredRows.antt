-- How many rows the tables have whose rows name a meeting, and how many of them are a meeting's
-- lists.
use Rattle.std.specs.Prelude.{ℕ, ◌+◌, List, [], ◌∷◌, length, Option, Some}
use Rattle.sqlite.specs.Tree.{Trees}
use Rattle.desk_words.specs.declared.office.MeetingLists.{MeetingLists}
use Rattle.vocabulary.specs.OptionSteps.{◌>>=◌}
use Rattle.sql_schema.specs.Contents as table
use Rattle.sql_schema.specs.Statements.{TableOf}

-- how many rows a table has
abbrev pub rows_in : {A : Type 0} → TableOf A → Trees → ℕ
rows_in table trees = length (trees table.number)

-- the rows of all tables whose rows name a meeting
abbrev pub stored_rows : Trees → ℕ
stored_rows trees =
    rows_in table.sessions trees + rows_in table.resolutions trees + rows_in table.register trees
    + rows_in table.appointments trees + rows_in table.endings trees
    + rows_in table.authorities trees + rows_in table.presences trees
    + rows_in table.demands trees + rows_in table.polls trees + rows_in table.casts trees

-- the rows that a meeting's lists are, but those of its votes
abbrev pub rows_but_votes : MeetingLists → ℕ
rows_but_votes m =
    length m.meeting.later + length m.meeting.resolutions + length m.register
    + length m.appointments + length m.endings + length m.authorities
    + length m.presences + length m.demands + length m.polls

-- so many, and those of each of these things, one after the other, or nothing where there is
-- nothing of one
abbrev pub counted_on : {X : Type 0} → (X → Trees → Option ℕ) → List X → ℕ → Trees → Option ℕ
counted_on its [] count trees = Some count
counted_on its (x ∷ rest) count trees = do
  more ← its x trees
  counted_on its rest (count + more) trees

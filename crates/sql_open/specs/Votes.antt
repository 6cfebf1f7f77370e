-- The votes on one poll, as the tables hold them.
use Rattle.std.specs.Prelude.{ℕ, pos, Bool, ◌&&◌, List, [], ◌∷◌, filter, length, map, slice_index, Option, Some}
use Rattle.sqlite.specs.declared.types.Value.TheVariants.{Int}
use Rattle.sqlite.specs.Collation.TheVariants.{Binary}
use Rattle.sqlite.specs.Ops.{binary, is_true}
use Rattle.sqlite.specs.Order.{Row, column}
use Rattle.sqlite.specs.Tree.{Trees}
use Rattle.sqlite_sql.specs.declared.ops.BinaryOp.TheVariants.{Compare}
use Rattle.sqlite_sql.specs.declared.ops.CompareOp.TheVariants.{Eq}
use Rattle.vocabulary.specs.OptionSteps.{◌>>=◌, guard}
use Rattle.desk_words.specs.Office.{are_casts}
use Rattle.desk_words.specs.declared.records.CastMark.{CastMark}
use Rattle.desk_words.specs.declared.records.Poll.{Poll}
use Rattle.sql_rows.specs.Meanings.{all_meanings}
use Rattle.sql_schema.specs.Contents.{casts}
use Rattle.sql_schema.specs.Statements.{columns_of}
use Rattle.sql_open.specs.MeetingReading.{is_of}
use Rattle.sql_load.specs.MeetingRecords.{without_meeting}

-- the second of the columns that are shown of a vote equals that number of a resolution
abbrev pub is_numbered : ℕ → Row → Bool
is_numbered resolution row =
    is_true
    (binary (Compare Eq Binary) (column row (slice_index casts.columns 1)) (Int (pos resolution)))

-- the row names that meeting and that resolution
abbrev pub is_on : List ℕ → ℕ → Row → Bool
is_on id resolution row = is_of casts id row && is_numbered resolution row

-- the rows that do, in their order, as they are shown
abbrev pub rows_on : List ℕ → ℕ → Trees → List Row
rows_on id resolution trees =
    map (columns_of casts) (filter (is_on id resolution) (trees casts.number))

-- the votes that they mean, or nothing where one of them means nothing
abbrev pub votes_on : List ℕ → ℕ → Trees → Option (List CastMark)
votes_on id resolution trees = do
  its ← all_meanings casts.means (rows_on id resolution trees)
  Some (map without_meeting its)

-- the votes on a poll are such as could be cast on it; how many they are
abbrev pub judged_votes : List ℕ → Poll → Trees → Option ℕ
judged_votes id poll trees = do
  votes ← votes_on id poll.resolution trees
  right ← guard (are_casts (poll ∷ []) votes)
  Some (length votes)

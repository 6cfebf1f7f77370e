-- What is counted of the meetings.
use Rattle.std.proofs.Common.{true, List, ℕ, [], codes, refl}
use Rattle.sqlite.specs.Schema.{Schema}
use Rattle.sqlite.specs.Listing.{understood}
use Rattle.sqlite_tied.specs.Compute.{everything}
use Rattle.sql_schema.specs.Contents.{meetings}
use Rattle.sql_schema.specs.Statements.{HasTables, layout_two}
use Rattle.sql_lemmas.proofs.Frames.{wide_one}
use Rattle.sql_lemmas.proofs.Reading.{AsksAs}
use Rattle.sql_lemmas.proofs.Counting.{count_name, counted}
use Rattle.sql_queries.proofs.CountQueries.{IsCount}

abbrev pub meeting_count_text : List ℕ
meeting_count_text = codes "SELECT COUNT(*) FROM meetings"

meeting_count_asks : (s : Schema) → HasTables layout_two s → AsksAs s meeting_count_text (counted meetings.number []) count_name
unfolding understood everything
meeting_count_asks =
    wide_one (λ s. AsksAs s meeting_count_text (counted meetings.number []) count_name) (λ others apart indexes views. record { is = refl; plain = (refl, refl); unlisted = refl })

pub meeting_count_query : IsCount meetings meeting_count_text [] (λ _. true)
meeting_count_query = record {
  tests = [];
  asks = meeting_count_asks;
  none = refl;
  same = λ row x h. refl;
}

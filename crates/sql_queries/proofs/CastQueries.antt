-- What is counted of a voter's votes on a resolution.
use Rattle.std.proofs.Common.{ℕ, List, [], ◌∷◌, codes, refl}
use Rattle.std.specs.Prelude.{◌==◌, ◌&&◌}
use Rattle.sqlite.specs.Order.{Row}
use Rattle.sqlite.specs.Schema.{Schema}
use Rattle.sqlite.specs.Listing.{understood}
use Rattle.sqlite_tied.specs.Compute.{everything}
use Rattle.vocabulary.specs.Names.{same_name}
use Rattle.sql_schema.specs.Contents.{casts}
use Rattle.sql_schema.specs.Statements.{HasTables, columns_of, layout_two}
use Rattle.sql_lemmas.proofs.Frames.{wide_one}
use Rattle.sql_lemmas.proofs.Reading.{AsksAs}
use Rattle.sql_stored.specs.KeyLemmas.{of_numbered}
use Rattle.sql_stored.specs.Keys.{NamesNumbered, three_tests}
use Rattle.sql_queries.specs.HandedInQueries.{names_cast}
use Rattle.sql_lemmas.proofs.Counting.{count_name, counted}
use Rattle.sql_queries.proofs.CountQueries.{IsCount}

abbrev pub cast_count_text : List ℕ
cast_count_text = codes "SELECT COUNT(*) FROM casts WHERE meeting = ?1 AND voter = ?2 AND resolution = ?3"

abbrev places : List ℕ
places = 0 ∷ 2 ∷ 1 ∷ []

cast_count_asks : (s : Schema) → HasTables layout_two s → AsksAs s cast_count_text (counted casts.number (three_tests casts.columns places)) count_name
unfolding understood everything
cast_count_asks =
    wide_one (λ s. AsksAs s cast_count_text (counted casts.number (three_tests casts.columns places)) count_name) (λ others apart indexes views. record { is = refl; plain = (refl, refl); unlisted = refl })

pub cast_count_query : (meeting voter : List ℕ) (resolution : ℕ) (params : Row) → NamesNumbered meeting voter resolution params
    → IsCount casts cast_count_text params (λ it. same_name it.meeting meeting && (same_name it.item.voter voter && it.item.resolution == resolution))
cast_count_query meeting voter resolution params given = record {
  tests = three_tests casts.columns places;
  asks = cast_count_asks;
  none = refl;
  same = λ row x h. of_numbered casts.columns places row params meeting voter x.meeting x.item.voter resolution x.item.resolution given (names_cast (columns_of casts row) x h);
}

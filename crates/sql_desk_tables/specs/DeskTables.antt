-- The statements on the tables of the desk and its meetings, over the tables of a desk.
use Rattle.std.specs.Prelude.{List, [], codes, refl, ℕ, ◌∷◌}
use Rattle.sqlite.specs.Listing.{understood}
use Rattle.sqlite_tied.specs.Compute.{everything}
use Rattle.sql_schema.specs.Contents.{closed, keys, meetings}
use Rattle.sql_schema.specs.SqlTexts.{making_text}
use Rattle.sql_schema.specs.Statements.{layout_two}
use Rattle.sql_schema.specs.Tables.{closed_table, keys_table, meetings_table, up_to_keys}
use Rattle.sql_lemmas.proofs.Adding.{AddsGiven}
use Rattle.sql_lemmas.proofs.Frames.{wide_one}
use Rattle.sql_lemmas.proofs.Listing.{ListsAs, ListsTable}
use Rattle.sql_lemmas.proofs.Making.{MakesTable}
use Rattle.sql_stored.specs.Stored.{AddsRows, EmptiesAt, EmptiesTable}

-- ---- the keys of the callers

-- how the columns that have a key are declared
abbrev pub first_columns : List (List ℕ)
first_columns =
    codes "party TEXT NOT NULL PRIMARY KEY" ∷ codes "secret TEXT NOT NULL UNIQUE" ∷ []

pub keys_emptied : EmptiesTable keys keys_table
unfolding understood everything
keys_emptied = record {
  place = 1;
  runs = wide_one (EmptiesAt keys keys_table 1)
      (λ others apart indexes views. record { is = refl; plain = (refl, refl); there = refl });
}

-- ---- the closed days

-- how the column that is the key is declared
abbrev pub day_column : List (List ℕ)
day_column = codes "day INTEGER NOT NULL PRIMARY KEY" ∷ []

pub closed_listed : ListsTable layout_two closed closed_table
unfolding understood everything
closed_listed = record {
  asks = wide_one (ListsAs closed closed_table)
      (λ others apart indexes views. record { is = refl; plain = (refl, refl); unlisted = refl });
  none = refl;
  numbered = refl;
}

pub closed_made : MakesTable up_to_keys (making_text day_column [] closed_table) closed_table
unfolding understood everything Rattle.sqlite_schema.specs.Names.same_name
closed_made = record { is = refl; alone = refl; plain = (refl, refl); defined = refl; full = refl }

pub closed_emptied : EmptiesTable closed closed_table
unfolding understood everything
closed_emptied = record {
  place = 2;
  runs = wide_one (EmptiesAt closed closed_table 2)
      (λ others apart indexes views. record { is = refl; plain = (refl, refl); there = refl });
}

-- ---- the meetings

pub meetings_listed : ListsTable layout_two meetings meetings_table
unfolding understood everything
meetings_listed = record {
  asks = wide_one (ListsAs meetings meetings_table)
      (λ others apart indexes views. record { is = refl; plain = (refl, refl); unlisted = refl });
  none = refl;
  numbered = refl;
}

pub meetings_added : AddsRows meetings meetings_table
unfolding understood everything
meetings_added = wide_one (λ s. AddsGiven layout_two s meetings meetings_table)
    (λ others apart indexes views. record
    { place = 3; is = refl; plain = (refl, refl); there = refl; numbered = refl })

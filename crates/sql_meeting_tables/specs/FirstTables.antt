-- The statements on the tables that version 2 leaves empty, over the tables of a desk.
use Rattle.std.specs.Prelude.{refl}
use Rattle.sqlite.specs.Listing.{understood}
use Rattle.sqlite_tied.specs.Compute.{everything}
use Rattle.sql_schema.specs.Contents.{demands_before_sessions, polls_before_sessions, presences_before_sessions}
use Rattle.sql_schema.specs.SqlTexts.{filed_text, once_text}
use Rattle.sql_schema.specs.Statements.{layout_two}
use Rattle.sql_schema.specs.Tables.{demands_before_sessions_table, polls_before_sessions_table, presences_before_sessions_table, up_to_authorities, up_to_demands_before_sessions, up_to_presences_before_sessions}
use Rattle.sql_lemmas.proofs.Frames.{wide_one}
use Rattle.sql_lemmas.proofs.Listing.{ListsAs, ListsTable}
use Rattle.sql_lemmas.proofs.Making.{MakesTable}
use Rattle.sql_stored.specs.Stored.{EmptiesAt, EmptiesTable}

-- ---- the presences

pub presences_before_sessions_listed
    : ListsTable layout_two presences_before_sessions presences_before_sessions_table
unfolding understood everything
presences_before_sessions_listed = record {
  asks = wide_one (ListsAs presences_before_sessions presences_before_sessions_table)
      (λ others apart indexes views. record { is = refl; plain = (refl, refl); unlisted = refl });
  none = refl;
  numbered = refl;
}

pub presences_before_sessions_made
    : MakesTable up_to_authorities (filed_text presences_before_sessions_table)
    presences_before_sessions_table
unfolding understood everything Rattle.sqlite_schema.specs.Names.same_name
presences_before_sessions_made =
    record { is = refl; alone = refl; plain = (refl, refl); defined = refl; full = refl }

pub presences_before_sessions_emptied
    : EmptiesTable presences_before_sessions presences_before_sessions_table
unfolding understood everything
presences_before_sessions_emptied = record {
  place = 10;
  runs = wide_one (EmptiesAt presences_before_sessions presences_before_sessions_table 10)
      (λ others apart indexes views. record { is = refl; plain = (refl, refl); there = refl });
}

-- ---- the demands of polls

pub demands_before_sessions_listed
    : ListsTable layout_two demands_before_sessions demands_before_sessions_table
unfolding understood everything
demands_before_sessions_listed = record {
  asks = wide_one (ListsAs demands_before_sessions demands_before_sessions_table)
      (λ others apart indexes views. record { is = refl; plain = (refl, refl); unlisted = refl });
  none = refl;
  numbered = refl;
}

pub demands_before_sessions_made
    : MakesTable up_to_presences_before_sessions (filed_text demands_before_sessions_table)
    demands_before_sessions_table
unfolding understood everything Rattle.sqlite_schema.specs.Names.same_name
demands_before_sessions_made =
    record { is = refl; alone = refl; plain = (refl, refl); defined = refl; full = refl }

pub demands_before_sessions_emptied
    : EmptiesTable demands_before_sessions demands_before_sessions_table
unfolding understood everything
demands_before_sessions_emptied = record {
  place = 11;
  runs = wide_one (EmptiesAt demands_before_sessions demands_before_sessions_table 11)
      (λ others apart indexes views. record { is = refl; plain = (refl, refl); there = refl });
}

-- ---- the polls

pub polls_before_sessions_listed
    : ListsTable layout_two polls_before_sessions polls_before_sessions_table
unfolding understood everything
polls_before_sessions_listed = record {
  asks = wide_one (ListsAs polls_before_sessions polls_before_sessions_table)
      (λ others apart indexes views. record { is = refl; plain = (refl, refl); unlisted = refl });
  none = refl;
  numbered = refl;
}

pub polls_before_sessions_made
    : MakesTable up_to_demands_before_sessions (once_text polls_before_sessions_table)
    polls_before_sessions_table
unfolding understood everything Rattle.sqlite_schema.specs.Names.same_name
polls_before_sessions_made =
    record { is = refl; alone = refl; plain = (refl, refl); defined = refl; full = refl }

pub polls_before_sessions_emptied : EmptiesTable polls_before_sessions polls_before_sessions_table
unfolding understood everything
polls_before_sessions_emptied = record {
  place = 12;
  runs = wide_one (EmptiesAt polls_before_sessions polls_before_sessions_table 12)
      (λ others apart indexes views. record { is = refl; plain = (refl, refl); there = refl });
}

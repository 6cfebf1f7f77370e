-- The statements that make indexes.
use Rattle.std.specs.Prelude.{refl}
use Rattle.sqlite.specs.Listing.{understood}
use Rattle.sqlite_tied.specs.Compute.{everything}
use Rattle.sql_lemmas.proofs.Making.{MakesIndex}
use Rattle.sql_schema.specs.Tables.{appointments_by_proxy, appointments_table, authorities_by_person, authorities_table, casts_by_resolution, casts_by_voter, casts_table, demands_by_party, demands_table, demands_before_sessions_by_party, demands_before_sessions_table, presences_by_party, presences_table, up_to_appointments_by_proxy, up_to_authorities_by_person, up_to_casts, up_to_demands_by_party, up_to_demands_before_sessions_by_party, up_to_polls, up_to_presences_by_party}

pub appointments_by_proxy_made
    : MakesIndex up_to_casts (record appointments_table { tree = 12 }) appointments_by_proxy
unfolding understood everything
appointments_by_proxy_made =
    record {
      place = 7;
      is = refl;
      alone = refl;
      plain = (refl, refl);
      there = refl;
      defined = refl;
    }

pub authorities_by_person_made
    : MakesIndex up_to_appointments_by_proxy (record authorities_table { tree = 16 })
    authorities_by_person
unfolding understood everything
authorities_by_person_made =
    record {
      place = 9;
      is = refl;
      alone = refl;
      plain = (refl, refl);
      there = refl;
      defined = refl;
    }

pub demands_before_sessions_by_party_made
    : MakesIndex up_to_authorities_by_person (record demands_before_sessions_table { tree = 20 })
    demands_before_sessions_by_party
unfolding understood everything
demands_before_sessions_by_party_made =
    record {
      place = 11;
      is = refl;
      alone = refl;
      plain = (refl, refl);
      there = refl;
      defined = refl;
    }

pub casts_by_voter_made
    : MakesIndex up_to_demands_before_sessions_by_party (record casts_table { tree = 24 })
    casts_by_voter
unfolding understood everything
casts_by_voter_made =
    record {
      place = 13;
      is = refl;
      alone = refl;
      plain = (refl, refl);
      there = refl;
      defined = refl;
    }

pub presences_by_party_made
    : MakesIndex up_to_polls (record presences_table { tree = 31 }) presences_by_party
unfolding understood everything
presences_by_party_made =
    record {
      place = 15;
      is = refl;
      alone = refl;
      plain = (refl, refl);
      there = refl;
      defined = refl;
    }

pub demands_by_party_made
    : MakesIndex up_to_presences_by_party (record demands_table { tree = 33 }) demands_by_party
unfolding understood everything
demands_by_party_made =
    record {
      place = 16;
      is = refl;
      alone = refl;
      plain = (refl, refl);
      there = refl;
      defined = refl;
    }

pub casts_by_resolution_made
    : MakesIndex up_to_demands_by_party (record casts_table { tree = 24 }) casts_by_resolution
unfolding understood everything
casts_by_resolution_made =
    record {
      place = 13;
      is = refl;
      alone = refl;
      plain = (refl, refl);
      there = refl;
      defined = refl;
    }

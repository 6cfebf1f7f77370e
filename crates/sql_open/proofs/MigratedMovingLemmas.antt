-- The tables of version 1 become those of version 2, one statement after another.
use Rattle.std.proofs.Common.{◌≡◌, ◌≢◌, ℕ, ◌==◌, false, List, [], ◌∷◌, map, Ok, refl, ap, ◌∙◌, arith}
use Rattle.std.proofs.lemmas.Bool.Decides.{nat_tests}
use Rattle.sqlite.specs.Held.{Held, state}
use Rattle.sqlite.specs.Order.{Row}
use Rattle.sqlite.specs.State.{State, HasCleanDisk, KeepsCommit}
use Rattle.sqlite.proofs.StateLemmas.{survives_then}
use Rattle.sqlite_trees.specs.declared.store.Store as store
use Rattle.sql_rows.specs.Meanings.{all_meanings}
use Rattle.sql_schema.specs.Contents as table
use Rattle.sql_schema.specs.Contents.{demands_before_sessions, polls_before_sessions, presences_before_sessions}
use Rattle.sql_schema.specs.CopiedRows.{Copies}
use Rattle.sql_schema.specs.Statements.{CommitsNothing, Does, Empties, ExtendsSchema, Sets, columns_of}
use Rattle.sql_schema.specs.Tables.{demands_before_sessions_table, desk_schema, polls_before_sessions_table, presences_before_sessions_table, schema_one}
use Rattle.sql_lemmas.proofs.Frames.{extended_desk}
use Rattle.sql_model.specs.Standing.{IsVersionOf, one, two}
use Rattle.sql_model.proofs.ModelMovingLemmas.{moved}
use Rattle.sql_meeting_tables.specs.Copying.{CopiesTyped}
use Rattle.sql_open.specs.NewTables.{IsMaking}
use Rattle.sql_open.proofs.MigratedMeaningLemmas.{meant}
use Rattle.sql_open.specs.Migration.{CopiesAll, DoesAll, EmptiesAll, IsFirst, IsSecond, MovesTables}

keeps_then : (a b c : State) → KeepsCommit a b → KeepsCommit b c → KeepsCommit a c
keeps_then a b c p q = record { was_open = λ o. p.was_open (q.was_open o); committed = λ o. q.committed o ∙ p.committed (q.was_open o) }

module _ {S : Type 0} (g : store.Ghosts S) where
  -- a disk that returns what was written at the end did so before
  clean_before : (b c : Held S) → CommitsNothing g b c → HasCleanDisk (state g c) → HasCleanDisk (state g b)
  clean_before b c later clean = omega (arith, later.crash.clean, clean)

  commits_then : (a b c : Held S) → CommitsNothing g a b → CommitsNothing g b c → CommitsNothing g a c
  commits_then a b c p q = record {
    preserved = λ clean. keeps_then (state g a) (state g b) (state g c) (p.preserved (clean_before b c q clean)) (q.preserved clean);
    crash = survives_then (state g a) (state g b) (state g c) (λ _. ⊥) (λ _. ⊥) (λ _. ⊥) (λ _ _ none. none) (λ _ _ none. none) p.crash q.crash;
  }

  -- ---- tables that are copied, and emptied, one after another

  module _ (a b c d : Held S) (second : CommitsNothing g b c) (third : CommitsNothing g c d) where
    pub copied : {T U V W : Type 0} (t : T) (u : U) (v : V) (w : W) → Does g a b (Ok t) (Copies presences_before_sessions table.presences) → Does g b c (Ok u) (Copies demands_before_sessions table.demands) → Does g c d (Ok v) (Copies polls_before_sessions table.polls)
        → Does g a b (Ok t) (CopiesTyped presences_before_sessions_table presences_before_sessions table.presences) → Does g b c (Ok u) (CopiesTyped demands_before_sessions_table demands_before_sessions table.demands) → Does g c d (Ok v) (CopiesTyped polls_before_sessions_table polls_before_sessions table.polls)
        → DoesAll g a d (Ok w) (CopiesAll g a d)
    copied t u v w presences demands polls its_presences its_demands its_polls = λ clean inside desk.
        let early = clean_before c d third clean in
        let first = clean_before b c second early in
        let p = presences first inside desk in
        let q = demands early p.inside p.desk in
        record {
          first = b;
          second = c;
          presences = p;
          demands = q;
          polls = polls clean q.inside q.desk;
          presences_typed = its_presences first inside desk;
          demands_typed = its_demands early p.inside p.desk;
          polls_typed = its_polls clean q.inside q.desk;
        }

    pub emptied : {T U V W : Type 0} (t : T) (u : U) (v : V) (w : W) → Does g a b (Ok t) (Empties presences_before_sessions) → Does g b c (Ok u) (Empties demands_before_sessions) → Does g c d (Ok v) (Empties polls_before_sessions) → DoesAll g a d (Ok w) (EmptiesAll g a d)
    emptied t u v w presences demands polls = λ clean inside desk.
        let early = clean_before c d third clean in
        let p = presences (clean_before b c second early) inside desk in
        let q = demands early p.inside p.desk in
        record { first = b; second = c; presences = p; demands = q; polls = polls clean q.inside q.desk }

-- ---- all statements

differ : (a b : ℕ) → (a == b) ≡ false → a ≢ b
differ a b e = grind (arith, nat_tests)

module _ {S : Type 0} (g : store.Ghosts S) (a b c d e : Held S) (was : IsFirst (state g a)) (made : ExtendsSchema schema_one desk_schema (state g a) (state g b)) (copies : CopiesAll g b c) (empties : EmptiesAll g c d)
    (noted : Sets table.desk (λ _. two.version) (state g d) (state g e)) where
  -- the row of the version stands until it is changed
  version_stays : (state g d).now.trees 0 ≡ (state g a).now.trees 0
  version_stays =
      empties.polls.others 0 refl (differ 0 22 refl) ∙ empties.demands.others 0 refl (differ 0 20 refl) ∙ empties.presences.others 0 refl (differ 0 18 refl)
      ∙ copies.polls.others 0 refl (differ 0 35 refl) ∙ copies.demands.others 0 refl (differ 0 33 refl) ∙ copies.presences.others 0 refl (differ 0 31 refl)
      ∙ made.preserved.0

  version_noted : IsVersionOf two (state g e)
  version_noted = noted.records (one.version ∷ []) (ap (λ (rows : List Row). all_meanings table.desk.means (map (columns_of table.desk) rows)) version_stays ∙ was.version)

  are_second : IsSecond (state g a) (state g e)
  are_second = record {
    desk = noted.desk;
    schema = noted.schema ∙ empties.polls.schema ∙ empties.demands.schema ∙ empties.presences.schema ∙ copies.polls.schema ∙ copies.demands.schema ∙ copies.presences.schema ∙ made.schema;
    version = version_noted;
    inside = noted.inside;
    sound = noted.sound;
    moved = moved (state g a) (state g b) (state g copies.first) (state g copies.second) (state g c) (state g empties.first) (state g empties.second) (state g d) (state g e) was.version made copies.presences copies.demands copies.polls
        empties.presences empties.demands empties.polls noted;
    meant = meant (state g a) (state g b) (state g copies.first) (state g copies.second) (state g c) (state g empties.first) (state g empties.second) (state g d) (state g e) was.schema was.sound made copies.presences copies.demands copies.polls
        copies.presences_typed copies.demands_typed copies.polls_typed empties.presences empties.demands empties.polls noted;
  }

-- the new tables are made, the old ones copied and emptied, and the version is noted
pub moves : {S T U V W X : Type 0} (g : store.Ghosts S) (a b c d e : Held S) (t : T) (u : U) (v : V) (w : W) (x : X) → IsMaking g a b (Ok t) schema_one desk_schema → DoesAll g b c (Ok u) (CopiesAll g b c) → CommitsNothing g b c
    → DoesAll g c d (Ok v) (EmptiesAll g c d) → CommitsNothing g c d → Does g d e (Ok w) (Sets table.desk (λ _. record { number = 2 })) → CommitsNothing g d e → MovesTables g a e (Ok x)
moves g a b c d e t u v w x making copies second empties third sets fourth = record {
  moved = λ clean inside first.
      let at_d = clean_before g d e fourth clean in
      let at_c = clean_before g c d third at_d in
      let made = making.made (clean_before g b c second at_c) inside first.schema in
      let copied = copies at_c made.1 (extended_desk (state g a) (state g b) made.0 first.desk) in
      let emptied = empties at_d copied.polls.inside copied.polls.desk in
      are_second g a b c d e first made.0 copied emptied (sets clean emptied.polls.inside emptied.polls.desk);
  commits = commits_then g a b e making.commits (commits_then g b c e second (commits_then g c d e third fourth));
}

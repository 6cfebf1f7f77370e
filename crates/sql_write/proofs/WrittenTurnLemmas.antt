-- Statements one after another.
use Rattle.std.proofs.Common.{◌≡◌, inl, ℕ, suc, ◌+◌, ◌==◌, Bool, true, false, List, [], ◌∷◌, ◌++◌, length, Some, Option, Ok, Err, Result, OnOk, IsErr, refl, sym, ap, subst, ◌∙◌, arith, append_assoc, nat_lt}
use Rattle.std.specs.List.{list_all}
use Rattle.std.proofs.lemmas.List.{map-append}
use Rattle.std.proofs.lemmas.Bool.Decides.{nat_tests}
use Rattle.sqlite.specs.Held.{Held, state}
use Rattle.sqlite.specs.State.{HasCleanDisk}
use Rattle.sqlite.specs.declared.error.Error.{Error}
use Rattle.sqlite.proofs.StateLemmas.{survives_then}
use Rattle.sqlite_trees.specs.declared.store.Store as store
use Rattle.seq.specs.Ordered.{ascends_by}
use Rattle.seq.proofs.Numbers.{is_lt-nat_cmp}
use Rattle.desk_words.specs.SortedLists.{day_before}
use Rattle.desk_words.specs.declared.caller.KeyRow.{KeyRow}
use Rattle.desk_words.specs.declared.change.Change.{Change}
use Rattle.desk_words.specs.declared.office.OfficeLists.{OfficeLists}
use Rattle.desk_words.specs.declared.records.RegisterRow.{RegisterRow}
use Rattle.desk_words.specs.declared.records.Resolution.{Resolution}
use Rattle.vocabulary.specs.OptionSteps.{◌>>=◌}
use Rattle.sql_schema.specs.Contents as table
use Rattle.sql_model.specs.OfficeRecords.{FlatLists, flat_in, office_of_records}
use Rattle.sql_schema.specs.Statements.{Adds, AddsAfter, Changes, CommitsNothing, Does, TableOf}
use Rattle.sql_model.proofs.FlatChanges.{closed_held, table_changed}
use Rattle.sql_model.proofs.Names.ListName.{Register}
use Rattle.sql_model.proofs.Names.TableName.{Closed, Keys, Resolutions, Each}
use Rattle.sql_model.proofs.ModelOfficeLemmas.{AreOf, are_of}
use Rattle.sql_model.proofs.ModelRecordLemmas.{in_meeting}
use Rattle.sql_rows.proofs.RowMeaningLemmas.{bound}
use Rattle.std.proofs.lemmas.Bool.{and_parts}
use Rattle.desk_words.specs.Changes.{applied}
use Rattle.sql_write.specs.Writes.{HoldsRecords, Rewrites, Writes, all_in, any_records, no_days, numbered_on, days_added, keys_added, resolutions_added, rows_added}
use Rattle.sql_desk_tables.specs.Together.{AddsAll}
use Rattle.sql_write.proofs.Possible.{Possible, possible, version_preserved}

on_ok : {T : Type 0} {P Q : Type 0} (r : Result T Error) → OnOk r P → (P → Q) → OnOk r Q
on_ok (Ok x) h next = next h
on_ok (Err e) h next = tt

no_values : (l : List ℕ) → (length l == 0) ≡ true → l ≡ []
no_values [] h = refl
no_values (x ∷ l) h = absurd (positive (length l) h)
  where
    positive : (n : ℕ) → (suc n == 0) ≡ true → ⊥
    positive n e = grind (arith, nat_tests)

-- one resolution more has the next number
numbered-last : (n : ℕ) (rs : List Resolution) (r : Resolution) (k : ℕ) → k ≡ n + length rs → numbered_on n (rs ++ r ∷ []) ≡ numbered_on n rs ++ record { number = k; item = r } ∷ []
numbered-last n [] r k is = let same : n ≡ k = omega (arith, is) in ap (λ m. record { number = m; item = r } ∷ []) same
numbered-last n (q ∷ rest) r k is = ap (λ l. record { number = n; item = q } ∷ l) (numbered-last (suc n) rest r k (omega (arith, is)))

day_lt : (a b : ℕ) → day_before a b ≡ nat_lt a b
day_lt a b = is_lt-nat_cmp a b

lt_trans : (a b c : ℕ) → nat_lt a b ≡ true → nat_lt b c ≡ true → nat_lt a c ≡ true
lt_trans a b c h k = grind (arith, nat_tests)

earlier_each : (x : ℕ) (days : List ℕ) (day : ℕ) → ascends_by day_before (x ∷ days ++ day ∷ []) ≡ true → (nat_lt x day ≡ true) × (list_all (λ earlier. nat_lt earlier day) days ≡ true)
earlier_each x [] day up = (sym (day_lt x day) ∙ (and_parts (day_before x day) true up).0, refl)
earlier_each x (y ∷ days) day up =
    let parts = and_parts (day_before x y) (ascends_by day_before (y ∷ days ++ day ∷ [])) up in
    let later = earlier_each y days day parts.1 in
    (lt_trans x y day (sym (day_lt x y) ∙ parts.0) later.0, rw (later.0, later.1) refl)

-- of days in order each is earlier than the last
pub earlier : (days : List ℕ) (day : ℕ) → ascends_by day_before (days ++ day ∷ []) ≡ true → list_all (λ earlier. nat_lt earlier day) days ≡ true
earlier [] day up = refl
earlier (x ∷ days) day up = let parts = earlier_each x days day up in rw (parts.0, parts.1) refl

module _ {S : Type 0} (g : store.Ghosts S) where
  -- nothing is done yet
  pub nothing_turned : (held : Held S) (test : FlatLists → Bool) (change : FlatLists → FlatLists) → ((flat : FlatLists) → change flat ≡ flat) → Rewrites {T = Unit {0}} g held held (Ok tt) test change
  nothing_turned held test change same = record {
    done = λ clean flat has good. (subst (λ f. HoldsRecords f (state g held)) (sym (same flat)) has, refl);
    preserved = λ clean. record { was_open = λ o. o; committed = λ o. refl };
    crash = record {
      clean = omega arith;
      shield = λ h. h;
      counts = omega arith;
      limit = refl;
      closes = λ clean o. inl o;
      crash = λ clean db may. inl may;
    };
  }

  module _ (a b c : Held S) (test : FlatLists → Bool) (first : FlatLists → FlatLists) (one : Rewrites {T = Unit {0}} g a b (Ok tt) test first) where
    pub turns_then : {T : Type 0} (r : Result T Error) (later : FlatLists → Bool) (second : FlatLists → FlatLists) → Rewrites g b c r later second → ((flat : FlatLists) → test flat ≡ true → later (first flat) ≡ true)
        → Rewrites g a c r test (λ flat. second (first flat))
    turns_then r later second two fits = record {
      done = λ clean flat has good.
          let early : HasCleanDisk (state g b) = omega (arith, two.crash.clean) in
          let mid = one.done early flat has good in
          on_ok r (two.done clean (first flat) mid.0 (fits flat good)) (λ it. (it.0, it.1 ∙ mid.1));
      preserved = λ clean.
          let early : HasCleanDisk (state g b) = omega (arith, two.crash.clean) in
          let before = one.preserved early in
          let behind = two.preserved clean in
          record { was_open = λ o. before.was_open (behind.was_open o); committed = λ o. behind.committed o ∙ before.committed (behind.was_open o) };
      crash = survives_then (state g a) (state g b) (state g c) (λ _. ⊥) (λ _. ⊥) (λ _. ⊥) (λ _ db none. none) (λ _ db none. none) one.crash two.crash;
    }

  -- a statement is refused
  pub turns_refused : {T : Type 0} (a b : Held S) (e : Error) (test : FlatLists → Bool) (change : FlatLists → FlatLists) → CommitsNothing g a b → Rewrites {T = T} g a b (Err e) test change
  turns_refused a b e test change commits = record { done = λ clean flat has good. tt; preserved = commits.preserved; crash = commits.crash }

  -- statements that are refused change nothing that is promised
  pub turns_err : {T U : Type 0} (a b : Held S) (r : Result T Error) (answer : Result U Error) (test : FlatLists → Bool) (turn change : FlatLists → FlatLists) → IsErr answer → Rewrites g a b r test turn → Rewrites g a b answer test change
  turns_err a b r (Ok x) test turn change bad turns = absurd cc
  turns_err a b r (Err e) test turn change bad turns = record { done = λ clean flat has good. tt; preserved = turns.preserved; crash = turns.crash }

  -- a statement is refused behind others
  pub turns_failed : {T : Type 0} (a b c : Held S) (answer : Result T Error) (e : Error) (test : FlatLists → Bool) (first change : FlatLists → FlatLists) → IsErr answer → Rewrites {T = Unit {0}} g a b (Ok tt) test first → CommitsNothing g b c
      → Rewrites g a c answer test change
  turns_failed {T} a b c answer e test first change bad one commits =
      turns_err a c (Err e) answer test (λ flat. first (first flat)) change bad
      (turns_then a b c test first one {T = T} (Err e) any_records first (turns_refused {T = T} b c e any_records first commits) (λ flat good. refl))

  -- a statement is answered
  pub turns_by : {A : Type 0} (a b : Held S) (n : ℕ) (its : TableOf A) (effect : List A → List A) (change : FlatLists → FlatLists) → (0 == its.number) ≡ false → Does g a b (Ok n) (Changes its effect) → CommitsNothing g a b
      → ((flat : FlatLists) → flat_in (state g a).now.trees ≡ Some flat → Changes its effect (state g a) (state g b) → flat_in (state g b).now.trees ≡ Some (change flat))
      → Rewrites {T = Unit {0}} g a b (Ok tt) any_records change
  turns_by a b n its effect change apart does commits flatly = record {
    done = λ clean flat has good. let it = does clean has.inside has.desk in (record { desk = it.desk; version = version_preserved its.number (state g a) (state g b) apart it.others has.version; inside = it.inside; sound = it.sound; means = flatly flat has.means it }, it.schema);
    preserved = commits.preserved;
    crash = commits.crash;
  }

  pub turns_same : {T : Type 0} (a b : Held S) (r : Result T Error) (test : FlatLists → Bool) (f h : FlatLists → FlatLists) → ((flat : FlatLists) → f flat ≡ h flat) → Rewrites g a b r test f → Rewrites g a b r test h
  turns_same a b r test f h same turns = subst (λ change. Rewrites g a b r test change) (λ i flat. same flat i) turns

  -- where the records become those of the office that a change leaves, the change is written
  pub writes_from : {T : Type 0} (a b : Held S) (r : Result T Error) (change : Change) (turn : FlatLists → FlatLists) → Rewrites g a b r any_records turn
      → ((flat : FlatLists) (office : OfficeLists) → AreOf flat office → Possible office change → office_of_records (turn flat) ≡ Some (applied office change)) → Writes g a b r change
  writes_from a b r change turn turns next = record {
    written = λ clean office h can.
        let flat = bound (flat_in (state g a).now.trees) office_of_records office h.means in
        on_ok r (turns.done clean flat.0 (record { desk = h.desk; version = h.version; inside = h.inside; sound = h.sound; means = flat.1 }) refl) (λ has.
        (record { desk = has.0.desk; version = has.0.version; inside = has.0.inside; sound = has.0.sound; means = ap (λ (o : Option FlatLists). o >>= office_of_records) has.0.means ∙ next flat.0 office (are_of flat.0 office flat.2) (possible office change can) }, has.1));
    preserved = turns.preserved;
    crash = turns.crash;
  }

  -- a change that is not written
  pub writes_failed : {T U : Type 0} (a b : Held S) (r : Result T Error) (answer : Result U Error) (change : Change) (turn : FlatLists → FlatLists) → IsErr answer → Rewrites g a b r any_records turn → Writes g a b answer change
  writes_failed a b r (Ok x) change turn bad turns = absurd cc
  writes_failed a b r (Err e) change turn bad turns = record {
    written = λ clean office h can. tt;
    preserved = turns.preserved;
    crash = turns.crash;
  }

  -- rows of a register behind those that were added
  pub rows_then : {T : Type 0} (a b c : Held S) (r : Result T Error) (id : List ℕ) (rows more : List RegisterRow) → Rewrites {T = Unit {0}} g a b (Ok tt) any_records (rows_added id rows) → Rewrites g b c r any_records (rows_added id more)
      → Rewrites g a c r any_records (rows_added id (rows ++ more))
  rows_then a b c r id rows more turns later =
      turns_same a c r any_records (λ flat. rows_added id more (rows_added id rows flat)) (rows_added id (rows ++ more))
      (λ flat. ap (λ l. record flat { register = l }) (append_assoc flat.register (all_in id rows) (all_in id more) ∙ ap (λ l. flat.register ++ l) (sym (map-append (in_meeting id) rows more))))
      (turns_then a b c any_records (rows_added id rows) turns r any_records (rows_added id more) later (λ flat good. refl))

  -- ---- records more

  module _ (a b c : Held S) (n : ℕ) (commits : CommitsNothing g b c) where
    pub rows_more : (id : List ℕ) (rows more : List RegisterRow) → Rewrites {T = Unit {0}} g a b (Ok tt) any_records (rows_added id rows) → Does g b c (Ok n) (AddsAll table.register (all_in id more))
        → Rewrites {T = Unit {0}} g a c (Ok tt) any_records (rows_added id (rows ++ more))
    rows_more id rows more turns does =
        rows_then a b c (Ok tt) id rows more turns
        (turns_by b c n table.register (λ was. was ++ all_in id more) (rows_added id more) refl does commits (λ flat held. table_changed (state g b) (state g c) flat held (Each Register) (λ was. was ++ all_in id more)))

    pub key_more : (keys : List KeyRow) (key : KeyRow) → Rewrites {T = Unit {0}} g a b (Ok tt) any_records (keys_added keys) → Does g b c (Ok n) (Adds table.keys key)
        → Rewrites {T = Unit {0}} g a c (Ok tt) any_records (keys_added (keys ++ key ∷ []))
    key_more keys key turns does =
        let more = λ (flat : FlatLists). record flat { keys = flat.keys ++ key ∷ [] } in
        turns_same a c (Ok tt) any_records (λ flat. more (keys_added keys flat)) (keys_added (keys ++ key ∷ [])) (λ flat. ap (λ l. record flat { keys = l }) (append_assoc flat.keys keys (key ∷ [])))
        (turns_then a b c any_records (keys_added keys) turns (Ok tt) any_records more
        (turns_by b c n table.keys (λ was. was ++ key ∷ []) more refl does commits (λ flat held. table_changed (state g b) (state g c) flat held Keys (λ was. was ++ key ∷ []))) (λ flat good. refl))

    pub resolution_more : (id : List ℕ) (rs : List Resolution) (r : Resolution) (number : ℕ) → number ≡ 1 + length rs → Rewrites {T = Unit {0}} g a b (Ok tt) any_records (resolutions_added id rs)
        → Does g b c (Ok n) (Adds table.resolutions (in_meeting id (record { number = number; item = r }))) → Rewrites {T = Unit {0}} g a c (Ok tt) any_records (resolutions_added id (rs ++ r ∷ []))
    resolution_more id rs r number is turns does =
        let one = in_meeting id (record { number = number; item = r }) in
        let more = λ (flat : FlatLists). record flat { resolutions = flat.resolutions ++ one ∷ [] } in
        turns_same a c (Ok tt) any_records (λ flat. more (resolutions_added id rs flat)) (resolutions_added id (rs ++ r ∷ []))
        (λ flat. ap (λ l. record flat { resolutions = l }) (append_assoc flat.resolutions (all_in id (numbered_on 1 rs)) (one ∷ [])
        ∙ ap (λ l. flat.resolutions ++ l) (sym (ap (all_in id) (numbered-last 1 rs r number is) ∙ map-append (in_meeting id) (numbered_on 1 rs) (record { number = number; item = r } ∷ [])))))
        (turns_then a b c any_records (resolutions_added id rs) turns (Ok tt) any_records more
        (turns_by b c n table.resolutions (λ was. was ++ one ∷ []) more refl does commits (λ flat held. table_changed (state g b) (state g c) flat held Resolutions (λ was. was ++ one ∷ []))) (λ flat good. refl))

    -- a day after the earlier ones, where there was none before
    pub day_more : (days : List ℕ) (day : ℕ) → list_all (λ earlier. nat_lt earlier day) days ≡ true → Rewrites {T = Unit {0}} g a b (Ok tt) no_days (days_added days)
        → Does g b c (Ok n) (AddsAfter (λ earlier. nat_lt earlier day) table.closed day) → Rewrites {T = Unit {0}} g a c (Ok tt) no_days (days_added (days ++ day ∷ []))
    day_more days day behind turns does = record {
      done = λ clean flat has good.
          let early : HasCleanDisk (state g b) = omega (arith, commits.crash.clean) in
          let turned = turns.done early flat has good in
          let mid = turned.0 in
          let none : flat.closed ≡ [] = no_values flat.closed good in
          let all_earlier : list_all (λ earlier. nat_lt earlier day) (flat.closed ++ days) ≡ true = subst (λ l. list_all (λ earlier. nat_lt earlier day) (l ++ days) ≡ true) (sym none) behind in
          let it = does clean mid.inside mid.desk (flat.closed ++ days) (closed_held (state g b).now.trees (days_added days flat) mid.means) all_earlier in (
            record {
              desk = it.desk;
              version = version_preserved table.closed.number (state g b) (state g c) refl it.others mid.version;
              inside = it.inside;
              sound = it.sound;
              means = table_changed (state g b) (state g c) (days_added days flat) mid.means Closed (λ was. was ++ day ∷ []) it
                  ∙ ap (λ l. Some (record flat { closed = l })) (append_assoc flat.closed days (day ∷ []));
            },
            it.schema ∙ turned.1,
          );
      preserved = λ clean.
          let early : HasCleanDisk (state g b) = omega (arith, commits.crash.clean) in
          let before = turns.preserved early in
          let behind = commits.preserved clean in
          record { was_open = λ o. before.was_open (behind.was_open o); committed = λ o. behind.committed o ∙ before.committed (behind.was_open o) };
      crash = survives_then (state g a) (state g b) (state g c) (λ _. ⊥) (λ _. ⊥) (λ _. ⊥) (λ _ db none. none) (λ _ db none. none) turns.crash commits.crash;
    }

-- The lists of one meeting read after those of another.
use Rattle.std.proofs.Common.{◌≡◌, None, ◌<◌, ◌+◌, ℕ, zero, suc, Bool, true, false, ◌&&◌, List, [], ◌∷◌, ◌++◌, get_or, length, map, take, Option, Some, Ok, Err, Result, OnOk, IfOk, refl, sym, ap, subst, ◌∙◌, arith, true≢false}
use Rattle.std.specs.Prelude.{MatchResult}
use Rattle.std.specs.List.{list_all}
use Rattle.sqlite.specs.declared.error.Error.{Error}
use Rattle.sqlite.specs.declared.error.Error.TheVariants.{SqliteFailure}
use Rattle.sqlite.specs.declared.error.ErrorCode.TheVariants.{OutOfMemory}
use Rattle.sqlite.specs.Effect.{Database}
use Rattle.sqlite.specs.Held.{Held, state}
use Rattle.sqlite.specs.Order.{Row}
use Rattle.sqlite.specs.State.{IsUnchanged}
use Rattle.sqlite.specs.Tree.{Trees}
use Rattle.sqlite_trees.specs.declared.store.Store as store
use Rattle.vocabulary.specs.OptionSteps.{◌>>=◌, guard}
use Rattle.desk_words.specs.Office.{is_meeting}
use Rattle.desk_words.specs.declared.office.MeetingLists.{MeetingLists}
use Rattle.sql_rows.specs.Meanings.{all_meanings}
use Rattle.sql_rows.specs.declared.stored_records.InMeeting.{InMeeting}
use Rattle.sql_rows.specs.declared.stored_records.MeetingRow.{MeetingRow}
use Rattle.sql_rows.proofs.RowMeaningLemmas.{bound}
use Rattle.sql_schema.specs.Statements.{ChangesNothing, IsRead, TableOf, records_in}
use Rattle.sql_load.specs.declared.fault.LoadError.{LoadError}
use Rattle.sql_load.specs.declared.fault.LoadError.TheVariants.{NoOffice, Store, Memory}
use Rattle.sql_load.specs.LoadResults.{ReadAgrees, ReadErrAgrees, any_at_all, fault_of_error}
use Rattle.sql_load.proofs.AssembledListLemmas.{second_false}
use Rattle.sql_schema.specs.Contents as table
use Rattle.sql_open.specs.StoredRows.{counted_on}
use Rattle.sql_open.specs.MeetingReading.{lists_in, lists_of_each, meetings_in}
use Rattle.sql_load.specs.MeetingRecords.{without_meeting}
use Rattle.sql_load.specs.WholeReading.{IsReading}
use Rattle.sql_load.proofs.ReadingLemmas.{changes_then, last, read_first, read_second, then}

pub guarded : (b : Bool) (u : Unit {0}) → guard b ≡ Some u → b ≡ true
guarded true u h = refl
guarded false u h = absurd cc

always : {Z W : Type 0} (r : Result Z LoadError) → W → OnOk r W
always (Ok z) w = w
always (Err e) w = tt

-- ---- the records of a meeting

-- of a statement that is refused nothing is said
refused_agrees : {X : Type 0} (e : Error) (said : Option X) → ReadErrAgrees any_at_all (fault_of_error e) said
refused_agrees (SqliteFailure OutOfMemory) said = tt
refused_agrees other said = tt

-- where the records mean nothing, neither do they without their meetings
without_agrees : {A : Type 0} (e : LoadError) (said : Option (List (InMeeting A))) → ReadErrAgrees any_at_all e said → ReadErrAgrees any_at_all e (said >>= λ its. Some (map without_meeting its))
without_agrees NoOffice said none = λ x h. let it = bound said (λ its. Some (map without_meeting its)) x h in none it.0 it.1
without_agrees Store said none = tt
without_agrees Memory said none = tt

module _ {S V A : Type 0} (g : store.Ghosts S) (a b : Held S) (rows_in : V → List Row) (it : TableOf (InMeeting A)) (shown : Trees → List Row) where
  -- these are the rows that are to be shown
  abbrev AreRows : V → Type 0
  AreRows v = (rows_in v ≡ shown (state g a).now.trees) × IsUnchanged (state g a) (state g b)

  -- what is read of the rows that were found is read of the table
  pub own_read : (rows : Result V Error) → (IsRead g a b → IfOk rows AreRows) → ChangesNothing g a b
      → (found : Result (List (InMeeting A)) LoadError) → MatchResult rows (λ v. ReadAgrees any_at_all found (all_meanings it.means (rows_in v))) (λ e. found ≡ Err (fault_of_error e))
      → (r : Result (List A) LoadError) → MatchResult found (λ them. MatchResult r (λ items. items ≡ map without_meeting them) (λ e. e ≡ Memory)) (λ e. r ≡ Err e)
      → IsReading g a b any_at_all r (λ trees. all_meanings it.means (shown trees) >>= λ its. Some (map without_meeting its))
  own_read rows finds changes found read_as r made = record { holds = λ read. go rows (finds read) found read_as r made; same = λ read. unchanged rows (finds read) found read_as r made; changes = changes }
    where
      own : Option (List A)
      own = all_meanings it.means (shown (state g a).now.trees) >>= λ its. Some (map without_meeting its)

      go : (rows : Result V Error) → IfOk rows AreRows → (found : Result (List (InMeeting A)) LoadError) → MatchResult rows (λ v. ReadAgrees any_at_all found (all_meanings it.means (rows_in v))) (λ e. found ≡ Err (fault_of_error e))
          → (r : Result (List A) LoadError) → MatchResult found (λ them. MatchResult r (λ items. items ≡ map without_meeting them) (λ e. e ≡ Memory)) (λ e. r ≡ Err e) → ReadAgrees any_at_all r own
      go (Ok v) are (Ok them) h (Ok items) made =
          ap (λ o. o >>= λ its. Some (map without_meeting its)) (sym (ap (all_meanings it.means) are.0) ∙ h) ∙ ap (λ l. Some l) (sym made)
      go (Ok v) are (Ok them) h (Err e) made = subst (λ f. ReadErrAgrees any_at_all f own) (sym made) tt
      go (Ok v) are (Err e) h r made =
          subst (λ q. ReadAgrees any_at_all q own) (sym made) (without_agrees e (all_meanings it.means (shown (state g a).now.trees)) (subst (λ l. ReadErrAgrees any_at_all e (all_meanings it.means l)) are.0 h))
      go (Err e) are (Ok them) h r made = absurd cc
      go (Err e) are (Err f) h r made =
          let same : f ≡ fault_of_error e = cc in
          subst (λ q. ReadAgrees any_at_all q own) (sym (made ∙ ap (λ k. Err k) same)) (refused_agrees e own)

      unchanged : (rows : Result V Error) → IfOk rows AreRows → (found : Result (List (InMeeting A)) LoadError) → MatchResult rows (λ v. ReadAgrees any_at_all found (all_meanings it.means (rows_in v))) (λ e. found ≡ Err (fault_of_error e))
          → (r : Result (List A) LoadError) → MatchResult found (λ them. MatchResult r (λ items. items ≡ map without_meeting them) (λ e. e ≡ Memory)) (λ e. r ≡ Err e) → OnOk r (IsUnchanged (state g a) (state g b))
      unchanged (Ok v) are found h r made = always r are.1
      unchanged (Err e) are (Ok them) h r made = absurd cc
      unchanged (Err e) are (Err f) h r made = subst (λ (q : Result (List A) LoadError). OnOk q (IsUnchanged (state g a) (state g b))) (sym made) tt

-- ---- one reading after another

module _ {S : Type 0} (g : store.Ghosts S) where
  -- what is said otherwise of the tables that are read
  pub said_same : {X : Type 0} (a b : Held S) (right : X → Bool) (r : Result X LoadError) (said other : Trees → Option X) → (IsRead g a b → said (state g a).now.trees ≡ other (state g a).now.trees) → IsReading g a b right r said → IsReading g a b right r other
  said_same a b right r said other same one = record { holds = λ read. subst (ReadAgrees right r) (same read) (one.holds read); same = one.same; changes = one.changes }

  -- where memory ran out, nothing is said
  pub out_of_memory : {X Y : Type 0} (a b : Held S) (some : X → Bool) (right : Y → Bool) (x : X) (r : Result Y LoadError) (said : Trees → Option X) (whole : Trees → Option Y) → r ≡ Err Memory → IsReading g a b some (Ok x) said → IsReading g a b right r whole
  out_of_memory a b some right x r said whole is one = subst (λ q. IsReading g a b right q whole) (sym is) (record { holds = λ _. tt; same = λ _. tt; changes = one.changes })

  module _ {X Y : Type 0} (a b : Held S) (some : X → Bool) (right : Y → Bool) (said : Trees → Option X) (next : X → Trees → Option Y) (leads : (x : X) (trees : Trees) → some x ≡ false → (y : Y) → next x trees ≡ Some y → right y ≡ false) where
    stops : (trees : Trees) (e : LoadError) → ReadErrAgrees some e (said trees) → ReadErrAgrees right e (said trees >>= λ x. next x trees)
    stops trees NoOffice none = λ y h. let it = bound (said trees) (λ x. next x trees) y h in leads it.0 trees (none it.0 it.1) y it.2
    stops trees Store none = tt
    stops trees Memory none = tt

    -- where a part is not right, the whole is not
    pub stop_by : (e : LoadError) (r : Result Y LoadError) → r ≡ Err e → IsReading g a b some (Err e) said → IsReading g a b right r (λ trees. said trees >>= λ x. next x trees)
    stop_by e r is one = subst (λ (q : Result Y LoadError). IsReading g a b right q (λ trees. said trees >>= λ x. next x trees)) (sym is) (record {
      holds = λ read. stops (state g a).now.trees e (one.holds read);
      same = λ _. tt;
      changes = one.changes;
    })

  module _ {X : Type 0} (a b : Held S) (right : X → Bool) (said : Trees → Option X) where
    -- what is read is so, whatever is right
    pub as_any : (x : X) → IsReading g a b right (Ok x) said → IsReading g a b any_at_all (Ok x) said
    as_any x one = record { holds = one.holds; same = one.same; changes = one.changes }

    -- what is made of it last, where it is known what it is
    pub last_known : {Y : Type 0} (then_right : Y → Bool) (x : X) (r : Result Y LoadError) (next : X → Option Y) → IsReading g a b right (Ok x) said → ((trees : Trees) → said trees ≡ Some x → ReadAgrees then_right r (next x)) → IsReading g a b then_right r (λ trees. said trees >>= next)
    last_known then_right x r next one so = record {
      holds = λ read. subst (λ o. ReadAgrees then_right r (o >>= next)) (sym (one.holds read)) (so (state g a).now.trees (one.holds read));
      same = λ read. always r (one.same read);
      changes = one.changes;
    }

    -- where it is judged, a fault of its reading is one of the judgement
    pub judged_stop : {Y : Type 0} (made : X → Y) (e : LoadError) (r : Result Y LoadError) → r ≡ Err e → IsReading g a b right (Err e) said → IsReading g a b any_at_all r (λ trees. said trees >>= λ x. guard (right x) >>= λ _. Some (made x))
    judged_stop made = stop_by a b right any_at_all said (λ x _. guard (right x) >>= λ _. Some (made x)) (λ x trees wrong y h. let it = bound (guard (right x)) (λ _. Some (made x)) y h in absurd (true≢false (sym (guarded (right x) it.0 it.1) ∙ wrong)))

  -- where a part that is read is not right, and so the whole is not
  pub stop_held : {X Y : Type 0} (a b : Held S) (some : X → Bool) (right : Y → Bool) (said : Trees → Option X) (next : X → Trees → Option Y) → ((trees : Trees) (x : X) → said trees ≡ Some x → some x ≡ false → (y : Y) → next x trees ≡ Some y → right y ≡ false)
      → (e : LoadError) (r : Result Y LoadError) → r ≡ Err e → IsReading g a b some (Err e) said → IsReading g a b right r (λ trees. said trees >>= λ x. next x trees)
  stop_held {Y = Y} a b some right said next leads e r is one = subst (λ (q : Result Y LoadError). IsReading g a b right q (λ trees. said trees >>= λ x. next x trees)) (sym is) (record {
    holds = λ read. go e (state g a).now.trees (one.holds read);
    same = λ _. tt;
    changes = one.changes;
  })
    where
      go : (e : LoadError) (trees : Trees) → ReadErrAgrees some e (said trees) → ReadErrAgrees right e (said trees >>= λ x. next x trees)
      go NoOffice trees none = λ y h. let it = bound (said trees) (λ x. next x trees) y h in leads trees it.0 it.1 (none it.0 it.1) y it.2
      go Store trees none = tt
      go Memory trees none = tt

  -- a fault after a reading, where it is one of the whole
  pub stop_within : {X Y Z : Type 0} (a b c : Held S) (some : Y → Bool) (right : Z → Bool) (x : X) (e : LoadError) (r : Result Z LoadError) (said : Trees → Option X) (next : Trees → Option Y) (whole : Trees → Option Z)
      → (IsRead g a b → ReadErrAgrees some e (next (state g a).now.trees) → ReadErrAgrees right e (whole (state g a).now.trees)) → r ≡ Err e → IsReading g a b any_at_all (Ok x) said → IsReading g b c some (Err e) next → IsReading g a c right r whole
  stop_within a b c some right x e r said next whole leads is one two = subst (λ q. IsReading g a c right q whole) (sym is) (record {
    holds = λ read.
        let first = read_first g a b c two.changes.crash read in
        let same = one.same first in
        leads first (subst (λ (d : Database). ReadErrAgrees some e (next d.trees)) same.0.now_is (two.holds (read_second g a b c same read)));
    same = λ _. tt;
    changes = changes_then g a b c one.same one.changes two.changes;
  })

-- ---- the lists of each meeting

-- those of one meeting more
pub each_more : (rows : List MeetingRow) (m : MeetingRow) → ◌≡◌ {A = Trees → Option (List MeetingLists)} (λ trees. lists_of_each rows trees >>= λ all. lists_in m trees >>= λ lists. Some (all ++ lists ∷ [])) (lists_of_each (rows ++ m ∷ []))
each_more [] m = refl
each_more (row ∷ rows) m = λ i trees. go (lists_in row trees) (lists_of_each rows trees) (lists_in m trees) (λ j. each_more rows m j trees) i
  where
    go : (first : Option MeetingLists) (later : Option (List MeetingLists)) (last : Option MeetingLists) {more : Option (List MeetingLists)} → (later >>= λ all. last >>= λ lists. Some (all ++ lists ∷ [])) ≡ more
        → ((first >>= λ f. later >>= λ l. Some (f ∷ l)) >>= λ all. last >>= λ lists. Some (all ++ lists ∷ [])) ≡ (first >>= λ f. more >>= λ l. Some (f ∷ l))
    go (Some f) (Some l) (Some x) is = rw (← is) refl
    go (Some f) (Some l) None is = rw (← is) refl
    go (Some f) None last is = rw (← is) refl
    go None later last is = refl

-- where those of one are no meeting's
pub one_wrong : (trees : Trees) (rows : List MeetingRow) (i : ℕ) (m : MeetingRow) → i < length rows → m ≡ get_or rows i m → ((lists : MeetingLists) → lists_in m trees ≡ Some lists → is_meeting lists ≡ false)
    → (all : List MeetingLists) → lists_of_each rows trees ≡ Some all → list_all is_meeting all ≡ false
one_wrong trees [] i m less is none all h = absurd (omega arith)
one_wrong trees (next ∷ rows) zero m less is none all h =
    let first = bound (lists_in next trees) (λ f. lists_of_each rows trees >>= λ later. Some (f ∷ later)) all h in
    let later = bound (lists_of_each rows trees) (λ l. Some (first.0 ∷ l)) all first.2 in
    let same : first.0 ∷ later.0 ≡ all = cc in
    ap (list_all is_meeting) (sym same) ∙ ap (λ b. b && list_all is_meeting later.0) (none first.0 (ap (λ r. lists_in r trees) is ∙ first.1))
one_wrong trees (next ∷ rows) (suc i) m less is none all h =
    let first = bound (lists_in next trees) (λ f. lists_of_each rows trees >>= λ later. Some (f ∷ later)) all h in
    let later = bound (lists_of_each rows trees) (λ l. Some (first.0 ∷ l)) all first.2 in
    let same : first.0 ∷ later.0 ≡ all = cc in
    ap (list_all is_meeting) (sym same)
    ∙ second_false (is_meeting first.0) (list_all is_meeting later.0) (one_wrong trees rows i m (omega (arith, less)) is none later.0 later.1)

pub one_agrees : (rows : List MeetingRow) (i : ℕ) (m : MeetingRow) → i < length rows → m ≡ get_or rows i m → (e : LoadError) (trees : Trees) → ReadErrAgrees is_meeting e (lists_in m trees) → ReadErrAgrees (list_all is_meeting) e (lists_of_each rows trees)
one_agrees rows i m less is NoOffice trees none = one_wrong trees rows i m less is none
one_agrees rows i m less is Store trees none = tt
one_agrees rows i m less is Memory trees none = tt

-- those of the first meetings, of rows that are these
abbrev pub first_lists : List MeetingRow → ℕ → Trees → Option (List MeetingLists)
first_lists rows i trees = records_in table.meetings trees >>= λ _. lists_of_each (take i rows) trees

module _ {S : Type 0} (g : store.Ghosts S) (a b : Held S) (rows : List MeetingRow) (i : ℕ) where
  pub lists_turn : (c : Held S) (m : MeetingRow) (all : List MeetingLists) (lists : MeetingLists) → take (i + 1) rows ≡ take i rows ++ m ∷ [] → IsReading g a b any_at_all (Ok all) (first_lists rows i) → IsReading g b c any_at_all (Ok lists) (lists_in m)
      → IsReading g a c any_at_all (Ok (all ++ lists ∷ [])) (first_lists rows (i + 1))
  lists_turn c m all lists next one two =
      said_same g a c any_at_all (Ok (all ++ lists ∷ [])) (λ trees. first_lists rows i trees >>= λ l. lists_in m trees >>= λ x. Some (l ++ x ∷ [])) (first_lists rows (i + 1))
      (λ read. go (records_in table.meetings (state g a).now.trees) ((λ j. each_more (take i rows) m j (state g a).now.trees) ∙ ap (λ l. lists_of_each l (state g a).now.trees) (sym next)))
      (then g a b c any_at_all all (Ok (all ++ lists ∷ [])) (first_lists rows i) (λ l trees. lists_in m trees >>= λ x. Some (l ++ x ∷ [])) one (last g b c any_at_all lists (Ok (all ++ lists ∷ [])) (lists_in m) (λ x. Some (all ++ x ∷ [])) two refl))
    where
      trees : Trees
      trees = (state g a).now.trees

      go : (o : Option (List MeetingRow)) → (lists_of_each (take i rows) trees >>= λ l. lists_in m trees >>= λ x. Some (l ++ x ∷ [])) ≡ lists_of_each (take (i + 1) rows) trees
          → ((o >>= λ _. lists_of_each (take i rows) trees) >>= λ l. lists_in m trees >>= λ x. Some (l ++ x ∷ [])) ≡ (o >>= λ _. lists_of_each (take (i + 1) rows) trees)
      go (Some r) is = is
      go None is = refl

  pub lists_stop : (c : Held S) (m : MeetingRow) (all : List MeetingLists) (e : LoadError) (r : Result (List MeetingLists) LoadError) → i < length rows → m ≡ get_or rows i m → (IsRead g a b → records_in table.meetings (state g a).now.trees ≡ Some rows) → r ≡ Err e
      → IsReading g a b any_at_all (Ok all) (first_lists rows i) → IsReading g b c is_meeting (Err e) (lists_in m) → IsReading g a c (list_all is_meeting) r meetings_in
  lists_stop c m all e r less is held failed =
      stop_within g a b c is_meeting (list_all is_meeting) all e r (first_lists rows i) (lists_in m) meetings_in
      (λ read none. subst (λ o. ReadErrAgrees (list_all is_meeting) e (o >>= λ l. lists_of_each l (state g a).now.trees)) (sym (held read)) (one_agrees rows i m less is e (state g a).now.trees none)) failed

-- ---- what is judged and counted of each of some things

counted_more : {X : Type 0} (its : X → Trees → Option ℕ) (xs : List X) (x : X) (n : ℕ) (trees : Trees) → (counted_on its xs n trees >>= λ count. its x trees >>= λ more. Some (count + more)) ≡ counted_on its (xs ++ x ∷ []) n trees
counted_more its [] x n trees = refl
counted_more its (y ∷ ys) x n trees = go (its y trees) (λ k. counted_more its ys x (n + k) trees)
  where
    go : (o : Option ℕ) → ((k : ℕ) → (counted_on its ys (n + k) trees >>= λ count. its x trees >>= λ more. Some (count + more)) ≡ counted_on its (ys ++ x ∷ []) (n + k) trees) → ((o >>= λ k. counted_on its ys (n + k) trees) >>= λ count. its x trees >>= λ more. Some (count + more)) ≡ (o >>= λ k. counted_on its (ys ++ x ∷ []) (n + k) trees)
    go (Some k) rest = rest k
    go None rest = refl

one_counted : {X : Type 0} (its : X → Trees → Option ℕ) (xs : List X) (i : ℕ) (x : X) → i < length xs → x ≡ get_or xs i x → (trees : Trees) (n count : ℕ) → counted_on its xs n trees ≡ Some count → (k : ℕ) × (its x trees ≡ Some k)
one_counted its [] i x less is trees n count h = absurd (omega arith)
one_counted its (y ∷ ys) zero x less is trees n count h = let first = bound (its y trees) _ count h in (first.0, ap (λ z. its z trees) is ∙ first.1)
one_counted its (y ∷ ys) (suc i) x less is trees n count h =
    let first = bound (its y trees) _ count h in
    one_counted its ys i x (omega (arith, less)) is trees (n + first.0) count first.2

counted_agrees : {X : Type 0} (its : X → Trees → Option ℕ) (xs : List X) (i : ℕ) (x : X) → i < length xs → x ≡ get_or xs i x → (n : ℕ) (e : LoadError) (trees : Trees) → ReadErrAgrees any_at_all e (its x trees) → ReadErrAgrees any_at_all e (counted_on its xs n trees)
counted_agrees its xs i x less is n NoOffice trees none = λ count h. let k = one_counted its xs i x less is trees n count h in none k.0 k.1
counted_agrees its xs i x less is n Store trees none = tt
counted_agrees its xs i x less is n Memory trees none = tt

-- those of the first of the things, behind what was read before
abbrev pub first_counted : {X Z : Type 0} → (Trees → Option Z) → (X → Trees → Option ℕ) → List X → ℕ → ℕ → Trees → Option ℕ
first_counted before its xs n i trees = before trees >>= λ _. counted_on its (take i xs) n trees

module _ {S X Z : Type 0} (g : store.Ghosts S) (a b c : Held S) (before : Trees → Option Z) (its : X → Trees → Option ℕ) (xs : List X) (n i : ℕ) (x : X) (count : ℕ) (one : IsReading g a b any_at_all (Ok count) (first_counted before its xs n i)) where
  pub counted_turn : (more sum : ℕ) → sum ≡ count + more → take (i + 1) xs ≡ take i xs ++ x ∷ [] → IsReading g b c any_at_all (Ok more) (its x) → IsReading g a c any_at_all (Ok sum) (first_counted before its xs n (i + 1))
  counted_turn more sum is next two =
      said_same g a c any_at_all (Ok sum) (λ trees. first_counted before its xs n i trees >>= λ m. its x trees >>= λ k. Some (m + k)) (first_counted before its xs n (i + 1))
      (λ read. go (before (state g a).now.trees) (counted_more its (take i xs) x n (state g a).now.trees ∙ ap (λ l. counted_on its l n (state g a).now.trees) (sym next)))
      (then g a b c any_at_all count (Ok sum) (first_counted before its xs n i) (λ m trees. its x trees >>= λ k. Some (m + k)) one (last g b c any_at_all more (Ok sum) (its x) (λ k. Some (count + k)) two (ap (λ m. Some m) (sym is))))
    where
      trees : Trees
      trees = (state g a).now.trees

      go : (o : Option Z) → (counted_on its (take i xs) n trees >>= λ m. its x trees >>= λ k. Some (m + k)) ≡ counted_on its (take (i + 1) xs) n trees
          → ((o >>= λ _. counted_on its (take i xs) n trees) >>= λ m. its x trees >>= λ k. Some (m + k)) ≡ (o >>= λ _. counted_on its (take (i + 1) xs) n trees)
      go (Some z) is = is
      go None is = refl

  pub counted_fault : (z : Z) (whole : Z → Trees → Option ℕ) (e : LoadError) (r : Result ℕ LoadError) → i < length xs → x ≡ get_or xs i x → (IsRead g a b → before (state g a).now.trees ≡ Some z) → ((trees : Trees) → whole z trees ≡ counted_on its xs n trees) → r ≡ Err e
      → IsReading g b c any_at_all (Err e) (its x) → IsReading g a c any_at_all r (λ trees. before trees >>= λ y. whole y trees)
  counted_fault z whole e r less is held same failed_as failed =
      stop_within g a b c any_at_all any_at_all count e r (first_counted before its xs n i) (its x) (λ trees. before trees >>= λ y. whole y trees)
      (λ read none. subst (λ o. ReadErrAgrees any_at_all e (o >>= λ y. whole y (state g a).now.trees)) (sym (held read)) (subst (ReadErrAgrees any_at_all e) (sym (same (state g a).now.trees)) (counted_agrees its xs i x less is n e (state g a).now.trees none))) failed_as one failed

-- those of all of them
pub counted_whole : {S X Z : Type 0} (g : store.Ghosts S) (a b : Held S) (before : Trees → Option Z) (its : X → Trees → Option ℕ) (xs : List X) (n : ℕ) (count : ℕ) (z : Z) (whole : Z → Trees → Option ℕ)
    → (IsRead g a b → before (state g a).now.trees ≡ Some z) → ((trees : Trees) → whole z trees ≡ counted_on its xs n trees) → (i : ℕ) → take i xs ≡ xs → IsReading g a b any_at_all (Ok count) (first_counted before its xs n i)
    → IsReading g a b any_at_all (Ok count) (λ trees. before trees >>= λ y. whole y trees)
counted_whole g a b before its xs n count z whole held same i all one =
    said_same g a b any_at_all (Ok count) (first_counted before its xs n i) (λ trees. before trees >>= λ y. whole y trees)
    (λ read. ap (λ o. o >>= λ _. counted_on its (take i xs) n (state g a).now.trees) (held read) ∙ ap (λ l. counted_on its l n (state g a).now.trees) all ∙ sym (same (state g a).now.trees) ∙ ap (λ o. o >>= λ y. whole y (state g a).now.trees) (sym (held read))) one

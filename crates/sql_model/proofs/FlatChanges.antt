-- A change of what one table holds.
use Rattle.std.proofs.Common.{◌≡◌, ◌≢◌, ℕ, ◌==◌, Bool, true, false, List, map, Option, Some, None, inl, inr, refl, sym, ap, subst, ◌∙◌, IsTrue, arith}
use Rattle.std.proofs.lemmas.Bool.{cases_Bool}
use Rattle.std.proofs.lemmas.Bool.Decides.{nat_tests}
use Rattle.vocabulary.specs.OptionSteps.{◌>>=◌, guard}
use Rattle.sqlite.specs.State.{State}
use Rattle.sqlite.specs.Tree.{Trees}
use Rattle.sql_rows.specs.Meanings.{all_meanings}
use Rattle.sql_schema.specs.Contents as table
use Rattle.sql_schema.specs.Statements.{Changes, columns_of, has_table, layout_two, records_in}
use Rattle.sql_model.specs.OfficeRecords.{FlatLists, are_left_empty, flat_in, flat_two}
use Rattle.sql_model.proofs.Names.{RecordOf, TableName, all-changed, all-same, stored_as, number_of, same_table}
use Rattle.sql_model.proofs.Names.ListName.{Register, Appointments, Endings, Authorities, Presences, Demands, Polls, Casts}
use Rattle.sql_model.proofs.Names.TableName.{Keys, Closed, Meetings, Sessions, Resolutions, Each}

-- the tables hold these records, and those that version 2 leaves empty have none
pub record HoldAll (trees : Trees) (flat : FlatLists) : Type 0 where
  pub keys : records_in table.keys trees ≡ Some flat.keys
  pub closed : records_in table.closed trees ≡ Some flat.closed
  pub meetings : records_in table.meetings trees ≡ Some flat.meetings
  pub sessions : records_in table.sessions trees ≡ Some flat.sessions
  pub resolutions : records_in table.resolutions trees ≡ Some flat.resolutions
  pub register : records_in table.register trees ≡ Some flat.register
  pub appointments : records_in table.appointments trees ≡ Some flat.appointments
  pub endings : records_in table.endings trees ≡ Some flat.endings
  pub authorities : records_in table.authorities trees ≡ Some flat.authorities
  pub presences : records_in table.presences trees ≡ Some flat.presences
  pub demands : records_in table.demands trees ≡ Some flat.demands
  pub polls : records_in table.polls trees ≡ Some flat.polls
  pub casts : records_in table.casts trees ≡ Some flat.casts
  pub left : are_left_empty trees ≡ true

pub some_is : {A : Type 0} {a b : A} → ◌≡◌ {A = Option A} (Some a) (Some b) → a ≡ b
some_is h = cc

-- what is read of two readings is read of both
pub both_read : {A B C : Type 0} (o : Option A) (next : A → Option B) (x : B) → (o >>= next) ≡ Some x → ((a : A) → o ≡ Some a → next a ≡ Some x → C) → C
both_read None next x h so = absurd cc
both_read (Some a) next x h so = so a refl h

-- what is read where a test passes
pub only_is : {B : Type 0} (b : Bool) (next : Unit {0} → Option B) (x : B) → (guard b >>= next) ≡ Some x → (b ≡ true) × (next tt ≡ Some x)
only_is true next x h = (refl, h)
only_is false next x h = absurd cc

-- the records of the tables are what each of them holds
pub all_held : (trees : Trees) (flat : FlatLists) → flat_in trees ≡ Some flat → HoldAll trees flat
unfolding flat_two
all_held trees flat h =
    let all = only_is (are_left_empty trees) _ flat h in
    let left = all.0 in
    both_read (records_in table.keys trees) _ flat all.1 λ keys its_keys h.
    both_read (records_in table.closed trees) _ flat h λ closed its_closed h.
    both_read (records_in table.meetings trees) _ flat h λ meetings its_meetings h.
    both_read (records_in table.sessions trees) _ flat h λ sessions its_sessions h.
    both_read (records_in table.resolutions trees) _ flat h λ resolutions its_resolutions h.
    both_read (records_in table.register trees) _ flat h λ register its_register h.
    both_read (records_in table.appointments trees) _ flat h λ appointments its_appointments h.
    both_read (records_in table.endings trees) _ flat h λ endings its_endings h.
    both_read (records_in table.authorities trees) _ flat h λ authorities its_authorities h.
    both_read (records_in table.presences trees) _ flat h λ presences its_presences h.
    both_read (records_in table.demands trees) _ flat h λ demands its_demands h.
    both_read (records_in table.polls trees) _ flat h λ polls its_polls h.
    both_read (records_in table.casts trees) _ flat h λ casts its_casts h.
    subst (HoldAll trees) (some_is h) assumption

-- each table by its name
abbrev HoldsOf : Trees → FlatLists → TableName → Type 0
HoldsOf trees flat n = records_in (stored_as n).table trees ≡ Some ((stored_as n).all flat)

each_held : (trees : Trees) (flat : FlatLists) → HoldAll trees flat → (n : TableName) → HoldsOf trees flat n
each_held trees flat h = elim [ Keys ↦ assumption | Each Register ↦ assumption | _ ↦ assumption ]

-- and the records are so, where each table holds its own
flat_from : (trees : Trees) (flat : FlatLists) → ((n : TableName) → HoldsOf trees flat n) → are_left_empty trees ≡ true → flat_in trees ≡ Some flat
unfolding flat_two
flat_from trees flat h left =
    rw (left, h Keys, h Closed, h Meetings, h Sessions, h Resolutions, h (Each Register), h (Each Appointments), h (Each Endings), h (Each Authorities), h (Each Presences), h (Each Demands), h (Each Polls), h (Each Casts)) refl

pub flat_held : (trees : Trees) (flat : FlatLists) → HoldAll trees flat → flat_in trees ≡ Some flat
flat_held trees flat h = flat_from trees flat (each_held trees flat h) h.left

differ : (a b : ℕ) → (a == b) ≡ false → a ≢ b
differ a b e = grind (arith, nat_tests)

is_one : (n : TableName) → IsTrue (has_table layout_two (number_of n))
is_one = elim [ Keys ↦ refl | Each Register ↦ refl | _ ↦ refl ]

-- it is none of those that are left empty
not_left : (n : TableName) → ((18 == number_of n) ≡ false) × ((20 == number_of n) ≡ false) × ((22 == number_of n) ≡ false)
not_left = elim [ Keys ↦ (refl, refl, refl) | Each Register ↦ (refl, refl, refl) | _ ↦ (refl, refl, refl) ]

-- where what one table holds is changed, so are its records
pub table_changed : (old new : State) (flat : FlatLists) → flat_in old.now.trees ≡ Some flat → (n : TableName) (change : List (RecordOf n) → List (RecordOf n)) → Changes (stored_as n).table change old new
    → flat_in new.now.trees ≡ Some ((stored_as n).with_all (change ((stored_as n).all flat)) flat)
table_changed old new flat held n change c = flat_from new.now.trees after each still
  where
    after : FlatLists
    after = (stored_as n).with_all (change ((stored_as n).all flat)) flat

    was : (m : TableName) → HoldsOf old.now.trees flat m
    was = each_held old.now.trees flat (all_held old.now.trees flat held)

    still : are_left_empty new.now.trees ≡ true
    still =
        let apart = not_left n in
        rw (c.others 18 refl (differ 18 (number_of n) apart.0), c.others 20 refl (differ 20 (number_of n) apart.1), c.others 22 refl (differ 22 (number_of n) apart.2)) (all_held old.now.trees flat held).left

    each : (m : TableName) → HoldsOf new.now.trees after m
    each m = elim (cases_Bool (number_of m == number_of n)) [
      | inl same ↦ subst (HoldsOf new.now.trees after) (sym (same_table m n same)) (c.records ((stored_as n).all flat) (was n) ∙ ap (λ l. Some l) (sym (all-changed n (change ((stored_as n).all flat)) flat)))
      | inr apart ↦
          ap (λ rows. all_meanings (stored_as m).table.means (map (columns_of (stored_as m).table) rows)) (c.others (number_of m) (is_one m) (differ (number_of m) (number_of n) apart))
          ∙ was m ∙ ap (λ l. Some l) (sym (all-same m n apart (change ((stored_as n).all flat)) flat))
    ]

-- the keys, and the closed days, are what their tables hold
pub keys_held : (trees : Trees) (flat : FlatLists) → flat_in trees ≡ Some flat → records_in table.keys trees ≡ Some flat.keys
keys_held trees flat held = (all_held trees flat held).keys

pub closed_held : (trees : Trees) (flat : FlatLists) → flat_in trees ≡ Some flat → records_in table.closed trees ≡ Some flat.closed
closed_held trees flat held = (all_held trees flat held).closed

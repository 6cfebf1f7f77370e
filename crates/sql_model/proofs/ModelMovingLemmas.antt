-- The move of tables of version 1 to version 2, statement by statement.
use Rattle.std.proofs.Common.{◌≡◌, ◌≢◌, ℕ, ◌==◌, true, false, ◌||◌, List, [], ◌∷◌, map, Some, inl, inr, refl, sym, ap, subst, ◌∙◌, IsTrue, arith, true≢false}
use Rattle.std.specs.List.{AllByRecursion, list_any}
use Rattle.std.proofs.lemmas.Bool.Decides.{eqb_tells, nat_tests}
use Rattle.std.proofs.lemmas.List.Folds.{list_any-append}
use Rattle.sqlite.specs.Order.{Row, column}
use Rattle.sqlite.specs.State.{State}
use Rattle.sqlite.specs.Tree.{Trees, rowid}
use Rattle.sqlite.specs.declared.types.Value.{Value}
use Rattle.desk_words.specs.declared.records.PresenceMark.{PresenceMark}
use Rattle.desk_words.specs.declared.records.DemandMark.{DemandMark}
use Rattle.desk_words.specs.declared.records.Poll.{Poll}
use Rattle.desk_words.specs.declared.records.Session.{Session}
use Rattle.sql_rows.specs.declared.stored_records.InMeeting.{InMeeting}
use Rattle.sql_rows.specs.declared.stored_records.Numbered.{Numbered}
use Rattle.sql_rows.specs.ColumnValues.{flag_in, moment_in, natural_value, number_in, some_moment_in, parsed_in, parsed_of}
use Rattle.sql_rows.specs.Columns.{moment_value}
use Rattle.sql_rows.specs.Marks.{declared_in, demand_mark_in, demand_mark_of, demand_before_sessions_in, poll_in, poll_before_sessions_in, presence_in, presence_of, presence_before_sessions_in}
use Rattle.sql_rows.specs.Meanings.{all_meanings}
use Rattle.sql_rows.proofs.ColumnLemmas.{in_first, three_in_first}
use Rattle.sql_rows.proofs.RowMeaningLemmas.{bound}
use Rattle.vocabulary.specs.Names.{meeting_of, party_of}
use Rattle.sql_schema.specs.Contents as table
use Rattle.sql_schema.specs.Contents.{demands_before_sessions, polls_before_sessions, presences_before_sessions}
use Rattle.sql_schema.specs.CopiedRows.{Copied, Copies, in_first_session}
use Rattle.sql_schema.specs.Statements.{Empties, ExtendsSchema, Sets, TableOf, columns_of, has_table, layout_one, layout_two, records_in, table_rows}
use Rattle.sql_schema.specs.Tables.{desk_schema, schema_one}
use Rattle.sql_model.specs.MigratedRecords.{IsMoved, Stays}
use Rattle.sql_model.specs.OfficeRecords.{FlatLists, are_left_empty, flat_one}
use Rattle.sql_model.specs.Standing.{IsVersionOf, one, two}
use Rattle.sql_model.proofs.FlatChanges.{HoldAll, both_read, flat_held, some_is}

-- ---- what a row means in the first session

pub presence_same : (meeting : Value) (cells : Row) → presence_in (in_first_session (meeting ∷ cells)) ≡ presence_before_sessions_in (meeting ∷ cells)
unfolding presence_before_sessions_in presence_in parsed_in moment_in
presence_same meeting cells =
    let of : List ℕ → ℕ × (List ℕ × ℕ) → InMeeting PresenceMark = λ m r. record { meeting = m; item = presence_of r } in
    in_first (parsed_of meeting_of meeting) (parsed_of party_of (column cells 0)) (moment_value (column cells 1)) of

pub demand_same : (meeting : Value) (cells : Row) → demand_mark_in (in_first_session (meeting ∷ cells)) ≡ demand_before_sessions_in (meeting ∷ cells)
unfolding demand_before_sessions_in demand_mark_in parsed_in moment_in number_in
demand_same meeting cells =
    let of : List ℕ → ℕ × (ℕ × (List ℕ × ℕ)) → InMeeting DemandMark = λ m r. record { meeting = m; item = demand_mark_of r } in
    three_in_first (parsed_of meeting_of meeting) (natural_value (column cells 0)) (parsed_of party_of (column cells 1)) (moment_value (column cells 2)) of

pub presence_moved : (cells : Row) (x : InMeeting PresenceMark) → presence_before_sessions_in cells ≡ Some x → presence_in (in_first_session cells) ≡ Some x
unfolding presence_before_sessions_in parsed_in
presence_moved [] x h = absurd cc
presence_moved (meeting ∷ cells) x h = presence_same meeting cells ∙ h

pub demand_moved : (cells : Row) (x : InMeeting DemandMark) → demand_before_sessions_in cells ≡ Some x → demand_mark_in (in_first_session cells) ≡ Some x
unfolding demand_before_sessions_in parsed_in
demand_moved [] x h = absurd cc
demand_moved (meeting ∷ cells) x h = demand_same meeting cells ∙ h

pub poll_moved : (cells : Row) (x : InMeeting Poll) → poll_before_sessions_in cells ≡ Some x → poll_in (in_first_session cells) ≡ Some x
unfolding poll_before_sessions_in poll_in parsed_in moment_in number_in flag_in some_moment_in declared_in
poll_moved [] x h = absurd cc
poll_moved (meeting ∷ cells) x h = h

-- ---- what tables mean

-- the rows of a table mean the same in the first session
module _ {A : Type 0} (first second : TableOf A) (means : (cells : Row) (x : A) → first.means cells ≡ Some x → second.means (in_first_session cells) ≡ Some x) where
  all_moved : (rows : List Row) (was : List A) → all_meanings first.means rows ≡ Some was → all_meanings second.means (map in_first_session rows) ≡ Some was
  all_moved [] was h = h
  all_moved (row ∷ rows) was h =
      let it = bound (first.means row) _ was h in
      let later = bound (all_meanings first.means rows) _ was it.2 in
      rw (means row it.0 it.1, all_moved rows later.0 later.1) later.2

  pub records_moved : (old new : Trees) (was : List A) → Copied first second old new → records_in first old ≡ Some was → records_in second new ≡ Some was
  records_moved old new was copied h = ap (all_meanings second.means) copied.rows ∙ all_moved (table_rows first old) was h

  -- what was copied stands where both tables have the same rows
  copied_still : (a b old new : Trees) → Copied first second a b → old first.number ≡ a first.number → new second.number ≡ b second.number → Copied first second old new
  copied_still a b old new copied from to = record {
    numbers = ap (map rowid) to ∙ copied.numbers ∙ sym (ap (map rowid) from);
    rows = ap (map (columns_of second)) to ∙ copied.rows ∙ sym (ap (λ (rows : List Row). map in_first_session (map (columns_of first) rows)) from);
  }

-- records of a table with the same rows
same_records : {A : Type 0} (it : TableOf A) (old new : Trees) → new it.number ≡ old it.number → records_in it new ≡ records_in it old
same_records it old new same = ap (λ (rows : List Row). all_meanings it.means (map (columns_of it) rows)) same

-- a table with no record has no row
no_row : {A : Type 0} (it : TableOf A) (trees : Trees) → records_in it trees ≡ Some [] → trees it.number ≡ []
no_row {A} it trees h = go (trees it.number) h
  where
    go : (rows : List Row) → all_meanings it.means (map (columns_of it) rows) ≡ Some [] → rows ≡ []
    go [] h = refl
    go (row ∷ rows) h =
        let first = bound (it.means (columns_of it row)) _ [] h in
        let later = bound (all_meanings it.means (map (columns_of it) rows)) _ [] first.2 in
        absurd (let e : first.0 ∷ later.0 ≡ [] = some_is later.2 in cc)

-- ---- what tables of version 1 hold

pub record HoldOne (trees : Trees) (flat : FlatLists) : Type 0 where
  pub keys : records_in table.keys trees ≡ Some flat.keys
  pub closed : records_in table.closed trees ≡ Some flat.closed
  pub meetings : records_in table.meetings trees ≡ Some flat.meetings
  pub sessions : flat.sessions ≡ []
  pub resolutions : records_in table.resolutions trees ≡ Some flat.resolutions
  pub register : records_in table.register trees ≡ Some flat.register
  pub appointments : records_in table.appointments trees ≡ Some flat.appointments
  pub endings : records_in table.endings trees ≡ Some flat.endings
  pub authorities : records_in table.authorities trees ≡ Some flat.authorities
  pub presences : records_in presences_before_sessions trees ≡ Some flat.presences
  pub demands : records_in demands_before_sessions trees ≡ Some flat.demands
  pub polls : records_in polls_before_sessions trees ≡ Some flat.polls
  pub casts : records_in table.casts trees ≡ Some flat.casts

pub held_one : (trees : Trees) (flat : FlatLists) → flat_one trees ≡ Some flat → HoldOne trees flat
unfolding flat_one
held_one trees flat h =
    both_read (records_in table.keys trees) _ flat h λ keys its_keys h.
    both_read (records_in table.closed trees) _ flat h λ closed its_closed h.
    both_read (records_in table.meetings trees) _ flat h λ meetings its_meetings h.
    both_read (records_in table.resolutions trees) _ flat h λ resolutions its_resolutions h.
    both_read (records_in table.register trees) _ flat h λ register its_register h.
    both_read (records_in table.appointments trees) _ flat h λ appointments its_appointments h.
    both_read (records_in table.endings trees) _ flat h λ endings its_endings h.
    both_read (records_in table.authorities trees) _ flat h λ authorities its_authorities h.
    both_read (records_in presences_before_sessions trees) _ flat h λ presences its_presences h.
    both_read (records_in demands_before_sessions trees) _ flat h λ demands its_demands h.
    both_read (records_in polls_before_sessions trees) _ flat h λ polls its_polls h.
    both_read (records_in table.casts trees) _ flat h λ casts its_casts h.
    subst (HoldOne trees) (some_is h) (record {
      keys = its_keys;
      closed = its_closed;
      meetings = its_meetings;
      sessions = refl;
      resolutions = its_resolutions;
      register = its_register;
      appointments = its_appointments;
      endings = its_endings;
      authorities = its_authorities;
      presences = its_presences;
      demands = its_demands;
      polls = its_polls;
      casts = its_casts;
    })

-- ---- numbers of tables

differ : (a b : ℕ) → (a == b) ≡ false → a ≢ b
differ a b e = grind (arith, nat_tests)

-- what holds of each number of a list holds of one that is among them
among : (P : ℕ → Type 0) (numbers : List ℕ) → AllByRecursion P numbers → (number : ℕ) → IsTrue (list_any (λ n. n == number) numbers) → P number
among P [] all number h = absurd (true≢false (sym h))
among P (n ∷ numbers) all number h = elim (eqb_tells n number) [
  | inl same ↦ subst P same.1 all.0
  | inr other ↦ among P numbers all.1 number (rw other.0 at h)
]

-- a table of version 1 is one of version 2
in_two : (number : ℕ) → IsTrue (has_table layout_one number) → IsTrue (has_table layout_two number)
in_two number h =
    list_any-append (λ n. n == number) layout_one.numbers (29 ∷ 31 ∷ 33 ∷ 35 ∷ [])
    ∙ ap (λ b. b || list_any (λ n. n == number) (29 ∷ 31 ∷ 33 ∷ 35 ∷ [])) h

-- and none of those that it adds
not_added : (number added : ℕ) → has_table layout_one added ≡ false → IsTrue (has_table layout_one number) → number ≢ added
not_added number added none h same = true≢false (sym h ∙ ap (has_table layout_one) same ∙ none)

stays : (number : ℕ) → IsTrue (has_table layout_one number) → (number == 18) ≡ false → (number == 20) ≡ false → (number == 22) ≡ false → (number == 0) ≡ false → Stays number
stays number is a b c d = record { one = is; presences = differ number 18 a; demands = differ number 20 b; polls = differ number 22 c; desk = differ number 0 d }

-- ---- the statements, one after the other

module _ (s0 s1 s2 s3 s4 s5 s6 s7 s8 : State) (version : IsVersionOf one s0) (made : ExtendsSchema schema_one desk_schema s0 s1) (presences : Copies presences_before_sessions table.presences s1 s2) (demands : Copies demands_before_sessions table.demands s2 s3)
    (polls : Copies polls_before_sessions table.polls s3 s4) (no_presences : Empties presences_before_sessions s4 s5) (no_demands : Empties demands_before_sessions s5 s6) (no_polls : Empties polls_before_sessions s6 s7) (noted : Sets table.desk (λ _. two.version) s7 s8) where
  -- while the new tables are made, those of version 1 keep their rows
  first_preserved : (number : ℕ) → IsTrue (has_table layout_one number) → s1.now.trees number ≡ s0.now.trees number
  first_preserved = let k = made.preserved in among (λ n. s1.now.trees n ≡ s0.now.trees n) layout_one.numbers (k.0, (k.1.0, (k.1.1.0, (k.1.1.1.0, (k.1.1.1.1.1.0, (k.1.1.1.1.1.1.0, (k.1.1.1.1.1.1.1.0, (k.1.1.1.1.1.1.1.1.0, (k.1.1.1.1.1.1.1.1.1.0, (k.1.1.1.1.1.1.1.1.1.1.0, (k.1.1.1.1.1.1.1.1.1.1.1.0, (k.1.1.1.1.1.1.1.1.1.1.1.1.0, (k.1.1.1.1.1.1.1.1.1.1.1.1.1.0, tt)))))))))))))

  others_stay : (number : ℕ) → Stays number → s8.now.trees number ≡ s0.now.trees number
  others_stay number stay =
      let is = in_two number stay.one in
      noted.others number is stay.desk ∙ no_polls.others number is stay.polls ∙ no_demands.others number is stay.demands ∙ no_presences.others number is stay.presences
      ∙ polls.others number is (not_added number 35 refl stay.one) ∙ demands.others number is (not_added number 33 refl stay.one) ∙ presences.others number is (not_added number 31 refl stay.one)
      ∙ first_preserved number stay.one

  -- the version is noted
  version_noted : IsVersionOf two s8
  version_noted = noted.records (one.version ∷ []) (
      same_records table.desk s0.now.trees s7.now.trees
      (no_polls.others 0 refl (differ 0 22 refl) ∙ no_demands.others 0 refl (differ 0 20 refl) ∙ no_presences.others 0 refl (differ 0 18 refl) ∙ polls.others 0 refl (differ 0 35 refl) ∙ demands.others 0 refl (differ 0 33 refl)
      ∙ presences.others 0 refl (differ 0 31 refl) ∙ first_preserved 0 refl)
      ∙ version
      )

  no_sessions : s8.now.trees 29 ≡ []
  no_sessions =
      noted.others 29 refl (differ 29 0 refl) ∙ no_polls.others 29 refl (differ 29 22 refl) ∙ no_demands.others 29 refl (differ 29 20 refl) ∙ no_presences.others 29 refl (differ 29 18 refl) ∙ polls.others 29 refl (differ 29 35 refl)
      ∙ demands.others 29 refl (differ 29 33 refl) ∙ presences.others 29 refl (differ 29 31 refl) ∙ made.empty.0

  -- the old tables as they are copied
  presences_were : s1.now.trees 18 ≡ s0.now.trees 18
  presences_were = first_preserved 18 refl

  demands_were : s2.now.trees 20 ≡ s0.now.trees 20
  demands_were = presences.others 20 refl (differ 20 31 refl) ∙ first_preserved 20 refl

  polls_were : s3.now.trees 22 ≡ s0.now.trees 22
  polls_were = demands.others 22 refl (differ 22 33 refl) ∙ presences.others 22 refl (differ 22 31 refl) ∙ first_preserved 22 refl

  -- and as they are emptied
  presences_then : s4.now.trees 18 ≡ s0.now.trees 18
  presences_then = polls.others 18 refl (differ 18 35 refl) ∙ demands.others 18 refl (differ 18 33 refl) ∙ presences.others 18 refl (differ 18 31 refl) ∙ presences_were

  demands_then : s5.now.trees 20 ≡ s0.now.trees 20
  demands_then = no_presences.others 20 refl (differ 20 18 refl) ∙ polls.others 20 refl (differ 20 35 refl) ∙ demands.others 20 refl (differ 20 33 refl) ∙ demands_were

  polls_then : s6.now.trees 22 ≡ s0.now.trees 22
  polls_then = no_demands.others 22 refl (differ 22 20 refl) ∙ no_presences.others 22 refl (differ 22 18 refl) ∙ polls.others 22 refl (differ 22 35 refl) ∙ polls_were

  module _ (flat : FlatLists) (known : flat_one s0.now.trees ≡ Some flat) where
    held : HoldOne s0.now.trees flat
    held = held_one s0.now.trees flat known

    -- the new tables
    presences_copied : Copied presences_before_sessions table.presences s0.now.trees s8.now.trees
    presences_copied = copied_still presences_before_sessions table.presences presence_moved s1.now.trees s2.now.trees s0.now.trees s8.now.trees
        (presences.copied flat.presences (same_records presences_before_sessions s0.now.trees s1.now.trees presences_were ∙ held.presences) made.empty.1.0)
        (sym presences_were)
        (noted.others 31 refl (differ 31 0 refl) ∙ no_polls.others 31 refl (differ 31 22 refl) ∙ no_demands.others 31 refl (differ 31 20 refl) ∙ no_presences.others 31 refl (differ 31 18 refl) ∙ polls.others 31 refl (differ 31 35 refl)
        ∙ demands.others 31 refl (differ 31 33 refl))

    demands_copied : Copied demands_before_sessions table.demands s0.now.trees s8.now.trees
    demands_copied = copied_still demands_before_sessions table.demands demand_moved s2.now.trees s3.now.trees s0.now.trees s8.now.trees
        (demands.copied flat.demands (same_records demands_before_sessions s0.now.trees s2.now.trees demands_were ∙ held.demands) (presences.others 33 refl (differ 33 31 refl) ∙ made.empty.1.1.0))
        (sym demands_were)
        (noted.others 33 refl (differ 33 0 refl) ∙ no_polls.others 33 refl (differ 33 22 refl) ∙ no_demands.others 33 refl (differ 33 20 refl) ∙ no_presences.others 33 refl (differ 33 18 refl) ∙ polls.others 33 refl (differ 33 35 refl))

    polls_copied : Copied polls_before_sessions table.polls s0.now.trees s8.now.trees
    polls_copied = copied_still polls_before_sessions table.polls poll_moved s3.now.trees s4.now.trees s0.now.trees s8.now.trees
        (polls.copied flat.polls (same_records polls_before_sessions s0.now.trees s3.now.trees polls_were ∙ held.polls) (demands.others 35 refl (differ 35 33 refl) ∙ presences.others 35 refl (differ 35 31 refl) ∙ made.empty.1.1.1.0))
        (sym polls_were)
        (noted.others 35 refl (differ 35 0 refl) ∙ no_polls.others 35 refl (differ 35 22 refl) ∙ no_demands.others 35 refl (differ 35 20 refl) ∙ no_presences.others 35 refl (differ 35 18 refl))

    -- the old tables are empty
    presences_gone : s8.now.trees 18 ≡ []
    presences_gone =
        noted.others 18 refl (differ 18 0 refl) ∙ no_polls.others 18 refl (differ 18 22 refl) ∙ no_demands.others 18 refl (differ 18 20 refl)
        ∙ no_row presences_before_sessions s5.now.trees (no_presences.records flat.presences (same_records presences_before_sessions s0.now.trees s4.now.trees presences_then ∙ held.presences))

    demands_gone : s8.now.trees 20 ≡ []
    demands_gone =
        noted.others 20 refl (differ 20 0 refl) ∙ no_polls.others 20 refl (differ 20 22 refl)
        ∙ no_row demands_before_sessions s6.now.trees (no_demands.records flat.demands (same_records demands_before_sessions s0.now.trees s5.now.trees demands_then ∙ held.demands))

    polls_gone : s8.now.trees 22 ≡ []
    polls_gone =
        noted.others 22 refl (differ 22 0 refl)
        ∙ no_row polls_before_sessions s7.now.trees (no_polls.records flat.polls (same_records polls_before_sessions s0.now.trees s6.now.trees polls_then ∙ held.polls))

    left : are_left_empty s8.now.trees ≡ true
    left = rw (presences_gone, demands_gone, polls_gone) refl

    -- and the others are as they were
    as_before : {A : Type 0} (it : TableOf A) (records : List A) → records_in it s0.now.trees ≡ Some records → Stays it.number → records_in it s8.now.trees ≡ Some records
    as_before it records was stay = same_records it s0.now.trees s8.now.trees (others_stay it.number stay) ∙ was

    all_hold : HoldAll s8.now.trees flat
    all_hold = record {
      keys = as_before table.keys flat.keys held.keys (stays 1 refl refl refl refl refl);
      closed = as_before table.closed flat.closed held.closed (stays 4 refl refl refl refl refl);
      meetings = as_before table.meetings flat.meetings held.meetings (stays 5 refl refl refl refl refl);
      sessions = ap (λ (rows : List Row). all_meanings table.sessions.means (map (columns_of table.sessions) rows)) no_sessions ∙ ap (λ (l : List (InMeeting (Numbered Session))). Some l) (sym held.sessions);
      resolutions = as_before table.resolutions flat.resolutions held.resolutions (stays 8 refl refl refl refl refl);
      register = as_before table.register flat.register held.register (stays 10 refl refl refl refl refl);
      appointments = as_before table.appointments flat.appointments held.appointments (stays 12 refl refl refl refl refl);
      endings = as_before table.endings flat.endings held.endings (stays 14 refl refl refl refl refl);
      authorities = as_before table.authorities flat.authorities held.authorities (stays 16 refl refl refl refl refl);
      presences = records_moved presences_before_sessions table.presences presence_moved s0.now.trees s8.now.trees flat.presences presences_copied held.presences;
      demands = records_moved demands_before_sessions table.demands demand_moved s0.now.trees s8.now.trees flat.demands demands_copied held.demands;
      polls = records_moved polls_before_sessions table.polls poll_moved s0.now.trees s8.now.trees flat.polls polls_copied held.polls;
      casts = as_before table.casts flat.casts held.casts (stays 24 refl refl refl refl refl);
      left = left;
    }

    -- the tables of version 1 are moved
    pub moved : IsMoved s0 s8
    moved = record {
      schema = noted.schema ∙ no_polls.schema ∙ no_demands.schema ∙ no_presences.schema ∙ polls.schema ∙ demands.schema ∙ presences.schema ∙ made.schema;
      version = version_noted;
      sessions = no_sessions;
      presences = presences_copied;
      demands = demands_copied;
      polls = polls_copied;
      left = left;
      others = others_stay;
      records = flat_held s8.now.trees flat all_hold ∙ sym known;
    }

-- What the rows of version 2 mean after the move, those of version 1 meant.
use Rattle.std.proofs.Common.{◌≡◌, ◌≢◌, ℕ, ◌==◌, true, false, List, [], ◌∷◌, map, Some, refl, sym, ap, subst, ◌∙◌, IsTrue, arith}
use Rattle.std.specs.List.{AllByRecursion}
use Rattle.std.proofs.lemmas.Bool.{and_parts}
use Rattle.std.proofs.lemmas.Bool.Decides.{nat_tests}
use Rattle.sqlite.specs.Effect.{IsDatabase}
use Rattle.sqlite.specs.Order.{Row}
use Rattle.sqlite.specs.Schema.{Schema}
use Rattle.sqlite.specs.State.{State}
use Rattle.sqlite.specs.Table.{Table}
use Rattle.sqlite.specs.Tree.{Trees}
use Rattle.sqlite_schema.specs.Rules.{Keeps, are_typed, passes}
use Rattle.sqlite_schema.specs.declared.schema.Constraint.TheVariants.{Datatype}
use Rattle.desk_words.specs.declared.records.PresenceMark.{PresenceMark}
use Rattle.desk_words.specs.declared.records.DemandMark.{DemandMark}
use Rattle.desk_words.specs.declared.records.Poll.{Poll}
use Rattle.desk_words.specs.declared.records.Session.{Session}
use Rattle.sql_rows.specs.declared.stored_records.InMeeting.{InMeeting}
use Rattle.sql_rows.specs.declared.stored_records.Numbered.{Numbered}
use Rattle.sql_rows.specs.ColumnValues.{flag_in, moment_in, number_in, some_moment_in, parsed_in}
use Rattle.sql_rows.specs.Marks.{declared_in, demand_mark_in, demand_before_sessions_in, poll_in, poll_before_sessions_in, presence_in, presence_before_sessions_in}
use Rattle.sql_rows.specs.Meanings.{all_meanings}
use Rattle.sql_rows.proofs.RowMeaningLemmas.{bound}
use Rattle.sql_schema.specs.Contents as table
use Rattle.sql_schema.specs.Contents.{demands_before_sessions, polls_before_sessions, presences_before_sessions}
use Rattle.sql_schema.specs.CopiedRows.{Copied, Copies, in_first_session}
use Rattle.sql_schema.specs.Statements.{Empties, ExtendsSchema, Sets, TableOf, columns_of, has_table, layout_two, records_in, table_rows}
use Rattle.sql_schema.specs.Tables.{demands_before_sessions_table, desk_schema, polls_before_sessions_table, presences_before_sessions_table, schema_one}
use Rattle.sql_model.proofs.ModelMovingLemmas.{demand_same, presence_same}
use Rattle.sql_model.specs.OfficeRecords.{FlatLists, flat_one, flat_two}
use Rattle.sql_model.specs.Standing.{two}
use Rattle.sql_model.proofs.FlatChanges.{HoldAll, all_held, some_is}
use Rattle.sql_meeting_tables.specs.Copying.{AreTyped, CopiesTyped}

-- ---- what a row means in the first session, it meant

presence_meant : (cells : Row) (x : InMeeting PresenceMark) → presence_in (in_first_session cells) ≡ Some x → presence_before_sessions_in cells ≡ Some x
unfolding presence_in
presence_meant [] x h = absurd cc
presence_meant (meeting ∷ cells) x h = sym (presence_same meeting cells) ∙ h

demand_meant : (cells : Row) (x : InMeeting DemandMark) → demand_mark_in (in_first_session cells) ≡ Some x → demand_before_sessions_in cells ≡ Some x
unfolding demand_mark_in
demand_meant [] x h = absurd cc
demand_meant (meeting ∷ cells) x h = sym (demand_same meeting cells) ∙ h

poll_meant : (cells : Row) (x : InMeeting Poll) → poll_in (in_first_session cells) ≡ Some x → poll_before_sessions_in cells ≡ Some x
unfolding poll_before_sessions_in poll_in parsed_in moment_in number_in flag_in some_moment_in declared_in
poll_meant [] x h = absurd cc
poll_meant (meeting ∷ cells) x h = h

module _ {A : Type 0} (first second : TableOf A) (meant : (cells : Row) (x : A) → second.means (in_first_session cells) ≡ Some x → first.means cells ≡ Some x) where
  all_meant : (rows : List Row) (are : List A) → all_meanings second.means (map in_first_session rows) ≡ Some are → all_meanings first.means rows ≡ Some are
  all_meant [] are h = h
  all_meant (row ∷ rows) are h =
      let it = bound (second.means (in_first_session row)) _ are h in
      let later = bound (all_meanings second.means (map in_first_session rows)) _ are it.2 in
      rw (meant row it.0 it.1, all_meant rows later.0 later.1) later.2

  -- so it is with tables, of which one was copied from the other
  records_meant : (a b old new : Trees) (are : List A) → Copied first second a b → a first.number ≡ old first.number → new second.number ≡ b second.number → records_in second new ≡ Some are → records_in first old ≡ Some are
  records_meant a b old new are copied from to h =
      let rows : table_rows second new ≡ map in_first_session (table_rows first old) =
      ap (map (columns_of second)) to ∙ copied.rows ∙ ap (λ (rows : List Row). map in_first_session (map (columns_of first) rows)) from in
      all_meant (table_rows first old) are (sym (ap (all_meanings second.means) rows) ∙ h)

-- ---- rows that obey their declaration

typed_so : (schema : Schema) (db : Trees) (t : Table) (rows : List Row) → AllByRecursion (λ row. passes Datatype schema db t row ≡ true) rows → AreTyped t rows
typed_so schema db t [] h = tt
typed_so schema db t (row ∷ rows) h = ((and_parts (are_typed t.key 0 t.columns _) _ h.0).0, typed_so schema db t rows h.1)

-- ---- the records of version 1

same_records : {A : Type 0} (it : TableOf A) (old new : Trees) → new it.number ≡ old it.number → records_in it new ≡ records_in it old
same_records it old new same = ap (λ (rows : List Row). all_meanings it.means (map (columns_of it) rows)) same

differ : (a b : ℕ) → (a == b) ≡ false → a ≢ b
differ a b e = grind (arith, nat_tests)

module _ (trees : Trees) (flat : FlatLists) where
  one_held : records_in table.keys trees ≡ Some flat.keys → records_in table.closed trees ≡ Some flat.closed → records_in table.meetings trees ≡ Some flat.meetings → flat.sessions ≡ [] → records_in table.resolutions trees ≡ Some flat.resolutions
      → records_in table.register trees ≡ Some flat.register → records_in table.appointments trees ≡ Some flat.appointments → records_in table.endings trees ≡ Some flat.endings → records_in table.authorities trees ≡ Some flat.authorities
      → records_in presences_before_sessions trees ≡ Some flat.presences → records_in demands_before_sessions trees ≡ Some flat.demands → records_in polls_before_sessions trees ≡ Some flat.polls → records_in table.casts trees ≡ Some flat.casts → flat_one trees ≡ Some flat
  unfolding flat_one
  one_held keys closed meetings sessions resolutions register appointments endings authorities presences demands polls casts =
      rw (keys, closed, meetings, resolutions, register, appointments, endings, authorities, presences, demands, polls, casts) (ap (λ (l : List (InMeeting (Numbered Session))). Some (record flat { sessions = l })) (sym sessions))

-- ---- the statements, one after the other

module _ (s0 s1 s2 s3 s4 s5 s6 s7 s8 : State) (schema : s0.now.schema ≡ schema_one) (sound : IsDatabase s0.now) (made : ExtendsSchema schema_one desk_schema s0 s1) (presences : Copies presences_before_sessions table.presences s1 s2)
    (demands : Copies demands_before_sessions table.demands s2 s3) (polls : Copies polls_before_sessions table.polls s3 s4) (presences_typed : CopiesTyped presences_before_sessions_table presences_before_sessions table.presences s1 s2)
    (demands_typed : CopiesTyped demands_before_sessions_table demands_before_sessions table.demands s2 s3) (polls_typed : CopiesTyped polls_before_sessions_table polls_before_sessions table.polls s3 s4) (no_presences : Empties presences_before_sessions s4 s5) (no_demands : Empties demands_before_sessions s5 s6)
    (no_polls : Empties polls_before_sessions s6 s7) (noted : Sets table.desk (λ _. two.version) s7 s8) where
  -- each value is of its column's type
  obeyed : Keeps Datatype schema_one s0.now.trees
  obeyed = subst (λ (s : Schema). Keeps Datatype s s0.now.trees) schema (sound.obeys.rules Datatype)

  presences_are : AreTyped presences_before_sessions_table (s0.now.trees 18)
  presences_are = typed_so schema_one s0.now.trees (record presences_before_sessions_table { tree = 18 }) (s0.now.trees 18) obeyed.1.1.1.1.1.1.1.1.1.1.0

  demands_are : AreTyped demands_before_sessions_table (s0.now.trees 20)
  demands_are = typed_so schema_one s0.now.trees (record demands_before_sessions_table { tree = 20 }) (s0.now.trees 20) obeyed.1.1.1.1.1.1.1.1.1.1.1.0

  polls_are : AreTyped polls_before_sessions_table (s0.now.trees 22)
  polls_are = typed_so schema_one s0.now.trees (record polls_before_sessions_table { tree = 22 }) (s0.now.trees 22) obeyed.1.1.1.1.1.1.1.1.1.1.1.1.0

  -- the old tables as they are copied
  presences_were : s1.now.trees 18 ≡ s0.now.trees 18
  presences_were = made.preserved.1.1.1.1.1.1.1.1.1.1.0

  demands_were : s2.now.trees 20 ≡ s0.now.trees 20
  demands_were = presences.others 20 refl (differ 20 31 refl) ∙ made.preserved.1.1.1.1.1.1.1.1.1.1.1.0

  polls_were : s3.now.trees 22 ≡ s0.now.trees 22
  polls_were = demands.others 22 refl (differ 22 33 refl) ∙ presences.others 22 refl (differ 22 31 refl) ∙ made.preserved.1.1.1.1.1.1.1.1.1.1.1.1.0

  presences_copied : Copied presences_before_sessions table.presences s1.now.trees s2.now.trees
  presences_copied = presences_typed (subst (AreTyped presences_before_sessions_table) (sym presences_were) presences_are) made.empty.1.0

  demands_copied : Copied demands_before_sessions table.demands s2.now.trees s3.now.trees
  demands_copied = demands_typed (subst (AreTyped demands_before_sessions_table) (sym demands_were) demands_are) (presences.others 33 refl (differ 33 31 refl) ∙ made.empty.1.1.0)

  polls_copied : Copied polls_before_sessions table.polls s3.now.trees s4.now.trees
  polls_copied = polls_typed (subst (AreTyped polls_before_sessions_table) (sym polls_were) polls_are) (demands.others 35 refl (differ 35 33 refl) ∙ presences.others 35 refl (differ 35 31 refl) ∙ made.empty.1.1.1.0)

  -- what the copies are at the end
  end_of : (number : ℕ) → IsTrue (has_table layout_two number) → (number == 0) ≡ false → (number == 18) ≡ false → (number == 20) ≡ false → (number == 22) ≡ false → s8.now.trees number ≡ s4.now.trees number
  end_of n is a b c d = noted.others n is (differ n 0 a) ∙ no_polls.others n is (differ n 22 d) ∙ no_demands.others n is (differ n 20 c) ∙ no_presences.others n is (differ n 18 b)

  -- and what all others are
  same_of : (number : ℕ) → IsTrue (has_table layout_two number) → (number == 0) ≡ false → (number == 18) ≡ false → (number == 20) ≡ false → (number == 22) ≡ false → (number == 31) ≡ false → (number == 33) ≡ false → (number == 35) ≡ false
      → s8.now.trees number ≡ s1.now.trees number
  same_of n is a b c d x y z = end_of n is a b c d ∙ polls.others n is (differ n 35 z) ∙ demands.others n is (differ n 33 y) ∙ presences.others n is (differ n 31 x)

  module _ (flat : FlatLists) (known : flat_two s8.now.trees ≡ Some flat) where
    held : HoldAll s8.now.trees flat
    held = all_held s8.now.trees flat known

    was : {A : Type 0} (it : TableOf A) (records : List A) → s1.now.trees it.number ≡ s0.now.trees it.number → s8.now.trees it.number ≡ s1.now.trees it.number → records_in it s8.now.trees ≡ Some records → records_in it s0.now.trees ≡ Some records
    was it records first later h = sym (same_records it s0.now.trees s8.now.trees (later ∙ first)) ∙ h

    no_sessions : flat.sessions ≡ []
    no_sessions =
        let none : s8.now.trees 29 ≡ [] = same_of 29 refl refl refl refl refl refl refl refl ∙ made.empty.0 in
        some_is (sym held.sessions ∙ ap (λ (rows : List Row). all_meanings table.sessions.means (map (columns_of table.sessions) rows)) none)

    -- the tables of version 1 meant the same
    pub meant : flat_one s0.now.trees ≡ Some flat
    meant =
        let k = made.preserved in
        one_held s0.now.trees flat
        (was table.keys flat.keys k.1.0 (same_of 1 refl refl refl refl refl refl refl refl) held.keys)
        (was table.closed flat.closed k.1.1.0 (same_of 4 refl refl refl refl refl refl refl refl) held.closed)
        (was table.meetings flat.meetings k.1.1.1.0 (same_of 5 refl refl refl refl refl refl refl refl) held.meetings)
        no_sessions
        (was table.resolutions flat.resolutions k.1.1.1.1.1.0 (same_of 8 refl refl refl refl refl refl refl refl) held.resolutions)
        (was table.register flat.register k.1.1.1.1.1.1.0 (same_of 10 refl refl refl refl refl refl refl refl) held.register)
        (was table.appointments flat.appointments k.1.1.1.1.1.1.1.0 (same_of 12 refl refl refl refl refl refl refl refl) held.appointments)
        (was table.endings flat.endings k.1.1.1.1.1.1.1.1.0 (same_of 14 refl refl refl refl refl refl refl refl) held.endings)
        (was table.authorities flat.authorities k.1.1.1.1.1.1.1.1.1.0 (same_of 16 refl refl refl refl refl refl refl refl) held.authorities)
        (records_meant presences_before_sessions table.presences presence_meant s1.now.trees s2.now.trees s0.now.trees s8.now.trees flat.presences presences_copied presences_were
        (end_of 31 refl refl refl refl refl ∙ polls.others 31 refl (differ 31 35 refl) ∙ demands.others 31 refl (differ 31 33 refl)) held.presences)
        (records_meant demands_before_sessions table.demands demand_meant s2.now.trees s3.now.trees s0.now.trees s8.now.trees flat.demands demands_copied demands_were (end_of 33 refl refl refl refl refl ∙ polls.others 33 refl (differ 33 35 refl)) held.demands)
        (records_meant polls_before_sessions table.polls poll_meant s3.now.trees s4.now.trees s0.now.trees s8.now.trees flat.polls polls_copied polls_were (end_of 35 refl refl refl refl refl) held.polls)
        (was table.casts flat.casts k.1.1.1.1.1.1.1.1.1.1.1.1.1.0 (same_of 24 refl refl refl refl refl refl refl refl) held.casts)

-- What the statements on `polls` do.
use Rattle.std.proofs.Common.{◌≡◌, ℕ, ℤ, pos, Bool, true, ◌&&◌, List, [], ◌∷◌, drop, codes, false, Some, Result, OnOk, IsTrue, refl, sym, ap, ap₂, subst, ◌∙◌, if◌then◌else◌}
use Rattle.sqlite.specs.declared.types.Value.{Value}
use Rattle.sqlite.specs.declared.types.Value.TheVariants.{Int, Text}
use Rattle.sqlite.specs.Order.{Row, column}
use Rattle.sqlite.specs.Term.{Term, col, op2}
use Rattle.sqlite.specs.Collation.TheVariants.{Binary}
use Rattle.sqlite_sql.specs.declared.ops.BinaryOp.TheVariants.{Compare}
use Rattle.sqlite_sql.specs.declared.ops.CompareOp.TheVariants.{Eq}
use Rattle.sqlite.specs.Command.TheVariants.{Update}
use Rattle.sqlite_tied.specs.Compute.{everything}
use Rattle.sqlite.specs.declared.error.Error.{Error}
use Rattle.sqlite.specs.Listing.{understood}
use Rattle.sqlite.specs.State.{State, ExecutesInside}
use Rattle.desk_words.specs.declared.records.Poll.{Poll}
use Rattle.sql_rows.specs.ColumnValues.{flag_in, flag_of, integer_of, moment_in, moment_of_number, natural_of, number_in, natural_value, some_moment_in, some_moment_of, parsed_in, parsed_of}
use Rattle.sql_rows.specs.Marks.{declared_in, declared_of, poll_in, poll_before_sessions_in}
use Rattle.vocabulary.specs.Names.{meeting_of}
use Rattle.sql_schema.specs.Tables.{polls_table as table, polls_before_sessions_table as first}
use Rattle.sql_schema.specs.SqlTexts.{copying_text}
use Rattle.sql_schema.specs.Contents.{polls, polls_before_sessions, is_poll_named, started_at, closed_at, declared_with}
use Rattle.sql_schema.specs.Statements.{IsDesk, Sets, columns_of, layout_two, HasTables}
use Rattle.sql_lemmas.proofs.Deleting.{picked, passes}
use Rattle.sql_meeting_tables.specs.Copying.{CopiesTyped}
use Rattle.sql_meeting_tables.proofs.TypedLemmas.{KeepsTyped, integers_stay, row_stays, texts_stay, typed_copied}
use Rattle.sqlite_schema.specs.Rules.{are_typed}
use Rattle.std.specs.List.{AllByRecursion}
use Rattle.sql_lemmas.proofs.Copying.{CopiesTable, table_copied}
use Rattle.sql_schema.specs.CopiedRows.{Copies, in_first_session}
use Rattle.sqlite.specs.Kind.TheVariants.{Integer, Text as Texts}
use Rattle.sqlite.specs.Cast.{cast}
use Rattle.sqlite.specs.Tree.{rowid}
use Rattle.sqlite.specs.Edit.{id_in}
use Rattle.sqlite_trees.specs.View.{is_int}
use Rattle.desk_words.specs.declared.records.Tally.{Tally}
use Rattle.sql_schema.specs.declared.poll_name.PollName.{PollName}
use Rattle.sql_rows.specs.declared.stored_records.InMeeting.{InMeeting}
use Rattle.vocabulary.specs.OptionSteps.{◌>>=◌}
use Rattle.sql_lemmas.proofs.Seq.{is_its_id}
use Rattle.sql_rows.proofs.RowMeaningLemmas.{bound, option_ap}
use Rattle.sql_lemmas.proofs.Tests.{names_decide, numbers_decide, preserved_spelled, preserved_integer, preserved_some_moment, declared_stays, integer_stays, number_stays, some_moment_stays, text_stays}
use Rattle.std.proofs.Math.Bool.{and-true}
use Rattle.sql_lemmas.proofs.Updating.{new_row, changes_rows, sets}
use Rattle.sql_lemmas.proofs.Values.{cast_int}
use Rattle.sql_lemmas.proofs.Frames.{twos_apart, wide, RunsOn}
use Rattle.sqlite.specs.Schema.{Schema}

abbrev named : List Term
named = op2 (Compare Eq Binary) (col 1 1) (col 0 0) ∷ op2 (Compare Eq Binary) (col 1 3) (col 0 1) ∷ []

abbrev start_text : List ℕ
start_text = codes "UPDATE polls2 SET started = ?3 WHERE meeting = ?1 AND resolution = ?2"

abbrev start_terms : List Term
start_terms = col 1 0 ∷ col 1 1 ∷ col 1 2 ∷ col 1 3 ∷ col 1 4 ∷ col 1 5 ∷ col 1 6 ∷ col 0 2 ∷ col 1 8 ∷ col 1 9 ∷ col 1 10 ∷ col 1 11 ∷ col 1 12 ∷ []

start_runs : (s : Schema) → HasTables layout_two s → RunsOn s start_text (Update 17 (record { lets = []; body = picked 35 named start_terms })) 17 (record table { tree = 35 })
unfolding understood everything
start_runs = wide (λ s. RunsOn s start_text (Update 17 (record { lets = []; body = picked 35 named start_terms })) 17 (record table { tree = 35 })) (λ others apart indexes views. record { is = refl; plain = (refl, refl); there = refl })

abbrev close_text : List ℕ
close_text = codes "UPDATE polls2 SET closed = ?3 WHERE meeting = ?1 AND resolution = ?2"

abbrev close_terms : List Term
close_terms = col 1 0 ∷ col 1 1 ∷ col 1 2 ∷ col 1 3 ∷ col 1 4 ∷ col 1 5 ∷ col 1 6 ∷ col 1 7 ∷ col 0 2 ∷ col 1 9 ∷ col 1 10 ∷ col 1 11 ∷ col 1 12 ∷ []

close_runs : (s : Schema) → HasTables layout_two s → RunsOn s close_text (Update 17 (record { lets = []; body = picked 35 named close_terms })) 17 (record table { tree = 35 })
unfolding understood everything
close_runs = wide (λ s. RunsOn s close_text (Update 17 (record { lets = []; body = picked 35 named close_terms })) 17 (record table { tree = 35 })) (λ others apart indexes views. record { is = refl; plain = (refl, refl); there = refl })

abbrev declare_text : List ℕ
declare_text = codes "UPDATE polls2 SET votes_for = ?3, votes_against = ?4, withheld = ?5, eligible = ?6 WHERE meeting = ?1 AND resolution = ?2"

abbrev declare_terms : List Term
declare_terms = col 1 0 ∷ col 1 1 ∷ col 1 2 ∷ col 1 3 ∷ col 1 4 ∷ col 1 5 ∷ col 1 6 ∷ col 1 7 ∷ col 1 8 ∷ col 0 2 ∷ col 0 3 ∷ col 0 4 ∷ col 0 5 ∷ []

declare_runs : (s : Schema) → HasTables layout_two s → RunsOn s declare_text (Update 17 (record { lets = []; body = picked 35 named declare_terms })) 17 (record table { tree = 35 })
unfolding understood everything
declare_runs = wide (λ s. RunsOn s declare_text (Update 17 (record { lets = []; body = picked 35 named declare_terms })) 17 (record table { tree = 35 })) (λ others apart indexes views. record { is = refl; plain = (refl, refl); there = refl })

-- what the columns of a row give, where it is that of a poll
record IsPollRow (cells : Row) (x : InMeeting Poll) : Type 0 where
  meeting : parsed_in meeting_of cells 0 ≡ Some x.meeting
  session : number_in cells 1 ≡ Some x.item.session
  resolution : number_in cells 2 ≡ Some x.item.resolution
  ordered : moment_in cells 3 ≡ Some x.item.ordered
  taken : moment_in cells 4 ≡ Some x.item.take
  chair : flag_in cells 5 ≡ Some x.item.chair
  started : some_moment_in cells 6 ≡ Some x.item.started
  closed : some_moment_in cells 7 ≡ Some x.item.closed
  declared : declared_in cells 8 ≡ Some x.item.declared

parts : (cells : Row) (x : InMeeting Poll) → poll_in cells ≡ Some x → IsPollRow cells x
unfolding poll_in
parts cells x h =
    let meeting = bound (parsed_in meeting_of cells 0) _ x h in
    let session = bound (number_in cells 1) _ x meeting.2 in
    let resolution = bound (number_in cells 2) _ x session.2 in
    let ordered = bound (moment_in cells 3) _ x resolution.2 in
    let taken = bound (moment_in cells 4) _ x ordered.2 in
    let chair = bound (flag_in cells 5) _ x taken.2 in
    let started = bound (some_moment_in cells 6) _ x chair.2 in
    let closed = bound (some_moment_in cells 7) _ x started.2 in
    let declared = bound (declared_in cells 8) _ x closed.2 in
    let is = declared.2 in
    record {
      meeting = meeting.1 ∙ option_ap (λ (y : InMeeting Poll). y.meeting) is;
      session = session.1 ∙ option_ap (λ (y : InMeeting Poll). y.item.session) is;
      resolution = resolution.1 ∙ option_ap (λ (y : InMeeting Poll). y.item.resolution) is;
      ordered = ordered.1 ∙ option_ap (λ (y : InMeeting Poll). y.item.ordered) is;
      taken = taken.1 ∙ option_ap (λ (y : InMeeting Poll). y.item.take) is;
      chair = chair.1 ∙ option_ap (λ (y : InMeeting Poll). y.item.chair) is;
      started = started.1 ∙ option_ap (λ (y : InMeeting Poll). y.item.started) is;
      closed = closed.1 ∙ option_ap (λ (y : InMeeting Poll). y.item.closed) is;
      declared = declared.1 ∙ option_ap (λ (y : InMeeting Poll). y.item.declared) is;
    }

whole_row : (cells : Row) (x : InMeeting Poll) → IsPollRow cells x → poll_in cells ≡ Some x
unfolding poll_in
whole_row cells x p =
    rw (p.meeting, p.session, p.resolution, p.ordered, p.taken, p.chair, p.started, p.closed, p.declared) refl

-- the columns of a row that is written again
record IsPreservedRow (cells : Row) (x : InMeeting Poll) : Type 0 where
  meeting : parsed_of meeting_of (cast Texts (column cells 1)) ≡ Some x.meeting
  session : natural_value (cast Integer (column cells 2)) ≡ Some x.item.session
  resolution : natural_value (cast Integer (column cells 3)) ≡ Some x.item.resolution
  ordered : (integer_of (cast Integer (column cells 4)) >>= moment_of_number) ≡ Some x.item.ordered
  taken : (integer_of (cast Integer (column cells 5)) >>= moment_of_number) ≡ Some x.item.take
  chair : (natural_value (cast Integer (column cells 6)) >>= flag_of) ≡ Some x.item.chair
  started : some_moment_of (cast Integer (column cells 7)) ≡ Some x.item.started
  closed : some_moment_of (cast Integer (column cells 8)) ≡ Some x.item.closed
  declared : declared_of (cast Integer (column cells 9)) (cast Integer (column cells 10)) (cast Integer (column cells 11)) (cast Integer (column cells 12)) ≡ Some x.item.declared

preserved_row : (cells : Row) (x : InMeeting Poll) → polls.means (columns_of polls cells) ≡ Some x → IsPreservedRow cells x
unfolding parsed_in moment_in flag_in number_in some_moment_in declared_in
preserved_row cells x h =
    let p = parts (columns_of polls cells) x h in
    let flag_part = bound (natural_value (column cells 6)) flag_of x.item.chair p.chair in
    let stays = declared_stays (column cells 9) (column cells 10) (column cells 11) (column cells 12) x.item.declared p.declared in
    record {
      meeting = preserved_spelled meeting_of (column cells 1) x.meeting p.meeting;
      session = preserved_integer natural_of (column cells 2) x.item.session p.session;
      resolution = preserved_integer natural_of (column cells 3) x.item.resolution p.resolution;
      ordered = preserved_integer moment_of_number (column cells 4) x.item.ordered p.ordered;
      taken = preserved_integer moment_of_number (column cells 5) x.item.take p.taken;
      chair = rw (preserved_integer natural_of (column cells 6) flag_part.0 flag_part.1) flag_part.2;
      started = preserved_some_moment (column cells 7) x.item.started p.started;
      closed = preserved_some_moment (column cells 8) x.item.closed p.closed;
      declared = rw (stays.0, stays.1, stays.2, stays.3) p.declared;
    }

chosen_so : (name : PollName) (meeting : List ℕ) (n : ℤ) (rest : Row) → meeting_of meeting ≡ Some name.meeting → natural_of n ≡ Some name.resolution → (cells : Row) (x : InMeeting Poll)
    → polls.means (columns_of polls cells) ≡ Some x → passes named (Text meeting ∷ Int n ∷ rest) cells ≡ is_poll_named name x
unfolding parsed_in number_in
chosen_so name meeting n rest is number cells x h =
    let p = parts (columns_of polls cells) x h in
    ap₂ ◌&&◌ (names_decide (column cells 1) meeting x.meeting name.meeting p.meeting is) (and-true _ ∙ numbers_decide (column cells 3) n x.item.resolution name.resolution p.resolution number)

keeps_number : (new : List Term) (params cells : Row) → IsTrue (is_int (rowid cells)) → cast Integer (rowid cells) ≡ rowid cells
keeps_number new params cells keyed = subst (λ v. cast Integer v ≡ v) (sym (is_its_id cells keyed)) (cast_int (id_in (rowid cells)))

again : (cells : Row) (x : InMeeting Poll) → IsPreservedRow cells x → (started closed a b c d : Value) (set : InMeeting Poll)
    → set ≡ record x { item = record x.item { started = set.item.started; closed = set.item.closed; declared = set.item.declared } }
    → some_moment_of started ≡ Some set.item.started → some_moment_of closed ≡ Some set.item.closed → declared_of a b c d ≡ Some set.item.declared
    → poll_in (cast Texts (column cells 1) ∷ cast Integer (column cells 2) ∷ cast Integer (column cells 3) ∷ cast Integer (column cells 4) ∷ cast Integer (column cells 5) ∷ cast Integer (column cells 6) ∷ started ∷ closed ∷ a ∷ b ∷ c ∷ d ∷ []) ≡ Some set
unfolding parsed_in moment_in flag_in number_in some_moment_in declared_in
again cells x k started closed a b c d set same e f g =
    whole_row (cast Texts (column cells 1) ∷ cast Integer (column cells 2) ∷ cast Integer (column cells 3) ∷ cast Integer (column cells 4) ∷ cast Integer (column cells 5) ∷ cast Integer (column cells 6) ∷ started ∷ closed ∷ a ∷ b ∷ c ∷ d ∷ []) set (record {
      meeting = k.meeting ∙ ap (λ (y : InMeeting Poll). Some y.meeting) (sym same);
      session = k.session ∙ ap (λ (y : InMeeting Poll). Some y.item.session) (sym same);
      resolution = k.resolution ∙ ap (λ (y : InMeeting Poll). Some y.item.resolution) (sym same);
      ordered = k.ordered ∙ ap (λ (y : InMeeting Poll). Some y.item.ordered) (sym same);
      taken = k.taken ∙ ap (λ (y : InMeeting Poll). Some y.item.take) (sym same);
      chair = k.chair ∙ ap (λ (y : InMeeting Poll). Some y.item.chair) (sym same);
      started = e;
      closed = f;
      declared = g;
    })

module _ (name : PollName) (meeting : List ℕ) (n : ℤ) (is : meeting_of meeting ≡ Some name.meeting) (number : natural_of n ≡ Some name.resolution) where
  start_sets : (z : ℤ) (moment : ℕ) → moment_of_number z ≡ Some moment → (cells : Row) (x : InMeeting Poll) → polls.means (columns_of polls cells) ≡ Some x
      → polls.means (columns_of polls (if passes named (Text meeting ∷ Int n ∷ Int z ∷ []) cells then new_row (record table { tree = 35 }) start_terms (Text meeting ∷ Int n ∷ Int z ∷ []) cells else cells)) ≡ Some (started_at name moment x)
  start_sets z moment at cells x h = go (passes named (Text meeting ∷ Int n ∷ Int z ∷ []) cells) (is_poll_named name x) (chosen_so name meeting n (Int z ∷ []) is number cells x h)
    where
      set_now : some_moment_of (cast Integer (Int z)) ≡ Some (Some moment)
      set_now = rw (cast_int z, at) refl

      go : (a b : Bool) → a ≡ b → polls.means (columns_of polls (if a then new_row (record table { tree = 35 }) start_terms (Text meeting ∷ Int n ∷ Int z ∷ []) cells else cells))
          ≡ Some (if b then record x { item = record x.item { started = Some moment } } else x)
      go true true e =
          let k = preserved_row cells x h in
          again cells x k (cast Integer (Int z)) (cast Integer (column cells 8)) (cast Integer (column cells 9)) (cast Integer (column cells 10)) (cast Integer (column cells 11)) (cast Integer (column cells 12)) (record x { item = record x.item { started = Some moment } }) refl set_now k.closed k.declared
      go true false e = absurd cc
      go false true e = absurd cc
      go false false e = h

  pub starts : (z : ℤ) (moment : ℕ) → moment_of_number z ≡ Some moment → (old new : State) (r : Result ℕ Error) → IsDesk old → IsTrue old.in_transaction
      → ExecutesInside 0 start_text (Text meeting ∷ Int n ∷ Int z ∷ []) old new r → OnOk r (Sets polls (started_at name moment) old new)
  starts z moment at old new r was inside h =
      sets polls (λ cells. if passes named (Text meeting ∷ Int n ∷ Int z ∷ []) cells then new_row (record table { tree = 35 }) start_terms (Text meeting ∷ Int n ∷ Int z ∷ []) cells else cells) (started_at name moment) (start_sets z moment at) layout_two old new r
      (changes_rows (twos_apart old.now.schema was.schema) 17 (record table { tree = 35 }) named start_terms start_text (Text meeting ∷ Int n ∷ Int z ∷ []) (start_runs old.now.schema was.schema).is (start_runs old.now.schema was.schema).plain (start_runs old.now.schema was.schema).there refl refl (keeps_number start_terms (Text meeting ∷ Int n ∷ Int z ∷ [])) old new r refl was inside h)

  close_sets : (z : ℤ) (moment : ℕ) → moment_of_number z ≡ Some moment → (cells : Row) (x : InMeeting Poll) → polls.means (columns_of polls cells) ≡ Some x
      → polls.means (columns_of polls (if passes named (Text meeting ∷ Int n ∷ Int z ∷ []) cells then new_row (record table { tree = 35 }) close_terms (Text meeting ∷ Int n ∷ Int z ∷ []) cells else cells)) ≡ Some (closed_at name moment x)
  close_sets z moment at cells x h = go (passes named (Text meeting ∷ Int n ∷ Int z ∷ []) cells) (is_poll_named name x) (chosen_so name meeting n (Int z ∷ []) is number cells x h)
    where
      set_now : some_moment_of (cast Integer (Int z)) ≡ Some (Some moment)
      set_now = rw (cast_int z, at) refl

      go : (a b : Bool) → a ≡ b → polls.means (columns_of polls (if a then new_row (record table { tree = 35 }) close_terms (Text meeting ∷ Int n ∷ Int z ∷ []) cells else cells))
          ≡ Some (if b then record x { item = record x.item { closed = Some moment } } else x)
      go true true e =
          let k = preserved_row cells x h in
          again cells x k (cast Integer (column cells 7)) (cast Integer (Int z)) (cast Integer (column cells 9)) (cast Integer (column cells 10)) (cast Integer (column cells 11)) (cast Integer (column cells 12)) (record x { item = record x.item { closed = Some moment } }) refl k.started set_now k.declared
      go true false e = absurd cc
      go false true e = absurd cc
      go false false e = h

  pub closes : (z : ℤ) (moment : ℕ) → moment_of_number z ≡ Some moment → (old new : State) (r : Result ℕ Error) → IsDesk old → IsTrue old.in_transaction
      → ExecutesInside 0 close_text (Text meeting ∷ Int n ∷ Int z ∷ []) old new r → OnOk r (Sets polls (closed_at name moment) old new)
  closes z moment at old new r was inside h =
      sets polls (λ cells. if passes named (Text meeting ∷ Int n ∷ Int z ∷ []) cells then new_row (record table { tree = 35 }) close_terms (Text meeting ∷ Int n ∷ Int z ∷ []) cells else cells) (closed_at name moment) (close_sets z moment at) layout_two old new r
      (changes_rows (twos_apart old.now.schema was.schema) 17 (record table { tree = 35 }) named close_terms close_text (Text meeting ∷ Int n ∷ Int z ∷ []) (close_runs old.now.schema was.schema).is (close_runs old.now.schema was.schema).plain (close_runs old.now.schema was.schema).there refl refl (keeps_number close_terms (Text meeting ∷ Int n ∷ Int z ∷ [])) old new r refl was inside h)

  abbrev figures : ℤ → ℤ → ℤ → ℤ → Row
  figures a b c d = Text meeting ∷ Int n ∷ Int a ∷ Int b ∷ Int c ∷ Int d ∷ []

  declare_sets : (a b c d : ℤ) (tally : Tally) → declared_of (Int a) (Int b) (Int c) (Int d) ≡ Some (Some tally) → (cells : Row) (x : InMeeting Poll) → polls.means (columns_of polls cells) ≡ Some x
      → polls.means (columns_of polls (if passes named (figures a b c d) cells then new_row (record table { tree = 35 }) declare_terms (figures a b c d) cells else cells)) ≡ Some (declared_with name tally x)
  declare_sets a b c d tally at cells x h = go (passes named (figures a b c d) cells) (is_poll_named name x) (chosen_so name meeting n (Int a ∷ Int b ∷ Int c ∷ Int d ∷ []) is number cells x h)
    where
      set_now : declared_of (cast Integer (Int a)) (cast Integer (Int b)) (cast Integer (Int c)) (cast Integer (Int d)) ≡ Some (Some tally)
      set_now = rw (cast_int a, cast_int b, cast_int c, cast_int d) at

      go : (p q : Bool) → p ≡ q → polls.means (columns_of polls (if p then new_row (record table { tree = 35 }) declare_terms (figures a b c d) cells else cells))
          ≡ Some (if q then record x { item = record x.item { declared = Some tally } } else x)
      go true true e =
          let k = preserved_row cells x h in
          again cells x k (cast Integer (column cells 7)) (cast Integer (column cells 8)) (cast Integer (Int a)) (cast Integer (Int b)) (cast Integer (Int c)) (cast Integer (Int d)) (record x { item = record x.item { declared = Some tally } }) refl k.started k.closed set_now
      go true false e = absurd cc
      go false true e = absurd cc
      go false false e = h

  pub declares : (a b c d : ℤ) (tally : Tally) → declared_of (Int a) (Int b) (Int c) (Int d) ≡ Some (Some tally) → (old new : State) (r : Result ℕ Error) → IsDesk old → IsTrue old.in_transaction
      → ExecutesInside 0 declare_text (figures a b c d) old new r → OnOk r (Sets polls (declared_with name tally) old new)
  declares a b c d tally at old new r was inside h =
      sets polls (λ cells. if passes named (figures a b c d) cells then new_row (record table { tree = 35 }) declare_terms (figures a b c d) cells else cells) (declared_with name tally) (declare_sets a b c d tally at) layout_two old new r
      (changes_rows (twos_apart old.now.schema was.schema) 17 (record table { tree = 35 }) named declare_terms declare_text (figures a b c d) (declare_runs old.now.schema was.schema).is (declare_runs old.now.schema was.schema).plain (declare_runs old.now.schema was.schema).there refl refl (keeps_number declare_terms (figures a b c d)) old new r refl was inside h)

-- ---- the rows of version 1

copy_text : (s : Schema) → HasTables layout_two s → CopiesTable polls_before_sessions polls first table s
unfolding understood everything
copy_text = wide (CopiesTable polls_before_sessions polls first table) (λ others apart indexes views. record { place = 17; by = Binary ∷ Binary ∷ Binary ∷ Binary ∷ Binary ∷ Binary ∷ Binary ∷ Binary ∷ Binary ∷ Binary ∷ Binary ∷ Binary ∷ Binary ∷ []; is = refl; plain = (refl, refl); there = refl; numbered = refl; from_numbered = refl; none = refl; bare = refl })

-- a row as it is copied
abbrev copied : Row → Row
copied r = cast Integer (rowid r) ∷ cast Texts (column r 1) ∷ cast Integer (Int (pos 1)) ∷ cast Integer (column r 2) ∷ cast Integer (column r 3) ∷ cast Integer (column r 4) ∷ cast Integer (column r 5) ∷ cast Integer (column r 6) ∷ cast Integer (column r 7) ∷ cast Integer (column r 8) ∷ cast Integer (column r 9) ∷ cast Integer (column r 10) ∷ cast Integer (column r 11) ∷ []

columns_copied : (r : Row) (x : InMeeting Poll) → polls_before_sessions.means (columns_of polls_before_sessions r) ≡ Some x → columns_of polls (copied r) ≡ in_first_session (columns_of polls_before_sessions r)
unfolding poll_before_sessions_in parsed_in number_in moment_in flag_in some_moment_in declared_in
columns_copied r x h =
    let cells = columns_of polls_before_sessions r in
    let meeting = bound (parsed_in meeting_of cells 0) _ x h in
    let resolution = bound (number_in cells 1) _ x meeting.2 in
    let ordered = bound (moment_in cells 2) _ x resolution.2 in
    let taken = bound (moment_in cells 3) _ x ordered.2 in
    let chair = bound (flag_in cells 4) _ x taken.2 in
    let started = bound (some_moment_in cells 5) _ x chair.2 in
    let closed = bound (some_moment_in cells 6) _ x started.2 in
    let declared = bound (declared_in cells 7) _ x closed.2 in
    let yes = bound (natural_value (column r 5)) flag_of chair.0 chair.1 in
    let figures = declared_stays (column r 8) (column r 9) (column r 10) (column r 11) declared.0 declared.1 in
    rw (text_stays meeting_of (column r 1) meeting.0 meeting.1, cast_int (pos 1), number_stays (column r 2) resolution.0 resolution.1, integer_stays moment_of_number (column r 3) ordered.0 ordered.1, integer_stays moment_of_number (column r 4) taken.0 taken.1, number_stays (column r 5) yes.0 yes.1, some_moment_stays (column r 6) started.0 started.1, some_moment_stays (column r 7) closed.0 closed.1, figures.0, figures.1, figures.2, figures.3) refl

pub copies : (old new : State) (r : Result ℕ Error) → IsDesk old → IsTrue old.in_transaction → ExecutesInside 0 (copying_text first table) [] old new r → OnOk r (Copies polls_before_sessions polls old new)
copies = table_copied copy_text copied (λ r. refl) (keeps_number [] []) columns_copied

-- whatever they mean, rows that obey their declaration are copied
kinds : AllByRecursion KeepsTyped first.columns
kinds = (record { strict = refl; stays = texts_stay }, (record { strict = refl; stays = integers_stay }, (record { strict = refl; stays = integers_stay }, (record { strict = refl; stays = integers_stay }, (record { strict = refl; stays = integers_stay }, (record { strict = refl; stays = integers_stay }, (record { strict = refl; stays = integers_stay }, (record { strict = refl; stays = integers_stay }, (record { strict = refl; stays = integers_stay }, (record { strict = refl; stays = integers_stay }, (record { strict = refl; stays = integers_stay }, tt)))))))))))

row_copied : (r : Row) → are_typed first.key 0 first.columns (drop 1 r) ≡ true → columns_of polls (copied r) ≡ in_first_session (columns_of polls_before_sessions r)
row_copied r h = let k = row_stays first kinds r h in rw (k.0 refl, cast_int (pos 1), k.1.0 refl, k.1.1.0 refl, k.1.1.1.0 refl, k.1.1.1.1.0 refl, k.1.1.1.1.1.0 refl, k.1.1.1.1.1.1.0 refl, k.1.1.1.1.1.1.1.0 refl, k.1.1.1.1.1.1.1.1.0 refl, k.1.1.1.1.1.1.1.1.1.0 refl, k.1.1.1.1.1.1.1.1.1.1.0 refl) refl

pub copies_typed : (old new : State) (r : Result ℕ Error) → IsDesk old → IsTrue old.in_transaction → ExecutesInside 0 (copying_text first table) [] old new r → OnOk r (CopiesTyped first polls_before_sessions polls old new)
copies_typed = typed_copied copy_text copied (λ r. refl) (keeps_number [] []) row_copied

-- The votes on each poll of the meetings: what a statement shows of them, that no row is on two polls, and so what all votes
-- are where as many were found poll by poll as there are.
use Rattle.std.proofs.Common.{◌≡◌, inl, inr, ℕ, ℤ, pos, negsuc, Bool, true, false, not, ◌==◌, ◌&&◌, ◌||◌, List, [], ◌∷◌, ◌++◌, map, filter, slice_index, Option, Some, None, Result, IfOk, refl, sym, ap, ap₂, subst, ◌∙◌, true≢false, arith, rules}
use Rattle.std.specs.Prelude.{is_some, nat_lt}
use Rattle.std.specs.List.{AllByRecursion, list_any}
use Rattle.std.proofs.Math.Bool.{and-true}
use Rattle.std.proofs.lemmas.Bool.{and_parts, cases_Bool, eqb-true}
use Rattle.std.proofs.lemmas.Bool.Decides.{nat_tests}
use Rattle.std.specs.Cmp.Derive.{both_true}
use Rattle.sqlite.specs.declared.error.Error.{Error}
use Rattle.sqlite.specs.declared.types.Value.TheVariants.{Int}
use Rattle.sqlite.specs.Collation.TheVariants.{Binary}
use Rattle.sqlite.specs.Held.{Held, state}
use Rattle.sqlite.specs.Ops.{binary, is_true}
use Rattle.sqlite.specs.Order.{Row, column}
use Rattle.sqlite.specs.State.{IsUnchanged}
use Rattle.sqlite.specs.Tree.{Trees}
use Rattle.sqlite_sql.specs.declared.ops.BinaryOp.TheVariants.{Compare}
use Rattle.sqlite_sql.specs.declared.ops.CompareOp.TheVariants.{Eq}
use Rattle.sqlite_trees.specs.declared.store.Store as store
use Rattle.seq.specs.Ordered.{ascends_by, differ_by}
use Rattle.vocabulary.specs.Names.{same_name}
use Rattle.desk_words.specs.Office.{poll_before}
use Rattle.desk_words.specs.declared.records.CastMark.{CastMark}
use Rattle.desk_words.specs.declared.records.Poll.{Poll}
use Rattle.desk_words.proofs.WordRowLemmas.{same_name-refl, same_name-true}
use Rattle.sql_rows.specs.ColumnValues.{natural_of, natural_value, number_in}
use Rattle.sql_rows.specs.Meanings.{all_meanings}
use Rattle.sql_rows.specs.declared.stored_records.InMeeting.{InMeeting}
use Rattle.sql_rows.specs.declared.stored_records.MeetingRow.{MeetingRow}
use Rattle.sql_schema.specs.Contents.{casts}
use Rattle.sql_schema.specs.Statements.{ChangesNothing, IsRead, columns_of, records_in}
use Rattle.sql_lemmas.proofs.Deleting.{passes}
use Rattle.sql_lemmas.proofs.GivenNumbers.{each_means}
use Rattle.sql_lemmas.proofs.Queries.{asked_alone, shown_in}
use Rattle.sql_lemmas.proofs.Reading.{found_records}
use Rattle.sql_lemmas.proofs.Tests.{numbers_decide, whatever_decides}
use Rattle.sql_stored.specs.Keys.{IsAsked, NamesNumber, both_tests, keyed_text}
use Rattle.sql_schema.specs.Tables.{casts_table}
use Rattle.sql_queries.specs.HandedInQueries.{cast_on_resolution, casts_of_meeting, names_cast}
use Rattle.sql_model.specs.OfficeRecords.{of_meeting}
use Rattle.sql_model.proofs.ModelRecordLemmas.{name_turned}
use Rattle.sql_open.specs.Judging.{same_meeting_row}
use Rattle.sql_open.specs.Votes.{is_numbered, is_on, rows_on, votes_on}
use Rattle.sql_open.proofs.MeetingRowLemmas.{of_row, shown_by}
use Rattle.sql_load.proofs.NamedMeetingLemmas.{passing}
use Rattle.sql_open.proofs.PassingLemmas.{AllMean, Once, later_mean, none_passes, passes_once, passes_one, row_means}

-- ---- what a statement shows

natural_is : (z : ℤ) (n : ℕ) → natural_of z ≡ Some n → z ≡ pos n
natural_is (pos k) n h = let same : k ≡ n = cc in ap pos same
natural_is (negsuc k) n h = absurd cc

-- a row passes the tests of a meeting and a number exactly where it names that meeting and equals that number
on_so : (id : List ℕ) (k : ℕ) (params row : Row) → NamesNumber id k params → passes (both_tests casts.columns (0 ∷ 1 ∷ [])) params row ≡ is_on id k row
on_so id k params row given =
    subst (λ (p : Row). passes (both_tests casts.columns (0 ∷ 1 ∷ [])) p row ≡ is_on id k row) (sym given.is)
    (ap₂ ◌&&◌ (whatever_decides (column row (slice_index casts.columns 0)) given.meeting id given.named)
    (and-true _ ∙ ap (λ z. is_true (binary (Compare Eq Binary) (column row (slice_index casts.columns 1)) (Int z))) (natural_is given.number k given.of)))

module _ {S V : Type 0} (g : store.Ghosts S) (a b : Held S) (items : V → List Row) (r : Result V Error) (id : List ℕ) (k : ℕ) (asked : IsAsked g a b items (keyed_text casts_table (0 ∷ 1 ∷ [])) r (NamesNumber id k)) where
  pub shown_on : IsRead g a b → IfOk r (λ v. (items v ≡ rows_on id k (state g a).now.trees) × IsUnchanged (state g a) (state g b))
  shown_on = shown_by g a b items r casts casts_table (both_tests casts.columns (0 ∷ 1 ∷ [])) (is_on id k) (on_so id k) refl refl cast_on_resolution.asks asked

  pub nothing_changed_on : ChangesNothing g a b
  nothing_changed_on = go asked
    where
      go : IsAsked g a b items (keyed_text casts_table (0 ∷ 1 ∷ [])) r (NamesNumber id k) → ChangesNothing g a b
      go (inl refused) = let none : ChangesNothing g a a = search rules in subst (λ (h : Held S). ChangesNothing g a h) (sym refused.same) none
      go (inr asked) = asked_alone g a b items (keyed_text casts_table (0 ∷ 1 ∷ [])) asked.0 r (λ read. (cast_on_resolution.asks _ read.1.schema).plain) asked.2.ok asked.2.err asked.2.crash

-- ---- of rows that mean votes

-- the meeting and the resolution of a poll
abbrev pub Key : Type 0
Key = List ℕ × ℕ

-- the row is on that poll
abbrev pub on : Key → Row → Bool
on key row = is_on key.0 key.1 row

-- the vote is on it
abbrev pub has : Key → InMeeting CastMark → Bool
has key r = same_name r.meeting key.0 && r.item.resolution == key.1

abbrev pub same_key : Key → Key → Bool
same_key a b = same_name a.0 b.0 && a.1 == b.1

numbered_so : (k : ℕ) (row : Row) (r : InMeeting CastMark) → casts.means (columns_of casts row) ≡ Some r → is_numbered k row ≡ (r.item.resolution == k)
unfolding number_in
numbered_so k row r h = numbers_decide (column row (slice_index casts.columns 1)) (pos k) r.item.resolution k (shown_in natural_value refl row casts.columns 1 r.item.resolution (names_cast (columns_of casts row) r h).2) refl

pub has_so : (key : Key) (row : Row) (r : InMeeting CastMark) → casts.means (columns_of casts row) ≡ Some r → on key row ≡ has key r
has_so key row r h = ap₂ ◌&&◌ (of_row casts casts_of_meeting.holds key.0 row r h) (numbered_so key.1 row r h)

-- of a table that holds records those on a poll are its votes
pub votes_known : (trees : Trees) (was : List (InMeeting CastMark)) → records_in casts trees ≡ Some was → (id : List ℕ) (k : ℕ) → votes_on id k trees ≡ Some (filter (λ (c : CastMark). c.resolution == k) (of_meeting id was))
votes_known trees was held id k =
    let its = found_records casts (is_on id k) (has (id, k)) (has_so (id, k)) (trees casts.number) was held in
    rw its (ap (λ l. Some l) (passing id (λ (c : CastMark). c.resolution == k) was))

-- a row that is on a poll is on no other
on_once : (row : Row) (r : InMeeting CastMark) → casts.means (columns_of casts row) ≡ Some r → (a b : Key) → on a row ≡ true → on b row ≡ same_key a b
on_once row r h a b is =
    let both = and_parts (same_name r.meeting a.0) (r.item.resolution == a.1) (sym (has_so a row r h) ∙ is) in
    has_so b row r h ∙ ap (λ n. same_name n b.0 && r.item.resolution == b.1) (same_name-true r.meeting a.0 both.0) ∙ ap (λ k. same_name a.0 b.0 && k == b.1) (eqb-true r.item.resolution a.1 both.1)

-- where the rows on each poll mean votes, each row is on one at most
pub once_each : (keys : List Key) → differ_by same_key keys ≡ true → (rows : List Row) → AllMean casts on keys rows → AllByRecursion (Once on keys) rows
once_each keys apart [] mean = tt
once_each keys apart (row ∷ rows) mean = (first, once_each keys apart rows (later_mean casts on row rows keys mean))
  where
    meant : (o : Option (InMeeting CastMark)) → casts.means (columns_of casts row) ≡ o → is_some o ≡ true → Once on keys row
    meant (Some r) is some = passes_once on same_key row (on_once row r is) keys apart
    meant None is some = absurd (true≢false (sym some))

    first : Once on keys row
    first = elim (cases_Bool (passes_one on keys row)) [
      | inl is ↦ meant (casts.means (columns_of casts row)) refl (row_means casts on row rows keys mean is)
      | inr other ↦ let none = none_passes on row keys other in omega (arith, none)
    ]

-- and so where they all mean votes
pub once_known : (keys : List Key) → differ_by same_key keys ≡ true → (rows : List Row) (was : List (InMeeting CastMark)) → all_meanings casts.means (map (columns_of casts) rows) ≡ Some was → AllByRecursion (Once on keys) rows
once_known keys apart [] was held = tt
once_known keys apart (row ∷ rows) was held =
    let each = each_means casts.means (columns_of casts row) (map (columns_of casts) rows) was held in
    (passes_once on same_key row (on_once row each.0 each.2) keys apart, once_known keys apart rows each.1 each.3)

-- ---- the polls of the meetings

-- both polls are on one resolution
abbrev pub same_resolution : Poll → Poll → Bool
same_resolution a b = a.resolution == b.resolution

none_below : (n : ℕ) (q : Poll) (ps : List Poll) → nat_lt n q.resolution ≡ true → ascends_by poll_before (q ∷ ps) ≡ true → list_any (λ (p : Poll). n == p.resolution) (q ∷ ps) ≡ false
none_below n q [] less up = let apart : (n == q.resolution) ≡ false = grind (arith, nat_tests, less) in rw apart refl
none_below n q (p ∷ ps) less up =
    let apart : (n == q.resolution) ≡ false = grind (arith, nat_tests, less) in
    let parts = and_parts (poll_before q p) (ascends_by poll_before (p ∷ ps)) up in
    let next : nat_lt n p.resolution ≡ true = (let above = parts.0 in grind (arith, nat_tests, less, above)) in
    ap (λ b. b || list_any (λ (r : Poll). n == r.resolution) (p ∷ ps)) apart ∙ none_below n p ps next parts.1

-- polls in the order of resolutions are on different ones
pub polls_differ : (ps : List Poll) → ascends_by poll_before ps ≡ true → differ_by same_resolution ps ≡ true
polls_differ [] up = refl
polls_differ (q ∷ []) up = refl
polls_differ (q ∷ p ∷ ps) up =
    let parts = and_parts (poll_before q p) (ascends_by poll_before (p ∷ ps)) up in
    both_true (ap not (none_below q.resolution p ps parts.0 parts.1)) (polls_differ (p ∷ ps) parts.1)

any_more : {X : Type 0} (p : X → Bool) (xs ys : List X) → list_any p (xs ++ ys) ≡ (list_any p xs || list_any p ys)
any_more p [] ys = refl
any_more p (x ∷ xs) ys = elim (p x) as (λ b. (b || list_any p (xs ++ ys)) ≡ ((b || list_any p xs) || list_any p ys)) [ true ↦ refl | false ↦ any_more p xs ys ]

-- those of these polls of a meeting
abbrev pub keys_on : List ℕ → List Poll → List Key
keys_on id [] = []
keys_on id (p ∷ ps) = (id, p.resolution) ∷ keys_on id ps

on_none : (id other : List ℕ) (k : ℕ) → same_name id other ≡ false → (ps : List Poll) → list_any (same_key (id, k)) (keys_on other ps) ≡ false
on_none id other k apart [] = refl
on_none id other k apart (p ∷ ps) = ap (λ b. (b && k == p.resolution) || list_any (same_key (id, k)) (keys_on other ps)) apart ∙ on_none id other k apart ps

on_own : (id : List ℕ) (k : ℕ) (ps : List Poll) → list_any (same_key (id, k)) (keys_on id ps) ≡ list_any (λ (p : Poll). k == p.resolution) ps
on_own id k [] = refl
on_own id k (p ∷ ps) = ap (λ b. (b && k == p.resolution) || list_any (same_key (id, k)) (keys_on id ps)) (same_name-refl id) ∙ ap (λ b. k == p.resolution || b) (on_own id k ps)

first_of_two : (a b : Bool) → (a || b) ≡ false → (a ≡ false) × (b ≡ false)
first_of_two true b h = absurd (true≢false h)
first_of_two false b h = (refl, h)

neither : (a : Bool) → not a ≡ true → a ≡ false
neither true h = absurd (true≢false (sym h))
neither false h = refl

module _ (polls_of : MeetingRow → List Poll) where
  -- the polls of these meetings
  abbrev pub keys_of : List MeetingRow → List Key
  keys_of [] = []
  keys_of (m ∷ ms) = keys_on m.id (polls_of m) ++ keys_of ms

  of_others : (id : List ℕ) (k : ℕ) (ms : List MeetingRow) → list_any (λ (m : MeetingRow). same_name id m.id) ms ≡ false → list_any (same_key (id, k)) (keys_of ms) ≡ false
  of_others id k [] none = refl
  of_others id k (m ∷ ms) none =
      let both = first_of_two (same_name id m.id) (list_any (λ (n : MeetingRow). same_name id n.id) ms) none in
      any_more (same_key (id, k)) (keys_on m.id (polls_of m)) (keys_of ms) ∙ ap (λ b. b || list_any (same_key (id, k)) (keys_of ms)) (on_none id m.id k both.0 (polls_of m)) ∙ of_others id k ms both.1

  differ_before : (m : MeetingRow) (ms : List MeetingRow) → list_any (same_meeting_row m) ms ≡ false → differ_by same_key (keys_of ms) ≡ true → (ps : List Poll) → differ_by same_resolution ps ≡ true → differ_by same_key (keys_on m.id ps ++ keys_of ms) ≡ true
  differ_before m ms other rest [] apart = rest
  differ_before m ms other rest (p ∷ ps) apart =
      let parts = and_parts (not (list_any (same_resolution p) ps)) (differ_by same_resolution ps) apart in
      let none = any_more (same_key (m.id, p.resolution)) (keys_on m.id ps) (keys_of ms) ∙ ap (λ b. b || list_any (same_key (m.id, p.resolution)) (keys_of ms)) (on_own m.id p.resolution ps ∙ neither (list_any (same_resolution p) ps) parts.0) ∙ of_others m.id p.resolution ms other in
      both_true (ap not none) (differ_before m ms other rest ps parts.1)

  -- where the meetings differ, and the polls of each, so do the polls of all
  pub keys_differ : (ms : List MeetingRow) → differ_by same_meeting_row ms ≡ true → AllByRecursion (λ m. differ_by same_resolution (polls_of m) ≡ true) ms → differ_by same_key (keys_of ms) ≡ true
  keys_differ [] apart polls = refl
  keys_differ (m ∷ ms) apart polls =
      let parts = and_parts (not (list_any (same_meeting_row m) ms)) (differ_by same_meeting_row ms) apart in
      differ_before m ms (neither (list_any (same_meeting_row m) ms) parts.0) (keys_differ ms parts.1 polls.1) (polls_of m) polls.0

  -- ---- of a vote that is on one of them

  has_on : (id : List ℕ) (r : InMeeting CastMark) (ps : List Poll) → list_any (λ key. has key r) (keys_on id ps) ≡ (same_name r.meeting id && list_any (λ (p : Poll). r.item.resolution == p.resolution) ps)
  has_on id r [] = elim (same_name r.meeting id) as (λ b. false ≡ (b && false)) [ true ↦ refl | false ↦ refl ]
  has_on id r (p ∷ ps) =
      ap (λ b. (same_name r.meeting id && r.item.resolution == p.resolution) || b) (has_on id r ps)
      ∙ elim (same_name r.meeting id) as (λ b. ((b && r.item.resolution == p.resolution) || (b && list_any (λ (q : Poll). r.item.resolution == q.resolution) ps)) ≡ (b && (r.item.resolution == p.resolution || list_any (λ (q : Poll). r.item.resolution == q.resolution) ps))) [ true ↦ refl | false ↦ refl ]

  -- its meeting is one of them
  pub has_meeting : (r : InMeeting CastMark) (ms : List MeetingRow) → list_any (λ key. has key r) (keys_of ms) ≡ true → list_any (λ (m : MeetingRow). same_name r.meeting m.id) ms ≡ true
  has_meeting r [] h = absurd (true≢false (sym h))
  has_meeting r (m ∷ ms) h = go (same_name r.meeting m.id) refl (has_meeting r ms) (sym (any_more (λ key. has key r) (keys_on m.id (polls_of m)) (keys_of ms) ∙ ap (λ b. b || list_any (λ key. has key r) (keys_of ms)) (has_on m.id r (polls_of m))) ∙ h)
    where
      go : (b : Bool) → same_name r.meeting m.id ≡ b → (list_any (λ key. has key r) (keys_of ms) ≡ true → list_any (λ (n : MeetingRow). same_name r.meeting n.id) ms ≡ true)
          → ((same_name r.meeting m.id && list_any (λ (p : Poll). r.item.resolution == p.resolution) (polls_of m)) || list_any (λ key. has key r) (keys_of ms)) ≡ true → (b || list_any (λ (n : MeetingRow). same_name r.meeting n.id) ms) ≡ true
      go true is rest h = refl
      go false is rest h = rest (ap (λ b. (b && list_any (λ (p : Poll). r.item.resolution == p.resolution) (polls_of m)) || list_any (λ key. has key r) (keys_of ms)) (sym is) ∙ h)

  -- the vote is on a poll of its meeting
  abbrev pub IsOnPoll : InMeeting CastMark → MeetingRow → Type 0
  IsOnPoll r m = same_name r.meeting m.id ≡ true → list_any (λ (p : Poll). r.item.resolution == p.resolution) (polls_of m) ≡ true

  no_other : (r : InMeeting CastMark) (m : MeetingRow) → same_name r.meeting m.id ≡ true → (ms : List MeetingRow) → list_any (same_meeting_row m) ms ≡ false → AllByRecursion (IsOnPoll r) ms
  no_other r m is [] apart = tt
  no_other r m is (n ∷ ms) apart =
      let both = first_of_two (same_name m.id n.id) (list_any (same_meeting_row m) ms) apart in
      (λ also. absurd (true≢false (sym also ∙ ap (λ k. same_name k n.id) (same_name-true r.meeting m.id is) ∙ both.0)), no_other r m is ms both.1)

  pub on_its_poll : (r : InMeeting CastMark) (ms : List MeetingRow) → differ_by same_meeting_row ms ≡ true → list_any (λ key. has key r) (keys_of ms) ≡ true → AllByRecursion (IsOnPoll r) ms
  on_its_poll r [] apart h = tt
  on_its_poll r (m ∷ ms) apart h =
      let parts = and_parts (not (list_any (same_meeting_row m) ms)) (differ_by same_meeting_row ms) apart in
      go (same_name r.meeting m.id) refl (neither (list_any (same_meeting_row m) ms) parts.0) (on_its_poll r ms parts.1)
      (sym (any_more (λ key. has key r) (keys_on m.id (polls_of m)) (keys_of ms) ∙ ap (λ b. b || list_any (λ key. has key r) (keys_of ms)) (has_on m.id r (polls_of m))) ∙ h)
    where
      polled : Bool
      polled = list_any (λ (p : Poll). r.item.resolution == p.resolution) (polls_of m)

      only : (a b : Bool) → (a || b) ≡ true → b ≡ false → a ≡ true
      only true b h none = refl
      only false b h none = absurd (true≢false (sym h ∙ none))

      not_later : same_name r.meeting m.id ≡ true → list_any (same_meeting_row m) ms ≡ false → list_any (λ key. has key r) (keys_of ms) ≡ false
      not_later is apart = elim (cases_Bool (list_any (λ key. has key r) (keys_of ms))) [
        | inl some ↦ absurd (true≢false (sym (has_meeting r ms some) ∙ ap (λ k. list_any (λ (n : MeetingRow). same_name k n.id) ms) (same_name-true r.meeting m.id is) ∙ apart))
        | inr none ↦ none
      ]

      go : (b : Bool) → same_name r.meeting m.id ≡ b → list_any (same_meeting_row m) ms ≡ false → (list_any (λ key. has key r) (keys_of ms) ≡ true → AllByRecursion (IsOnPoll r) ms) → ((same_name r.meeting m.id && polled) || list_any (λ key. has key r) (keys_of ms)) ≡ true → AllByRecursion (IsOnPoll r) (m ∷ ms)
      go true is alone rest h =
          let here : (same_name r.meeting m.id && polled) ≡ true = only (same_name r.meeting m.id && polled) _ h (not_later is alone) in
          (λ _. (and_parts (same_name r.meeting m.id) polled here).1, no_other r m is ms alone)
      go false is alone rest h = (
        λ also. absurd (true≢false (sym also ∙ is)),
        rest (ap (λ b. (b && polled) || list_any (λ key. has key r) (keys_of ms)) (sym is) ∙ h),
      )

  -- where a vote's meeting is one of them, and it is on a poll of each meeting that is its own, it is on one of the polls
  pub on_one : (r : InMeeting CastMark) (ms : List MeetingRow) → list_any (λ (m : MeetingRow). same_name m.id r.meeting) ms ≡ true → AllByRecursion (IsOnPoll r) ms → list_any (λ key. has key r) (keys_of ms) ≡ true
  on_one r [] stands each = absurd (true≢false (sym stands))
  on_one r (m ∷ ms) stands each =
      any_more (λ key. has key r) (keys_on m.id (polls_of m)) (keys_of ms) ∙ ap (λ b. b || list_any (λ key. has key r) (keys_of ms)) (has_on m.id r (polls_of m))
      ∙ go (same_name r.meeting m.id) refl (λ stood. on_one r ms stood each.1) (ap (λ b. b || list_any (λ (n : MeetingRow). same_name n.id r.meeting) ms) (name_turned r.meeting m.id) ∙ stands)
    where
      polled : Bool
      polled = list_any (λ (p : Poll). r.item.resolution == p.resolution) (polls_of m)

      either : (a b : Bool) → a ≡ true → (a || b) ≡ true
      either true b h = refl
      either false b h = absurd (true≢false (sym h))

      go : (b : Bool) → same_name r.meeting m.id ≡ b → (list_any (λ (n : MeetingRow). same_name n.id r.meeting) ms ≡ true → list_any (λ key. has key r) (keys_of ms) ≡ true) → (same_name r.meeting m.id || list_any (λ (n : MeetingRow). same_name n.id r.meeting) ms) ≡ true → ((same_name r.meeting m.id && polled) || list_any (λ key. has key r) (keys_of ms)) ≡ true
      go true is rest h = either (same_name r.meeting m.id && polled) _ (both_true is (each.0 is))
      go false is rest h =
          ap (λ b. (b && polled) || list_any (λ key. has key r) (keys_of ms)) is
          ∙ rest (sym (ap (λ b. b || list_any (λ (n : MeetingRow). same_name n.id r.meeting) ms) is) ∙ h)

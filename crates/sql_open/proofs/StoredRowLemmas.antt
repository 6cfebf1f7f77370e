-- The rows that name meetings which stand are as many as the lists of these meetings are, but the votes; so they are all
-- rows of their tables exactly where each row of these names one.
use Rattle.std.proofs.Common.{◌≡◌, ◌≤◌, ◌+◌, ℕ, Bool, true, false, List, [], ◌∷◌, length, map, filter, Option, Some, None, refl, sym, ap, ◌∙◌, true≢false, arith}
use Rattle.std.specs.List.{AllByRecursion}
use Rattle.std.specs.Option.{option_map_or}
use Rattle.std.proofs.lemmas.List.{length-map}
use Rattle.std.proofs.lemmas.List.Sorted.{length_permutation}
use Rattle.sqlite.specs.Order.{Row}
use Rattle.sqlite.specs.Tree.{Trees}
use Rattle.seq.specs.Ordered.{differ_by}
use Rattle.seq.specs.Sorting.{sort_by}
use Rattle.seq.proofs.SortingLemmas.{IsPermutation-sort_by}
use Rattle.vocabulary.specs.Names.{same_name}
use Rattle.vocabulary.specs.OptionSteps.{◌>>=◌}
use Rattle.desk_words.specs.Office.{poll_before}
use Rattle.desk_words.specs.Registers.{member_before}
use Rattle.desk_words.specs.declared.office.MeetingLists.{MeetingLists}
use Rattle.desk_words.proofs.WordRowLemmas.{same_name-true}
use Rattle.sql_rows.specs.Meanings.{all_meanings}
use Rattle.sql_rows.specs.declared.stored_records.InMeeting.{InMeeting}
use Rattle.sql_rows.specs.declared.stored_records.MeetingRow.{MeetingRow}
use Rattle.sql_rows.specs.declared.stored_records.Numbered.{Numbered}
use Rattle.sql_rows.proofs.RowMeaningLemmas.{bound}
use Rattle.sql_schema.specs.Contents as table
use Rattle.sql_schema.specs.Statements.{TableOf, columns_of}
use Rattle.sql_queries.proofs.CountQueries.{as_many}
use Rattle.sql_model.specs.OfficeRecords.{number_before, numbered_from}
use Rattle.sql_model.proofs.FlatChanges.{some_is}
use Rattle.sql_open.specs.declared.meeting_lists.Called.{Called}
use Rattle.sql_open.specs.Judging.{same_meeting_row}
use Rattle.sql_open.specs.MeetingReading.{but_votes, called_in, given_in, is_of, meeting_in_row, own_in, polled_in, polls_in, register_in, resolutions_in, sessions_in}
use Rattle.sql_load.specs.MeetingRecords.{without_meeting}
use Rattle.sql_open.specs.StoredRows.{rows_but_votes, rows_in, stored_rows}
use Rattle.sql_load.proofs.CountedRecordLemmas.{numbered_length}
use Rattle.sql_open.proofs.MeetingRowLemmas.{names_one}
use Rattle.sql_open.proofs.PassingLemmas.{all_pass, all_passing, each_passes, no_more, of_each, passes_once, passing}

-- ---- of one table

module _ {A : Type 0} (it : TableOf A) where
  -- a row names the meeting
  abbrev pub names : MeetingRow → Row → Bool
  names m row = is_of it m.id row

  -- a row that names a meeting names no other
  same_name_so : (name : Option (List ℕ)) (id other : List ℕ) → option_map_or (λ n. same_name n id) name false ≡ true → option_map_or (λ n. same_name n other) name false ≡ same_name id other
  same_name_so (Some n) id other h = ap (λ k. same_name k other) (same_name-true n id h)
  same_name_so None id other h = absurd (true≢false (sym h))

  module _ (ms : List MeetingRow) (apart : differ_by same_meeting_row ms ≡ true) where
    once : (row : Row) → all_passing names ms (row ∷ []) ≤ 1
    once row = passes_once names same_meeting_row row (λ m n is. same_name_so (meeting_in_row it row) m.id n.id is) ms apart

    pub names_no_more : (rows : List Row) → all_passing names ms rows ≤ length rows
    names_no_more rows = no_more names ms rows (of_each once rows)

    pub each_names : (rows : List Row) → all_passing names ms rows ≡ length rows → AllByRecursion (λ row. names_one it ms row ≡ true) rows
    each_names rows = each_passes names ms rows (of_each once rows)

    pub all_name : (rows : List Row) → AllByRecursion (λ row. names_one it ms row ≡ true) rows → all_passing names ms rows ≡ length rows
    all_name rows = all_pass names ms rows (of_each once rows)

-- ---- of a meeting

-- the records that are shown, without their meeting, are as many as their rows
pub shown_length : {A : Type 0} (it : TableOf (InMeeting A)) (rows : List Row) (xs : List A) → (all_meanings it.means (map (columns_of it) rows) >>= λ l. Some (map without_meeting l)) ≡ Some xs → length xs ≡ length rows
shown_length it rows xs h =
    let its = bound (all_meanings it.means (map (columns_of it) rows)) (λ l. Some (map without_meeting l)) xs h in
    let is : map without_meeting its.0 ≡ xs = some_is its.2 in
    ap length (sym is) ∙ length-map its.0 without_meeting ∙ sym (as_many it.means (map (columns_of it) rows) its.0 its.1) ∙ length-map rows (columns_of it)

own_length : {A : Type 0} (it : TableOf (InMeeting A)) (m : MeetingRow) (trees : Trees) (xs : List A) → own_in it m.id trees ≡ Some xs → length xs ≡ passing (names it) m (trees it.number)
own_length it m trees xs = shown_length it (filter (is_of it m.id) (trees it.number)) xs

numbered_many : {A : Type 0} (n : ℕ) (rows : List (Numbered A)) (xs : List A) → numbered_from n (sort_by number_before rows) ≡ Some xs → length xs ≡ length rows
numbered_many n rows xs h = numbered_length n (sort_by number_before rows) xs h ∙ length_permutation rows (sort_by number_before rows) (IsPermutation-sort_by number_before rows)

sorted_many : {A : Type 0} (before : A → A → Bool) (rows xs : List A) → Some (sort_by before rows) ≡ Some xs → length xs ≡ length rows
sorted_many before rows xs h = ap length (sym (some_is h)) ∙ length_permutation rows (sort_by before rows) (IsPermutation-sort_by before rows)

-- how many rows name a meeting, but those of votes
abbrev pub its_all : MeetingRow → Trees → ℕ
its_all m trees =
    passing (names table.sessions) m (trees 29) + passing (names table.resolutions) m (trees 8) + passing (names table.register) m (trees 10)
    + passing (names table.appointments) m (trees 12) + passing (names table.endings) m (trees 14) + passing (names table.authorities) m (trees 16)
    + passing (names table.presences) m (trees 31) + passing (names table.demands) m (trees 33) + passing (names table.polls) m (trees 35)

nine_same : {a b c d e f g h i a' b' c' d' e' f' g' h' i' : ℕ} → a ≡ a' → b ≡ b' → c ≡ c' → d ≡ d' → e ≡ e' → f ≡ f' → g ≡ g' → h ≡ h' → i ≡ i'
    → a + b + c + d + e + f + g + h + i ≡ a' + b' + c' + d' + e' + f' + g' + h' + i'
nine_same a b c d e f g h i = rw (a, b, c, d, e, f, g, h, i) refl

-- the lists of a meeting are as many rows
pub lists_rows : (trees : Trees) (m : MeetingRow) (lists : MeetingLists) → but_votes m trees ≡ Some lists → rows_but_votes lists ≡ its_all m trees
lists_rows trees m lists h =
    let called = bound (called_in m trees) _ lists h in
    let given = bound (given_in m.id trees) _ lists called.2 in
    let polled = bound (polled_in m.id trees) _ lists given.2 in
    let later = bound (sessions_in m.id trees) _ called.0 called.1 in
    let resolutions = bound (resolutions_in m.id trees) _ called.0 later.2 in
    let register = bound (register_in m.id trees) _ called.0 resolutions.2 in
    let called_is = sym (some_is register.2) in
    let sessions = bound (own_in table.sessions m.id trees) _ later.0 later.1 in
    let numbered = bound (own_in table.resolutions m.id trees) _ resolutions.0 resolutions.1 in
    let rows = bound (own_in table.register m.id trees) _ register.0 register.1 in
    let appointments = bound (own_in table.appointments m.id trees) _ given.0 given.1 in
    let endings = bound (own_in table.endings m.id trees) _ given.0 appointments.2 in
    let authorities = bound (own_in table.authorities m.id trees) _ given.0 endings.2 in
    let given_is = sym (some_is authorities.2) in
    let presences = bound (own_in table.presences m.id trees) _ polled.0 polled.1 in
    let demands = bound (own_in table.demands m.id trees) _ polled.0 presences.2 in
    let polls = bound (polls_in m.id trees) _ polled.0 demands.2 in
    let polled_is = sym (some_is polls.2) in
    let ordered = bound (own_in table.polls m.id trees) _ polls.0 polls.1 in
    ap rows_but_votes (sym (some_is polled.2))
    ∙ nine_same
    (ap (λ (c : Called). length c.meeting.later) called_is ∙ numbered_many 2 sessions.0 later.0 sessions.2 ∙ own_length table.sessions m trees sessions.0 sessions.1)
    (ap (λ (c : Called). length c.meeting.resolutions) called_is ∙ numbered_many 1 numbered.0 resolutions.0 numbered.2 ∙ own_length table.resolutions m trees numbered.0 numbered.1)
    (ap (λ (c : Called). length c.register) called_is ∙ sorted_many member_before rows.0 register.0 rows.2 ∙ own_length table.register m trees rows.0 rows.1)
    (ap (λ c. length c.appointments) given_is ∙ own_length table.appointments m trees appointments.0 appointments.1)
    (ap (λ c. length c.endings) given_is ∙ own_length table.endings m trees endings.0 endings.1)
    (ap (λ c. length c.authorities) given_is ∙ own_length table.authorities m trees authorities.0 authorities.1)
    (ap (λ c. length c.presences) polled_is ∙ own_length table.presences m trees presences.0 presences.1)
    (ap (λ c. length c.demands) polled_is ∙ own_length table.demands m trees demands.0 demands.1)
    (ap (λ c. length c.polls) polled_is ∙ sorted_many poll_before ordered.0 polls.0 ordered.2 ∙ own_length table.polls m trees ordered.0 ordered.1)

-- ---- of all meetings

-- how many rows name each of these meetings, together
abbrev pub named_all : List MeetingRow → Trees → ℕ
named_all ms trees =
    all_passing (names table.sessions) ms (trees 29) + all_passing (names table.resolutions) ms (trees 8) + all_passing (names table.register) ms (trees 10)
    + all_passing (names table.appointments) ms (trees 12) + all_passing (names table.endings) ms (trees 14) + all_passing (names table.authorities) ms (trees 16)
    + all_passing (names table.presences) ms (trees 31) + all_passing (names table.demands) ms (trees 33) + all_passing (names table.polls) ms (trees 35)

pub nine_more : (a b c d e f g h i a' b' c' d' e' f' g' h' i' : ℕ)
    → (a + b + c + d + e + f + g + h + i) + (a' + b' + c' + d' + e' + f' + g' + h' + i') ≡ (a + a') + (b + b') + (c + c') + (d + d') + (e + e') + (f + f') + (g + g') + (h + h') + (i + i')
nine_more a b c d e f g h i a' b' c' d' e' f' g' h' i' = omega arith

-- each row of the tables but that of votes names one of these meetings
pub record AllNamed (ms : List MeetingRow) (trees : Trees) : Type 0 where
  pub sessions : AllByRecursion (λ row. names_one table.sessions ms row ≡ true) (trees 29)
  pub resolutions : AllByRecursion (λ row. names_one table.resolutions ms row ≡ true) (trees 8)
  pub register : AllByRecursion (λ row. names_one table.register ms row ≡ true) (trees 10)
  pub appointments : AllByRecursion (λ row. names_one table.appointments ms row ≡ true) (trees 12)
  pub endings : AllByRecursion (λ row. names_one table.endings ms row ≡ true) (trees 14)
  pub authorities : AllByRecursion (λ row. names_one table.authorities ms row ≡ true) (trees 16)
  pub presences : AllByRecursion (λ row. names_one table.presences ms row ≡ true) (trees 31)
  pub demands : AllByRecursion (λ row. names_one table.demands ms row ≡ true) (trees 33)
  pub polls : AllByRecursion (λ row. names_one table.polls ms row ≡ true) (trees 35)

two_parts : (a b x y : ℕ) → a ≤ x → b ≤ y → a + b ≡ x + y → (a ≡ x) × (b ≡ y)
two_parts a b x y p q h = (omega (arith, p, q, h), omega (arith, p, q, h))

both_less : {a b x y : ℕ} → a ≤ x → b ≤ y → a + b ≤ x + y
both_less p q = omega (arith, p, q)

module _ (trees : Trees) (ms : List MeetingRow) (apart : differ_by same_meeting_row ms ≡ true) where
  -- where these and so many votes are all rows of the tables, each of these names one, and the votes are all
  pub each_named_so : (votes : ℕ) → votes ≤ rows_in table.casts trees → named_all ms trees + votes ≡ stored_rows trees → AllNamed ms trees × (votes ≡ rows_in table.casts trees)
  each_named_so votes few all =
      let a = names_no_more table.sessions ms apart (trees 29) in
      let b = both_less a (names_no_more table.resolutions ms apart (trees 8)) in
      let c = both_less b (names_no_more table.register ms apart (trees 10)) in
      let d = both_less c (names_no_more table.appointments ms apart (trees 12)) in
      let e = both_less d (names_no_more table.endings ms apart (trees 14)) in
      let f = both_less e (names_no_more table.authorities ms apart (trees 16)) in
      let g = both_less f (names_no_more table.presences ms apart (trees 31)) in
      let h = both_less g (names_no_more table.demands ms apart (trees 33)) in
      let i = both_less h (names_no_more table.polls ms apart (trees 35)) in
      let casts = two_parts _ _ _ _ i few all in
      let polls = two_parts _ _ _ _ h (names_no_more table.polls ms apart (trees 35)) casts.0 in
      let demands = two_parts _ _ _ _ g (names_no_more table.demands ms apart (trees 33)) polls.0 in
      let presences = two_parts _ _ _ _ f (names_no_more table.presences ms apart (trees 31)) demands.0 in
      let authorities = two_parts _ _ _ _ e (names_no_more table.authorities ms apart (trees 16)) presences.0 in
      let endings = two_parts _ _ _ _ d (names_no_more table.endings ms apart (trees 14)) authorities.0 in
      let appointments = two_parts _ _ _ _ c (names_no_more table.appointments ms apart (trees 12)) endings.0 in
      let register = two_parts _ _ _ _ b (names_no_more table.register ms apart (trees 10)) appointments.0 in
      let resolutions = two_parts _ _ _ _ a (names_no_more table.resolutions ms apart (trees 8)) register.0 in (
        record {
          sessions = each_names table.sessions ms apart (trees 29) resolutions.0;
          resolutions = each_names table.resolutions ms apart (trees 8) resolutions.1;
          register = each_names table.register ms apart (trees 10) register.1;
          appointments = each_names table.appointments ms apart (trees 12) appointments.1;
          endings = each_names table.endings ms apart (trees 14) endings.1;
          authorities = each_names table.authorities ms apart (trees 16) authorities.1;
          presences = each_names table.presences ms apart (trees 31) presences.1;
          demands = each_names table.demands ms apart (trees 33) demands.1;
          polls = each_names table.polls ms apart (trees 35) polls.1;
        },
        casts.1,
      )

  -- and where each does, they are all
  pub all_named_so : AllNamed ms trees → (votes : ℕ) → votes ≡ rows_in table.casts trees → named_all ms trees + votes ≡ stored_rows trees
  all_named_so each votes all =
      ap (λ n. named_all ms trees + n) all
      ∙ ap (λ n. n + rows_in table.casts trees)
      (nine_same (all_name table.sessions ms apart (trees 29) each.sessions) (all_name table.resolutions ms apart (trees 8) each.resolutions) (all_name table.register ms apart (trees 10) each.register)
      (all_name table.appointments ms apart (trees 12) each.appointments) (all_name table.endings ms apart (trees 14) each.endings) (all_name table.authorities ms apart (trees 16) each.authorities)
      (all_name table.presences ms apart (trees 31) each.presences) (all_name table.demands ms apart (trees 33) each.demands) (all_name table.polls ms apart (trees 35) each.polls))

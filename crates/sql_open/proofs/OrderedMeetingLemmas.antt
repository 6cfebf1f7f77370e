-- The lists of a meeting that were read have their register in the order of members, so that they are judged as they are.
use Rattle.std.proofs.Common.{◌≡◌, Bool, true, false, if◌then◌else◌, List, [], ◌∷◌, map, Some, None, refl, sym, ap, subst, ◌∙◌, true≢false, inl, inr}
use Rattle.std.specs.Prelude.{IsPermutation, MatchResult, Result, Ok, Err}
use Rattle.std.proofs.lemmas.Bool.{cases_Bool}
use Rattle.std.specs.List.{list_all}
use Rattle.std.specs.Cmp.{first_so, second_so}
use Rattle.std.specs.Cmp.Lexicographic.{nat_list_cmp_total}
use Rattle.std.proofs.lemmas.List.Sorted.{IsPermutation-trans}
use Rattle.sqlite.specs.Tree.{Trees}
use Rattle.seq.specs.Sorting.{sort_by}
use Rattle.seq.proofs.SortingLemmas.{IsPermutation-sort_by, sort_by-ascending}
use Rattle.vocabulary.specs.OptionSteps.{◌>>=◌, guard}
use Rattle.desk_words.specs.Office.{are_casts, is_meeting, is_office}
use Rattle.desk_words.specs.Registers.{member_before}
use Rattle.desk_words.specs.declared.office.MeetingLists.{MeetingLists}
use Rattle.desk_words.specs.declared.records.CastMark.{CastMark}
use Rattle.desk_words.specs.declared.records.RegisterRow.{RegisterRow}
use Rattle.desk_words.specs.declared.office.OfficeLists.{OfficeLists}
use Rattle.desk_words.proofs.OfficeFacts.{meeting_facts, meeting_from_facts, office_facts, register_ascends}
use Rattle.sql_rows.specs.declared.stored_records.MeetingRow.{MeetingRow}
use Rattle.sql_rows.proofs.RowMeaningLemmas.{bound}
use Rattle.sql_schema.specs.Contents as table
use Rattle.sql_model.proofs.FlatChanges.{some_is}
use Rattle.sql_model.proofs.ModelListLemmas.{sort_by-sorted}
use Rattle.office_validation.specs.Validation.{in_order, meeting_checked, office_in_order}
use Rattle.sql_open.specs.MeetingReading.{but_votes, called_in, given_in, own_in, polled_in, register_in, resolutions_in, sessions_in}
use Rattle.sql_open.specs.Judging.{judged_as}
use Rattle.sql_load.specs.LoadResults.{ReadAgrees, ReadErrAgrees, any_at_all}
use Rattle.sql_load.specs.declared.fault.LoadError.{LoadError}
use Rattle.sql_load.specs.declared.fault.LoadError.TheVariants.{Memory}
use Rattle.sql_open.specs.declared.judging.Judged.{Judged}
use Rattle.sql_open.specs.declared.meeting_lists.Called.{Called}
use Rattle.sql_open.proofs.MeetingReadLemmas.{guarded}

-- a meeting's lists are those once the register is in order
meeting_ordered : (m : MeetingLists) → is_meeting m ≡ true → in_order m ≡ m
meeting_ordered m h = ap (λ rows. record m { register = rows }) (sort_by-sorted nat_list_cmp_total (λ (row : RegisterRow). row.member) m.register (register_ascends m (meeting_facts m h)))

meetings_ordered : (ms : List MeetingLists) → list_all is_meeting ms ≡ true → map in_order ms ≡ ms
meetings_ordered [] h = refl
meetings_ordered (m ∷ ms) h =
    ap (λ x. x ∷ map in_order ms) (meeting_ordered m (first_so (is_meeting m) (list_all is_meeting ms) h))
    ∙ ap (λ l. m ∷ l) (meetings_ordered ms (second_so (is_meeting m) (list_all is_meeting ms) h))

-- and an office is the lists that it is once each register is in order
pub office_ordered : (office : OfficeLists) → is_office office ≡ true → office_in_order office ≡ office
office_ordered office h = ap (λ ms. record office { meetings = ms }) (meetings_ordered office.meetings (office_facts office h).each)

-- a register that was put in order, and is one then, is in order
meeting_stays : (m : MeetingLists) (rows : List RegisterRow) → m.register ≡ sort_by member_before rows → is_meeting (in_order m) ≡ true → in_order m ≡ m
meeting_stays m rows was h =
    let up = register_ascends (in_order m) (meeting_facts (in_order m) h) in
    let first : IsPermutation rows m.register = subst (IsPermutation rows) (sym was) (IsPermutation-sort_by member_before rows) in
    let moved = IsPermutation-trans rows m.register (sort_by member_before m.register) first (IsPermutation-sort_by member_before m.register) in
    let is = sort_by-ascending nat_list_cmp_total (λ (row : RegisterRow). row.member) rows (sort_by member_before m.register) moved up in
    ap (λ l. record m { register = l }) (is ∙ sym was)

checked_so : (m x : MeetingLists) → Some x ≡ meeting_checked m → is_meeting (in_order m) ≡ true
checked_so m x h = go (is_meeting (in_order m)) h
  where
    go : (b : Bool) → Some x ≡ (if b then Some (in_order m) else None) → b ≡ true
    go true h = refl
    go false h = absurd cc

checked_is : (m : MeetingLists) → is_meeting (in_order m) ≡ true → meeting_checked m ≡ Some (in_order m)
checked_is m h = ap (λ b. if b then Some (in_order m) else None) h

unchecked_so : (m : MeetingLists) → None ≡ meeting_checked m → is_meeting (in_order m) ≡ false
unchecked_so m h = go (is_meeting (in_order m)) h
  where
    go : (b : Bool) → None ≡ (if b then Some (in_order m) else None) → b ≡ false
    go true h = absurd cc
    go false h = refl

register_was : (row : MeetingRow) (trees : Trees) (lists : MeetingLists) → but_votes row trees ≡ Some lists → (rows : List RegisterRow) × (lists.register ≡ sort_by member_before rows)
register_was row trees lists h =
    let called = bound (called_in row trees) _ lists h in
    let given = bound (given_in row.id trees) _ lists called.2 in
    let polled = bound (polled_in row.id trees) _ lists given.2 in
    let later = bound (sessions_in row.id trees) _ called.0 called.1 in
    let resolutions = bound (resolutions_in row.id trees) _ called.0 later.2 in
    let register = bound (register_in row.id trees) _ called.0 resolutions.2 in
    let rows = bound (own_in table.register row.id trees) _ register.0 register.1 in
    (rows.0, ap (λ (x : MeetingLists). x.register) (sym (some_is polled.2)) ∙ ap (λ (c : Called). c.register) (sym (some_is register.2)) ∙ sym (some_is rows.2))

-- lists that were read and are right once they are in order are right, and in order
judged_right : (row : MeetingRow) (trees : Trees) (lists x : MeetingLists) → but_votes row trees ≡ Some lists → Some x ≡ meeting_checked lists → (guard (is_meeting lists) >>= λ _. Some (judged_as lists)) ≡ Some (judged_as x)
judged_right row trees lists x h checked =
    let so = checked_so lists x checked in
    let was = register_was row trees lists h in
    let same = meeting_stays lists was.0 was.1 so in
    let right : is_meeting lists ≡ true = subst (λ m. is_meeting m ≡ true) same so in
    let ordered : x ≡ lists = some_is (checked ∙ checked_is lists so) ∙ same in
    ap (λ b. guard b >>= λ _. Some (judged_as lists)) right ∙ ap (λ m. Some (judged_as m)) (sym ordered)

-- so what is judged of them is
pub judged_made : (row : MeetingRow) (trees : Trees) (lists x : MeetingLists) → but_votes row trees ≡ Some lists → Some x ≡ meeting_checked lists → (r : Result Judged LoadError) → MatchResult r (λ its. its ≡ judged_as x) (λ fault. fault ≡ Memory)
    → ReadAgrees any_at_all r (guard (is_meeting lists) >>= λ _. Some (judged_as lists))
judged_made row trees lists x h checked (Ok its) made = judged_right row trees lists x h checked ∙ ap (λ j. Some j) (sym made)
judged_made row trees lists x h checked (Err e) made = subst (λ f. ReadErrAgrees any_at_all f (guard (is_meeting lists) >>= λ _. Some (judged_as lists))) (sym made) tt

-- and those that are not are not
pub judged_wrong : (lists : MeetingLists) → None ≡ meeting_checked lists → (x : Judged) → (guard (is_meeting lists) >>= λ _. Some (judged_as lists)) ≡ Some x → true ≡ false
judged_wrong lists unchecked x h =
    let it = bound (guard (is_meeting lists)) (λ _. Some (judged_as lists)) x h in
    let so = guarded (is_meeting lists) it.0 it.1 in
    sym (subst (λ m. is_meeting m ≡ true) (sym (meeting_ordered lists so)) so) ∙ unchecked_so lists unchecked

-- ---- the votes of a meeting that was read

-- there are none yet
pub no_votes : (row : MeetingRow) (trees : Trees) (lists : MeetingLists) → but_votes row trees ≡ Some lists → lists.casts ≡ []
no_votes row trees lists h =
    let called = bound (called_in row trees) _ lists h in
    let given = bound (given_in row.id trees) _ lists called.2 in
    let polled = bound (polled_in row.id trees) _ lists given.2 in
    ap (λ (x : MeetingLists). x.casts) (sym (some_is polled.2))

-- with other votes the lists are a meeting's where these could be cast on its polls
pub with_votes : (lists : MeetingLists) (votes : List CastMark) → is_meeting lists ≡ true → are_casts lists.polls votes ≡ true → is_meeting (record lists { casts = votes }) ≡ true
with_votes lists votes h cast =
    let facts = meeting_facts lists h in
    meeting_from_facts (record lists { casts = votes }) (record {
      resolutions = facts.resolutions;
      sessions = facts.sessions;
      loaded = facts.loaded;
      appointments = facts.appointments;
      endings = facts.endings;
      authorities = facts.authorities;
      presences = facts.presences;
      demands = facts.demands;
      polls = facts.polls;
      casts = cast;
    })

-- so lists that are none without votes are none with any
pub votes_lead : (row : MeetingRow) (trees : Trees) (lists : MeetingLists) → but_votes row trees ≡ Some lists → is_meeting lists ≡ false → (votes : List CastMark) → is_meeting (record lists { casts = votes }) ≡ false
votes_lead row trees lists h wrong votes =
    elim (cases_Bool (is_meeting (record lists { casts = votes }))) [
      | inl good ↦
          let bare : is_meeting (record lists { casts = [] }) ≡ true = with_votes (record lists { casts = votes }) [] good refl in
          absurd (true≢false (sym bare ∙ ap (λ l. is_meeting (record lists { casts = l })) (sym (no_votes row trees lists h)) ∙ wrong))
      | inr other ↦ other
    ]

pub whole_wrong : (row : MeetingRow) (votes : List CastMark) (trees : Trees) (x : MeetingLists) → but_votes row trees ≡ Some x → is_meeting x ≡ false → (y : MeetingLists) → Some (record x { casts = votes }) ≡ Some y → is_meeting y ≡ false
whole_wrong row votes trees x held wrong y h = ap is_meeting (sym (some_is h)) ∙ votes_lead row trees x held wrong votes

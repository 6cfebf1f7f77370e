-- The office that the tables hold is the one that is read meeting by meeting, and they hold one where each part is
-- judged to be right.
use Rattle.std.proofs.Common.{◌≡◌, ◌==◌, ◌+◌, ℕ, suc, Bool, true, false, not, ◌&&◌, ◌||◌, if◌then◌else◌, List, [], ◌∷◌, ◌++◌, filter, length, map, Option, Some, None, Ok, Err, Result, OnOk, refl, sym, ap, subst, ◌∙◌, true≢false, inl, inr, arith}
use Rattle.std.specs.Prelude.{is_some, nat_le}
use Rattle.std.specs.List.{AllByRecursion, list_all, list_any}
use Rattle.std.specs.Option.{option_map_or}
use Rattle.std.specs.Cmp.Derive.{both_true}
use Rattle.std.proofs.lemmas.Bool.{and_parts, cases_Bool, eq-eqb, eqb-true}
use Rattle.sqlite.specs.Held.{Held, state}
use Rattle.sqlite.specs.Tree.{Trees}
use Rattle.sqlite_trees.proofs.ListLemmas.{all_weaker}
use Rattle.sqlite_trees.specs.declared.store.Store as store
use Rattle.seq.specs.Ordered.{ascends_by, differ_by}
use Rattle.seq.proofs.Differing.{all_weaker as all_weaker_bool}
use Rattle.seq.specs.Sorting.{sort_by}
use Rattle.vocabulary.specs.Names.{same_name}
use Rattle.vocabulary.specs.OptionSteps.{◌>>=◌, guard}
use Rattle.desk_words.specs.Office.{are_casts, is_cast_on, is_meeting, is_office, poll_before, same_meeting}
use Rattle.desk_words.specs.Registers.{member_before}
use Rattle.desk_words.specs.SortedLists.{caller_before, day_before, is_day_list, is_key_list}
use Rattle.desk_words.specs.declared.caller.KeyRow.{KeyRow}
use Rattle.desk_words.specs.declared.limits.TheConstants.{MOST_MEETINGS}
use Rattle.desk_words.specs.declared.office.MeetingLists.{MeetingLists}
use Rattle.desk_words.specs.declared.office.OfficeLists.{OfficeLists}
use Rattle.desk_words.specs.declared.records.CastMark.{CastMark}
use Rattle.desk_words.specs.declared.records.Poll.{Poll}
use Rattle.desk_words.specs.declared.records.RegisterRow.{RegisterRow}
use Rattle.desk_words.specs.declared.records.Resolution.{Resolution}
use Rattle.desk_words.specs.declared.records.Session.{Session}
use Rattle.desk_words.proofs.OfficeFacts.{meeting_facts, office_facts, office_from_facts}
use Rattle.sql_rows.specs.declared.stored_records.InMeeting.{InMeeting}
use Rattle.sql_rows.specs.declared.stored_records.MeetingRow.{MeetingRow}
use Rattle.sql_rows.proofs.RowMeaningLemmas.{bound}
use Rattle.sql_schema.specs.Contents as table
use Rattle.sql_schema.specs.Statements.{records_in}
use Rattle.sql_queries.specs.DeskQueries.{register_of_meeting, resolutions_of_meeting, sessions_of_meeting}
use Rattle.sql_queries.specs.HandedInQueries.{appointments_of_meeting, authorities_of_meeting, casts_of_meeting, endings_of_meeting}
use Rattle.sql_queries.specs.SessionQueries.{demands_of_meeting, polls_of_meeting, presences_of_meeting}
use Rattle.sql_model.specs.OfficeRecords.{FlatLists, are_left_empty, flat_in, lists_of, lists_of_all, name_meetings, of_meeting, office_in, office_of_records}
use Rattle.sql_model.proofs.FlatChanges.{HoldAll, all_held, flat_held, only_is, some_is}
use Rattle.sql_model.proofs.ModelOfficeLemmas.{AllStand, are_of, have_all, named_so, office_is}
use Rattle.sql_model.proofs.ModelRecordLemmas.{name_turned}
use Rattle.sql_model.proofs.Names.ListName.{Register, Appointments, Endings, Authorities, Presences, Demands, Polls, Casts}
use Rattle.sql_load.specs.declared.fault.LoadError.{LoadError}
use Rattle.sql_load.specs.declared.fault.LoadError.TheVariants.{NoOffice, Store, Memory}
use Rattle.sql_load.specs.LoadResults.{ReadAgrees, ReadErrAgrees, any_at_all}
use Rattle.sql_load.specs.OwnLists.{resolutions_own, sessions_own}
use Rattle.sql_open.specs.Judging.{HasOffice, IsJudged, are_meeting_rows, judged_as, judged_but_votes, judged_days, judged_in, judged_keys, judged_lists, judged_office, rows_judged, same_meeting_row}
use Rattle.sql_open.specs.MeetingReading.{but_votes, called_in, days_in, given_in, keys_in, lists_in, lists_of_each, lists_of_parts, meetings_in, office_by_meetings, own_in, polled_in, polls_in, register_in, resolutions_in, sessions_in}
use Rattle.sql_load.specs.MeetingRecords.{without_meeting}
use Rattle.sql_open.specs.StoredRows.{counted_on, rows_but_votes, stored_rows}
use Rattle.sql_open.specs.Votes.{judged_votes, votes_on}
use Rattle.sql_load.specs.WholeReading.{IsReading}
use Rattle.sql_open.proofs.MeetingReadLemmas.{guarded}
use Rattle.sql_open.proofs.CastPartLemmas.{casts_from, on_any, on_poll, parts_from}
use Rattle.sql_open.proofs.MeetingRowLemmas.{own_is, says_so}
use Rattle.sql_open.specs.declared.judging.Judged.{Judged}
use Rattle.sql_open.specs.declared.meeting_lists.Given.{Given}
use Rattle.sql_open.specs.declared.meeting_lists.Polled.{Polled}
use Rattle.sql_open.proofs.MeetingPartLemmas.{called_as}
use Rattle.sql_open.proofs.OrderedMeetingLemmas.{no_votes, with_votes}
use Rattle.sql_open.proofs.PassingLemmas.{AllMean, all_known, all_pass, all_passing, each_passes, mean_of, no_more, passing, rows_pass, tests_more}
use Rattle.sql_open.proofs.StoredRowLemmas.{AllNamed, all_named_so, each_named_so, its_all, lists_rows, named_all, names, nine_more, shown_length}
use Rattle.sql_open.proofs.VoteLemmas.{IsOnPoll, has, has_meeting, has_so, keys_differ, keys_of, keys_on, on, on_its_poll, on_one, once_each, once_known, polls_differ, same_resolution, votes_known}

-- ---- where the tables hold records

joined : (row : MeetingRow) (later : Option (List Session)) (resolutions : Option (List Resolution)) (rows : List RegisterRow) (given : Given) (polled : Polled) (votes : List CastMark)
    → (((later >>= λ s. resolutions >>= λ r. Some (called_as row s r rows)) >>= λ called. Some (lists_of_parts called given polled)) >>= λ lists. Some (record lists { casts = votes }))
    ≡ (later >>= λ s. resolutions >>= λ r. Some (record (lists_of_parts (called_as row s r rows) given polled) { casts = votes }))
joined row (Some s) (Some r) rows given polled votes = refl
joined row (Some s) None rows given polled votes = refl
joined row None r rows given polled votes = refl

-- the lists of a meeting are those of its records
lists_same : (trees : Trees) (flat : FlatLists) → HoldAll trees flat → (m : MeetingRow) → lists_in m trees ≡ lists_of flat m
lists_same trees flat h m =
    rw (
      own_is table.sessions sessions_of_meeting.holds m.id trees flat.sessions h.sessions,
      own_is table.resolutions resolutions_of_meeting.holds m.id trees flat.resolutions h.resolutions,
      own_is table.register register_of_meeting.holds m.id trees flat.register h.register,
      own_is table.appointments appointments_of_meeting.holds m.id trees flat.appointments h.appointments,
      own_is table.endings endings_of_meeting.holds m.id trees flat.endings h.endings,
      own_is table.authorities authorities_of_meeting.holds m.id trees flat.authorities h.authorities,
      own_is table.presences presences_of_meeting.holds m.id trees flat.presences h.presences,
      own_is table.demands demands_of_meeting.holds m.id trees flat.demands h.demands,
      own_is table.polls polls_of_meeting.holds m.id trees flat.polls h.polls,
      own_is table.casts casts_of_meeting.holds m.id trees flat.casts h.casts,
    ) (joined m (sessions_own (of_meeting m.id flat.sessions)) (resolutions_own (of_meeting m.id flat.resolutions)) (sort_by member_before (of_meeting m.id flat.register)) (record {
      appointments = of_meeting m.id flat.appointments;
      endings = of_meeting m.id flat.endings;
      authorities = of_meeting m.id flat.authorities;
    }) (record {
      presences = of_meeting m.id flat.presences;
      demands = of_meeting m.id flat.demands;
      polls = sort_by poll_before (of_meeting m.id flat.polls);
    }) (of_meeting m.id flat.casts))

each_same : (trees : Trees) (flat : FlatLists) → HoldAll trees flat → (rows : List MeetingRow) → lists_of_each rows trees ≡ lists_of_all flat rows
each_same trees flat h [] = refl
each_same trees flat h (m ∷ rows) =
    ap (λ (o : Option MeetingLists). o >>= λ first. lists_of_each rows trees >>= λ later. Some (first ∷ later)) (lists_same trees flat h m)
    ∙ ap (λ (o : Option (List MeetingLists)). lists_of flat m >>= λ first. o >>= λ later. Some (first ∷ later)) (each_same trees flat h rows)

-- so the office that they hold is read meeting by meeting
pub office_read : (trees : Trees) (office : OfficeLists) → office_in trees ≡ Some office → office_by_meetings trees ≡ Some office
office_read trees office h =
    let flat = bound (flat_in trees) office_of_records office h in
    let held = all_held trees flat.0 flat.1 in
    let of = are_of flat.0 office flat.2 in
    rw (held.left, held.keys, held.closed, held.meetings, each_same trees flat.0 held flat.0.meetings ∙ of.lists) (ap (λ k. Some (record { keys = k; closed = sort_by day_before flat.0.closed; meetings = office.meetings })) of.keys ∙ ap (λ d. Some (record { keys = office.keys; closed = d; meetings = office.meetings })) of.closed)

-- ---- where it is read meeting by meeting

-- the rows of a meeting mean something, but those of its votes
record AreRead (trees : Trees) (m : MeetingRow) : Type 0 where
  sessions : mean_of table.sessions (names table.sessions m) (trees 29) ≡ true
  resolutions : mean_of table.resolutions (names table.resolutions m) (trees 8) ≡ true
  register : mean_of table.register (names table.register m) (trees 10) ≡ true
  appointments : mean_of table.appointments (names table.appointments m) (trees 12) ≡ true
  endings : mean_of table.endings (names table.endings m) (trees 14) ≡ true
  authorities : mean_of table.authorities (names table.authorities m) (trees 16) ≡ true
  presences : mean_of table.presences (names table.presences m) (trees 31) ≡ true
  demands : mean_of table.demands (names table.demands m) (trees 33) ≡ true
  polls : mean_of table.polls (names table.polls m) (trees 35) ≡ true

own_mean : {A B : Type 0} (its : Option (List (InMeeting A))) (make : List (InMeeting A) → B) (found : B) → (its >>= λ l. Some (make l)) ≡ Some found → is_some its ≡ true
own_mean (Some l) make found h = refl
own_mean None make found h = absurd cc

are_read : (trees : Trees) (m : MeetingRow) (lists : MeetingLists) → but_votes m trees ≡ Some lists → AreRead trees m
are_read trees m lists h =
    let called = bound (called_in m trees) _ lists h in
    let given = bound (given_in m.id trees) _ lists called.2 in
    let polled = bound (polled_in m.id trees) _ lists given.2 in
    let later = bound (sessions_in m.id trees) _ called.0 called.1 in
    let numbered = bound (resolutions_in m.id trees) _ called.0 later.2 in
    let rows = bound (register_in m.id trees) _ called.0 numbered.2 in
    let sessions = bound (own_in table.sessions m.id trees) _ later.0 later.1 in
    let resolutions = bound (own_in table.resolutions m.id trees) _ numbered.0 numbered.1 in
    let register = bound (own_in table.register m.id trees) _ rows.0 rows.1 in
    let appointments = bound (own_in table.appointments m.id trees) _ given.0 given.1 in
    let endings = bound (own_in table.endings m.id trees) _ given.0 appointments.2 in
    let authorities = bound (own_in table.authorities m.id trees) _ given.0 endings.2 in
    let presences = bound (own_in table.presences m.id trees) _ polled.0 polled.1 in
    let demands = bound (own_in table.demands m.id trees) _ polled.0 presences.2 in
    let ordered = bound (polls_in m.id trees) _ polled.0 demands.2 in
    let polls = bound (own_in table.polls m.id trees) _ ordered.0 ordered.1 in
    record {
      sessions = own_mean _ _ _ sessions.1;
      resolutions = own_mean _ _ _ resolutions.1;
      register = own_mean _ _ _ register.1;
      appointments = own_mean _ _ _ appointments.1;
      endings = own_mean _ _ _ endings.1;
      authorities = own_mean _ _ _ authorities.1;
      presences = own_mean _ _ _ presences.1;
      demands = own_mean _ _ _ demands.1;
      polls = own_mean _ _ _ polls.1;
    }

each_read : (trees : Trees) (rows : List MeetingRow) (all : List MeetingLists) → lists_of_each rows trees ≡ Some all → AllByRecursion (AreRead trees) rows
each_read trees [] all h = tt
each_read trees (m ∷ rows) all h =
    let first = bound (lists_in m trees) _ all h in
    let later = bound (lists_of_each rows trees) _ all first.2 in
    let votes = bound (own_in table.casts m.id trees) _ first.0 first.1 in
    let but = bound (but_votes m trees) _ first.0 votes.2 in
    (are_read trees m but.0 but.1, each_read trees rows later.0 later.1)

lists_read : (trees : Trees) (ms : List MeetingRow) (all : List MeetingLists) → records_in table.meetings trees ≡ Some ms → meetings_in trees ≡ Some all → lists_of_each ms trees ≡ Some all
lists_read trees ms all held h = subst (λ o. (o >>= λ rows. lists_of_each rows trees) ≡ Some all) held h

-- what is read meeting by meeting, where each row names a meeting that stands, is the office that the tables hold
office_sound : (trees : Trees) (ms : List MeetingRow) → records_in table.meetings trees ≡ Some ms → AllNamed ms trees → (casts : List (InMeeting CastMark)) → records_in table.casts trees ≡ Some casts → name_meetings ms casts ≡ true
    → (office : OfficeLists) → office_by_meetings trees ≡ Some office → office_in trees ≡ Some office
office_sound trees ms held each casts cast stood office h =
    let left = only_is (are_left_empty trees) _ office h in
    let keys = bound (keys_in trees) _ office left.1 in
    let days = bound (days_in trees) _ office keys.2 in
    let meetings = bound (meetings_in trees) _ office days.2 in
    let is = some_is meetings.2 in
    let key_rows = bound (records_in table.keys trees) _ keys.0 keys.1 in
    let day_rows = bound (records_in table.closed trees) _ days.0 days.1 in
    let its_lists : lists_of_each ms trees ≡ Some meetings.0 = lists_read trees ms meetings.0 held meetings.1 in
    let read = each_read trees ms meetings.0 its_lists in
    let sessions = all_known table.sessions (names table.sessions) (λ m r. same_name m.id r.meeting) (says_so table.sessions sessions_of_meeting.holds) ms (trees 29) each.sessions (all_weaker (AreRead trees) (λ m. mean_of table.sessions (names table.sessions m) (trees 29) ≡ true) (λ m r. r.sessions) ms read) in
    let resolutions = all_known table.resolutions (names table.resolutions) (λ m r. same_name m.id r.meeting) (says_so table.resolutions resolutions_of_meeting.holds) ms (trees 8) each.resolutions (all_weaker (AreRead trees) (λ m. mean_of table.resolutions (names table.resolutions m) (trees 8) ≡ true) (λ m r. r.resolutions) ms read) in
    let register = all_known table.register (names table.register) (λ m r. same_name m.id r.meeting) (says_so table.register register_of_meeting.holds) ms (trees 10) each.register (all_weaker (AreRead trees) (λ m. mean_of table.register (names table.register m) (trees 10) ≡ true) (λ m r. r.register) ms read) in
    let appointments = all_known table.appointments (names table.appointments) (λ m r. same_name m.id r.meeting) (says_so table.appointments appointments_of_meeting.holds) ms (trees 12) each.appointments (all_weaker (AreRead trees) (λ m. mean_of table.appointments (names table.appointments m) (trees 12) ≡ true) (λ m r. r.appointments) ms read) in
    let endings = all_known table.endings (names table.endings) (λ m r. same_name m.id r.meeting) (says_so table.endings endings_of_meeting.holds) ms (trees 14) each.endings (all_weaker (AreRead trees) (λ m. mean_of table.endings (names table.endings m) (trees 14) ≡ true) (λ m r. r.endings) ms read) in
    let authorities = all_known table.authorities (names table.authorities) (λ m r. same_name m.id r.meeting) (says_so table.authorities authorities_of_meeting.holds) ms (trees 16) each.authorities (all_weaker (AreRead trees) (λ m. mean_of table.authorities (names table.authorities m) (trees 16) ≡ true) (λ m r. r.authorities) ms read) in
    let presences = all_known table.presences (names table.presences) (λ m r. same_name m.id r.meeting) (says_so table.presences presences_of_meeting.holds) ms (trees 31) each.presences (all_weaker (AreRead trees) (λ m. mean_of table.presences (names table.presences m) (trees 31) ≡ true) (λ m r. r.presences) ms read) in
    let demands = all_known table.demands (names table.demands) (λ m r. same_name m.id r.meeting) (says_so table.demands demands_of_meeting.holds) ms (trees 33) each.demands (all_weaker (AreRead trees) (λ m. mean_of table.demands (names table.demands m) (trees 33) ≡ true) (λ m r. r.demands) ms read) in
    let polls = all_known table.polls (names table.polls) (λ m r. same_name m.id r.meeting) (says_so table.polls polls_of_meeting.holds) ms (trees 35) each.polls (all_weaker (AreRead trees) (λ m. mean_of table.polls (names table.polls m) (trees 35) ≡ true) (λ m r. r.polls) ms read) in
    let flat : FlatLists = record {
      keys = key_rows.0;
      closed = day_rows.0;
      meetings = ms;
      sessions = sessions.0;
      resolutions = resolutions.0;
      register = register.0;
      appointments = appointments.0;
      endings = endings.0;
      authorities = authorities.0;
      presences = presences.0;
      demands = demands.0;
      polls = polls.0;
      casts = casts;
    } in
    let hold : HoldAll trees flat = record {
      keys = key_rows.1;
      closed = day_rows.1;
      meetings = held;
      sessions = sessions.1;
      resolutions = resolutions.1;
      register = register.1;
      appointments = appointments.1;
      endings = endings.1;
      authorities = authorities.1;
      presences = presences.1;
      demands = demands.1;
      polls = polls.1;
      casts = cast;
      left = left.0;
    } in
    let stand : AllStand flat = record {
      sessions = sessions.2;
      resolutions = resolutions.2;
      lists = elim [
        | Register ↦ register.2
        | Appointments ↦ appointments.2
        | Endings ↦ endings.2
        | Authorities ↦ authorities.2
        | Presences ↦ presences.2
        | Demands ↦ demands.2
        | Polls ↦ polls.2
        | Casts ↦ stood
      ];
    } in
    ap (λ (o : Option FlatLists). o >>= office_of_records) (flat_held trees flat hold)
    ∙ office_is flat office (have_all flat stand) (sym (each_same trees flat hold ms) ∙ its_lists ∙ ap (λ (o : OfficeLists). Some o.meetings) is) (some_is key_rows.2 ∙ ap (λ (o : OfficeLists). o.keys) is) (some_is day_rows.2 ∙ ap (λ (o : OfficeLists). o.closed) is)

-- ---- where a part is wrong, the office is

abbrev of_parts : List KeyRow → List ℕ → List MeetingLists → OfficeLists
of_parts keys days meetings = record { keys = keys; closed = days; meetings = meetings }

wrong_office : (office : OfficeLists) → (is_office office ≡ true → ⊥) → is_office office ≡ false
wrong_office office none = elim (cases_Bool (is_office office)) [ inl good ↦ absurd (none good) | inr wrong ↦ wrong ]

pub meetings_lead : (keys : List KeyRow) (days : List ℕ) (meetings : List MeetingLists) (trees : Trees) → list_all is_meeting meetings ≡ false → (office : OfficeLists) → Some (of_parts keys days meetings) ≡ Some office → is_office office ≡ false
meetings_lead keys days meetings trees wrong office h =
    wrong_office office λ good. true≢false (sym (office_facts office good).each ∙ ap (λ (o : OfficeLists). list_all is_meeting o.meetings) (sym (some_is h)) ∙ wrong)

pub days_lead : (keys : List KeyRow) (days : List ℕ) (trees : Trees) → is_day_list days ≡ false → (office : OfficeLists) → (meetings_in trees >>= λ meetings. Some (of_parts keys days meetings)) ≡ Some office → is_office office ≡ false
days_lead keys days trees wrong office h =
    let meetings = bound (meetings_in trees) _ office h in
    wrong_office office λ good. true≢false (sym (office_facts office good).closed ∙ ap (λ (o : OfficeLists). is_day_list o.closed) (sym (some_is meetings.2)) ∙ wrong)

pub keys_lead : (keys : List KeyRow) (trees : Trees) → is_key_list keys ≡ false → (office : OfficeLists) → (days_in trees >>= λ days. meetings_in trees >>= λ meetings. Some (of_parts keys days meetings)) ≡ Some office → is_office office ≡ false
keys_lead keys trees wrong office h =
    let days = bound (days_in trees) _ office h in
    let meetings = bound (meetings_in trees) _ office days.2 in
    wrong_office office λ good. true≢false (sym (office_facts office good).keys ∙ ap (λ (o : OfficeLists). is_key_list o.keys) (sym (some_is meetings.2)) ∙ wrong)

-- ---- where each part is judged

any_named : (flat : FlatLists) (id : List ℕ) (rows : List MeetingRow) (lists : List MeetingLists) → lists_of_all flat rows ≡ Some lists
    → list_any (λ (x : MeetingLists). same_name id x.meeting.id) lists ≡ list_any (λ (m : MeetingRow). same_name id m.id) rows
any_named flat id [] lists h = let same : [] ≡ lists = cc in ap (list_any (λ (x : MeetingLists). same_name id x.meeting.id)) (sym same)
any_named flat id (m ∷ rows) lists h =
    let first = bound (lists_of flat m) (λ f. lists_of_all flat rows >>= λ later. Some (f ∷ later)) lists h in
    let later = bound (lists_of_all flat rows) (λ l. Some (first.0 ∷ l)) lists first.2 in
    let same : first.0 ∷ later.0 ≡ lists = cc in
    ap (list_any (λ (x : MeetingLists). same_name id x.meeting.id)) (sym same)
    ∙ ap (λ n. same_name id n || list_any (λ (x : MeetingLists). same_name id x.meeting.id) later.0) (named_so flat m first.0 first.1)
    ∙ ap (λ b. same_name id m.id || b) (any_named flat id rows later.0 later.1)

-- the meetings differ as their rows do
differ_so : (flat : FlatLists) (rows : List MeetingRow) (lists : List MeetingLists) → lists_of_all flat rows ≡ Some lists → differ_by same_meeting lists ≡ differ_by same_meeting_row rows
differ_so flat [] lists h = let same : [] ≡ lists = cc in ap (differ_by same_meeting) (sym same)
differ_so flat (m ∷ rows) lists h =
    let first = bound (lists_of flat m) (λ f. lists_of_all flat rows >>= λ later. Some (f ∷ later)) lists h in
    let later = bound (lists_of_all flat rows) (λ l. Some (first.0 ∷ l)) lists first.2 in
    let same : first.0 ∷ later.0 ≡ lists = cc in
    ap (differ_by same_meeting) (sym same)
    ∙ ap (λ n. not (list_any (λ (x : MeetingLists). same_name n x.meeting.id) later.0) && differ_by same_meeting later.0) (named_so flat m first.0 first.1)
    ∙ ap (λ b. not b && differ_by same_meeting later.0) (any_named flat m.id rows later.0 later.1)
    ∙ ap (λ b. not (list_any (same_meeting_row m) rows) && b) (differ_so flat rows later.0 later.1)

count_so : (flat : FlatLists) (rows : List MeetingRow) (lists : List MeetingLists) → lists_of_all flat rows ≡ Some lists → length lists ≡ length rows
count_so flat [] lists h = let same : [] ≡ lists = cc in ap length (sym same)
count_so flat (m ∷ rows) lists h =
    let first = bound (lists_of flat m) (λ f. lists_of_all flat rows >>= λ later. Some (f ∷ later)) lists h in
    let later = bound (lists_of_all flat rows) (λ l. Some (first.0 ∷ l)) lists first.2 in
    let same : first.0 ∷ later.0 ≡ lists = cc in
    ap length (sym same) ∙ ap suc (count_so flat rows later.0 later.1)

lists_made : (trees : Trees) (m : MeetingRow) (rows : List MeetingRow) (lists : MeetingLists) (later : List MeetingLists) → lists_in m trees ≡ Some lists → lists_of_each rows trees ≡ Some later → lists_of_each (m ∷ rows) trees ≡ Some (lists ∷ later)
lists_made trees m rows lists later h k = rw (h, k) refl

office_made : (trees : Trees) (keys : List KeyRow) (days : List ℕ) (rows : List MeetingRow) (meetings : List MeetingLists) → are_left_empty trees ≡ true → keys_in trees ≡ Some keys → days_in trees ≡ Some days
    → records_in table.meetings trees ≡ Some rows → lists_of_each rows trees ≡ Some meetings → office_by_meetings trees ≡ Some (record { keys = keys; closed = days; meetings = meetings })
office_made trees keys days rows meetings a b c d e = rw (a, b, c, d, e) refl

-- ---- what is judged of each meeting

-- the votes on a poll could be cast on it
record VotesAre (trees : Trees) (id : List ℕ) (p : Poll) : Type 0 where
  votes : List CastMark
  read : votes_on id p.resolution trees ≡ Some votes
  right : are_casts (p ∷ []) votes ≡ true

-- so it is of each poll, and how many they are
votes_counted : (trees : Trees) (id : List ℕ) (ps : List Poll) (n count : ℕ) → counted_on (judged_votes id) ps n trees ≡ Some count → AllByRecursion (VotesAre trees id) ps × (count ≡ n + all_passing on (keys_on id ps) (trees 24))
votes_counted trees id [] n count h = let same : n ≡ count = some_is h in (tt, omega (arith, same))
votes_counted trees id (p ∷ ps) n count h =
    let first = bound (judged_votes id p trees) _ count h in
    let read = bound (votes_on id p.resolution trees) _ first.0 first.1 in
    let right = bound (guard (are_casts (p ∷ []) read.0)) (λ _. Some (length read.0)) first.0 read.2 in
    let its : first.0 ≡ passing on (id, p.resolution) (trees 24) = sym (some_is right.2) ∙ shown_length table.casts (filter (on (id, p.resolution)) (trees 24)) read.0 read.1 in
    let rest = votes_counted trees id ps (n + first.0) count first.2 in
    let sum = rest.1 in (
      (record { votes = read.0; read = read.1; right = guarded (are_casts (p ∷ []) read.0) right.0 right.1 }, rest.0),
      omega (arith, its, sum),
    )

-- the lists of a meeting are such but the votes, and so are the votes on each poll
record IsJudgedIn (trees : Trees) (m : MeetingRow) : Type 0 where
  lists : MeetingLists
  held : but_votes m trees ≡ Some lists
  right : is_meeting lists ≡ true
  votes : AllByRecursion (VotesAre trees m.id) lists.polls

-- the polls of a meeting, where it has such lists
polls_at : Trees → MeetingRow → List Poll
polls_at trees m = option_map_or (λ (lists : MeetingLists). lists.polls) (but_votes m trees) []

polls_are : (trees : Trees) (m : MeetingRow) (lists : MeetingLists) → but_votes m trees ≡ Some lists → polls_at trees m ≡ lists.polls
unfolding polls_at
polls_are trees m lists h = ap (λ (o : Option MeetingLists). option_map_or (λ (l : MeetingLists). l.polls) o []) h

but_right : (trees : Trees) (m : MeetingRow) (its : Judged) → judged_but_votes m trees ≡ Some its → (lists : MeetingLists) × (but_votes m trees ≡ Some lists) × (is_meeting lists ≡ true) × ((judged_as lists) ≡ its)
but_right trees m its h =
    let read = bound (but_votes m trees) (λ l. guard (is_meeting l) >>= λ _. Some (judged_as l)) its h in
    let right = bound (guard (is_meeting read.0)) (λ _. Some (judged_as read.0)) its read.2 in
    (read.0, read.1, guarded (is_meeting read.0) right.0 right.1, some_is right.2)

sums : (n f r v rest votes count : ℕ) → count ≡ n + f + (rest + votes) → f ≡ r + v → count ≡ n + ((r + rest) + (v + votes))
sums n f r v rest votes count h k = omega (arith, h, k)

-- so it is of each meeting, and how many rows they are
each_counted : (trees : Trees) (ms : List MeetingRow) (n count : ℕ) → counted_on judged_in ms n trees ≡ Some count → AllByRecursion (IsJudgedIn trees) ms × (count ≡ n + (named_all ms trees + all_passing on (keys_of (polls_at trees) ms) (trees 24)))
each_counted trees [] n count h = let same : n ≡ count = some_is h in (tt, omega (arith, same))
each_counted trees (m ∷ ms) n count h =
    let first = bound (judged_in m trees) _ count h in
    let but = bound (judged_but_votes m trees) (λ its. counted_on (judged_votes m.id) its.polls its.rows trees) first.0 first.1 in
    let lists = but_right trees m but.0 but.1 in
    let votes = votes_counted trees m.id lists.0.polls (rows_but_votes lists.0) first.0 (subst (λ its. counted_on (judged_votes m.id) its.polls its.rows trees ≡ Some first.0) (sym lists.3) but.2) in
    let rest = each_counted trees ms (n + first.0) count first.2 in
    let here : first.0 ≡ its_all m trees + all_passing on (keys_on m.id (polls_at trees m)) (trees 24) =
    votes.1 ∙ ap (λ k. k + all_passing on (keys_on m.id lists.0.polls) (trees 24)) (lists_rows trees m lists.0 lists.1) ∙ ap (λ ps. its_all m trees + all_passing on (keys_on m.id ps) (trees 24)) (sym (polls_are trees m lists.0 lists.1)) in (
      (record { lists = lists.0; held = lists.1; right = lists.2; votes = votes.0 }, rest.0),
      sums n first.0 (its_all m trees) _ (named_all ms trees) _ count rest.1 here
          ∙ ap (λ k. n + (k + (all_passing on (keys_on m.id (polls_at trees m)) (trees 24) + all_passing on (keys_of (polls_at trees) ms) (trees 24)))) (nine_more _ _ _ _ _ _ _ _ _ _ _ _ _ _ _ _ _ _)
          ∙ ap (λ k. n + (named_all (m ∷ ms) trees + k)) (sym (tests_more on (keys_on m.id (polls_at trees m)) (keys_of (polls_at trees) ms) (trees 24))),
    )

-- ---- the votes of all meetings

each_apart : (trees : Trees) (ms : List MeetingRow) → AllByRecursion (IsJudgedIn trees) ms → AllByRecursion (λ m. differ_by same_resolution (polls_at trees m) ≡ true) ms
each_apart trees [] each = tt
each_apart trees (m ∷ ms) each =
    let up = and_parts _ (ascends_by poll_before each.0.lists.polls) (meeting_facts each.0.lists each.0.right).polls in
    (ap (differ_by same_resolution) (polls_are trees m each.0.lists each.0.held) ∙ polls_differ each.0.lists.polls up.1, each_apart trees ms each.1)

all_more : {X : Type 0} (P : X → Type 0) (xs ys : List X) → AllByRecursion P xs → AllByRecursion P ys → AllByRecursion P (xs ++ ys)
all_more P [] ys a b = b
all_more P (x ∷ xs) ys a b = (a.0, all_more P xs ys a.1 b)

on_mean : (trees : Trees) (id : List ℕ) (ps : List Poll) → AllByRecursion (VotesAre trees id) ps → AllMean table.casts on (keys_on id ps) (trees 24)
on_mean trees id [] each = tt
on_mean trees id (p ∷ ps) each = (own_mean _ _ _ each.0.read, on_mean trees id ps each.1)

each_mean : (trees : Trees) (ms : List MeetingRow) → AllByRecursion (IsJudgedIn trees) ms → AllMean table.casts on (keys_of (polls_at trees) ms) (trees 24)
each_mean trees [] each = tt
each_mean trees (m ∷ ms) each =
    all_more (λ key. mean_of table.casts (on key) (trees 24) ≡ true) (keys_on m.id (polls_at trees m)) (keys_of (polls_at trees) ms) (subst (λ ps. AllMean table.casts on (keys_on m.id ps) (trees 24)) (sym (polls_are trees m each.0.lists each.0.held)) (on_mean trees m.id each.0.lists.polls each.0.votes)) (each_mean trees ms each.1)

turned_any : (r : InMeeting CastMark) (ms : List MeetingRow) → list_any (λ (m : MeetingRow). same_name r.meeting m.id) ms ≡ list_any (λ (m : MeetingRow). same_name m.id r.meeting) ms
turned_any r [] = refl
turned_any r (m ∷ ms) = ap (λ b. b || list_any (λ (n : MeetingRow). same_name r.meeting n.id) ms) (name_turned r.meeting m.id) ∙ ap (λ b. same_name m.id r.meeting || b) (turned_any r ms)

-- votes that are each on one of the polls are of meetings that stand
said_stand : (trees : Trees) (ms : List MeetingRow) (was : List (InMeeting CastMark)) → list_all (λ r. list_any (λ key. has key r) (keys_of (polls_at trees) ms)) was ≡ true → name_meetings ms was ≡ true
said_stand trees ms [] said = refl
said_stand trees ms (r ∷ was) said =
    let both = and_parts (list_any (λ key. has key r) (keys_of (polls_at trees) ms)) (list_all (λ q. list_any (λ key. has key q) (keys_of (polls_at trees) ms)) was) said in
    both_true (sym (turned_any r ms) ∙ has_meeting (polls_at trees) r ms both.0) (said_stand trees ms was both.1)

-- and each is on a poll of its meeting
each_on : (trees : Trees) (ms : List MeetingRow) → differ_by same_meeting_row ms ≡ true → (was : List (InMeeting CastMark)) → list_all (λ r. list_any (λ key. has key r) (keys_of (polls_at trees) ms)) was ≡ true → AllByRecursion (λ r. AllByRecursion (IsOnPoll (polls_at trees) r) ms) was
each_on trees ms apart [] said = tt
each_on trees ms apart (r ∷ was) said =
    let both = and_parts (list_any (λ key. has key r) (keys_of (polls_at trees) ms)) (list_all (λ q. list_any (λ key. has key q) (keys_of (polls_at trees) ms)) was) said in
    (on_its_poll (polls_at trees) r ms apart both.0, each_on trees ms apart was both.1)

turned_each : {X Y : Type 0} (P : X → Y → Type 0) (xs : List X) (ys : List Y) → AllByRecursion (λ x. AllByRecursion (P x) ys) xs → AllByRecursion (λ y. AllByRecursion (λ x. P x y) xs) ys
turned_each {X} {Y} P xs [] each = tt
turned_each {X} {Y} P xs (y ∷ ys) each = (firsts xs each, turned_each P xs ys (rests xs each))
  where
    firsts : (xs : List X) → AllByRecursion (λ x. AllByRecursion (P x) (y ∷ ys)) xs → AllByRecursion (λ x. P x y) xs
    firsts [] each = tt
    firsts (x ∷ xs) each = (each.0.0, firsts xs each.1)

    rests : (xs : List X) → AllByRecursion (λ x. AllByRecursion (P x) (y ∷ ys)) xs → AllByRecursion (λ x. AllByRecursion (P x) ys) xs
    rests [] each = tt
    rests (x ∷ xs) each = (each.0.1, rests xs each.1)

-- the votes of a meeting are on its polls
own_on : (polls_of : MeetingRow → List Poll) (m : MeetingRow) (was : List (InMeeting CastMark)) → AllByRecursion (λ r. IsOnPoll polls_of r m) was → list_all (λ (c : CastMark). list_any (λ (p : Poll). on_poll p c) (polls_of m)) (of_meeting m.id was) ≡ true
own_on polls_of m [] each = refl
own_on polls_of m (r ∷ was) each = go (same_name r.meeting m.id) refl (own_on polls_of m was each.1)
  where
    go : (b : Bool) → same_name r.meeting m.id ≡ b → list_all (λ (c : CastMark). list_any (λ (p : Poll). on_poll p c) (polls_of m)) (of_meeting m.id was) ≡ true → list_all (λ (c : CastMark). list_any (λ (p : Poll). on_poll p c) (polls_of m)) (map without_meeting (if b then r ∷ filter (λ q. same_name q.meeting m.id) was else filter (λ q. same_name q.meeting m.id) was)) ≡ true
    go true is rest = both_true (each.0 is) rest
    go false is rest = rest

on_own_polls : (polls_of : MeetingRow → List Poll) (m : MeetingRow) (was : List (InMeeting CastMark)) → list_all (λ (c : CastMark). list_any (λ (p : Poll). on_poll p c) (polls_of m)) (of_meeting m.id was) ≡ true → AllByRecursion (λ r. IsOnPoll polls_of r m) was
on_own_polls polls_of m [] all = tt
on_own_polls polls_of m (r ∷ was) all = go (same_name r.meeting m.id) refl (on_own_polls polls_of m was) all
  where
    go : (b : Bool) → same_name r.meeting m.id ≡ b → (list_all (λ (c : CastMark). list_any (λ (p : Poll). on_poll p c) (polls_of m)) (of_meeting m.id was) ≡ true → AllByRecursion (λ q. IsOnPoll polls_of q m) was) → list_all (λ (c : CastMark). list_any (λ (p : Poll). on_poll p c) (polls_of m)) (map without_meeting (if b then r ∷ filter (λ q. same_name q.meeting m.id) was else filter (λ q. same_name q.meeting m.id) was)) ≡ true
        → AllByRecursion (λ q. IsOnPoll polls_of q m) (r ∷ was)
    go true is rest h =
        let both = and_parts (list_any (λ (p : Poll). on_poll p r.item) (polls_of m)) (list_all (λ (c : CastMark). list_any (λ (p : Poll). on_poll p c) (polls_of m)) (of_meeting m.id was)) h in
        (λ _. both.0, rest both.1)
    go false is rest h = (λ also. absurd (true≢false (sym also ∙ is)), rest h)

-- ---- the lists of each meeting with its votes

parts_known : (trees : Trees) (was : List (InMeeting CastMark)) → records_in table.casts trees ≡ Some was → (id : List ℕ) (ps : List Poll) → AllByRecursion (VotesAre trees id) ps → AllByRecursion (λ p. are_casts (p ∷ []) (filter (on_poll p) (of_meeting id was)) ≡ true) ps
parts_known trees was held id [] each = tt
parts_known trees was held id (p ∷ ps) each = (
  ap (are_casts (p ∷ [])) (some_is (sym (votes_known trees was held id p.resolution) ∙ each.0.read)) ∙ each.0.right,
  parts_known trees was held id ps each.1,
)

voted : (trees : Trees) (was : List (InMeeting CastMark)) → records_in table.casts trees ≡ Some was → (m : MeetingRow) (lists : MeetingLists) → but_votes m trees ≡ Some lists → lists_in m trees ≡ Some (record lists { casts = of_meeting m.id was })
voted trees was held m lists h =
    ap (λ (o : Option (List CastMark)). o >>= λ v. but_votes m trees >>= λ l. Some (record l { casts = v })) (own_is table.casts casts_of_meeting.holds m.id trees was held)
    ∙ ap (λ (o : Option MeetingLists). o >>= λ l. Some (record l { casts = of_meeting m.id was })) h

lists_of_judged : (trees : Trees) (was : List (InMeeting CastMark)) → records_in table.casts trees ≡ Some was → (ms : List MeetingRow) → AllByRecursion (IsJudgedIn trees) ms → AllByRecursion (λ m. AllByRecursion (λ r. IsOnPoll (polls_at trees) r m) was) ms
    → (all : List MeetingLists) × (lists_of_each ms trees ≡ Some all) × (list_all is_meeting all ≡ true)
lists_of_judged trees was held [] each on = ([], refl, refl)
lists_of_judged trees was held (m ∷ ms) each on =
    let it = each.0 in
    let votes = of_meeting m.id was in
    let lists = record it.lists { casts = votes } in
    let on_polls = subst (λ (ps : List Poll). list_all (λ (c : CastMark). list_any (λ (p : Poll). on_poll p c) ps) votes ≡ true) (polls_are trees m it.lists it.held) (own_on (polls_at trees) m was on.0) in
    let right = with_votes it.lists votes it.right (casts_from votes it.lists.polls on_polls (parts_known trees was held m.id it.lists.polls it.votes)) in
    let later = lists_of_judged trees was held ms each.1 on.1 in
    (lists ∷ later.0, lists_made trees m ms lists later.0 (voted trees was held m it.lists it.held) later.1, both_true right later.2)

-- ---- and the other way

counted_some : {X : Type 0} (its : X → Trees → Option ℕ) (trees : Trees) (xs : List X) → AllByRecursion (λ x. (k : ℕ) × (its x trees ≡ Some k)) xs → (n : ℕ) → (count : ℕ) × (counted_on its xs n trees ≡ Some count)
counted_some its trees [] each n = (n, refl)
counted_some its trees (x ∷ xs) each n =
    let rest = counted_some its trees xs each.1 (n + each.0.0) in
    (rest.0, ap (λ (o : Option ℕ). o >>= λ k. counted_on its xs (n + k) trees) each.0.1 ∙ rest.1)

votes_judged : (trees : Trees) (was : List (InMeeting CastMark)) → records_in table.casts trees ≡ Some was → (id : List ℕ) (ps : List Poll) → AllByRecursion (λ p. are_casts (p ∷ []) (filter (on_poll p) (of_meeting id was)) ≡ true) ps → AllByRecursion (λ p. (k : ℕ) × (judged_votes id p trees ≡ Some k)) ps
votes_judged trees was held id [] each = tt
votes_judged trees was held id (p ∷ ps) each = (
  (
    length (filter (on_poll p) (of_meeting id was)),
    ap (λ (o : Option (List CastMark)). o >>= λ v. guard (are_casts (p ∷ []) v) >>= λ _. Some (length v)) (votes_known trees was held id p.resolution)
        ∙ ap (λ b. guard b >>= λ _. Some (length (filter (on_poll p) (of_meeting id was)))) each.0,
  ),
  votes_judged trees was held id ps each.1,
)

bare : (lists : MeetingLists) (votes : List CastMark) → lists.casts ≡ [] → is_meeting (record lists { casts = votes }) ≡ true → is_meeting lists ≡ true
bare lists votes none good = ap (λ l. is_meeting (record lists { casts = l })) none ∙ with_votes (record lists { casts = votes }) [] good refl

-- of a meeting of an office the parts are judged to be right, and its votes are on its polls
meeting_judged : (trees : Trees) (was : List (InMeeting CastMark)) → records_in table.casts trees ≡ Some was → (m : MeetingRow) (x : MeetingLists) → lists_in m trees ≡ Some x → is_meeting x ≡ true
    → ((k : ℕ) × (judged_in m trees ≡ Some k)) × AllByRecursion (λ r. IsOnPoll (polls_at trees) r m) was
meeting_judged trees was held m x h good =
    let its = bound (own_in table.casts m.id trees) (λ v. but_votes m trees >>= λ l. Some (record l { casts = v })) x h in
    let read = bound (but_votes m trees) (λ l. Some (record l { casts = its.0 })) x its.2 in
    let lists = read.0 in
    let votes = of_meeting m.id was in
    let whole : x ≡ record lists { casts = votes } = some_is (sym h ∙ voted trees was held m lists read.1) in
    let right : is_meeting (record lists { casts = votes }) ≡ true = subst (λ l. is_meeting l ≡ true) whole good in
    let facts = meeting_facts (record lists { casts = votes }) right in
    let but : is_meeting lists ≡ true = bare lists votes (no_votes m trees lists read.1) right in
    let up = and_parts _ (ascends_by poll_before lists.polls) facts.polls in
    let cast = and_parts (list_all (λ c. list_any (is_cast_on c) lists.polls) votes) _ facts.casts in
    let counted = counted_some (judged_votes m.id) trees lists.polls (votes_judged trees was held m.id lists.polls (parts_from votes lists.polls (polls_differ lists.polls up.1) facts.casts)) (rows_but_votes lists) in
    let first : judged_but_votes m trees ≡ Some (judged_as lists) =
    ap (λ (o : Option MeetingLists). o >>= λ l. guard (is_meeting l) >>= λ _. Some (judged_as l)) read.1 ∙ ap (λ b. guard b >>= λ _. Some (judged_as lists)) but in (
      (counted.0, ap (λ (o : Option (Judged)). o >>= λ its. counted_on (judged_votes m.id) its.polls its.rows trees) first ∙ counted.1),
      on_own_polls (polls_at trees) m was
          (subst (λ (ps : List Poll). list_all (λ (c : CastMark). list_any (λ (p : Poll). on_poll p c) ps) votes ≡ true) (sym (polls_are trees m lists read.1))
          (all_weaker_bool (λ c. list_any (is_cast_on c) lists.polls) (λ c. list_any (λ p. on_poll p c) lists.polls) votes (λ c on. on_any votes c lists.polls on) cast.0)),
    )

lists_judged : (trees : Trees) (was : List (InMeeting CastMark)) → records_in table.casts trees ≡ Some was → (ms : List MeetingRow) (all : List MeetingLists) → lists_of_each ms trees ≡ Some all → list_all is_meeting all ≡ true
    → AllByRecursion (λ m. (k : ℕ) × (judged_in m trees ≡ Some k)) ms × AllByRecursion (λ m. AllByRecursion (λ r. IsOnPoll (polls_at trees) r m) was) ms
lists_judged trees was held [] all h good = (tt, tt)
lists_judged trees was held (m ∷ ms) all h good =
    let first = bound (lists_in m trees) (λ f. lists_of_each ms trees >>= λ later. Some (f ∷ later)) all h in
    let later = bound (lists_of_each ms trees) (λ l. Some (first.0 ∷ l)) all first.2 in
    let same : first.0 ∷ later.0 ≡ all = cc in
    let both = and_parts (is_meeting first.0) (list_all is_meeting later.0) (subst (λ l. list_all is_meeting l ≡ true) (sym same) good) in
    let here = meeting_judged trees was held m first.0 first.1 both.0 in
    let rest = lists_judged trees was held ms later.0 later.1 both.1 in
    ((here.0, rest.0), (here.1, rest.1))

each_said : (trees : Trees) (ms : List MeetingRow) (was : List (InMeeting CastMark)) → name_meetings ms was ≡ true → AllByRecursion (λ r. AllByRecursion (IsOnPoll (polls_at trees) r) ms) was → list_all (λ r. list_any (λ key. has key r) (keys_of (polls_at trees) ms)) was ≡ true
each_said trees ms [] stand each = refl
each_said trees ms (r ∷ was) stand each =
    let both = and_parts (list_any (λ (m : MeetingRow). same_name m.id r.meeting) ms) (name_meetings ms was) stand in
    both_true (on_one (polls_at trees) r ms both.0 each.0) (each_said trees ms was both.1 each.1)

none_more : (all count : ℕ) → count ≡ 0 + all → all ≡ count
none_more all count h = omega (arith, h)

-- what is known where the meetings are judged and their rows are all
record IsWhole (trees : Trees) (ms : List MeetingRow) : Type 0 where
  each : AllByRecursion (IsJudgedIn trees) ms
  named : AllNamed ms trees
  votes : List (InMeeting CastMark)
  held : records_in table.casts trees ≡ Some votes
  said : list_all (λ r. list_any (λ key. has key r) (keys_of (polls_at trees) ms)) votes ≡ true

votes_found : (trees : Trees) (ms : List MeetingRow) → differ_by same_meeting_row ms ≡ true → (count : ℕ) → counted_on judged_in ms 0 trees ≡ Some count → count ≡ stored_rows trees → IsWhole trees ms
votes_found trees ms differ count counted listed =
    let each = each_counted trees ms 0 count counted in
    let polls = keys_of (polls_at trees) ms in
    let mean = each_mean trees ms each.0 in
    let once = once_each polls (keys_differ (polls_at trees) ms differ (each_apart trees ms each.0)) (trees 24) mean in
    let all : named_all ms trees + all_passing on polls (trees 24) ≡ stored_rows trees = none_more _ count each.1 ∙ listed in
    let whole = each_named_so trees ms differ (all_passing on polls (trees 24)) (no_more on polls (trees 24) once) all in
    let known = all_known table.casts on has has_so polls (trees 24) (each_passes on polls (trees 24) once whole.1) mean in
    record { each = each.0; named = whole.0; votes = known.0; held = known.1; said = known.2 }

found_lists : (trees : Trees) (ms : List MeetingRow) → differ_by same_meeting_row ms ≡ true → IsWhole trees ms → (all : List MeetingLists) × (lists_of_each ms trees ≡ Some all) × (list_all is_meeting all ≡ true)
found_lists trees ms differ found =
    lists_of_judged trees found.votes found.held ms found.each (turned_each (λ r m. IsOnPoll (polls_at trees) r m) found.votes ms (each_on trees ms differ found.votes found.said))

-- so tables whose parts are judged to be right hold an office
judged_sound : (trees : Trees) → judged_office trees ≡ Some tt → HasOffice trees
judged_sound trees h =
    let left = only_is (are_left_empty trees) _ tt h in
    let key_step = bound (judged_keys trees) _ tt left.1 in
    let day_step = bound (judged_days trees) _ tt key_step.2 in
    let list_step = bound (judged_lists trees) (λ listed. guard (listed == stored_rows trees)) tt day_step.2 in
    let row_step = bound (rows_judged trees) (λ rows. counted_on judged_in rows 0 trees) list_step.0 list_step.1 in
    let keys = bound (keys_in trees) (λ k. guard (is_key_list k)) key_step.0 key_step.1 in
    let days = bound (days_in trees) (λ d. guard (is_day_list d)) day_step.0 day_step.1 in
    let rows = bound (records_in table.meetings trees) _ row_step.0 row_step.1 in
    let named = only_is (are_meeting_rows rows.0) _ row_step.0 rows.2 in
    let same : rows.0 ≡ row_step.0 = some_is named.1 in
    let counted : counted_on judged_in rows.0 0 trees ≡ Some list_step.0 = subst (λ l. counted_on judged_in l 0 trees ≡ Some list_step.0) (sym same) row_step.2 in
    let few = and_parts (nat_le (length rows.0) MOST_MEETINGS) (differ_by same_meeting_row rows.0) named.0 in
    let listed : list_step.0 ≡ stored_rows trees = eqb-true list_step.0 (stored_rows trees) (guarded (list_step.0 == stored_rows trees) tt list_step.2) in
    let found = votes_found trees rows.0 few.1 list_step.0 counted listed in
    let lists = found_lists trees rows.0 few.1 found in
    let office : OfficeLists = record { keys = keys.0; closed = days.0; meetings = lists.0 } in
    let read : office_by_meetings trees ≡ Some office = office_made trees keys.0 days.0 rows.0 lists.0 left.0 keys.1 days.1 rows.1 lists.1 in
    let holds = office_sound trees rows.0 rows.1 found.named found.votes found.held (said_stand trees rows.0 found.votes found.said) office read in
    let flat = bound (flat_in trees) office_of_records office holds in
    let of = are_of flat.0 office flat.2 in
    let its_rows : rows.0 ≡ flat.0.meetings = some_is (sym rows.1 ∙ (all_held trees flat.0 flat.1).meetings) in (
      office,
      holds,
      office_from_facts office (record {
        keys = guarded (is_key_list keys.0) key_step.0 keys.2;
        closed = guarded (is_day_list days.0) day_step.0 days.2;
        few = ap (λ n. nat_le n MOST_MEETINGS) (count_so flat.0 flat.0.meetings office.meetings of.lists ∙ ap length (sym its_rows)) ∙ few.0;
        apart = differ_so flat.0 flat.0.meetings office.meetings of.lists ∙ ap (differ_by same_meeting_row) (sym its_rows) ∙ few.1;
        each = lists.2;
      }),
    )

-- where the records are of meetings that stand, each row names one
flat_named : (trees : Trees) (flat : FlatLists) → HoldAll trees flat → AllStand flat → AllNamed flat.meetings trees
flat_named trees flat held stand = record {
  sessions = rows_pass table.sessions (names table.sessions) (λ m r. same_name m.id r.meeting) (says_so table.sessions sessions_of_meeting.holds) flat.meetings (trees 29) flat.sessions held.sessions stand.sessions;
  resolutions = rows_pass table.resolutions (names table.resolutions) (λ m r. same_name m.id r.meeting) (says_so table.resolutions resolutions_of_meeting.holds) flat.meetings (trees 8) flat.resolutions held.resolutions stand.resolutions;
  register = rows_pass table.register (names table.register) (λ m r. same_name m.id r.meeting) (says_so table.register register_of_meeting.holds) flat.meetings (trees 10) flat.register held.register (stand.lists Register);
  appointments = rows_pass table.appointments (names table.appointments) (λ m r. same_name m.id r.meeting) (says_so table.appointments appointments_of_meeting.holds) flat.meetings (trees 12) flat.appointments held.appointments (stand.lists Appointments);
  endings = rows_pass table.endings (names table.endings) (λ m r. same_name m.id r.meeting) (says_so table.endings endings_of_meeting.holds) flat.meetings (trees 14) flat.endings held.endings (stand.lists Endings);
  authorities = rows_pass table.authorities (names table.authorities) (λ m r. same_name m.id r.meeting) (says_so table.authorities authorities_of_meeting.holds) flat.meetings (trees 16) flat.authorities held.authorities (stand.lists Authorities);
  presences = rows_pass table.presences (names table.presences) (λ m r. same_name m.id r.meeting) (says_so table.presences presences_of_meeting.holds) flat.meetings (trees 31) flat.presences held.presences (stand.lists Presences);
  demands = rows_pass table.demands (names table.demands) (λ m r. same_name m.id r.meeting) (says_so table.demands demands_of_meeting.holds) flat.meetings (trees 33) flat.demands held.demands (stand.lists Demands);
  polls = rows_pass table.polls (names table.polls) (λ m r. same_name m.id r.meeting) (says_so table.polls polls_of_meeting.holds) flat.meetings (trees 35) flat.polls held.polls (stand.lists Polls);
}

-- and of tables that hold an office each part is judged to be right
judged_complete : (trees : Trees) (office : OfficeLists) → office_in trees ≡ Some office → is_office office ≡ true → judged_office trees ≡ Some tt
judged_complete trees office h good =
    let flat = bound (flat_in trees) office_of_records office h in
    let held = all_held trees flat.0 flat.1 in
    let of = are_of flat.0 office flat.2 in
    let facts = office_facts office good in
    let keys : is_key_list (sort_by caller_before flat.0.keys) ≡ true = ap is_key_list of.keys ∙ facts.keys in
    let days : is_day_list (sort_by day_before flat.0.closed) ≡ true = ap is_day_list of.closed ∙ facts.closed in
    let few : nat_le (length flat.0.meetings) MOST_MEETINGS ≡ true = ap (λ n. nat_le n MOST_MEETINGS) (sym (count_so flat.0 flat.0.meetings office.meetings of.lists)) ∙ facts.few in
    let apart : differ_by same_meeting_row flat.0.meetings ≡ true = sym (differ_so flat.0 flat.0.meetings office.meetings of.lists) ∙ facts.apart in
    let ms = flat.0.meetings in
    let each = lists_judged trees flat.0.casts held.casts ms office.meetings (each_same trees flat.0 held ms ∙ of.lists) facts.each in
    let listed = counted_some judged_in trees ms each.0 0 in
    let counts = each_counted trees ms 0 listed.0 listed.1 in
    let polls = keys_of (polls_at trees) ms in
    let once = once_known polls (keys_differ (polls_at trees) ms apart (each_apart trees ms counts.0)) (trees 24) flat.0.casts held.casts in
    let said = each_said trees ms flat.0.casts (of.stand.lists Casts) (turned_each (λ m r. IsOnPoll (polls_at trees) r m) ms flat.0.casts each.1) in
    let votes = all_pass on polls (trees 24) once (rows_pass table.casts on has has_so polls (trees 24) flat.0.casts held.casts said) in
    let all : listed.0 ≡ stored_rows trees = sym (none_more _ listed.0 counts.1) ∙ all_named_so trees ms apart (flat_named trees flat.0 held of.stand) (all_passing on polls (trees 24)) votes in
    let counted : (listed.0 == stored_rows trees) ≡ true = eq-eqb listed.0 (stored_rows trees) all in
    rw (held.left, held.keys, keys, held.closed, days, held.meetings, both_true few apart, listed.1, counted) refl

-- where they are judged, and read meeting by meeting, what is read is the office that they hold
read_as_stored : (r : Result OfficeLists LoadError) (trees : Trees) → ReadAgrees is_office r (judged_office trees >>= λ _. office_by_meetings trees) → ReadAgrees is_office r (office_in trees)
read_as_stored (Ok office) trees h =
    let judged = bound (judged_office trees) (λ _. office_by_meetings trees) office h in
    let held = judged_sound trees judged.1 in
    held.1 ∙ sym (office_read trees held.0 held.1) ∙ judged.2
read_as_stored (Err e) trees h = go e h
  where
    go : (e : LoadError) → ReadErrAgrees is_office e (judged_office trees >>= λ _. office_by_meetings trees) → ReadErrAgrees is_office e (office_in trees)
    go NoOffice none = λ office h. elim (cases_Bool (is_office office)) [
      | inl good ↦ none office (ap (λ (o : Option (Unit {0})). o >>= λ _. office_by_meetings trees) (judged_complete trees office h good) ∙ office_read trees office h)
      | inr wrong ↦ wrong
    ]
    go Store none = tt
    go Memory none = tt

module _ {S : Type 0} (g : store.Ghosts S) (a b : Held S) where
  -- what is judged of each part is judged of the office
  pub office_judged : (r : Result (Unit {0}) LoadError) → IsReading g a b any_at_all r judged_office → IsJudged g a b r
  office_judged r one = record {
    right = λ read. go r (one.holds read);
    none = λ read reported office h. none_so (subst (λ q. ReadAgrees any_at_all q (judged_office (state g a).now.trees)) reported (one.holds read)) office h;
    same = one.same;
    changes = one.changes;
  }
    where
      go : (r : Result (Unit {0}) LoadError) → ReadAgrees any_at_all r (judged_office (state g a).now.trees) → OnOk r (HasOffice (state g a).now.trees)
      go (Ok u) h = judged_sound (state g a).now.trees h
      go (Err e) h = tt

      none_so : ReadAgrees any_at_all (Err NoOffice) (judged_office (state g a).now.trees) → (office : OfficeLists) → office_in (state g a).now.trees ≡ Some office → is_office office ≡ false
      none_so none office h = elim (cases_Bool (is_office office)) [
        | inl good ↦ absurd (true≢false (none tt (judged_complete (state g a).now.trees office h good)))
        | inr wrong ↦ wrong
      ]

  -- what is read meeting by meeting, where each part is judged to be right, is the office that the tables hold
  pub office_whole : (r : Result OfficeLists LoadError) → IsReading g a b is_office r (λ trees. judged_office trees >>= λ _. office_by_meetings trees) → IsReading g a b is_office r office_in
  office_whole r one = record {
    holds = λ read. read_as_stored r (state g a).now.trees (one.holds read);
    same = one.same;
    changes = one.changes;
  }

-- A poll that is ordered or comes further.
use Rattle.std.proofs.Common.{◌≡◌, inl, inr, ℕ, ◌==◌, true, List, [], ◌∷◌, ◌++◌, map, Ok, Option, refl, sym, ap, subst, ◌∙◌}
use Rattle.std.specs.List.{list_all}
use Rattle.std.proofs.lemmas.Bool.{cases_Bool}
use Rattle.sqlite.specs.Held.{Held, state}
use Rattle.sqlite_trees.specs.declared.store.Store as store
use Rattle.seq.specs.Edits.{change_first}
use Rattle.seq.specs.Ordered.{ascends_by, differ_by}
use Rattle.seq.specs.Sorting.{insert_by}
use Rattle.vocabulary.specs.Names.{same_name}
use Rattle.desk_words.specs.Office.{is_meeting, poll_before, same_meeting}
use Rattle.desk_words.specs.declared.change.Change.TheVariants.{InMeeting}
use Rattle.desk_words.specs.declared.change.MeetingChange.TheVariants.{AddPoll, SetPoll}
use Rattle.desk_words.specs.declared.change.PollChange.{PollChange}
use Rattle.desk_words.specs.declared.change.PollChange.TheVariants.{Closed, Declared, Started}
use Rattle.desk_words.specs.declared.office.MeetingLists.{MeetingLists}
use Rattle.desk_words.proofs.OfficeFacts.{meeting_facts}
use Rattle.desk_words.proofs.WordRowLemmas.{same_name-true}
use Rattle.desk_words.specs.declared.records.Poll.{Poll}
use Rattle.desk_words.specs.declared.records.Tally.{Tally}
use Rattle.vocabulary.specs.OptionSteps.{◌>>=◌}
use Rattle.sql_schema.specs.Contents as table
use Rattle.sql_schema.specs.Contents.{closed_at, declared_with, started_at}
use Rattle.sql_model.specs.OfficeRecords.{FlatLists, office_of_records}
use Rattle.sql_schema.specs.Statements.{Adds, CommitsNothing, Does, Sets}
use Rattle.sql_model.proofs.FlatChanges.{table_changed}
use Rattle.sql_model.proofs.Names.ListName.{Polls}
use Rattle.sql_model.proofs.Names.TableName.{Each}
use Rattle.sql_model.proofs.PollChanges.{poll_added, poll_moved, polls_ascend, takes_poll}
use Rattle.sql_model.proofs.ModelListLemmas.{map-once}
use Rattle.sql_model.proofs.ModelOfficeLemmas.{change_named}
use Rattle.sql_model.proofs.ModelRecordLemmas.{change_in, in_meeting}
use Rattle.std.proofs.lemmas.Bool.{and_parts}
use Rattle.desk_words.specs.Changes.{advanced}
use Rattle.sql_write.specs.Writes.{Writes}
use Rattle.sql_write.proofs.Possible.{placed_in, written_by}

-- ---- polls stand in order

in_order : (x : MeetingLists) → is_meeting x ≡ true → ascends_by poll_before x.polls ≡ true
in_order x h = polls_ascend x.meeting x.polls (meeting_facts x h).polls

all_in_order : (xs : List MeetingLists) → list_all is_meeting xs ≡ true → list_all (λ (x : MeetingLists). ascends_by poll_before x.polls) xs ≡ true
all_in_order [] h = refl
all_in_order (x ∷ xs) h = let parts = and_parts (is_meeting x) (list_all is_meeting xs) h in rw (in_order x parts.0, all_in_order xs parts.1) refl

-- where a meeting's polls are in order once a poll is put among them, it takes that poll
takes_each : (id : List ℕ) (poll : Poll) (xs : List MeetingLists) → list_all is_meeting (map (change_named id (λ x. record x { polls = insert_by poll_before poll x.polls })) xs) ≡ true
    → list_all (takes_poll id poll) xs ≡ true
takes_each id poll [] h = refl
takes_each id poll (x ∷ xs) h =
    let put = λ (y : MeetingLists). record y { polls = insert_by poll_before poll y.polls } in
    let parts = and_parts (is_meeting (change_named id put x)) (list_all is_meeting (map (change_named id put) xs)) h in
    let later = takes_each id poll xs parts.1 in
    elim (cases_Bool (same_name x.meeting.id id)) [
      | inl is ↦ (let whole : is_meeting (put x) ≡ true = rw is at parts.0 in rw (is, in_order (put x) whole, later) refl)
      | inr other ↦ rw (other, later) refl
    ]

takes : (id : List ℕ) (poll : Poll) (xs : List MeetingLists) → differ_by same_meeting xs ≡ true
    → list_all is_meeting (change_first (λ (x : MeetingLists). same_name x.meeting.id id) (λ x. record x { polls = insert_by poll_before poll x.polls }) xs) ≡ true
    → list_all (takes_poll id poll) xs ≡ true
takes id poll xs differ h =
    takes_each id poll xs (ap (list_all is_meeting) (map-once (λ (x : MeetingLists). same_name x.meeting.id id) (λ x. record x { polls = insert_by poll_before poll x.polls }) same_meeting close xs differ) ∙ h)
  where
    close : (a b : MeetingLists) → same_name a.meeting.id id ≡ true → same_name b.meeting.id id ≡ true → same_meeting a b ≡ true
    close a b is also = subst (λ n. same_name a.meeting.id n ≡ true) (sym (same_name-true b.meeting.id id also)) is

module _ {S : Type 0} (g : store.Ghosts S) (old new : Held S) (id : List ℕ) (n : ℕ) (commits : CommitsNothing g old new) where
  -- a poll is ordered
  pub ordered : (poll : Poll) → Does g old new (Ok n) (Adds table.polls (in_meeting id poll)) → Writes {T = Unit {0}} g old new (Ok tt) (InMeeting id (AddPoll poll))
  ordered poll does =
      written_by g old new (InMeeting id (AddPoll poll)) table.polls (λ was. was ++ in_meeting id poll ∷ []) n refl does commits (λ done flat office held of can.
      ap (λ (o : Option FlatLists). o >>= office_of_records) (table_changed (state g old) (state g new) flat held (Each Polls) (λ was. was ++ in_meeting id poll ∷ []) done)
      ∙ poll_added flat id poll office of can.before.differ (placed_in office id (AddPoll poll) can) (takes id poll office.meetings can.before.differ can.later.each))

  module _ (resolution : ℕ) where
    stays_on : (change : PollChange) (p : Poll) → (advanced change p).resolution ≡ p.resolution
    stays_on (Started moment) p = refl
    stays_on (Closed moment) p = refl
    stays_on (Declared tally) p = refl

    moved_by : (change : PollChange) → Does g old new (Ok n) (Sets table.polls (change_in id (λ (p : Poll). p.resolution == resolution) (advanced change)))
        → Writes {T = Unit {0}} g old new (Ok tt) (InMeeting id (SetPoll resolution change))
    moved_by change does =
        written_by g old new (InMeeting id (SetPoll resolution change)) table.polls (map (change_in id (λ (p : Poll). p.resolution == resolution) (advanced change))) n refl does commits (λ done flat office held of can.
        ap (λ (o : Option FlatLists). o >>= office_of_records) (table_changed (state g old) (state g new) flat held (Each Polls) (map (change_in id (λ (p : Poll). p.resolution == resolution) (advanced change))) done)
        ∙ poll_moved resolution (advanced change) (stays_on change) flat id office of can.before.differ (all_in_order office.meetings can.before.each))

    -- a poll is started
    pub started : (moment : ℕ) → Does g old new (Ok n) (Sets table.polls (started_at (record { meeting = id; resolution = resolution }) moment)) → Writes {T = Unit {0}} g old new (Ok tt) (InMeeting id (SetPoll resolution (Started moment)))
    started moment = moved_by (Started moment)

    -- the voting on a poll is closed
    pub closed : (moment : ℕ) → Does g old new (Ok n) (Sets table.polls (closed_at (record { meeting = id; resolution = resolution }) moment)) → Writes {T = Unit {0}} g old new (Ok tt) (InMeeting id (SetPoll resolution (Closed moment)))
    closed moment = moved_by (Closed moment)

    -- the count of a poll is declared
    pub declared : (tally : Tally) → Does g old new (Ok n) (Sets table.polls (declared_with (record { meeting = id; resolution = resolution }) tally)) → Writes {T = Unit {0}} g old new (Ok tt) (InMeeting id (SetPoll resolution (Declared tally)))
    declared tally = moved_by (Declared tally)

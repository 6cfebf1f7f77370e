-- Lists that are put in place of those that are held.
use Rattle.std.proofs.Common.{◌≡◌, ℕ, Bool, true, false, not, ◌||◌, List, [], ◌∷◌, ◌++◌, length, map, filter, nat_le, Ok, Err, IsErr, Result, refl}
use Rattle.std.specs.List.{list_any}
use Rattle.std.specs.Cmp.Lexicographic.{nat_list_cmp_total, options_total}
use Rattle.std.proofs.lemmas.Cmp.{nat_cmp_total}
use Rattle.std.proofs.lemmas.List.Folds.{list_any-append}
use Rattle.sqlite.specs.Held.{Held, state}
use Rattle.sqlite.specs.declared.error.Error.{Error}
use Rattle.sqlite_trees.specs.declared.store.Store as store
use Rattle.seq.specs.Ordered.{ascends_by, differ_by}
use Rattle.seq.specs.Sorting.{sort_by}
use Rattle.std.proofs.lemmas.Bool.{not-true, or_parts}
use Rattle.vocabulary.specs.Names.{same_name}
use Rattle.desk_words.specs.Callers.{party_in}
use Rattle.desk_words.specs.SortedLists.{caller_before, day_before, is_day_list, is_key_list, keep_keys}
use Rattle.desk_words.specs.Office.{is_meeting, same_meeting}
use Rattle.desk_words.specs.Registers.{is_register, keep_limits, member_before}
use Rattle.desk_words.specs.declared.caller.KeyRow.{KeyRow}
use Rattle.desk_words.specs.declared.change.Change.TheVariants as change
use Rattle.desk_words.specs.declared.change.MeetingChange.TheVariants.{SetRegister}
use Rattle.desk_words.specs.declared.records.Meeting.{Meeting}
use Rattle.desk_words.specs.declared.records.RegisterRow.{RegisterRow}
use Rattle.sql_schema.specs.Contents as table
use Rattle.sql_schema.specs.Contents.{loaded_at, without_resolutions}
use Rattle.sql_model.specs.OfficeRecords.{FlatLists}
use Rattle.sql_schema.specs.Statements.{Adds, CommitsNothing, Does, Empties, Sets, TakesOut}
use Rattle.sql_model.proofs.FlatChanges.{table_changed}
use Rattle.sql_model.proofs.Names.ListName.{Register}
use Rattle.sql_model.proofs.Names.TableName.{Closed, Keys, Meetings, Each}
use Rattle.sql_model.proofs.ModelListLemmas.{sort_by-sorted}
use Rattle.sql_model.proofs.MeetingChanges.{days_set, keys_set, register_set}
use Rattle.sql_model.proofs.ModelRecordLemmas.{is_other}
use Rattle.std.proofs.lemmas.Bool.{and_parts}
use Rattle.desk_words.specs.Changes.{new_lists}
use Rattle.sql_write.specs.Writes.{Rewrites, Writes, any_records, no_days, days_added, keys_added, resolutions_added, rows_added}
use Rattle.sql_write.proofs.MeetingAdded.{meeting_added}
use Rattle.sql_write.proofs.Possible.{placed_in}
use Rattle.sql_write.proofs.WrittenSessionLemmas.{called_with_one, last_passes}
use Rattle.sql_write.proofs.WrittenTurnLemmas.{turns_by, turns_then, writes_failed, writes_from, turns_refused}

keys_sorted : (keys : List KeyRow) → is_key_list keys ≡ true → sort_by caller_before keys ≡ keys
keys_sorted keys h = sort_by-sorted (options_total nat_list_cmp_total) (λ (row : KeyRow). party_in row.caller) keys (and_parts (keep_keys keys) (ascends_by caller_before keys) h).1

days_sorted : (days : List ℕ) → is_day_list days ≡ true → sort_by day_before days ≡ days
days_sorted days h = sort_by-sorted nat_cmp_total (λ (day : ℕ). day) days (and_parts (nat_le (length days) 2000) (ascends_by day_before days) h).1

rows_sorted : (rows : List RegisterRow) → is_register rows ≡ true → sort_by member_before rows ≡ rows
rows_sorted rows h = sort_by-sorted nat_list_cmp_total (λ (row : RegisterRow). row.member) rows (and_parts (keep_limits rows) (ascends_by member_before rows) h).1

-- where the values still differ with one more, none was like it
differ_last : {X : Type 0} (alike : X → X → Bool) (xs : List X) (y : X) → differ_by alike (xs ++ y ∷ []) ≡ true → list_any (λ x. alike x y) xs ≡ false
differ_last alike [] y h = refl
differ_last alike (x ∷ xs) y h =
    let parts = and_parts (not (list_any (alike x) (xs ++ y ∷ []))) (differ_by alike (xs ++ y ∷ [])) h in
    let none : (list_any (alike x) xs || (alike x y || false)) ≡ false = rw (list_any-append (alike x) xs (y ∷ [])) at (not-true (list_any (alike x) (xs ++ y ∷ [])) parts.0) in
    let last = or_parts (alike x y) false (or_parts (list_any (alike x) xs) (alike x y || false) none).1 in
    rw (last.0, differ_last alike xs y parts.1) refl

module _ {S : Type 0} (g : store.Ghosts S) where
  module _ (a b c : Held S) (n : ℕ) (commits : CommitsNothing g a b) {T : Type 0} (r : Result T Error) where
    -- the keys are emptied, and then added
    pub keys_written : (keys : List KeyRow) → is_key_list keys ≡ true → Does g a b (Ok n) (Empties table.keys) → Rewrites g b c r any_records (keys_added keys) → Writes g a c r (change.SetKeys keys)
    keys_written keys preserved does turns =
        let emptied = λ (flat : FlatLists). record flat { keys = [] } in
        writes_from g a c r (change.SetKeys keys) (λ flat. keys_added keys (emptied flat))
        (turns_then g a b c any_records emptied (turns_by g a b n table.keys (λ _. []) emptied refl does commits (λ flat held. table_changed (state g a) (state g b) flat held Keys (λ _. []))) r any_records (keys_added keys) turns (λ flat good. refl))
        (λ flat office of can. keys_set flat office of keys (keys_sorted keys preserved))

    -- the closed days are emptied, and then added
    pub days_written : (days : List ℕ) → is_day_list days ≡ true → Does g a b (Ok n) (Empties table.closed) → Rewrites g b c r no_days (days_added days) → Writes g a c r (change.SetClosedDays days)
    days_written days preserved does turns =
        let emptied = λ (flat : FlatLists). record flat { closed = [] } in
        writes_from g a c r (change.SetClosedDays days) (λ flat. days_added days (emptied flat))
        (turns_then g a b c any_records emptied (turns_by g a b n table.closed (λ _. []) emptied refl does commits (λ flat held. table_changed (state g a) (state g b) flat held Closed (λ _. []))) r no_days (days_added days) turns (λ flat good. refl))
        (λ flat office of can. days_set flat office of days (days_sorted days preserved))

    -- a meeting is added, and then its resolutions
    pub meeting_written : (m : Meeting) → Does g a b (Ok n) (Adds table.meetings (without_resolutions m)) → Rewrites g b c r any_records (resolutions_added m.id m.resolutions) → Writes g a c r (change.AddMeeting m)
    meeting_written m does turns =
        let more = λ (flat : FlatLists). record flat { meetings = flat.meetings ++ without_resolutions m ∷ [] } in
        writes_from g a c r (change.AddMeeting m) (λ flat. resolutions_added m.id m.resolutions (more flat))
        (turns_then g a b c any_records more (turns_by g a b n table.meetings (λ was. was ++ without_resolutions m ∷ []) more refl does commits (λ flat held. table_changed (state g a) (state g b) flat held Meetings (λ was. was ++ without_resolutions m ∷ [])))
        r any_records (resolutions_added m.id m.resolutions) turns (λ flat good. refl))
        (λ flat office of can. meeting_added flat m office of (differ_last same_meeting office.meetings (new_lists m) can.later.differ) (called_with_one m (last_passes is_meeting office.meetings (new_lists m) can.later.each)))

    -- the rows of a meeting's register are emptied, and then added
    abbrev taken_out : List ℕ → FlatLists → FlatLists
    taken_out id flat = record flat { register = filter (is_other id) flat.register }

    pub rows_turned : (id : List ℕ) (rows : List RegisterRow) → Does g a b (Ok n) (TakesOut table.register (λ holding. same_name holding.meeting id)) → Rewrites g b c r any_records (rows_added id rows)
        → Rewrites g a c r any_records (λ flat. rows_added id rows (taken_out id flat))
    rows_turned id rows does turns =
        turns_then g a b c any_records (taken_out id) (turns_by g a b n table.register (filter (is_other id)) (taken_out id) refl does commits (λ flat held. table_changed (state g a) (state g b) flat held (Each Register) (filter (is_other id))))
        r any_records (rows_added id rows) turns (λ flat good. refl)

  -- and then the meeting is noted as loaded
  pub register_written : (a c d : Held S) (n : ℕ) (id : List ℕ) (rows : List RegisterRow) → is_register rows ≡ true → Rewrites {T = Unit {0}} g a c (Ok tt) any_records (λ flat. rows_added id rows (record flat { register = filter (is_other id) flat.register }))
      → Does g c d (Ok n) (Sets table.meetings (loaded_at id)) → CommitsNothing g c d → Writes {T = Unit {0}} g a d (Ok tt) (change.InMeeting id (SetRegister rows))
  register_written a c d n id rows preserved turns does commits =
      let loaded = λ (flat : FlatLists). record flat { meetings = map (loaded_at id) flat.meetings } in
      let filled = λ (flat : FlatLists). rows_added id rows (record flat { register = filter (is_other id) flat.register }) in
      writes_from g a d (Ok tt) (change.InMeeting id (SetRegister rows)) (λ flat. loaded (filled flat))
      (turns_then g a c d any_records filled turns (Ok tt) any_records loaded
      (turns_by g c d n table.meetings (map (loaded_at id)) loaded refl does commits (λ flat held. table_changed (state g c) (state g d) flat held Meetings (map (loaded_at id)))) (λ flat good. refl))
      (λ flat office of can. register_set flat id rows office of can.before.differ (placed_in office id (SetRegister rows) can) (rows_sorted rows preserved))

  -- unless that is refused
  pub rows_unloaded : {T : Type 0} (a c d : Held S) (id : List ℕ) (rows asked : List RegisterRow) (e : Error) (answer : Result T Error) → IsErr answer
      → Rewrites {T = Unit {0}} g a c (Ok tt) any_records (λ flat. rows_added id rows (record flat { register = filter (is_other id) flat.register })) → CommitsNothing g c d → Writes g a d answer (change.InMeeting id (SetRegister asked))
  rows_unloaded {T} a c d id rows asked e answer bad turns commits =
      let filled = λ (flat : FlatLists). rows_added id rows (record flat { register = filter (is_other id) flat.register }) in
      writes_failed g a d (Err e) answer (change.InMeeting id (SetRegister asked)) (λ flat. filled (filled flat)) bad
      (turns_then g a c d any_records filled turns {T = T} (Err e) any_records filled (turns_refused g {T = T} c d e any_records filled commits) (λ flat good. refl))

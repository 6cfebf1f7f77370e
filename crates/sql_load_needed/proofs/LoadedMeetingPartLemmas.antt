-- A meeting with some of its lists, from the reading of each.
use Rattle.std.proofs.Common.{◌≡◌, ℕ, Bool, true, false, ◌||◌, cond, List, Option, Some, None, Result, IsTrue, refl, sym, subst, ap, ap₂, ◌∙◌}
use Rattle.std.specs.Cmp.{first_so}
use Rattle.std.specs.Prelude.{option_map}
use Rattle.desk_words.specs.Finding.{meeting_named}
use Rattle.desk_words.specs.Office.{implies, is_office, no_rows, are_rows}
use Rattle.desk_words.specs.Registers.{is_register}
use Rattle.desk_words.specs.Sessions.{is_opened}
use Rattle.desk_words.specs.declared.office.MeetingLists.{MeetingLists}
use Rattle.desk_words.specs.declared.office.OfficeLists.{OfficeLists}
use Rattle.desk_words.specs.declared.records.Meeting.{Meeting}
use Rattle.desk_words.specs.declared.records.Poll.{Poll}
use Rattle.desk_words.specs.declared.records.RegisterRow.{RegisterRow}
use Rattle.desk_words.proofs.OfficeFacts.{found_facts}
use Rattle.desk_words.specs.declared.request.OfficeRequest.{OfficeRequest}
use Rattle.sqlite.specs.Held.{Held}
use Rattle.sqlite_trees.specs.declared.store.Store as store
use Rattle.party_views.specs.Views.{meeting_at, polls_in}
use Rattle.office_decisions.specs.ListsRead.{days_read, first_read, lists_read, with_polls}
use Rattle.party_views.specs.PublicRead.{counted_up_to}
use Rattle.row_source.specs.LookUps.{register_in}
use Rattle.sql_load.specs.declared.fault.LoadError.{LoadError}
use Rattle.sql_load.specs.MeetingRecords.{AreOnItsResolutions}
use Rattle.sql_load.specs.TableLookUps.{HoldsOfStoredOffice}
use Rattle.sql_load.proofs.StoredOfficeLemmas.{returns_weaker}
use Rattle.sql_load_needed.specs.MeetingParts.{AreReadFor, IsReadWith}

-- the meeting that is found, or none, with these polls
pub with_these : (on : Option ℕ) (polls : List Poll) (found : Option MeetingLists) (read : Option Meeting) → read ≡ option_map (counted_up_to on) (option_map (λ (m : MeetingLists). m.meeting) found)
    → option_map (λ (m : Meeting). with_polls m polls) read ≡ option_map (λ (m : MeetingLists). with_polls (counted_up_to on m.meeting) polls) found
with_these on polls None read is = ap (option_map (λ (m : Meeting). with_polls m polls)) is
with_these on polls (Some m) read is = ap (option_map (λ (m : Meeting). with_polls m polls)) is

-- and with those of its polls that were read
pub with_its : (on : Option ℕ) (part : List Poll → List Poll) (found : Option MeetingLists) (polls : List Poll) → polls ≡ part (polls_in found)
    → option_map (λ (m : MeetingLists). with_polls (counted_up_to on m.meeting) polls) found ≡ option_map (λ (m : MeetingLists). with_polls (counted_up_to on m.meeting) (part m.polls)) found
with_its on part None polls is = refl
with_its on part (Some m) polls is = ap (λ l. Some (with_polls (counted_up_to on m.meeting) l)) is

-- the meeting that is found, if one is, with these polls, where they are on its resolutions
abbrev pub IsWith : Option ℕ → List ℕ → List Poll → OfficeLists → Option MeetingLists → Type 0
IsWith on id polls office lists =
    AreOnItsResolutions (meeting_at office id) polls → lists ≡ option_map (λ (m : MeetingLists). with_polls (counted_up_to on m.meeting) polls) (meeting_at office id)

-- or with these of its polls
abbrev pub IsWithPart : Option ℕ → List ℕ → (List Poll → List Poll) → OfficeLists → Option MeetingLists → Type 0
IsWithPart on id part office lists = lists ≡ option_map (λ (m : MeetingLists). with_polls (counted_up_to on m.meeting) (part m.polls)) (meeting_at office id)

-- what is returned of a meeting once what is read first is read is what the request reads of it, where it is so of each meeting
module _ {S : Type 0} (g : store.Ghosts S) (a b : Held S) (r : Result (List ℕ) LoadError) (asked what : OfficeRequest) (is_what : asked ≡ what) (id : List ℕ) (polls new : MeetingLists) (days : List ℕ → List ℕ) (rest : MeetingLists → Option MeetingLists → MeetingLists)
    (closed : (all : List ℕ) → days all ≡ days_read what all) (lists : (m : MeetingLists) → rest (first_read what m) (Some m) ≡ lists_read what m) where
  read_for : (office : OfficeLists) (found : List ℕ) → IsReadWith found (days office.closed) new (rest polls (meeting_at office id)) → (m : MeetingLists) → meeting_at office id ≡ Some m → polls ≡ first_read asked m → AreReadFor asked office m (record { closed = found; lists = new })
  read_for office found is m there alone = subst (λ (it : OfficeRequest). AreReadFor it office m (record { closed = found; lists = new })) (sym is_what) (record {
    closed = is.0 ∙ closed office.closed;
    lists = is.1 ∙ ap₂ rest (alone ∙ ap (λ (it : OfficeRequest). first_read it m) is_what) there ∙ lists m;
  })

  pub rest_returned : HoldsOfStoredOffice g a b r (λ office found. IsReadWith found (days office.closed) new (rest polls (meeting_at office id)))
      → HoldsOfStoredOffice g a b r (λ office found. (m : MeetingLists) → meeting_at office id ≡ Some m → polls ≡ first_read asked m → AreReadFor asked office m (record { closed = found; lists = new }))
  rest_returned one = record {
    holds = λ read office holds preserved. returns_weaker _ _ r (read_for office) (one.holds read office holds preserved);
    same = one.same;
    changes = one.changes;
  }

-- a register that is loaded is one, and before that there are no rows
rows_right : (loaded : Bool) (rows : List RegisterRow) → cond loaded (is_register rows) (no_rows rows) ≡ true → are_rows rows ≡ true
rows_right true rows h = elim (no_rows rows) as (λ b. (b || is_register rows) ≡ true) [ true ↦ refl | false ↦ h ]
rows_right false rows h = ap (λ b. b || is_register rows) h

pub register_right : (office : OfficeLists) (id : List ℕ) → IsTrue (is_office office) → are_rows (register_in (meeting_named office.meetings id)) ≡ true
register_right office id preserved = go (meeting_named office.meetings id) refl
  where
    go : (found : Option MeetingLists) → meeting_named office.meetings id ≡ found → are_rows (register_in found) ≡ true
    go None is = refl
    go (Some m) is =
        rows_right m.meeting.loaded m.register
        (first_so (cond m.meeting.loaded (is_register m.register) (no_rows m.register)) (implies (is_opened m.meeting.first) m.meeting.loaded) (found_facts office id m preserved is).loaded)

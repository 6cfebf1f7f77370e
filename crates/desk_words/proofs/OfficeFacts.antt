-- What is known of the lists of an office, test by test.
use Rattle.std.proofs.Common.{◌≡◌, ℕ, Bool, true, false, ◌&&◌, cond, List, [], ◌∷◌, length, refl, ap, sym, ◌∙◌}
use Rattle.std.specs.Prelude.{Some, None, IfSome, find, nat_le}
use Rattle.std.specs.List.{list_all}
use Rattle.std.specs.Cmp.{first_so, second_so}
use Rattle.std.specs.Cmp.Derive.{both_true}
use Rattle.desk_words.specs.Finding.{meeting_named}
use Rattle.vocabulary.specs.Names.{same_name}
use Rattle.seq.specs.Ordered.{ascends_by, differ_by}
use Rattle.desk_words.specs.Registers.{is_register, keep_limits, member_before}
use Rattle.desk_words.specs.SortedLists.{is_key_list, is_day_list, are_resolutions}
use Rattle.desk_words.specs.Office.{are_numbered_after, is_appointment, implies, no_rows, is_loaded_right, are_appointments, are_endings, are_authorities, are_presences, are_demands, are_polls, are_casts, is_meeting, same_meeting, are_meetings, is_office}
use Rattle.desk_words.specs.Sessions.{are_sessions, is_opened}
use Rattle.desk_words.specs.declared.office.OfficeLists.{OfficeLists}
use Rattle.desk_words.specs.declared.office.MeetingLists.{MeetingLists}
use Rattle.desk_words.specs.declared.records.RegisterRow.{RegisterRow}

-- the tests of an office, by name
pub record OfficeFacts (o : OfficeLists) : Type 0 where
  pub keys : is_key_list o.keys ≡ true
  pub closed : is_day_list o.closed ≡ true
  pub few : nat_le (length o.meetings) 100 ≡ true
  pub apart : differ_by same_meeting o.meetings ≡ true
  pub each : list_all is_meeting o.meetings ≡ true

pub office_facts : (o : OfficeLists) → is_office o ≡ true → OfficeFacts o
office_facts o h =
    let lists = first_so (is_key_list o.keys && is_day_list o.closed) (are_meetings o.meetings) h in
    let meetings = second_so (is_key_list o.keys && is_day_list o.closed) (are_meetings o.meetings) h in
    let names = first_so (nat_le (length o.meetings) 100 && differ_by same_meeting o.meetings) (list_all is_meeting o.meetings) meetings in
    record {
      keys = first_so (is_key_list o.keys) (is_day_list o.closed) lists;
      closed = second_so (is_key_list o.keys) (is_day_list o.closed) lists;
      few = first_so (nat_le (length o.meetings) 100) (differ_by same_meeting o.meetings) names;
      apart = second_so (nat_le (length o.meetings) 100) (differ_by same_meeting o.meetings) names;
      each = second_so (nat_le (length o.meetings) 100 && differ_by same_meeting o.meetings) (list_all is_meeting o.meetings) meetings;
    }

pub office_from_facts : (o : OfficeLists) → OfficeFacts o → is_office o ≡ true
office_from_facts o f = both_true (both_true f.keys f.closed) (both_true (both_true f.few f.apart) f.each)

-- the tests of a meeting, by name
pub record MeetingFacts (m : MeetingLists) : Type 0 where
  pub resolutions : are_resolutions m.meeting.resolutions ≡ true
  pub sessions : are_sessions m.meeting ≡ true
  pub loaded : is_loaded_right m ≡ true
  pub appointments : are_appointments (length m.meeting.resolutions) m.appointments ≡ true
  pub endings : are_endings m.appointments m.endings ≡ true
  pub authorities : are_authorities m.authorities ≡ true
  pub presences : are_presences m.meeting m.presences ≡ true
  pub demands : are_demands m.meeting m.demands ≡ true
  pub polls : are_polls m.meeting m.polls ≡ true
  pub casts : are_casts m.polls m.casts ≡ true

pub meeting_facts : (m : MeetingLists) → is_meeting m ≡ true → MeetingFacts m
meeting_facts m h =
    let n = length m.meeting.resolutions in
    let a = are_resolutions m.meeting.resolutions in
    let s = are_sessions m.meeting in
    let b = is_loaded_right m in
    let c = are_appointments n m.appointments in
    let d = are_endings m.appointments m.endings in
    let e = are_authorities m.authorities in
    let f = are_presences m.meeting m.presences in
    let g = are_demands m.meeting m.demands in
    let p = are_polls m.meeting m.polls in
    let q = are_casts m.polls m.casts in
    let h9 = first_so (a && s && b && c && d && e && f && g && p) q h in
    let h8 = first_so (a && s && b && c && d && e && f && g) p h9 in
    let h7 = first_so (a && s && b && c && d && e && f) g h8 in
    let h6 = first_so (a && s && b && c && d && e) f h7 in
    let h5 = first_so (a && s && b && c && d) e h6 in
    let h4 = first_so (a && s && b && c) d h5 in
    let h3 = first_so (a && s && b) c h4 in
    let h2 = first_so (a && s) b h3 in
    record {
      resolutions = first_so a s h2;
      sessions = second_so a s h2;
      loaded = second_so (a && s) b h3;
      appointments = second_so (a && s && b) c h4;
      endings = second_so (a && s && b && c) d h5;
      authorities = second_so (a && s && b && c && d) e h6;
      presences = second_so (a && s && b && c && d && e) f h7;
      demands = second_so (a && s && b && c && d && e && f) g h8;
      polls = second_so (a && s && b && c && d && e && f && g) p h9;
      casts = second_so (a && s && b && c && d && e && f && g && p) q h;
    }

pub meeting_from_facts : (m : MeetingLists) → MeetingFacts m → is_meeting m ≡ true
meeting_from_facts m f =
    both_true
    (both_true
    (both_true (both_true (both_true (both_true (both_true (both_true (both_true f.resolutions f.sessions) f.loaded) f.appointments) f.endings) f.authorities) f.presences) f.demands)
    f.polls)
    f.casts

-- what is found passes the test that all pass
pub find-passes : {X : Type 0} (p q : X → Bool) (xs : List X) (x : X) → list_all q xs ≡ true → find p xs ≡ Some x → q x ≡ true
find-passes p q [] x h = λ e. absurd (cc)
find-passes p q (y ∷ ys) x h =
    elim (p y) as (λ b. cond b (Some y) (find p ys) ≡ Some x → q x ≡ true) [
      | true ↦ λ e. (let same : y ≡ x = cc in ap q (sym same) ∙ first_so (q y) (list_all q ys) h)
      | false ↦ λ e. find-passes p q ys x (second_so (q y) (list_all q ys) h) e
    ]

-- a meeting that is found in an office is such a meeting
pub found_facts : (o : OfficeLists) (id : List ℕ) (m : MeetingLists) → is_office o ≡ true → meeting_named o.meetings id ≡ Some m → MeetingFacts m
found_facts o id m h e = meeting_facts m (find-passes (λ x. same_name x.meeting.id id) is_meeting o.meetings m (office_facts o h).each e)

no_rows_ascend : (rows : List RegisterRow) → no_rows rows ≡ true → ascends_by member_before rows ≡ true
no_rows_ascend [] h = refl
no_rows_ascend (row ∷ rows) h = absurd (cc)

register_ascends_if : (loaded : Bool) (rows : List RegisterRow) → cond loaded (is_register rows) (no_rows rows) ≡ true → ascends_by member_before rows ≡ true
register_ascends_if true rows h = second_so (keep_limits rows) (ascends_by member_before rows) h
register_ascends_if false rows h = no_rows_ascend rows h

-- a meeting's register is in the order of members
pub register_ascends : (m : MeetingLists) → MeetingFacts m → ascends_by member_before m.register ≡ true
register_ascends m f =
    register_ascends_if m.meeting.loaded m.register
    (first_so (cond m.meeting.loaded (is_register m.register) (no_rows m.register)) (implies (is_opened m.meeting.first) m.meeting.loaded) f.loaded)

-- the appointments of a meeting are numbered from 1 for each member
pub meeting_numbered : (m : MeetingLists) → is_meeting m ≡ true → are_numbered_after [] m.appointments ≡ true
meeting_numbered m h =
    first_so (are_numbered_after [] m.appointments) (list_all (is_appointment (length m.meeting.resolutions)) m.appointments) (meeting_facts m h).appointments

-- what is found among meetings is one
pub found_meeting : (meetings : List MeetingLists) (id : List ℕ) → list_all is_meeting meetings ≡ true → IfSome (meeting_named meetings id) (λ m. is_meeting m ≡ true)
found_meeting meetings id h =
    (elim (meeting_named meetings id) as (λ found. meeting_named meetings id ≡ found → IfSome found (λ m. is_meeting m ≡ true)) [
      | None ↦ λ e. tt
      | Some m ↦ λ e. find-passes (λ x. same_name x.meeting.id id) is_meeting meetings m h e
    ]) refl

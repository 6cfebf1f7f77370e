-- A load that was accepted is what is held when it comes again.
use Rattle.std.proofs.Common.{◌≡◌, ℕ, Bool, true, false, not, ◌==◌, cond, List, [], ◌∷◌, refl, ap, sym, ◌∙◌, arith, true≢false}
use Rattle.std.specs.Prelude.{option_map, Option, Some, None, is_some, nat_le, nat_lt, length}
use Rattle.std.specs.Cmp.{first_so, second_so}
use Rattle.std.specs.Cmp.Derive.{both_true}
use Rattle.std.specs.List.{list_all, zip}
use Rattle.std.proofs.lemmas.Bool.{eq-eqb, eqb-true}
use Rattle.std.proofs.lemmas.Bool.Decides.{nat_tests}
use Rattle.vocabulary.specs.Names.{same_name}
use Rattle.vocabulary.specs.Refusals.{first_refusal}
use Rattle.vocabulary.specs.declared.refusal.Refusal.TheVariants.{OtherRecord, Opened, Early}
use Rattle.desk_words.proofs.WordRowLemmas.{each_same_key-Decides, same_name-refl, same_name-true, same_rows-Decides}
use Rattle.desk_words.specs.Changes.{applied, applied_if_any, change_at, changed, empty_office}
use Rattle.desk_words.specs.Finding.{meeting_named}
use Rattle.desk_words.specs.KeyRows.{same_key_row, same_keys}
use Rattle.desk_words.specs.SameRows.{same_rows}
use Rattle.desk_words.specs.Rulings.{in_found, loaded, reply_unchanged, map_ruling_change, ruled_answer, refused_or, map_change}
use Rattle.desk_words.specs.declared.answer.Answer.{Answer}
use Rattle.desk_words.specs.declared.caller.Caller.{Caller}
use Rattle.desk_words.specs.declared.caller.Caller.TheVariants as caller
use Rattle.desk_words.specs.declared.caller.KeyRow.{KeyRow}
use Rattle.desk_words.specs.declared.change.Change.{Change}
use Rattle.desk_words.specs.declared.change.Change.TheVariants.{InMeeting, SetClosedDays, SetKeys}
use Rattle.desk_words.specs.declared.change.MeetingChange.TheVariants.{SetRegister}
use Rattle.desk_words.specs.declared.office.MeetingLists.{MeetingLists}
use Rattle.desk_words.specs.declared.office.OfficeLists.{OfficeLists}
use Rattle.desk_words.specs.declared.records.Meeting.{Meeting}
use Rattle.desk_words.specs.declared.records.RegisterRow.{RegisterRow}
use Rattle.desk_words.specs.declared.reply.Reply.TheVariants as reply
use Rattle.desk_words.specs.declared.request.DeskRequest.TheVariants as desk
use Rattle.desk_words.specs.declared.request.NewRegister.{NewRegister}
use Rattle.desk_words.specs.declared.request.OfficeRequest.TheVariants.{LoadRegister}
use Rattle.desk_words.specs.declared.request.Request.{Request}
use Rattle.desk_words.specs.declared.request.Request.TheVariants as asked
use Rattle.office_decisions.specs.CallRulings.{load_cases, load_ruling}
use Rattle.office_decisions.specs.DeskRulings.{same_days}
use Rattle.party_views.specs.Views.{meeting_at}
use Rattle.meeting_core.proofs.RulingLemmas.{fails}
use Rattle.meeting_core.specs.Step.{after_reply, decided, run_of, stepped}
use Rattle.laws_step.specs.Loads.{AnswersSameAgain, Deciding, HoldsLoad, HoldsWhatIsLoaded, LeavesTheOfficeOfOne, RunsAsOfOne, accepts_load, is_in_turn, is_load}
use Rattle.laws_step.specs.WrongLoads.{ActsNever, ActsTwice, a_load, loads_anew, shows_alone, writes_anew}

-- ---- what is loaded is held

keys-same : (rows : List KeyRow) → same_keys rows rows ≡ true
keys-same rows = both_true (eq-eqb (length rows) (length rows) refl) ((each_same_key-Decides rows rows _ refl refl).1 refl)

-- where a change leaves what it loads, it is what is held when it comes again
held_again : (o : OfficeLists) (change : Change) (held : OfficeLists → Bool) → held (applied o change) ≡ true
    → loaded (held (applied_if_any o (loaded (held o) change).change)) change ≡ reply_unchanged reply.Same
held_again o change held stands =
    (elim (held o) as (λ b. held o ≡ b → loaded (held (applied_if_any o (loaded b change).change)) change ≡ reply_unchanged reply.Same) [
      | true ↦ λ same. ap (λ b. loaded b change) same
      | false ↦ λ other. ap (λ b. loaded b change) stands
    ]) refl

-- ---- a register

-- the meeting that is found after a change of the one that was found
changed_found : (f : MeetingLists → MeetingLists) (id : List ℕ) (meetings : List MeetingLists) (m : MeetingLists) → ((x : MeetingLists) → (f x).meeting.id ≡ x.meeting.id)
    → meeting_named meetings id ≡ Some m → meeting_named (change_at f id meetings) id ≡ Some (f m)
changed_found f id [] m named found = absurd (cc)
changed_found f id (x ∷ xs) m named found =
    (elim (same_name x.meeting.id id) as (λ b. same_name x.meeting.id id ≡ b → cond b (Some x) (meeting_named xs id) ≡ Some m
    → meeting_named (cond b (f x ∷ xs) (x ∷ change_at f id xs)) id ≡ Some (f m)) [
      | true ↦ λ is e. (
          let same : x ≡ m = cc in
          let still : same_name (f x).meeting.id id ≡ true = ap (λ name. same_name name id) (named x) ∙ is in
          ap (λ b. cond b (Some (f x)) (meeting_named xs id)) still ∙ ap (λ y. Some (f y)) same)
      | false ↦ λ other e. ap (λ b. cond b (Some x) (meeting_named (change_at f id xs) id)) other ∙ changed_found f id xs m named e
    ]) refl found

-- a register that may be loaded may be loaded later
later_none : (meeting : Meeting) (first again : ℕ) (new : NewRegister) → nat_le first again ≡ true
    → first_refusal (load_cases meeting first new) ≡ None → first_refusal (load_cases meeting again new) ≡ None
later_none meeting first again new turn none =
    let cases = load_cases meeting first new in
    let record_moment : not (meeting.record_moment == new.record_moment) ≡ false = fails OtherRecord cases none in
    let opened : is_some meeting.first.opened ≡ false = fails Opened cases none in
    let early : nat_lt first new.record_moment ≡ false = fails Early cases none in
    let later : nat_lt again new.record_moment ≡ false = grind (arith, nat_tests, early, turn) in
    rw (record_moment, opened, later) refl

-- the answer to the load of a register, where its meeting is found or not
abbrev register_answer : Option MeetingLists → List ℕ → ℕ → NewRegister → Answer Change
register_answer found id now new = ruled_answer (map_ruling_change (InMeeting id) (in_found found (λ m. load_ruling m now new)))

-- of a meeting that has the register it is that it is the same
register_same : (m : MeetingLists) (id : List ℕ) (now : ℕ) (new : NewRegister) → first_refusal (load_cases m.meeting now new) ≡ None → same_rows m.register new.rows ≡ true
    → register_answer (Some m) id now new ≡ reply_unchanged reply.Same
register_same m id now new none same =
    ap (λ refusal. refused_or refusal (map_change (InMeeting id) (loaded (same_rows m.register new.rows) (SetRegister new.rows)))) none
    ∙ ap (λ b. map_change (InMeeting id) (loaded b (SetRegister new.rows))) same

-- a register comes again
register_again : (o : OfficeLists) (found : Option MeetingLists) (id : List ℕ) (first again : ℕ) (new : NewRegister) → meeting_at o id ≡ found → nat_le first again ≡ true
    → accepts_load (register_answer found id first new).reply ≡ true
    → register_answer (meeting_at (applied_if_any o (register_answer found id first new).change) id) id again new ≡ reply_unchanged reply.Same
register_again o None id first again new found turn accepted = absurd (true≢false (sym accepted))
register_again o (Some m) id first again new found turn accepted =
    (elim (first_refusal (load_cases m.meeting first new)) as (λ refusal. first_refusal (load_cases m.meeting first new) ≡ refusal
    → accepts_load (refused_or refusal (settle (same_rows m.register new.rows))).reply ≡ true
    → register_answer (meeting_at (applied_if_any o (refused_or refusal (settle (same_rows m.register new.rows))).change) id) id again new ≡ reply_unchanged reply.Same) [
      | Some refusal ↦ λ refused accepted. absurd (cc)
      | None ↦ λ none accepted. by_rows (later_none m.meeting first again new turn none)
    ]) refl accepted
  where
    settle : Bool → Answer Change
    settle same = map_change (InMeeting id) (loaded same (SetRegister new.rows))

    by_rows : first_refusal (load_cases m.meeting again new) ≡ None
        → register_answer (meeting_at (applied_if_any o (settle (same_rows m.register new.rows)).change) id) id again new ≡ reply_unchanged reply.Same
    by_rows none =
        (elim (same_rows m.register new.rows) as (λ b. same_rows m.register new.rows ≡ b
        → register_answer (meeting_at (applied_if_any o (settle b).change) id) id again new ≡ reply_unchanged reply.Same) [
          | true ↦ λ same. ap (λ f. register_answer f id again new) found ∙ register_same m id again new none same
          | false ↦ λ other.
              ap (λ f. register_answer f id again new) (changed_found (changed (SetRegister new.rows)) id o.meetings m (λ x. refl) found)
              ∙ register_same (changed (SetRegister new.rows) m) id again new none ((same_rows-Decides new.rows new.rows).1 refl)
        ]) refl

-- ---- what was loaded is held

-- keys that are the same are equal
keys-equal : (held rows : List KeyRow) → same_keys held rows ≡ true → held ≡ rows
keys-equal held rows same =
    let each = list_all (λ pair. same_key_row pair.0 pair.1) (zip held rows) in
    let long = eqb-true (length held) (length rows) (first_so (length held == length rows) each same) in
    (each_same_key-Decides held rows each long refl).0 (second_so (length held == length rows) each same)

-- closed days
days_held : (o : OfficeLists) (days : List ℕ) → (applied_if_any o (loaded (same_days o.closed days) (SetClosedDays days)).change).closed ≡ days
days_held o days =
    (elim (same_days o.closed days) as (λ b. same_days o.closed days ≡ b → (applied_if_any o (loaded b (SetClosedDays days)).change).closed ≡ days) [
      | true ↦ λ same. same_name-true o.closed days same
      | false ↦ λ other. refl
    ]) refl

-- keys
keys_held : (o : OfficeLists) (rows : List KeyRow) → (applied_if_any o (loaded (same_keys o.keys rows) (SetKeys rows)).change).keys ≡ rows
keys_held o rows =
    (elim (same_keys o.keys rows) as (λ b. same_keys o.keys rows ≡ b → (applied_if_any o (loaded b (SetKeys rows)).change).keys ≡ rows) [
      | true ↦ λ same. keys-equal o.keys rows same
      | false ↦ λ other. refl
    ]) refl

-- the register of a meeting, if it is found
abbrev register_in : Option MeetingLists → Option (List RegisterRow)
register_in found = option_map (λ (m : MeetingLists). m.register) found

-- a register
register_held : (o : OfficeLists) (found : Option MeetingLists) (id : List ℕ) (now : ℕ) (new : NewRegister) → meeting_at o id ≡ found
    → accepts_load (register_answer found id now new).reply ≡ true
    → register_in (meeting_at (applied_if_any o (register_answer found id now new).change) id) ≡ Some new.rows
register_held o None id now new found accepted = absurd (true≢false (sym accepted))
register_held o (Some m) id now new found accepted =
    (elim (first_refusal (load_cases m.meeting now new)) as (λ refusal. accepts_load (refused_or refusal (settle (same_rows m.register new.rows))).reply ≡ true
    → register_in (meeting_at (applied_if_any o (refused_or refusal (settle (same_rows m.register new.rows))).change) id) ≡ Some new.rows) [
      | Some refusal ↦ λ accepted. absurd (cc)
      | None ↦ λ accepted. by_rows
    ]) accepted
  where
    settle : Bool → Answer Change
    settle same = map_change (InMeeting id) (loaded same (SetRegister new.rows))

    by_rows : register_in (meeting_at (applied_if_any o (settle (same_rows m.register new.rows)).change) id) ≡ Some new.rows
    by_rows =
        (elim (same_rows m.register new.rows) as (λ b. same_rows m.register new.rows ≡ b
        → register_in (meeting_at (applied_if_any o (settle b).change) id) ≡ Some new.rows) [
          | true ↦ λ same. ap register_in found ∙ ap (λ (rows : List RegisterRow). Some rows) ((same_rows-Decides m.register new.rows).0 same)
          | false ↦ λ other. ap register_in (changed_found (changed (SetRegister new.rows)) id o.meetings m (λ x. refl) found)
        ]) refl

-- ---- all loads

-- a load is held
held_by : (o : OfficeLists) (now : ℕ) (who : Caller) (request : Request)
    → accepts_load (decided o (record { moment = now; caller = who; request = request })).reply ≡ true
    → HoldsLoad (stepped o (record { moment = now; caller = who; request = request })) request
held_by o now caller.Office (asked.Desk (desk.ClosedDays days)) accepted = days_held o days
held_by o now caller.Office (asked.Desk (desk.Keys rows)) accepted = keys_held o rows
held_by o now caller.Office (asked.Desk other) accepted = tt
held_by o now caller.Office (asked.Office id (LoadRegister new)) accepted = register_held o (meeting_at o id) id now new refl accepted
held_by o now caller.Office (asked.Office id other) accepted = tt
held_by o now caller.Office (asked.Party id what) accepted = tt
held_by o now (caller.Party party) (asked.Party id what) accepted = tt
held_by o now (caller.Party party) other accepted = absurd (cc)

pub load_held : HoldsWhatIsLoaded decided
load_held o call accepted = held_by o call.moment call.caller call.request accepted

-- a load comes again
load_again : (o : OfficeLists) (first again : ℕ) (who : Caller) (request : Request) → is_load request ≡ true
    → accepts_load (decided o (record { moment = first; caller = who; request = request })).reply ≡ true → is_in_turn request first again ≡ true
    → decided (stepped o (record { moment = first; caller = who; request = request })) (record { moment = again; caller = who; request = request }) ≡ reply_unchanged reply.Same
load_again o first again caller.Office (asked.Desk (desk.ClosedDays days)) load accepted turn = held_again o (SetClosedDays days) (λ x. same_days x.closed days) (same_name-refl days)
load_again o first again caller.Office (asked.Desk (desk.Keys rows)) load accepted turn = held_again o (SetKeys rows) (λ x. same_keys x.keys rows) (keys-same rows)
load_again o first again caller.Office (asked.Desk other) load accepted turn = absurd (cc)
load_again o first again caller.Office (asked.Office id (LoadRegister new)) load accepted turn = register_again o (meeting_at o id) id first again new refl turn accepted
load_again o first again caller.Office (asked.Office id other) load accepted turn = absurd (cc)
load_again o first again caller.Office (asked.Party id what) load accepted turn = absurd (cc)
load_again o first again (caller.Party party) (asked.Party id what) load accepted turn = absurd (cc)
load_again o first again (caller.Party party) other load accepted turn = absurd (cc)

pub same_again : AnswersSameAgain decided
same_again o call again comes = load_again o call.moment again call.caller call.request comes.load comes.accepted comes.in_turn

pub office_of_one : LeavesTheOfficeOfOne
office_of_one o call again comes = ap (λ (a : Answer Change). applied_if_any (stepped o call) a.change) (same_again o call again comes)

pub run_of_one : RunsAsOfOne
run_of_one o call again later comes =
    let same = same_again o call again comes in
    let left = office_of_one o call again comes in
    λ i. after_reply (decided o call).reply (after_reply (same i).reply (run_of (left i) later))

-- ---- wrong ways to decide them

pub never_written : ActsNever shows_alone empty_office a_load
never_written = record {
  is_one = refl;
  accepted = refl;
  lacks = λ h. (let days : 0 ≡ 1 = ap length h in absurd (omega arith));
}

pub never_caught : HoldsWhatIsLoaded shows_alone → ⊥
never_caught law = never_written.lacks (law empty_office a_load never_written.accepted)

-- what is written is seen
abbrev written : Answer Change → Bool
written answer = is_some answer.change

pub loaded_twice : ActsTwice loads_anew empty_office a_load 0
loaded_twice = record {
  is_one = refl;
  comes = record { load = refl; accepted = refl; in_turn = refl };
  acts = λ h. absurd (true≢false (ap written h));
}

pub written_twice : ActsTwice writes_anew empty_office a_load 0
written_twice = record {
  is_one = refl;
  comes = record { load = refl; accepted = refl; in_turn = refl };
  acts = λ h. absurd (true≢false (ap written h));
}

-- what acts twice breaks the law
pub caught_by : (deciding : Deciding) → ActsTwice deciding empty_office a_load 0 → AnswersSameAgain deciding → ⊥
caught_by deciding twice law = twice.acts (law empty_office a_load 0 twice.comes)

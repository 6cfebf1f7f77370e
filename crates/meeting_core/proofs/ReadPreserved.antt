-- What is decided of the office's calls from what they read.
use Rattle.std.proofs.Common.{◌≡◌, ℕ, Bool, true, false, cond, List, refl, sym, ap, subst, ◌∙◌}
use Rattle.std.specs.Prelude.{Option, Some, None, Result, Ok, Err, IfOk, IfSome, option_map}
use Rattle.std.specs.Cmp.Lexicographic.{nat_list_cmp_total}
use Rattle.std.proofs.lemmas.List.Sorted.{IsPermutation-refl}
use Rattle.seq.proofs.SortingLemmas.{sort_by-ascending}
use Rattle.desk_words.specs.Changes.{applied_if_any}
use Rattle.desk_words.specs.Office.{is_meeting, is_office}
use Rattle.desk_words.specs.Rulings.{refused, ruled_answer, map_change}
use Rattle.desk_words.specs.declared.answer.Answer.{Answer}
use Rattle.desk_words.specs.declared.change.Change.{Change}
use Rattle.desk_words.specs.declared.change.Change.TheVariants.{InMeeting}
use Rattle.desk_words.specs.declared.change.MeetingChange.{MeetingChange}
use Rattle.desk_words.specs.declared.office.MeetingLists.{MeetingLists}
use Rattle.desk_words.specs.declared.office.OfficeLists.{OfficeLists}
use Rattle.desk_words.specs.declared.records.RegisterRow.{RegisterRow}
use Rattle.desk_words.specs.declared.request.Call.{Call}
use Rattle.desk_words.specs.declared.request.OfficeRequest.{OfficeRequest}
use Rattle.vocabulary.specs.declared.refusal.Refusal.{Refusal}
use Rattle.desk_words.proofs.OfficeFacts.{found_meeting, meeting_facts, office_facts, register_ascends}
use Rattle.party_views.specs.Views.{meeting_at}
use Rattle.office_decisions.specs.OfficeRulings.{office_ruling}
use Rattle.office_decisions.specs.RequestLimits.{if_any, is_within_limits, keeps_limits}
use Rattle.office_decisions.specs.Early.{early_refusal}
use Rattle.office_decisions.specs.ListsRead.{first_read, lists_read, reads_register}
use Rattle.office_decisions.proofs.EarlyLemmas.{refusals_stand}
use Rattle.office_decisions.proofs.ReadLaws.{read_meeting, read_so}
use Rattle.office_validation.specs.Validation.{in_order}
use Rattle.meeting_core.specs.Checked.{in_order_for}
use Rattle.meeting_core.specs.Decisions.{AreListsRead, IsNoMeeting, office_call}
use Rattle.meeting_core.specs.Step.{decided}
use Rattle.meeting_core.proofs.OfficePreserved.{step_preserved}
use Rattle.meeting_core.proofs.RulingLemmas.{settled_within}

-- a meeting's register is in order
ordered : (m : MeetingLists) → is_meeting m ≡ true → in_order m ≡ m
ordered m h =
    ap (λ rows. record m { register = rows })
    (sym (sort_by-ascending nat_list_cmp_total (λ (row : RegisterRow). row.member) m.register m.register (IsPermutation-refl m.register) (register_ascends m (meeting_facts m h))))

ordered_by : (what : OfficeRequest) (reads : Bool) (m : MeetingLists) → reads_register what ≡ reads → is_meeting m ≡ true → cond reads (in_order (lists_read what m)) (lists_read what m) ≡ lists_read what m
ordered_by what true m is h = ordered (lists_read what m) (read_meeting what m is h)
ordered_by what false m is h = refl

-- and so is what is read of it
pub ordered_so : (what : OfficeRequest) (found : Option MeetingLists) → IfSome found (λ m. is_meeting m ≡ true) → option_map (in_order_for what) (option_map (lists_read what) found) ≡ option_map (lists_read what) found
ordered_so what None h = refl
ordered_so what (Some m) h = ap (λ (x : MeetingLists). Some x) (ordered_by what (reads_register what) m refl h)

-- the meeting that is found in an office is one
pub found_is : (office : OfficeLists) (id : List ℕ) → is_office office ≡ true → IfSome (meeting_at office id) (λ m. is_meeting m ≡ true)
found_is office id h = found_meeting office.meetings id (office_facts office h).each

-- what is answered from what is read is what is decided in each office of which it is read
pub decided_so : (office : OfficeLists) (meeting : List ℕ) (now : ℕ) (what : OfficeRequest) (days : List ℕ) (found lists : Option MeetingLists) (answer : Answer MeetingChange)
    → is_office office ≡ true → AreListsRead office meeting what days found → lists ≡ option_map (in_order_for what) found → answer ≡ ruled_answer (office_ruling days lists now what)
    → map_change (InMeeting meeting) answer ≡ decided office (office_call meeting now what)
decided_so office meeting now what days found lists answer preserved read same is =
    let held = meeting_at office meeting in
    let ordered = same ∙ ap (option_map (in_order_for what)) read.lists ∙ ordered_so what held (found_is office meeting preserved) in
    ap (map_change (InMeeting meeting))
    (is ∙ (λ i. ruled_answer (office_ruling (read.closed i) (ordered i) now what)) ∙ ap ruled_answer (read_so what now office.closed held))
    ∙ sym (settled_within (InMeeting meeting) (office_ruling office.closed held now what))

-- what is refused from what is read first is decided so in each office of which it is read
pub decided_early : (office : OfficeLists) (meeting : List ℕ) (now : ℕ) (what : OfficeRequest) (found : Option MeetingLists) (refusal : Refusal)
    → found ≡ option_map (first_read what) (meeting_at office meeting) → early_refusal found now what ≡ Some refusal → refused refusal ≡ decided office (office_call meeting now what)
decided_early office meeting now what found refusal read is =
    let held = meeting_at office meeting in
    ap (map_change (InMeeting meeting)) (sym (refusals_stand office.closed held now what refusal (ap (λ first. early_refusal first now what) (sym read) ∙ is)))
    ∙ sym (settled_within (InMeeting meeting) (office_ruling office.closed held now what))

-- a meeting's change keeps its limits in the office
pub limits_within : (id : List ℕ) (change : Option MeetingChange) → if_any is_within_limits change ≡ true → if_any keeps_limits (option_map (InMeeting id) change) ≡ true
limits_within id None h = refl
limits_within id (Some change) h = h

-- what is decided within its limits leaves the lists of an office
pub decision_preserved : (office : OfficeLists) (call : Call) (answer : Answer Change) → answer ≡ decided office call → if_any keeps_limits answer.change ≡ true → is_office office ≡ true → is_office (applied_if_any office answer.change) ≡ true
decision_preserved office call answer is limits preserved =
    ap (λ (a : Answer Change). is_office (applied_if_any office a.change)) is
    ∙ step_preserved office call.moment call.caller call.request preserved (ap (λ (a : Answer Change). if_any keeps_limits a.change) (sym is) ∙ limits)

-- where no lists are found none are asked to be a meeting's
pub weaker : (found : Option MeetingLists) (reads : Bool) → IfSome found (λ m. is_meeting m ≡ true) → IfSome found (λ m. reads ≡ true → is_meeting m ≡ true)
weaker None reads h = tt
weaker (Some m) reads h = λ _. h

-- what two facts of what is given make together
pub both_ok : {X E : Type 0} (r : Result X E) (P Q R : X → Type 0) → ((x : X) → P x → Q x → R x) → IfOk r P → IfOk r Q → IfOk r R
both_ok (Ok x) P Q R next p q = next x p q
both_ok (Err e) P Q R next p q = tt

-- where the lists that were read are a meeting's in order, it is not that they are no meeting's
pub never_none : (what : OfficeRequest) (found lists : Option MeetingLists) → lists ≡ option_map (in_order_for what) found → IfSome lists (λ m. reads_register what ≡ true → is_meeting m ≡ true)
    → IsNoMeeting what found → ⊥
never_none what None lists same right none = absurd none.1
never_none what (Some m) lists same right none =
    let P : Option MeetingLists → Type 0 = λ x. IfSome x (λ y. reads_register what ≡ true → is_meeting y ≡ true) in
    let is : is_meeting (in_order_for what m) ≡ true = subst P same right none.0 in
    let order : in_order_for what m ≡ in_order m = ap (λ b. cond b (in_order m) m) none.0 in
    let never : false ≡ true = sym none.1 ∙ ap is_meeting (sym order) ∙ is in
    absurd (cc)

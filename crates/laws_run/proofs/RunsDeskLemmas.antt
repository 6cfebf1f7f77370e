-- The desk's own steps isolate.
use Rattle.std.proofs.Common.{◌≡◌, ℕ, Bool, true, false, ◌&&◌, ◌||◌, cond, List, refl, ap, sym, ◌∙◌, subst, true≢false}
use Rattle.std.specs.Prelude.{Option, Some, None, option_map}
use Rattle.std.specs.Cmp.{first_so, second_so}
use Rattle.std.proofs.lemmas.Bool.{or_right}
use Rattle.vocabulary.specs.Names.{same_name}
use Rattle.desk_words.proofs.WordRowLemmas.{same_name-true}
use Rattle.desk_words.specs.Changes.{applied_if_any}
use Rattle.desk_words.specs.Office.{implies}
use Rattle.desk_words.specs.declared.answer.Answer.{Answer}
use Rattle.desk_words.specs.declared.caller.Caller.{Caller}
use Rattle.desk_words.specs.declared.caller.Caller.TheVariants as caller
use Rattle.desk_words.specs.declared.change.Change.{Change}
use Rattle.desk_words.specs.declared.change.Entry.{Entry}
use Rattle.desk_words.specs.declared.office.OfficeLists.{OfficeLists}
use Rattle.desk_words.specs.declared.request.Call.{Call}
use Rattle.desk_words.specs.declared.request.PartyRequest.{PartyRequest}
use Rattle.desk_words.specs.declared.request.Request.{Request}
use Rattle.desk_words.specs.declared.request.Request.TheVariants as asked
use Rattle.party_views.specs.Public.{PublicRecord}
use Rattle.party_views.specs.Views.{meeting_at, own_of, public_of}
use Rattle.meeting_core.specs.Step.{decided, stepped}
use Rattle.laws_run.specs.Isolation.{AreIndistinguishable, IsolatesSteps}
use Rattle.laws_run.specs.NearParts.{IsSourced, Near, Part, Viewer, is_near, is_source, near_in, part_of}
use Rattle.laws_run.specs.Traces.{Shown, ShownRequest, Whole, Office, is_by, is_giving, is_near_by, is_shown, names_party, shown_of, shown_request}
use Rattle.laws_run.proofs.RunsFoundLemmas.{after_entry, public-entry}
use Rattle.laws_run.proofs.RunsOfficeLemmas.{near_shown, near-office, office_after, office-preserved, public-office}
use Rattle.laws_run.proofs.RunsPartLemmas.{is_near_some, near_at, near_at-stays, near_some, near-after, sourced-entry}
use Rattle.laws_run.proofs.RunsRunLemmas.{call_in}
use Rattle.laws_run.proofs.PartyLemmas.{answer_to, by-party, entry-of, own-answer, own-party, source-answer, sourced-what, unseen-entry}

-- a call of a party
abbrev party_call : ℕ → List ℕ → Request → Call
party_call now party request = record { moment = now; caller = caller.Party party; request = request }

-- the office after it, by what it enters
after-party : (o : OfficeLists) (party : List ℕ) (now : ℕ) (at : List ℕ) (what : PartyRequest)
    → stepped o (party_call now party (asked.Party at what)) ≡ after_entry o at (answer_to o party now at what).change
after-party o party now at what = ap (λ (a : Answer Change). applied_if_any o a.change) (by-party o party now at what)

-- parts are equal where what is public and what is near are
part-of : (viewer : Viewer) (one other : OfficeLists) (id : List ℕ) → public_of one id ≡ public_of other id → near_in viewer (meeting_at one id) ≡ near_in viewer (meeting_at other id)
    → part_of viewer one id ≡ part_of viewer other id
part-of viewer one other id public near = λ i. record { public = public i; near = near i }

-- ---- of which nothing is shown

party-unseen : (viewer : Viewer) (o : OfficeLists) (party : List ℕ) (now : ℕ) (request : Request) (id : List ℕ) → is_shown viewer party request ≡ false
    → part_of viewer (stepped o (party_call now party request)) id ≡ part_of viewer o id
party-unseen viewer o party now (asked.Party at what) id h =
    let own = own_of o party at now in
    let entry = (answer_to o party now at what).change in
    let hidden : is_shown viewer own.party (asked.Party at what) ≡ false = ap (λ who. is_shown viewer who (asked.Party at what)) (own-party o party at now) ∙ h in
    let stays : (n : Near) → near_some viewer entry n ≡ n = λ n.
    entry-of (λ entry. near_some viewer entry n ≡ n) (public_of o at) own now what refl (unseen-entry viewer own now at what n hidden) in
    ap (λ after. part_of viewer after id) (after-party o party now at what)
    ∙ part-of viewer (after_entry o at entry) o id (public-entry o at entry id)
    (near-after viewer o at entry id ∙ near_at-stays at id (public_of o id).meeting (near_some viewer entry) (near_in viewer (meeting_at o id)) (stays (near_in viewer (meeting_at o id))))
party-unseen viewer o party now other id h = refl

-- nothing is shown of a call of the office where nothing is shown of its request
indefinite : (viewed : Option ShownRequest) (after : List ℕ → PublicRecord) → option_map (λ t. Office t after) viewed ≡ None → viewed ≡ None
indefinite None after h = refl
indefinite (Some t) after h = absurd (cc)

-- nor of a call of a party where it is not shown
not-whole : (b : Bool) (call : Call) → cond b (Some (Whole call)) None ≡ None → b ≡ false
not-whole true call h = absurd (cc)
not-whole false call h = refl

unseen-by : (viewer : Viewer) (o : OfficeLists) (now : ℕ) (who : Caller) (request : Request)
    → shown_of decided viewer o (record { moment = now; caller = who; request = request }) ≡ None → (id : List ℕ)
    → part_of viewer (stepped o (record { moment = now; caller = who; request = request })) id ≡ part_of viewer o id
unseen-by viewer o now caller.Office request h id =
    let none = indefinite (shown_request viewer now request) (public_of (office_after o now request)) h in
    part-of viewer (office_after o now request) o id (public-office viewer o now request id none)
    (near-office viewer o now request id ∙ ap (λ viewed. near_shown viewed id (public_of o id).meeting (near_in viewer (meeting_at o id))) none)
unseen-by viewer o now (caller.Party party) request h id =
    party-unseen viewer o party now request id (not-whole (is_shown viewer party request) (party_call now party request) h)

-- ---- of which the same is shown

-- what was entered is the same
same-entry : (viewer : Viewer) (one other : OfficeLists) (at : List ℕ) (entry : Option Entry) (id : List ℕ) → part_of viewer one id ≡ part_of viewer other id
    → part_of viewer (after_entry one at entry) id ≡ part_of viewer (after_entry other at entry) id
same-entry viewer one other at entry id same =
    let public : public_of one id ≡ public_of other id = ap (λ (part : Part). part.public) same in
    let near : near_in viewer (meeting_at one id) ≡ near_in viewer (meeting_at other id) = ap (λ (part : Part). part.near) same in
    part-of viewer (after_entry one at entry) (after_entry other at entry) id
    (public-entry one at entry id ∙ public ∙ sym (public-entry other at entry id))
    (near-after viewer one at entry id ∙ (λ i. near_at at id (public i).meeting (near_some viewer entry) (near i)) ∙ sym (near-after viewer other at entry id))

-- the viewer's own call, and what its sources give, is answered alike
same-answer : (viewer : Viewer) (one other : OfficeLists) (party : List ℕ) (now : ℕ) (at : List ℕ) (what : PartyRequest) → AreIndistinguishable viewer one other
    → is_shown viewer party (asked.Party at what) ≡ true → answer_to one party now at what ≡ answer_to other party now at what
same-answer viewer one other party now at what alike =
    (elim (same_name party viewer.party) as (λ b. same_name party viewer.party ≡ b → (b || (is_giving what && is_source viewer party)) ≡ true
    → answer_to one party now at what ≡ answer_to other party now at what) [
      | true ↦ λ same h. subst (λ who. answer_to one who now at what ≡ answer_to other who now at what) (sym (same_name-true party viewer.party same)) (own-answer viewer one other now at what alike)
      | false ↦ λ apart h. (
          let giving : is_giving what ≡ true = first_so (is_giving what) (is_source viewer party) h in
          let source : is_source viewer party ≡ true = second_so (is_giving what) (is_source viewer party) h in
          source-answer viewer one other party now at what alike (or_right (same_name party viewer.party) (is_source viewer party) source) giving)
    ]) refl

party-seen : (viewer : Viewer) (one other : OfficeLists) (party : List ℕ) (now : ℕ) (request : Request) (id : List ℕ) → AreIndistinguishable viewer one other → is_shown viewer party request ≡ true
    → part_of viewer (stepped one (party_call now party request)) id ≡ part_of viewer (stepped other (party_call now party request)) id
party-seen viewer one other party now (asked.Party at what) id alike h =
    ap (λ after. part_of viewer after id) (after-party one party now at what)
    ∙ ap (λ (a : Answer Entry). part_of viewer (after_entry one at a.change) id) (same-answer viewer one other party now at what alike h)
    ∙ same-entry viewer one other at (answer_to other party now at what).change id (alike.parts id)
    ∙ sym (ap (λ after. part_of viewer after id) (after-party other party now at what))
party-seen viewer one other party now request id alike h = alike.parts id

-- what is shown of a call of a party is the call
record IsWhole (b : Bool) (call : Call) (shown : Shown) : Type 0 where
  passes : b ≡ true
  is : Some (Whole call) ≡ Some shown

whole-of : (b : Bool) (call : Call) (shown : Shown) → cond b (Some (Whole call)) None ≡ Some shown → IsWhole b call shown
whole-of true call shown h = record { passes = refl; is = h }
whole-of false call shown h = absurd (cc)

-- what is shown of a call of the office is what is shown of its request, and the public records
record IsViewed (viewed : Option ShownRequest) (after : List ℕ → PublicRecord) (shown : Shown) : Type 0 where
  what : ShownRequest
  viewed_is : viewed ≡ Some what
  is : Some (Office what after) ≡ Some shown

viewed-of : (viewed : Option ShownRequest) (after : List ℕ → PublicRecord) (shown : Shown) → option_map (λ t. Office t after) viewed ≡ Some shown → IsViewed viewed after shown
viewed-of None after shown h = absurd (cc)
viewed-of (Some t) after shown h = record { what = t; viewed_is = refl; is = h }

-- what is shown of a request, the public records, and whether a call is shown
abbrev viewed_in : ShownRequest → Option Shown → ShownRequest
viewed_in viewed (Some (Office found after)) = found
viewed_in viewed other = viewed

abbrev after_in : (List ℕ → PublicRecord) → Option Shown → List ℕ → PublicRecord
after_in after (Some (Office viewed found)) = found
after_in after other = after

abbrev is_whole : Option Shown → Bool
is_whole (Some (Whole call)) = true
is_whole other = false

office-seen : (viewer : Viewer) (one other : OfficeLists) (now : ℕ) (request : Request) (then : ℕ) (again : Request) (shown : Shown) → AreIndistinguishable viewer one other
    → IsViewed (shown_request viewer now request) (public_of (office_after one now request)) shown
    → IsViewed (shown_request viewer then again) (public_of (office_after other then again)) shown
    → (id : List ℕ) → part_of viewer (office_after one now request) id ≡ part_of viewer (office_after other then again) id
office-seen viewer one other now request then again shown alike first second id =
    let same = first.is ∙ sym second.is in
    let what : shown_request viewer now request ≡ shown_request viewer then again = first.viewed_is ∙ ap (λ s. Some (viewed_in first.what s)) same ∙ sym second.viewed_is in
    let after = ap (λ s. after_in (public_of (office_after one now request)) s) same in
    let public : public_of one id ≡ public_of other id = ap (λ (part : Part). part.public) (alike.parts id) in
    let near : near_in viewer (meeting_at one id) ≡ near_in viewer (meeting_at other id) = ap (λ (part : Part). part.near) (alike.parts id) in
    part-of viewer (office_after one now request) (office_after other then again) id (λ i. after i id)
    (near-office viewer one now request id ∙ (λ i. near_shown (what i) id (public i).meeting (near i)) ∙ sym (near-office viewer other then again id))

seen-by : (viewer : Viewer) (one other : OfficeLists) (now : ℕ) (who : Caller) (request : Request) (then : ℕ) (whom : Caller) (again : Request) (shown : Shown) → AreIndistinguishable viewer one other
    → shown_of decided viewer one (record { moment = now; caller = who; request = request }) ≡ Some shown
    → shown_of decided viewer other (record { moment = then; caller = whom; request = again }) ≡ Some shown → (id : List ℕ)
    → part_of viewer (stepped one (record { moment = now; caller = who; request = request })) id ≡ part_of viewer (stepped other (record { moment = then; caller = whom; request = again })) id
seen-by viewer one other now caller.Office request then caller.Office again shown alike h k id =
    office-seen viewer one other now request then again shown alike (viewed-of (shown_request viewer now request) (public_of (office_after one now request)) shown h)
    (viewed-of (shown_request viewer then again) (public_of (office_after other then again)) shown k) id
seen-by viewer one other now caller.Office request then (caller.Party party) again shown alike h k id =
    let first = viewed-of (shown_request viewer now request) (public_of (office_after one now request)) shown h in
    let second = whole-of (is_shown viewer party again) (party_call then party again) shown k in
    let no : true ≡ false = ap is_whole (second.is ∙ sym first.is) in absurd (true≢false no)
seen-by viewer one other now (caller.Party party) request then caller.Office again shown alike h k id =
    let first = whole-of (is_shown viewer party request) (party_call now party request) shown h in
    let second = viewed-of (shown_request viewer then again) (public_of (office_after other then again)) shown k in
    let no : true ≡ false = ap is_whole (first.is ∙ sym second.is) in absurd (true≢false no)
seen-by viewer one other now (caller.Party party) request then (caller.Party again_party) again shown alike h k id =
    let first = whole-of (is_shown viewer party request) (party_call now party request) shown h in
    let second = whole-of (is_shown viewer again_party again) (party_call then again_party again) shown k in
    let same : party_call now party request ≡ party_call then again_party again = ap (call_in (party_call now party request)) (first.is ∙ sym second.is) in
    party-seen viewer one other party now request id alike first.passes ∙ ap (λ call. part_of viewer (stepped other call) id) same

-- ---- the replies to the viewer, and who named it

replied-by : (viewer : Viewer) (one other : OfficeLists) (party : List ℕ) (now : ℕ) (request : Request) → AreIndistinguishable viewer one other → same_name party viewer.party ≡ true
    → (decided one (party_call now party request)).reply ≡ (decided other (party_call now party request)).reply
replied-by viewer one other party now (asked.Party at what) alike same =
    let shown : is_shown viewer party (asked.Party at what) ≡ true = ap (λ b. b || (is_giving what && is_source viewer party)) same in
    ap (λ (a : Answer Change). a.reply) (by-party one party now at what)
    ∙ ap (λ (a : Answer Entry). a.reply) (same-answer viewer one other party now at what alike shown)
    ∙ sym (ap (λ (a : Answer Change). a.reply) (by-party other party now at what))
replied-by viewer one other party now request alike same = refl

replied-to : (viewer : Viewer) (one other : OfficeLists) (now : ℕ) (who : Caller) (request : Request) → AreIndistinguishable viewer one other → is_by viewer.party who ≡ true
    → (decided one (record { moment = now; caller = who; request = request })).reply ≡ (decided other (record { moment = now; caller = who; request = request })).reply
replied-to viewer one other now caller.Office request alike h = absurd (cc)
replied-to viewer one other now (caller.Party party) request alike h = replied-by viewer one other party now request alike h

preserved-by : (viewer : Viewer) (o : OfficeLists) (now : ℕ) (who : Caller) (request : Request) → is_near_by viewer request who ≡ true → IsSourced viewer o
    → IsSourced viewer (stepped o (record { moment = now; caller = who; request = request }))
preserved-by viewer o now caller.Office request h sourced = office-preserved viewer o now request sourced
preserved-by viewer o now (caller.Party party) (asked.Party at what) h sourced =
    let own = own_of o party at now in
    let from_near : implies (names_party viewer.party (asked.Party at what)) (is_near viewer own.party) ≡ true =
    ap (λ who. implies (names_party viewer.party (asked.Party at what)) (is_near viewer who)) (own-party o party at now) ∙ h in
    let good = entry-of (λ entry. is_near_some viewer entry ≡ true) (public_of o at) own now what refl (sourced-what viewer own now at what from_near) in
    subst (IsSourced viewer) (sym (after-party o party now at what)) (sourced-entry viewer o at (answer_to o party now at what).change good sourced)
preserved-by viewer o now (caller.Party party) request h sourced = sourced

pub desk_steps : IsolatesSteps decided
desk_steps = record {
  unseen = λ viewer o call near h id. unseen-by viewer o call.moment call.caller call.request h id;
  seen = λ viewer one other call again shown alike near near_again h k id.
      seen-by viewer one other call.moment call.caller call.request again.moment again.caller again.request shown alike h k id;
  replied = λ viewer one other call alike h. replied-to viewer one other call.moment call.caller call.request alike h;
  preserved = λ viewer o call near sourced. preserved-by viewer o call.moment call.caller call.request near sourced;
}

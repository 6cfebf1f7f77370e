-- Runs are isolated where each step isolates.
use Rattle.std.proofs.Common.{◌≡◌, ℕ, Bool, true, false, ◌&&◌, ◌||◌, cond, List, [], ◌∷◌, ◌++◌, refl, ap, sym, ◌∙◌, true≢false}
use Rattle.std.specs.Prelude.{Option, Some, None, option_map}
use Rattle.std.specs.Cmp.{first_so, second_so}
use Rattle.std.specs.Cmp.Derive.{both_true}
use Rattle.std.specs.List.{list_all, list_any}
use Rattle.std.proofs.lemmas.Bool.{or_right}
use Rattle.std.proofs.lemmas.List.Folds.{list_any-append}
use Rattle.vocabulary.specs.Names.{same_name}
use Rattle.desk_words.proofs.WordRowLemmas.{same_name-refl}
use Rattle.desk_words.specs.Changes.{empty_office}
use Rattle.desk_words.specs.declared.caller.Caller.{Caller}
use Rattle.desk_words.specs.declared.caller.Caller.TheVariants as caller
use Rattle.desk_words.specs.declared.office.OfficeLists.{OfficeLists}
use Rattle.desk_words.specs.declared.reply.Reply.{Reply}
use Rattle.desk_words.specs.declared.request.Call.{Call}
use Rattle.desk_words.specs.declared.request.Request.{Request}
use Rattle.party_views.specs.Public.{PublicRecord}
use Rattle.party_views.specs.Views.{public_of}
use Rattle.meeting_core.specs.Step.{after_reply, decided, stepped}
use Rattle.laws_step.specs.Loads.{Deciding, after_call}
use Rattle.laws_run.specs.Isolation.{AreIndistinguishable, EndIndistinguishable, IsolatesCalls, IsolatesSteps, RunsAreTheDesks, StepsIsolateRuns}
use Rattle.laws_run.specs.NearParts.{Viewer, is_near, is_source}
use Rattle.laws_run.specs.Traces.{Shown, ShownRequest, Whole, Office, with_head, gives, is_by, is_near_by, is_near_call, names_party, replies_to, run_by, shown_by, shown_of, source_by, sources_in, shown_request, trace_of, viewer_of}
use Rattle.laws_run.proofs.RunsListLemmas.{implied}

-- ---- what is shown of the viewer's own calls

-- whether what is shown is a call of the viewer
abbrev shown_is_by : List ℕ → Option Shown → Bool
shown_is_by party None = false
shown_is_by party (Some (Whole call)) = is_by party call.caller
shown_is_by party (Some (Office viewed after)) = false

-- it is exactly where the call is the viewer's
by-shown : (viewer : Viewer) (after : List ℕ → PublicRecord) (call : Call) → is_by viewer.party call.caller ≡ shown_is_by viewer.party (shown_by viewer after call call.caller)
by-shown viewer after call = by call.caller refl
  where
    viewed : (t : Option ShownRequest) → false ≡ shown_is_by viewer.party (option_map (λ t. Office t after) t)
    viewed None = refl
    viewed (Some t) = refl

    by : (who : Caller) → call.caller ≡ who → is_by viewer.party who ≡ shown_is_by viewer.party (shown_by viewer after call who)
    by caller.Office e = viewed (shown_request viewer call.moment call.request)
    by (caller.Party party) e =
        (elim (same_name party viewer.party) as (λ b. same_name party viewer.party ≡ b
        → b ≡ shown_is_by viewer.party (cond (b || (gives call.request && is_source viewer party)) (Some (Whole call)) None)) [
          | true ↦ λ same. sym (ap (is_by viewer.party) e ∙ same)
          | false ↦ λ other. (elim (gives call.request && is_source viewer party) as (λ b. false ≡ shown_is_by viewer.party (cond b (Some (Whole call)) None)) [
            | true ↦ sym (ap (is_by viewer.party) e ∙ other)
            | false ↦ refl
          ])
        ]) refl

-- the call that is shown
abbrev pub call_in : Call → Option Shown → Call
call_in call (Some (Whole found)) = found
call_in call other = call

-- a call of the viewer is shown whole
whole-shown : (viewer : Viewer) (after : List ℕ → PublicRecord) (call : Call) → is_by viewer.party call.caller ≡ true → shown_by viewer after call call.caller ≡ Some (Whole call)
whole-shown viewer after call = by call.caller
  where
    by : (who : Caller) → is_by viewer.party who ≡ true → shown_by viewer after call who ≡ Some (Whole call)
    by caller.Office h = absurd (cc)
    by (caller.Party party) h = ap (λ b. cond (b || (gives call.request && is_source viewer party)) (Some (Whole call)) None) h

-- ---- one reply more

-- the replies to the viewer, where a call was made
more-replies : (party : List ℕ) (call : Call) (calls : List Call) (reply : Reply) (replies : List Reply) (b : Bool) → is_by party call.caller ≡ b
    → replies_to party (call ∷ calls) (reply ∷ replies) ≡ cond b (reply ∷ replies_to party calls replies) (replies_to party calls replies)
more-replies party call calls reply replies b h = ap (λ b. cond b (reply ∷ replies_to party calls replies) (replies_to party calls replies)) h

-- ---- the induction

-- lists in which whoever names or authorises the viewer is near it
abbrev AreNear : Viewer → List Call → Type 0
AreNear viewer calls = list_all (is_near_call viewer) calls ≡ true

head-near : (viewer : Viewer) (call : Call) (calls : List Call) → AreNear viewer (call ∷ calls) → is_near_call viewer call ≡ true
head-near viewer call calls h = first_so (is_near_call viewer call) (list_all (is_near_call viewer) calls) h

tail-near : (viewer : Viewer) (call : Call) (calls : List Call) → AreNear viewer (call ∷ calls) → AreNear viewer calls
tail-near viewer call calls h = second_so (is_near_call viewer call) (list_all (is_near_call viewer) calls) h

-- a call of which nothing is shown, in the first office or in the second
unseen-first : (deciding : Deciding) (viewer : Viewer) (one other : OfficeLists) (call : Call) → IsolatesSteps deciding → AreIndistinguishable viewer one other → is_near_call viewer call ≡ true
    → shown_of deciding viewer one call ≡ None → AreIndistinguishable viewer (after_call deciding one call) other
unseen-first deciding viewer one other call law alike near h = record {
  parts = λ id. law.unseen viewer one call near h id ∙ alike.parts id;
  first = law.preserved viewer one call near alike.first;
  second = alike.second;
}

unseen-second : (deciding : Deciding) (viewer : Viewer) (one other : OfficeLists) (call : Call) → IsolatesSteps deciding → AreIndistinguishable viewer one other → is_near_call viewer call ≡ true
    → shown_of deciding viewer other call ≡ None → AreIndistinguishable viewer one (after_call deciding other call)
unseen-second deciding viewer one other call law alike near h = record {
  parts = λ id. alike.parts id ∙ sym (law.unseen viewer other call near h id);
  first = alike.first;
  second = law.preserved viewer other call near alike.second;
}

seen-both : (deciding : Deciding) (viewer : Viewer) (one other : OfficeLists) (call again : Call) (shown : Shown) → IsolatesSteps deciding → AreIndistinguishable viewer one other
    → is_near_call viewer call ≡ true → is_near_call viewer again ≡ true → shown_of deciding viewer one call ≡ Some shown → shown_of deciding viewer other again ≡ Some shown
    → AreIndistinguishable viewer (after_call deciding one call) (after_call deciding other again)
seen-both deciding viewer one other call again shown law alike near near_again h k = record {
  parts = λ id. law.seen viewer one other call again shown alike near near_again h k id;
  first = law.preserved viewer one call near alike.first;
  second = law.preserved viewer other again near_again alike.second;
}

-- a call of which nothing is shown is not the viewer's
unseen-other : (deciding : Deciding) (viewer : Viewer) (o : OfficeLists) (call : Call) → shown_of deciding viewer o call ≡ None → is_by viewer.party call.caller ≡ false
unseen-other deciding viewer o call h = by-shown viewer (public_of (after_call deciding o call)) call ∙ ap (shown_is_by viewer.party) h

-- one more call on either side of which nothing is shown
more-first : (deciding : Deciding) (viewer : Viewer) (one other : OfficeLists) (call : Call) (calls again : List Call) → shown_of deciding viewer one call ≡ None
    → EndIndistinguishable deciding viewer (after_call deciding one call) other calls again → EndIndistinguishable deciding viewer one other (call ∷ calls) again
more-first deciding viewer one other call calls again h end = record {
  replies = more-replies viewer.party call calls (deciding one call).reply (run_by deciding (after_call deciding one call) calls).replies false (unseen-other deciding viewer one call h)
      ∙ end.replies;
  offices = end.offices;
}

more-second : (deciding : Deciding) (viewer : Viewer) (one other : OfficeLists) (call : Call) (calls again : List Call) → shown_of deciding viewer other call ≡ None
    → EndIndistinguishable deciding viewer one (after_call deciding other call) calls again → EndIndistinguishable deciding viewer one other calls (call ∷ again)
more-second deciding viewer one other call calls again h end = record {
  replies = end.replies
      ∙ sym (more-replies viewer.party call again (deciding other call).reply (run_by deciding (after_call deciding other call) again).replies false (unseen-other deciding viewer other call h));
  offices = end.offices;
}

-- one more call on both sides, of which the same is shown
more-both : (deciding : Deciding) (viewer : Viewer) (one other : OfficeLists) (call again : Call) (calls others : List Call) (shown : Shown) → IsolatesSteps deciding → AreIndistinguishable viewer one other
    → shown_of deciding viewer one call ≡ Some shown → shown_of deciding viewer other again ≡ Some shown
    → EndIndistinguishable deciding viewer (after_call deciding one call) (after_call deciding other again) calls others → EndIndistinguishable deciding viewer one other (call ∷ calls) (again ∷ others)
more-both deciding viewer one other call again calls others shown law alike h k end = record {
  replies = both (is_by viewer.party call.caller) refl;
  offices = end.offices;
}
  where
    by_again : is_by viewer.party again.caller ≡ is_by viewer.party call.caller
    by_again =
        by-shown viewer (public_of (after_call deciding other again)) again ∙ ap (shown_is_by viewer.party) (k ∙ sym h)
        ∙ sym (by-shown viewer (public_of (after_call deciding one call)) call)

    same_call : is_by viewer.party call.caller ≡ true → again ≡ call
    same_call own =
        ap (call_in call)
        (sym (whole-shown viewer (public_of (after_call deciding other again)) again (by_again ∙ own)) ∙ k ∙ sym h
        ∙ whole-shown viewer (public_of (after_call deciding one call)) call own)

    both : (b : Bool) → is_by viewer.party call.caller ≡ b
        → replies_to viewer.party (call ∷ calls) (run_by deciding one (call ∷ calls)).replies ≡ replies_to viewer.party (again ∷ others) (run_by deciding other (again ∷ others)).replies
    both true own =
        let reply : (deciding one call).reply ≡ (deciding other again).reply =
        law.replied viewer one other call alike own ∙ ap (λ (c : Call). (deciding other c).reply) (sym (same_call own)) in
        more-replies viewer.party call calls (deciding one call).reply (run_by deciding (after_call deciding one call) calls).replies true own
        ∙ (λ i. reply i ∷ end.replies i)
        ∙ sym (more-replies viewer.party again others (deciding other again).reply (run_by deciding (after_call deciding other again) others).replies true (by_again ∙ own))
    both false not_own =
        more-replies viewer.party call calls (deciding one call).reply (run_by deciding (after_call deciding one call) calls).replies false not_own
        ∙ end.replies
        ∙ sym (more-replies viewer.party again others (deciding other again).reply (run_by deciding (after_call deciding other again) others).replies false (by_again ∙ not_own))

-- the head of a trace, its tail, and whether it has none
abbrev head_in : Shown → List Shown → Shown
head_in shown [] = shown
head_in shown (x ∷ xs) = x

abbrev tail_in : List Shown → List Shown
tail_in [] = []
tail_in (x ∷ xs) = xs

abbrev is_empty : List Shown → Bool
is_empty [] = true
is_empty (x ∷ xs) = false

-- the calls of the second list, where the first is at its end
no-more : (deciding : Deciding) (viewer : Viewer) → IsolatesSteps deciding → (again : List Call) (one other : OfficeLists) → AreIndistinguishable viewer one other → AreNear viewer again
    → [] ≡ trace_of deciding viewer other again → EndIndistinguishable deciding viewer one other [] again
no-more deciding viewer law [] one other alike near same = record { replies = refl; offices = alike }
no-more deciding viewer law (call ∷ again) one other alike near same =
    (elim (shown_of deciding viewer other call) as (λ shown. shown_of deciding viewer other call ≡ shown
    → [] ≡ with_head shown (trace_of deciding viewer (after_call deciding other call) again) → EndIndistinguishable deciding viewer one other [] (call ∷ again)) [
      | None ↦ λ h same. more-second deciding viewer one other call [] again h
          (no-more deciding viewer law again one (after_call deciding other call) (unseen-second deciding viewer one other call law alike (head-near viewer call again near) h)
          (tail-near viewer call again near) same)
      | Some shown ↦ λ h same. (let no : true ≡ false = ap is_empty same in absurd (true≢false no))
    ]) refl same

-- what is to be shown of the calls of a first list, whatever the second list and the offices are
abbrev Follows : Deciding → Viewer → List Call → Type 0
Follows deciding viewer calls =
    (again : List Call) (one other : OfficeLists) → AreIndistinguishable viewer one other → AreNear viewer calls → AreNear viewer again
    → trace_of deciding viewer one calls ≡ trace_of deciding viewer other again → EndIndistinguishable deciding viewer one other calls again

-- the calls of the second list, where something is shown of the next of the first
shown-next : (deciding : Deciding) (viewer : Viewer) → IsolatesSteps deciding → (call : Call) (calls : List Call) → Follows deciding viewer calls → (shown : Shown)
    → (again : List Call) (one other : OfficeLists) → AreIndistinguishable viewer one other → AreNear viewer (call ∷ calls) → AreNear viewer again → shown_of deciding viewer one call ≡ Some shown
    → shown ∷ trace_of deciding viewer (after_call deciding one call) calls ≡ trace_of deciding viewer other again → EndIndistinguishable deciding viewer one other (call ∷ calls) again
shown-next deciding viewer law call calls follows shown [] one other alike near near_again h same =
    let no : false ≡ true = ap is_empty same in absurd (true≢false (sym no))
shown-next deciding viewer law call calls follows shown (next ∷ again) one other alike near near_again h same =
    (elim (shown_of deciding viewer other next) as (λ found. shown_of deciding viewer other next ≡ found
    → shown ∷ trace_of deciding viewer (after_call deciding one call) calls ≡ with_head found (trace_of deciding viewer (after_call deciding other next) again)
    → EndIndistinguishable deciding viewer one other (call ∷ calls) (next ∷ again)) [
      | None ↦ λ k same. more-second deciding viewer one other next (call ∷ calls) again k
          (shown-next deciding viewer law call calls follows shown again one (after_call deciding other next)
          (unseen-second deciding viewer one other next law alike (head-near viewer next again near_again) k) near (tail-near viewer next again near_again) h same)
      | Some found ↦ λ k same. (
          let head : found ≡ shown = sym (ap (head_in shown) same) in
          let k' : shown_of deciding viewer other next ≡ Some shown = k ∙ ap (λ (s : Shown). Some s) head in
          let tails : trace_of deciding viewer (after_call deciding one call) calls ≡ trace_of deciding viewer (after_call deciding other next) again = ap tail_in same in
          more-both deciding viewer one other call next calls again shown law alike h k'
          (follows again (after_call deciding one call) (after_call deciding other next)
          (seen-both deciding viewer one other call next shown law alike (head-near viewer call calls near) (head-near viewer next again near_again) h k')
          (tail-near viewer call calls near) (tail-near viewer next again near_again) tails))
    ]) refl same

follow : (deciding : Deciding) (viewer : Viewer) → IsolatesSteps deciding → (calls : List Call) → Follows deciding viewer calls
follow deciding viewer law [] = λ again one other alike near near_again same. no-more deciding viewer law again one other alike near_again same
follow deciding viewer law (call ∷ calls) = λ again one other alike near near_again same.
    (elim (shown_of deciding viewer one call) as (λ shown. shown_of deciding viewer one call ≡ shown
    → with_head shown (trace_of deciding viewer (after_call deciding one call) calls) ≡ trace_of deciding viewer other again → EndIndistinguishable deciding viewer one other (call ∷ calls) again) [
      | None ↦ λ h same. more-first deciding viewer one other call calls again h
          (follow deciding viewer law calls again (after_call deciding one call) other (unseen-first deciding viewer one other call law alike (head-near viewer call calls near) h)
          (tail-near viewer call calls near) near_again same)
      | Some shown ↦ λ h same. shown-next deciding viewer law call calls (follow deciding viewer law calls) shown again one other alike near near_again h same
    ]) refl same

pub runs_isolated : StepsIsolateRuns
runs_isolated deciding law viewer one other calls again alike near near_again same = follow deciding viewer law calls again one other alike near near_again same

-- ---- from the office that holds nothing

-- any office is one with itself that holds nothing
alike-empty : (viewer : Viewer) → AreIndistinguishable viewer empty_office empty_office
alike-empty viewer = record { parts = λ id. refl; first = λ id. refl; second = λ id. refl }

-- a source of two lists is one of the first, or of the second
any-sources : (party who : List ℕ) (calls again : List Call)
    → list_any (same_name who) (sources_in party (calls ++ again)) ≡ (list_any (same_name who) (sources_in party calls) || list_any (same_name who) (sources_in party again))
any-sources party who [] again = refl
any-sources party who (call ∷ calls) again =
    let here = source_by party call.request call.caller in
    list_any-append (same_name who) here (sources_in party (calls ++ again))
    ∙ ap (λ b. list_any (same_name who) here || b) (any-sources party who calls again)
    ∙ or-joined (list_any (same_name who) here) (list_any (same_name who) (sources_in party calls)) (list_any (same_name who) (sources_in party again))
    ∙ sym (ap (λ b. b || list_any (same_name who) (sources_in party again)) (list_any-append (same_name who) here (sources_in party calls)))
  where
    or-joined : (a b c : Bool) → (a || (b || c)) ≡ ((a || b) || c)
    or-joined true b c = refl
    or-joined false b c = refl

-- whoever names or authorises the viewer is among its sources
source-near : (party : List ℕ) (sources : List (List ℕ)) (request : Request) (who : Caller)
    → ((name : List ℕ) → list_any (same_name name) (source_by party request who) ≡ true → list_any (same_name name) sources ≡ true)
    → is_near_by (record { party = party; sources = sources }) request who ≡ true
source-near party sources request caller.Office within = refl
source-near party sources request (caller.Party other) within =
    implied (names_party party request) (is_near (record { party = party; sources = sources }) other) (λ named.
    or_right (same_name other party) (list_any (same_name other) sources)
    (within other (ap (λ b. list_any (same_name other) (cond b (other ∷ []) [])) named ∙ ap (λ b. b || false) (same_name-refl other))))

sources-near : (party : List ℕ) (sources : List (List ℕ)) (calls : List Call)
    → ((name : List ℕ) → list_any (same_name name) (sources_in party calls) ≡ true → list_any (same_name name) sources ≡ true)
    → AreNear (record { party = party; sources = sources }) calls
sources-near party sources [] within = refl
sources-near party sources (call ∷ calls) within =
    let here = source_by party call.request call.caller in
    let all = λ (name : List ℕ). list_any-append (same_name name) here (sources_in party calls) in
    both_true
    (source-near party sources call.request call.caller (λ name h.
    within name (all name ∙ ap (λ b. b || list_any (same_name name) (sources_in party calls)) h)))
    (sources-near party sources calls (λ name h.
    within name (all name ∙ or_right (list_any (same_name name) here) (list_any (same_name name) (sources_in party calls)) h)))

pub calls_isolated : (deciding : Deciding) → IsolatesSteps deciding → IsolatesCalls deciding
calls_isolated deciding law party calls again same =
    let viewer = viewer_of party calls again in
    let near : AreNear viewer calls = sources-near party (sources_in party (calls ++ again)) calls (λ name h.
    any-sources party name calls again ∙ ap (λ b. b || list_any (same_name name) (sources_in party again)) h) in
    let near_again : AreNear viewer again = sources-near party (sources_in party (calls ++ again)) again (λ name h.
    any-sources party name calls again ∙ or_right (list_any (same_name name) (sources_in party calls)) (list_any (same_name name) (sources_in party again)) h) in
    (runs_isolated deciding law viewer empty_office empty_office calls again (alike-empty viewer) near near_again same).replies

pub runs_are_the_desks : RunsAreTheDesks
runs_are_the_desks o [] = refl
runs_are_the_desks o (call ∷ calls) = ap (after_reply (decided o call).reply) (runs_are_the_desks (stepped o call) calls)

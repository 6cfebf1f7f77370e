use Rattle.std.proofs.Common.{◌≡◌, Err, Some, IsTrue, sym, ap, subst, ◌∙◌, rules}
use Rattle.std.specs.Prelude.{Option, option_map}
use Rattle.desk_words.specs.Changes.{applied_if_any}
use Rattle.desk_words.specs.Office.{is_office}
use Rattle.desk_words.specs.declared.change.Change.{Change}
use Rattle.desk_words.specs.declared.office.MeetingLists.{MeetingLists}
use Rattle.party_views.specs.Views.{meeting_at}
use Rattle.office_decisions.specs.ListsRead.{lists_read}
use Rattle.meeting_core.specs.Decisions.{AreListsRead, office_call}
use Rattle.meeting_core.proofs.ReadPreserved.{both_ok}
use Rattle.sql_load.proofs.StoredOfficeLemmas.{holds_after, holds_both, holds_stop}
use Rattle.desk_deciding.specs.Deciding.{IsDecided}
use Rattle.desk_deciding.proofs.DecidingLemmas.{meeting_found, returned_made}
use Rattle.desk_deciding.proofs.ReturnedLemmas.{mapped_ok, returned_office}
use Rattle.desk_deciding.proofs.deciding.decide_for_office.Goals as goal

pub returns-in_err-found-clause-holds : goal.returns-in_err-found-clause-holds
returns-in_err-found-clause-holds g c =
    let call = office_call c.args.meeting c.args.now c.args.asked.now in
    let is : c.from_residual.result ≡ Err c.in_err-found.field-0.0 = search rules in
    returned_office g.S.Store _ _ _ (IsDecided call) (holds_stop g.S.Store _ _ _ (IsDecided call) c.in_err-found.field-0.0 c.from_residual.result is c.in_err-found.ensures.holds)

-- what is read first refuses it
pub returns-in-Err-clause-holds : goal.returns-in-Err-clause-holds
returns-in-Err-clause-holds g c =
    let call = office_call c.args.meeting c.args.now c.args.asked.now in
    returned_made g.S.Store _ _ c.in_ok-found.found _ _ (IsDecided call) c.in_ok-found.ensures.holds
    (λ office preserved p. record {
      is = c.in-Err.ensures.decided office c.args.meeting p;
      preserved = subst (λ (change : Option Change). IsTrue (is_office (applied_if_any office change))) (sym c.in-Err.ensures.unchanged) preserved;
    })

pub returns-in_err-read-clause-holds : goal.returns-in_err-read-clause-holds
returns-in_err-read-clause-holds g c =
    let call = office_call c.args.meeting c.args.now c.args.asked.now in
    let is : c.from_residual-in_err-read.result ≡ Err c.in_err-read.field-0.0 = search rules in
    returned_office g.S.Store _ _ _ (IsDecided call)
    (holds_after g.S.Store _ _ _ c.in_ok-found.found _ _ (IsDecided call) c.in_ok-found.ensures.holds
    (holds_stop g.S.Store _ _ _ (IsDecided call) c.in_err-read.field-0.0 c.from_residual-in_err-read.result is c.in_err-read.ensures.holds))

pub returns-clause-holds : goal.returns-clause-holds
returns-clause-holds g c =
    let call = office_call c.args.meeting c.args.now c.args.asked.now in
    let rest = c.in_ok-read.read in
    let both = holds_both g.S.Store _ _ _ c.in_ok-found.found rest _ _ c.in_ok-found.ensures.holds c.in_ok-read.ensures.holds in
    returned_made g.S.Store _ _ rest c.map_err.result _ (IsDecided call) both
    (λ office preserved p.
    let there = meeting_found c.args.asked.now (meeting_at office c.args.meeting) c.in_ok-found.found c.in-Ok.lists c.in-Ok.ensures.found p.0 in
    let reads = p.1 there.0 there.1 there.2 in
    let read : AreListsRead office c.args.meeting c.args.asked.now rest.closed (Some rest.lists) = record {
      closed = reads.closed;
      lists = ap (λ (m : MeetingLists). Some m) reads.lists ∙ ap (option_map (lists_read c.args.asked.now)) (sym there.1);
    } in
    mapped_ok _ (IsDecided call office) c.decide_in_meeting.result c.map_err.result c.map_err.ensures.cases
    (both_ok c.decide_in_meeting.result _ _ (IsDecided call office) (λ a is leaves. record { is = is office preserved read; preserved = leaves office preserved read }) c.decide_in_meeting.ensures.decided c.decide_in_meeting.ensures.valid))

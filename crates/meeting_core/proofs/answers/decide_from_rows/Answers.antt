use Rattle.std.proofs.Common.{◌≡◌, sym, ap, ◌∙◌}
use Rattle.desk_words.specs.Changes.{applied_if_any}
use Rattle.desk_words.specs.Office.{is_office}
use Rattle.desk_words.specs.Rulings.{ruled_answer, map_change}
use Rattle.desk_words.specs.ViewTypes.{Party}
use Rattle.desk_words.specs.declared.answer.Answer.{Answer}
use Rattle.desk_words.specs.declared.caller.Caller.TheVariants as caller
use Rattle.desk_words.specs.declared.change.Change.{Change}
use Rattle.desk_words.specs.declared.change.Change.TheVariants.{InMeeting}
use Rattle.desk_words.specs.declared.change.Entry.{Entry}
use Rattle.desk_words.specs.declared.change.MeetingChange.TheVariants.{Enter}
use Rattle.desk_words.specs.declared.office.OfficeLists.{OfficeLists}
use Rattle.desk_words.specs.declared.request.Request.TheVariants as asked
use Rattle.caller_view.specs.PartyRulings.{party_ruling}
use Rattle.party_views.specs.OwnViews.{own_from}
use Rattle.party_views.specs.Public.{PublicRecord}
use Rattle.party_views.specs.PartyRows.{own_rows_in}
use Rattle.party_views.specs.Views.{meeting_at, own_of, public_of}
use Rattle.office_decisions.specs.RequestLimits.{if_any, keeps_limits}
use Rattle.meeting_core.specs.Decisions.{AreRead, party_call}
use Rattle.meeting_core.specs.Step.{decided}
use Rattle.meeting_core.proofs.CoreEntryLemmas.{entry_in_limits}
use Rattle.meeting_core.proofs.OfficePreserved.{step_preserved}
use Rattle.meeting_core.proofs.RulingLemmas.{settled_within}
use Rattle.meeting_core.proofs.answers.decide_from_rows.Goals as goal

-- the answer from what is read is what is decided in each office of which it is read
is_decided : (c : goal.After-entering) (office : OfficeLists) (party : Party)
    → AreRead office party c.args.meeting c.args.asked.now c.args.public.now c.args.rows
    → c.entering.result ≡ decided office (party_call party c.args.meeting c.args.now c.args.asked.now)
is_decided c office party read =
    let meeting = c.args.meeting in
    let now = c.args.now in
    let what = c.args.asked.now in
    let public = c.args.public.now in
    let all = own_rows_in (meeting_at office meeting) party in
    let entered = λ (entry : Entry). InMeeting meeting (Enter entry) in
    let ruled = party_ruling (public_of office meeting) (own_of office party meeting now) now what in
    c.entering.ensures
    ∙ ap (map_change entered)
    (c.in_ok-answer.ensures all read.own
    ∙ ap (λ (seen : PublicRecord). ruled_answer (party_ruling seen (own_from all seen now) now what)) read.public)
    ∙ sym (settled_within entered ruled)

pub returns-clause-decided : goal.returns-clause-decided
returns-clause-decided c = is_decided c

pub returns-clause-valid : goal.returns-clause-valid
returns-clause-valid c = λ office party read preserved.
    let meeting = c.args.meeting in
    let now = c.args.now in
    let decision = is_decided c office party read in
    let entered = λ (entry : Entry). InMeeting meeting (Enter entry) in
    let ruled = party_ruling (public_of office meeting) (own_of office party meeting now) now c.args.asked.now in
    let limits = ap (λ (a : Answer Change). if_any keeps_limits a.change) (settled_within entered ruled) ∙ entry_in_limits meeting (ruled_answer ruled).change in
    ap (λ (a : Answer Change). is_office (applied_if_any office a.change)) decision ∙ step_preserved office now (caller.Party party) (asked.Party meeting c.args.asked.now) preserved limits

use Rattle.std.proofs.Common.{◌≡◌, true, [], ap, sym, ◌∙◌}
use Rattle.std.proofs.lemmas.Result.{IfOk-weaker}
use Rattle.desk_words.specs.Finding.{poll_on}
use Rattle.desk_words.specs.Office.{are_numbered_after, are_rows, is_tally}
use Rattle.desk_words.specs.declared.records.Tally.{Tally}
use Rattle.desk_words.specs.Sessions.{last_number}
use Rattle.proxy_rules.specs.Cutoffs.{cutoffs_of}
use Rattle.proxy_rules.specs.Holdings.{are_tags}
use Rattle.proxy_rules.specs.Uses.{vote_on}
use Rattle.vote_rules.specs.Tallies.{tally_of, vote_at}
use Rattle.vote_rules.proofs.VoteCountLemmas.{is_tally-tally_by}
use Rattle.office_decisions.specs.PollRulings.{tally_in}
use Rattle.desk_words.proofs.OfficeFacts.{meeting_numbered}
use Rattle.office_decisions.proofs.MeetingRules.{meeting_rows, meeting_tags}
use Rattle.office_decisions.proofs.polls.tally_in.Goals as goal

pub tally-requires-clause-rows : goal.tally-requires-clause-rows
tally-requires-clause-rows c = ap are_rows c.papers_of.ensures.register ∙ meeting_rows c.args.lists.now c.requires.meeting

pub tally-requires-clause-tags : goal.tally-requires-clause-tags
tally-requires-clause-tags c = ap are_tags c.papers_of.ensures.appointments ∙ meeting_tags c.args.lists.now c.requires.meeting

pub tally-requires-clause-numbered : goal.tally-requires-clause-numbered
tally-requires-clause-numbered c = ap (are_numbered_after []) c.papers_of.ensures.appointments ∙ meeting_numbered c.args.lists.now c.requires.meeting

-- the papers are the meeting's own lists
pub returns-clause-value : goal.returns-clause-value
returns-clause-value c =
    let papers = c.papers_of.result in
    let is = c.papers_of.ensures in
    let m = c.args.lists.now in
    let number = c.args.number in
    let read = tally_of c.cutoffs-cutoffs.result papers.register.now papers.appointments.now papers.endings.now papers.authorities.now papers.casts.now number in
    let due = tally_in m c.args.closed.now c.args.now number in
    let cutoffs = c.cutoffs-cutoffs.ensures ∙ ap (λ poll. cutoffs_of m.meeting (vote_on (last_number m.meeting) poll) c.args.closed.now c.args.now) (sym c.requires.poll) in
    let same : read ≡ due = λ i. tally_of (cutoffs i) (is.register i) (is.appointments i) (is.endings i) (is.authorities i) (is.casts i) number in
    IfOk-weaker c.tally.result (λ (t : Tally). t ≡ read) (λ (t : Tally). t ≡ due) (λ t e. e ∙ same) c.tally.ensures

-- a count is that of some shares
pub returns-clause-limits : goal.returns-clause-limits
returns-clause-limits c =
    let papers = c.papers_of.result in
    let is = c.papers_of.ensures in
    let m = c.args.lists.now in
    let number = c.args.number in
    let read = tally_of c.cutoffs-cutoffs.result papers.register.now papers.appointments.now papers.endings.now papers.authorities.now papers.casts.now number in
    let due = tally_in m c.args.closed.now c.args.now number in
    let cutoffs = c.cutoffs-cutoffs.ensures ∙ ap (λ poll. cutoffs_of m.meeting (vote_on (last_number m.meeting) poll) c.args.closed.now c.args.now) (sym c.requires.poll) in
    let same : read ≡ due = λ i. tally_of (cutoffs i) (is.register i) (is.appointments i) (is.endings i) (is.authorities i) (is.casts i) number in
    let right = is_tally-tally_by (vote_at (cutoffs_of m.meeting (vote_on (last_number m.meeting) (poll_on m.polls number)) c.args.closed.now c.args.now) m.appointments m.endings m.authorities m.casts number) m.register (meeting_rows m c.requires.meeting) in
    IfOk-weaker c.tally.result (λ (t : Tally). t ≡ read) (λ (t : Tally). is_tally t ≡ true) (λ t e. ap is_tally (e ∙ same) ∙ right) c.tally.ensures

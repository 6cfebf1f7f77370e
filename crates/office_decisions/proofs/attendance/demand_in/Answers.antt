use Rattle.std.proofs.Common.{◌≡◌, [], ap, ◌∙◌}
use Rattle.std.proofs.lemmas.Result.{IfOk-weaker}
use Rattle.desk_words.specs.Office.{are_numbered_after, are_rows}
use Rattle.proxy_rules.specs.Cutoffs.{cutoffs_of}
use Rattle.proxy_rules.specs.Holdings.{are_tags}
use Rattle.proxy_rules.specs.Uses.{Acts}
use Rattle.poll_rules.specs.Demands.{demand_of}
use Rattle.poll_rules.specs.declared.demand.Demand.{Demand}
use Rattle.office_decisions.specs.PresenceRulings.{demand_noted}
use Rattle.desk_words.proofs.OfficeFacts.{meeting_numbered}
use Rattle.office_decisions.proofs.MeetingRules.{meeting_rows, meeting_tags}
use Rattle.office_decisions.proofs.attendance.demand_in.Goals as goal

pub demand_reached-requires-clause-rows : goal.demand_reached-requires-clause-rows
demand_reached-requires-clause-rows c = ap are_rows c.papers_of.ensures.register ∙ meeting_rows c.args.lists.now c.requires

pub demand_reached-requires-clause-tags : goal.demand_reached-requires-clause-tags
demand_reached-requires-clause-tags c = ap are_tags c.papers_of.ensures.appointments ∙ meeting_tags c.args.lists.now c.requires

pub demand_reached-requires-clause-numbered : goal.demand_reached-requires-clause-numbered
demand_reached-requires-clause-numbered c = ap (are_numbered_after []) c.papers_of.ensures.appointments ∙ meeting_numbered c.args.lists.now c.requires

-- the papers are the meeting's own lists
pub returns : goal.returns
returns c =
    let papers = c.papers_of.result in
    let is = c.papers_of.ensures in
    let number = c.args.resolution in
    let read = demand_of c.cutoffs-cutoffs.result papers.register.now papers.appointments.now papers.endings.now papers.authorities.now papers.demands.now c.last_number-last.result number in
    let due = demand_noted c.args.lists.now c.args.closed.now c.args.now number in
    let last = c.last_number-last.ensures in
    let cutoffs = c.cutoffs-cutoffs.ensures ∙ ap (λ session. cutoffs_of c.args.lists.now.meeting (Acts session) c.args.closed.now c.args.now) last in
    let same : read ≡ due = λ i. demand_of (cutoffs i) (is.register i) (is.appointments i) (is.endings i) (is.authorities i) (is.demands i) (last i) number in
    IfOk-weaker c.demand_reached.result (λ (demand : Demand). demand ≡ read) (λ (demand : Demand). demand ≡ due) (λ demand e. e ∙ same) c.demand_reached.ensures

use Rattle.std.proofs.Common.{[], ap, ◌∙◌}
use Rattle.seq.specs.Ordered.{differ_by}
use Rattle.desk_words.specs.Office.{are_numbered_after, same_presence, are_rows}
use Rattle.proxy_rules.specs.Holdings.{are_tags}
use Rattle.desk_words.proofs.OfficeFacts.{meeting_facts, meeting_numbered}
use Rattle.office_decisions.proofs.MeetingRules.{meeting_rows, meeting_tags, present_once}
use Rattle.office_decisions.proofs.attendance.quorum_in.Goals as goal

pub quorum-requires-clause-rows : goal.quorum-requires-clause-rows
quorum-requires-clause-rows c = ap are_rows c.papers_of.ensures.register ∙ meeting_rows c.args.lists.now c.requires

pub quorum-requires-clause-tags : goal.quorum-requires-clause-tags
quorum-requires-clause-tags c = ap are_tags c.papers_of.ensures.appointments ∙ meeting_tags c.args.lists.now c.requires

pub quorum-requires-clause-numbered : goal.quorum-requires-clause-numbered
quorum-requires-clause-numbered c = ap (are_numbered_after []) c.papers_of.ensures.appointments ∙ meeting_numbered c.args.lists.now c.requires

pub quorum-requires-clause-present_once : goal.quorum-requires-clause-present_once
quorum-requires-clause-present_once c = ap (differ_by same_presence) c.papers_of.ensures.presences ∙ present_once c.args.lists.now.meeting c.args.lists.now.presences (meeting_facts c.args.lists.now c.requires).presences

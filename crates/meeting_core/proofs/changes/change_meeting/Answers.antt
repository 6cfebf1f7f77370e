use Rattle.std.proofs.Common.{sym, ◌∙◌, ap, slice_set}
use Rattle.std.proofs.lemmas.Result.{on_ok_weaker}
use Rattle.desk_words.specs.Names.{same_name}
use Rattle.seq.proofs.ChangeFirst.{change_first-some, change_first-none}
use Rattle.desk_words.specs.Changes.{changed}
use Rattle.meeting_core.proofs.changes.change_meeting.Goals as goal

pub returns-in-Some-clause-ok : goal.returns-in-Some-clause-ok
returns-in-Some-clause-ok c =
    let meetings = c.args.meetings.now in
    let done = change_first-some (λ m. same_name m.meeting.id c.args.meeting) _ (changed c.args.change) meetings c.in-Some.i (sym c.place_of_meeting.ensures.first ∙ c.in-Some.is) in
    on_ok_weaker c.change_lists.result (λ ok. ap (slice_set meetings c.in-Some.i) ok ∙ sym done) c.change_lists.ensures.ok

pub returns-in-None-clause-ok : goal.returns-in-None-clause-ok
returns-in-None-clause-ok c =
    sym (change_first-none (λ m. same_name m.meeting.id c.args.meeting) (changed c.args.change) 0 c.args.meetings.now (sym c.place_of_meeting.ensures.first ∙ c.in-None.is))

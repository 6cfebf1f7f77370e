use Rattle.std.proofs.Common.{◌∙◌}
use Rattle.desk_words.specs.declared.request.PartyRequest.TheVariants.{Notice}
use Rattle.meeting_core.specs.Decisions.{AreRead}
use Rattle.meeting_core.proofs.ReadPreserved.{both_ok}
use Rattle.party_views.specs.Views.{meeting_at}
use Rattle.desk_deciding.proofs.DecidingLemmas.{notice_rows}
use Rattle.desk_deciding.proofs.deciding.answer_notice.Goals as goal

pub returns : goal.returns
returns c =
    both_ok c.decide_from_rows.result _ _ _
    (λ a is leaves office cached preserved.
    let read : AreRead office c.args.party c.args.meeting Notice c.record.result c.no_own_rows-rows.result =
    record { public = c.record.ensures ∙ cached; own = c.no_own_rows-rows.ensures ∙ notice_rows (meeting_at office c.args.meeting) c.args.party } in
    record { is = is office c.args.party read; preserved = leaves office c.args.party read preserved }) c.decide_from_rows.ensures.decided c.decide_from_rows.ensures.valid

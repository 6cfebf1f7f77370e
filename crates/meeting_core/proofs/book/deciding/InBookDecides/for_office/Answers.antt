use Rattle.std.proofs.Common.{rules, sym, ◌∙◌}
use Rattle.std.proofs.lemmas.Result.{IfOk-weaker}
use Rattle.desk_words.specs.declared.change.Change.TheVariants.{InMeeting}
use Rattle.party_views.specs.Views.{meeting_at}
use Rattle.office_decisions.specs.OfficeRulings.{office_ruling}
use Rattle.meeting_core.proofs.RulingLemmas.{settled_within}
use Rattle.meeting_core.proofs.book.deciding.InBookDecides.for_office.Goals as goal

pub returns : goal.returns
returns c =
    let o = c.args.self.now.book.now in
    let ruled = office_ruling o.closed (meeting_at o c.args.meeting) c.args.now c.args.asked.now in
    record {
      answer = IfOk-weaker c.answer_to_office.result _ _ (λ a is. is ∙ sym (settled_within (InMeeting c.args.meeting) ruled)) c.answer_to_office.ensures.answer;
      limits = c.answer_to_office.ensures.limits;
      sure = λ h. search rules;
      refusals = λ h. search rules;
    }

use Rattle.std.proofs.Common.{sym, ap, ◌∙◌}
use Rattle.std.proofs.lemmas.Result.{IfOk-weaker}
use Rattle.desk_words.specs.declared.answer.Answer.{Answer}
use Rattle.desk_words.specs.declared.change.Change.{Change}
use Rattle.desk_words.specs.Rulings.{ruled_answer}
use Rattle.desk_words.specs.declared.change.Change.TheVariants.{InMeeting}
use Rattle.desk_words.specs.declared.change.Entry.{Entry}
use Rattle.desk_words.specs.declared.change.MeetingChange.TheVariants.{Enter}
use Rattle.caller_view.specs.PartyRulings.{party_ruling}
use Rattle.party_views.specs.Views.{own_of, public_of}
use Rattle.office_decisions.specs.RequestLimits.{if_any, keeps_limits}
use Rattle.meeting_core.proofs.CoreEntryLemmas.{entry_in_limits}
use Rattle.meeting_core.proofs.RulingLemmas.{settled_within}
use Rattle.meeting_core.proofs.book.deciding.InBookDecides.for_party.Goals as goal

pub returns : goal.returns
returns c =
    let o = c.args.self.now.book.now in
    let ruled = party_ruling (public_of o c.args.meeting) (own_of o c.args.party c.args.meeting c.args.now) c.args.now c.args.asked.now in
    let entered = λ (entry : Entry). InMeeting c.args.meeting (Enter entry) in
    record {
      answer = IfOk-weaker c.entry_for.result _ _ (λ a is. is ∙ sym (settled_within entered ruled)) c.entry_for.ensures;
      limits = IfOk-weaker c.entry_for.result _ _ (λ a is. ap (λ (answer : Answer Change). if_any keeps_limits answer.change) is ∙ entry_in_limits c.args.meeting (ruled_answer ruled).change) c.entry_for.ensures;
      sure = λ h. absurd cc;
      refusals = λ h. absurd cc;
    }

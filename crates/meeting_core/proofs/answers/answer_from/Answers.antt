use Rattle.std.proofs.Common.{ap, ◌∙◌}
use Rattle.std.proofs.lemmas.Result.{IfOk-weaker}
use Rattle.desk_words.specs.Rulings.{ruled_answer}
use Rattle.caller_view.specs.PartyRulings.{party_ruling}
use Rattle.party_views.specs.OwnViews.{own_from}
use Rattle.party_views.specs.declared.views.OwnView.{OwnView}
use Rattle.caller_view.proofs.PartyReadLemmas.{ruling-own_read}
use Rattle.meeting_core.proofs.answers.answer_from.Goals as goal

pub returns : goal.returns
returns c =
    let public = c.args.public.now in
    let now = c.args.now in
    let what = c.args.asked.now in
    IfOk-weaker c.answer.result _ _ (λ a is all read.
    is
    ∙ ap (λ (own : OwnView). ruled_answer (party_ruling public own now what)) (c.in_ok-own.ensures all read)
    ∙ ap ruled_answer (ruling-own_read public (own_from all public now) now what)) c.answer.ensures.answer

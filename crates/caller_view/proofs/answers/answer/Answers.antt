use Rattle.std.proofs.Common.{◌≡◌, ap, sym, ◌∙◌}
use Rattle.std.proofs.lemmas.Result.{IfOk-weaker}
use Rattle.desk_words.specs.Rulings.{ruled_answer}
use Rattle.desk_words.specs.declared.answer.Answer.{Answer}
use Rattle.desk_words.specs.declared.change.Entry.{Entry}
use Rattle.desk_words.specs.declared.request.PartyRequest.{PartyRequest}
use Rattle.desk_words.specs.declared.request.PartyRequest.TheVariants as request
use Rattle.party_views.specs.declared.views.OwnView.{OwnView}
use Rattle.caller_view.specs.PartyRulings.{party_ruling}
use Rattle.caller_view.proofs.answers.answer.Goals as goal

-- a notice is the same whatever the party's own things are
pub returns-in-Notice-clause-answer : goal.returns-in-Notice-clause-answer
returns-in-Notice-clause-answer c =
    let public = c.args.public.now in
    let own = c.args.own in
    let now = c.args.now in
    let asked = ap (λ (asked : PartyRequest). ruled_answer (party_ruling public own now asked)) (sym c.in-Notice.is) in
    IfOk-weaker c.answer_notice.result (λ (a : Answer Entry). (own : OwnView) → a ≡ ruled_answer (party_ruling public own now request.Notice))
    (λ (a : Answer Entry). a ≡ ruled_answer (party_ruling public own now c.args.asked.now)) (λ a is. is own ∙ asked) c.answer_notice.ensures.answer

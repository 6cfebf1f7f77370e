use Rattle.desk_http.proofs.AnswerLemmas.{unreceived_done, unreceived_leads, unreceived_leaves}
use Rattle.desk_http.proofs.answers.answer_to.Goals as goal

pub returns-in-Err-clause-done : goal.returns-in-Err-clause-done
returns-in-Err-clause-done g c = λ reliable office stands.
    unreceived_done (g.O.Office.stands c.args.office.now) office c.args.moment stands c.args.caller c.args.content c.in-Err.why c.answer_unreceived.result c.in-Err.is c.answer_unreceived.ensures.shown

pub returns-in-Err-clause-leaves : goal.returns-in-Err-clause-leaves
returns-in-Err-clause-leaves g c =
    unreceived_leaves g.O.Office c.args.office.now c.answer_unreceived.result c.args.moment c.args.caller c.args.content c.in-Err.why c.in-Err.is

pub returns-in-Err-clause-leads : goal.returns-in-Err-clause-leads
returns-in-Err-clause-leads g c =
    unreceived_leads g.O.Office c.args.office.now c.answer_unreceived.result c.args.moment c.args.caller c.args.content c.in-Err.why c.in-Err.is

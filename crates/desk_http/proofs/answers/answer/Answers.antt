use Rattle.desk_http.proofs.AnswerLemmas.{always_err, makes_none, not_asked, refused_done}
use Rattle.desk_http.proofs.answers.answer.Goals as goal

pub returns-in-Refused-clause-done : goal.returns-in-Refused-clause-done
returns-in-Refused-clause-done g c = λ reliable office stands.
    refused_done (g.O.Office.stands c.args.office.now) office c.args.moment stands c.args.received c.in-Refused.refusal c.refused.result c.in-Refused.is c.refused.ensures.shown

pub returns-in-Refused-clause-makes : goal.returns-in-Refused-clause-makes
returns-in-Refused-clause-makes g c =
    makes_none g.O.Office c.args.moment c.args.received c.args.office.now

pub returns-in-Refused-clause-unmade : goal.returns-in-Refused-clause-unmade
returns-in-Refused-clause-unmade g c = always_err c.refused.result (not_asked g.O.Office c.args.office.now)

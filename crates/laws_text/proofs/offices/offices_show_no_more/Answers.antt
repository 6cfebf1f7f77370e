use Rattle.laws_text.proofs.TextOfficeLemmas.{alike_offices_isolated, offices_isolated, offices_keep_secrets}
use Rattle.laws_text.proofs.offices.offices_show_no_more.Goals as goal

pub returns-clause-isolated : goal.returns-clause-isolated
returns-clause-isolated g c = offices_isolated g.O.Office c.texts_show_no_more.ensures.from_nothing

pub returns-clause-alike : goal.returns-clause-alike
returns-clause-alike g c = alike_offices_isolated g.O.Office c.texts_show_no_more.ensures.isolated

pub returns-clause-secret : goal.returns-clause-secret
returns-clause-secret g c = offices_keep_secrets g.O.Office c.texts_show_no_more.ensures.secret

use Rattle.meeting_core.specs.Step.{decided}
use Rattle.laws_text.proofs.TextLemmas.{texts_from_nothing, texts_isolated, texts_keep_secrets}
use Rattle.laws_text.proofs.texts.texts_show_no_more.Goals as goal

pub returns-clause-isolated : goal.returns-clause-isolated
returns-clause-isolated c = texts_isolated c.isolation.ensures.desk (c.isolation.ensures.runs decided c.isolation.ensures.steps)

pub returns-clause-from_nothing : goal.returns-clause-from_nothing
returns-clause-from_nothing c = texts_from_nothing c.isolation.ensures.desk c.isolation.ensures.calls

pub returns-clause-secret : goal.returns-clause-secret
returns-clause-secret c = texts_keep_secrets c.isolation.ensures.desk c.secrecy.ensures.desk

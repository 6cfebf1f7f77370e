use Rattle.laws_text.proofs.ReplayLemmas.{alike_replays_isolated, replays_isolated, replays_keep_secrets}
use Rattle.laws_text.proofs.replays.replays_show_no_more.Goals as goal

pub returns-clause-isolated : goal.returns-clause-isolated
returns-clause-isolated c = replays_isolated c.texts_show_no_more.ensures.from_nothing

pub returns-clause-alike : goal.returns-clause-alike
returns-clause-alike c = alike_replays_isolated c.texts_show_no_more.ensures.isolated

pub returns-clause-secret : goal.returns-clause-secret
returns-clause-secret c = replays_keep_secrets c.texts_show_no_more.ensures.secret

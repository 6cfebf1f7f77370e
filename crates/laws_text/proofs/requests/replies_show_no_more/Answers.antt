use Rattle.laws_text.proofs.HttpLawLemmas.{replies_alike, texts_alike}
use Rattle.laws_text.proofs.requests.replies_show_no_more.Goals as goal

pub returns-clause-replies : goal.returns-clause-replies
returns-clause-replies c = replies_alike c.two_worlds.ensures.same

pub returns-clause-texts : goal.returns-clause-texts
returns-clause-texts c = texts_alike c.two_worlds.ensures.same c.one_request.ensures

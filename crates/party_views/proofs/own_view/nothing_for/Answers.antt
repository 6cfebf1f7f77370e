use Rattle.std.proofs.Common.{◌∙◌}
use Rattle.party_views.proofs.OwnLemmas.{nothing-read}
use Rattle.party_views.proofs.own_view.nothing_for.Goals as goal

pub returns : goal.returns
returns c = (λ i. record (c.nothing_of.ensures i) { casts = c.no_casts_for.ensures i }) ∙ nothing-read c.args.party c.args.asked.now

use Rattle.std.proofs.Common.{◌∙◌}
use Rattle.row_source.proofs.SourceRowLemmas.{member_is, proxy_is, rep_is}
use Rattle.row_source.proofs.SourceLookUpLemmas.{holds_as}
use Rattle.row_source.proofs.needed_rows.for_vote.Goals as goal

pub returns-in-Member : goal.returns-in-Member
returns-in-Member g c = holds_as _ _ _ _ _ _ _ _ _ _ (λ found rows is. is ∙ member_is found c.args.party c.args.new.now c.in-Member.is) c.for_member.ensures

pub returns-in-Rep : goal.returns-in-Rep
returns-in-Rep g c = holds_as _ _ _ _ _ _ _ _ _ _ (λ found rows is. is ∙ rep_is found c.args.party c.args.new.now c.in-Rep.is) c.for_rep.ensures

pub returns-in-Proxy : goal.returns-in-Proxy
returns-in-Proxy g c = holds_as _ _ _ _ _ _ _ _ _ _ (λ found rows is. is ∙ proxy_is found c.args.party c.args.new.now c.in-Proxy.is) c.for_proxy.ensures

use Rattle.std.proofs.Common.{◌≡◌, List, ap, sym, ◌∙◌}
use Rattle.std.proofs.lemmas.Result.{IfOk-weaker}
use Rattle.vocabulary.specs.Places.{Places}
use Rattle.proxy_rules.specs.declared.meeting_records.Cutoffs.{Cutoffs}
use Rattle.party_views.specs.OwnViews.{governed_by}
use Rattle.party_views.proofs.ViewPreservedLemmas.{same_cutoffs-true}
use Rattle.party_views.proofs.governed.Members.votes_governed.Goals as goal

-- by the same cutoffs it governs the same
pub returns-then-same_cutoffs : goal.returns-then-same_cutoffs
returns-then-same_cutoffs c =
    let session = c.args.session.now in
    let rows = c.args.self.now.rows.now in
    let same = same_cutoffs-true session.votes session.acts (sym c.same_cutoffs.ensures ∙ c.if-same_cutoffs.true) in
    let due = c.requires.acts ∙ ap (λ (cutoffs : Cutoffs). governed_by rows cutoffs c.args.member c.args.number) (sym same) in
    IfOk-weaker c.copy_runs.result (λ (runs : List Places). runs ≡ c.args.acts.now) (λ (runs : List Places). runs ≡ governed_by rows session.votes c.args.member c.args.number) (λ runs e. e ∙ due) c.copy_runs.ensures

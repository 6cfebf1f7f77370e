use Rattle.std.proofs.lemmas.Result.{IfOk-weaker}
use Rattle.cli_args.proofs.AppLemmas.{takes-added}
use Rattle.cli_args.proofs.app.with_arg.Goals as goal

pub returns : goal.returns
returns c =
    IfOk-weaker c.arg.result _ _ (λ r h. takes-added _ _ r h) c.arg.ensures

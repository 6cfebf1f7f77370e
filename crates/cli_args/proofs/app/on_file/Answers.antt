use Rattle.std.proofs.lemmas.Result.{IfOk-weaker}
use Rattle.std.specs.Prelude.{codes}
use Rattle.clap.specs.Simple.{new_app}
use Rattle.cli_args.specs.App as spec
use Rattle.cli_args.proofs.AppLemmas.{arg-is}
use Rattle.cli_args.proofs.app.on_file.Goals as goal

pub returns : goal.returns
returns c =
    IfOk-weaker c.with_arg.result _ _ (λ r h. arg-is c.named-named.result c.wanted.result r (new_app c.args.name.now) (spec.required_word (codes "FILE")) h c.named-named.ensures c.wanted.ensures.rule c.wanted.ensures.local) c.with_arg.ensures

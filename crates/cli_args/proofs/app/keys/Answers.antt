use Rattle.std.specs.Prelude.{codes}
use Rattle.clap.specs.Simple.{App, with_rule}
use Rattle.cli_args.specs.App as spec
use Rattle.cli_args.proofs.AppLemmas.{arg-made}
use Rattle.cli_args.proofs.app.keys.Goals as goal

pub returns : goal.returns
returns c =
    let with_csv = arg-made c.on_file-keys.result c.wanted.result c.and_arg-with_csv.result (spec.on_file (codes "keys")) (spec.required_word (codes "CSV")) c.and_arg-with_csv.ensures c.on_file-keys.ensures c.wanted.ensures.rule c.wanted.ensures.local in
    let app1 : App = with_rule (spec.on_file (codes "keys")) (spec.required_word (codes "CSV")) in
    arg-made c.and_arg-with_csv.result c.zone.result c.and_arg.result app1 spec.zone c.and_arg.ensures with_csv c.zone.ensures.rule c.zone.ensures.local

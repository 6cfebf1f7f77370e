use Rattle.std.specs.Prelude.{codes}
use Rattle.clap.specs.Simple.{App, with_rule}
use Rattle.cli_args.specs.App as spec
use Rattle.cli_args.proofs.AppLemmas.{arg-made}
use Rattle.cli_args.proofs.app.days.Goals as goal

pub returns : goal.returns
returns c =
    let with_txt = arg-made c.on_file-days.result c.wanted.result c.and_arg-with_txt.result (spec.on_file (codes "days")) (spec.required_word (codes "TXT")) c.and_arg-with_txt.ensures c.on_file-days.ensures c.wanted.ensures.rule c.wanted.ensures.local in
    let app1 : App = with_rule (spec.on_file (codes "days")) (spec.required_word (codes "TXT")) in
    arg-made c.and_arg-with_txt.result c.zone.result c.and_arg.result app1 spec.zone c.and_arg.ensures with_txt c.zone.ensures.rule c.zone.ensures.local

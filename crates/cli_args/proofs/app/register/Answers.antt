use Rattle.std.specs.Prelude.{codes}
use Rattle.clap.specs.Simple.{App, with_rule}
use Rattle.cli_args.specs.App as spec
use Rattle.cli_args.proofs.AppLemmas.{arg-made}
use Rattle.cli_args.proofs.app.register.Goals as goal

pub returns : goal.returns
returns c =
    let with_record = arg-made c.on_meeting-register.result c.wanted.result c.and_arg-with_record.result (spec.on_meeting (codes "register")) (spec.required_word (codes "RECORD")) c.and_arg-with_record.ensures c.on_meeting-register.ensures c.wanted.ensures.rule c.wanted.ensures.local in
    let app1 : App = with_rule (spec.on_meeting (codes "register")) (spec.required_word (codes "RECORD")) in
    let with_csv = arg-made c.and_arg-with_record.result c.wanted-2.result c.and_arg-with_csv.result app1 (spec.required_word (codes "CSV")) c.and_arg-with_csv.ensures with_record c.wanted-2.ensures.rule c.wanted-2.ensures.local in
    let app2 : App = with_rule app1 (spec.required_word (codes "CSV")) in
    arg-made c.and_arg-with_csv.result c.zone.result c.and_arg.result app2 spec.zone c.and_arg.ensures with_csv c.zone.ensures.rule c.zone.ensures.local

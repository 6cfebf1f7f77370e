use Rattle.std.specs.Prelude.{codes}
use Rattle.clap.specs.Simple.{App, with_rule}
use Rattle.cli_args.specs.App as spec
use Rattle.cli_args.proofs.AppLemmas.{arg-made}
use Rattle.cli_args.proofs.app.serve.Goals as goal

pub returns : goal.returns
returns c =
    let with_port = arg-made c.on_file-serve.result c.port.result c.and_arg-with_port.result (spec.on_file (codes "serve")) spec.port c.and_arg-with_port.ensures c.on_file-serve.ensures c.port.ensures.rule c.port.ensures.local in
    let app1 : App = with_rule (spec.on_file (codes "serve")) spec.port in
    let with_requests = arg-made c.and_arg-with_port.result c.requests.result c.and_arg-with_requests.result app1 spec.requests c.and_arg-with_requests.ensures with_port c.requests.ensures.rule c.requests.ensures.local in
    let app2 : App = with_rule app1 spec.requests in
    arg-made c.and_arg-with_requests.result c.zone.result c.and_arg.result app2 spec.zone c.and_arg.ensures with_requests c.zone.ensures.rule c.zone.ensures.local

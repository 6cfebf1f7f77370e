use Rattle.std.specs.Prelude.{Ok}
use Rattle.clap.specs.Simple.{App, with_subcommand}
use Rattle.cli_args.specs.App as spec
use Rattle.cli_args.proofs.AppLemmas.{under-made}
use Rattle.cli_args.proofs.app.desk.Goals as goal

pub returns : goal.returns
returns c =
    let fifth = under-made c.with_loads.result c.serve.result c.and_made-fifth.result spec.with_loads spec.serve_app c.and_made-fifth.ensures c.with_loads.ensures c.serve.ensures in
    let app5 : App = with_subcommand spec.with_loads spec.serve_app.top in
    let sixth = under-made c.and_made-fifth.result c.on_meeting.result c.and_made-sixth.result app5 spec.results_app c.and_made-sixth.ensures fifth c.on_meeting.ensures in
    let app6 : App = with_subcommand app5 spec.results_app.top in
    under-made c.and_made-sixth.result (Ok c.named.result) c.and_made.result app6 spec.replay_app c.and_made.ensures sixth c.named.ensures

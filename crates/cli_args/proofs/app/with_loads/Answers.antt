use Rattle.clap.specs.Simple.{App, with_subcommand}
use Rattle.cli_args.specs.App as spec
use Rattle.cli_args.proofs.AppLemmas.{under-made}
use Rattle.cli_args.proofs.app.with_loads.Goals as goal

pub returns : goal.returns
returns c =
    let first = under-made c.top.result c.on_file.result c.and_made-first.result spec.top spec.init_app c.and_made-first.ensures c.top.ensures c.on_file.ensures in
    let app2 : App = with_subcommand spec.top spec.init_app.top in
    let second = under-made c.and_made-first.result c.keys.result c.and_made-second.result app2 spec.keys_app c.and_made-second.ensures first c.keys.ensures in
    let app3 : App = with_subcommand app2 spec.keys_app.top in
    let third = under-made c.and_made-second.result c.days.result c.and_made-third.result app3 spec.days_app c.and_made-third.ensures second c.days.ensures in
    let app4 : App = with_subcommand app3 spec.days_app.top in
    under-made c.and_made-third.result c.register.result c.and_made.result app4 spec.register_app c.and_made.ensures third c.register.ensures

use Rattle.std.specs.Prelude.{codes}
use Rattle.clap.specs.Simple.{App, with_rule}
use Rattle.cli_args.specs.App as spec
use Rattle.cli_args.proofs.AppLemmas.{arg-made}
use Rattle.cli_args.proofs.app.on_meeting.Goals as goal

pub returns : goal.returns
returns c =
    arg-made c.on_file-on_file.result c.wanted.result c.and_arg.result (spec.on_file c.args.name.now) (spec.required_word (codes "MEETING")) c.and_arg.ensures c.on_file-on_file.ensures c.wanted.ensures.rule c.wanted.ensures.local

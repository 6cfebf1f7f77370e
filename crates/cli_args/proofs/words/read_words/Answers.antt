use Rattle.std.proofs.Common.{map, sym, ap, ◌∙◌}
use Rattle.std.specs.Prelude.{string_bytes}
use Rattle.clap.specs.Values.{kind_of}
use Rattle.cli_args.specs.Words.{asked_in}
use Rattle.cli_args.proofs.WordLemmas.{asked-taken, wrong-refused, gives-same}
use Rattle.cli_args.proofs.words.read_words.Goals as goal

pub returns-in-Ok : goal.returns-in-Ok
returns-in-Ok c =
    let words = map string_bytes c.args.words.now in
    gives-same c.plan_in.result _ _ c.plan_in.ensures (ap asked_in c.in-Ok.ensures.named ∙ sym (asked-taken words c.in-Ok.ensures.exact))

pub returns-in-Err : goal.returns-in-Err
returns-in-Err c =
    wrong-refused (map string_bytes c.args.words.now) (kind_of c.in-Err.error) c.refused.result c.refused.ensures c.in-Err.ensures.exact

use Rattle.std.proofs.Common.{ap, subst, refl, true, ◌∙◌, ◌≡◌, map}
use Rattle.std.specs.Prelude.{string_bytes}
use Rattle.std.proofs.lemmas.Result.{IfOk-weaker}
use Rattle.clap.specs.Simple.{App, is_simple, subcommand_of}
use Rattle.clap.specs.Kinds.{FailsBy}
use Rattle.clap.specs.Faults.{is_simple_and_free, fault_of}
use Rattle.clap.proofs.OnLiterals.{clap_on_literals}
use Rattle.cli_args.specs.App as spec
use Rattle.cli_args.proofs.app.desk_matches.Goals as goal

simple : is_simple spec.desk_app ≡ true
unfolding clap_on_literals
simple = refl

pub returns-clause-named : goal.returns-clause-named
returns-clause-named c =
    let is = c.in_ok-command.ensures.0 in
    IfOk-weaker c.try_get_matches_from.result _ _ (λ m h. (h (ap is_simple is ∙ simple)).1 ∙ ap (λ (a : App). subcommand_of a (map string_bytes c.args.words.now)) is) c.try_get_matches_from.ensures.matches

free : is_simple_and_free spec.desk_app ≡ true
unfolding clap_on_literals
free = refl

pub returns-clause-exact : goal.returns-clause-exact
returns-clause-exact c =
    let is = c.in_ok-command.ensures.0 in
    let P : App → Type 0 = λ a. FailsBy (fault_of a (map string_bytes c.args.words.now)) c.try_get_matches_from.result in
    subst P is (c.try_get_matches_from.ensures.kinds (ap is_simple_and_free is ∙ free))

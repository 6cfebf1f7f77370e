-- A command that takes one argument more, or one command more under it.
use Rattle.std.proofs.Common.{◌≡◌, Bool, true, false, ◌||◌, refl, ap, ap₂, ◌∙◌, Result, Ok, Err, IfOk, IsOkAnd}
use Rattle.clap.specs.Built.{AddsArg}
use Rattle.clap.specs.Simple.{App, app_of, with_rule, with_subcommand}
use Rattle.clap.specs.Walk.{Rule, rule_of}
use Rattle.clap.specs.declared.builder.arg.Arg.{Arg}
use Rattle.clap.specs.declared.builder.command.Command.{Command}
use Rattle.clap.specs.declared.builder.command.Command.TheViews.{out-Command}
use Rattle.cli_args.specs.App.{IsCommand, TakesArg, TakesUnder}

or_false : (b : Bool) → (b || false) ≡ b
or_false true = refl
or_false false = refl

pub takes-added : (old : Command) (a : Arg) (new : Command) → AddsArg old a new → TakesArg old a new
takes-added old a new adds local =
    (adds.shape local, adds.globals ∙ ap (λ b. (out-Command old).has_globals || b) local ∙ or_false (out-Command old).has_globals)

pub arg-is : (old : Command) (a : Arg) (new : Command) (app : App) (rule : Rule) → TakesArg old a new → IsCommand old app → rule_of a ≡ rule → a.global ≡ false → IsCommand new (with_rule app rule)
arg-is old a new app rule takes is of local =
    let so = takes local in
    (so.0 ∙ ap₂ with_rule is.0 of, so.1 ∙ is.1)

module _ {E : Type 0} where
  -- one argument more of a command that is made
  pub arg-made : (made : Result Command E) (a : Arg) (result : Result Command E) (app : App) (rule : Rule) → IfOk result (λ c. IsOkAnd made (λ old. TakesArg old a c)) → IfOk made (λ old. IsCommand old app)
      → rule_of a ≡ rule → a.global ≡ false → IfOk result (λ c. IsCommand c (with_rule app rule))
  arg-made (Ok old) a (Ok new) app rule takes is of local = arg-is old a new app rule takes is of local
  arg-made (Ok old) a (Err e) app rule takes is of local = tt
  arg-made (Err f) a (Ok new) app rule takes is of local = absurd takes
  arg-made (Err f) a (Err e) app rule takes is of local = tt

  -- one command more under another, where both are made
  pub under-made : (above under result : Result Command E) (a b : App) → IfOk result (λ c. IsOkAnd above (λ old. IsOkAnd under (λ made. TakesUnder old made c))) → IfOk above (λ old. IsCommand old a)
      → IfOk under (λ made. IsCommand made b) → IfOk result (λ c. IsCommand c (with_subcommand a b.top))
  under-made above under (Err e) a b takes is below = tt
  under-made (Err f) under (Ok new) a b takes is below = absurd takes
  under-made (Ok old) (Err f) (Ok new) a b takes is below = absurd takes
  under-made (Ok old) (Ok made) (Ok new) a b takes is below =
      let so = takes is.1 below.1 in
      (so.0 ∙ ap₂ with_subcommand is.0 (ap (λ (app : App). app.top) below.0), so.1)

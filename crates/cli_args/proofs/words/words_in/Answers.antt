use Rattle.std.proofs.Common.{◌≡◌, ◌∙◌, refl, option_map}
use Rattle.clap.specs.Matches.{found_of}
use Rattle.clap.specs.Walk.{first_of, rows_of}
use Rattle.clap.proofs.WalkLemmas.{first_value-rows}
use Rattle.cli_args.proofs.words.words_in.Goals as goal

pub returns : goal.returns
returns c =
    let found = found_of c.args.matches.now in
    rw (
      c.get_str.ensures ∙ first_value-rows found _,
      c.get_str-2.ensures ∙ first_value-rows found _,
      c.get_str-3.ensures ∙ first_value-rows found _,
      c.get_str-4.ensures ∙ first_value-rows found _,
      c.get_str-5.ensures ∙ first_value-rows found _,
      c.get_str-6.ensures ∙ first_value-rows found _,
      c.get_str-7.ensures ∙ first_value-rows found _,
      c.get_str-8.ensures ∙ first_value-rows found _,
    ) refl

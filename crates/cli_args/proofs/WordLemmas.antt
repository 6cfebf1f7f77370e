-- What the words ask for, by what `clap` makes of them.
use Rattle.std.proofs.Common.{◌≡◌, ◌⊎◌, inl, inr, cond, List, [], ◌∷◌, Result, Err, ap, subst, false, arith}
use Rattle.std.proofs.lemmas.Bool.Decides.{nat_tests}
use Rattle.clap.specs.Faults.{fault_of}
use Rattle.clap.specs.Kinds.{IsAmong, Kinds}
use Rattle.clap.specs.Simple.{subcommand_of}
use Rattle.clap.specs.Walk.{Text, is_empty}
use Rattle.clap.specs.declared.error.kind.ErrorKind.{ErrorKind}
use Rattle.clap.specs.declared.error.kind.ErrorKind.TheVariants as kind
use Rattle.cli_args.specs.App.{desk_app}
use Rattle.cli_args.specs.Words.{IsRefused, asked_by_words, asked_in}
use Rattle.cli_args.specs.Plans.{CommandAsked, Wrong, Words, PlanAgrees, PlanErrAgrees, plan_view}
use Rattle.cli_args.specs.declared.plan.Plan.{Plan}
use Rattle.cli_exit.specs.declared.words.WordsFault.{WordsFault}
use Rattle.cli_exit.specs.declared.words.WordsFault.TheVariants as fault

-- words in which no fault is found
pub asked-taken : (words : List Text) → fault_of desk_app words ≡ [] → asked_by_words words ≡ asked_in (subcommand_of desk_app words)
unfolding asked_by_words
asked-taken words none = ap (λ (faults : Kinds). cond (is_empty faults) (asked_in (subcommand_of desk_app words)) (Err Words)) none

none_asked : (cause : ErrorKind) (kinds : Kinds) (other : Result CommandAsked Wrong) → IsAmong cause kinds → cond (is_empty kinds) other (Err Words) ≡ Err Words
none_asked cause [] other among = absurd among
none_asked cause (k ∷ ks) other among = let some : is_empty (k ∷ ks) ≡ false = grind (arith, nat_tests) in ap (λ b. cond b other (Err Words)) some

-- words in which a fault is found
pub asked-refused : (words : List Text) (cause : ErrorKind) → IsAmong cause (fault_of desk_app words) → asked_by_words words ≡ Err Words
unfolding asked_by_words
asked-refused words cause among = none_asked cause (fault_of desk_app words) (asked_in (subcommand_of desk_app words)) among

pub wrong-refused : (words : List Text) (cause : ErrorKind) (wrong : WordsFault) → IsRefused cause wrong → (cause ≡ kind.OutOfMemory) ⊎ IsAmong cause (fault_of desk_app words) → PlanErrAgrees wrong (asked_by_words words)
wrong-refused words cause (fault.Words text) not (inl memory) = absurd (not memory)
wrong-refused words cause (fault.Words text) not (inr among) = asked-refused words cause among
wrong-refused words cause fault.Memory h either = tt
wrong-refused words cause fault.Meeting h either = absurd h
wrong-refused words cause fault.Record h either = absurd h
wrong-refused words cause fault.Zone h either = absurd h

pub gives-same : (returned : Result Plan WordsFault) (a b : Result CommandAsked Wrong) → PlanAgrees plan_view returned a → a ≡ b → PlanAgrees plan_view returned b
gives-same returned a b given same = let P : Result CommandAsked Wrong → Type 0 = λ answer. PlanAgrees plan_view returned answer in subst P same given

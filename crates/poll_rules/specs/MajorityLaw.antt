-- Laws of the majority.
use Rattle.std.specs.Prelude.{◌≡◌, ℕ, ◌<◌, true}
use Rattle.vocabulary.specs.declared.kinds.ResKind.{ResKind}
use Rattle.desk_words.specs.Majority.{is_carried}

-- whatever is carried has more votes for it than against it (sections 282 and 283)
abbrev pub CarriedByMoreThanHalf : Type 0
CarriedByMoreThanHalf =
    (kind : ResKind) (votes_for votes_against : ℕ)
    → is_carried kind votes_for votes_against ≡ true
    → votes_against < votes_for

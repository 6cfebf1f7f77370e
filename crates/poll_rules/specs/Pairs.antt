-- A pair of qualifying persons, by the first who qualifies. For private contracts.
use Rattle.std.specs.Prelude.{Bool, false, not, ◌&&◌, List, find, Option}
use Rattle.std.specs.List.{list_any}
use Rattle.std.specs.Option.{option_map_or}
use Rattle.vocabulary.specs.Names.{same_name}
use Rattle.desk_words.specs.ViewTypes.{Party}
use Rattle.desk_words.specs.declared.records.PresenceMark.{PresenceMark}
use Rattle.poll_rules.specs.Quorum.{are_two, qualifies}
use Rattle.poll_rules.specs.declared.roles.Role.{Role}

-- the person marked is another than the first, and the two are two qualifying persons
abbrev pub is_second : (Party → List Role) → Party → PresenceMark → Bool
is_second roles first mark =
    not (same_name first mark.party) && are_two (roles first) (roles mark.party)

-- the first marked who qualifies
abbrev pub first_qualifying : (Party → List Role) → List PresenceMark → Option PresenceMark
first_qualifying roles present =
    find (λ (mark : PresenceMark). qualifies (roles mark.party)) present

-- the first who qualifies and some other are two qualifying persons
abbrev pub two_with_the_first : (Party → List Role) → List PresenceMark → Bool
two_with_the_first roles present =
    option_map_or (λ (first : PresenceMark). list_any (is_second roles first.party) present)
    (first_qualifying roles present) false

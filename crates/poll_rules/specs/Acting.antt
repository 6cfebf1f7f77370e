-- Members for whom persons may act, by what was received of them. For private contracts.
use Rattle.std.specs.Prelude.{Bool, ◌&&◌, ◌||◌, List}
use Rattle.std.specs.BTreeSet.{BTreeSet, contains}
use Rattle.std.specs.List.{list_any}
use Rattle.vocabulary.specs.Names.{name_cmp, same_name}
use Rattle.desk_words.specs.ViewTypes.{Party}
use Rattle.desk_words.specs.declared.records.Appointment.{Appointment}
use Rattle.desk_words.specs.declared.records.Authority.{Authority}

-- the set has the person
abbrev pub is_one_of : BTreeSet Party → Party → Bool
is_one_of persons person = contains name_cmp persons person

-- the corporation authorised a person who passes (section 323)
abbrev pub some_authorised : (Party → Bool) → List Authority → Party → Bool
some_authorised passes authorities corporation =
    list_any (λ (a : Authority). same_name a.corporation corporation && passes a.person) authorities

-- the member named a person who passes as its proxy (section 324)
abbrev pub some_named : (Party → Bool) → List Appointment → Party → Bool
some_named passes given member =
    list_any (λ (a : Appointment). same_name a.member member && passes a.proxy) given

-- a person who passes is the member, was authorised by it, or was named by it as its proxy
abbrev pub some_may_act : (Party → Bool) → List Appointment → List Authority → Party → Bool
some_may_act passes given authorities member =
    (passes member || some_authorised passes authorities member) || some_named passes given member

-- In which roles a person may act at a meeting: for its own shares, for those of a corporation, or
-- for those that it governs as a proxy.
use Rattle.std.specs.Prelude.{Bool, false, ◌&&◌, nat_lt, List, [], ◌∷◌, ◌++◌, Option, option_map, if◌then◌else◌}
use Rattle.std.specs.List.{list_any, flat_map}
use Rattle.std.specs.Option.{option_map_or}
use Rattle.vocabulary.specs.Names.{same_name}
use Rattle.vocabulary.specs.Places.{places_that}
use Rattle.vocabulary.specs.declared.kinds.Capacity.{Capacity}
use Rattle.vocabulary.specs.declared.kinds.Capacity.TheVariants.{Member, Rep, Proxy}
use Rattle.desk_words.specs.ViewTypes.{Party, Place}
use Rattle.desk_words.specs.declared.records.Appointment.{Appointment}
use Rattle.desk_words.specs.declared.records.Authority.{Authority}
use Rattle.desk_words.specs.declared.records.Ending.{Ending}
use Rattle.desk_words.specs.declared.records.RegisterRow.{RegisterRow}
use Rattle.proxy_rules.specs.Governing.{governing_in}
use Rattle.proxy_rules.specs.Holdings.{holding_by}
use Rattle.proxy_rules.specs.Shares.{is_corporation, is_individual}
use Rattle.proxy_rules.specs.declared.holdings.Holding.{Holding}
use Rattle.proxy_rules.specs.declared.meeting_records.Cutoffs.{Cutoffs}
use Rattle.proxy_rules.specs.declared.pieces.GovernedPiece.{GovernedPiece}
use Rattle.proxy_rules.specs.Tiles.{governing_of}
use Rattle.poll_rules.specs.declared.roles.Role.{Role}

-- the party gave the person its authority (section 323)
abbrev pub has_authority : List Authority → Party → Party → Bool
has_authority authorities corporation person =
    list_any (λ (a : Authority). same_name a.corporation corporation && same_name a.person person)
    authorities

-- the proxy who governs a piece of a holding
abbrev pub proxy_of : Holding → GovernedPiece → Option Party
proxy_of holding piece = option_map (λ (a : Appointment). a.proxy) (governing_of holding piece)

-- the appointment that governs the share names the person (section 324)
abbrev pub is_proxy_at : Cutoffs → Holding → Party → Place → Bool
is_proxy_at cutoffs holding person place =
    option_map_or (λ (a : Appointment). same_name a.proxy person)
    (governing_in cutoffs holding place) false

-- the person governs at least one of the shares
abbrev pub is_proxy_in : Cutoffs → Holding → Party → Bool
is_proxy_in cutoffs holding person =
    nat_lt 0 (places_that (is_proxy_at cutoffs holding person) holding.shares)

-- the role, if the person has it
abbrev pub role_if : Bool → Capacity → Party → List Role
role_if has capacity member =
    if has then record { capacity = capacity; member = member } ∷ [] else []

-- what a row of the register makes the person: the member itself, where it is an individual; a
-- representative, where a corporation holds the row and authorised the person; a proxy, where the
-- person governs at least one of the row's shares
abbrev pub roles_by : Cutoffs → List Appointment → List Ending → List Authority → Party
    → RegisterRow → List Role
roles_by cutoffs given ended authorities person row =
    role_if (is_individual row.kind && same_name row.member person) Member row.member
    ++ role_if (is_corporation row.kind && has_authority authorities row.member person) Rep
    row.member
    ++ role_if (is_proxy_in cutoffs (holding_by given ended row) person) Proxy row.member

-- all roles of a person
abbrev pub roles_of : Cutoffs → List RegisterRow → List Appointment → List Ending → List Authority
    → Party → List Role
roles_of cutoffs register given ended authorities person =
    flat_map (roles_by cutoffs given ended authorities person) register

-- The quorum of a session of a meeting (section 318).
use Rattle.std.specs.Prelude.{Bool, true, false, not, ◌&&◌, ◌==◌, List, [], ◌∷◌, map, filter}
use Rattle.std.specs.List.{list_any}
use Rattle.vocabulary.specs.Names.{same_name}
use Rattle.desk_words.specs.ViewTypes.{Party, SessionNumber}
use Rattle.desk_words.specs.declared.records.Appointment.{Appointment}
use Rattle.desk_words.specs.declared.records.Authority.{Authority}
use Rattle.desk_words.specs.declared.records.Ending.{Ending}
use Rattle.desk_words.specs.declared.records.PresenceMark.{PresenceMark}
use Rattle.desk_words.specs.declared.records.RegisterRow.{RegisterRow}
use Rattle.proxy_rules.specs.Shares.{is_treasury}
use Rattle.proxy_rules.specs.declared.meeting_records.Cutoffs.{Cutoffs}
use Rattle.proxy_rules.specs.Parties.{same_capacity}
use Rattle.poll_rules.specs.Roles.{roles_of}
use Rattle.poll_rules.specs.declared.roles.Role.{Role}

-- the row is counted: it is no treasury row (section 726)
abbrev pub is_counted : RegisterRow → Bool
is_counted row = not (is_treasury row.kind)

-- both are the same role: the same capacity for the same member
abbrev pub same_role : Role → Role → Bool
same_role a b = same_capacity a.capacity b.capacity && same_name a.member b.member

-- a person with these roles is a qualifying person
abbrev pub qualifies : List Role → Bool
qualifies [] = false
qualifies (role ∷ roles) = true

-- each has one role only, and both have the same
abbrev pub is_sole_role : Role → List Role → Bool
is_sole_role role (only ∷ []) = same_role role only
is_sole_role role _ = false

-- two persons with these roles act for one corporation alone, or are proxies of one member alone
abbrev pub are_as_one : List Role → List Role → Bool
are_as_one (only ∷ []) others = is_sole_role only others
are_as_one _ others = false

-- two persons with these roles are two qualifying persons
abbrev pub are_two : List Role → List Role → Bool
are_two one other = qualifies one && qualifies other && not (are_as_one one other)

-- with no row that is counted there is no quorum; with one, one qualifying person makes it; with
-- more, two different persons
abbrev pub is_quorum : List RegisterRow → (Party → List Role) → List Party → Bool
is_quorum [] roles present = false
is_quorum (only ∷ []) roles present = list_any (λ person. qualifies (roles person)) present
is_quorum (first ∷ second ∷ rows) roles present =
    list_any
    (λ person. list_any
    (λ other. not (same_name person other) && are_two (roles person) (roles other)) present)
    present

-- the marks of those who are present in the session
abbrev pub present_in : SessionNumber → List PresenceMark → List PresenceMark
present_in session presences = filter (λ (mark : PresenceMark). mark.session == session) presences

-- whether those who are present in the session make a quorum
abbrev pub quorum_of : Cutoffs → List RegisterRow → List Appointment → List Ending → List Authority
    → List PresenceMark → SessionNumber → Bool
quorum_of cutoffs register given ended authorities presences session =
    is_quorum (filter is_counted register) (roles_of cutoffs register given ended authorities)
    (map (λ (mark : PresenceMark). mark.party) (present_in session presences))

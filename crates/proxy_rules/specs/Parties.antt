-- Whose each record is, and in which capacities parties act.
use Rattle.std.specs.Prelude.{Bool, true, false, List, filter, map}
use Rattle.vocabulary.specs.Names.{same_name}
use Rattle.vocabulary.specs.declared.kinds.Capacity.{Capacity}
use Rattle.vocabulary.specs.declared.kinds.Capacity.TheVariants.{Member, Rep, Proxy}
use Rattle.desk_words.specs.ViewTypes.{Party}
use Rattle.desk_words.specs.declared.records.Appointment.{Appointment}
use Rattle.desk_words.specs.declared.records.Authority.{Authority}
use Rattle.desk_words.specs.declared.records.CastMark.{CastMark}
use Rattle.desk_words.specs.declared.records.DemandMark.{DemandMark}
use Rattle.desk_words.specs.declared.records.PresenceMark.{PresenceMark}

-- the appointment names the party as its proxy (section 324)
abbrev pub names : Party → Appointment → Bool
names party a = same_name a.proxy party

-- the party gave the authority (section 323)
abbrev pub is_authority_of : Party → Authority → Bool
is_authority_of corporation a = same_name a.corporation corporation

-- the persons whom a corporation authorised, in order of receipt (section 323)
abbrev pub authorised_by : List Authority → Party → List Party
authorised_by authorities corporation =
    map (λ (a : Authority). a.person) (filter (is_authority_of corporation) authorities)

-- the authority is the party's to act by (section 323)
abbrev pub authorises : Party → Authority → Bool
authorises person a = same_name a.person person

-- the mark is of the party's presence
abbrev pub is_presence_of : Party → PresenceMark → Bool
is_presence_of party mark = same_name mark.party party

-- the party demanded it (sections 321 and 329)
abbrev pub is_demanded_by : Party → DemandMark → Bool
is_demanded_by party demand = same_name demand.party party

-- the party cast it
abbrev pub is_cast_by : Party → CastMark → Bool
is_cast_by party cast = same_name cast.voter party

-- both are the same capacity
abbrev pub same_capacity : Capacity → Capacity → Bool
same_capacity Member Member = true
same_capacity Rep Rep = true
same_capacity Proxy Proxy = true
same_capacity _ _ = false

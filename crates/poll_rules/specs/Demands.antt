-- The demand of a poll (sections 321 and 329).
use Rattle.std.specs.Prelude.{ℕ, Bool, false, ◌&&◌, ◌||◌, ◌==◌, ◌*◌, nat_le, nat_lt, List, Option, count_by, sum_by}
use Rattle.std.specs.List.{list_any}
use Rattle.std.specs.Option.{option_map_or}
use Rattle.vocabulary.specs.Names.{same_name}
use Rattle.vocabulary.specs.Places.{places_that}
use Rattle.desk_words.specs.ViewTypes.{Number, Party, Place, SessionNumber}
use Rattle.desk_words.specs.declared.records.Appointment.{Appointment}
use Rattle.desk_words.specs.declared.records.Authority.{Authority}
use Rattle.desk_words.specs.declared.records.DemandMark.{DemandMark}
use Rattle.desk_words.specs.declared.records.Ending.{Ending}
use Rattle.desk_words.specs.declared.records.RegisterRow.{RegisterRow}
use Rattle.proxy_rules.specs.Governing.{governing_in}
use Rattle.proxy_rules.specs.Holdings.{holding_by}
use Rattle.proxy_rules.specs.Shares.{is_corporation, is_individual, shares_of}
use Rattle.proxy_rules.specs.declared.meeting_records.Cutoffs.{Cutoffs}
use Rattle.poll_rules.specs.declared.demand.Demand.{Demand}

-- the demand was made in the session, of a poll on the resolution
abbrev pub is_demand_in : SessionNumber → Number → DemandMark → Bool
is_demand_in session resolution d = d.session == session && d.resolution == resolution

-- the person demanded a poll on the resolution in the session
abbrev pub has_demanded : List DemandMark → SessionNumber → Number → Party → Bool
has_demanded demands session resolution person =
    list_any
    (λ (d : DemandMark). is_demand_in session resolution d && same_name d.party person)
    demands

-- the individual who holds the row demanded it
abbrev pub holder_demanded : (Party → Bool) → RegisterRow → Bool
holder_demanded demanded row = is_individual row.kind && demanded row.member

-- a person with the authority of the corporation that holds the row demanded it (section 323)
abbrev pub by_a_representative : (Party → Bool) → List Authority → RegisterRow → Bool
by_a_representative demanded authorities row =
    is_corporation row.kind
    && list_any (λ (a : Authority). same_name a.corporation row.member && demanded a.person)
    authorities

-- the appointment names a proxy who demanded it; where there is none, nobody did
abbrev pub names_one : (Party → Bool) → Option Appointment → Bool
names_one demanded by = option_map_or (λ (a : Appointment). demanded a.proxy) by false

-- the share of the row at that place demands it: its holder did, or a representative, or the proxy
-- who governs it by these cutoffs (section 329)
abbrev pub share_demands : (Party → Bool) → Cutoffs → List Appointment → List Ending
    → List Authority → RegisterRow → Place → Bool
share_demands demanded cutoffs given ended authorities row place =
    (holder_demanded demanded row || by_a_representative demanded authorities row)
    || names_one demanded (governing_in cutoffs (holding_by given ended row) place)

-- how many shares of the row demand it
abbrev pub shares_demanding : (Party → Bool) → Cutoffs → List Appointment → List Ending
    → List Authority → RegisterRow → ℕ
shares_demanding demanded cutoffs given ended authorities row =
    places_that (share_demands demanded cutoffs given ended authorities row) (shares_of row)

-- the demanding shares have at least five holders, or are at least a tenth of all shares by number
-- or by the sum paid up on them (the figures of section 321(2))
abbrev pub is_enough : ℕ → ℕ → ℕ → ℕ → ℕ → Bool
is_enough members shares paid all_shares all_paid =
    nat_lt 0 shares
    && (nat_le 5 members || nat_le all_shares (10 * shares) || nat_le all_paid (10 * paid))

-- the pence paid up on so many shares of a row
abbrev pub paid_on : (RegisterRow → ℕ) → RegisterRow → ℕ
paid_on shares row = shares row * row.paid

-- the demand, where of each row so many shares demand
abbrev pub demand_by : (RegisterRow → ℕ) → List RegisterRow → Demand
demand_by demanding rows =
    let members = count_by (λ row. nat_lt 0 (demanding row)) rows in let shares = sum_by demanding
    rows in let paid = sum_by (paid_on demanding) rows in record {
      members = members;
      shares = shares;
      paid = paid;
      reached =
          is_enough members shares paid (sum_by shares_of rows) (sum_by (paid_on shares_of) rows);
    }

-- the demand in a session of a poll on a resolution, by its shares one by one
abbrev pub demand_of : Cutoffs → List RegisterRow → List Appointment → List Ending → List Authority
    → List DemandMark → SessionNumber → Number → Demand
demand_of cutoffs register given ended authorities demands session resolution =
    demand_by
    (shares_demanding (has_demanded demands session resolution) cutoffs given ended authorities)
    register

-- One member's shares, with what was received of its appointments.
use Rattle.std.specs.Prelude.{◌≡◌, ℕ, ◌≤◌, suc, Bool, true, ◌&&◌, ◌==◌, nat_le, List, [], ◌∷◌, filter, map}
use Rattle.std.specs.List.{list_all}
use Rattle.vocabulary.specs.declared.range.TheConstants.{MOST_PLACES}
use Rattle.vocabulary.specs.Names.{same_name}
use Rattle.desk_words.specs.ViewTypes.{Party}
use Rattle.desk_words.specs.declared.records.Appointment.{Appointment}
use Rattle.desk_words.specs.declared.records.Ending.{Ending}
use Rattle.desk_words.specs.declared.records.RegisterRow.{RegisterRow}
use Rattle.proxy_rules.specs.declared.holdings.Holding.{Holding}
use Rattle.proxy_rules.specs.Shares.{shares_by, shares_of}
use Rattle.share_blocks.specs.Tags.{is_tag}

-- the appointment is the member's
abbrev pub is_given_by : Party → Appointment → Bool
is_given_by member a = same_name a.member member

-- the ending is of an appointment of the member
abbrev pub is_ended_of : Party → Ending → Bool
is_ended_of member e = same_name e.member member

-- so many shares of the member, with its appointments and its endings, each in order of receipt
-- (sections 324 and 330)
abbrev pub holding_with : ℕ → List Appointment → List Ending → Party → Holding
holding_with shares given ended member = record {
  shares = shares;
  appointed = filter (is_given_by member) given;
  ended = filter (is_ended_of member) ended;
}

-- the holding of a row of the register
abbrev pub holding_by : List Appointment → List Ending → RegisterRow → Holding
holding_by given ended row = holding_with (shares_of row) given ended row.member

-- the holding of a member, of no shares where it has no row in the register
abbrev pub holding_of : List RegisterRow → List Appointment → List Ending → Party → Holding
holding_of register given ended member = holding_with (shares_by register member) given ended member

-- what of an appointment decides which shares it governs: no names, no instructions (section 324)
abbrev pub claim_of : Appointment → Appointment
claim_of a = record a { member = []; proxy = []; instructions = [] }

-- a holding with no more of its appointments than that
abbrev pub claims_of : Holding → Holding
claims_of holding = record holding { appointed = map claim_of holding.appointed }

-- a member's appointments are numbered on from n: n + 1, n + 2, ..
abbrev pub are_numbered_from : ℕ → List Appointment → Bool
are_numbered_from n [] = true
are_numbered_from n (a ∷ rest) = a.number == suc n && are_numbered_from (suc n) rest

-- the numbers of appointments are tags
abbrev pub are_tags : List Appointment → Bool
are_tags given = list_all (λ (a : Appointment). is_tag a.number) given

-- an office keeps such a holding: its appointments are numbered 1, 2, .. up to the limit of
-- appointments, and its shares have places
abbrev pub is_valid_holding : Holding → Bool
is_valid_holding holding =
    are_numbered_from 0 holding.appointed && are_tags holding.appointed
    && nat_le holding.shares MOST_PLACES

-- what an office keeps of one member: its appointments are numbered 1, 2, .. up to the limit of
-- appointments, and its shares have places
pub record IsValidHolding (holding : Holding) : Type 0 where
  pub numbered : are_numbered_from 0 holding.appointed ≡ true
  pub tagged : are_tags holding.appointed ≡ true
  pub few : holding.shares ≤ MOST_PLACES

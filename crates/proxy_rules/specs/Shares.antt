-- Shares. Those of a holding are numbered from 1, so a share is a row of the register and a place.
use Rattle.std.specs.Prelude.{ℕ, Bool, true, false, ◌&&◌, nat_le, List, find, Option}
use Rattle.std.specs.Option.{option_map_or}
use Rattle.vocabulary.specs.Names.{same_name}
use Rattle.vocabulary.specs.declared.kinds.HolderKind.{HolderKind}
use Rattle.vocabulary.specs.declared.kinds.HolderKind.TheVariants.{Individual, Corporation, Treasury}
use Rattle.desk_words.specs.ViewTypes.{Party, Place}
use Rattle.desk_words.specs.declared.records.RegisterRow.{RegisterRow}
use Rattle.desk_words.specs.ViewTypes.{Party, Place}

-- the shares of a holding, of which treasury shares are none in any rule of a poll (section 726)
abbrev pub shares_held : HolderKind → ℕ → ℕ
shares_held Individual shares = shares
shares_held Corporation shares = shares
shares_held Treasury shares = 0

-- the shares of a row are its places 1 to this number (section 284)
abbrev pub shares_of : RegisterRow → ℕ
shares_of row = shares_held row.kind row.shares

-- a member's row in the register, if it has one (section 113)
abbrev pub row_of : List RegisterRow → Party → Option RegisterRow
row_of register member = find (λ (row : RegisterRow). same_name row.member member) register

-- how many shares the member has in the register; none where it has no row
abbrev pub shares_by : List RegisterRow → Party → ℕ
shares_by register member = option_map_or shares_of (row_of register member) 0

-- the place is that of one of so many shares
abbrev pub is_share : ℕ → Place → Bool
is_share shares place = nat_le 1 place && nat_le place shares

-- a person holds them
abbrev pub is_individual : HolderKind → Bool
is_individual Individual = true
is_individual Corporation = false
is_individual Treasury = false

-- a corporation holds them
abbrev pub is_corporation : HolderKind → Bool
is_corporation Individual = false
is_corporation Corporation = true
is_corporation Treasury = false

-- the company holds them itself (section 724)
abbrev pub is_treasury : HolderKind → Bool
is_treasury Individual = false
is_treasury Corporation = false
is_treasury Treasury = true

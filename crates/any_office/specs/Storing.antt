-- The office that is stored, and what a crash leaves of it.
use Rattle.std.specs.Prelude.{◌⊎◌}
use Rattle.any_office.specs.StoredOffice.{LeavesOnly}
use Rattle.any_office.specs.declared.Office as office
use Rattle.desk_words.specs.declared.office.OfficeLists.{OfficeLists}

module _ {O : Type 0} (g : office.Ghosts O) where
  -- the office is stored, and a crash leaves it, and nothing else
  abbrev pub IsStored : O → OfficeLists → Type 0
  IsStored h office = g.stands h office × LeavesOnly g.may_leave g.opens_as h office

  -- whatever a crash leaves is opened as one of these two offices
  abbrev pub LeavesEither : O → OfficeLists → OfficeLists → Type 0
  LeavesEither h office next =
      (left : g.Left) → g.may_leave h left → g.opens_as left office ⊎ g.opens_as left next

  -- after a call that failed, what can still be asked stores the office as it was; and a crash
  -- leaves that office, or the one after the step of the call
  abbrev pub IsStoredOrNext : O → OfficeLists → OfficeLists → Type 0
  IsStoredOrNext h office next =
      (g.is_open h → g.stands h office) × LeavesEither h office next

  -- this holds of the office that was stored, where what stores it is reliable afterwards
  abbrev pub HoldsOfStored : O → O → (OfficeLists → Type 0) → Type 0
  HoldsOfStored old new Holds =
      g.is_reliable new → (office : OfficeLists) → IsStored old office → Holds office

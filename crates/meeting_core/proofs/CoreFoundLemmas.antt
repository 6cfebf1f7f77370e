-- The meeting that is found in an office.
use Rattle.std.proofs.Common.{◌≡◌, ℕ, List, true, Some, None, refl}
use Rattle.std.specs.Prelude.{IfSome}
use Rattle.desk_words.specs.Finding.{meeting_named}
use Rattle.desk_words.specs.Office.{is_office}
use Rattle.desk_words.specs.Ordered.{ascends_by}
use Rattle.desk_words.specs.Registers.{member_before}
use Rattle.desk_words.specs.declared.office.MeetingLists.{MeetingLists}
use Rattle.desk_words.specs.declared.office.OfficeLists.{OfficeLists}
use Rattle.desk_words.proofs.OfficeFacts.{found_facts, register_ascends}

-- its register is in the order of members
pub found_ascends : (office : OfficeLists) (id : List ℕ) → is_office office ≡ true → IfSome (meeting_named office.meetings id) (λ m. ascends_by member_before m.register ≡ true)
found_ascends office id h =
    (elim (meeting_named office.meetings id) as (λ found. meeting_named office.meetings id ≡ found → IfSome found (λ (m : MeetingLists). ascends_by member_before m.register ≡ true)) [
      | None ↦ λ e. tt
      | Some m ↦ λ e. register_ascends m (found_facts office id m h e)
    ]) refl

-- How what is left of an office joins.
use Rattle.std.proofs.Common.{◌⊎◌, inl, inr, ℕ, ◌≤◌, Option, None, arith}
use Rattle.any_office.specs.StoredOffice.{HasFailed, IsTransition}
use Rattle.desk_words.specs.declared.office.OfficeLists.{OfficeLists}
use Rattle.desk_words.specs.declared.request.Call.{Call}

module _ {H : Type 0} (IsReliable IsOpen : H → Type 0) (Stands : H → OfficeLists → Type 0) (faults : H → ℕ) where
  -- an office that is not asked is left as it was
  pub leaves_same : (h : H) → IsTransition IsReliable IsOpen Stands faults None h h
  leaves_same h = record {
    was_reliable = λ reliable. reliable;
    was_open = λ reliable is_open. is_open;
    closes = λ reliable is_open. inl is_open;
    counts = omega arith;
    stands = λ reliable is_open office stands. stands;
  }

  -- only a failure shuts it, in two calls as in one
  pub closes_then : (a b c : H) → faults a ≤ faults b → faults b ≤ faults c → IsOpen b ⊎ HasFailed (faults a) (faults b) → (IsOpen b → IsOpen c ⊎ HasFailed (faults b) (faults c))
      → IsOpen c ⊎ HasFailed (faults a) (faults c)
  closes_then a b c first next (inl is_open) two =
      elim (two is_open) as (λ (_ : IsOpen c ⊎ HasFailed (faults b) (faults c)). IsOpen c ⊎ HasFailed (faults a) (faults c)) [ inl still ↦ inl still | inr more ↦ inr (omega (arith, more, first)) ]
  closes_then a b c first next (inr more) two = inr (omega (arith, more, next))

  -- what is left of a reading is what is asked next
  pub leaves_then : (made : Option Call) (a b c : H) → IsTransition IsReliable IsOpen Stands faults None a b → IsTransition IsReliable IsOpen Stands faults made b c → IsTransition IsReliable IsOpen Stands faults made a c
  leaves_then made a b c one two = record {
    was_reliable = λ reliable. one.was_reliable (two.was_reliable reliable);
    was_open = λ reliable is_open. one.was_open (two.was_reliable reliable) (two.was_open reliable is_open);
    closes = λ reliable is_open. closes_then a b c one.counts two.counts (one.closes (two.was_reliable reliable) is_open) (two.closes reliable);
    counts = omega (arith, one.counts, two.counts);
    stands = λ reliable is_open office stands. two.stands reliable is_open office (one.stands (two.was_reliable reliable) (two.was_open reliable is_open) office stands);
  }

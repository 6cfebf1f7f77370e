-- A meeting with others in place of its resolutions, of which none is read.
use Rattle.std.proofs.Common.{◌≡◌, ℕ, zero, suc, true, false, not, cond, nat_le, List, length, map, filter, Some, refl, ap, ◌∙◌, arith}
use Rattle.std.specs.Cmp.{first_so}
use Rattle.std.specs.Cmp.Derive.{both_true}
use Rattle.std.proofs.lemmas.Bool.Decides.{nat_tests}
use Rattle.std.proofs.lemmas.List.{length-replicate}
use Rattle.desk_words.specs.Office.{is_resolution}
use Rattle.desk_words.specs.Rulings.{no_resolution}
use Rattle.desk_words.specs.Sessions.{session_at}
use Rattle.desk_words.specs.declared.records.Meeting.{Meeting}
use Rattle.party_views.specs.PublicRead.{counted_up_to, unread, up_to, with_unread}

-- there are as many
pub as_many : (count : ℕ) → length (unread count) ≡ count
as_many count = length-replicate count _

-- those up to a number have it exactly if all have
up_to-has : (number count : ℕ) → is_resolution (up_to number count) number ≡ is_resolution count number
up_to-has number count =
    (elim (is_resolution count number) as (λ b. is_resolution count number ≡ b → is_resolution (cond b number count) number ≡ b) [
      | true ↦ λ has. both_true (first_so (nat_le 1 number) (nat_le number count) has) (grind (arith, nat_tests))
      | false ↦ λ lacks. lacks
    ]) refl

-- a resolution is among those that stand in their place exactly if it is one of the meeting's
pub none-read : (m : Meeting) (number : ℕ) → no_resolution (counted_up_to (Some number) m) number ≡ no_resolution m number
none-read m number =
    let count = length m.resolutions in
    let alike = ap (λ n. is_resolution n number) (as_many (up_to number count)) ∙ up_to-has number count in
    λ i. record (no_resolution m number) { holds = not (alike i) }

pub session-unread : (count : ℕ) (m : Meeting) (number : ℕ) → session_at (with_unread count m) number ≡ session_at m number
session-unread count m zero = refl
session-unread count m (suc at) = refl

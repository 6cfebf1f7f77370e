-- The numbers of a member's appointments are tags.
use Rattle.std.proofs.Common.{◌≡◌, ℕ, suc, true, List, [], ◌∷◌, ◌++◌, length, refl, arith}
use Rattle.std.specs.Prelude.{◌==◌, count_by, nat_le}
use Rattle.std.specs.Cmp.{first_so, second_so}
use Rattle.std.specs.Cmp.Derive.{both_true}
use Rattle.std.specs.List.{list_all}
use Rattle.std.proofs.lemmas.Bool.Decides.{nat_tests}
use Rattle.vocabulary.specs.Names.{same_name}
use Rattle.desk_words.specs.Office.{is_appointment, are_appointments, are_numbered_after}
use Rattle.desk_words.specs.declared.records.Appointment.{Appointment}
use Rattle.share_blocks.specs.Tags.{is_tag}
use Rattle.proxy_rules.specs.Holdings.{are_tags}

pub is_tag-number : (a n : ℕ) → (a == suc n) ≡ true → nat_le a 256 ≡ true → is_tag a ≡ true
is_tag-number a n h k = grind (arith, nat_tests)

tags-after : (k : ℕ) (earlier given : List Appointment) → are_numbered_after earlier given ≡ true → list_all (is_appointment k) given ≡ true → are_tags given ≡ true
tags-after k earlier [] numbered each = refl
tags-after k earlier (a ∷ rest) numbered each =
    let n = count_by (λ (b : Appointment). same_name b.member a.member) earlier in
    let later = are_numbered_after (earlier ++ a ∷ []) rest in
    let few = first_so (nat_le a.number 256) (length a.instructions == k) (first_so (is_appointment k a) (list_all (is_appointment k) rest) each) in
    both_true (is_tag-number a.number n (first_so (a.number == suc n) later numbered) few)
    (tags-after k (earlier ++ a ∷ []) rest (second_so (a.number == suc n) later numbered) (second_so (is_appointment k a) (list_all (is_appointment k) rest) each))

-- the numbers of a meeting's appointments are tags
pub are_tags-appointments : (k : ℕ) (given : List Appointment) → are_appointments k given ≡ true → are_tags given ≡ true
are_tags-appointments k given h =
    tags-after k [] given (first_so (are_numbered_after [] given) (list_all (is_appointment k) given) h) (second_so (are_numbered_after [] given) (list_all (is_appointment k) given) h)

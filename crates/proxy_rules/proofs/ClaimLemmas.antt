-- Claims alone decide what an appointment governs.
use Rattle.std.proofs.Common.{◌≡◌, ℕ, suc, ◌+◌, Bool, true, false, cond, List, [], ◌∷◌, length, arith, refl, sym, ap, ◌∙◌}
use Rattle.std.specs.Prelude.{◌&&◌, ◌==◌, nat_le, Option, Some, None, find, map, option_and_then, option_map, reverse}
use Rattle.std.specs.Option.{option_map_or, option_or}
use Rattle.std.proofs.lemmas.Bool.{and_parts, eqb-true, le-leb, leb-true}
use Rattle.std.proofs.lemmas.Bool.Decides.{nat_tests}
use Rattle.std.specs.Cmp.{first_so, second_so}
use Rattle.std.proofs.lemmas.List.{reverse-append}
use Rattle.std.proofs.lemmas.List.Folds.{find-append}
use Rattle.vocabulary.specs.declared.range.TheConstants.{MOST_PLACES}
use Rattle.share_blocks.specs.Tags.{is_tag}
use Rattle.share_blocks.specs.declared.tag.TheConstants.{MOST_TAGS}
use Rattle.desk_words.specs.declared.records.Appointment.{Appointment}
use Rattle.proxy_rules.specs.Governing.{governed_in, governs, is_ended, is_over, unended}
use Rattle.proxy_rules.specs.Holdings.{IsValidHolding, are_numbered_from, are_tags, claim_of, claims_of, is_valid_holding}
use Rattle.proxy_rules.specs.Shares.{is_share}
use Rattle.proxy_rules.specs.declared.holdings.Holding.{Holding}
use Rattle.proxy_rules.specs.declared.meeting_records.Cutoffs.{Cutoffs}
use Rattle.proxy_rules.proofs.ProxyRunLemmas.{runs_that-alike}

either_claim : (a : Appointment) (o : Option Appointment) (b : Bool)
    → option_or (option_map claim_of o) (cond b (Some (claim_of a)) None) ≡ option_map claim_of (option_or o (cond b (Some a) None))
either_claim a (Some x) b = refl
either_claim a None true = refl
either_claim a None false = refl

-- the last claim that is over a place is that of the last appointment that is
last_claim : (cutoffs : Cutoffs) (place : ℕ) (given : List Appointment)
    → find (is_over cutoffs place) (reverse (map claim_of given)) ≡ option_map claim_of (find (is_over cutoffs place) (reverse given))
last_claim cutoffs place [] = refl
last_claim cutoffs place (a ∷ rest) =
    let over = is_over cutoffs place in
    ap (find over) (reverse-append (claim_of a ∷ []) (map claim_of rest))
    ∙ find-append over (reverse (map claim_of rest)) (claim_of a ∷ [])
    ∙ ap (λ o. option_or o (find over (claim_of a ∷ []))) (last_claim cutoffs place rest)
    ∙ either_claim a (find over (reverse rest)) (over a)
    ∙ ap (option_map claim_of) (sym (ap (find over) (reverse-append (a ∷ []) rest) ∙ find-append over (reverse rest) (a ∷ [])))

module _ (cutoffs : Cutoffs) (holding : Holding) (number : ℕ) where
  governed_so : (share : Bool) (o : Option Appointment)
      → option_map_or (λ (a : Appointment). a.number == number) (cond share (option_and_then (unended cutoffs (claims_of holding)) (option_map claim_of o)) None) false
      ≡ option_map_or (λ (a : Appointment). a.number == number) (cond share (option_and_then (unended cutoffs holding) o) None) false
  governed_so false o = refl
  governed_so true None = refl
  governed_so true (Some a) =
      elim (is_ended cutoffs holding a)
      as (λ b. option_map_or (λ (x : Appointment). x.number == number) (cond b None (Some (claim_of a))) false
      ≡ option_map_or (λ (x : Appointment). x.number == number) (cond b None (Some a)) false) [
        | true ↦ refl
        | false ↦ refl
      ]

  governs_alike : (place : ℕ) → governs cutoffs (claims_of holding) number place ≡ governs cutoffs holding number place
  governs_alike place =
      ap (λ o. option_map_or (λ (a : Appointment). a.number == number) (cond (is_share holding.shares place) (option_and_then (unended cutoffs (claims_of holding)) o) None) false)
      (last_claim cutoffs place holding.appointed)
      ∙ governed_so (is_share holding.shares place) (find (is_over cutoffs place) (reverse holding.appointed))

  pub governed_alike : governed_in cutoffs (claims_of holding) number ≡ governed_in cutoffs holding number
  governed_alike =
      runs_that-alike (governs cutoffs (claims_of holding) number) (governs cutoffs holding number) holding.shares
      (λ place low high. governs_alike place)

numbered_alike : (n : ℕ) (given : List Appointment) → are_numbered_from n (map claim_of given) ≡ are_numbered_from n given
numbered_alike n [] = refl
numbered_alike n (a ∷ rest) = ap (λ b. (a.number == suc n) && b) (numbered_alike (suc n) rest)

tags_alike : (given : List Appointment) → are_tags (map claim_of given) ≡ are_tags given
tags_alike [] = refl
tags_alike (a ∷ rest) = ap (λ b. is_tag a.number && b) (tags_alike rest)

-- an office keeps a holding exactly where its claims say so
pub valid_alike : (holding : Holding) → is_valid_holding (claims_of holding) ≡ is_valid_holding holding
valid_alike holding =
    ap (λ b. (b && are_tags (map claim_of holding.appointed)) && nat_le holding.shares MOST_PLACES) (numbered_alike 0 holding.appointed)
    ∙ ap (λ b. (are_numbered_from 0 holding.appointed && b) && nat_le holding.shares MOST_PLACES) (tags_alike holding.appointed)

pub claims_valid : (holding : Holding) → IsValidHolding holding → IsValidHolding (claims_of holding)
claims_valid holding valid = record {
  numbered = numbered_alike 0 holding.appointed ∙ valid.numbered;
  tagged = tags_alike holding.appointed ∙ valid.tagged;
  few = valid.few;
}

pub valid_so : (holding : Holding) → is_valid_holding holding ≡ true → IsValidHolding holding
valid_so holding is =
    let all = and_parts (are_numbered_from 0 holding.appointed && are_tags holding.appointed) (nat_le holding.shares MOST_PLACES) is in
    let listed = and_parts (are_numbered_from 0 holding.appointed) (are_tags holding.appointed) all.0 in
    record { numbered = listed.0; tagged = listed.1; few = leb-true holding.shares MOST_PLACES all.1 }

-- of appointments that are numbered on from n the numbers are tags exactly where the last is
pub tags_few : (n : ℕ) (given : List Appointment) → are_numbered_from n given ≡ true → nat_le n MOST_TAGS ≡ true → nat_le (n + length given) MOST_TAGS ≡ are_tags given
tags_few n [] all low = ap (λ m. nat_le m MOST_TAGS) (none_more n) ∙ low
  where
    none_more : (n : ℕ) → n + 0 ≡ n
    none_more n = omega arith
tags_few n (a ∷ rest) all low =
    let here : a.number ≡ suc n = eqb-true a.number (suc n) (first_so (a.number == suc n) (are_numbered_from (suc n) rest) all) in
    let others = second_so (a.number == suc n) (are_numbered_from (suc n) rest) all in
    ap (λ m. nat_le m MOST_TAGS) (one_more n (length rest))
    ∙ (elim (nat_le (suc n) MOST_TAGS) as (λ b. nat_le (suc n) MOST_TAGS ≡ b → nat_le (suc n + length rest) MOST_TAGS ≡ (b && are_tags rest)) [
      | true ↦ λ is. tags_few (suc n) rest others is
      | false ↦ λ is. too_many n (length rest) is
    ]) refl
    ∙ ap (λ b. (b && nat_le (suc n) MOST_TAGS) && are_tags rest) (sym (one_first n))
    ∙ ap (λ m. (nat_le 1 m && nat_le m MOST_TAGS) && are_tags rest) (sym here)
  where
    one_first : (n : ℕ) → nat_le 1 (suc n) ≡ true
    one_first n = le-leb 1 (suc n) (omega arith)

    one_more : (n m : ℕ) → n + suc m ≡ suc n + m
    one_more n m = omega arith

    too_many : (n m : ℕ) → nat_le (suc n) MOST_TAGS ≡ false → nat_le (suc n + m) MOST_TAGS ≡ false
    too_many n m is = grind (arith, nat_tests, is)

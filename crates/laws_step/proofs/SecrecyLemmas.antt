-- The votes on one resolution, among those that are not on another.
use Rattle.std.proofs.Common.{◌≡◌, ℕ, Bool, true, false, not, cond, List, [], ◌∷◌, filter, refl, ap, arith}
use Rattle.std.specs.Prelude.{◌==◌}
use Rattle.std.proofs.lemmas.Bool.Decides.{nat_tests}
use Rattle.desk_words.specs.declared.records.CastMark.{CastMark}
use Rattle.vote_rules.specs.TallyLaws.{casts_on}
use Rattle.laws_step.specs.Secrecy.{casts_off}

-- where what passes one test passes another too, it is found among what passes that
pub filter-within : {X : Type 0} (test wider : X → Bool) (xs : List X) → ((x : X) → test x ≡ true → wider x ≡ true) → filter test (filter wider xs) ≡ filter test xs
filter-within test wider [] within = refl
filter-within test wider (x ∷ xs) within =
    (elim (wider x) as (λ w. wider x ≡ w → filter test (cond w (x ∷ filter wider xs) (filter wider xs)) ≡ filter test (x ∷ xs)) [
      | true ↦ λ stays. ap (λ l. cond (test x) (x ∷ l) l) (filter-within test wider xs within)
      | false ↦ λ goes. (elim (test x) as (λ t. test x ≡ t → filter test (filter wider xs) ≡ cond t (x ∷ filter test xs) (filter test xs)) [
        | true ↦ λ passes. absurd (let is : wider x ≡ true = within x passes in cc)
        | false ↦ λ fails. filter-within test wider xs within
      ]) refl
    ]) refl

pub on-off : (asked resolution : ℕ) (casts : List CastMark) → (asked == resolution) ≡ false → casts_on asked (casts_off resolution casts) ≡ casts_on asked casts
on-off asked resolution casts other =
    filter-within (λ (c : CastMark). c.resolution == asked) (λ (c : CastMark). not (c.resolution == resolution)) casts
    (λ c is. grind (arith, nat_tests, is, other))

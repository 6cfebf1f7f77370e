-- Replies that are the same without their results.
use Rattle.std.proofs.Common.{true≢false, ◌≡◌, inl, inr, ℕ, Bool, true, false, List, [], ◌∷◌, map, refl, ap, sym, ◌∙◌}
use Rattle.std.specs.List.{AllZip}
use Rattle.desk_words.specs.declared.reply.Declaration.{Declaration}
use Rattle.desk_words.specs.declared.reply.Reply.{Reply}
use Rattle.desk_words.specs.declared.reply.Reply.TheVariants as reply
use Rattle.laws_run.specs.SecretCalls.{without_result}
use Rattle.laws_text.specs.TextSecrecy.{AreSameButResult}

-- the reply declares a result
abbrev is_result : Reply → Bool
is_result (reply.Declared result) = true
is_result other = false

result-without : (exchanged : Reply) → is_result (without_result exchanged) ≡ is_result exchanged
result-without (reply.Declared result) = refl
result-without other = refl

no-result : (exchanged : Reply) → is_result exchanged ≡ false → without_result exchanged ≡ exchanged
no-result (reply.Declared result) none = absurd (true≢false none)
no-result other none = refl

a-result : (exchanged : Reply) → is_result exchanged ≡ true → (result : Declaration) × (exchanged ≡ reply.Declared result)
a-result (reply.Declared result) is = (result, refl)
a-result other is = absurd (true≢false (sym is))

pub same-but-result : (text_of : Reply → List ℕ) (one other : Reply) → without_result one ≡ without_result other → AreSameButResult text_of (text_of one) (text_of other)
same-but-result text_of one other same =
    (elim (is_result one) as (λ b. is_result one ≡ b → AreSameButResult text_of (text_of one) (text_of other)) [
      | true ↦ λ is. (
          let first = a-result one is in
          let second = a-result other (sym (result-without other) ∙ ap is_result (sym same) ∙ result-without one ∙ is) in
          inr (record { result = first.0; again = second.0; first = ap text_of first.1; second = ap text_of second.1 }))
      | false ↦ λ none. (
          let none_other = sym (result-without other) ∙ ap is_result (sym same) ∙ result-without one ∙ none in
          inl (ap text_of (sym (no-result one none) ∙ same ∙ no-result other none_other)))
    ]) refl

pub each-but-result : (text_of : Reply → List ℕ) (one other : List Reply) → map without_result one ≡ map without_result other → AllZip (AreSameButResult text_of) (map text_of one) (map text_of other)
each-but-result text_of [] [] same = tt
each-but-result text_of [] (y ∷ ys) same = absurd (cc)
each-but-result text_of (x ∷ xs) [] same = absurd (cc)
each-but-result text_of (x ∷ xs) (y ∷ ys) same =
    let first : without_result x ≡ without_result y = cc in
    let rest : map without_result xs ≡ map without_result ys = cc in (same-but-result text_of x y first, each-but-result text_of xs ys rest)

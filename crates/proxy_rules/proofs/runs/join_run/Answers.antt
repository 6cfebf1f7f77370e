use Rattle.std.proofs.Common.{◌≡◌, ℕ, ◌+◌, ◌-◌, ◌++◌, ◌∷◌, [], set, refl, ap, ◌∙◌, arith}
use Rattle.std.specs.Prelude.{vec_len}
use Rattle.std.proofs.lemmas.List.{set-get_or}
use Rattle.proxy_rules.proofs.ProxyRunLemmas.{set-joined, push-joined}
use Rattle.proxy_rules.proofs.runs.join_run.Goals as goal

pub returns-in-Some : goal.returns-in-Some
returns-in-Some c =
    let runs = c.args.runs.now in
    let last = c.in-Some.last.now in
    let some = c.in-Some.ensures.variant.0 refl in
    let ends : last.to + 1 ≡ c.args.run.from = omega (arith, c.to.ensures.value, c.from.ensures.value, c.if-to-from.true) in
    let made : c.with_ends.result ≡ record { from = last.from; to = c.args.run.to } =
    c.with_ends.ensures ∙ (λ i. record { from = c.from-in-Some.ensures.value i; to = c.to-in-Some.ensures.value i }) in
    set-joined runs.items last c.args.run c.with_ends.result (vec_len runs - 1) (omega (arith, runs.ok.0, some)) c.in-Some.ensures.value ends made

pub returns-in_ok-push-in-Some-2 : goal.returns-in_ok-push-in-Some-2
returns-in_ok-push-in-Some-2 c =
    let runs = c.args.runs.now in
    let last = c.in-Some.last.now in
    let some = c.in-Some.ensures.variant.0 refl in
    let valid : set runs.items (vec_len runs - 1) last ≡ runs.items = ap (set runs.items (vec_len runs - 1)) c.in-Some.ensures.value ∙ set-get_or runs.items (vec_len runs - 1) last in
    c.in_ok-push-in-Some-2.ensures.items
    ∙ ap (λ l. l ++ c.args.run ∷ []) valid
    ∙ push-joined runs.items last c.args.run (vec_len runs - 1) (omega (arith, runs.ok.0, some)) c.in-Some.ensures.value
    (λ ends. c.if-to-from.false (c_ends c.to.result c.from.result last.to c.args.run.from c.to.ensures.value c.from.ensures.value ends))
  where
    c_ends : (a b m n : ℕ) → a ≡ m → b ≡ n → m + 1 ≡ n → a + 1 ≡ b
    c_ends a b m n p q r = omega arith

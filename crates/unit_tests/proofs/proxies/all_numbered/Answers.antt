use Rattle.std.proofs.Common.{◌≡◌, ℕ, suc, ◌+◌, ◌<◌, List, [], ◌∷◌, ◌++◌, length, get_or, take, drop, sym, ap, ◌∙◌, arith, drop-cons}
use Rattle.std.specs.Prelude.{◌&&◌, ◌==◌, count_by}
use Rattle.std.proofs.lemmas.List.{take_more}
use Rattle.desk_words.specs.Names.{same_name}
use Rattle.desk_words.specs.Office.{are_numbered_after}
use Rattle.desk_words.specs.declared.records.Appointment.{Appointment}
use Rattle.unit_tests.proofs.proxies.all_numbered.Goals as goal

-- one appointment more
one : (given : List Appointment) (i : ℕ) (a : Appointment) → i < length given → a ≡ get_or given i a
    → are_numbered_after (take i given) (drop i given)
    ≡ ((a.number == suc (count_by (λ (b : Appointment). same_name b.member a.member) (take i given))) && are_numbered_after (take (i + 1) given) (drop (i + 1) given))
one given i a lt is =
    let next = a.number == suc (count_by (λ (b : Appointment). same_name b.member a.member) (take i given)) in
    let up : suc i ≡ i + 1 = omega arith in
    ap (are_numbered_after (take i given)) (drop-cons given i a lt ∙ ap (λ x. x ∷ drop (suc i) given) (sym is))
    ∙ ap (λ l. next && are_numbered_after l (drop (suc i) given)) (sym (take_more given i a lt ∙ ap (λ y. take i given ++ y ∷ []) (sym is)))
    ∙ ap (λ n. next && are_numbered_after (take (i + 1) given) (drop n given)) up

pub returns-then-not-is_next : goal.returns-then-not-is_next
returns-then-not-is_next c =
    let given = c.args.given.now in
    let i = c.loop-index.index in
    sym (c.loop-index.invariant ∙ one given i c.index-given-index.result c.loop-index-test.true c.index-given-index.is
    ∙ ap (λ b. b && are_numbered_after (take (i + 1) given) (drop (i + 1) given)) (sym c.is_next.ensures ∙ c.if-not-is_next.true))

pub loop-index-preserved : goal.loop-index-preserved
loop-index-preserved c =
    let given = c.args.given.now in
    let i = c.loop-index.index in
    c.loop-index.invariant ∙ one given i c.index-given-index.result c.loop-index-test.true c.index-given-index.is
    ∙ ap (λ b. b && are_numbered_after (take (i + 1) given) (drop (i + 1) given)) (sym c.is_next.ensures ∙ c.if-not-is_next.false)

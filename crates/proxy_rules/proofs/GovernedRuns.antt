-- The runs of the shares that an appointment governs.
use Rattle.std.proofs.Common.{◌≡◌, ℕ, Bool, true, false, cond, List, [], ◌∷◌, ◌++◌, refl, sym, ap, ◌∙◌}
use Rattle.std.specs.Prelude.{◌↔◌, ◌&&◌, ◌||◌, ◌==◌, Option, Some, None, IsTrue, filter, find, option_map, option_and_then, reverse}
use Rattle.std.specs.List.{list_any}
use Rattle.std.specs.Option.{option_map_or, option_or}
use Rattle.std.proofs.lemmas.Bool.{eq-eqb, eqb-true}
use Rattle.std.proofs.lemmas.List.{reverse-append}
use Rattle.std.proofs.lemmas.List.Elements.{filter-append}
use Rattle.std.proofs.lemmas.List.Folds.{find-append, list_any-append}
use Rattle.seq.proofs.Booleans.{neither_first, neither_second}
use Rattle.desk_words.specs.declared.records.Appointment.{Appointment}
use Rattle.desk_words.specs.declared.records.Ending.{Ending}
use Rattle.proxy_rules.specs.declared.holdings.Holding.{Holding}
use Rattle.proxy_rules.specs.Governing.{ends, governs, has_share, is_ended, is_over, last_over, unended}
use Rattle.proxy_rules.specs.Holdings.{holding_of, is_ended_of}
use Rattle.proxy_rules.specs.GoverningLaws.{EarlierTakeNothing, EndingsReviveNothing, RunsHoldWhatGoverns, has_number}
use Rattle.proxy_rules.specs.PlaceRuns.{runs_that}
use Rattle.proxy_rules.proofs.ProxyRunLemmas.{are_in-runs_that}

-- ---- the runs that an appointment governs, place by place

-- the appointment found for a share has that number exactly where its number is the one that governs
by_number : (share : Bool) (found : Option Appointment) (number : ℕ)
    → IsTrue (share && option_map_or (λ (a : Appointment). a.number == number) (cond share found None) false) ↔ (option_map (λ (a : Appointment). a.number) (cond share found None) ≡ Some number)
by_number false found number = (λ h. absurd (cc), λ h. absurd (cc))
by_number true None number = (λ h. absurd (cc), λ h. absurd (cc))
by_number true (Some a) number = (λ h. ap (λ n. Some n) (eqb-true a.number number h), λ h. eq-eqb a.number number (cc))

pub runs_hold : RunsHoldWhatGoverns
runs_hold cutoffs holding number place =
    let same = are_in-runs_that (governs cutoffs holding number) holding.shares place in
    let either = by_number (has_share holding place) (option_and_then (unended cutoffs holding) (last_over cutoffs holding place)) number in
    (λ h. either.0 (sym same ∙ h), λ h. same ∙ either.1 h)

-- ---- an ending more

less_ended : (either more : Bool) (a b : Appointment) → cond (either || more) None (Some a) ≡ Some b → cond either None (Some a) ≡ Some b
less_ended true more a b h = absurd (cc)
less_ended false true a b h = absurd (cc)
less_ended false false a b h = h

no_revival : (test : Appointment → Ending → Bool) (ended more : List Ending) (o : Option Appointment) (b : Appointment)
    → option_and_then (λ a. cond (list_any (test a) (ended ++ more)) None (Some a)) o ≡ Some b → option_and_then (λ a. cond (list_any (test a) ended) None (Some a)) o ≡ Some b
no_revival test ended more None b h = h
no_revival test ended more (Some a) b h =
    less_ended (list_any (test a) ended) (list_any (test a) more) a b (sym (ap (λ c. cond c None (Some a)) (list_any-append (test a) ended more)) ∙ h)

share_alone : (share : Bool) (o other : Option Appointment) (b : Appointment) → (o ≡ Some b → other ≡ Some b) → cond share o None ≡ Some b → cond share other None ≡ Some b
share_alone true o other b so h = so h
share_alone false o other b so h = h

pub revive_nothing : EndingsReviveNothing
revive_nothing cutoffs register given ended ending member place a h =
    let holding = holding_of register given ended member in
    let last = last_over cutoffs holding place in
    let test = λ (x : Appointment) (e : Ending). ends cutoffs x.number e in
    share_alone (has_share holding place)
    (option_and_then (λ x. cond (list_any (test x) (filter (is_ended_of member) ended ++ filter (is_ended_of member) (ending ∷ []))) None (Some x)) last)
    (option_and_then (unended cutoffs holding) last) a
    (no_revival test (filter (is_ended_of member) ended) (filter (is_ended_of member) (ending ∷ [])) last a)
    (ap (λ l. cond (has_share holding place) (option_and_then (λ x. cond (list_any (test x) l) None (Some x)) last) None) (sym (filter-append (is_ended_of member) ended (ending ∷ []))) ∙ h)

-- ---- appointments received earlier

pub not_found : (p : Appointment → Bool) (number : ℕ) (xs : List Appointment) → list_any (has_number number) xs ≡ false
    → option_map_or (has_number number) (find p xs) false ≡ false
not_found p number [] none = refl
not_found p number (x ∷ xs) none =
    let here = neither_first (x.number == number) (list_any (has_number number) xs) none in
    let rest = neither_second (x.number == number) (list_any (has_number number) xs) none in
    elim (p x) as (λ b. option_map_or (has_number number) (cond b (Some x) (find p xs)) false ≡ false) [ true ↦ here | false ↦ not_found p number xs rest ]

pub any-reversed : (number : ℕ) (xs : List Appointment) → list_any (has_number number) xs ≡ false → list_any (has_number number) (reverse xs) ≡ false
any-reversed number [] none = refl
any-reversed number (x ∷ xs) none =
    let here = neither_first (x.number == number) (list_any (has_number number) xs) none in
    let rest = neither_second (x.number == number) (list_any (has_number number) xs) none in
    ap (list_any (has_number number)) (reverse-append (x ∷ []) xs)
    ∙ list_any-append (has_number number) (reverse xs) (x ∷ [])
    ∙ ap (λ b. b || list_any (has_number number) (x ∷ [])) (any-reversed number xs rest)
    ∙ ap (λ b. b || false) here

pub ended_or_not : (share is_ended : Bool) (number : ℕ) (a : Appointment) → has_number number a ≡ false → option_map_or (has_number number) (cond share (cond is_ended None (Some a)) None) false ≡ false
ended_or_not true true number a none = refl
ended_or_not true false number a none = none
ended_or_not false is_ended number a none = refl

pub none_past : (share : Bool) (number : ℕ) → false ≡ option_map_or (has_number number) (cond share None None) false
none_past true number = refl
none_past false number = refl

or_else : (has_ended : Appointment → Bool) (share : Bool) (number : ℕ) (o other : Option Appointment) → option_map_or (has_number number) other false ≡ false
    → option_map_or (has_number number) (cond share (option_and_then (λ a. cond (has_ended a) None (Some a)) (option_or o other)) None) false
    ≡ option_map_or (has_number number) (cond share (option_and_then (λ a. cond (has_ended a) None (Some a)) o) None) false
or_else has_ended share number None None none = refl
or_else has_ended share number None (Some a) none = ended_or_not share (has_ended a) number a none ∙ none_past share number
or_else has_ended share number (Some a) other none = refl

pub earlier_nothing : EarlierTakeNothing
earlier_nothing cutoffs shares earlier later ended number none =
    let holding : Holding = record { shares = shares; appointed = later; ended = ended } in
    ap (λ test. runs_that test shares)
    (λ i place. (
    ap (λ o. option_map_or (has_number number) (cond (has_share holding place) (option_and_then (unended cutoffs holding) o) None) false)
    (ap (find (is_over cutoffs place)) (reverse-append earlier later) ∙ find-append (is_over cutoffs place) (reverse later) (reverse earlier))
    ∙ or_else (is_ended cutoffs holding) (has_share holding place) number (find (is_over cutoffs place) (reverse later)) (find (is_over cutoffs place) (reverse earlier))
    (not_found (is_over cutoffs place) number (reverse earlier) (any-reversed number earlier none))) i)

-- Two persons who qualify.
use Rattle.std.proofs.Common.{◌≡◌, ℕ, Bool, true, false, List, [], ◌∷◌, ◌++◌, map, length, take, drop, take-append-drop, refl, sym, ap, ◌∙◌, arith, true≢false}
use Rattle.std.specs.Prelude.{Option, Some, None, ◌&&◌, ◌||◌, not, find}
use Rattle.std.specs.List.{list_any}
use Rattle.std.specs.Option.{option_map_or}
use Rattle.seq.proofs.Filtered.{found-any, found-passes, none-found, none-narrower}
use Rattle.std.proofs.lemmas.Bool.{not-false, or_left, or_right}
use Rattle.std.proofs.lemmas.List.{map-append}
use Rattle.std.proofs.lemmas.List.Folds.{list_any-append}
use Rattle.std.specs.Cmp.{first_so, second_so}
use Rattle.vocabulary.specs.Names.{same_name}
use Rattle.vocabulary.specs.declared.kinds.Capacity.{Capacity}
use Rattle.vocabulary.specs.declared.kinds.Capacity.TheVariants.{Member, Rep, Proxy}
use Rattle.desk_words.proofs.WordRowLemmas.{same_name-refl, same_name-true}
use Rattle.desk_words.specs.declared.records.PresenceMark.{PresenceMark}
use Rattle.desk_words.specs.declared.records.RegisterRow.{RegisterRow}
use Rattle.poll_rules.specs.GatheredItems.{are_in}
use Rattle.poll_rules.specs.Pairs.{first_qualifying, is_second, two_with_the_first}
use Rattle.poll_rules.specs.Quorum.{are_two, is_quorum, qualifies, same_role}
use Rattle.proxy_rules.specs.Parties.{same_capacity}
use Rattle.poll_rules.specs.declared.roles.Role.{Role}
use Rattle.poll_rules.proofs.GatherLemmas.{list_any-map}

-- ---- roles that are the same

same_capacity-true : (a b : Capacity) → same_capacity a b ≡ true → a ≡ b
same_capacity-true Member Member h = refl
same_capacity-true Rep Rep h = refl
same_capacity-true Proxy Proxy h = refl
same_capacity-true Member Rep h = absurd (cc)
same_capacity-true Member Proxy h = absurd (cc)
same_capacity-true Rep Member h = absurd (cc)
same_capacity-true Rep Proxy h = absurd (cc)
same_capacity-true Proxy Member h = absurd (cc)
same_capacity-true Proxy Rep h = absurd (cc)

same_role-true : (a b : Role) → same_role a b ≡ true → a ≡ b
same_role-true a b h =
    let capacity = same_capacity-true a.capacity b.capacity (first_so (same_capacity a.capacity b.capacity) (same_name a.member b.member) h) in
    let member = same_name-true a.member b.member (second_so (same_capacity a.capacity b.capacity) (same_name a.member b.member) h) in
    λ i. record { capacity = capacity i; member = member i }

-- ---- those who are no pair with the first

same_sole : (x y : Role) → are_two (x ∷ []) (y ∷ []) ≡ false → x ≡ y
same_sole x y h = same_role-true x y (not-false (same_role x y) h)

pub no_pair : (first one other : List Role) → qualifies first ≡ true → are_two first one ≡ false → are_two first other ≡ false → are_two one other ≡ false
no_pair [] one other some h k = absurd (true≢false (sym some))
no_pair (x ∷ []) [] other some h k = refl
no_pair (x ∷ []) (y ∷ []) other some h k = ap (λ role. are_two (role ∷ []) other) (sym (same_sole x y h)) ∙ k
no_pair (x ∷ []) (y ∷ z ∷ zs) other some h k = absurd (true≢false h)
no_pair (x ∷ w ∷ ws) [] other some h k = refl
no_pair (x ∷ w ∷ ws) (y ∷ ys) other some h k = absurd (true≢false h)

pub no_pair_back : (first one : List Role) → qualifies first ≡ true → are_two first one ≡ false → are_two one first ≡ false
no_pair_back [] one some h = absurd (true≢false (sym some))
no_pair_back (x ∷ []) [] some h = refl
no_pair_back (x ∷ []) (y ∷ []) some h =
    ap (λ role. are_two (role ∷ []) (x ∷ [])) (sym (same_sole x y h))
    ∙ ap (λ role. are_two (x ∷ []) (role ∷ [])) (same_sole x y h)
    ∙ h
no_pair_back (x ∷ []) (y ∷ z ∷ zs) some h = absurd (true≢false h)
no_pair_back (x ∷ w ∷ ws) [] some h = refl
no_pair_back (x ∷ w ∷ ws) (y ∷ ys) some h = absurd (true≢false h)

not_qualified : (one other : List Role) → qualifies one ≡ false → are_two one other ≡ false
not_qualified [] other h = refl
not_qualified (x ∷ xs) other h = absurd (true≢false h)

-- ---- a pair among persons

module _ (roles : List ℕ → List Role) where
  abbrev pair : List ℕ → List ℕ → Bool
  pair person other = not (same_name person other) && are_two (roles person) (roles other)

  -- who is no pair with the first is none with another who is none with it
  none_without : (first one other : List ℕ) → qualifies (roles first) ≡ true → pair first one ≡ false → pair first other ≡ false → pair one other ≡ false
  none_without first one other some h k =
      (elim (same_name first one) as (λ b. same_name first one ≡ b → (not b && are_two (roles first) (roles one)) ≡ false → pair one other ≡ false) [
        | true ↦ λ e _. ap (λ person. pair person other) (sym (same_name-true first one e)) ∙ k
        | false ↦ λ _ apart. (elim (same_name first other) as (λ b. same_name first other ≡ b → (not b && are_two (roles first) (roles other)) ≡ false → pair one other ≡ false) [
          | true ↦ λ e _. and_false (not (same_name one other)) (ap (λ person. are_two (roles one) (roles person)) (sym (same_name-true first other e)) ∙ no_pair_back (roles first) (roles one) some apart)
          | false ↦ λ _ alone. and_false (not (same_name one other)) (no_pair (roles first) (roles one) (roles other) some apart alone)
        ]) refl k
      ]) refl h
    where
      and_false : (a : Bool) {b : Bool} → b ≡ false → (a && b) ≡ false
      and_false true h = h
      and_false false h = refl

  any_pair : (present : List PresenceMark) (o : Option PresenceMark) → find (λ (mark : PresenceMark). qualifies (roles mark.party)) present ≡ o
      → list_any (λ (mark : PresenceMark). list_any (is_second roles mark.party) present) present ≡ option_map_or (λ (first : PresenceMark). list_any (is_second roles first.party) present) o false
  any_pair present None none =
      none-narrower (λ (mark : PresenceMark). qualifies (roles mark.party)) (λ (mark : PresenceMark). list_any (is_second roles mark.party) present) present
      (λ mark not_one. none-narrower (λ (other : PresenceMark). false) (is_second roles mark.party) present (λ other _. unpaired mark other not_one) (all_false present))
      (none-found (λ (mark : PresenceMark). qualifies (roles mark.party)) present none)
    where
      all_false : (xs : List PresenceMark) → list_any (λ (other : PresenceMark). false) xs ≡ false
      all_false [] = refl
      all_false (x ∷ xs) = all_false xs

      unpaired : (mark other : PresenceMark) → qualifies (roles mark.party) ≡ false → is_second roles mark.party other ≡ false
      unpaired mark other h = and_false (not (same_name mark.party other.party)) (not_qualified (roles mark.party) (roles other.party) h)
        where
          and_false : (a : Bool) {b : Bool} → b ≡ false → (a && b) ≡ false
          and_false true h = h
          and_false false h = refl
  any_pair present (Some first) found =
      (elim (list_any (is_second roles first.party) present) as (λ b. list_any (is_second roles first.party) present ≡ b → list_any (λ (mark : PresenceMark). list_any (is_second roles mark.party) present) present ≡ b) [
        | true ↦ λ some. found-any (λ (mark : PresenceMark). qualifies (roles mark.party)) (λ (mark : PresenceMark). list_any (is_second roles mark.party) present) present first found some
        | false ↦ λ none.
            none-narrower (is_second roles first.party) (λ (mark : PresenceMark). list_any (is_second roles mark.party) present) present
            (λ one h. none-narrower (is_second roles first.party) (is_second roles one.party) present
            (λ other k. none_without first.party one.party other.party (found-passes (λ (mark : PresenceMark). qualifies (roles mark.party)) present first found) h k) none)
            none
      ]) refl

  -- two persons are a pair exactly where one is with the first who qualifies
  pub two-present : (present : List PresenceMark)
      → list_any (λ person. list_any (λ other. not (same_name person other) && are_two (roles person) (roles other)) (map (λ (mark : PresenceMark). mark.party) present)) (map (λ (mark : PresenceMark). mark.party) present)
      ≡ two_with_the_first roles present
  two-present present =
      list_any-map (λ person. list_any (pair person) (map (λ (mark : PresenceMark). mark.party) present)) (λ (mark : PresenceMark). mark.party) present
      ∙ ap (λ test. list_any test present) (λ i (mark : PresenceMark). list_any-map (pair mark.party) (λ (other : PresenceMark). other.party) present i)
      ∙ any_pair present (first_qualifying roles present) refl

-- ---- the quorum by how many rows are counted

pub quorum-one : (rows : List RegisterRow) (roles : List ℕ → List Role) (present : List PresenceMark) → length rows ≡ 1
    → list_any (λ (mark : PresenceMark). qualifies (roles mark.party)) present ≡ is_quorum rows roles (map (λ (mark : PresenceMark). mark.party) present)
quorum-one [] roles present len = absurd (omega arith)
quorum-one (row ∷ []) roles present len = sym (list_any-map (λ person. qualifies (roles person)) (λ (mark : PresenceMark). mark.party) present)
quorum-one (row ∷ second ∷ rows) roles present len = absurd (omega arith)

pub quorum-more : (rows : List RegisterRow) (roles : List ℕ → List Role) (present : List PresenceMark) → (length rows ≡ 0 → ⊥) → (length rows ≡ 1 → ⊥)
    → two_with_the_first roles present ≡ is_quorum rows roles (map (λ (mark : PresenceMark). mark.party) present)
quorum-more [] roles present some more = absurd (some refl)
quorum-more (row ∷ []) roles present some more = absurd (more (omega arith))
quorum-more (row ∷ second ∷ rows) roles present some more = sym (two-present roles present)

-- ---- roles of those who are present

-- tests that agree on each of the persons
any-agree : (p q : List ℕ → Bool) (persons : List (List ℕ)) → ((person : List ℕ) → are_in persons person ≡ true → p person ≡ q person) → list_any p persons ≡ list_any q persons
any-agree p q [] same = refl
any-agree p q (x ∷ xs) same =
    let first = same x (ap (λ b. b || are_in xs x) (same_name-refl x)) in
    let rest = any-agree p q xs (λ person h. same person (or_right (same_name x person) (are_in xs person) h)) in
    λ k. first k || rest k

-- the roles of nobody else are asked
pub quorum-agree : (rows : List RegisterRow) (roles others : List ℕ → List Role) (present : List (List ℕ)) → ((person : List ℕ) → are_in present person ≡ true → roles person ≡ others person)
    → is_quorum rows roles present ≡ is_quorum rows others present
quorum-agree [] roles others present same = refl
quorum-agree (row ∷ []) roles others present same =
    any-agree (λ person. qualifies (roles person)) (λ person. qualifies (others person)) present (λ person h. ap qualifies (same person h))
quorum-agree (row ∷ second ∷ rows) roles others present same =
    any-agree (λ person. list_any (λ other. not (same_name person other) && are_two (roles person) (roles other)) present)
    (λ person. list_any (λ other. not (same_name person other) && are_two (others person) (others other)) present) present
    (λ person h. any-agree (λ other. not (same_name person other) && are_two (roles person) (roles other)) (λ other. not (same_name person other) && are_two (others person) (others other)) present
    (λ other k. λ i. not (same_name person other) && are_two (same person h i) (same other k i)))

-- ---- a quorum of some of those who are present

-- what some pass, some pass who are asked more widely
any-wider : (p q : List ℕ → Bool) (persons : List (List ℕ)) → ((person : List ℕ) → p person ≡ true → q person ≡ true) → list_any p persons ≡ true → list_any q persons ≡ true
any-wider p q [] wider h = h
any-wider p q (x ∷ xs) wider h =
    (elim (p x) as (λ b. p x ≡ b → (b || list_any p xs) ≡ true → (q x || list_any q xs) ≡ true) [
      | true ↦ λ here _. or_left (q x) (list_any q xs) (wider x here)
      | false ↦ λ _ rest. or_right (q x) (list_any q xs) (any-wider p q xs wider rest)
    ]) refl h

any-beside : (p : List ℕ → Bool) (some others : List (List ℕ)) → list_any p some ≡ true → list_any p (some ++ others) ≡ true
any-beside p some others h = list_any-append p some others ∙ or_left (list_any p some) (list_any p others) h

-- who make a quorum make one beside others
quorum-beside : (rows : List RegisterRow) (roles : List ℕ → List Role) (some others : List (List ℕ)) → is_quorum rows roles some ≡ true → is_quorum rows roles (some ++ others) ≡ true
quorum-beside [] roles some others h = h
quorum-beside (row ∷ []) roles some others h = any-beside (λ person. qualifies (roles person)) some others h
quorum-beside (row ∷ second ∷ rows) roles some others h =
    any-beside (λ person. list_any (pair roles person) (some ++ others)) some others
    (any-wider (λ person. list_any (pair roles person) some) (λ person. list_any (pair roles person) (some ++ others)) some (λ person. any-beside (pair roles person) some others) h)

-- so the first of those who are present, if they make one, make it for all
pub quorum-of_first : (rows : List RegisterRow) (roles : List ℕ → List Role) (n : ℕ) (present : List PresenceMark) → is_quorum rows roles (map (λ (mark : PresenceMark). mark.party) (take n present)) ≡ true
    → is_quorum rows roles (map (λ (mark : PresenceMark). mark.party) present) ≡ true
quorum-of_first rows roles n present h =
    let party = λ (mark : PresenceMark). mark.party in
    ap (λ (marks : List PresenceMark). is_quorum rows roles (map party marks)) (sym (take-append-drop n present))
    ∙ ap (is_quorum rows roles) (map-append party (take n present) (drop n present))
    ∙ quorum-beside rows roles (map party (take n present)) (map party (drop n present)) h

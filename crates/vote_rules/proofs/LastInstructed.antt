-- Of a voter's records as instructed the last suffices.
use Rattle.std.proofs.Common.{◌≡◌, ℕ, ◌+◌, ◌<◌, ◌≤◌, Bool, true, false, cond, List, [], ◌∷◌, refl, sym, ap, ◌∙◌, arith}
use Rattle.std.specs.Prelude.{Option, Some, None, nat_lt, reverse}
use Rattle.std.specs.List.{enumerate_from}
use Rattle.std.specs.Option.{option_or, option_map_or}
use Rattle.std.proofs.lemmas.Bool.Decides.{nat_tests}
use Rattle.std.proofs.lemmas.Bool.{lt-ltb}
use Rattle.vote_rules.specs.Casts.{find_map}
use Rattle.vote_rules.proofs.VoteListLemmas.{find_map-turned, or_assoc, or_none}

not_below : (a b : ℕ) → b ≤ a → nat_lt a b ≡ false
not_below a b h = grind (arith, nat_tests)

-- the last value over numbered elements does not ask their numbers
pub unnumbered : {X Y : Type 0} (f : X → Option Y) (n : ℕ) (xs : List X) → find_map (λ (e : ℕ × X). f e.1) (reverse (enumerate_from n xs)) ≡ find_map f (reverse xs)
unnumbered f n [] = refl
unnumbered {X} f n (x ∷ xs) =
    find_map-turned (λ (e : ℕ × X). f e.1) (n, x) (enumerate_from (n + 1) xs)
    ∙ ap (λ o. option_or o (f x)) (unnumbered f (n + 1) xs)
    ∙ sym (find_map-turned f x xs)

-- Records, in order of receipt. Each of those that pass the test (the records as instructed) gives one and the same value, and each other one its own (the blocks).
module _ {X Y : Type 0} (f b : X → Option Y) (test : X → Bool) (same : Option Y) (splits : (x : X) → f x ≡ cond (test x) same (b x)) (apart : (x : X) → test x ≡ true → b x ≡ None) where
  abbrev last_value : ℕ → List X → Option Y
  last_value n xs = find_map (λ (e : ℕ × X). f e.1) (reverse (enumerate_from n xs))

  abbrev pub last_place : ℕ → List X → Option ℕ
  last_place n xs = find_map (λ (e : ℕ × X). cond (test e.1) (Some e.0) None) (reverse (enumerate_from n xs))

  abbrev pub last_own : ℕ → List X → Option Y
  last_own n xs = find_map (λ (e : ℕ × X). b e.1) (reverse (enumerate_from n xs))

  abbrev pub last_before : ℕ → ℕ → List X → Option Y
  last_before k n xs = find_map (λ (e : ℕ × X). cond (nat_lt e.0 k) (b e.1) None) (reverse (enumerate_from n xs))

  abbrev pub last_after : ℕ → ℕ → List X → Option Y
  last_after k n xs = find_map (λ (e : ℕ × X). cond (nat_lt k e.0) (b e.1) None) (reverse (enumerate_from n xs))

  -- the last value, where the last record that passes stands at a place or nowhere
  abbrev pub parted : Option ℕ → ℕ → List X → Option Y
  parted None n xs = last_own n xs
  parted (Some k) n xs = option_or (last_after k n xs) (option_or same (last_before k n xs))

  after_all : (k n : ℕ) (xs : List X) → k < n → last_after k n xs ≡ last_own n xs
  after_all k n [] less = refl
  after_all k n (x ∷ xs) less =
      find_map-turned (λ (e : ℕ × X). cond (nat_lt k e.0) (b e.1) None) (n, x) (enumerate_from (n + 1) xs)
      ∙ ap (λ t. option_or (last_after k (n + 1) xs) (cond t (b x) None)) (lt-ltb k n less)
      ∙ ap (λ o. option_or o (b x)) (after_all k (n + 1) xs (omega arith))
      ∙ sym (find_map-turned (λ (e : ℕ × X). b e.1) (n, x) (enumerate_from (n + 1) xs))

  before_none : (k n : ℕ) (xs : List X) → k ≤ n → last_before k n xs ≡ None
  before_none k n [] up = refl
  before_none k n (x ∷ xs) up =
      find_map-turned (λ (e : ℕ × X). cond (nat_lt e.0 k) (b e.1) None) (n, x) (enumerate_from (n + 1) xs)
      ∙ ap (λ t. option_or (last_before k (n + 1) xs) (cond t (b x) None)) (not_below n k up)
      ∙ ap (λ o. option_or o None) (before_none k (n + 1) xs (omega arith))

  place_cases : (n k : ℕ) (t : Bool) (o : Option ℕ) → ((m : ℕ) → o ≡ Some m → n + 1 ≤ m) → option_or o (cond t (Some n) None) ≡ Some k → n ≤ k
  place_cases n k t (Some m) later is = let e : m ≡ k = ap (λ o. option_map_or (λ x. x) o k) is in omega (arith, later m refl)
  place_cases n k true None later is = let e : n ≡ k = ap (λ o. option_map_or (λ x. x) o k) is in omega arith
  place_cases n k false None later is = absurd (cc)

  place_from : (n k : ℕ) (xs : List X) → last_place n xs ≡ Some k → n ≤ k
  place_from n k [] is = absurd (cc)
  place_from n k (x ∷ xs) is =
      place_cases n k (test x) (last_place (n + 1) xs) (λ m found. place_from (n + 1) m xs found)
      (sym (find_map-turned (λ (e : ℕ × X). cond (test e.1) (Some e.0) None) (n, x) (enumerate_from (n + 1) xs)) ∙ is)

  absorbed : (t : Bool) (own earlier : Option Y) → (t ≡ true → own ≡ None) → option_or (option_or same earlier) (cond t same own) ≡ option_or same (option_or earlier own)
  absorbed false own earlier none = or_assoc same earlier own
  absorbed true own earlier none =
      (elim same as (λ g. option_or (option_or g earlier) g ≡ option_or g (option_or earlier None)) [ None ↦ refl | Some y ↦ refl ])
      ∙ ap (λ o. option_or same (option_or earlier o)) (sym (none refl))

  one_more : (n : ℕ) (x : X) (xs : List X) (o : Option ℕ) → last_place (n + 1) xs ≡ o → last_value (n + 1) xs ≡ parted o (n + 1) xs
      → option_or (last_value (n + 1) xs) (f x) ≡ parted (option_or o (cond (test x) (Some n) None)) n (x ∷ xs)
  one_more n x xs (Some k) found rest =
      let up : n + 1 ≤ k = place_from (n + 1) k xs found in
      let after : last_after k n (x ∷ xs) ≡ last_after k (n + 1) xs =
      find_map-turned (λ (e : ℕ × X). cond (nat_lt k e.0) (b e.1) None) (n, x) (enumerate_from (n + 1) xs)
      ∙ ap (λ t. option_or (last_after k (n + 1) xs) (cond t (b x) None)) (not_below k n (omega arith))
      ∙ or_none (last_after k (n + 1) xs) in
      let before : last_before k n (x ∷ xs) ≡ option_or (last_before k (n + 1) xs) (b x) =
      find_map-turned (λ (e : ℕ × X). cond (nat_lt e.0 k) (b e.1) None) (n, x) (enumerate_from (n + 1) xs)
      ∙ ap (λ t. option_or (last_before k (n + 1) xs) (cond t (b x) None)) (lt-ltb n k (omega arith)) in
      ap (λ o. option_or o (f x)) rest
      ∙ ap (option_or (option_or (last_after k (n + 1) xs) (option_or same (last_before k (n + 1) xs)))) (splits x)
      ∙ or_assoc (last_after k (n + 1) xs) (option_or same (last_before k (n + 1) xs)) (cond (test x) same (b x))
      ∙ ap (option_or (last_after k (n + 1) xs)) (absorbed (test x) (b x) (last_before k (n + 1) xs) (apart x))
      ∙ sym (ap (λ o. option_or o (option_or same (last_before k n (x ∷ xs)))) after ∙ ap (λ o. option_or (last_after k (n + 1) xs) (option_or same o)) before)
  one_more n x xs None found rest =
      let after : last_after n n (x ∷ xs) ≡ last_own (n + 1) xs =
      find_map-turned (λ (e : ℕ × X). cond (nat_lt n e.0) (b e.1) None) (n, x) (enumerate_from (n + 1) xs)
      ∙ ap (λ t. option_or (last_after n (n + 1) xs) (cond t (b x) None)) (not_below n n (omega arith))
      ∙ or_none (last_after n (n + 1) xs)
      ∙ after_all n (n + 1) xs (omega arith) in
      let before : last_before n n (x ∷ xs) ≡ None = before_none n n (x ∷ xs) (omega arith) in
      let own : last_own n (x ∷ xs) ≡ option_or (last_own (n + 1) xs) (b x) = find_map-turned (λ (e : ℕ × X). b e.1) (n, x) (enumerate_from (n + 1) xs) in
      ap (λ o. option_or o (f x)) rest
      ∙ ap (option_or (last_own (n + 1) xs)) (splits x)
      ∙ (elim (test x) as (λ t. option_or (last_own (n + 1) xs) (cond t same (b x)) ≡ parted (cond t (Some n) None) n (x ∷ xs)) [
        | true ↦
            ap (option_or (last_own (n + 1) xs)) (sym (or_none same))
            ∙ sym (ap (λ o. option_or o (option_or same (last_before n n (x ∷ xs)))) after ∙ ap (λ o. option_or (last_own (n + 1) xs) (option_or same o)) before)
        | false ↦ sym own
      ])

  -- the last value over all records is that of the blocks after the last record as instructed, else of that record, else of the blocks before it
  pub last_instructed_suffices : (n : ℕ) (xs : List X) → last_value n xs ≡ parted (last_place n xs) n xs
  last_instructed_suffices n [] = refl
  last_instructed_suffices n (x ∷ xs) =
      find_map-turned (λ (e : ℕ × X). f e.1) (n, x) (enumerate_from (n + 1) xs)
      ∙ one_more n x xs (last_place (n + 1) xs) refl (last_instructed_suffices (n + 1) xs)
      ∙ ap (λ o. parted o n (x ∷ xs)) (sym (find_map-turned (λ (e : ℕ × X). cond (test e.1) (Some e.0) None) (n, x) (enumerate_from (n + 1) xs)))

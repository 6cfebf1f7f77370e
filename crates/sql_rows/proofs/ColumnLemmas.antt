-- What columns are put one behind the other, and what is read of them.
use Rattle.std.proofs.Common.{◌≡◌, ℕ, ◌+◌, List, [], ◌∷◌, ◌++◌, Option, Some, None, length, refl, sym, ap, subst, ◌∙◌, append_assoc, length-append}
use Rattle.std.proofs.Math.Seq.{get_or-append_seam}
use Rattle.sqlite.specs.Cast.{cast}
use Rattle.sqlite.specs.Kind.{Kind}
use Rattle.sqlite.specs.Order.{Row, column}
use Rattle.sqlite.specs.declared.types.Value.{Value}
use Rattle.sqlite.specs.declared.types.Value.TheVariants.{Null}
use Rattle.vocabulary.specs.OptionSteps.{◌>>=◌}
use Rattle.sql_rows.proofs.RowMeaningLemmas.{bound}
use Rattle.sql_rows.specs.Columns.{IsPut, Stay, ◌▸◌, both, in_meeting, meeting_at, two}
use Rattle.sql_rows.specs.declared.stored_records.InMeeting.{InMeeting}

-- ---- one column

seam : (before : Row) (v : Value) (after : Row) → column (before ++ v ∷ [] ++ after) (length before) ≡ v
seam before v after = ap (λ l. column l (length before)) (append_assoc before (v ∷ []) after) ∙ get_or-append_seam before v after Null

pub one_put : {A : Type 0} (kind : Kind) (means : Value → Option A) (x : A) (v : Value) (old new : Row) → new ≡ old ++ v ∷ [] → cast kind v ≡ v → means v ≡ Some x → IsPut 1 (kind ∷ []) (λ cells at. means (column cells at)) x old new
one_put kind means x v old new added stays is = record {
  values = v ∷ [];
  as_many = refl;
  added = added;
  stay = (stays, tt);
  mean = λ before after. ap means (seam before v after) ∙ is;
}

-- ---- two parts

stay_both : (ka kb : List Kind) (va vb : Row) → Stay ka va → Stay kb vb → Stay (ka ++ kb) (va ++ vb)
stay_both [] kb [] vb s t = t
stay_both [] kb (v ∷ va) vb s t = absurd s
stay_both (k ∷ ka) kb [] vb s t = absurd s
stay_both (k ∷ ka) kb (v ∷ va) vb s t = (s.0, stay_both ka kb va vb s.1 t)

there : {A B : Type 0} (oa : Option A) (ob : Option B) (a : A) (b : B) → oa ≡ Some a → ob ≡ Some b → two oa ob ≡ Some (a, b)
there oa ob a b h k = rw (h, k) refl

module _ {A B : Type 0} (wa wb : ℕ) (ka kb : List Kind) (ma : Row → ℕ → Option A) (mb : Row → ℕ → Option B) (a : A) (b : B) (old mid new : Row) (first : IsPut wa ka ma a old mid) (second : IsPut wb kb mb b mid new) where
  mean_both : (before after : Row) → both ma wa mb (before ++ (first.values ++ second.values) ++ after) (length before) ≡ Some (a, b)
  mean_both before after =
      let cells : before ++ (first.values ++ second.values) ++ after ≡ before ++ first.values ++ second.values ++ after = ap (λ l. l ++ after) (sym (append_assoc before first.values second.values)) in
      let of_a : ma (before ++ first.values ++ second.values ++ after) (length before) ≡ Some a = ap (λ l. ma l (length before)) (append_assoc (before ++ first.values) second.values after) ∙ first.mean before (second.values ++ after) in
      let place : length (before ++ first.values) ≡ length before + wa = length-append before first.values ∙ ap (λ n. length before + n) first.as_many in
      let of_b : mb (before ++ first.values ++ second.values ++ after) (length before + wa) ≡ Some b = ap (λ n. mb (before ++ first.values ++ second.values ++ after) n) (sym place) ∙ second.mean (before ++ first.values) after in
      ap (λ l. both ma wa mb l (length before)) cells ∙ there _ _ a b of_a of_b

  pub both_put : IsPut (wa + wb) (ka ++ kb) (both ma wa mb) (a, b) old new
  both_put = record {
    values = first.values ++ second.values;
    as_many = length-append first.values second.values ∙ ap (λ n. n + length second.values) first.as_many ∙ ap (λ n. wa + n) second.as_many;
    added = second.added ∙ ap (λ l. l ++ second.values) first.added ∙ append_assoc old first.values second.values;
    stay = stay_both ka kb first.values second.values first.stay second.stay;
    mean = mean_both;
  }

-- ---- what is read

-- of two things that are both there, each is
pub both_there : {A B : Type 0} (a : Option A) (b : Option B) (p : A × B) → two a b ≡ Some p → (a ≡ Some p.0) × (b ≡ Some p.1)
both_there None b p h = absurd cc
both_there (Some x) None p h = absurd cc
both_there (Some x) (Some y) p h = let same : (x, y) ≡ p = cc in (ap (λ q. Some q.0) same, ap (λ q. Some q.1) same)

-- what holds of all that is made of a meeting and parts holds of what a row means
pub of_parts : {P A : Type 0} (means : Row → ℕ → Option P) (of : P → A) (T : InMeeting A → Type 0) (cells : Row)
    → ((meeting : List ℕ) (parts : P) → meeting_at cells 0 ≡ Some meeting → means cells 1 ≡ Some parts → T (record { meeting = meeting; item = of parts })) → (x : InMeeting A) → in_meeting means of cells ≡ Some x → T x
of_parts means of T cells all x h =
    let read = bound ((meeting_at ▸ means) cells 0) _ x h in
    let there = both_there (meeting_at cells 0) (means cells 1) read.0 read.1 in
    let same : record { meeting = read.0.0; item = of read.0.1 } ≡ x = cc in
    subst T same (all read.0.0 read.0.1 there.0 there.1)

-- what is made of what stands behind a first session is what was made of it without
pub in_first : {A B C X : Type 0} (a : Option A) (b : Option B) (c : Option C) (make : A → ℕ × (B × C) → X)
    → (two a (two (Some 1) (two b c)) >>= λ p. Some (make p.0 p.1)) ≡ (a >>= λ x. b >>= λ y. c >>= λ z. Some (make x (1, (y, z))))
in_first None b c make = refl
in_first (Some x) None c make = refl
in_first (Some x) (Some y) None make = refl
in_first (Some x) (Some y) (Some z) make = refl

pub three_in_first : {A B C D X : Type 0} (a : Option A) (b : Option B) (c : Option C) (d : Option D) (make : A → ℕ × (B × (C × D)) → X)
    → (two a (two (Some 1) (two b (two c d))) >>= λ p. Some (make p.0 p.1)) ≡ (a >>= λ x. b >>= λ y. c >>= λ z. d >>= λ w. Some (make x (1, (y, (z, w)))))
three_in_first None b c d make = refl
three_in_first (Some x) None c d make = refl
three_in_first (Some x) (Some y) None d make = refl
three_in_first (Some x) (Some y) (Some z) None make = refl
three_in_first (Some x) (Some y) (Some z) (Some w) make = refl

-- Rows and keys that are the same.
use Rattle.std.proofs.Common.{◌≡◌, ℕ, Bool, true, ◌&&◌, ◌==◌, List, length, refl, ap, sym, ◌∙◌}
use Rattle.std.specs.Bool.{Decides}
use Rattle.std.specs.Cmp.{first_so, second_so}
use Rattle.std.specs.Cmp.Derive.{both_true}
use Rattle.std.specs.List.{list_all, zip}
use Rattle.std.proofs.lemmas.Bool.{eqb-true, eq-eqb}
use Rattle.std.proofs.lemmas.Bool.Decides.{Decides-eqb}
use Rattle.std.proofs.lemmas.Slice.Eq.{slice_eq-Decides}
use Rattle.vocabulary.specs.Names.{same_name}
use Rattle.vocabulary.specs.declared.kinds.HolderKind.{HolderKind}
use Rattle.vocabulary.specs.declared.kinds.HolderKind.TheVariants.{Individual, Corporation, Treasury}
use Rattle.desk_words.specs.Callers.{is_caller}
use Rattle.desk_words.specs.KeyRows.{same_key_row}
use Rattle.desk_words.specs.declared.caller.Caller.{Caller}
use Rattle.desk_words.specs.declared.caller.Caller.TheVariants.{Office, Party}
use Rattle.desk_words.specs.declared.caller.KeyRow.{KeyRow}
use Rattle.desk_words.specs.declared.records.RegisterRow.{RegisterRow}
use Rattle.desk_words.proofs.WordPairLemmas.{each_pair-Decides, pairs-Decides}
use Rattle.desk_words.specs.SameRows.{same_holder, same_row, same_rows}

name_decides : (a b : List ℕ) → Decides (same_name a b) (a ≡ b)
name_decides a b = slice_eq-Decides Decides-eqb a b (same_name a b) refl

-- names that are the same are equal
pub same_name-true : (a b : List ℕ) → same_name a b ≡ true → a ≡ b
same_name-true a b h = (name_decides a b).0 h

-- a name is the same as itself
pub same_name-refl : (a : List ℕ) → same_name a a ≡ true
same_name-refl a = (name_decides a a).1 refl

same_holder-true : (a b : HolderKind) → same_holder a b ≡ true → a ≡ b
same_holder-true Individual Individual h = refl
same_holder-true Corporation Corporation h = refl
same_holder-true Treasury Treasury h = refl
same_holder-true Individual Corporation h = absurd (cc)
same_holder-true Individual Treasury h = absurd (cc)
same_holder-true Corporation Individual h = absurd (cc)
same_holder-true Corporation Treasury h = absurd (cc)
same_holder-true Treasury Individual h = absurd (cc)
same_holder-true Treasury Corporation h = absurd (cc)

same_holder-refl : (a : HolderKind) → same_holder a a ≡ true
same_holder-refl Individual = refl
same_holder-refl Corporation = refl
same_holder-refl Treasury = refl

row_from_fields : (a b : RegisterRow) → a.member ≡ b.member → a.kind ≡ b.kind → a.name ≡ b.name → a.shares ≡ b.shares → a.paid ≡ b.paid → a ≡ b
row_from_fields a b m k n s p = λ i. record { member = m i; kind = k i; name = n i; shares = s i; paid = p i }

-- rows that are the same are equal
pub same_row-true : (a b : RegisterRow) → same_row a b ≡ true → a ≡ b
same_row-true a b h =
    let four = first_so (same_name a.member b.member && same_holder a.kind b.kind && same_name a.name b.name && a.shares == b.shares) (a.paid == b.paid) h in
    let paid = second_so (same_name a.member b.member && same_holder a.kind b.kind && same_name a.name b.name && a.shares == b.shares) (a.paid == b.paid) h in
    let three = first_so (same_name a.member b.member && same_holder a.kind b.kind && same_name a.name b.name) (a.shares == b.shares) four in
    let shares = second_so (same_name a.member b.member && same_holder a.kind b.kind && same_name a.name b.name) (a.shares == b.shares) four in
    let two = first_so (same_name a.member b.member && same_holder a.kind b.kind) (same_name a.name b.name) three in
    let name = second_so (same_name a.member b.member && same_holder a.kind b.kind) (same_name a.name b.name) three in
    row_from_fields a b
    (same_name-true a.member b.member (first_so (same_name a.member b.member) (same_holder a.kind b.kind) two))
    (same_holder-true a.kind b.kind (second_so (same_name a.member b.member) (same_holder a.kind b.kind) two))
    (same_name-true a.name b.name name) (eqb-true a.shares b.shares shares) (eqb-true a.paid b.paid paid)

-- a row is the same as itself
pub same_row-refl : (a : RegisterRow) → same_row a a ≡ true
same_row-refl a =
    both_true (both_true (both_true (both_true (same_name-refl a.member) (same_holder-refl a.kind)) (same_name-refl a.name)) (eq-eqb a.shares a.shares refl)) (eq-eqb a.paid a.paid refl)

row_decides : (a b : RegisterRow) → Decides (same_row a b) (a ≡ b)
row_decides a b = (same_row-true a b, λ e. ap (same_row a) (sym e) ∙ same_row-refl a)

-- lists are the same rows exactly where they are equal
pub same_rows-Decides : (a b : List RegisterRow) → Decides (same_rows a b) (a ≡ b)
same_rows-Decides a b = pairs-Decides same_row row_decides a b

-- of lists that are as long, what each pair answers decides it
pub each_same-Decides : (a b : List RegisterRow) (answer : Bool) → length a ≡ length b
    → answer ≡ list_all (λ pair. same_row pair.0 pair.1) (zip a b) → Decides answer (a ≡ b)
each_same-Decides a b answer e h = each_pair-Decides same_row row_decides a b answer e h

caller_decides : (a b : Caller) → Decides (is_caller a b) (a ≡ b)
caller_decides Office Office = (λ h. refl, λ e. refl)
caller_decides (Party p) (Party q) =
    (λ h. ap (λ x. Party x) (same_name-true p q h), λ e. (let names : p ≡ q = cc in ap (same_name p) (sym names) ∙ same_name-refl p))
caller_decides Office (Party q) = (λ h. absurd (cc), λ e. absurd (cc))
caller_decides (Party p) Office = (λ h. absurd (cc), λ e. absurd (cc))

key_row_from_fields : (a b : KeyRow) → a.caller ≡ b.caller → a.secret ≡ b.secret → a ≡ b
key_row_from_fields a b c s = λ i. record { caller = c i; secret = s i }

key_row_decides : (a b : KeyRow) → Decides (same_key_row a b) (a ≡ b)
key_row_decides a b = (
  λ h. key_row_from_fields a b ((caller_decides a.caller b.caller).0 (first_so (is_caller a.caller b.caller) (same_name a.secret b.secret) h))
      (same_name-true a.secret b.secret (second_so (is_caller a.caller b.caller) (same_name a.secret b.secret) h)),
  λ e. ap (same_key_row a) (sym e) ∙ both_true ((caller_decides a.caller a.caller).1 refl) (same_name-refl a.secret),
)

-- of lists of keys that are as long, what each pair answers decides whether they are equal
pub each_same_key-Decides : (a b : List KeyRow) (answer : Bool) → length a ≡ length b
    → answer ≡ list_all (λ pair. same_key_row pair.0 pair.1) (zip a b) → Decides answer (a ≡ b)
each_same_key-Decides a b answer e h = each_pair-Decides same_key_row key_row_decides a b answer e h

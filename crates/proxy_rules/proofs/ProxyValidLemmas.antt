-- What an office keeps of one member, among what it keeps of all.
use Rattle.std.proofs.Common.{◌≡◌, ℕ, suc, ◌+◌, ◌≤◌, true, false, cond, List, [], ◌∷◌, ◌++◌, refl, sym, ap, ◌∙◌, arith}
use Rattle.std.specs.Prelude.{◌==◌, filter, count_by}
use Rattle.vocabulary.specs.declared.range.TheConstants.{MOST_PLACES}
use Rattle.seq.proofs.Filtered.{all-filter}
use Rattle.std.proofs.lemmas.Bool.{and_from}
use Rattle.std.specs.Cmp.{first_so, second_so}
use Rattle.seq.proofs.Differing.{count_snoc}
use Rattle.vocabulary.specs.Names.{same_name}
use Rattle.desk_words.proofs.WordRowLemmas.{same_name-true}
use Rattle.desk_words.specs.Office.{are_numbered_after, are_rows}
use Rattle.desk_words.specs.declared.records.Appointment.{Appointment}
use Rattle.desk_words.specs.declared.records.Ending.{Ending}
use Rattle.desk_words.specs.declared.records.RegisterRow.{RegisterRow}
use Rattle.proxy_rules.specs.Holdings.{IsValidHolding, are_numbered_from, are_tags, holding_by, holding_of, holding_with, is_given_by}
use Rattle.proxy_rules.specs.Shares.{shares_of}
use Rattle.proxy_rules.proofs.ShareLemmas.{shares_by-le, shares_of-le}
use Rattle.share_blocks.specs.Tags.{is_tag}

one_on : (n m : ℕ) → m ≡ n + 1 → suc n ≡ m
one_on n m e = omega arith

as_many : (n m : ℕ) → m ≡ n + 0 → n ≡ m
as_many n m e = omega arith

-- a member's appointments are numbered on from how many it had before
pub numbered_from-own : (member : List ℕ) (earlier given : List Appointment) → are_numbered_after earlier given ≡ true
    → are_numbered_from (count_by (is_given_by member) earlier) (filter (is_given_by member) given) ≡ true
numbered_from-own member earlier [] h = refl
numbered_from-own member earlier (a ∷ rest) h =
    let so_far = count_by (is_given_by member) earlier in
    let others = filter (is_given_by member) rest in
    let now = first_so (a.number == suc (count_by (λ (b : Appointment). same_name b.member a.member) earlier)) (are_numbered_after (earlier ++ a ∷ []) rest) h in
    let later = numbered_from-own member (earlier ++ a ∷ []) rest (second_so (a.number == suc (count_by (λ (b : Appointment). same_name b.member a.member) earlier)) (are_numbered_after (earlier ++ a ∷ []) rest) h) in
    (elim (is_given_by member a) as (λ b. is_given_by member a ≡ b → count_by (is_given_by member) (earlier ++ a ∷ []) ≡ so_far + cond b 1 0 → are_numbered_from so_far (cond b (a ∷ others) others) ≡ true) [
      | true ↦ λ own more.
          and_from (a.number == suc so_far) (are_numbered_from (suc so_far) others)
          (ap (λ name. a.number == suc (count_by (λ (b : Appointment). same_name b.member name) earlier)) (sym (same_name-true a.member member own)) ∙ now)
          (ap (λ n. are_numbered_from n others) (one_on so_far (count_by (is_given_by member) (earlier ++ a ∷ [])) more) ∙ later)
      | false ↦ λ other more. ap (λ n. are_numbered_from n others) (as_many so_far (count_by (is_given_by member) (earlier ++ a ∷ [])) more) ∙ later
    ]) refl (count_snoc (is_given_by member) earlier a)

pub valid_with : (shares : ℕ) (given : List Appointment) (ended : List Ending) (member : List ℕ) → are_numbered_after [] given ≡ true → are_tags given ≡ true → shares ≤ MOST_PLACES
    → IsValidHolding (holding_with shares given ended member)
valid_with shares given ended member numbered tags few = record {
  numbered = numbered_from-own member [] given numbered;
  tagged = all-filter (λ (a : Appointment). is_tag a.number) (is_given_by member) given tags;
  few = few;
}

-- the holding of a row is such
pub valid_by : (given : List Appointment) (ended : List Ending) (row : RegisterRow) → are_numbered_after [] given ≡ true → are_tags given ≡ true → row.shares ≤ MOST_PLACES → IsValidHolding (holding_by given ended row)
valid_by given ended row numbered tags few = valid_with (shares_of row) given ended row.member numbered tags (omega (arith, shares_of-le row))

-- the holding of a member is such
pub valid_of : (register : List RegisterRow) (given : List Appointment) (ended : List Ending) (member : List ℕ) → are_rows register ≡ true → are_numbered_after [] given ≡ true → are_tags given ≡ true
    → IsValidHolding (holding_of register given ended member)
valid_of register given ended member rows numbered tags = valid_with _ given ended member numbered tags (shares_by-le register member rows)

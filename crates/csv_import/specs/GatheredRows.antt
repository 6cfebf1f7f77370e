-- What has been gathered of a file's rows.
use Rattle.std.specs.Prelude.{◌≡◌, ℕ, Bool, true, ◌&&◌, nat_le, List, length, Option}
use Rattle.std.specs.BTreeSet.{BTreeSet, contains}
use Rattle.std.specs.List.{list_all, list_any}
use Rattle.std.specs.Option.{option_cmp}
use Rattle.std.specs.Ordering.{is_eq}
use Rattle.std.specs.declared.cmp.Ordering.{Ordering}
use Rattle.seq.specs.Ordered.{differ_by}
use Rattle.vocabulary.specs.Names.{name_cmp}
use Rattle.desk_words.specs.Callers.{party_in}
use Rattle.desk_words.specs.SortedLists.{same_caller, same_secret}
use Rattle.desk_words.specs.Registers.{all_shares, is_holding, same_member}
use Rattle.desk_words.specs.declared.caller.KeyRow.{KeyRow}
use Rattle.desk_words.specs.declared.records.RegisterRow.{RegisterRow}
use Rattle.desk_words.specs.declared.limits.TheConstants.{MOST_KEYS, MOST_ROWS, MOST_SHARES}

-- the set holds just what these values have
abbrev pub IsSetOf : {K X : Type 0} → (K → K → Ordering) → (X → K) → List X → BTreeSet K → Type 0
IsSetOf {K} cmp key values held =
    (wanted : K)
    → contains cmp held wanted ≡ list_any (λ value. is_eq (cmp (key value) wanted)) values

-- rows of different members that keep the limits of a register, but that there may be none
abbrev pub may_begin_register : List RegisterRow → Bool
may_begin_register rows =
    nat_le (length rows) MOST_ROWS
    && list_all is_holding rows
    && nat_le (all_shares rows) MOST_SHARES
    && differ_by same_member rows

-- the rows so far, the set of their members, and the sum of their shares
pub record HasGatheredRows (rows : List RegisterRow) (members : BTreeSet (List ℕ)) (total : ℕ)
    : Type 0 where
  pub members_are : IsSetOf name_cmp (λ (row : RegisterRow). row.member) rows members
  pub total_is : total ≡ all_shares rows
  pub valid : may_begin_register rows ≡ true

-- at most `MOST_KEYS` keys, of different callers and different
abbrev pub may_begin_keys : List KeyRow → Bool
may_begin_keys rows =
    nat_le (length rows) MOST_KEYS && differ_by same_secret rows && differ_by same_caller rows

-- the keys so far, and the sets of their callers and of the keys themselves
pub record HasGatheredKeys (rows : List KeyRow) (callers : BTreeSet (Option (List ℕ)))
    (secrets : BTreeSet (List ℕ)) : Type 0 where
  pub callers_are : IsSetOf (option_cmp name_cmp) (λ (row : KeyRow). party_in row.caller) rows
      callers
  pub secrets_are : IsSetOf name_cmp (λ (row : KeyRow). row.secret) rows secrets
  pub valid : may_begin_keys rows ≡ true

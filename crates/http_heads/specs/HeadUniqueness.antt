-- The laws of heads, and the limits by their numbers.
use Rattle.std.specs.Prelude.{◌≡◌, ◌⊎◌, List, ℕ}
use Rattle.httparse.specs.Grammar.{RequestHead}
use Rattle.http_heads.specs.Heads.{HasHead, IsCutInTarget, IsFront}
use Rattle.http_heads.specs.declared.front.Front.{Front}
use Rattle.http_heads.specs.declared.front.TheConstants.{LONGEST_HEAD, MOST_FIELDS}
use Rattle.http_heads.specs.declared.length.TheConstants.{LONGEST_BODY}

-- an input has one head at most
abbrev pub HasOneHead : Type 0
HasOneHead =
    (input : List ℕ) (h k : RequestHead) (rest rest' : List ℕ)
    → HasHead input h rest → HasHead input k rest' → (h ≡ k) × (rest ≡ rest')

-- an input has one front, but where its first 8,192 bytes hold no head and end inside the target
abbrev pub HasOneFront : Type 0
HasOneFront =
    (input : List ℕ) (a b : Front)
    → IsFront a input → IsFront b input → (a ≡ b) ⊎ IsCutInTarget input

-- what each limit is
pub record HttpLimitsAre : Type 0 where
  pub head : LONGEST_HEAD ≡ 8192
  pub fields : MOST_FIELDS ≡ 32
  pub body : LONGEST_BODY ≡ 65536

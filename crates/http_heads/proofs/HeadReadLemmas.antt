-- What came of the source.
use Rattle.std.proofs.Common.{◌≡◌, ℕ, ◌+◌, ◌-◌, ◌≤◌, List, [], ◌∷◌, ◌++◌, Option, Some, None, length, take, drop, refl, sym, ap, subst, ◌∙◌, arith, append_assoc, length-append, length-take}
use Rattle.std.specs.Io.KnownBytes.{Consumes, Keeps, IsAtEnd}
use Rattle.std.proofs.lemmas.List.{append-nil, drop-take}
use Rattle.byte_io.proofs.BytesChained.{Consumes-chained, take-read_more}
use borrow.Rule.Slice.PartMut.{put_mid}
use Rattle.http_heads.specs.Heads.{HeadBuffer, Finds, FindsKnown, IsBroken, ReceivesBytes}
use Rattle.http_heads.specs.declared.front.Front.{Front}
use Rattle.http_heads.specs.declared.front.Front.TheVariants.{Unreadable}

Keeps-consumes : (a b : Option (List ℕ)) → Keeps a b → Consumes a b []
Keeps-consumes None b k = tt
Keeps-consumes (Some x) None k = absurd k
Keeps-consumes (Some x) (Some y) k = sym k

none_comes : (old new : List ℕ) (a b : Option (List ℕ)) (p p' : ℕ) → new ≡ old → Keeps a b → p' ≡ p → ReceivesBytes old new a b p p'
none_comes old new a b p p' e k same = record { bytes = []; behind = e ∙ sym (append-nil old); consumed = Keeps-consumes a b k; counted = omega (arith, same) }

-- the source failed, and whatever it left behind the bytes so far is not read
pub none_read : (filled room : ℕ) (old new : List ℕ) (a b : Option (List ℕ)) (p p' : ℕ) → filled ≤ length old → Keeps a b → p' ≡ p
    → ReceivesBytes (take filled old) (take filled (put_mid filled room old new)) a b p p'
none_read filled room old new a b p p' within k same =
    let sum : filled ≡ filled + 0 = omega arith in
    let preserved = ap (λ n. take n (put_mid filled room old new)) sum ∙ take-read_more filled room 0 old new within (omega arith) ∙ append-nil (take filled old) in
    none_comes (take filled old) (take filled (put_mid filled room old new)) a b p p' preserved k same

-- the bytes that a read gave stand behind those so far
pub some_read : (filled room count : ℕ) (old new : List ℕ) (a b : Option (List ℕ)) (p p' : ℕ) → filled ≤ length old → count ≤ length new → Consumes a b (take count new) → p' ≡ p + count
    → ReceivesBytes (take filled old) (take (filled + count) (put_mid filled room old new)) a b p p'
some_read filled room count old new a b p p' within bound consumed counted = record {
  bytes = take count new;
  behind = take-read_more filled room count old new within bound;
  consumed = consumed;
  counted = omega (arith, counted, bound, length-take count new);
}

pub Comes-chained : (x y z : List ℕ) (a b c : Option (List ℕ)) (p q r : ℕ) → ReceivesBytes x y a b p q → ReceivesBytes y z b c q r → ReceivesBytes x z a c p r
Comes-chained x y z a b c p q r one two = record {
  bytes = one.bytes ++ two.bytes;
  behind = two.behind ∙ ap (λ l. l ++ two.bytes) one.behind ∙ append_assoc x one.bytes two.bytes;
  consumed = Consumes-chained a b c one.bytes two.bytes one.consumed two.consumed;
  counted = omega (arith, one.counted, two.counted, length-append one.bytes two.bytes);
}

-- what is known of the input: the bytes so far, and those that are left
input_is : (before now known left : List ℕ) (p q : ℕ) → ReceivesBytes before now (Some known) (Some left) p q → now ++ left ≡ before ++ known
input_is before now known left p q c = ap (λ l. l ++ left) c.behind ∙ append_assoc before c.bytes left ∙ ap (λ l. before ++ l) (sym c.consumed)

-- and so is what they are where nothing is left
pub ended_known : (held : HeadBuffer) (before : List ℕ) (a b : Option (List ℕ)) (p q : ℕ) → ReceivesBytes before held.bytes a b p q
    → IsAtEnd b → IsBroken held.bytes → FindsKnown Unreadable before a b held
ended_known held before None b p q c end broken = tt
ended_known held before (Some known) None p q c end broken = absurd c.consumed
ended_known held before (Some known) (Some left) p q c end broken =
    let all : held.bytes ≡ before ++ known = sym (append-nil held.bytes) ∙ ap (λ l. held.bytes ++ l) (sym end) ∙ input_is before held.bytes known left p q c in
    subst (λ input. IsBroken input) all broken

-- of the bytes that were read
pub found_read : (front : Front) (held : HeadBuffer) → ((left : List ℕ) → Finds front (held.bytes ++ left) left held) → Finds front held.bytes [] held
found_read front held found = subst (λ input. Finds front input [] held) (append-nil held.bytes) (found [])

pub nothing_more : (old new : List ℕ) (a b : Option (List ℕ)) (p q : ℕ) → ReceivesBytes old new a b p q → length new ≡ length old + 0 → new ≡ old
nothing_more old new a b p q c none = c.behind ∙ ap (λ l. old ++ l) (empty c.bytes (omega (arith, none, ap length c.behind, length-append old c.bytes))) ∙ append-nil old
  where
    empty : (l : List ℕ) → length l ≡ 0 → l ≡ []
    empty [] e = refl
    empty (x ∷ l) e = absurd (omega (arith, e))

pub rest_is : (from to : ℕ) (buffer : List ℕ) → from ≤ to → take (to - from) (drop from buffer) ≡ drop from (take to buffer)
rest_is from to buffer within =
    let sum : from + (to - from) ≡ to = omega arith in
    sym (drop-take from (to - from) buffer) ∙ ap (λ n. drop from (take n buffer)) sum

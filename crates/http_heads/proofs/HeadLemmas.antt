use Rattle.std.proofs.Common.{◌≡◌, ℕ, ◌+◌, ◌-◌, ◌*◌, ◌<◌, ◌≤◌, ◌⊎◌, inl, inr, List, [], ◌∷◌, ◌++◌, length, take, All, refl, sym, ap, subst, ◌∙◌, arith, length-append, append_assoc}
use Rattle.std.specs.List.{flat_map}
use Rattle.std.proofs.lemmas.List.{take-append-le, take_all, append-nil}
use Rattle.std.proofs.Math.Seq.{take-append-add}
use Rattle.httparse.specs.Grammar.{Field, IsField, LineEnd, crlf, lf, print_end, print_field, print_request, RequestHead, IsRequestHead, ReadsRequest, HasNoRequest, NeverHasRequest, MayBecomeRequest, EndsInTarget}
use Rattle.httparse.specs.Spans.{RequestExceeds}
use Rattle.httparse.proofs.GrammarLemmas.{request_unique}
use Rattle.std.proofs.lemmas.List.Elements.{All-head, All-tail}
use Rattle.std.proofs.lemmas.List.Concat.{flat_map-cons}
use Rattle.http_heads.specs.Heads.{HasHead, HasNoHead, head_place, IsUnfinished, IsBroken, IsCutInTarget, IsOpen}
use Rattle.http_heads.specs.HeadUniqueness.{HasOneHead, HasOneFront}
use Rattle.http_heads.specs.declared.front.Front.TheVariants.{Whole, TooLarge, Unreadable}
use Rattle.http_heads.specs.declared.front.TheConstants.{LONGEST_HEAD, MOST_FIELDS}

-- ---- the laws

pub one_head : HasOneHead
one_head input h k rest rest' x y = request_unique input h k rest rest' x.reads y.reads

-- a head stands in its place
head_in_place : (input : List ℕ) (h : RequestHead) (rest : List ℕ) → HasHead input h rest → ReadsRequest (head_place input) h (take (LONGEST_HEAD - length (print_request h)) rest)
head_in_place input h rest x =
    let n = LONGEST_HEAD - length (print_request h) in
    let sum : length (print_request h) + n ≡ LONGEST_HEAD = omega (arith, x.fits) in
    (x.reads.0, ap (take LONGEST_HEAD) x.reads.1 ∙ ap (λ k. take k (print_request h ++ rest)) (sym sum) ∙ take-append-add (print_request h) rest n)

not_both : (input : List ℕ) (h : RequestHead) (rest : List ℕ) → HasHead input h rest → HasNoHead input → ⊥
not_both input h rest x none = none h _ (head_in_place input h rest x)

few_or_many : (input : List ℕ) (h k : RequestHead) (rest rest' : List ℕ) → HasHead input h rest → length h.fields ≤ MOST_FIELDS → HasHead input k rest' → MOST_FIELDS < length k.fields → ⊥
few_or_many input h k rest rest' x few y many = omega (arith, few, many, ap (λ (g : RequestHead). length g.fields) (one_head input h k rest rest' x y).0)

gap : (input : List ℕ) → IsUnfinished input → IsBroken input → IsCutInTarget input
gap input u b = record { none = u.none; full = u.full; inside = ended b.ended u.unended }
  where
    ended : (length input < LONGEST_HEAD) ⊎ NeverHasRequest (head_place input) → MayBecomeRequest (head_place input) → EndsInTarget (head_place input)
    ended (inl short) m = absurd (omega (arith, short, u.full))
    ended (inr never) (inl m) = absurd (never m.0 m.1 [] m.2)
    ended (inr never) (inr ends) = ends

pub one_front : HasOneFront
one_front input Whole Whole x y = inl refl
one_front input Whole TooLarge x (inl y) = absurd (few_or_many input x.0 y.0 x.1 y.1 x.2 x.3 y.2 y.3)
one_front input Whole TooLarge x (inr y) = absurd (not_both input x.0 x.1 x.2 y.none)
one_front input Whole Unreadable x y = absurd (not_both input x.0 x.1 x.2 y.none)
one_front input TooLarge Whole (inl x) y = absurd (few_or_many input y.0 x.0 y.1 x.1 y.2 y.3 x.2 x.3)
one_front input TooLarge Whole (inr x) y = absurd (not_both input y.0 y.1 y.2 x.none)
one_front input TooLarge TooLarge x y = inl refl
one_front input TooLarge Unreadable (inl x) y = absurd (not_both input x.0 x.1 x.2 y.none)
one_front input TooLarge Unreadable (inr x) y = inr (gap input x y)
one_front input Unreadable Whole x y = absurd (not_both input y.0 y.1 y.2 x.none)
one_front input Unreadable TooLarge x (inl y) = absurd (not_both input y.0 y.1 y.2 x.none)
one_front input Unreadable TooLarge x (inr y) = inr (gap input y x)
one_front input Unreadable Unreadable x y = inl refl

-- ---- bytes that settle what follows

place_of-short : (bytes left : List ℕ) → length bytes ≤ LONGEST_HEAD → head_place (bytes ++ left) ≡ bytes ++ take (LONGEST_HEAD - length bytes) left
place_of-short bytes left short =
    let n = LONGEST_HEAD - length bytes in
    let sum : length bytes + n ≡ LONGEST_HEAD = omega arith in
    ap (λ k. take k (bytes ++ left)) (sym sum) ∙ take-append-add bytes left n

place_of-full : (bytes left : List ℕ) → length bytes ≡ LONGEST_HEAD → head_place (bytes ++ left) ≡ bytes
place_of-full bytes left full = take-append-le LONGEST_HEAD bytes left (omega arith) ∙ take_all LONGEST_HEAD bytes (omega arith)

Never-append : (bytes more : List ℕ) → NeverHasRequest bytes → NeverHasRequest (bytes ++ more)
Never-append bytes more never next h rest reads = never (more ++ next) h rest (rw append_assoc at reads)

-- bytes that never become a head are broken, whatever follows
pub never_broken : (bytes left : List ℕ) → length bytes ≤ LONGEST_HEAD → NeverHasRequest bytes → IsBroken (bytes ++ left)
never_broken bytes left short never =
    let place = place_of-short bytes left short in
    let still : NeverHasRequest (head_place (bytes ++ left)) = subst (λ z. NeverHasRequest z) (sym place) (Never-append bytes (take (LONGEST_HEAD - length bytes) left) never) in
    record { none = subst (λ z. HasNoRequest z) (append-nil (head_place (bytes ++ left))) (still []); ended = inr still }

-- 8,192 bytes that can become a head are unfinished, whatever follows
pub full_unfinished : (bytes left : List ℕ) → length bytes ≤ LONGEST_HEAD → LONGEST_HEAD ≤ length bytes → HasNoRequest bytes → MayBecomeRequest bytes → IsUnfinished (bytes ++ left)
full_unfinished bytes left short full none may =
    let whole : length bytes ≡ LONGEST_HEAD = omega arith in
    let place = sym (place_of-full bytes left whole) in
    record {
      none = subst (λ z. HasNoRequest z) place none;
      full = simp length-append (omega arith);
      unended = subst (λ z. MayBecomeRequest z) place may;
    }

-- bytes behind which nothing comes
pub open_broken : (bytes : List ℕ) → IsOpen bytes → IsBroken bytes
open_broken bytes o =
    let same : head_place bytes ≡ bytes = take_all LONGEST_HEAD bytes (omega (arith, o.room)) in
    record { none = subst (λ z. HasNoRequest z) (sym same) o.none; ended = inl o.room }

-- ---- 8,192 bytes do not hold 2,731 fields

end_len : (e : LineEnd) → 1 ≤ length (print_end e)
end_len crlf = omega arith
end_len lf = omega arith

field_len : (f : Field) → IsField f → 3 ≤ length (print_field f)
field_len f h = simp length-append (omega (arith, h.name.0, end_len f.end))

fields_len : (fs : List Field) → All IsField fs → 3 * length fs ≤ length (flat_map print_field fs)
fields_len [] h = omega arith
fields_len (f ∷ fs) h =
    let here = field_len f (All-head IsField f fs h) in
    let later = fields_len fs (All-tail IsField f fs h) in
    rw (flat_map-cons, length-append) (omega (arith, here, later))

request_len : (h : RequestHead) → IsRequestHead h → 3 * length h.fields ≤ length (print_request h)
unfolding print_request
request_len h is = simp length-append (omega (arith, fields_len h.fields is.fields))

pub not_crowded : (buf : List ℕ) (room : ℕ) → length buf ≤ 8192 → 2731 ≤ room → RequestExceeds room buf → ⊥
not_crowded buf room short wide x =
    let (front, rest, whole, h, reads, over) = x in
    let front_len : length buf ≡ length front + length rest = ap length whole ∙ length-append front rest in
    let head_len : length front + 1 ≡ length (print_request h) + 0 = sym (length-append front (print_end lf)) ∙ ap length reads.1 ∙ length-append (print_request h) [] in
    absurd (omega (arith, front_len, head_len, request_len h reads.0))

-- The text that bytes are.
use Rattle.std.proofs.Common.{rules, ◌≡◌, ℕ, Bool, true, false, cond, List, Some, None, refl}
use Rattle.std.specs.Prelude.{◌&&◌}
use Rattle.std.specs.Str.{is_utf8}
use Rattle.std.proofs.lemmas.Str.{IsUtf8-from_is_utf8, is_utf8-from_IsUtf8}
use Rattle.vocabulary.specs.PlainTexts.{is_plain_text, text_of, IsText}

text_if : (a b : Bool) (bytes : List ℕ) → a ≡ true → b ≡ true → cond (a && b) (Some bytes) None ≡ Some bytes
text_if a b bytes h k = rw (h, k)

-- a text is one
pub text_of-text : (bytes : List ℕ) → IsText bytes → text_of bytes ≡ Some bytes
text_of-text bytes is = text_if (is_utf8 bytes) (is_plain_text bytes) bytes (is_utf8-from_IsUtf8 bytes is.utf8) (search rules)

made_text : (bytes : List ℕ) → is_utf8 bytes ≡ true → is_plain_text bytes ≡ true → IsText bytes
made_text bytes h k = record { utf8 = IsUtf8-from_is_utf8 bytes h; plain = search rules }

none_unless : (a b : Bool) (bytes : List ℕ) → (a ≡ true → b ≡ true → ⊥) → cond (a && b) (Some bytes) None ≡ None
none_unless true true bytes not = absurd (not refl refl)
none_unless true false bytes not = refl
none_unless false b bytes not = refl

-- and what is no text is none
pub text_of-no_text : (bytes : List ℕ) → ¬ (IsText bytes) → text_of bytes ≡ None
text_of-no_text bytes no_text = none_unless (is_utf8 bytes) (is_plain_text bytes) bytes (λ h k. no_text (made_text bytes h k))

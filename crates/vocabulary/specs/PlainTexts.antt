-- Texts: the names of holders and the words of resolutions.
use Rattle.std.specs.Prelude.{ℕ, Bool, ◌&&◌, not, ◌==◌, List, length, nat_le, IsUtf8, IsTrue, Option, Some, None, if◌then◌else◌}
use Rattle.std.specs.List.{list_all}
use Rattle.std.specs.Str.{is_utf8}
use Rattle.vocabulary.specs.declared.text.TheConstants.{LONGEST_TEXT}

-- no control byte: none below 32, and not 127
abbrev pub is_plain : ℕ → Bool
is_plain b = nat_le 32 b && not (b == 127)

-- 1 to `LONGEST_TEXT` bytes, none of them a control byte
abbrev pub is_plain_text : List ℕ → Bool
is_plain_text bytes =
    nat_le 1 (length bytes) && nat_le (length bytes) LONGEST_TEXT && list_all is_plain bytes

-- 1 to `LONGEST_TEXT` bytes of UTF-8, none of them a control byte
pub record IsText (bytes : List ℕ) : Type 0 where
  pub utf8 : IsUtf8 bytes
  pub plain : IsTrue (is_plain_text bytes)

-- the text that bytes are, if they are UTF-8 and have the form of one
abbrev pub text_of : List ℕ → Option (List ℕ)
text_of bytes = if is_utf8 bytes && is_plain_text bytes then Some bytes else None

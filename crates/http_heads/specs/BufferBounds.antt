-- Where the reader's bytes and spans lie in it.
use Rattle.std.specs.Prelude.{◌≡◌, ℕ, ◌≤◌, List, length, take}
use Rattle.httparse.specs.Spans.{IsRequestWithin}
use Rattle.httparse.specs.declared.spans.HeaderSpan.{HeaderSpan}
use Rattle.httparse.specs.declared.spans.RequestSpans.{RequestSpans}

-- the bytes so far lie in a buffer of 8,192 bytes, and the head and its fields in those bytes
pub record IsInside
    (buffer : List ℕ) (filled : ℕ) (fields : List HeaderSpan) (head : RequestSpans) : Type 0 where
  pub capacity : length buffer ≡ 8192
  pub filled_fits : filled ≤ 8192
  pub room : length fields ≡ 32
  pub within : IsRequestWithin (take filled buffer) fields head

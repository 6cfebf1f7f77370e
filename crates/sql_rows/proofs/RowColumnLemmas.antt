-- Texts, and that what is kept reads back.
use Rattle.std.proofs.Common.{◌≡◌, ◌≤◌, ℕ, ℤ, pos, ◌+ℤ◌, ◌-ℤ◌, List, Some, None, true, IsUtf8, inl, inr, refl, arith, nat_le}
use Rattle.std.specs.Str.{is_utf8, chars}
use Rattle.std.proofs.lemmas.Str.{IsUtf8-from_is_utf8, is_utf8-from_IsUtf8}
use Rattle.std.proofs.lemmas.Bool.{cases_Bool}
use Rattle.std.proofs.lemmas.Bool.Decides.{nat_tests}
use Rattle.std.proofs.lemmas.Int.{ints}
use Rattle.vocabulary.specs.Kinds.{company_word, company_of, meeting_kind_word, meeting_kind_of, resolution_kind_word, resolution_kind_of, holder_kind_word, holder_kind_of, capacity_word, capacity_of, way_word, way_of}
use Rattle.vocabulary.specs.Names.{Holds, letters_of, is_name, is_party, is_key, meeting_of, party_of, key_of}
use Rattle.vocabulary.specs.PlainTexts.{IsText}
use Rattle.vocabulary.specs.declared.kinds.Company.{Company}
use Rattle.vocabulary.specs.declared.kinds.Company.TheVariants as company
use Rattle.vocabulary.specs.declared.kinds.MeetingKind.{MeetingKind}
use Rattle.vocabulary.specs.declared.kinds.MeetingKind.TheVariants as meeting_kind
use Rattle.vocabulary.specs.declared.kinds.ResKind.{ResKind}
use Rattle.vocabulary.specs.declared.kinds.ResKind.TheVariants as resolution_kind
use Rattle.vocabulary.specs.declared.kinds.HolderKind.{HolderKind}
use Rattle.vocabulary.specs.declared.kinds.HolderKind.TheVariants as holder_kind
use Rattle.vocabulary.specs.declared.kinds.Capacity.{Capacity}
use Rattle.vocabulary.specs.declared.kinds.Capacity.TheVariants as capacity
use Rattle.vocabulary.specs.declared.kinds.Way.{Way}
use Rattle.vocabulary.specs.declared.kinds.Way.TheVariants as way
use Rattle.sqlite.specs.declared.types.Value.TheVariants.{Null, Text}
use Rattle.desk_words.specs.declared.records.CastKind.TheVariants.{AsInstructed}
use Rattle.sql_rows.specs.Marks.{cast_kind_of, instructed_word}
use Rattle.sql_rows.specs.ColumnValues.{string_of, natural_of, unix_day, moment_of_number, plain_text_of, read_word}

-- a text is itself
pub string_is : (bytes : List ℕ) → IsUtf8 bytes → string_of bytes ≡ Some bytes
string_is bytes is = rw (is_utf8-from_IsUtf8 bytes is) refl

-- what is no text is none
pub no_string : (bytes : List ℕ) → ¬ IsUtf8 bytes → string_of bytes ≡ None
no_string bytes none = elim (cases_Bool (is_utf8 bytes)) [
  | inl is ↦ absurd (none (IsUtf8-from_is_utf8 bytes is))
  | inr is ↦ rw is refl
]

shifted : (n k highest : ℕ) → n ≤ highest → nat_le n highest ≡ true
shifted n k highest h = grind (arith, nat_tests)

back : (n k : ℕ) → (pos n -ℤ pos k) +ℤ pos k ≡ pos n
back n k = omega (arith, ints)

pub day_reads_back : (n : ℕ) → n ≤ 401766 → unix_day (pos n -ℤ pos 25567) ≡ Some n
day_reads_back n h = rw (back n 25567, shifted n 0 401766 h) refl

pub moment_reads_back : (n : ℕ) → n ≤ 34712668799 → moment_of_number (pos n -ℤ pos 2208988800) ≡ Some n
moment_reads_back n h = rw (back n 2208988800, shifted n 0 34712668799 h) refl

pub number_reads_back : (n : ℕ) (z : ℤ) → z ≡ pos n → natural_of z ≡ Some n
number_reads_back n z e = rw e refl

pub meeting_reads_back : (m : List ℕ) → Holds 16 is_name m → meeting_of (letters_of m) ≡ Some m
meeting_reads_back m h = rw (h.form, h.rest) refl

pub party_reads_back : (p : List ℕ) → Holds 16 is_party p → party_of (letters_of p) ≡ Some p
party_reads_back p h = rw (h.form, h.rest) refl

pub key_reads_back : (k : List ℕ) → Holds 64 is_key k → key_of (letters_of k) ≡ Some k
key_reads_back k h = rw (h.form, h.rest) refl

pub text_reads_back : (t : List ℕ) → IsText t → read_word plain_text_of t ≡ Some t
text_reads_back t h = rw (string_is t h.utf8, h.plain) refl

pub company_reads_back : (x : Company) → read_word company_of (company_word x) ≡ Some x
unfolding is_utf8 chars lib.Utf8.encode
company_reads_back company.Private = refl
company_reads_back company.Public = refl

pub meeting_kind_reads_back : (x : MeetingKind) → read_word meeting_kind_of (meeting_kind_word x) ≡ Some x
unfolding is_utf8 chars lib.Utf8.encode
meeting_kind_reads_back meeting_kind.Annual = refl
meeting_kind_reads_back meeting_kind.General = refl

pub resolution_kind_reads_back : (x : ResKind) → read_word resolution_kind_of (resolution_kind_word x) ≡ Some x
unfolding is_utf8 chars lib.Utf8.encode
resolution_kind_reads_back resolution_kind.Ordinary = refl
resolution_kind_reads_back resolution_kind.Special = refl

pub holder_kind_reads_back : (x : HolderKind) → read_word holder_kind_of (holder_kind_word x) ≡ Some x
unfolding is_utf8 chars lib.Utf8.encode
holder_kind_reads_back holder_kind.Individual = refl
holder_kind_reads_back holder_kind.Corporation = refl
holder_kind_reads_back holder_kind.Treasury = refl

pub capacity_reads_back : (x : Capacity) → read_word capacity_of (capacity_word x) ≡ Some x
unfolding is_utf8 chars lib.Utf8.encode
capacity_reads_back capacity.Member = refl
capacity_reads_back capacity.Rep = refl
capacity_reads_back capacity.Proxy = refl

pub way_reads_back : (x : Way) → read_word way_of (way_word x) ≡ Some x
unfolding is_utf8 chars lib.Utf8.encode
way_reads_back way.For = refl
way_reads_back way.Against = refl
way_reads_back way.Withheld = refl

pub instructed_reads_back : cast_kind_of (Text instructed_word) Null Null Null Null ≡ Some AsInstructed
unfolding is_utf8 chars lib.Utf8.encode
instructed_reads_back = refl

-- Records in the order of their numbers.
use Rattle.std.specs.Prelude.{◌==◌, ℕ, suc, Bool, true, ◌&&◌, List, [], ◌∷◌, Option}
use Rattle.std.specs.Prelude.{length, nat_le}
use Rattle.seq.specs.Sorting.{sort_by}
use Rattle.desk_words.specs.declared.limits.TheConstants.{MOST_SESSIONS}
use Rattle.desk_words.specs.declared.records.Resolution.{Resolution}
use Rattle.desk_words.specs.declared.records.Session.{Session}
use Rattle.sql_rows.specs.declared.stored_records.Numbered.{Numbered}
use Rattle.sql_model.specs.OfficeRecords.{number_before, numbered_from}

-- the things in the order of their numbers, which go on from that one
abbrev pub numbered_own : {A : Type 0} → ℕ → List (Numbered A) → Option (List A)
numbered_own n records = numbered_from n (sort_by number_before records)

-- the further sessions in the order of their numbers, which are 2, 3, ..
abbrev pub sessions_own : List (Numbered Session) → Option (List Session)
sessions_own = numbered_own 2

-- the resolutions in the order of their numbers, which are 1, 2, ..
abbrev pub resolutions_own : List (Numbered Resolution) → Option (List Resolution)
resolutions_own = numbered_own 1

-- the thing without its number
abbrev pub unnumbered : {A : Type 0} → Numbered A → A
unnumbered r = r.item

-- the numbers are those from a number on
abbrev pub number_from : {A : Type 0} → ℕ → List (Numbered A) → Bool
number_from n [] = true
number_from n (r ∷ rest) = (r.number == n) && number_from (suc n) rest

-- at most so many
abbrev pub at_most : {A : Type 0} → ℕ → List A → Bool
at_most n things = nat_le (length things) n

-- with the first session they are at most `MOST_SESSIONS`
abbrev pub are_few : List Session → Bool
are_few later = nat_le (suc (length later)) MOST_SESSIONS

-- The lists of resolutions, keys and closed days.
use Rattle.std.specs.Prelude.{ℕ, Bool, ◌&&◌, nat_eq, nat_le, List, length, Option, Some, None, if◌then◌else◌}
use Rattle.std.specs.Ordering.{nat_cmp}
use Rattle.std.specs.Set.{distinct_count, unique_keys}
use Rattle.vocabulary.specs.Names.{name_cmp}
use Rattle.seq.specs.Ordered.{differ_by, ascends_by, same_key, key_before}
use Rattle.std.specs.Option.{option_cmp}
use Rattle.desk_words.specs.Callers.{party_in}
use Rattle.desk_words.specs.ViewTypes.{Day}
use Rattle.seq.specs.Sorting.{sort_by}
use Rattle.desk_words.specs.declared.limits.TheConstants.{MOST_CLOSED_DAYS, MOST_KEYS, MOST_RESOLUTIONS}
use Rattle.desk_words.specs.declared.caller.KeyRow.{KeyRow}
use Rattle.desk_words.specs.declared.records.Resolution.{Resolution}

-- 1 to `MOST_RESOLUTIONS` resolutions
abbrev pub are_resolutions : List Resolution → Bool
are_resolutions resolutions =
    nat_le 1 (length resolutions) && nat_le (length resolutions) MOST_RESOLUTIONS

-- both keys are of one caller
abbrev pub same_caller : KeyRow → KeyRow → Bool
same_caller = same_key (λ (row : KeyRow). party_in row.caller) (option_cmp name_cmp)

-- the office's key comes first, and then those of the parties in their order
abbrev pub caller_before : KeyRow → KeyRow → Bool
caller_before = key_before (λ (row : KeyRow). party_in row.caller) (option_cmp name_cmp)

-- both callers have one key
abbrev pub same_secret : KeyRow → KeyRow → Bool
same_secret = same_key (λ (row : KeyRow). row.secret) name_cmp

-- at most `MOST_KEYS` keys, no two of them the same
abbrev pub keep_keys : List KeyRow → Bool
keep_keys rows = nat_le (length rows) MOST_KEYS && differ_by same_secret rows

-- such keys, each of another caller
abbrev pub are_keys : List KeyRow → Bool
are_keys rows = keep_keys rows && differ_by same_caller rows

-- such keys in the order of callers, each of another caller
abbrev pub is_key_list : List KeyRow → Bool
is_key_list rows = keep_keys rows && ascends_by caller_before rows

-- the list of these keys, if they are such keys
abbrev pub key_list_of : List KeyRow → Option (List KeyRow)
key_list_of rows = if are_keys rows then Some (sort_by caller_before rows) else None

-- how many different days there are in the list
abbrev pub day_count : List Day → ℕ
day_count days = distinct_count nat_eq days

-- the first day is earlier
abbrev pub day_before : Day → Day → Bool
day_before = key_before (λ (day : Day). day) nat_cmp

-- at most `MOST_CLOSED_DAYS` days in order, each once (section 1173)
abbrev pub is_day_list : List Day → Bool
is_day_list days = nat_le (length days) MOST_CLOSED_DAYS && ascends_by day_before days

-- the days, in order, each once
unfoldable pub each_once : List Day → List Day
each_once days = sort_by day_before (unique_keys nat_eq days)

-- the list of these days, if there are at most `MOST_CLOSED_DAYS` different ones
abbrev pub day_list_of : List Day → Option (List Day)
day_list_of days = if nat_le (day_count days) MOST_CLOSED_DAYS then Some (each_once days) else None

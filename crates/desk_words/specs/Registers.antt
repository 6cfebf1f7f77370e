-- Registers.
use Rattle.std.specs.Prelude.{ℕ, Bool, ◌&&◌, nat_le, List, length, sum_by, Option, Some, None, if◌then◌else◌}
use Rattle.std.specs.List.{list_all}
use Rattle.vocabulary.specs.Names.{name_cmp}
use Rattle.vocabulary.specs.declared.range.TheConstants.{MOST_PLACES}
use Rattle.seq.specs.Ordered.{differ_by, ascends_by, same_key, key_before}
use Rattle.seq.specs.Sorting.{sort_by}
use Rattle.desk_words.specs.declared.records.RegisterRow.{RegisterRow}
use Rattle.desk_words.specs.declared.limits.TheConstants.{MOST_PENCE, MOST_ROWS, MOST_SHARES}

-- a holding within its limits: 1 to `MOST_PLACES` shares, and at most `MOST_PENCE` paid up on each
-- (section 113)
abbrev pub is_holding : RegisterRow → Bool
is_holding row = nat_le 1 row.shares && nat_le row.shares MOST_PLACES && nat_le row.paid MOST_PENCE

-- all shares, treasury shares among them
abbrev pub all_shares : List RegisterRow → ℕ
all_shares rows = sum_by (λ (row : RegisterRow). row.shares) rows

-- both rows are of one member
abbrev pub same_member : RegisterRow → RegisterRow → Bool
same_member = same_key (λ (row : RegisterRow). row.member) name_cmp

-- the first row's member comes before the second's
abbrev pub member_before : RegisterRow → RegisterRow → Bool
member_before = key_before (λ (row : RegisterRow). row.member) name_cmp

-- 1 to `MOST_ROWS` holdings, each within its limits, and at most `MOST_SHARES` shares in all
abbrev pub keep_limits : List RegisterRow → Bool
keep_limits rows =
    nat_le 1 (length rows)
    && nat_le (length rows) MOST_ROWS
    && list_all is_holding rows
    && nat_le (all_shares rows) MOST_SHARES

-- holdings of different members that keep the limits
abbrev pub are_holdings : List RegisterRow → Bool
are_holdings rows = keep_limits rows && differ_by same_member rows

-- such holdings in the order of members, which a set of rows has just once (section 113)
abbrev pub is_register : List RegisterRow → Bool
is_register rows = keep_limits rows && ascends_by member_before rows

-- the register of these rows, if they are such holdings (section 113)
abbrev pub register_of : List RegisterRow → Option (List RegisterRow)
register_of rows = if are_holdings rows then Some (sort_by member_before rows) else None

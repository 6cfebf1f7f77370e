-- Sums of a demand, row by row. For private contracts.
use Rattle.std.specs.Prelude.{ℕ, ◌+◌, ◌*◌, ◌<◌, ◌^◌, nat_lt, List, count_by, sum_by, if◌then◌else◌}
use Rattle.desk_words.specs.declared.records.RegisterRow.{RegisterRow}
use Rattle.proxy_rules.specs.Shares.{shares_of}
use Rattle.poll_rules.specs.Demands.{is_enough, paid_on}
use Rattle.poll_rules.specs.declared.demand.Demand.{Demand}
use Rattle.poll_rules.specs.declared.demand.Sums.{Sums}

-- the sums of rows of each of which so many shares demand
abbrev pub sums_by : (RegisterRow → ℕ) → List RegisterRow → Sums
sums_by demanding rows = record {
  members = count_by (λ row. nat_lt 0 (demanding row)) rows;
  shares = sum_by demanding rows;
  paid = sum_by (paid_on demanding) rows;
  all_shares = sum_by shares_of rows;
  all_paid = sum_by (paid_on shares_of) rows;
}

-- the sums with one row more, of which so many shares demand
abbrev pub with_row : Sums → RegisterRow → ℕ → Sums
with_row s row demanding = record {
  members = s.members + (if nat_lt 0 demanding then 1 else 0);
  shares = s.shares + demanding;
  paid = s.paid + demanding * row.paid;
  all_shares = s.all_shares + shares_of row;
  all_paid = s.all_paid + shares_of row * row.paid;
}

-- one row more fits
pub record FitsRow (s : Sums) (row : RegisterRow) (demanding : ℕ) : Type 0 where
  pub members : s.members + 1 < 2 ^ 64
  pub shares : s.shares + demanding < 2 ^ 64
  pub paid : s.paid + demanding * row.paid < 2 ^ 64
  pub all_shares : s.all_shares + shares_of row < 2 ^ 64
  pub all_paid : s.all_paid + shares_of row * row.paid < 2 ^ 64

-- the demand that has these sums
abbrev pub demand_from : Sums → Demand
demand_from s = record {
  members = s.members;
  shares = s.shares;
  paid = s.paid;
  reached = is_enough s.members s.shares s.paid s.all_shares s.all_paid;
}

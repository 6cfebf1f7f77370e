-- The limits of files, by their numbers.
use Rattle.std.specs.Prelude.{◌≡◌}
use Rattle.csv_import.specs.declared.whole.TheConstants.{DAY_FILE_LIMIT, FILE_LIMIT}

-- how many bytes a register file or a key file has at most, and a file of closed days
pub record FileLimitsAre : Type 0 where
  pub file : FILE_LIMIT ≡ 16777216
  pub day_file : DAY_FILE_LIMIT ≡ 65536

-- The search for the last moment that leaves a working time before an end. All are in seconds, but
-- days.
use Rattle.std.specs.Prelude.{ℕ, ◌+◌, ◌*◌, ◌/◌, ◌<◌, ◌≤◌, ◌≡◌, List}
use Rattle.desk_words.specs.ViewTypes.{Day, Moment}
use Rattle.office_days.specs.WorkingDays.{work}

-- this day's beginning leaves as much working time before the end as is wanted, and from that later
-- day on none does
pub record IsBracket (closed : List Day) (wanted end : ℕ) (day left too_late : ℕ) : Type 0 where
  pub ordered : day < too_late
  pub within : too_late ≤ end / 86400 + 1
  pub is : left ≡ work closed (86400 * day) end
  pub enough : wanted ≤ left
  pub few : (later : Day) → too_late ≤ later → later ≤ end / 86400
      → work closed (86400 * later) end < wanted

-- this is the last moment up to the end that leaves as much working time before it as is wanted
pub record IsLatest (closed : List Day) (wanted : ℕ) (end found : Moment) : Type 0 where
  pub within : found ≤ end
  pub leaves : wanted ≤ work closed found end
  pub latest : (later : Moment) → found < later → later ≤ end → work closed later end < wanted

use Rattle.std.proofs.Common.{rules}
use Rattle.sql_desk_tables.proofs.meetings.MeetingsListedTable.listing.Goals as goal

pub returns : goal.returns
returns c = search rules

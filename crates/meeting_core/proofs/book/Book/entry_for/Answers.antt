use Rattle.std.proofs.Common.{rules}
use Rattle.meeting_core.proofs.book.Book.entry_for.Goals as goal

pub returns : goal.returns
returns c = search rules

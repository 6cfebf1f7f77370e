use Rattle.std.proofs.Common.{rules}
use Rattle.proxy_rules.proofs.pieces.cover_by.Goals as goal

pub returns-in_ok-new : goal.returns-in_ok-new
returns-in_ok-new c = search rules

pub returns-else-le : goal.returns-else-le
returns-else-le c = search rules

use Rattle.std.proofs.Common.{inr}
use Rattle.http_heads.proofs.HeadLemmas.{full_unfinished}
use Rattle.http_heads.proofs.heads.unended.Goals as goal

pub returns-else-bytes-lt-LONGEST_HEAD : goal.returns-else-bytes-lt-LONGEST_HEAD
returns-else-bytes-lt-LONGEST_HEAD c =
    λ left held. inr (full_unfinished c.args.bytes.now left c.requires.short c.if-bytes-lt-LONGEST_HEAD.false c.requires.none c.requires.unended)

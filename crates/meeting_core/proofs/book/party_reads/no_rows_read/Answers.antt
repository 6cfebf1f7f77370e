use Rattle.std.proofs.Common.{◌∙◌}
use Rattle.party_views.proofs.OwnLemmas.{no_rows-read}
use Rattle.meeting_core.proofs.book.party_reads.no_rows_read.Goals as goal

pub returns : goal.returns
returns c = (λ i. record (c.no_own_rows.ensures i) { casts = c.no_casts_for.ensures i }) ∙ no_rows-read c.args.party c.args.asked.now

use Rattle.sql_stored.proofs.FiledLemmas.{row_put}
use Rattle.sql_stored.proofs.filed.add_parts.Goals as goal

pub returns-clause-added : goal.returns-clause-added
returns-clause-added g c =
    let row = c.args.row.now in
    c.add_row.ensures.added _ (row_put g.T.Item.Parts.Columns.means g.T.Item.MeetingRecord.of g.met.T.FiledTable.filed _ row.0 row.1 _ c.in_ok-put.ensures.puts)

use Rattle.desk_store.proofs.DeskReadLemmas.{book_returned}
use Rattle.desk_store.proofs.library.read_book.Goals as goal

pub returns-clause-holds : goal.returns-clause-holds
returns-clause-holds g c =
    book_returned g.S.Store c.args.tx.now.conn.now c.read_office.new.tx.conn.now _ c.in_ok-lists.lists c.of_lists.result c.map_err.result c.in_ok-lists.ensures.read c.of_lists.ensures.value c.map_err.ensures.cases

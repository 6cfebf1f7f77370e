use Rattle.memory_host.proofs.OpenBookLemmas as lemmas
use Rattle.memory_host.proofs.open_book.OpenBookOffice.perform.Goals as goal

-- the book is the office after the call
pub returns-clause-settled : goal.returns-clause-settled
returns-clause-settled g c = λ _ office was. lemmas.settled c.perform.result c.args.call office c.perform.new.self (c.perform.ensures.leaves.stands tt tt office was)

pub returns-clause-crash : goal.returns-clause-crash
returns-clause-crash g c = λ _. lemmas.may_be_left c.perform.result c.args.call c.args.self.now.book c.perform.new.self (c.perform.ensures.leaves.stands tt tt)

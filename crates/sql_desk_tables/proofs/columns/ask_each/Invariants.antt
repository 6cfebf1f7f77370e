use Rattle.std.proofs.Common.{◌≡◌, ℕ, List, ◌∷◌, false, Ok, map, take}
use Rattle.std.specs.Borrow.{Bor}
use Rattle.sql_desk_tables.specs.ColumnChecks.{AsksFor}
use Rattle.sql_desk_tables.proofs.columns.ask_each.Given as goal

abbrev pub invariant-loop-sql : goal.invariant-loop-sql
invariant-loop-sql g l = record {
  ended : l.conn.in_transaction ≡ false;
  asked : AsksFor {T = Unit {0}} g.S.Store l.fn.conn l.conn (l.first ∷ map (λ (text : Bor (List ℕ)). text.now) (take l.sql-index l.more)) (Ok tt);
}

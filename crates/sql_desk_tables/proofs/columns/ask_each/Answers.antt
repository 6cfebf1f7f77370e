use Rattle.std.proofs.Common.{◌≡◌, ℕ, ◌+◌, ◌++◌, ◌∷◌, [], List, Err, Ok, drop, map, take, sym, ap, subst, ◌∙◌, rules}
use Rattle.std.specs.Borrow.{Bor}
use Rattle.std.proofs.lemmas.List.{map-append, take_more, take-append-drop}
use Rattle.sql_desk_tables.specs.ColumnChecks.{AsksFor}
use Rattle.sql_desk_tables.proofs.TableColumnLemmas.{asks_stop, asks_then}
use Rattle.sql_desk_tables.proofs.columns.ask_each.Goals as goal

abbrev texts_of : List (Bor (List ℕ)) → List (List ℕ)
texts_of texts = map (λ (text : Bor (List ℕ)). text.now) texts

abbrev none : Bor (List ℕ)
none = record { ref_ptr = (0, 0); now = [] }

pub returns-in_err-ask-2-clause-asked : goal.returns-in_err-ask-2-clause-asked
returns-in_err-ask-2-clause-asked g c =
    let i = c.loop-sql.sql-index in
    let all = c.args.more.now in
    let is : c.from_residual-in_err-ask-2.result ≡ Err c.in_err-ask-2.field-0.0 = search rules in
    let next = ap texts_of (take_more all i none c.loop-sql-test.true) ∙ map-append (λ (text : Bor (List ℕ)). text.now) (take i all) _ in
    let rest = texts_of (drop (i + 1) all) in
    let whole = ap (λ l. l ++ rest) (sym next) ∙ sym (map-append (λ (text : Bor (List ℕ)). text.now) (take (i + 1) all) (drop (i + 1) all)) ∙ ap texts_of (take-append-drop (i + 1) all) in
    let asked = asks_then g.S.Store _ _ _ _ _ _ c.loop-sql.invariant.asked c.in_err-ask-2.ensures.asked in
    subst (λ l. AsksFor g.S.Store c.args.conn.now c.ask-in-loop-sql.new.conn (c.args.first.now ∷ l) c.from_residual-in_err-ask-2.result) whole
    (asks_stop g.S.Store _ _ _ rest c.from_residual-in_err-ask-2.result is asked)

pub loop-sql-preserved : goal.loop-sql-preserved
loop-sql-preserved g c =
    let i = c.loop-sql.sql-index in
    let all = c.args.more.now in
    let next = ap texts_of (take_more all i none c.loop-sql-test.true) ∙ map-append (λ (text : Bor (List ℕ)). text.now) (take i all) _ in
    record {
      ended = c.in_ok-ask-2.ensures.ended;
      asked = subst (λ l. AsksFor {T = Unit {0}} g.S.Store c.args.conn.now c.ask-in-loop-sql.new.conn (c.args.first.now ∷ l) (Ok tt)) (sym next)
          (asks_then g.S.Store _ _ _ _ _ _ c.loop-sql.invariant.asked c.in_ok-ask-2.ensures.asked);
    }

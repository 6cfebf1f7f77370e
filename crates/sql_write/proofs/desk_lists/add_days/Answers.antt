use Rattle.std.proofs.Common.{◌≡◌, ◌+◌, ◌++◌, ◌∷◌, [], true, Ok, take, sym, ap, subst, ◌∙◌, ℕ, nat_le, length}
use Rattle.std.proofs.lemmas.List.{take_more}
use Rattle.std.proofs.lemmas.Cmp.{nat_cmp_total}
use Rattle.seq.specs.Ordered.{ascends_by}
use Rattle.seq.proofs.Ascending.{ascends_by-take}
use Rattle.desk_words.specs.SortedLists.{day_before}
use Rattle.std.proofs.lemmas.Bool.{and_parts}
use Rattle.sql_write.specs.Writes.{Rewrites, no_days, days_added}
use Rattle.sql_write.proofs.WrittenTurnLemmas.{day_more, earlier}
use Rattle.sql_write.proofs.desk_lists.add_days.Goals as goal

pub loop-day-preserved : goal.loop-day-preserved
loop-day-preserved g c =
    let i = c.loop-day.day-index in
    let all = c.args.days.now in
    let it = c.day-item.result in
    let next = take_more all i it c.loop-day-test.true ∙ ap (λ z. take i all ++ z ∷ []) (sym c.day-item.is) in
    let asked = and_parts (nat_le (length all) 2000) (ascends_by day_before all) c.requires in
    let up : ascends_by day_before (take i all ++ it ∷ []) ≡ true = subst (λ l. ascends_by day_before l ≡ true) next (ascends_by-take nat_cmp_total (λ (day : ℕ). day) (i + 1) all asked.1) in
    record {
      same = c.in_ok-add.ensures.same_reference ∙ c.loop-day.invariant.same;
      turns = subst (λ l. Rewrites {T = Unit {0}} g.S.Store c.args.tx.now.conn.now c.add.new.tx.conn.now (Ok tt) no_days (days_added l)) (sym next)
          (day_more g.S.Store c.args.tx.now.conn.now c.loop-day.tx.conn.now c.add.new.tx.conn.now c.in_ok-add.field-0 c.in_ok-add.ensures.commits (take i all) it (earlier (take i all) it up) c.loop-day.invariant.turns c.in_ok-add.ensures.added);
    }

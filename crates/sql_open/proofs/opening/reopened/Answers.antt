use Rattle.std.proofs.Common.{◌≡◌, IsTrue, false, arith, inl, inr, refl, rules, sym, ◌∙◌, ap, subst}
use Rattle.std.proofs.lemmas.Bool.{both_ways, true_from_ne_false}
use Rattle.sqlite.specs.declared.error.Error.TheVariants.{SqliteFailure}
use Rattle.sqlite.specs.declared.error.ErrorCode.TheVariants.{Closed}
use Rattle.sqlite.specs.Effect.{Database}
use Rattle.sqlite.specs.Held.{state}
use Rattle.sqlite_trees.specs.View.{IsClean}
use Rattle.sql_open.proofs.OpeningLemmas.{same_database}
use Rattle.sql_open.proofs.ReopeningLemmas.{fails_before, shut_if_broken}
use Rattle.sql_open.proofs.RisingLemmas.{risen}
use Rattle.sql_open.proofs.opening.reopened.Goals as goal

pub returns-in-Ok-clause-same : goal.returns-in-Ok-clause-same
returns-in-Ok-clause-same g c = λ clear.
    let store = c.into_store-store.result in
    let v = g.S.Store.view store in
    let late : IsClean v = omega (arith, c.in-Ok.ensures.clean, clear) in
    let whole : v.is_broken ≡ false = sym (c.is_broken.ensures late) ∙ c.if-is_broken.false in
    let is_open : IsTrue v.is_open = true_from_ne_false _ (λ shut. both_ways _ whole (g.met.S.Store.broken_if_shut store shut)) in
    let undone = c.into_store-store.ensures.undone in
    let was_open : IsTrue (state g.S.Store c.args.conn).is_open = (undone.kept late).was_open is_open in
    let auto : IsTrue c.is_autocommit.result = search rules in
    let same = c.in-Ok.ensures.trees clear ∙ (undone.undone is_open).0 ∙ sym (ap (λ (d : Database). d.trees) (c.is_autocommit.ensures.settled auto was_open)) in
    let live = (c.in-Ok.ensures.opens clear).1 (c.in-Ok.ensures.opens clear).0.is_open in
    same_database (state g.S.Store c.args.conn) (state g.S.Store c.in-Ok.conn) same (c.schema.ensures.live was_open).0 live.0

pub returns-in-Ok-clause-rising : goal.returns-in-Ok-clause-rising
returns-in-Ok-clause-rising g c = λ clear.
    let store = c.into_store-store.result in
    let v = g.S.Store.view store in
    let late : IsClean v = omega (arith, c.in-Ok.ensures.clean, clear) in
    let whole : v.is_broken ≡ false = sym (c.is_broken.ensures late) ∙ c.if-is_broken.false in
    let live = (c.in-Ok.ensures.opens clear).1 (c.in-Ok.ensures.opens clear).0.is_open in
    risen v (state g.S.Store c.in-Ok.conn) (c.in-Ok.ensures.trees clear) (g.met.S.Alter.listed store whole) (g.met.S.Store.ordered store whole) live.0.lists.listed

pub returns-in-Err-clause-preserved : goal.returns-in-Err-clause-preserved
returns-in-Err-clause-preserved g c = λ clear stands.
    let store = c.into_store-store.result in
    let v = g.S.Store.view store in
    let late : IsClean v = omega (arith, c.in-Err.ensures.unharmed.clean, clear) in
    let whole : v.is_broken ≡ false = sym (c.is_broken.ensures late) ∙ c.if-is_broken.false in
    let is_open : IsTrue v.is_open = true_from_ne_false _ (λ shut. both_ways _ whole (g.met.S.Store.broken_if_shut store shut)) in
    let undone = c.into_store-store.ensures.undone in
    let was_open : IsTrue (state g.S.Store c.args.conn).is_open = (undone.kept late).was_open is_open in
    let auto : IsTrue c.is_autocommit.result = search rules in
    c.in-Err.ensures.rows clear stands ∙ (undone.undone is_open).0 ∙ sym (ap (λ (d : Database). d.trees) (c.is_autocommit.ensures.settled auto was_open))

pub returns-in-Ok-clause-found : goal.returns-in-Ok-clause-found
returns-in-Ok-clause-found g c = λ clear db may.
    let conn = state g.S.Store c.args.conn in
    let store = c.into_store-store.result in
    let v = g.S.Store.view store in
    let late : IsClean v = omega (arith, c.in-Ok.ensures.clean, clear) in
    let whole : v.is_broken ≡ false = sym (c.is_broken.ensures late) ∙ c.if-is_broken.false in
    let is_open : IsTrue v.is_open = true_from_ne_false _ (λ shut. both_ways _ whole (g.met.S.Store.broken_if_shut store shut)) in
    let undone = c.into_store-store.ensures.undone in
    let was_open : IsTrue conn.is_open = (undone.kept late).was_open is_open in
    let opens = (c.in-Ok.ensures.opens clear).0 in
    let last = g.met.S.Store.settled c.in-Ok.conn.store db opens.is_open may in
    let is : db ≡ conn.committed.trees = last ∙ sym (ap (λ (d : Database). d.trees) opens.clean) ∙ c.in-Ok.ensures.trees clear ∙ (undone.undone is_open).0 in
    subst conn.may_leave (sym is) (g.met.S.Store.stays c.args.conn.store was_open)

pub returns-in-Err-clause-crash : goal.returns-in-Err-clause-crash
returns-in-Err-clause-crash g c = λ clear db may. c.into_store-store.ensures.quiet.outcomes db (c.in-Err.ensures.unharmed.outcomes db may)

pub returns-then-is_broken-clause-crash : goal.returns-then-is_broken-clause-crash
returns-then-is_broken-clause-crash g c = λ clear db may. c.into_store-store.ensures.quiet.outcomes db may

pub returns-then-is_broken-clause-cause : goal.returns-then-is_broken-clause-cause
returns-then-is_broken-clause-cause g c = λ clear.
    let store = c.into_store-store.result in
    let broken = sym (c.is_broken.ensures clear) ∙ c.if-is_broken.true in (
      SqliteFailure Closed,
      c.from.ensures,
      inl (shut_if_broken (g.S.Store.view c.args.conn.store) (g.S.Store.view store) c.into_store-store.ensures.undone broken, refl),
    )

pub returns-in-Err-clause-cause : goal.returns-in-Err-clause-cause
returns-in-Err-clause-cause g c = λ clear.
    let store = c.into_store-store.result in
    let v = g.S.Store.view store in
    let late : IsClean v = omega (arith, c.in-Err.ensures.unharmed.clean, clear) in
    let whole : v.is_broken ≡ false = sym (c.is_broken.ensures late) ∙ c.if-is_broken.false in
    let is_open : IsTrue v.is_open = true_from_ne_false _ (λ shut. both_ways _ whole (g.met.S.Store.broken_if_shut store shut)) in
    let undone = c.into_store-store.ensures.undone in
    let was_open : IsTrue (state g.S.Store c.args.conn).is_open = (undone.kept late).was_open is_open in
    let auto : IsTrue c.is_autocommit.result = search rules in
    let same = (undone.undone is_open).0 ∙ sym (ap (λ (d : Database). d.trees) (c.is_autocommit.ensures.settled auto was_open)) in (
      c.in-Err.error,
      c.from-in-Err.ensures,
      inr (was_open, fails_before v.trees (state g.S.Store c.args.conn).now.trees _ _ _ c.in-Err.error same c.into_store-store.ensures.quiet.counts (c.in-Err.ensures.err clear)),
    )

use Rattle.std.proofs.Common.{Ok, ap, subst, sym, ◌∙◌}
use Rattle.std.specs.Fn.{FnOnceReturnsAt}
use Rattle.desk_words.specs.declared.answer.Answer.{Answer}
use Rattle.desk_words.specs.declared.change.Change.{Change}
use Rattle.desk_store.specs.Cached.{valid_after}
use Rattle.desk_deciding.specs.Deciding.{IsDecided}
use Rattle.desk_deciding.proofs.DecidingLemmas.{holds_where}
use Rattle.desk_store.proofs.StepLemmas.{decided_as, step_holds, step_keeps, step_opened, step_still}
use Rattle.desk_store.proofs.perform.step.Goals as goal

pub returns-clause-shown : goal.returns-clause-shown
returns-clause-shown g c = λ clean inside sound office stands.
    let answered = holds_where g.S.Store _ _ _ _ (IsDecided c.args.call.now) c.in_ok-answer.ensures.holds c.requires.cached in
    let writes = c.in_ok-shown.ensures.writes in
    let it = step_holds g.S.Store c.args.tx.now.conn.now c.decide.new.tx.conn.now c.write_and_show.new.tx.conn.now c.args.call.now c.in_ok-answer.answer answered c.in_ok-shown.shown c.decided_changes_can_be_made.ensures writes clean inside sound office stands in
    let is = decided_as g.S.Store c.args.tx.now.conn.now c.decide.new.tx.conn.now c.write_and_show.new.tx.conn.now c.args.call.now c.in_ok-answer.answer answered _ writes clean office stands in
    (subst (λ r. FnOnceReturnsAt g.F.FnOnce c.args.show r (Ok c.in_ok-shown.shown)) (sym it.2) c.in_ok-shown.ensures.shown, it.0.0, it.0.1, c.valid_after-valid.ensures ∙ ap (λ (a : Answer Change). valid_after a.change) is)

pub returns-clause-inside : goal.returns-clause-inside
returns-clause-inside g c = λ clean inside sound office stands.
    let answered = holds_where g.S.Store _ _ _ _ (IsDecided c.args.call.now) c.in_ok-answer.ensures.holds c.requires.cached in
    (step_holds g.S.Store c.args.tx.now.conn.now c.decide.new.tx.conn.now c.write_and_show.new.tx.conn.now c.args.call.now c.in_ok-answer.answer answered c.in_ok-shown.shown c.decided_changes_can_be_made.ensures c.in_ok-shown.ensures.writes clean inside sound office stands).1

pub returns-clause-declares : goal.returns-clause-declares
returns-clause-declares g c = λ clean inside sound office stands.
    let answered = holds_where g.S.Store _ _ _ _ (IsDecided c.args.call.now) c.in_ok-answer.ensures.holds c.requires.cached in
    (step_holds g.S.Store c.args.tx.now.conn.now c.decide.new.tx.conn.now c.write_and_show.new.tx.conn.now c.args.call.now c.in_ok-answer.answer answered c.in_ok-shown.shown c.decided_changes_can_be_made.ensures c.in_ok-shown.ensures.writes clean inside sound office stands).3

pub returns-clause-preserved : goal.returns-clause-preserved
returns-clause-preserved g c =
    let answered = holds_where g.S.Store _ _ _ _ (IsDecided c.args.call.now) c.in_ok-answer.ensures.holds c.requires.cached in
    step_keeps g.S.Store c.args.tx.now.conn.now c.decide.new.tx.conn.now c.write_and_show.new.tx.conn.now c.args.call.now c.in_ok-answer.answer answered _ c.in_ok-shown.ensures.writes

pub returns-in_err-shown-clause-preserved : goal.returns-in_err-shown-clause-preserved
returns-in_err-shown-clause-preserved g c =
    let answered = holds_where g.S.Store _ _ _ _ (IsDecided c.args.call.now) c.in_ok-answer.ensures.holds c.requires.cached in
    step_keeps g.S.Store c.args.tx.now.conn.now c.decide.new.tx.conn.now c.write_and_show.new.tx.conn.now c.args.call.now c.in_ok-answer.answer answered _ c.in_err-shown.ensures.writes

pub returns-clause-was_open : goal.returns-clause-was_open
returns-clause-was_open g c =
    let answered = holds_where g.S.Store _ _ _ _ (IsDecided c.args.call.now) c.in_ok-answer.ensures.holds c.requires.cached in
    step_opened g.S.Store c.args.tx.now.conn.now c.decide.new.tx.conn.now c.write_and_show.new.tx.conn.now c.args.call.now c.in_ok-answer.answer answered _ c.in_ok-shown.ensures.writes

pub returns-in_err-shown-clause-was_open : goal.returns-in_err-shown-clause-was_open
returns-in_err-shown-clause-was_open g c =
    let answered = holds_where g.S.Store _ _ _ _ (IsDecided c.args.call.now) c.in_ok-answer.ensures.holds c.requires.cached in
    step_opened g.S.Store c.args.tx.now.conn.now c.decide.new.tx.conn.now c.write_and_show.new.tx.conn.now c.args.call.now c.in_ok-answer.answer answered _ c.in_err-shown.ensures.writes

pub returns-clause-still : goal.returns-clause-still
returns-clause-still g c = λ clean office stands none.
    let answered = holds_where g.S.Store _ _ _ _ (IsDecided c.args.call.now) c.in_ok-answer.ensures.holds c.requires.cached in
    step_still g.S.Store c.args.tx.now.conn.now c.decide.new.tx.conn.now c.write_and_show.new.tx.conn.now c.args.call.now c.in_ok-answer.answer answered _ c.in_ok-shown.ensures.writes clean office stands none

use Rattle.std.proofs.Common.{◌≡◌, [], None, Some, Ok, true, false, IsTrue, ap, subst, sym, ◌∙◌, arith, rules}
use Rattle.std.specs.Fn.{FnOnceReturnsAt}
use Rattle.sqlite.specs.Effect.{Database, IsDatabase}
use Rattle.sqlite.specs.Held.{Held, state}
use Rattle.sqlite.specs.State.{HasCleanDisk, IsUnchanged, KeepsCounts, Shows}
use Rattle.sqlite.specs.Steps.{FailsToCommit}
use Rattle.meeting_core.specs.Step.{decided, stepped}
use Rattle.desk_words.specs.declared.office.OfficeLists.{OfficeLists}
use Rattle.sql_model.specs.Standing.{Stands}
use Rattle.sql_schema.specs.Statements.{DeclaresNothing}
use Rattle.desk_store.specs.Cached.{valid_after}
use Rattle.desk_store.specs.declared.cached.StillValid.{StillValid}
use Rattle.desk_store.proofs.JoinLemmas.{IsOver, IsWithin, as_it_was, asked_open, asked_stands, asked_stop, begun_sound, committed, desk_clean, itself_after, leaves_behind, leaves_failed, not_committed, same_behind, records_begun, survives_behind, survives_call, whole_behind}
use Rattle.desk_deciding.proofs.KeepingLemmas.{stands_same}
use Rattle.desk_store.proofs.DeskReadLemmas.{error_of, mapped_failed, mapped_is, mapped_on}
use Rattle.desk_store.proofs.desk.Desk.perform_with_records.Goals as goal

pub returns-clause-done : goal.returns-clause-done
returns-clause-done g c = λ clean office stands.
    let old = state g.S.Store c.ask_open.new.self in
    let first = state g.S.Store c.transaction-tx.result.conn.now in
    let mid = state g.S.Store c.step.new.tx.conn.now in
    let end = state g.S.Store c.commit.new.self.0 in
    let begun : c.transaction-tx.result.conn.now ≡ record c.ask_open.new.self { in_transaction = true } = search rules in
    let within : IsWithin first mid = record { crash = c.step.ensures.crash; was_open = c.step.ensures.was_open; preserved = c.step.ensures.preserved } in
    let opened = desk_clean g.S.Store c.ask_open.new.self c.transaction-tx.result.conn.now c.step.new.tx.conn.now c.commit.new.self.0 begun within c.commit.ensures.ended c.commit.ensures.survives clean in
    let asked = c.in_ok-ask_open.ensures.asked in
    let there = stands_same old first office (ap (λ h. (state g.S.Store h).now) begun) (asked_stands g.S.Store c.args.self.now c.ask_open.new.self asked opened office stands) in
    let inside : IsTrue first.in_transaction = ap (λ h. (state g.S.Store h).in_transaction) begun in
    let sound : IsDatabase first.now = subst (λ (h : Held _). IsDatabase (state g.S.Store h).now) (sym begun) (asked.still opened).1 in
    let early : HasCleanDisk mid = omega (arith, c.commit.ensures.survives.clean) in
    let done = mapped_is _ (λ (t : _ × StillValid). FnOnceReturnsAt g.F.FnOnce c.args.show (decided office c.args.call.now).reply (Ok t.0) × Stands mid (stepped office c.args.call.now) × IsDatabase mid.now × (t.1 ≡ valid_after (decided office c.args.call.now).change)) c.step.result c.map_err.result c.in_ok-done.done c.map_err.ensures.cases c.in_ok-done.was
    (c.step.ensures.shown early inside sound office there) in
    let over = mapped_on {W = IsTrue mid.in_transaction × Shows mid end mid.now mid.now false × KeepsCounts mid end × (end.marks ≡ [])} _ c.commit.result c.map_err-2.result c.in_ok-map_err.field-0 c.map_err-2.ensures.cases c.in_ok-map_err.was (c.commit.ensures.ok clean) in
    (done.0, stands_same mid end (stepped office c.args.call.now) over.1.now_is done.1, done.3)

pub returns-clause-declares : goal.returns-clause-declares
returns-clause-declares g c = λ clean office stands.
    let old = state g.S.Store c.ask_open.new.self in
    let first = state g.S.Store c.transaction-tx.result.conn.now in
    let mid = state g.S.Store c.step.new.tx.conn.now in
    let end = state g.S.Store c.commit.new.self.0 in
    let begun : c.transaction-tx.result.conn.now ≡ record c.ask_open.new.self { in_transaction = true } = search rules in
    let within : IsWithin first mid = record { crash = c.step.ensures.crash; was_open = c.step.ensures.was_open; preserved = c.step.ensures.preserved } in
    let opened = desk_clean g.S.Store c.ask_open.new.self c.transaction-tx.result.conn.now c.step.new.tx.conn.now c.commit.new.self.0 begun within c.commit.ensures.ended c.commit.ensures.survives clean in
    let asked = c.in_ok-ask_open.ensures.asked in
    let there = stands_same old first office (ap (λ h. (state g.S.Store h).now) begun) (asked_stands g.S.Store c.args.self.now c.ask_open.new.self asked opened office stands) in
    let inside : IsTrue first.in_transaction = ap (λ h. (state g.S.Store h).in_transaction) begun in
    let sound : IsDatabase first.now = subst (λ (h : Held _). IsDatabase (state g.S.Store h).now) (sym begun) (asked.still opened).1 in
    let early : HasCleanDisk mid = omega (arith, c.commit.ensures.survives.clean) in
    let declared = mapped_on {W = DeclaresNothing first mid} _ c.step.result c.map_err.result c.in_ok-done.done c.map_err.ensures.cases c.in_ok-done.was (c.step.ensures.declares early inside sound office there) in
    let over = mapped_on {W = IsTrue mid.in_transaction × Shows mid end mid.now mid.now false × KeepsCounts mid end × (end.marks ≡ [])} _ c.commit.result c.map_err-2.result c.in_ok-map_err.field-0 c.map_err-2.ensures.cases c.in_ok-map_err.was (c.commit.ensures.ok clean) in
    ap (λ (d : Database). d.schema) over.1.now_is ∙ declared ∙ ap (λ (h : Held _). (state g.S.Store h).now.schema) begun ∙ ap (λ (d : Database). d.schema) (asked.still opened).0.0.now_is

pub returns-clause-leaves : goal.returns-clause-leaves
returns-clause-leaves g c =
    let first = state g.S.Store c.transaction-tx.result.conn.now in
    let mid = state g.S.Store c.step.new.tx.conn.now in
    let end = state g.S.Store c.commit.new.self.0 in
    let begun : c.transaction-tx.result.conn.now ≡ record c.ask_open.new.self { in_transaction = true } = search rules in
    let inside : IsTrue first.in_transaction = ap (λ h. (state g.S.Store h).in_transaction) begun in
    let within : IsWithin first mid = record { crash = c.step.ensures.crash; was_open = c.step.ensures.was_open; preserved = c.step.ensures.preserved } in
    let asked = c.in_ok-ask_open.ensures.asked in
    let over : HasCleanDisk end → IsTrue mid.in_transaction × Shows mid end mid.now mid.now false × KeepsCounts mid end × (end.marks ≡ []) = λ clean. mapped_on {W = IsTrue mid.in_transaction × Shows mid end mid.now mid.now false × KeepsCounts mid end × (end.marks ≡ [])} _ c.commit.result c.map_err-2.result c.in_ok-map_err.field-0 c.map_err-2.ensures.cases c.in_ok-map_err.was (c.commit.ensures.ok clean) in
    let there : HasCleanDisk mid → IsDatabase first.now → (office : OfficeLists) → Stands first office → Stands mid (stepped office c.args.call.now) = λ clean sound office stands.
    (mapped_is _ (λ (t : _ × StillValid). FnOnceReturnsAt g.F.FnOnce c.args.show (decided office c.args.call.now).reply (Ok t.0) × Stands mid (stepped office c.args.call.now) × IsDatabase mid.now × (t.1 ≡ valid_after (decided office c.args.call.now).change)) c.step.result c.map_err.result c.in_ok-done.done c.map_err.ensures.cases c.in_ok-done.was (c.step.ensures.shown clean inside sound office stands)).1 in
    leaves_behind g.S.Store c.args.self.now c.ask_open.new.self asked (Some c.args.call.now) c.commit.new.self.0
    (committed g.S.Store c.ask_open.new.self c.transaction-tx.result.conn.now c.step.new.tx.conn.now c.commit.new.self.0 begun within c.commit.ensures.ended c.commit.ensures.survives (Some c.args.call.now) (λ clean. (over clean).1)
    (λ clean. there clean (begun_sound g.S.Store c.args.self.now c.ask_open.new.self asked c.transaction-tx.result.conn.now c.step.new.tx.conn.now begun within clean)))

pub returns-in_err-map_err-clause-leaves : goal.returns-in_err-map_err-clause-leaves
returns-in_err-map_err-clause-leaves g c =
    let old = state g.S.Store c.ask_open.new.self in
    let first = state g.S.Store c.transaction-tx.result.conn.now in
    let mid = state g.S.Store c.step.new.tx.conn.now in
    let end = state g.S.Store c.commit.new.self.0 in
    let begun : c.transaction-tx.result.conn.now ≡ record c.ask_open.new.self { in_transaction = true } = search rules in
    let within : IsWithin first mid = record { crash = c.step.ensures.crash; was_open = c.step.ensures.was_open; preserved = c.step.ensures.preserved } in
    let asked = c.in_ok-ask_open.ensures.asked in
    let settled : IsTrue old.is_open → old.now ≡ old.committed = search rules in
    let began : IsTrue first.in_transaction = ap (λ h. (state g.S.Store h).in_transaction) begun in
    let inside : HasCleanDisk mid → (office : OfficeLists) → Stands first office → IsTrue mid.in_transaction = λ clean office stands.
    mapped_on _ c.step.result c.map_err.result c.in_ok-done.done c.map_err.ensures.cases c.in_ok-done.was (c.step.ensures.inside clean began (begun_sound g.S.Store c.args.self.now c.ask_open.new.self asked c.transaction-tx.result.conn.now c.step.new.tx.conn.now begun within clean) office stands) in
    let failed = mapped_failed _ c.commit.result c.map_err-2.result c.map_err-2.ensures.cases c.in_err-map_err.was in
    leaves_failed g.S.Store c.args.self.now c.commit.new.self.0 c.from_residual-in_err-map_err.result c.args.call.now c.from_residual-in_err-map_err.ensures.0
    (leaves_behind g.S.Store c.args.self.now c.ask_open.new.self asked None c.commit.new.self.0
    (not_committed g.S.Store c.ask_open.new.self c.transaction-tx.result.conn.now c.step.new.tx.conn.now c.commit.new.self.0 begun within c.commit.ensures.ended c.commit.ensures.survives (λ clean. error_of (FailsToCommit mid end) c.commit.result failed (c.commit.ensures.err clean)) settled inside))

pub returns-clause-crash : goal.returns-clause-crash
returns-clause-crash g c =
    let first = state g.S.Store c.transaction-tx.result.conn.now in
    let mid = state g.S.Store c.step.new.tx.conn.now in
    let begun : c.transaction-tx.result.conn.now ≡ record c.ask_open.new.self { in_transaction = true } = search rules in
    let inside : IsTrue first.in_transaction = ap (λ h. (state g.S.Store h).in_transaction) begun in
    let within : IsWithin first mid = record { crash = c.step.ensures.crash; was_open = c.step.ensures.was_open; preserved = c.step.ensures.preserved } in
    let asked = c.in_ok-ask_open.ensures.asked in
    let there : HasCleanDisk mid → (office : OfficeLists) → Stands first office → Stands mid (stepped office c.args.call.now) × IsDatabase mid.now = λ clean office stands.
    let done = mapped_is _ (λ (t : _ × StillValid). FnOnceReturnsAt g.F.FnOnce c.args.show (decided office c.args.call.now).reply (Ok t.0) × Stands mid (stepped office c.args.call.now) × IsDatabase mid.now × (t.1 ≡ valid_after (decided office c.args.call.now).change)) c.step.result c.map_err.result c.in_ok-done.done c.map_err.ensures.cases c.in_ok-done.was
    (c.step.ensures.shown clean inside (begun_sound g.S.Store c.args.self.now c.ask_open.new.self asked c.transaction-tx.result.conn.now c.step.new.tx.conn.now begun within clean) office stands) in
    (done.1, done.2) in
    survives_behind g.S.Store c.args.self.now c.ask_open.new.self asked c.args.call.now (state g.S.Store c.commit.new.self.0)
    (survives_call g.S.Store c.ask_open.new.self c.transaction-tx.result.conn.now c.step.new.tx.conn.now c.commit.new.self.0 begun within c.commit.ensures.ended c.commit.ensures.survives c.args.call.now (asked_open g.S.Store c.args.self.now c.ask_open.new.self asked) there)

pub returns-in_err-map_err-clause-crash : goal.returns-in_err-map_err-clause-crash
returns-in_err-map_err-clause-crash g c =
    let first = state g.S.Store c.transaction-tx.result.conn.now in
    let mid = state g.S.Store c.step.new.tx.conn.now in
    let begun : c.transaction-tx.result.conn.now ≡ record c.ask_open.new.self { in_transaction = true } = search rules in
    let inside : IsTrue first.in_transaction = ap (λ h. (state g.S.Store h).in_transaction) begun in
    let within : IsWithin first mid = record { crash = c.step.ensures.crash; was_open = c.step.ensures.was_open; preserved = c.step.ensures.preserved } in
    let asked = c.in_ok-ask_open.ensures.asked in
    let there : HasCleanDisk mid → (office : OfficeLists) → Stands first office → Stands mid (stepped office c.args.call.now) × IsDatabase mid.now = λ clean office stands.
    let done = mapped_is _ (λ (t : _ × StillValid). FnOnceReturnsAt g.F.FnOnce c.args.show (decided office c.args.call.now).reply (Ok t.0) × Stands mid (stepped office c.args.call.now) × IsDatabase mid.now × (t.1 ≡ valid_after (decided office c.args.call.now).change)) c.step.result c.map_err.result c.in_ok-done.done c.map_err.ensures.cases c.in_ok-done.was
    (c.step.ensures.shown clean inside (begun_sound g.S.Store c.args.self.now c.ask_open.new.self asked c.transaction-tx.result.conn.now c.step.new.tx.conn.now begun within clean) office stands) in
    (done.1, done.2) in
    survives_behind g.S.Store c.args.self.now c.ask_open.new.self asked c.args.call.now (state g.S.Store c.commit.new.self.0)
    (survives_call g.S.Store c.ask_open.new.self c.transaction-tx.result.conn.now c.step.new.tx.conn.now c.commit.new.self.0 begun within c.commit.ensures.ended c.commit.ensures.survives c.args.call.now (asked_open g.S.Store c.args.self.now c.ask_open.new.self asked) there)

pub returns-clause-still : goal.returns-clause-still
returns-clause-still g c = λ clean office stands none.
    let old = state g.S.Store c.ask_open.new.self in
    let first = state g.S.Store c.transaction-tx.result.conn.now in
    let mid = state g.S.Store c.step.new.tx.conn.now in
    let end = state g.S.Store c.commit.new.self.0 in
    let begun : c.transaction-tx.result.conn.now ≡ record c.ask_open.new.self { in_transaction = true } = search rules in
    let within : IsWithin first mid = record { crash = c.step.ensures.crash; was_open = c.step.ensures.was_open; preserved = c.step.ensures.preserved } in
    let opened = desk_clean g.S.Store c.ask_open.new.self c.transaction-tx.result.conn.now c.step.new.tx.conn.now c.commit.new.self.0 begun within c.commit.ensures.ended c.commit.ensures.survives clean in
    let asked = c.in_ok-ask_open.ensures.asked in
    let there = stands_same old first office (ap (λ h. (state g.S.Store h).now) begun) (asked_stands g.S.Store c.args.self.now c.ask_open.new.self asked opened office stands) in
    let early : HasCleanDisk mid = omega (arith, c.commit.ensures.survives.clean) in
    let settled : IsTrue old.is_open → old.now ≡ old.committed = search rules in
    let same = mapped_on {W = IsUnchanged first mid} _ c.step.result c.map_err.result c.in_ok-done.done c.map_err.ensures.cases c.in_ok-done.was (c.step.ensures.still early office there none) in
    let over = mapped_on {W = IsTrue mid.in_transaction × Shows mid end mid.now mid.now false × KeepsCounts mid end × (end.marks ≡ [])} _ c.commit.result c.map_err-2.result c.in_ok-map_err.field-0 c.map_err-2.ensures.cases c.in_ok-map_err.was (c.commit.ensures.ok clean) in
    same_behind g.S.Store c.args.self.now c.ask_open.new.self asked end opened
    (as_it_was g.S.Store c.ask_open.new.self c.transaction-tx.result.conn.now c.step.new.tx.conn.now c.commit.new.self.0 begun within c.commit.ensures.ended c.commit.ensures.survives settled same over.1 over.2)

pub returns-clause-settled : goal.returns-clause-settled
returns-clause-settled g c = λ clean.
    let over = mapped_on {W = IsOver (state g.S.Store c.step.new.tx.conn.now) (state g.S.Store c.commit.new.self.0)} _ c.commit.result c.map_err-2.result c.in_ok-map_err.field-0 c.map_err-2.ensures.cases c.in_ok-map_err.was (c.commit.ensures.ok clean) in
    itself_after g.S.Store c.step.new.tx.conn.now c.commit.new.self.0 g.met.S.Store.settled g.met.S.Store.stays over

pub returns-clause-whole : goal.returns-clause-whole
returns-clause-whole g c = λ clean office stands.
    let old = state g.S.Store c.ask_open.new.self in
    let first = state g.S.Store c.transaction-tx.result.conn.now in
    let mid = state g.S.Store c.step.new.tx.conn.now in
    let end = state g.S.Store c.commit.new.self.0 in
    let begun : c.transaction-tx.result.conn.now ≡ record c.ask_open.new.self { in_transaction = true } = search rules in
    let within : IsWithin first mid = record { crash = c.step.ensures.crash; was_open = c.step.ensures.was_open; preserved = c.step.ensures.preserved } in
    let opened = desk_clean g.S.Store c.ask_open.new.self c.transaction-tx.result.conn.now c.step.new.tx.conn.now c.commit.new.self.0 begun within c.commit.ensures.ended c.commit.ensures.survives clean in
    let asked = c.in_ok-ask_open.ensures.asked in
    let there = stands_same old first office (ap (λ h. (state g.S.Store h).now) begun) (asked_stands g.S.Store c.args.self.now c.ask_open.new.self asked opened office stands) in
    let inside : IsTrue first.in_transaction = ap (λ h. (state g.S.Store h).in_transaction) begun in
    let early : HasCleanDisk mid = omega (arith, c.commit.ensures.survives.clean) in
    let done = mapped_is _ (λ (t : _ × StillValid). FnOnceReturnsAt g.F.FnOnce c.args.show (decided office c.args.call.now).reply (Ok t.0) × Stands mid (stepped office c.args.call.now) × IsDatabase mid.now × (t.1 ≡ valid_after (decided office c.args.call.now).change)) c.step.result c.map_err.result c.in_ok-done.done c.map_err.ensures.cases c.in_ok-done.was
    (c.step.ensures.shown early inside (begun_sound g.S.Store c.args.self.now c.ask_open.new.self asked c.transaction-tx.result.conn.now c.step.new.tx.conn.now begun within early) office there) in
    let over = mapped_on {W = IsOver mid end} _ c.commit.result c.map_err-2.result c.in_ok-map_err.field-0 c.map_err-2.ensures.cases c.in_ok-map_err.was (c.commit.ensures.ok clean) in
    whole_behind g.S.Store c.ask_open.new.self c.transaction-tx.result.conn.now c.step.new.tx.conn.now c.commit.new.self.0 begun within c.commit.ensures.ended c.commit.ensures.survives c.args.call.now office done.1 done.2 over.1
    (itself_after g.S.Store c.step.new.tx.conn.now c.commit.new.self.0 g.met.S.Store.settled g.met.S.Store.stays over)

pub returns-in_err-ask_open-clause-leaves : goal.returns-in_err-ask_open-clause-leaves
returns-in_err-ask_open-clause-leaves g c =
    leaves_failed g.S.Store c.args.self.now c.ask_open.new.self c.from_residual.result c.args.call.now c.from_residual.ensures.0 (asked_stop g.S.Store c.args.self.now c.ask_open.new.self c.in_err-ask_open.ensures.asked)

pub step-requires-clause-cached : goal.step-requires-clause-cached
step-requires-clause-cached g c =
    let begun : c.transaction-tx.result.conn.now ≡ record c.ask_open.new.self { in_transaction = true } = search rules in
    records_begun g.S.Store c.args.self.now c.ask_open.new.self c.transaction-tx.result.conn.now c.args.cached.now c.in_ok-ask_open.ensures.asked begun c.requires.cached

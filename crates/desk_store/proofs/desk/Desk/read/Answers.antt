use Rattle.std.proofs.Common.{◌≡◌, [], None, true, false, IsTrue, ◌∙◌, ap, subst, sym, arith, rules}
use Rattle.sqlite.specs.Effect.{IsDatabase}
use Rattle.sqlite.specs.Held.{state}
use Rattle.sqlite.specs.State.{HasCleanDisk, IsUnchanged, KeepsCounts, Shows}
use Rattle.sqlite.specs.Steps.{FailsToCommit}
use Rattle.desk_words.specs.declared.office.OfficeLists.{OfficeLists}
use Rattle.sql_model.specs.Standing.{Stands}
use Rattle.sql_schema.specs.Statements.{IsDesk}
use Rattle.sql_open.proofs.CrashLemmas.{nothing_then}
use Rattle.sql_open.proofs.WholeLemmas.{leaves_whole}
use Rattle.desk_store.proofs.JoinLemmas.{IsOver, as_it_was, asked_stands, asked_stop, begun_sound, desk_behind, desk_clean, leaves_behind, committed, dropped, itself_after, not_committed, same_behind, survives_nothing, survives_read, holds_within}
use Rattle.desk_deciding.proofs.KeepingLemmas.{stands_same}
use Rattle.desk_store.proofs.DeskReadLemmas.{error_of, mapped_failed, mapped_is, mapped_on}
use Rattle.desk_store.proofs.desk.Desk.read.Goals as goal

pub returns-clause-found : goal.returns-clause-found
returns-clause-found g c = λ clean office stands.
    let begun : c.transaction-tx.result.conn.now ≡ record c.ask_open.new.self { in_transaction = true } = search rules in
    let within = holds_within g.S.Store c.transaction-tx.result.conn.now c.read.new.tx.conn.now c.read.result (g.R.Reading.finds c.args.what.now) c.read.ensures.holds in
    let opened = desk_clean g.S.Store c.ask_open.new.self c.transaction-tx.result.conn.now c.read.new.tx.conn.now c.commit.new.self.0 begun within c.commit.ensures.ended c.commit.ensures.survives clean in
    let there = stands_same (state g.S.Store c.ask_open.new.self) (state g.S.Store c.transaction-tx.result.conn.now) office (ap (λ h. (state g.S.Store h).now) begun) (asked_stands g.S.Store c.args.self.now c.ask_open.new.self c.in_ok-ask_open.ensures.asked opened office stands) in
    let early : HasCleanDisk (state g.S.Store c.read.new.tx.conn.now) = omega (arith, c.commit.ensures.survives.clean) in
    mapped_is _ (g.R.Reading.finds c.args.what.now office) c.read.result c.map_err.result c.in_ok-found.found c.map_err.ensures.cases c.in_ok-found.was (c.read.ensures.holds.holds early office there)

pub returns-clause-leaves : goal.returns-clause-leaves
returns-clause-leaves g c =
    let first = state g.S.Store c.transaction-tx.result.conn.now in
    let mid = state g.S.Store c.read.new.tx.conn.now in
    let end = state g.S.Store c.commit.new.self.0 in
    let begun : c.transaction-tx.result.conn.now ≡ record c.ask_open.new.self { in_transaction = true } = search rules in
    let within = holds_within g.S.Store c.transaction-tx.result.conn.now c.read.new.tx.conn.now c.read.result (g.R.Reading.finds c.args.what.now) c.read.ensures.holds in
    let same : HasCleanDisk mid → (office : OfficeLists) → Stands first office → IsUnchanged first mid = λ clean office stands.
    mapped_on {W = IsUnchanged first mid} _ c.read.result c.map_err.result c.in_ok-found.found c.map_err.ensures.cases c.in_ok-found.was (c.read.ensures.holds.same (clean, stands.desk)) in
    let over : HasCleanDisk end → IsTrue mid.in_transaction × Shows mid end mid.now mid.now false × KeepsCounts mid end × (end.marks ≡ []) = λ clean. mapped_on {W = IsTrue mid.in_transaction × Shows mid end mid.now mid.now false × KeepsCounts mid end × (end.marks ≡ [])} _ c.commit.result c.map_err-2.result c.in_ok-map_err.field-0 c.map_err-2.ensures.cases c.in_ok-map_err.was (c.commit.ensures.ok clean) in
    leaves_behind g.S.Store c.args.self.now c.ask_open.new.self c.in_ok-ask_open.ensures.asked None c.commit.new.self.0
    (committed g.S.Store c.ask_open.new.self c.transaction-tx.result.conn.now c.read.new.tx.conn.now c.commit.new.self.0 begun within c.commit.ensures.ended c.commit.ensures.survives None (λ clean. (over clean).1)
    (λ clean office stands. stands_same first mid office (same clean office stands).0.now_is stands))

pub returns-in_err-map_err-clause-leaves : goal.returns-in_err-map_err-clause-leaves
returns-in_err-map_err-clause-leaves g c =
    let old = state g.S.Store c.ask_open.new.self in
    let first = state g.S.Store c.transaction-tx.result.conn.now in
    let mid = state g.S.Store c.read.new.tx.conn.now in
    let end = state g.S.Store c.commit.new.self.0 in
    let begun : c.transaction-tx.result.conn.now ≡ record c.ask_open.new.self { in_transaction = true } = search rules in
    let within = holds_within g.S.Store c.transaction-tx.result.conn.now c.read.new.tx.conn.now c.read.result (g.R.Reading.finds c.args.what.now) c.read.ensures.holds in
    let same : HasCleanDisk mid → (office : OfficeLists) → Stands first office → IsUnchanged first mid = λ clean office stands.
    mapped_on {W = IsUnchanged first mid} _ c.read.result c.map_err.result c.in_ok-found.found c.map_err.ensures.cases c.in_ok-found.was (c.read.ensures.holds.same (clean, stands.desk)) in
    let settled : IsTrue old.is_open → old.now ≡ old.committed = search rules in
    let began : IsTrue first.in_transaction = ap (λ h. (state g.S.Store h).in_transaction) begun in
    let failed = mapped_failed _ c.commit.result c.map_err-2.result c.map_err-2.ensures.cases c.in_err-map_err.was in
    leaves_behind g.S.Store c.args.self.now c.ask_open.new.self c.in_ok-ask_open.ensures.asked None c.commit.new.self.0
    (not_committed g.S.Store c.ask_open.new.self c.transaction-tx.result.conn.now c.read.new.tx.conn.now c.commit.new.self.0 begun within c.commit.ensures.ended c.commit.ensures.survives
    (λ clean. error_of (FailsToCommit mid end) c.commit.result failed (c.commit.ensures.err clean)) settled (λ clean office stands. (same clean office stands).0.mode ∙ began))

pub returns-clause-crash : goal.returns-clause-crash
returns-clause-crash g c = λ desk.
    let old = state g.S.Store c.ask_open.new.self in
    let first = state g.S.Store c.transaction-tx.result.conn.now in
    let mid = state g.S.Store c.read.new.tx.conn.now in
    let begun : c.transaction-tx.result.conn.now ≡ record c.ask_open.new.self { in_transaction = true } = search rules in
    let within = holds_within g.S.Store c.transaction-tx.result.conn.now c.read.new.tx.conn.now c.read.result (g.R.Reading.finds c.args.what.now) c.read.ensures.holds in
    let settled : IsTrue old.is_open → old.now ≡ old.committed = search rules in
    let same : IsDesk first → HasCleanDisk mid → IsUnchanged first mid = λ desk clean.
    mapped_on {W = IsUnchanged first mid} _ c.read.result c.map_err.result c.in_ok-found.found c.map_err.ensures.cases c.in_ok-found.was (c.read.ensures.holds.same (clean, desk)) in
    nothing_then (state g.S.Store c.args.self.now) (state g.S.Store c.ask_open.new.self) (state g.S.Store c.commit.new.self.0) c.in_ok-ask_open.ensures.asked.crash (survives_read g.S.Store c.ask_open.new.self c.transaction-tx.result.conn.now c.read.new.tx.conn.now c.commit.new.self.0 begun within c.commit.ensures.ended c.commit.ensures.survives g.met.S.Store.stays settled same (desk_behind g.S.Store c.args.self.now c.ask_open.new.self c.in_ok-ask_open.ensures.asked desk))

pub returns-in_err-map_err-clause-crash : goal.returns-in_err-map_err-clause-crash
returns-in_err-map_err-clause-crash g c = λ desk.
    let old = state g.S.Store c.ask_open.new.self in
    let first = state g.S.Store c.transaction-tx.result.conn.now in
    let mid = state g.S.Store c.read.new.tx.conn.now in
    let begun : c.transaction-tx.result.conn.now ≡ record c.ask_open.new.self { in_transaction = true } = search rules in
    let within = holds_within g.S.Store c.transaction-tx.result.conn.now c.read.new.tx.conn.now c.read.result (g.R.Reading.finds c.args.what.now) c.read.ensures.holds in
    let settled : IsTrue old.is_open → old.now ≡ old.committed = search rules in
    let same : IsDesk first → HasCleanDisk mid → IsUnchanged first mid = λ desk clean.
    mapped_on {W = IsUnchanged first mid} _ c.read.result c.map_err.result c.in_ok-found.found c.map_err.ensures.cases c.in_ok-found.was (c.read.ensures.holds.same (clean, desk)) in
    nothing_then (state g.S.Store c.args.self.now) (state g.S.Store c.ask_open.new.self) (state g.S.Store c.commit.new.self.0) c.in_ok-ask_open.ensures.asked.crash (survives_read g.S.Store c.ask_open.new.self c.transaction-tx.result.conn.now c.read.new.tx.conn.now c.commit.new.self.0 begun within c.commit.ensures.ended c.commit.ensures.survives g.met.S.Store.stays settled same (desk_behind g.S.Store c.args.self.now c.ask_open.new.self c.in_ok-ask_open.ensures.asked desk))

pub returns-clause-settled : goal.returns-clause-settled
returns-clause-settled g c = λ clean.
    let over = mapped_on {W = IsOver (state g.S.Store c.read.new.tx.conn.now) (state g.S.Store c.commit.new.self.0)} _ c.commit.result c.map_err-2.result c.in_ok-map_err.field-0 c.map_err-2.ensures.cases c.in_ok-map_err.was (c.commit.ensures.ok clean) in
    itself_after g.S.Store c.read.new.tx.conn.now c.commit.new.self.0 g.met.S.Store.settled g.met.S.Store.stays over

pub returns-in_err-ask_open-clause-leaves : goal.returns-in_err-ask_open-clause-leaves
returns-in_err-ask_open-clause-leaves g c = asked_stop g.S.Store c.args.self.now c.ask_open.new.self c.in_err-ask_open.ensures.asked

pub returns-in_err-found-clause-leaves : goal.returns-in_err-found-clause-leaves
returns-in_err-found-clause-leaves g c =
    let old = state g.S.Store c.ask_open.new.self in
    let end = state g.S.Store c.drop-tx.new.self.0 in
    let begun : c.transaction-tx.result.conn.now ≡ record c.ask_open.new.self { in_transaction = true } = search rules in
    let within = holds_within g.S.Store c.transaction-tx.result.conn.now c.read.new.tx.conn.now c.read.result (g.R.Reading.finds c.args.what.now) c.read.ensures.holds in
    let settled : IsTrue old.is_open → old.now ≡ old.committed = search rules in
    leaves_behind g.S.Store c.args.self.now c.ask_open.new.self c.in_ok-ask_open.ensures.asked None c.drop-tx.new.self.0
    (dropped g.S.Store c.ask_open.new.self c.transaction-tx.result.conn.now c.read.new.tx.conn.now c.drop-tx.new.self.0 begun within c.drop-tx.ensures.ended
    (survives_nothing (state g.S.Store c.read.new.tx.conn.now) end (λ db. db ≡ (state g.S.Store c.read.new.tx.conn.now).now.trees) c.drop-tx.ensures.survives) c.drop-tx.ensures.undone settled)

pub returns-clause-whole : goal.returns-clause-whole
returns-clause-whole g c = λ clean office stands.
    let old = state g.S.Store c.ask_open.new.self in
    let first = state g.S.Store c.transaction-tx.result.conn.now in
    let mid = state g.S.Store c.read.new.tx.conn.now in
    let end = state g.S.Store c.commit.new.self.0 in
    let begun : c.transaction-tx.result.conn.now ≡ record c.ask_open.new.self { in_transaction = true } = search rules in
    let within = holds_within g.S.Store c.transaction-tx.result.conn.now c.read.new.tx.conn.now c.read.result (g.R.Reading.finds c.args.what.now) c.read.ensures.holds in
    let asked = c.in_ok-ask_open.ensures.asked in
    let opened = desk_clean g.S.Store c.ask_open.new.self c.transaction-tx.result.conn.now c.read.new.tx.conn.now c.commit.new.self.0 begun within c.commit.ensures.ended c.commit.ensures.survives clean in
    let there = stands_same old first office (ap (λ h. (state g.S.Store h).now) begun) (asked_stands g.S.Store c.args.self.now c.ask_open.new.self asked opened office stands) in
    let early : HasCleanDisk mid = omega (arith, c.commit.ensures.survives.clean) in
    let same = mapped_on {W = IsUnchanged first mid} _ c.read.result c.map_err.result c.in_ok-found.found c.map_err.ensures.cases c.in_ok-found.was (c.read.ensures.holds.same (early, there.desk)) in
    let over = mapped_on {W = IsOver mid end} _ c.commit.result c.map_err-2.result c.in_ok-map_err.field-0 c.map_err-2.ensures.cases c.in_ok-map_err.was (c.commit.ensures.ok clean) in
    let now_is = over.1.now_is ∙ same.0.now_is in
    let sound = begun_sound g.S.Store c.args.self.now c.ask_open.new.self asked c.transaction-tx.result.conn.now c.read.new.tx.conn.now begun within early in
    leaves_whole end office (stands_same first end office now_is there) (subst IsDatabase (sym now_is) sound)
    (itself_after g.S.Store c.read.new.tx.conn.now c.commit.new.self.0 g.met.S.Store.settled g.met.S.Store.stays over)

pub returns-clause-still : goal.returns-clause-still
returns-clause-still g c = λ clean office stands.
    let old = state g.S.Store c.ask_open.new.self in
    let first = state g.S.Store c.transaction-tx.result.conn.now in
    let mid = state g.S.Store c.read.new.tx.conn.now in
    let end = state g.S.Store c.commit.new.self.0 in
    let begun : c.transaction-tx.result.conn.now ≡ record c.ask_open.new.self { in_transaction = true } = search rules in
    let within = holds_within g.S.Store c.transaction-tx.result.conn.now c.read.new.tx.conn.now c.read.result (g.R.Reading.finds c.args.what.now) c.read.ensures.holds in
    let asked = c.in_ok-ask_open.ensures.asked in
    let opened = desk_clean g.S.Store c.ask_open.new.self c.transaction-tx.result.conn.now c.read.new.tx.conn.now c.commit.new.self.0 begun within c.commit.ensures.ended c.commit.ensures.survives clean in
    let there = stands_same old first office (ap (λ h. (state g.S.Store h).now) begun) (asked_stands g.S.Store c.args.self.now c.ask_open.new.self asked opened office stands) in
    let early : HasCleanDisk mid = omega (arith, c.commit.ensures.survives.clean) in
    let settled : IsTrue old.is_open → old.now ≡ old.committed = search rules in
    let same = mapped_on {W = IsUnchanged first mid} _ c.read.result c.map_err.result c.in_ok-found.found c.map_err.ensures.cases c.in_ok-found.was (c.read.ensures.holds.same (early, there.desk)) in
    let over = mapped_on {W = IsOver mid end} _ c.commit.result c.map_err-2.result c.in_ok-map_err.field-0 c.map_err-2.ensures.cases c.in_ok-map_err.was (c.commit.ensures.ok clean) in
    same_behind g.S.Store c.args.self.now c.ask_open.new.self asked end opened
    (as_it_was g.S.Store c.ask_open.new.self c.transaction-tx.result.conn.now c.read.new.tx.conn.now c.commit.new.self.0 begun within c.commit.ensures.ended c.commit.ensures.survives settled same over.1 over.2)

use Rattle.std.proofs.Common.{ℕ, List, Vec, Global, ap, sym, ◌∙◌}
use Rattle.row_source.proofs.MemberLemmas.{giver-new, giver-again, is_new, is_old, seen-more}
use Rattle.row_source.proofs.members.givers.Goals as goal
use Rattle.row_source.proofs.members.givers.Goals.{then-branch+in_ok-push, else-branch}

pub loop-appointment-preserved : goal.loop-appointment-preserved
loop-appointment-preserved c =
    let given = c.args.given.now in
    let i = c.loop-appointment.appointment-index in
    let a = c.appointment-item.result in
    let h = c.loop-appointment-test.true in
    let is = c.appointment-item.is in
    let before = c.loop-appointment.invariant in
    let seen = λ (member : List ℕ). seen-more member given i a _ _ h is (c.in_ok-insert.ensures.updates.0 member) (before.seen member) in
    let items = λ (v : Vec (List ℕ) Global). v.items in
    elim c.if-branch.branch [
      | then-branch+in_ok-push w ↦ record {
        members = giver-new given i a _ _ h is (sym (before.seen a.member) ∙ is_new _ (sym c.in_ok-insert.ensures.added ∙ w.if-branch.true)) before.members (ap items w.members-is ∙ w.in_ok-push.ensures.items);
        seen = seen;
      }
      | else-branch w ↦ record {
        members = giver-again given i a _ _ h is (sym (before.seen a.member) ∙ is_old _ (sym c.in_ok-insert.ensures.added ∙ w.if-branch.false)) before.members (ap items w.members-is);
        seen = seen;
      }
    ]

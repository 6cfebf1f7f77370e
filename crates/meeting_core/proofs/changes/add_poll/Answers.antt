use Rattle.std.proofs.Common.{Bool, ap, ◌∙◌}
use Rattle.std.proofs.lemmas.Result.{on_ok_weaker}
use Rattle.seq.specs.Sorting.{insert_by}
use Rattle.seq.proofs.Numbers.{is_lt-nat_cmp}
use Rattle.desk_words.specs.declared.records.Poll.{Poll}
use Rattle.meeting_core.proofs.changes.add_poll.Goals as goal

pub returns-clause-ok : goal.returns-clause-ok
returns-clause-ok c =
    on_ok_weaker c.insert_in_order.result (λ ok.
    ok ∙ ap (λ (before : Poll → Poll → Bool). insert_by before c.args.poll c.args.polls.now) (λ i a b. is_lt-nat_cmp a.resolution b.resolution i))
    c.insert_in_order.ensures.ok

use Rattle.std.proofs.Common.{◌≡◌, ◌++◌, ◌∷◌, ◌+◌, [], Err, Ok, Some, refl, take, rules, sym, ap, ◌∙◌}
use Rattle.std.proofs.lemmas.List.{take_all, take_more}
use Rattle.sql_load.specs.LoadResults.{any_at_all}
use Rattle.sql_load.specs.declared.fault.LoadError.TheVariants.{Memory}
use Rattle.sql_open.specs.Judging.{judged_but_votes, judged_in}
use Rattle.sql_open.specs.StoredRows.{counted_on}
use Rattle.sql_open.specs.Votes.{judged_votes}
use Rattle.sql_open.proofs.MeetingReadLemmas.{counted_fault, counted_turn, counted_whole, first_counted, out_of_memory}
use Rattle.sql_load.proofs.ReadingLemmas.{last, read_first, stop}
use Rattle.sql_open.proofs.judging.judge_meeting.Goals as goal

pub returns-in_err-judged-clause-read : goal.returns-in_err-judged-clause-read
returns-in_err-judged-clause-read g c =
    let is : c.from_residual.result ≡ Err c.in_err-judged.field-0.0 = search rules in
    stop g.S.Store _ _ any_at_all (judged_but_votes c.args.row) (λ its. counted_on (judged_votes c.args.row.id) its.polls its.rows) c.in_err-judged.field-0.0 c.from_residual.result is c.in_err-judged.ensures.read

pub loop-poll-init : goal.loop-poll-init
loop-poll-init g c =
    let judged = c.in_ok-judged.judged in
    record {
      rows = judged.rows;
      same = c.in_ok-judged.ensures.same_reference;
      read = last g.S.Store _ _ any_at_all judged (Ok judged.rows) (judged_but_votes c.args.row) (λ _. Some judged.rows) c.in_ok-judged.ensures.read refl;
      held = λ read. c.in_ok-judged.ensures.read.holds read ∙ ap (λ polls. Some (record { rows = judged.rows; polls = polls })) (sym c.as_slice-polls.ensures);
    }

pub returns-in_err-votes-clause-read : goal.returns-in_err-votes-clause-read
returns-in_err-votes-clause-read g c =
    let i = c.loop-poll.invariant in
    let polls = c.as_slice-polls.result.now in
    let is : c.from_residual-in_err-votes.result ≡ Err c.in_err-votes.field-0.0 = search rules in
    counted_fault g.S.Store _ _ _ (judged_but_votes c.args.row) (judged_votes c.args.row.id) polls i.rows c.loop-poll.poll-index c.poll-item.result c.loop-poll.count i.read (record { rows = i.rows; polls = polls })
    (λ its. counted_on (judged_votes c.args.row.id) its.polls its.rows) c.in_err-votes.field-0.0 c.from_residual-in_err-votes.result c.loop-poll-test.true c.poll-item.is i.held (λ trees. refl) is c.in_err-votes.ensures.read

pub returns-in_err-count-clause-read : goal.returns-in_err-count-clause-read
returns-in_err-count-clause-read g c =
    let i = c.loop-poll.invariant in
    let at = c.loop-poll.poll-index in
    let polls = c.as_slice-polls.result.now in
    let poll = c.poll-item.result in
    let next = take_more polls at poll c.loop-poll-test.true ∙ ap (λ z. take at polls ++ z ∷ []) (sym c.poll-item.is) in
    let is : c.from_residual-in_err-count.result ≡ Err Memory = search rules in
    out_of_memory g.S.Store _ _ any_at_all any_at_all _ c.from_residual-in_err-count.result (first_counted (judged_but_votes c.args.row) (judged_votes c.args.row.id) polls i.rows (at + 1)) (judged_in c.args.row) is
    (counted_turn g.S.Store _ _ _ (judged_but_votes c.args.row) (judged_votes c.args.row.id) polls i.rows at poll c.loop-poll.count i.read c.in_ok-votes.votes (c.loop-poll.count + c.in_ok-votes.votes) refl next c.in_ok-votes.ensures.read)

pub loop-poll-preserved : goal.loop-poll-preserved
loop-poll-preserved g c =
    let i = c.loop-poll.invariant in
    let at = c.loop-poll.poll-index in
    let polls = c.as_slice-polls.result.now in
    let poll = c.poll-item.result in
    let next = take_more polls at poll c.loop-poll-test.true ∙ ap (λ z. take at polls ++ z ∷ []) (sym c.poll-item.is) in
    let done = c.in_ok-votes.ensures.read in
    record {
      rows = i.rows;
      same = c.in_ok-votes.ensures.same_reference ∙ i.same;
      read = counted_turn g.S.Store c.args.tx.now.conn.now c.loop-poll.tx.conn.now c.judge_votes.new.tx.conn.now (judged_but_votes c.args.row) (judged_votes c.args.row.id) polls i.rows at poll c.loop-poll.count i.read c.in_ok-votes.votes c.in_ok-count.count c.in_ok-count.ensures next
          done;
      held = λ read. i.held (read_first g.S.Store c.args.tx.now.conn.now c.loop-poll.tx.conn.now c.judge_votes.new.tx.conn.now done.changes.crash read);
    }

pub returns-clause-read : goal.returns-clause-read
returns-clause-read g c =
    let i = c.loop-poll.invariant in
    let polls = c.as_slice-polls.result.now in
    counted_whole g.S.Store _ _ (judged_but_votes c.args.row) (judged_votes c.args.row.id) polls i.rows c.loop-poll.count (record { rows = i.rows; polls = polls }) (λ its. counted_on (judged_votes c.args.row.id) its.polls its.rows) i.held (λ trees. refl) c.loop-poll.poll-index (take_all c.loop-poll.poll-index polls (search rules)) i.read

use Rattle.std.proofs.Common.{◌≡◌, ◌-◌, refl, ◌∙◌, arith}
use Rattle.std.proofs.lemmas.Result.{err_from_is_err_and}
use Rattle.line_reader.proofs.Taking.{SameWhole-chained}
use Rattle.replay.proofs.Progress.{known_all, known_first, known_more, known_stopped}
use Rattle.replay.proofs.ReplayTurnLemmas.{whole-same}
use Rattle.replay.proofs.script.replay_on.Goals as goal

pub loop-gathered-init : goal.loop-gathered-init
loop-gathered-init g c = record {
  progress = λ reliable is_open it stands. (
    it,
    stands,
    known_first g.O.Office.may_fail it (g.R.Source.remaining c.args.reader.now) c.new-lines.result.pending (g.W.Sink.contents c.args.writer.now) c.new-gathered.result
        c.new-lines.ensures.pending c.new-gathered.ensures,
  );
  reads = refl;
  writes = refl;
  whole = whole-same 0 c.new-lines.result.taken (g.R.Source.remaining c.args.reader.now) c.new-lines.ensures.taken;
  counted = omega (arith, c.new-lines.ensures.taken);
}

pub loop-gathered-preserved : goal.loop-gathered-preserved
loop-gathered-preserved g c = record {
  progress = λ reliable is_open it stands.
      let was = c.turn.ensures.leaves.1 in
      let now = c.loop-gathered.invariant.progress (was.was_reliable reliable) (was.was_open reliable is_open) it stands in
      let next = c.in_ok-turn.ensures.turns reliable is_open now.0 now.1 in
      (next.0, next.1, known_more g.O.Office.may_fail it (g.R.Source.remaining c.args.reader.now) _ _ c.in_ok-turn.field-0 _ _ (g.W.Sink.contents c.args.writer.now) _ _ _ _ now.2 c.if-branch.true next.2);
  whole = SameWhole-chained _ _ _ _ _ _ _ c.loop-gathered.invariant.whole c.turn.ensures.whole refl;
  reads = c.in_ok-turn.ensures.works.0 ∙ c.loop-gathered.invariant.reads;
  writes = c.in_ok-turn.ensures.works.1 ∙ c.loop-gathered.invariant.writes;
  counted = omega (arith, c.loop-gathered.invariant.counted, c.turn.ensures.counted);
}

pub returns-in_err-turn-clause-until : goal.returns-in_err-turn-clause-until
returns-in_err-turn-clause-until g c =
    let before = c.loop-gathered.invariant in
    let p = err_from_is_err_and c.from_residual.result c.from_residual.ensures.1 in
    let whole = SameWhole-chained _ _ _ _ _ _ _ before.whole c.turn.ensures.whole refl in
    let given : g.R.Source.passed c.turn.new.reader - g.R.Source.passed c.args.reader.now ≡ c.turn.new.lines.taken = omega (arith, before.counted, c.turn.ensures.counted) in
    rw (p.1, p.2, given) (λ reliable is_open it stands.
    let was = c.turn.ensures.leaves.1 in
    let now = before.progress (was.was_reliable reliable) (was.was_open reliable is_open) it stands in
    let last = c.in_err-turn.ensures.stops reliable is_open now.0 now.1 in
    known_stopped g.O.Office.may_fail it (g.O.Office.stands c.turn.new.office) (g.R.Source.remaining c.args.reader.now) _ _ _ c.in_err-turn.field-0.0 _ _ _ (g.W.Sink.contents c.args.writer.now) _ _ _ _ now.2 last.2 last.1 whole)

pub returns-clause-replayed : goal.returns-clause-replayed
returns-clause-replayed g c = λ reliable is_open it stands.
    let was = c.turn.ensures.leaves.1 in
    let now = c.loop-gathered.invariant.progress (was.was_reliable reliable) (was.was_open reliable is_open) it stands in
    let next = c.in_ok-turn.ensures.turns reliable is_open now.0 now.1 in
    known_all g.O.Office.may_fail it (g.O.Office.stands c.turn.new.office) (g.R.Source.remaining c.args.reader.now) _ _ c.in_ok-turn.field-0 _ _ (g.W.Sink.contents c.args.writer.now) _ _ _ _ now.2 c.if-branch.false next.2 next.1

use Rattle.std.proofs.Common.{◌≡◌, Err, arith, rules}
use Rattle.http_listener.specs.Connections.{standing}
use Rattle.http_listener.proofs.ConnectionLemmas.{made-all, made-fewer, made-none, made-then}
use Rattle.http_listener.proofs.listening.serve_loop.Goals as goal

pub loop-served-init : goal.loop-served-init
loop-served-init g c = record {
  made = made-none g.L.Listener g.L.Reader.Source g.L.Writer.Sink g.C.Clock g.O.Office _;
  bound = omega arith;
}

pub loop-served-preserved : goal.loop-served-preserved
loop-served-preserved g c = record {
  made = made-then g.L.Listener g.L.Reader.Source g.L.Writer.Sink g.C.Clock g.O.Office _ _ _ _ c.loop-served.invariant.made c.in_ok-serve_next.ensures.turned;
  bound = omega (arith, c.loop-served-test.true);
}

pub returns-in_err-serve_next : goal.returns-in_err-serve_next
returns-in_err-serve_next g c =
    let is : c.from_residual.result ≡ Err c.in_err-serve_next.field-0.0 = search rules in
    made-fewer g.L.Listener g.L.Reader.Source g.L.Writer.Sink g.C.Clock g.O.Office c.args.count c.loop-served.served (standing c.args.listener.now c.args.clock.now c.args.office.now) (standing c.loop-served.listener c.loop-served.clock c.loop-served.office)
    (standing c.serve_next.new.listener c.serve_next.new.clock c.serve_next.new.office) c.loop-served.invariant.made c.loop-served-test.true
    c.from_residual.result c.in_err-serve_next.field-0.0 is c.in_err-serve_next.ensures.no_listener c.in_err-serve_next.ensures.no_moment

pub returns : goal.returns
returns g c = made-all g.L.Listener g.L.Reader.Source g.L.Writer.Sink g.C.Clock g.O.Office c.args.count c.loop-served.served _ _ c.loop-served.invariant.made (omega (arith, c.loop-served.invariant.bound, c.loop-served-test.false))

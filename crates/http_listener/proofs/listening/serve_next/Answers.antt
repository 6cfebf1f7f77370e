use Rattle.std.proofs.Common.{rules}
use Rattle.http_listener.specs.Connections.{standing}
use Rattle.tcp_close.specs.Answering.{Takes}
use Rattle.http_listener.proofs.ConnectionLemmas.{timed_turn, untimed_turn}
use Rattle.http_listener.proofs.listening.serve_next.Goals as goal

pub returns-in_err-unless_untimed-in-Peer-clause-no_moment :
    goal.returns-in_err-unless_untimed-in-Peer-clause-no_moment
returns-in_err-unless_untimed-in-Peer-clause-no_moment g c =
    let takes : Takes g.L.Listener c.args.listener.now c.in-Peer.taken c.next_connection.new.listener = search rules in
    let none = untimed_turn g.L.Listener g.L.Reader.Source g.L.Writer.Sink g.C.Clock g.O.Office c.serve_connection-served.result c.in-Peer.taken (standing c.args.listener.now c.args.clock.now c.args.office.now)
    (standing c.serve_connection-served.new.listener c.serve_connection-served.new.clock c.serve_connection-served.new.office) c.next_connection.new.listener takes c.serve_connection-served.ensures c.in_err-unless_untimed-in-Peer.ensures in
    search rules

pub returns-in_ok-unless_untimed-in-Peer-clause-turned :
    goal.returns-in_ok-unless_untimed-in-Peer-clause-turned
returns-in_ok-unless_untimed-in-Peer-clause-turned g c =
    let takes : Takes g.L.Listener c.args.listener.now c.in-Peer.taken c.next_connection.new.listener = search rules in
    timed_turn g.L.Listener g.L.Reader.Source g.L.Writer.Sink g.C.Clock g.O.Office c.serve_connection-served.result c.in-Peer.taken (standing c.args.listener.now c.args.clock.now c.args.office.now)
    (standing c.serve_connection-served.new.listener c.serve_connection-served.new.clock c.serve_connection-served.new.office) c.next_connection.new.listener takes c.serve_connection-served.ensures c.in_ok-unless_untimed-in-Peer.ensures

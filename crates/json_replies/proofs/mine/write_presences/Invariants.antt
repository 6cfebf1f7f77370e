use Rattle.std.proofs.Common.{◌-◌, ◌≤◌, map}
use Rattle.json_replies.specs.Forms.{decimal_data}
use Rattle.json_replies.specs.Replies.{present_up_to}
use Rattle.json_replies.proofs.WritingLemmas.{WritesFirst}
use Rattle.json_replies.proofs.mine.write_presences.Given as goal

abbrev pub invariant-loop-session : goal.invariant-loop-session
invariant-loop-session l = record {
  within : l.session ≤ l.mine.session;
  written : WritesFirst (map decimal_data (present_up_to l.mine.presences l.session)) l.fn.out l.out;
}

abbrev pub decreases-loop-session : goal.decreases-loop-session
decreases-loop-session l = l.mine.session - l.session

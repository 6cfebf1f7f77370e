use Rattle.std.proofs.Common.{◌≡◌, ◌+◌, ◌++◌, drop}
use Rattle.desk_papers.specs.PrintedResults.{sessions_text}
use Rattle.desk_papers.proofs.text.push_sessions.Given as goal

-- What was added, and what the sessions that are left will add, is the text of all.
abbrev pub invariant-loop-session : goal.invariant-loop-session
invariant-loop-session l = record {
  number : l.number ≡ l.session-index + 2;
  text : l.text.items ++ sessions_text l.number (drop l.session-index l.sessions) ≡ l.initial.text.items ++ sessions_text 2 l.sessions;
}

use Rattle.std.proofs.Common.{length, take}
use denote.Text.{Utf8}
use denote.Shadow.{shadow}
use Rattle.json_requests.proofs.PlainLemmas.{Puts}
use Rattle.json_requests.proofs.plain.members_front.Given as goal

abbrev pub invariant-loop-place : goal.invariant-loop-place
invariant-loop-place l = shadow (Utf8 l.rest) × Puts l.names l.place (take (length l.names) l.fields) l.text l.rest

use Rattle.std.proofs.Common.{◌≡◌, take}
use Rattle.json_replies.proofs.last_notice.are_same_resolutions.Given as goal

abbrev pub invariant-loop-place : goal.invariant-loop-place
invariant-loop-place l = take l.place l.ones ≡ take l.place l.others

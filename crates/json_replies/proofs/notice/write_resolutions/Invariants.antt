use Rattle.std.proofs.Common.{take, map}
use Rattle.json_replies.specs.NoticeJson.{noticed_resolution_data}
use Rattle.json_replies.proofs.WritingLemmas.{WritesFirst}
use Rattle.json_replies.proofs.notice.write_resolutions.Given as goal

abbrev pub invariant-loop-resolution : goal.invariant-loop-resolution
invariant-loop-resolution l = WritesFirst (map (noticed_resolution_data l.adjourned) (take l.resolution-index l.resolutions)) l.fn.out l.out

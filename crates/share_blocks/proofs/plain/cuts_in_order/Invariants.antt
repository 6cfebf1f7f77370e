use Rattle.std.proofs.Common.{◌≡◌, take}
use Rattle.std.specs.List.{flat_map}
use Rattle.share_blocks.proofs.RangeLemmas.{ends_of}
use Rattle.share_blocks.proofs.plain.cuts_in_order.Given as goal

-- the cuts so far are where the covers so far part the places
abbrev pub invariant-loop-range : goal.invariant-loop-range
invariant-loop-range l = l.cuts.items ≡ flat_map ends_of (take l.range-index l.covers)

use Rattle.std.proofs.Common.{◌≡◌, ◌-◌, length, drop, take, arith, length-take, length-drop}
use Rattle.std.proofs.lemmas.List.{take_all}
use Rattle.byte_io.proofs.BytesChained.{drop-copied}
use Rattle.byte_io.proofs.memory.SliceSourceSource.read.Goals as goal

-- What the source has left is all that lies behind `next` in its slice.
pub returns-clause-bytes : goal.returns-clause-bytes
returns-clause-bytes c =
    let bytes = c.self.inside.bytes.now in let next = c.self.inside.next in let count = c.min-count.result in
    let whole : take (length bytes - next) (drop next bytes) ≡ drop next bytes = take_all (length bytes - next) (drop next bytes) (simp length-drop (omega arith)) in
    let copied : c.copy_from_slice.new.self ≡ take count (drop next bytes) = rw whole at c.copy_from_slice.ensures.after in
    let counted : length c.copy_from_slice.new.self ≡ count = omega (arith, simp length-take at c.copy_from_slice.ensures.len) in
    rw (← c.self.view_is) (drop-copied bytes c.copy_from_slice.new.self _ next count copied counted)

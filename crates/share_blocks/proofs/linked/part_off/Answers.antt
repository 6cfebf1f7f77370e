use Rattle.std.proofs.Common.{ap, sym, ◌∙◌}
use Rattle.std.specs.Prelude.{is_some}
use Rattle.std.specs.BTreeMap.{is_at}
use Rattle.std.specs.Map.{lookup, remove_entry}
use Rattle.std.specs.Ordering.{nat_cmp}
use Rattle.share_blocks.specs.LinkedPieces.{split_before}
use Rattle.share_blocks.proofs.LinkLemmas.{parted-again, remove-parted}
use Rattle.share_blocks.proofs.linked.part_off.Goals as goal

pub returns-then-not-begins-clause-err : goal.returns-then-not-begins-clause-err
returns-then-not-begins-clause-err c =
    let es = c.args.newest.now.entries in
    let from = c.args.range.from in
    c.remove.ensures.entries
    ∙ ap (λ x. remove_entry (is_at (nat_cmp x)) c.part_behind.new.newest.entries) c.from-then-not-begins.ensures.value
    ∙ ap (remove_entry (is_at (nat_cmp from))) (c.in-Err.ensures.err ∙ c.in_ok-part.ensures.ok ∙ ap (λ x. split_before x es) c.from-2.ensures.value)
    ∙ remove-parted es from (ap (λ x. is_some (lookup (is_at (nat_cmp x)) es)) (sym c.from.ensures.value) ∙ sym c.contains_key-begins.ensures ∙ c.if-not-begins.true)

pub returns-else-not-begins-clause-err : goal.returns-else-not-begins-clause-err
returns-else-not-begins-clause-err c =
    let es = c.args.newest.now.entries in
    c.in-Err.ensures.err ∙ c.in_ok-part.ensures.ok ∙ ap (λ x. split_before x es) c.from-2.ensures.value
    ∙ parted-again es c.args.range.from c.requires (ap (λ x. is_some (lookup (is_at (nat_cmp x)) es)) (sym c.from.ensures.value) ∙ sym c.contains_key-begins.ensures ∙ c.if-not-begins.false)

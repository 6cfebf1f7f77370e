use Rattle.std.proofs.Common.{◌≡◌, ℕ, List, drop, take, filter, ap, ◌∙◌}
use Rattle.std.specs.List.{position_or_len}
use Rattle.std.specs.Cmp.Lexicographic.{nat_list_cmp_total}
use Rattle.proxy_rules.proofs.ProxyNameLemmas.{filter-named}
use Rattle.vote_rules.specs.InstructedCasts.{is_from_member, is_past_member}
use Rattle.vote_rules.specs.declared.received.BlockCast.{BlockCast}
use Rattle.vote_rules.proofs.SortedBlocks.{drop-from, drop-past, filtered-sorted, only-wanted, past-from, take-past}
use Rattle.vote_rules.proofs.received.parted_at.Goals as goal

pub returns-clause-own : goal.returns-clause-own
returns-clause-own c =
    let blocks = c.args.blocks.now in
    let member = c.args.member in
    let key : BlockCast → List ℕ = λ cast. cast.block.member in
    let behind : c.split_at.result.1.now ≡ filter (is_from_member member) blocks =
    c.split_at.ensures.back ∙ ap (λ n. drop n blocks) c.count_before.ensures.count ∙ drop-from nat_list_cmp_total key member blocks c.requires in
    c.split_at-2.ensures.front
    ∙ ap (λ n. take n c.split_at.result.1.now) c.count_to.ensures.count
    ∙ ap (λ l. take (position_or_len (is_past_member member) l) l) behind
    ∙ take-past nat_list_cmp_total key member (filter (is_from_member member) blocks) (filtered-sorted nat_list_cmp_total key (is_from_member member) blocks c.requires)
    ∙ only-wanted nat_list_cmp_total key member blocks
    ∙ filter-named key member blocks

pub returns-clause-later : goal.returns-clause-later
returns-clause-later c =
    let blocks = c.args.blocks.now in
    let member = c.args.member in
    let key : BlockCast → List ℕ = λ cast. cast.block.member in
    let behind : c.split_at.result.1.now ≡ filter (is_from_member member) blocks =
    c.split_at.ensures.back ∙ ap (λ n. drop n blocks) c.count_before.ensures.count ∙ drop-from nat_list_cmp_total key member blocks c.requires in
    c.split_at-2.ensures.back
    ∙ ap (λ n. drop n c.split_at.result.1.now) c.count_to.ensures.count
    ∙ ap (λ l. drop (position_or_len (is_past_member member) l) l) behind
    ∙ drop-past nat_list_cmp_total key member (filter (is_from_member member) blocks) (filtered-sorted nat_list_cmp_total key (is_from_member member) blocks c.requires)
    ∙ past-from nat_list_cmp_total key member blocks

use Rattle.std.proofs.Common.{ℕ, List, filter, rules, ap, sym, ◌∙◌}
use Rattle.std.specs.Cmp.Lexicographic.{nat_list_cmp_total}
use Rattle.std.proofs.lemmas.List.Sorted.{answers_always}
use Rattle.vocabulary.specs.declared.kinds.Capacity.TheVariants.{Member}
use Rattle.vocabulary.specs.declared.kinds.Way.TheVariants.{For}
use Rattle.proxy_rules.proofs.ProxyNameLemmas.{filter-named}
use Rattle.vote_rules.specs.InstructedCasts.{is_on_shares_of}
use Rattle.vote_rules.specs.declared.received.BlockCast.{BlockCast}
use Rattle.vote_rules.proofs.SortedBlocks.{filtered-stable}
use Rattle.vote_rules.proofs.received.blocks_by_member.Goals as goal

pub returns-clause-order : goal.returns-clause-order
returns-clause-order c = c.in_ok-sort_by_key.ensures.sorted (λ (cast : BlockCast). cast.block.member) (answers_always _ _ _ (λ f a r next called. search rules))

pub returns-clause-preserved : goal.returns-clause-preserved
returns-clause-preserved c = λ member.
    let key : BlockCast → List ℕ = λ cast. cast.block.member in
    let blocks = c.in_ok-blocks.blocks.items in
    let sorted = c.sort_by_key.new.self.items in
    let one : BlockCast = record { order = 0; voter = member; block = record { capacity = Member; member = member; range = record { from = 1; to = 1 }; way = For } } in
    sym (filter-named key member sorted)
    ∙ filtered-stable nat_list_cmp_total key blocks sorted (c.in_ok-sort_by_key.ensures.stable key (answers_always _ _ _ (λ f a r next called. search rules))) one
    ∙ filter-named key member blocks
    ∙ ap (filter (is_on_shares_of member)) c.in_ok-blocks.ensures

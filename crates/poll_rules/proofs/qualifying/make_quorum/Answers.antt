use Rattle.std.proofs.Common.{sym, ◌∙◌}
use Rattle.std.specs.Prelude.{filter}
use Rattle.poll_rules.specs.GatheredItems.{items_at}
use Rattle.poll_rules.specs.Quorum.{is_counted}
use Rattle.poll_rules.proofs.PollPairLemmas.{quorum-one, quorum-more}
use Rattle.poll_rules.proofs.qualifying.make_quorum.Goals as goal

pub returns-then-rows-eq1 : goal.returns-then-rows-eq1
returns-then-rows-eq1 c =
    c.someone_qualifies.ensures
    ∙ quorum-one (filter is_counted c.args.register.now) (items_at c.args.roles.now) c.args.presences.now (sym c.counted_rows-rows.ensures ∙ c.if-rows-eq1.true)

pub returns-else-rows-eq1 : goal.returns-else-rows-eq1
returns-else-rows-eq1 c =
    c.two_qualify.ensures
    ∙ quorum-more (filter is_counted c.args.register.now) (items_at c.args.roles.now) c.args.presences.now
    (λ none. c.if-rows-eq0.false (c.counted_rows-rows.ensures ∙ none)) (λ one. c.if-rows-eq1.false (c.counted_rows-rows.ensures ∙ one))

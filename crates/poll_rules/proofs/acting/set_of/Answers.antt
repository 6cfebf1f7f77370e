use Rattle.std.proofs.Common.{ap, ◌∙◌}
use Rattle.std.specs.Prelude.{◌||◌}
use Rattle.vocabulary.specs.Names.{same_name}
use Rattle.poll_rules.proofs.ActingLemmas.{in-more, put-more}
use Rattle.poll_rules.proofs.acting.set_of.Goals as goal

pub loop-person-preserved : goal.loop-person-preserved
loop-person-preserved c = λ person.
    let x = c.person-item.result in
    put-more x person _ _ (c.in_ok-insert.ensures.updates.0 person)
    ∙ ap (λ b. b || same_name x person) (c.loop-person.invariant person)
    ∙ in-more c.args.persons.now c.loop-person.person-index x person c.loop-person-test.true c.person-item.is

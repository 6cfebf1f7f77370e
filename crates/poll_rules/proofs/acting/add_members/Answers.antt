use Rattle.std.proofs.Common.{ap, ◌∙◌}
use Rattle.std.specs.Prelude.{◌||◌}
use Rattle.std.proofs.lemmas.Result.{on_ok_weaker}
use Rattle.vocabulary.specs.Names.{same_name}
use Rattle.poll_rules.specs.Acting.{is_one_of, some_authorised, some_named}
use Rattle.poll_rules.proofs.ActingLemmas.{or-three, put-more}
use Rattle.poll_rules.proofs.acting.add_members.Goals as goal

pub returns : goal.returns
returns c =
    let papers = c.args.papers.now in
    let person = c.args.person in
    on_ok_weaker c.add_appointers.result
    (λ put member.
    let before = is_one_of c.args.members.now member in
    let same = same_name person member in
    let sent = some_authorised (same_name person) papers.authorities.now member in
    let named = some_named (same_name person) papers.appointments.now member in
    put member
    ∙ ap (λ b. b || named) (c.in_ok-add_corporations.ensures member ∙ ap (λ b. b || sent) (put-more person member _ _ (c.in_ok-insert.ensures.updates.0 member)))
    ∙ or-three before same sent named)
    c.add_appointers.ensures

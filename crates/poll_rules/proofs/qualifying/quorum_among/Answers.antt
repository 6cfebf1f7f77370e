use Rattle.std.proofs.Common.{map, ap, ◌∙◌}
use Rattle.std.specs.Prelude.{filter}
use Rattle.desk_words.specs.declared.records.PresenceMark.{PresenceMark}
use Rattle.proxy_rules.proofs.ShareLemmas.{all_shares-le}
use Rattle.poll_rules.specs.GatheredItems.{are_in, items_at}
use Rattle.poll_rules.specs.Quorum.{is_counted}
use Rattle.poll_rules.specs.Roles.{roles_of}
use Rattle.poll_rules.proofs.PollPairLemmas.{quorum-agree}
use Rattle.poll_rules.proofs.qualifying.quorum_among.Goals as goal

pub roles_by_person-requires-clause-few : goal.roles_by_person-requires-clause-few
roles_by_person-requires-clause-few c = all_shares-le c.args.papers.now.register.now c.requires.rows

pub returns : goal.returns
returns c =
    let papers = c.args.papers.now in
    c.make_quorum.ensures
    ∙ quorum-agree (filter is_counted papers.register.now) (items_at c.in_ok-roles.roles) (roles_of c.args.cutoffs.now papers.register.now papers.appointments.now papers.endings.now papers.authorities.now)
    (map (λ (mark : PresenceMark). mark.party) c.args.present.now)
    (λ person there. c.in_ok-roles.ensures person (ap (λ persons. are_in persons person) (c.as_slice.ensures.value ∙ c.in_ok-persons.ensures) ∙ there))

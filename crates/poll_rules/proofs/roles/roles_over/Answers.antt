use Rattle.std.proofs.Common.{ap, sym, take, ◌++◌, ◌∙◌}
use Rattle.std.specs.List.{flat_map}
use Rattle.std.proofs.lemmas.List.{append-nil}
use Rattle.poll_rules.specs.Acting.{is_one_of}
use Rattle.poll_rules.specs.GatheredItems.{items_at}
use Rattle.poll_rules.specs.Roles.{roles_by}
use Rattle.poll_rules.proofs.ActingLemmas.{no_roles}
use Rattle.poll_rules.proofs.RoleLemmas.{roles-more}
use Rattle.poll_rules.proofs.roles.roles_over.Goals as goal
use Rattle.poll_rules.proofs.roles.roles_over.Goals.{then-contains+in_ok-give_roles, else-contains}

pub loop-row-preserved : goal.loop-row-preserved
loop-row-preserved c = λ person right.
    let papers = c.args.papers.now in
    let by = roles_by c.args.cutoffs.now papers.appointments.now papers.endings.now papers.authorities.now person in
    let rows = papers.register.now in
    let i = c.loop-row.row-index in
    let row = c.row-item.result in
    let before = c.loop-row.invariant person right in
    let more = sym (roles-more by rows i row c.loop-row-test.true c.row-item.is) in
    elim c.if-contains.branch [
      | then-contains+in_ok-give_roles w ↦
          ap (λ roles. items_at roles person) w.roles-is
          ∙ w.in_ok-give_roles.ensures person right
          ∙ ap (λ l. l ++ by row) before
          ∙ more
      | else-contains w ↦
          ap (λ roles. items_at roles person) w.roles-is
          ∙ before
          ∙ sym (append-nil (flat_map by (take i rows)))
          ∙ ap (λ l. flat_map by (take i rows) ++ l)
          (sym (no_roles (is_one_of c.args.present.now) c.args.cutoffs.now papers.appointments.now papers.endings.now papers.authorities.now row person
          (sym (c.requires.members row.member) ∙ sym c.contains.ensures ∙ w.if-contains.false) right))
          ∙ more
    ]

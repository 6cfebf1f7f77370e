use Rattle.std.proofs.Common.{◌≡◌, ◌++◌, ap, ◌∙◌, append_assoc}
use Rattle.std.specs.Prelude.{◌&&◌}
use Rattle.std.proofs.lemmas.Result.{on_ok_weaker}
use Rattle.vocabulary.specs.Names.{same_name}
use Rattle.vocabulary.specs.declared.kinds.Capacity.TheVariants.{Member, Rep, Proxy}
use Rattle.proxy_rules.specs.Holdings.{holding_by}
use Rattle.proxy_rules.specs.Shares.{is_corporation, is_individual}
use Rattle.poll_rules.specs.GatheredItems.{are_in, items_at}
use Rattle.poll_rules.specs.Roles.{has_authority, is_proxy_in, role_if}
use Rattle.poll_rules.proofs.roles.give_roles.Goals as goal

pub returns : goal.returns
returns c =
    let papers = c.args.papers.now in
    let cutoffs = c.args.cutoffs.now in
    let row = c.args.row.now in
    on_ok_weaker c.give_role-3.result
    (λ given person right.
    let before = items_at c.args.roles.now person in
    let own = role_if (is_individual row.kind && same_name row.member person) Member row.member in
    let representing = role_if (is_corporation row.kind && has_authority papers.authorities.now row.member person) Rep row.member in
    let governing = role_if (is_proxy_in cutoffs (holding_by papers.appointments.now papers.endings.now row) person) Proxy row.member in
    let first : items_at c.give_role.new.roles person ≡ before ++ own =
    c.in_ok-give_role.ensures person right ∙ ap (λ b. before ++ role_if b Member row.member) (c.in_ok-own.ensures person) in
    let second : items_at c.give_role-2.new.roles person ≡ (before ++ own) ++ representing =
    c.in_ok-give_role-2.ensures person right
    ∙ ap (λ l. l ++ role_if (are_in c.in_ok-representing.representing.items person) Rep row.member) first
    ∙ ap (λ b. (before ++ own) ++ role_if b Rep row.member) (c.in_ok-representing.ensures person) in
    given person right
    ∙ ap (λ l. l ++ role_if (are_in c.in_ok-governing.governing.items person) Proxy row.member) second
    ∙ ap (λ b. ((before ++ own) ++ representing) ++ role_if b Proxy row.member) (c.in_ok-governing.ensures person right)
    ∙ ap (λ l. l ++ governing) (append_assoc before own representing)
    ∙ append_assoc before (own ++ representing) governing)
    c.give_role-3.ensures

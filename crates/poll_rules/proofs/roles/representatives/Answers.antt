use Rattle.std.proofs.Common.{◌≡◌, ℕ, List, ap, sym, map, ◌∙◌}
use Rattle.std.specs.Prelude.{◌&&◌, filter}
use Rattle.std.proofs.lemmas.Result.{IfOk-weaker}
use Rattle.vocabulary.specs.Names.{same_name}
use Rattle.desk_words.specs.declared.records.Authority.{Authority}
use Rattle.proxy_rules.specs.Shares.{is_corporation}
use Rattle.poll_rules.specs.GatheredItems.{are_in}
use Rattle.poll_rules.specs.Roles.{has_authority}
use Rattle.proxy_rules.specs.Parties.{is_authority_of}
use Rattle.poll_rules.proofs.GatherLemmas.{any-authorised}
use Rattle.poll_rules.proofs.roles.representatives.Goals as goal

pub returns-in-Corporation : goal.returns-in-Corporation
returns-in-Corporation c =
    let authorities = c.args.authorities.now in
    let member = c.args.row.now.member in
    IfOk-weaker c.authorised_by.result
    (λ persons. persons.items ≡ map (λ (a : Authority). a.person) (filter (is_authority_of member) authorities))
    (λ persons. (person : List ℕ) → are_in persons.items person ≡ (is_corporation c.args.row.now.kind && has_authority authorities member person))
    (λ persons are person.
    ap (λ names. are_in names person) are
    ∙ any-authorised (λ other. same_name other person) authorities member
    ∙ ap (λ kind. is_corporation kind && has_authority authorities member person) (sym c.in-Corporation.is))
    c.authorised_by.ensures

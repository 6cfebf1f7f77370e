use Rattle.std.proofs.Common.{ap, sym, ◌∙◌}
use Rattle.std.specs.Prelude.{◌||◌}
use Rattle.std.specs.List.{list_any}
use Rattle.vocabulary.specs.declared.kinds.HolderKind.{HolderKind}
use Rattle.proxy_rules.specs.Shares.{is_corporation, is_individual}
use Rattle.std.specs.Prelude.{◌&&◌}
use Rattle.vocabulary.specs.Names.{same_name}
use Rattle.desk_words.specs.declared.records.Authority.{Authority}
use Rattle.poll_rules.specs.Acting.{is_one_of}
use Rattle.poll_rules.proofs.GatherLemmas.{any-authorised}
use Rattle.poll_rules.proofs.demand.holder_demands.Goals as goal

pub returns-in_ok-persons-in-Corporation : goal.returns-in_ok-persons-in-Corporation
returns-in_ok-persons-in-Corporation c =
    let demanded = is_one_of c.args.demanders.now in
    let row = c.args.row.now in
    let authorities = c.args.authorities.now in
    c.any_demands.ensures
    ∙ ap (list_any demanded) (c.as_slice.ensures.value ∙ c.in_ok-persons-in-Corporation.ensures)
    ∙ any-authorised demanded authorities row.member
    ∙ ap (λ (kind : HolderKind). (is_individual kind && demanded row.member) || (is_corporation kind && list_any (λ (a : Authority). same_name a.corporation row.member && demanded a.person) authorities))
    (sym c.in-Corporation.is)

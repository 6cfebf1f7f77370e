use Rattle.std.proofs.Common.{◌++◌, ◌∷◌, [], take, refl, sym, ap, subst, ◌∙◌}
use Rattle.std.proofs.lemmas.List.{take_all, take_more}
use Rattle.sqlite.specs.declared.types.Value.TheVariants.{Text}
use Rattle.sql_desk_tables.specs.Together.{EachMeans, values_row}
use Rattle.sql_desk_tables.proofs.TogetherLemmas.{means_more, values_more}
use Rattle.sql_desk_tables.proofs.register.values_of.Goals as goal

pub loop-row-init : goal.loop-row-init
loop-row-init c = (c.meeting_text.result.now, [], rw (c.in_ok-push.ensures.items, c.new-values.ensures.items, c.to_sql.ensures) refl, c.meeting_text.ensures, tt)

pub loop-row-preserved : goal.loop-row-preserved
loop-row-preserved c =
    let i = c.loop-row.row-index in
    let all = c.args.rows.now in
    let it = c.row-item.result in
    let next = take_more all i it c.loop-row-test.true ∙ ap (λ z. take i all ++ z ∷ []) (sym c.row-item.is) in
    let (name, each, is, meeting_is, means) = c.loop-row.invariant in
    let (v, are, more) = c.in_ok-push_values.ensures in (
      name,
      each ++ v ∷ [],
      more ∙ ap (λ l. l ++ values_row v) is ∙ sym (ap (λ l. Text name ∷ l) (values_more each v)),
      meeting_is,
      subst (λ l. EachMeans (each ++ v ∷ []) l) (sym next) (means_more each v (take i all) it means are),
    )

pub returns : goal.returns
returns c =
    let (name, each, is, meeting_is, means) = c.loop-row.invariant in
    (name, each, is, meeting_is, subst (λ l. EachMeans each l) (take_all c.loop-row.row-index c.args.rows.now c.loop-row-test.false) means)

use Rattle.std.proofs.Common.{◌≡◌, ◌++◌, ◌∷◌, [], refl, ap, ◌∙◌, w64, rules, to_z, of_z}
use Rattle.std.proofs.lemmas.List.{map-append}
use Rattle.sqlite.specs.Values.{bound}
use Rattle.sql_desk_tables.specs.Together.{RowValues, values_row}
use Rattle.sql_desk_tables.proofs.TogetherLemmas.{pushed}
use Rattle.sql_desk_tables.proofs.register.push_values.Goals as goal

pub returns : goal.returns
returns c =
    let was = c.args.values.now.items in
    let v : RowValues = record { member = c.party_text.result.now; kind = c.holder_kind_text.result.now; name = c.text_value.result.now; shares = c.in_ok-shares.shares; paid = c.in_ok-paid.paid } in
    let same_0 : to_z w64 (of_z w64 c.in_ok-shares.shares) ≡ c.in_ok-shares.shares = search rules in
    let same_1 : to_z w64 (of_z w64 c.in_ok-paid.paid) ≡ c.in_ok-paid.paid = search rules in
    let one = c.to_sql.result in
    let two = c.to_sql-2.result in
    let three = c.to_sql-3.result in
    let four = c.to_sql-4.result in
    let five = c.to_sql-5.result in
    let two_pushed = pushed was _ _ (one ∷ []) two c.in_ok-push.ensures.items c.in_ok-push-2.ensures.items in
    let three_pushed = pushed was _ _ (one ∷ two ∷ []) three two_pushed c.in_ok-push-3.ensures.items in
    let four_pushed = pushed was _ _ (one ∷ two ∷ three ∷ []) four three_pushed c.in_ok-push-4.ensures.items in
    let all = pushed was _ _ (one ∷ two ∷ three ∷ four ∷ []) five four_pushed c.in_ok-push-5.ensures.items in
    let values : bound (one ∷ two ∷ three ∷ four ∷ five ∷ []) ≡ values_row v =
    rw (c.to_sql.ensures, c.to_sql-2.ensures, c.to_sql-3.ensures, c.to_sql-4.ensures, c.to_sql-5.ensures, same_0, same_1) refl in (
      v,
      record { member = c.party_text.ensures; kind = c.holder_kind_text.ensures; name = c.text_value.ensures; shares = c.in_ok-shares.ensures.reads_back; paid = c.in_ok-paid.ensures.reads_back },
      ap bound all ∙ map-append _ was (one ∷ two ∷ three ∷ four ∷ five ∷ []) ∙ ap (λ l. bound was ++ l) values,
    )

use Rattle.std.proofs.Common.{Bool, ap, sym, ◌∙◌}
use Rattle.std.specs.Prelude.{find}
use Rattle.std.specs.Cmp.Lexicographic.{texts_ties}
use Rattle.desk_words.specs.declared.records.RegisterRow.{RegisterRow}
use Rattle.proxy_rules.proofs.register_rows.find_row.Goals as goal

pub returns : goal.returns
returns c = c.find_by_key.ensures ∙ ap (λ (test : RegisterRow → Bool). find test c.args.register.now) (λ i row. sym (texts_ties row.member c.args.member) i)

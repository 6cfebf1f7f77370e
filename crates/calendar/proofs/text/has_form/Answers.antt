use Rattle.std.proofs.Common.{rules, tests, length, eq-eqb}
use Rattle.std.proofs.lemmas.Iterator.{YieldsList-from_slice, YieldsList-from_zip}
use Rattle.std.proofs.lemmas.Iterator.Search.{all_from_yields_List}
use Rattle.calendar.specs.DateTexts as texts
use Rattle.calendar.proofs.text.has_form.Goals as goal

pub returns-then-form-text : goal.returns-then-form-text
returns-then-form-text c =
    let all = all_from_yields_List (λ pair. texts.fits pair.0 pair.1) c.all.new.self _ c.all.result c.all.ensures.ran (YieldsList-from_zip (YieldsList-from_slice c.args.form.now cc) (YieldsList-from_slice c.args.text.now cc)) (λ x b q k. search (rules, tests)) in
    rw (eq-eqb (length c.args.form.now) (length c.args.text.now) c.if-form-text.true) all

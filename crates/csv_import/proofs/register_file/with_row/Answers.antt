use Rattle.std.proofs.Common.{◌≡◌, ◌<◌, [], ◌∷◌, ◌++◌, true, false, length, sym, ap, ◌∙◌, arith, Ok}
use Rattle.std.specs.BTreeSet.{contains}
use Rattle.csv.specs.Records.{fields_of}
use Rattle.vocabulary.specs.Names.{name_cmp}
use Rattle.desk_words.specs.Registers.{is_holding}
use Rattle.csv_import.proofs.GatheredLemmas.{is_true, new-if, held-if, row-twice, row-total, row-more, rows-more}
use Rattle.csv_import.proofs.register_file.with_row.Goals as goal

pub returns-then-not-branch : goal.returns-then-not-branch
returns-then-not-branch c =
    let rows = c.so_far.inside.rows.items in
    let held : contains name_cmp c.so_far.inside.members c.in_ok-row.row.member ≡ true = held-if _ (sym c.if-not-branch.true ∙ c.in_ok-insert.ensures.added) in
    rw (← c.so_far.view_is) (row-twice rows c.so_far.inside.members c.so_far.inside.total (fields_of c.args.fields.now) c.in_ok-row.row c.so_far.invariant c.len-count.result (omega arith) c.in_ok-row.ensures.row held)

pub returns-then-total-gt-MOST_SHARES : goal.returns-then-total-gt-MOST_SHARES
returns-then-total-gt-MOST_SHARES c =
    let rows = c.so_far.inside.rows.items in
    let new : contains name_cmp c.so_far.inside.members c.in_ok-row.row.member ≡ false = new-if _ (sym c.if-not-branch.false ∙ c.in_ok-insert.ensures.added) in
    rw (← c.so_far.view_is) (row-total rows c.so_far.inside.members c.so_far.inside.total (fields_of c.args.fields.now) c.in_ok-row.row c.so_far.invariant c.len-count.result (omega arith) c.in_ok-row.ensures.row new (omega arith))

pub invariant_of-result : goal.invariant_of-result
invariant_of-result c =
    let rows = c.so_far.inside.rows.items in
    let new : contains name_cmp c.so_far.inside.members c.in_ok-row.row.member ≡ false = new-if _ (sym c.if-not-branch.false ∙ c.in_ok-insert.ensures.added) in
    let holding : is_holding c.in_ok-row.row ≡ true = is_true _ c.in_ok-row.ensures.holding in
    let items : c.push.new.self.items ≡ rows ++ c.in_ok-row.row ∷ [] = c.in_ok-push.ensures.items in
    let few : length rows < 20000 = omega (arith, c.in_ok-row.ensures.room) in
    rw items (
    rows-more rows c.so_far.inside.members c.so_far.inside.total (fields_of c.args.fields.now) c.in_ok-row.row c.so_far.invariant c.len-count.result (omega arith) c.in_ok-row.ensures.row
    c.insert.new.self few holding new c.in_ok-insert.ensures.updates (omega arith))

pub returns : goal.returns
returns c =
    let items : c.push.new.self.items ≡ c.so_far.inside.rows.items ++ c.in_ok-row.row ∷ [] = c.in_ok-push.ensures.items in
    let rows = c.so_far.inside.rows.items in
    let new : contains name_cmp c.so_far.inside.members c.in_ok-row.row.member ≡ false = new-if _ (sym c.if-not-branch.false ∙ c.in_ok-insert.ensures.added) in
    rw (← c.so_far.view_is) (row-more rows c.so_far.inside.members c.so_far.inside.total (fields_of c.args.fields.now) c.in_ok-row.row c.so_far.invariant c.len-count.result (omega arith) c.in_ok-row.ensures.row new (omega arith)
    ∙ ap (λ items. Ok items) (sym items))

use Rattle.std.proofs.Common.{◌≡◌, ◌<◌, true, false, [], ◌∷◌, ◌++◌, length, sym, ap, ◌∙◌, arith, Ok}
use Rattle.std.specs.BTreeSet.{contains, Updates}
use Rattle.std.specs.Option.{option_cmp}
use Rattle.csv.specs.Records.{fields_of}
use Rattle.vocabulary.specs.Names.{name_cmp}
use Rattle.desk_words.specs.Callers.{party_in}
use Rattle.csv_import.proofs.GatheredLemmas.{new-if, held-if, caller-twice, secret-twice, key-more, keys-more}
use Rattle.csv_import.proofs.key_file.with_key.Goals as goal

pub returns-then-not-branch : goal.returns-then-not-branch
returns-then-not-branch c =
    let few : length c.so_far.inside.rows.items < 40000 = omega arith in
    let held : contains (option_cmp name_cmp) c.so_far.inside.callers (party_in c.in_ok-row.row.caller) ≡ true = rw c.party.ensures at (held-if _ (sym c.if-not-branch.true ∙ c.in_ok-insert.ensures.added)) in
    rw (← c.so_far.view_is) (caller-twice c.so_far.inside.rows.items c.so_far.inside.callers c.so_far.inside.secrets (fields_of c.args.fields.now) c.in_ok-row.row c.so_far.invariant few
    c.len.result (omega arith) c.in_ok-row.ensures.key held)

pub returns-then-not-branch-2 : goal.returns-then-not-branch-2
returns-then-not-branch-2 c =
    let few : length c.so_far.inside.rows.items < 40000 = omega arith in
    let new : contains (option_cmp name_cmp) c.so_far.inside.callers (party_in c.in_ok-row.row.caller) ≡ false = rw c.party.ensures at (new-if _ (sym c.if-not-branch.false ∙ c.in_ok-insert.ensures.added)) in
    let held : contains name_cmp c.so_far.inside.secrets c.in_ok-row.row.secret ≡ true = held-if _ (sym c.if-not-branch-2.true ∙ c.in_ok-insert-2.ensures.added) in
    rw (← c.so_far.view_is) (secret-twice c.so_far.inside.rows.items c.so_far.inside.callers c.so_far.inside.secrets (fields_of c.args.fields.now) c.in_ok-row.row c.so_far.invariant few
    c.len.result (omega arith) c.in_ok-row.ensures.key new held)

pub invariant_of-result : goal.invariant_of-result
invariant_of-result c =
    let items : c.push.new.self.items ≡ c.so_far.inside.rows.items ++ c.in_ok-row.row ∷ [] = c.in_ok-push.ensures.items in
    let few : length c.so_far.inside.rows.items < 40000 = omega arith in
    let new : contains (option_cmp name_cmp) c.so_far.inside.callers (party_in c.in_ok-row.row.caller) ≡ false = rw c.party.ensures at (new-if _ (sym c.if-not-branch.false ∙ c.in_ok-insert.ensures.added)) in
    let other : contains name_cmp c.so_far.inside.secrets c.in_ok-row.row.secret ≡ false = new-if _ (sym c.if-not-branch-2.false ∙ c.in_ok-insert-2.ensures.added) in
    let updates : Updates (option_cmp name_cmp) c.so_far.inside.callers c.insert.new.self (party_in c.in_ok-row.row.caller) true = rw c.party.ensures at c.in_ok-insert.ensures.updates in
    rw items (keys-more c.so_far.inside.rows.items c.so_far.inside.callers c.so_far.inside.secrets (fields_of c.args.fields.now) c.in_ok-row.row c.so_far.invariant few
    c.len.result (omega arith) c.in_ok-row.ensures.key c.insert.new.self c.insert-2.new.self new other updates c.in_ok-insert-2.ensures.updates)

pub returns : goal.returns
returns c =
    let items : c.push.new.self.items ≡ c.so_far.inside.rows.items ++ c.in_ok-row.row ∷ [] = c.in_ok-push.ensures.items in
    let few : length c.so_far.inside.rows.items < 40000 = omega arith in
    let new : contains (option_cmp name_cmp) c.so_far.inside.callers (party_in c.in_ok-row.row.caller) ≡ false = rw c.party.ensures at (new-if _ (sym c.if-not-branch.false ∙ c.in_ok-insert.ensures.added)) in
    let other : contains name_cmp c.so_far.inside.secrets c.in_ok-row.row.secret ≡ false = new-if _ (sym c.if-not-branch-2.false ∙ c.in_ok-insert-2.ensures.added) in
    rw (← c.so_far.view_is) (key-more c.so_far.inside.rows.items c.so_far.inside.callers c.so_far.inside.secrets (fields_of c.args.fields.now) c.in_ok-row.row c.so_far.invariant few
    c.len.result (omega arith) c.in_ok-row.ensures.key new other ∙ ap (λ rows. Ok rows) (sym items))

use Rattle.std.proofs.Common.{◌∙◌, ap, filter, sym}
use Rattle.std.specs.BTreeSet.{contains}
use Rattle.vocabulary.specs.Names.{name_cmp}
use Rattle.row_source.proofs.MemberLemmas.{in_set, none_among}
use Rattle.row_source.proofs.members.givers_among.Goals as goal

pub returns-then-is_empty : goal.returns-then-is_empty
returns-then-is_empty c = c.new.ensures.items ∙ sym (none_among c.args.given.now c.args.those.now c.is_empty.result c.if-is_empty.true c.is_empty.ensures)

pub returns : goal.returns
returns c =
    c.among.ensures ∙ ap (filter (contains name_cmp c.in_ok-givers_of.field-0)) c.in_ok-all.ensures
    ∙ in_set _ _ _ c.in_ok-givers_of.ensures

use Rattle.std.proofs.Common.{◌≡◌, length, take, None, Some, sym, ap, ◌∙◌, rules}
use Rattle.json.specs.Json as tree
use Rattle.json_requests.proofs.FieldLemmas.{gathers-end, gathers-fail, gathers-no_key, gathers-none, gathers-turn, gathers-unasked, stopped, take-replicate, take-set_within}
use Rattle.json_requests.specs.MemberFields.{fitting, nested}
use Rattle.json_requests.proofs.fields.read_members.Goals as goal

pub loop-name-init : goal.loop-name-init
loop-name-init c = gathers-none c.args.names.now c.args.reader.now _ (ap (take (length c.args.names.now)) c.requires.none ∙ take-replicate _ (length c.args.names.now) 6 c.requires.few)

pub returns-in_err-name : goal.returns-in_err-name
returns-in_err-name c =
    let l = c.loop-name in
    stopped _ c.in_err-name.field-0.0 (tree.read_key l.reader) _ c.from_residual.result c.in_err-name.ensures (gathers-no_key c.args.names.now c.args.reader.now l.reader (take (length c.args.names.now) l.fields) l.invariant) c.from_residual.ensures.1

pub returns-in_err-value : goal.returns-in_err-value
returns-in_err-value c =
    let l = c.loop-name in
    let key : tree.read_key l.reader ≡ Some (Some c.in-Some.name.now, c.next_name.new.reader) = search rules in
    stopped _ c.in_err-value.field-0.0 (fitting (tree.value nested c.next_name.new.reader)) _ c.from_residual-in_err-value.result c.in_err-value.ensures.read
    (gathers-fail c.args.names.now c.args.reader.now l.reader (take (length c.args.names.now) l.fields) l.invariant c.in-Some.name.now c.next_name.new.reader key) c.from_residual-in_err-value.ensures.1

pub loop-name-preserved : goal.loop-name-preserved
loop-name-preserved c =
    let l = c.loop-name in
    let v = c.in_ok-value.value in
    let key : tree.read_key l.reader ≡ Some (Some c.in-Some.name.now, c.next_name.new.reader) = search rules in
    let place = c.in-Some-place_of.place in
    let n = length c.args.names.now in
    let put = ap (take n) c.put.ensures ∙ take-set_within n l.fields place (Some v) in
    gathers-turn c.args.names.now c.args.reader.now l.reader (take (length c.args.names.now) l.fields) l.invariant c.in-Some.name.now c.next_name.new.reader key v c.next_value.new.reader c.in_ok-value.ensures.read place _ (sym c.place_of.ensures.first ∙ c.in-Some-place_of.is) c.requires.differ put c.in_ok-value.ensures.shorter

pub returns-in-None : goal.returns-in-None
returns-in-None c =
    let l = c.loop-name in
    let key : tree.read_key l.reader ≡ Some (Some c.in-Some.name.now, c.next_name.new.reader) = search rules in
    gathers-unasked c.args.names.now c.args.reader.now l.reader (take (length c.args.names.now) l.fields) l.invariant c.in-Some.name.now c.next_name.new.reader key c.in_ok-value.value c.next_value.new.reader c.in_ok-value.ensures.read (sym c.place_of.ensures.first ∙ c.in-None.is)

pub returns : goal.returns
returns c =
    let l = c.loop-name in
    let over : tree.read_key l.reader ≡ Some (None, c.next_name.new.reader) = search rules in
    gathers-end c.args.names.now c.args.reader.now l.reader (take (length c.args.names.now) l.fields) l.invariant c.next_name.new.reader over

use Rattle.std.proofs.Common.{option_and_then, sym, ap, ◌∙◌}
use Rattle.json.specs.Value.{value_view}
use Rattle.serde_json.specs.Find.{as_u64}
use Rattle.serde_json.specs.Read.{number_of}
use Rattle.json_requests.proofs.BodyValueLemmas.{number_seen}
use Rattle.json_requests.proofs.value.as_u64.Goals as goal

pub returns-in-Some : goal.returns-in-Some
returns-in-Some c =
    c.whole_number.ensures ∙ ap (option_and_then as_u64) (ap (option_and_then number_of) c.in-Some.ensures ∙ sym (number_seen (value_view c.args.value.now)))

pub returns-in-None : goal.returns-in-None
returns-in-None c = ap (option_and_then as_u64) (ap (option_and_then number_of) c.in-None.ensures ∙ sym (number_seen (value_view c.args.value.now)))

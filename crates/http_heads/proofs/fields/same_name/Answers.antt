use Rattle.std.proofs.lemmas.Bool.Decides.{same_from_decides}
use Rattle.http_heads.specs.Fields.{same_field}
use Rattle.http_heads.proofs.FieldLemmas.{name_decides}
use Rattle.http_heads.proofs.fields.same_name.Goals as goal

pub returns : goal.returns
returns c = same_from_decides c.eq_ignore_ascii_case.result (same_field c.args.a.now c.args.b.now) c.eq_ignore_ascii_case.ensures.test (name_decides c.args.a.now c.args.b.now)

use Rattle.std.proofs.Common.{ℕ, List, cond, ap, ◌∙◌, sym}
use Rattle.std.specs.Prelude.{Ok, Err}
use Rattle.std.specs.Str.{is_utf8}
use Rattle.std.proofs.lemmas.Str.{IsUtf8-from_is_utf8, is_utf8-from_IsUtf8}
use Rattle.std.proofs.lemmas.Bool.{false_from_ne_true}
use Rattle.vocabulary.specs.declared.refusal.Refusal.TheVariants.{Unreadable}
use Rattle.replay.proofs.line.text_of.Goals as goal

pub returns-in-Ok-clause-agrees : goal.returns-in-Ok-clause-agrees
returns-in-Ok-clause-agrees c =
    let bytes = c.args.bytes.now in
    let both = c.in-Ok.ensures.cases in
    ap (λ b. cond b (Ok bytes) (Err Unreadable)) (is_utf8-from_IsUtf8 bytes both.1) ∙ ap (λ (text : List ℕ). Ok text) (sym both.0)

pub returns-in-Err-clause-agrees : goal.returns-in-Err-clause-agrees
returns-in-Err-clause-agrees c =
    let bytes = c.args.bytes.now in
    ap (λ b. cond b (Ok bytes) (Err Unreadable)) (false_from_ne_true (is_utf8 bytes) (λ t. c.in-Err.ensures.cases.0 (IsUtf8-from_is_utf8 bytes t)))

use Rattle.std.proofs.Common.{◌≡◌, ℕ, List, ◌++◌, append_assoc, ap, ◌∙◌}
use Rattle.std.specs.Prelude.{codes, decimal}
use Rattle.desk_words.specs.declared.reply.AppointmentUse.{AppointmentUse}
use Rattle.desk_words.specs.declared.reply.AppointmentUse.TheVariants.{Meeting, LaterPolls}
use Rattle.serde_json.specs.Written.{compact_text}
use Rattle.serde_json.proofs.OnLiterals.{serde_json_on_literals}
use Rattle.json_replies.specs.AppointmentJson.{appointed_data, use_word}
use Rattle.json_replies.proofs.reply.appointed_text.Goals as goal

abbrev used_text : AppointmentUse → List ℕ
used_text used = codes ",\"ok\":\"appointed\",\"use\":\"" ++ (use_word used ++ codes "\"}")

appointed-text : (n : ℕ) (used : AppointmentUse) → (codes "{\"number\":" ++ decimal n) ++ used_text used ≡ compact_text (appointed_data (record { number = n; used = used }))
unfolding serde_json_on_literals
appointed-text n Meeting = append_assoc (codes "{\"number\":") (decimal n) (used_text Meeting)
appointed-text n LaterPolls = append_assoc (codes "{\"number\":") (decimal n) (used_text LaterPolls)

pub returns : goal.returns
returns c =
    let n = c.args.receipt.number in
    let front = codes "{\"number\":" in
    c.in_ok-extend_from_slice-2.ensures.items
    ∙ ap (λ s. s ++ c.used_text.result.now) (c.in_ok-extend_from_slice.ensures.items ∙ ap (λ s. s ++ c.as_bytes.result.now) c.in_ok-text.ensures ∙ ap (λ s. front ++ s) (c.as_bytes.ensures.value ∙ c.format.ensures.text))
    ∙ ap (λ s. (front ++ decimal n) ++ s) c.used_text.ensures
    ∙ appointed-text n c.args.receipt.used

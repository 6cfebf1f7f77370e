-- Statuses of replies (RFC 9110, section 15).
use Rattle.std.specs.Prelude.{ℕ}
use Rattle.vocabulary.specs.declared.refusal.Refusal.{Refusal}
use Rattle.vocabulary.specs.declared.refusal.Refusal.TheVariants.{Key, Route, Method, TooLarge, Unreadable, OfficeOnly, PartyOnly}
use Rattle.desk_words.specs.declared.reply.Reply.{Reply}
use Rattle.desk_words.specs.declared.reply.Reply.TheVariants.{Refused}

-- the status of a refusal; what a rule of the office refuses is a conflict
abbrev pub refusal_status : Refusal → ℕ
refusal_status Key = 401
refusal_status Route = 404
refusal_status Method = 405
refusal_status TooLarge = 413
refusal_status Unreadable = 400
refusal_status OfficeOnly = 403
refusal_status PartyOnly = 403
refusal_status other = 409

-- the status of a reply: that of its refusal, and 200 where nothing is refused
abbrev pub reply_status : Reply → ℕ
reply_status (Refused refusal) = refusal_status refusal
reply_status other = 200

use Rattle.std.specs.Prelude.{IsUtf8}
use Rattle.json_replies.proofs.Moments.{day_is_text, ok_unless_err}
use Rattle.json_replies.proofs.notice.DayShown.write.Goals as goal

pub unwrap-requires : goal.unwrap-requires
unwrap-requires c =
    let text : IsUtf8 c.write_day-text.result = day_is_text _ _ c.write_day-text.ensures.reads_back in
    ok_unless_err _ _ c.from_utf8.result c.from_utf8.ensures.cases (λ e q. q.0 text)

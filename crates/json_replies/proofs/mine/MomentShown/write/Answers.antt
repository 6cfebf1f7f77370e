use Rattle.std.specs.Prelude.{IsUtf8}
use Rattle.json_replies.proofs.Moments.{moment_is_text, ok_unless_err}
use Rattle.json_replies.proofs.mine.MomentShown.write.Goals as goal

pub unwrap-requires : goal.unwrap-requires
unwrap-requires c =
    let text : IsUtf8 c.write_moment-text.result = moment_is_text _ _ c.write_moment-text.ensures.reads_back in
    ok_unless_err _ _ c.from_utf8.result c.from_utf8.ensures.cases (λ e q. q.0 text)

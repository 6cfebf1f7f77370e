use Rattle.std.proofs.Common.{◌≡◌, ◌++◌, ◌∙◌, ap, subst, true, length, append_assoc}
use Rattle.std.specs.Io.KnownBytes.{Appends}
use Rattle.std.specs.Prelude.{OnOk, OnErr, is_ok}
use Rattle.byte_io.specs.Written.{AppendsPrefix}
use Rattle.http_routes.specs.ReplyTexts.{status_line, header_lines, reply_text}
use Rattle.http_routes.proofs.RouteChained.{if_ok, part_of-first, on_err, whole_if, part_if}
use Rattle.http_routes.proofs.reply.write_reply.Goals as goal

pub returns-then-is_ok-2-clause-written : goal.returns-then-is_ok-2-clause-written
returns-then-is_ok-2-clause-written g c =
    let seen = g.W.Sink.contents in
    let body = c.args.body.now in
    let line = status_line c.args.status in
    let headers = header_lines (length body) in
    let head : c.as_bytes-head.result.now ≡ line ++ headers = c.as_bytes-head.ensures.value ∙ c.as_str.ensures.value ∙ c.head-head.ensures in
    let first : is_ok c.try_extend_from_slice.result ≡ true = cc in
    let second : is_ok c.try_extend_from_slice-then-is_ok.result ≡ true = cc in
    let front : c.try_extend_from_slice.new.self.items ≡ line ++ headers = if_ok c.try_extend_from_slice.result first c.try_extend_from_slice.ensures.ok ∙ ap (λ t. t ++ c.as_bytes-head.result.now) c.new-reply.ensures ∙ head in
    let whole : c.as_slice.result.now ≡ reply_text c.args.status body =
    c.as_slice.ensures.value
    ∙ if_ok c.try_extend_from_slice-then-is_ok.result second c.try_extend_from_slice-then-is_ok.ensures.ok
    ∙ ap (λ t. t ++ body) front
    ∙ append_assoc line headers body in
    subst (λ t. OnOk c.write_all.result (Appends (seen c.args.writer.now) (seen c.write_all.new.sink) t)) whole c.write_all.ensures.written

pub returns-in_err-write_all-clause-partly : goal.returns-in_err-write_all-clause-partly
returns-in_err-write_all-clause-partly g c =
    let seen = g.W.Sink.contents in
    let body = c.args.body.now in
    let line = status_line c.args.status in
    let headers = header_lines (length body) in
    let head : c.as_bytes-head.result.now ≡ line ++ headers = c.as_bytes-head.ensures.value ∙ c.as_str.ensures.value ∙ c.head-head.ensures in
    let part : AppendsPrefix (seen c.args.writer.now) (seen c.write_all-2.new.sink) (line ++ headers) = subst (AppendsPrefix _ _) head c.in_err-write_all.ensures.partly in
    on_err c.from_residual.result
    (subst (AppendsPrefix (seen c.args.writer.now) (seen c.write_all-2.new.sink)) (append_assoc line headers body)
    (part_of-first (seen c.args.writer.now) (seen c.write_all-2.new.sink) (line ++ headers) body part))

pub returns-clause-written : goal.returns-clause-written
returns-clause-written g c =
    let seen = g.W.Sink.contents in
    let body = c.args.body.now in
    let line = status_line c.args.status in
    let headers = header_lines (length body) in
    let head : c.as_bytes-head.result.now ≡ line ++ headers = c.as_bytes-head.ensures.value ∙ c.as_str.ensures.value ∙ c.head-head.ensures in
    let written : Appends (seen c.args.writer.now) (seen c.write_all-2.new.sink) (line ++ headers) = subst (Appends _ _) head c.in_ok-write_all.ensures.written in
    subst (λ t. OnOk c.write_all-3.result (Appends (seen c.args.writer.now) (seen c.write_all-3.new.sink) t)) (append_assoc line headers body)
    (whole_if c.write_all-3.result (seen c.args.writer.now) (seen c.write_all-2.new.sink) (seen c.write_all-3.new.sink) (line ++ headers) body written c.write_all-3.ensures.written)

pub returns-clause-partly : goal.returns-clause-partly
returns-clause-partly g c =
    let seen = g.W.Sink.contents in
    let body = c.args.body.now in
    let line = status_line c.args.status in
    let headers = header_lines (length body) in
    let head : c.as_bytes-head.result.now ≡ line ++ headers = c.as_bytes-head.ensures.value ∙ c.as_str.ensures.value ∙ c.head-head.ensures in
    let written : Appends (seen c.args.writer.now) (seen c.write_all-2.new.sink) (line ++ headers) = subst (Appends _ _) head c.in_ok-write_all.ensures.written in
    subst (λ t. OnErr c.write_all-3.result (AppendsPrefix (seen c.args.writer.now) (seen c.write_all-3.new.sink) t)) (append_assoc line headers body)
    (part_if c.write_all-3.result (seen c.args.writer.now) (seen c.write_all-2.new.sink) (seen c.write_all-3.new.sink) (line ++ headers) body written c.write_all-3.ensures.partly)

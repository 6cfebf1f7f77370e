use Rattle.std.proofs.Common.{◌≡◌, ◌++◌, ◌∙◌, [], ap}
use Rattle.json.specs.Lex.{tokens}
use Rattle.json.specs.Print.{print}
use Rattle.serde_json.proofs.Texts.{print-outline}
use Rattle.json_replies.specs.Replies.{reply_data}
use Rattle.json_replies.specs.Writing.{data_tokens}
use Rattle.json_replies.proofs.Depths.{reply_below}
use Rattle.json_replies.proofs.WritingLemmas.{text_read}
use Rattle.json_replies.proofs.reply.reply_text_in.Goals as goal

pub returns-clause-text : goal.returns-clause-text
returns-clause-text c =
    let w = c.in_ok-write_reply.ensures in
    let nothing : c.write_reply.new.out.before ≡ [] = w.appends.before ∙ c.new-out.ensures.before ∙ c.clear.ensures.items in
    let all : c.write_reply.new.out.tokens ≡ data_tokens (reply_data c.args.reply.now) = w.appends.tokens ∙ ap (λ ts. ts ++ data_tokens (reply_data c.args.reply.now)) c.new-out.ensures.tokens in
    c.into_inner.ensures.items ∙ ap (λ s. s ++ print c.write_reply.new.out.tokens) nothing ∙ ap print all ∙ print-outline (reply_data c.args.reply.now)

pub returns-clause-reads_back : goal.returns-clause-reads_back
returns-clause-reads_back c =
    let d = reply_data c.args.reply.now in
    let w = c.in_ok-write_reply.ensures in
    let nothing : c.write_reply.new.out.before ≡ [] = w.appends.before ∙ c.new-out.ensures.before ∙ c.clear.ensures.items in
    let all : c.write_reply.new.out.tokens ≡ data_tokens d = w.appends.tokens ∙ ap (λ ts. ts ++ data_tokens d) c.new-out.ensures.tokens in
    let text : c.into_inner.result.items ≡ print c.write_reply.new.out.tokens = c.into_inner.ensures.items ∙ ap (λ s. s ++ print c.write_reply.new.out.tokens) nothing in
    text_read d c.into_inner.result.items w.reads (reply_below c.args.reply.now) (ap tokens text ∙ c.into_inner.ensures.reads_back ∙ all)

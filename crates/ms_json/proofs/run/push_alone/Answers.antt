use Rattle.std.proofs.Common.{codes, ◌∙◌, append_assoc}
use Rattle.std.specs.Prelude.{string_bytes}
use Rattle.json.specs.Print.{quoted}
use Rattle.ms_base.specs.ReplyText.{reply_text}
use Rattle.ms_json.proofs.RunLemmas.{element_text, lines_text}
use Rattle.ms_json.proofs.WritingLemmas.{adds_around}
use Rattle.ms_json.proofs.run.push_alone.Goals as goal

pub returns : goal.returns
returns c =
    let line = c.args.line in
    let reply = reply_text c.args.addresses c.args.reply in
    adds_around c.push_str.result (string_bytes c.args.text.now) _ _ _ (lines_text line line) (quoted reply) (codes "]") _
    (append_assoc (lines_text line line) (quoted reply) (codes "]") ∙ element_text line line reply)
    c.in_ok-push_lines.ensures c.in_ok-push_reply.ensures c.push_str.ensures.bytes

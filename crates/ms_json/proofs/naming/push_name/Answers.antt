use Rattle.std.proofs.Common.{codes, ◌∙◌, append_assoc}
use Rattle.std.specs.Prelude.{string_bytes}
use Rattle.json.specs.Print.{quoted}
use Rattle.ms_json.proofs.RunLemmas.{element_text, lines_text}
use Rattle.ms_json.proofs.WritingLemmas.{adds_around}
use Rattle.ms_json.proofs.naming.push_name.Goals as goal

pub returns : goal.returns
returns c =
    let named = c.args.named.now in
    let told = string_bytes named.text in
    let first = lines_text named.line named.loader in
    adds_around c.push_str.result (string_bytes c.args.text.now) _ _ _ first (quoted told) (codes "]") _
    (append_assoc first (quoted told) (codes "]") ∙ element_text named.line named.loader told)
    (rw c.from.ensures at c.in_ok-push_lines.ensures) (rw c.deref.ensures at c.in_ok-push_quoted.ensures) c.push_str.ensures.bytes

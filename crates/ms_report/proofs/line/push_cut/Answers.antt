-- What is left of the piece are its first bytes.
use Rattle.std.proofs.Common.{◌∙◌, ◌+◌, ◌++◌, ◌≡◌, ℕ, List, ap, length, string_bytes, take}
use Rattle.std.proofs.Math.Seq.{take-append-add}
use Rattle.ms_report.proofs.line.push_cut.Goals as goal

pub returns : goal.returns
returns c =
    let text : List ℕ = string_bytes c.args.text.now in
    let long : c.len.result ≡ length text = c.len.ensures ∙ c.args.text.now.bytes.ok.0 in
    c.truncate.ensures.bytes
    ∙ ap (take (c.len.result + c.args.len)) c.in_ok-push_ascii.ensures
    ∙ ap (λ (n : ℕ). take (n + c.args.len) (text ++ c.args.piece.now)) long
    ∙ take-append-add text c.args.piece.now c.args.len

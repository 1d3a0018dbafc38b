-- What is left of the piece is what stands up to the other index.
use Rattle.std.proofs.Common.{◌+◌, ◌-◌, arith, drop}
use Rattle.std.proofs.lemmas.List.{take-take}
use Rattle.ms_report.proofs.done_line.push_piece.Goals as goal

pub returns : goal.returns
returns c =
    let from = c.args.from in
    rw (take-take (c.args.end - from) (from + 16 - from) (drop from c.args.bytes.now)
    (omega (arith, c.requires.low, c.requires.order))) at c.push_cut.ensures

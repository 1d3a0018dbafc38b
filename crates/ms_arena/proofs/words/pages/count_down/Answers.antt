use Rattle.std.proofs.Common.{◌/◌, arith}
use Rattle.ms_arena.proofs.CountLemmas.{counted_down, counted_full, unknown}
use Rattle.ms_arena.proofs.words.pages.count_down.Goals as goal

pub returns-then-group-len : goal.returns-then-group-len
returns-then-group-len c = λ pages page are was is.
    counted_full pages c.args.counts.now.items c.args.number page are
    (omega (
      arith,
      unknown c.args.counts.now.items (c.args.number / 64)
          (omega (arith, c.if-group-len.true, c.len.ensures, c.args.counts.now.ok)),
    ))

pub returns : goal.returns
returns c = λ pages page are was is. rw c.saturating_sub.ensures
    (counted_down pages c.args.counts.now.items c.args.number c.index-count.result.now page are
    (omega (arith, c.if-group-len.false, c.len.ensures, c.args.counts.now.ok)) c.index-count.ensures was is)

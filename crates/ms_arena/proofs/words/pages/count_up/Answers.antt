use Rattle.std.proofs.Common.{◌/◌, arith}
use Rattle.ms_arena.proofs.CountLemmas.{count_is, counted_full, counted_up, unknown}
use Rattle.ms_arena.proofs.words.pages.count_up.Goals as goal

pub returns-then-group-len : goal.returns-then-group-len
returns-then-group-len c = λ pages page are.
    counted_full pages c.args.counts.now.items c.args.number page are
    (omega (
      arith,
      unknown c.args.counts.now.items (c.args.number / 64)
          (omega (arith, c.if-group-len.true, c.len.ensures, c.args.counts.now.ok)),
    ))

pub returns-then-count-ge-GROUP : goal.returns-then-count-ge-GROUP
returns-then-count-ge-GROUP c = λ pages page are.
    counted_full pages c.args.counts.now.items c.args.number page are
    (omega (
      arith,
      c.if-count-ge-GROUP.true,
      count_is c.args.counts.now.items (c.args.number / 64)
          c.index-count.result.now (omega (arith, c.if-group-len.false, c.len.ensures, c.args.counts.now.ok))
          c.index-count.ensures,
    ))

pub returns : goal.returns
returns c = λ pages page are.
    counted_up pages c.args.counts.now.items c.args.number c.index-count.result.now page are
    (omega (arith, c.if-group-len.false, c.len.ensures, c.args.counts.now.ok)) c.index-count.ensures

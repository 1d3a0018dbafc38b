-- A run that lies in one stretch.
use Rattle.std.proofs.Common.{arith}
use Rattle.ms_arena.proofs.words.Words.open.Goals as goal

pub returns-else-end-stretch : goal.returns-else-end-stretch
returns-else-end-stretch c =
    let opens = c.open_in.ensures.opens in
    let low_enough = c.if-end-stretch.false in
    record {
      zero = λ word low high. opens.zero word (omega (arith, low, high, low_enough)) low high;
      here = λ word low high. opens.here word (omega (arith, low, high, low_enough));
      there = λ word there. opens.there word there;
      before = λ word low. opens.before word low;
      after = λ word high. opens.after word high;
    }

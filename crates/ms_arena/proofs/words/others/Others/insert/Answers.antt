-- What is pushed comes first.
use Rattle.std.proofs.Common.{ℕ}
use Rattle.ms_arena.proofs.OthersLemmas.{more_enters}
use Rattle.ms_arena.proofs.words.others.Others.insert.Goals as goal

pub returns-in-Few-clause-entered : goal.returns-in-Few-clause-entered
returns-in-Few-clause-entered c =
    rw (c.push_reserved.ensures.items, ← c.self.view_is, c.in-Few.is)
    (λ (other : ℕ). more_enters c.in-Few.list.items (record { stretch = c.args.stretch; position = c.args.position }) other 0)

use Rattle.std.proofs.Common.{[], arith}
use Rattle.ms_base.proofs.machine.SumLemmas.{blocks_within}
use Rattle.ms_arena.proofs.BookLemmas.{books_small}
use Rattle.ms_arena.proofs.books.Books.kept_words.Goals as goal

pub total-requires : goal.total-requires
total-requires c = omega (
  arith,
  books_small _ _ _ c.self.invariant,
  c.self.invariant.used,
  blocks_within _ [] c.self.invariant.sound,
)

use Rattle.std.proofs.Common.{arith}
use Rattle.ms_arena.proofs.BookLemmas.{books_small}
use Rattle.ms_arena.proofs.books.Books.used.Goals as goal

pub returns-clause-small : goal.returns-clause-small
returns-clause-small c = omega (arith, books_small _ _ c.self.inside.used c.self.invariant)

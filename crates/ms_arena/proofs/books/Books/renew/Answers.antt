use Rattle.ms_arena.proofs.BookLemmas.{nothing_held}
use Rattle.ms_arena.proofs.books.Books.renew.Goals as goal

pub empty_out-requires : goal.empty_out-requires
empty_out-requires c = record { none = λ none. nothing_held _ _ _ c.self.invariant none }

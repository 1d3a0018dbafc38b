use Rattle.std.proofs.Common.{◌-◌, ℕ, ◌∙◌, ap}
use Rattle.ms_arena.proofs.BookLemmas.{current_known}
use Rattle.ms_arena.proofs.books.Books.current.Goals as goal

pub returns-clause-bounds : goal.returns-clause-bounds
returns-clause-bounds c =
    current_known _ _ _ c.in_ok-last.last c.index.result.now c.chunk.result c.self.invariant
    (c.in_ok-last.ensures.1 ∙ ap (λ (n : ℕ). n - 1) c.held.ensures.count) c.chunk.ensures c.index.ensures

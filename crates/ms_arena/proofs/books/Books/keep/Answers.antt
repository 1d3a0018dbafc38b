use Rattle.std.proofs.Common.{[], subst, sym}
use Rattle.ms_blocks.specs.FreeBlocks.{run_of}
use Rattle.ms_arena.specs.Books.{BooksView, Awaits}
use Rattle.ms_arena.proofs.BookLemmas.{awaited_below, may_be_kept, books_with_kept}
use Rattle.ms_arena.proofs.books.Books.keep.Goals as goal

pub add-requires-clause-words : goal.add-requires-clause-words
add-requires-clause-words c = c.requires.awaits.long

pub add-requires-clause-small : goal.add-requires-clause-small
add-requires-clause-small c =
    awaited_below _ _ _ (run_of c.args.block) c.self.invariant
    (subst (λ (books : BooksView). Awaits books.state [] (run_of c.args.block)) (sym c.self.view_is) c.requires.awaits)

pub add-requires-clause-apart : goal.add-requires-clause-apart
add-requires-clause-apart c =
    (may_be_kept _ _ _ (run_of c.args.block) c.self.invariant
    (subst (λ (books : BooksView). Awaits books.state [] (run_of c.args.block))
    (sym c.self.view_is) c.requires.awaits)).apart

pub invariant_of-self : goal.invariant_of-self
invariant_of-self c =
    books_with_kept _ _ _ (run_of c.args.block) _ c.self.invariant
    (subst (λ (books : BooksView). Awaits books.state [] (run_of c.args.block)) (sym c.self.view_is) c.requires.awaits)
    c.add.ensures.kept

use Rattle.std.proofs.Common.{Option, ℕ, ◌∙◌, sym, ap}
use Rattle.ms_base.specs.declared.span.Chunk.{Chunk}
use Rattle.ms_arena.specs.Books.{kept_retired}
use Rattle.ms_arena.proofs.books.retire.Goals as goal

pub returns-clause-kept : goal.returns-clause-kept
returns-clause-kept c =
    c.keep_rest.ensures.kept ∙ ap (λ (at : Option (Chunk × ℕ)). kept_retired c.args.kept.now.kept at) (sym c.in-Some.is)

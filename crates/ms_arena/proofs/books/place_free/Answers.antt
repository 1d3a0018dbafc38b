use Rattle.std.proofs.Common.{◌+◌, ◌-◌, ℕ, List, sym, ap, ◌∙◌, arith}
use Rattle.ms_base.specs.Place.{with_rest}
use Rattle.ms_arena.proofs.BookLemmas.{rest_may}
use Rattle.ms_arena.proofs.books.place_free.Goals as goal

pub keep_rest-requires-clause-may : goal.keep_rest-requires-clause-may
keep_rest-requires-clause-may c = λ some.
    rest_may _ _ _ _ c.in_ok-block.ensures.back (omega arith) (omega (arith, c.in_ok-block.ensures.best.enough)) some

pub returns-clause-placed : goal.returns-clause-placed
returns-clause-placed c = record {
  words = c.in_ok-block.block.words;
  fits = sym c.in_ok-block.ensures.answer;
  has = c.in_ok-block.ensures.best.is_kept;
  enough = c.in_ok-block.ensures.best.enough;
  after = c.keep_rest.ensures.kept
      ∙ ap (λ (kept : List (ℕ × ℕ)). with_rest kept (c.in_ok-block.block.start + c.args.n)
      (c.in_ok-block.block.words - c.args.n)) c.in_ok-block.ensures.taken;
}

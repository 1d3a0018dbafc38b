use Rattle.std.proofs.Common.{rules, ◌∙◌, Ok, refl, ap, arith, subst}
use Rattle.ms_base.specs.Place.{with_taken}
use Rattle.ms_pool.specs.Lending.{chunk_at}
use Rattle.ms_arena.specs.Books.{AwaitsBlock, BooksView, account_in}
use Rattle.ms_arena.proofs.ChunkLemmas.{size_small}
use Rattle.ms_arena.proofs.BookLemmas.{books_small}
use Rattle.ms_arena.proofs.BookTakeLemmas.{Taken, former_of, may_retire, taken_books, books_taken}
use Rattle.ms_arena.proofs.books.Books.take.Given.{Over}
use Rattle.ms_arena.proofs.books.Books.take.Goals as goal
use Rattle.ms_arena.proofs.books.Books.take.Goals.{After-push_reserved}

-- What the books are once the chunk's top is counted.
taken : (g : Over) (c : After-push_reserved g)
    → let f = c.self.inside in
    Taken (g.S.ChunkSource.limits c.args.source.now).policy
    (record { chunks = f.account.chunks; tops = f.tops.items; kept = f.kept.kept })
    (record {
      chunks = c.take.new.account.chunks;
      tops = c.push_reserved.new.self.items;
      kept = c.retire.new.kept.kept;
    }) c.in_ok-span.span c.args.n
taken g c =
    taken_books _ _ _ _ c.args.wanted c.args.most c.args.n c.current-former.result c.self.inside.account
    c.in_ok-span.span c.take.new.account
    c.retire.new.tops.items c.push_reserved.new.self.items c.retire.new.kept.kept c.self.invariant
    (former_of _ _ c.current-former.result c.self.view_is c.current-former.ensures.chunk c.current-former.ensures.top)
    refl refl c.in_ok-span.ensures.added c.in_ok-span.ensures.holds c.requires.may.some c.requires.may.fits
    c.retire.ensures.tops c.push_reserved.ensures.items c.retire.ensures.kept

pub retire-requires-clause-small : goal.retire-requires-clause-small
retire-requires-clause-small g c = omega (arith, books_small _ _ _ c.self.invariant)

pub retire-requires-clause-may : goal.retire-requires-clause-may
retire-requires-clause-may g c =
    may_retire _ _ _ c.current-former.result c.self.invariant
    (former_of _ _ c.current-former.result c.self.view_is c.current-former.ensures.chunk c.current-former.ensures.top)

pub overflow_add-self : goal.overflow_add-self
overflow_add-self g c =
    omega (
      arith,
      books_small _ _ _ c.self.invariant,
      c.retire.ensures.counted.few,
      c.requires.may.fits,
      size_small c.args.most,
    )

pub invariant_of-self-2 : goal.invariant_of-self-2
invariant_of-self-2 g c =
    books_taken _ _ _ _ _ c.retire.new.used _ c.args.n c.in_ok-span.span c.retire.new.tops.items c.self.invariant _
    c.in_ok-span.ensures.holds
    (taken g c) c.push_reserved.ensures.items c.retire.ensures.counted.used refl

pub returns-clause-taken : goal.returns-clause-taken
returns-clause-taken g c = record {
  span = c.in_ok-span.span;
  asked = subst
      (λ (books : BooksView). g.S.ChunkSource.took c.args.source.now (account_in books) c.args.wanted c.args.most
      c.args.n (Ok c.in_ok-span.span) c.take.new.self) c.self.view_is c.in_ok-span.ensures.took;
  starts = refl;
  state = (taken g c).state_is
      ∙ ap (λ (books : BooksView). with_taken books.state
      (chunk_at (g.S.ChunkSource.limits c.args.source.now).policy c.in_ok-span.span c.args.n) c.args.n) c.self.view_is;
}

pub returns-clause-leaves : goal.returns-clause-leaves
returns-clause-leaves g c = record {
  awaits = subst (λ (books : BooksView). AwaitsBlock books.state
      (record {
        chunks = c.take.new.account.chunks;
        tops = c.push_reserved.new.self.items;
        kept = c.retire.new.kept.kept;
      }) c.in_ok-span.span.start c.args.n) c.self.view_is (taken g c).awaits;
  chunks = c.in_ok-span.ensures.holds;
  room = search rules;
  owner = search rules;
  space = search rules;
  unchanged = tt;
}

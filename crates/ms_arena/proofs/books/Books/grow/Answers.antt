use Rattle.std.proofs.Common.{rules, Ok, ◌≡◌, ◌≤◌, ◌+◌, ◌-◌, ◌∙◌, refl, ap, arith, subst, sym, ℕ}
use Rattle.std.specs.Prelude.{slice_index}
use Rattle.ms_base.specs.Place.{current_top, with_top}
use Rattle.ms_pool.specs.Lending.{reaching}
use Rattle.ms_arena.specs.Alloc.{with_current}
use Rattle.ms_arena.specs.Books.{AwaitsBlock, BooksView, account_in}
use Rattle.ms_arena.proofs.ChunkLemmas.{has_its_start, last_there}
use Rattle.ms_arena.proofs.BookLemmas.{books_small}
use Rattle.ms_arena.proofs.BookGrowLemmas.{GrowsCurrent, current_in, grows_current, grown_awaits, books_grown}
use Rattle.ms_arena.proofs.BookGrowLemmas.{grown_view}
use Rattle.ms_arena.proofs.books.Books.grow.Given.{Over}
use Rattle.ms_arena.proofs.books.Books.grow.Goals as goal
use Rattle.ms_arena.proofs.books.Books.grow.Goals.{After-raise}

-- What the account is once its current chunk grew.
grown : (g : Over) (c : After-raise g)
    → let f = c.self.inside in
    GrowsCurrent (g.S.ChunkSource.limits c.args.source.now).policy
    (record { chunks = f.account.chunks; tops = f.tops.items; kept = f.kept.kept })
    c.args.chunk c.args.total (record { owner = f.account.owner; space = f.account.space; chunks = f.account.chunks })
    c.grow.new.account
grown g c =
    grows_current _ _ _ _ c.args.total c.args.chunk c.args.may_enlarge c.self.inside.account _ c.grow.new.account
    c.self.invariant
    (current_in _ _ c.args.chunk c.self.view_is c.requires.may.current_is) refl c.in_ok-grow.ensures.grown

pub grow-requires : goal.grow-requires
grow-requires g c = record {
  served = search rules;
  held = has_its_start c.self.inside.account.chunks _ c.args.chunk
      (current_in _ _ c.args.chunk c.self.view_is c.requires.may.current_is);
}

pub raise-requires-clause-within : goal.raise-requires-clause-within
raise-requires-clause-within g c =
    let there = last_there c.self.inside.account.chunks c.args.chunk
    (current_in _ _ c.args.chunk c.self.view_is c.requires.may.current_is) in
    omega (arith, there, c.self.invariant.each, c.held.ensures.count)

pub raise-requires-clause-higher : goal.raise-requires-clause-higher
raise-requires-clause-higher g c =
    let more =
    subst (λ (books : BooksView). current_top books.state + 2 ≤ c.args.total)
    (sym c.self.view_is) c.requires.may.more in
    omega (arith, more, ap (λ (h : ℕ). slice_index c.self.inside.tops.items (h - 1)) c.held.ensures.count)

pub raise-requires-clause-summed : goal.raise-requires-clause-summed
raise-requires-clause-summed g c = c.self.invariant.used

pub raise-requires-clause-fits : goal.raise-requires-clause-fits
raise-requires-clause-fits g c = omega (arith, books_small _ _ _ c.self.invariant, c.requires.may.small)

pub invariant_of-self-2 : goal.invariant_of-self-2
invariant_of-self-2 g c =
    let more =
    subst (λ (books : BooksView). current_top books.state + 2 ≤ c.args.total)
    (sym c.self.view_is) c.requires.may.more in
    books_grown _ _ _ _ c.args.total (c.held.result - 1) _ c.args.chunk c.self.inside.account c.grow.new.account
    c.raise.new.tops.items c.self.invariant (grown g c)
    c.in_ok-grow.ensures.holds more (ap (λ (h : ℕ). h - 1) c.held.ensures.count) c.raise.ensures.tops
    c.raise.ensures.counted.used

pub returns-clause-grown : goal.returns-clause-grown
returns-clause-grown g c = record {
  span = c.in_ok-grow.field-0;
  asked = subst
      (λ (books : BooksView). g.S.ChunkSource.grew c.args.source.now (account_in books) c.args.chunk.start c.args.total
      c.args.may_enlarge (Ok c.in_ok-grow.field-0) c.grow.new.self) c.self.view_is c.in_ok-grow.ensures.grew;
  state = grown_view _ _ c.args.total c.args.chunk _ _ c.grow.new.account c.raise.new.tops.items
      (c.held.result - 1) _ _ _ _ (grown g c) (ap (λ (h : ℕ). h - 1) c.held.ensures.count) c.raise.ensures.tops
      (omega (arith, c.raise.ensures.counted.capacity, c.raise.ensures.counted.len))
      ∙ ap (λ (books : BooksView).
      record books {
        state = with_top
            (with_current books.state (reaching (g.S.ChunkSource.limits c.args.source.now).policy c.args.chunk c.args.total))
            c.args.total;
      }) c.self.view_is;
}

pub returns-clause-awaits : goal.returns-clause-awaits
returns-clause-awaits g c = λ start n starts sum.
    subst (λ (books : BooksView). AwaitsBlock books.state
    (record {
      chunks = c.grow.new.account.chunks;
      tops = c.raise.new.tops.items;
      kept = c.self.inside.kept.kept;
    }) start n) c.self.view_is
    (grown_awaits _ _ _ _ c.args.total n (c.held.result - 1) start c.args.chunk c.self.inside.account c.grow.new.account
    c.raise.new.tops.items c.self.invariant (grown g c)
    c.in_ok-grow.ensures.holds
    (subst (λ (books : BooksView). c.args.total ≡ current_top books.state + n) (sym c.self.view_is) sum)
    (omega (arith, sum, c.requires.may.more))
    (subst (λ (books : BooksView). start ≡ c.args.chunk.start + current_top books.state) (sym c.self.view_is) starts)
    (ap (λ (h : ℕ). h - 1) c.held.ensures.count) c.raise.ensures.tops)

pub returns-clause-chunks : goal.returns-clause-chunks
returns-clause-chunks g c = c.in_ok-grow.ensures.holds

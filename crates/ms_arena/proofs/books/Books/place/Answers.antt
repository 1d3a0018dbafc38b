use Rattle.std.proofs.Common.{◌≤◌, ◌+◌, ◌-◌, ◌∙◌, ap, arith, subst, sym, ℕ}
use Rattle.std.specs.Prelude.{slice_index}
use Rattle.ms_base.specs.Place.{placed, tops_with}
use Rattle.ms_base.specs.State.{ArenaState}
use Rattle.ms_arena.specs.Kept.{KeptView}
use Rattle.ms_arena.specs.Books.{AwaitsBlock, BooksView}
use Rattle.ms_arena.proofs.BookLemmas.{books_small, free_awaits, kept_below, books_placed_free, top_awaits, books_placed_at_top}
use Rattle.ms_arena.proofs.BookLemmas.{placed_at_top, same_books}
use Rattle.ms_arena.proofs.ChunkLemmas.{last_there}
use Rattle.ms_arena.proofs.books.Books.place.Goals as goal

pub place_free-requires-clause-small : goal.place_free-requires-clause-small
place_free-requires-clause-small c = kept_below _ _ _ c.args.n c.self.invariant c.requires.some

pub invariant_of-self : goal.invariant_of-self
invariant_of-self c =
    books_placed_free _ _ _ c.args.n c.in-Some.start _ c.self.invariant c.in-Some.ensures.placed c.requires.some

pub returns-in-Some-clause-awaits : goal.returns-in-Some-clause-awaits
returns-in-Some-clause-awaits c =
    subst (λ (books : BooksView). AwaitsBlock books.state
    (record {
      chunks = c.self.inside.account.chunks;
      tops = c.self.inside.tops.items;
      kept = c.place_free.new.kept.kept;
    }) c.in-Some.start c.args.n) c.self.view_is
    (free_awaits _ _ _ c.args.n c.in-Some.start c.place_free.new.kept.kept c.self.invariant c.in-Some.ensures.placed
    c.requires.some)

pub returns-in-Some-clause-chunks : goal.returns-in-Some-clause-chunks
returns-in-Some-clause-chunks c = c.self.invariant.chunks

pub overflow_sub-last : goal.overflow_sub-last
overflow_sub-last c =
    let there = last_there c.self.inside.account.chunks c.in_ok-chunk.chunk (sym c.in_ok-chunk.ensures.chunk) in
    omega (arith, there, c.held.ensures.count)

pub raise-requires-clause-within : goal.raise-requires-clause-within
raise-requires-clause-within c =
    let there = last_there c.self.inside.account.chunks c.in_ok-chunk.chunk (sym c.in_ok-chunk.ensures.chunk) in
    omega (arith, there, c.self.invariant.each, c.held.ensures.count)

pub raise-requires-clause-higher : goal.raise-requires-clause-higher
raise-requires-clause-higher c =
    let last = ap (λ (h : ℕ). slice_index c.self.inside.tops.items (h - 1)) c.held.ensures.count in
    omega (arith, c.in_ok-chunk.ensures.top, last)

pub raise-requires-clause-summed : goal.raise-requires-clause-summed
raise-requires-clause-summed c = c.self.invariant.used

pub raise-requires-clause-fits : goal.raise-requires-clause-fits
raise-requires-clause-fits c =
    let small = books_small _ _ _ c.self.invariant in
    let bounds = c.in_ok-chunk.ensures.bounds in
    omega (arith, small, bounds.within, bounds.front, bounds.ends, c.requires.fits)

pub invariant_of-self-3 : goal.invariant_of-self-3
invariant_of-self-3 c =
    books_placed_at_top _ _ _ c.args.n (c.held.result - 1) _ c.in_ok-chunk.chunk _
    (same_books _ _ _ _ _ c.place_free.new.kept c.in_default.ensures.unchanged c.self.invariant)
    (sym c.in_ok-chunk.ensures.chunk)
    (subst (λ (t : ℕ). t + c.args.n ≤ c.in_ok-chunk.chunk.front) c.in_ok-chunk.ensures.top c.if-top-n.false) c.requires.some
    (ap (λ (h : ℕ). h - 1) c.held.ensures.count)
    (c.raise.ensures.tops
    ∙ ap (λ (t : ℕ). tops_with c.self.inside.tops.items (c.held.result - 1) (t + c.args.n))
    c.in_ok-chunk.ensures.top)
    c.raise.ensures.counted.used

pub returns-clause-awaits : goal.returns-clause-awaits
returns-clause-awaits c =
    subst (λ (books : BooksView). AwaitsBlock books.state after (c.in_ok-chunk.chunk.start + c.in_ok-chunk.top) c.args.n)
    c.self.view_is
    (subst (λ (k : KeptView). AwaitsBlock (before k) after (c.in_ok-chunk.chunk.start + c.in_ok-chunk.top) c.args.n)
    c.in_default.ensures.unchanged
    (subst (λ (t : ℕ). AwaitsBlock (before c.place_free.new.kept) after (c.in_ok-chunk.chunk.start + t) c.args.n)
    (sym c.in_ok-chunk.ensures.top)
    (top_awaits _ _ _ c.args.n (c.held.result - 1) c.in_ok-chunk.chunk _
    (same_books _ _ _ _ _ c.place_free.new.kept c.in_default.ensures.unchanged c.self.invariant)
    (sym c.in_ok-chunk.ensures.chunk)
    (subst (λ (t : ℕ). t + c.args.n ≤ c.in_ok-chunk.chunk.front) c.in_ok-chunk.ensures.top c.if-top-n.false) c.requires.some
    (ap (λ (h : ℕ). h - 1) c.held.ensures.count)
    (c.raise.ensures.tops
    ∙ ap (λ (t : ℕ). tops_with c.self.inside.tops.items (c.held.result - 1) (t + c.args.n))
    c.in_ok-chunk.ensures.top))))
  where
    before : KeptView → ArenaState
    before k = record { chunks = c.self.inside.account.chunks; tops = c.self.inside.tops.items; kept = k.kept }

    after : ArenaState
    after = record {
      chunks = c.self.inside.account.chunks;
      tops = c.raise.new.tops.items;
      kept = c.place_free.new.kept.kept;
    }

pub returns-clause-chunks : goal.returns-clause-chunks
returns-clause-chunks c = c.self.invariant.chunks

pub returns-clause-placed : goal.returns-clause-placed
returns-clause-placed c =
    sym (ap (λ (books : BooksView). placed books.state c.args.n) c.self.view_is)
    ∙ placed_at_top _ c.args.n (c.held.result - 1) c.in_ok-chunk.top c.in_ok-chunk.chunk c.raise.new.tops.items _
    c.in_default.ensures.none (sym c.in_ok-chunk.ensures.chunk) c.in_ok-chunk.ensures.top
    (subst (λ (t : ℕ). t + c.args.n ≤ c.in_ok-chunk.chunk.front) c.in_ok-chunk.ensures.top c.if-top-n.false)
    (ap (λ (h : ℕ). h - 1) c.held.ensures.count) c.raise.ensures.tops
    (ap (λ (kept : KeptView). kept.kept) c.in_default.ensures.unchanged)

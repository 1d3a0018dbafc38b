-- What a raw arena gains by a block that was placed. The functions of `raw` use these.
use Rattle.std.proofs.Common.{◌≡◌, ◌≤◌, ◌+◌, ◌%◌, ◌^◌, ℕ, refl, sym, ap, ◌∙◌, subst}
use Rattle.ms_base.specs.declared.kind.Kind.{Kind}
use Rattle.ms_base.specs.declared.span.Block.{Block}
use Rattle.ms_base.specs.State.{ArenaState}
use Rattle.ms_pool.specs.Account.{AreChunks}
use Rattle.ms_arena.specs.Arena.{block_at}
use Rattle.ms_arena.specs.Books.{BooksView, AwaitsBlock, IsSameBooks}
use Rattle.ms_arena.specs.Raw.{Gains, raw_over}
use Rattle.ms_arena.specs.Words.{WordsView, StayWords, Opens}

-- Words that were opened once room was made.
opened : (old made new : WordsView) (start end : ℕ) → StayWords old made → Opens made start end new
    → Opens old start end new
opened old made new start end stay opens = record {
  zero = opens.zero;
  here = opens.here;
  there = λ word there. opens.there word (rw (stay.positions word) there);
  before = λ word low. opens.before word low ∙ stay.values word;
  after = λ word high. opens.after word high ∙ stay.values word;
}

-- The whole of it.
pub gained : (old made new : BooksView) (kind : Kind) (count total more sum : ℕ) (words room opened_words : WordsView)
    (block : Block) (start n : ℕ)
    → 2 ≤ n → IsSameBooks old made → StayWords words room → AwaitsBlock made.state new.state start n
    → AreChunks new.space new.state.chunks → Opens room start (start + n) opened_words → more ≡ count + 1
    → sum ≡ (total + n) % 2 ^ 64 → block ≡ block_at start n → new.owner ≡ made.owner → new.space ≡ made.space
    → Gains (raw_over old kind count total words) block (raw_over new kind more sum opened_words)
gained old made new kind count total more sum words room opened_words block start n long same stay awaits chunks opens
    counted summed is owner space =
    subst (λ (b : Block). Gains (raw_over old kind count total words) b (raw_over new kind more sum opened_words)) (sym is)
    (record {
      long = long;
      awaits = subst (λ (state : ArenaState). AwaitsBlock state new.state start n)
          (ap (λ (books : BooksView). books.state) same.rest) awaits;
      chunks = chunks;
      opens = opened words room opened_words start (start + n) stay opens;
      count = counted;
      total = summed;
      owner = owner ∙ ap (λ (books : BooksView). books.owner) same.rest;
      space = space ∙ ap (λ (books : BooksView). books.space) same.rest;
      kind = refl;
    })

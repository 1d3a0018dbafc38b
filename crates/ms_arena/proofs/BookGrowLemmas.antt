-- Books stay books where the current chunk grows, and a block at its top then awaits its words.
-- For `Books::grow`.
use Rattle.std.proofs.Common.{◌≡◌, ◌≤◌, ◌<◌, ◌+◌, ◌-◌, ℕ, Bool, Some, List, []}
use Rattle.std.proofs.Common.{length, refl, sym, ap, ◌∙◌, subst, arith, length-set, sum}
use Rattle.std.specs.Prelude.{slice_get, slice_set}
use Rattle.ms_base.specs.declared.kind.Space.{Space}
use Rattle.ms_base.specs.declared.policy.Policy.{Policy}
use Rattle.ms_base.specs.declared.span.Chunk.{Chunk}
use Rattle.ms_base.specs.declared.span.Span.{Span}
use Rattle.ms_base.specs.Level.{size_of}
use Rattle.ms_base.specs.State.{ArenaState}
use Rattle.ms_base.specs.Place.{current, current_top, last_index, tops_with, with_top}
use Rattle.ms_base.proofs.arena.RaisedLemmas.{index_within}
use Rattle.ms_pool.specs.Account.{AccountState, AreChunks}
use Rattle.ms_pool.specs.Lending.{Grows, MayBeParent, reaching}
use Rattle.ms_arena.specs.Alloc.{with_current}
use Rattle.ms_arena.specs.Books.{BooksView, AreBooks, Awaits, AwaitsBlock}
use Rattle.ms_arena.proofs.ChunkLemmas.{Reaches, bounded_at, one_index, reaches}
use Rattle.ms_arena.proofs.AwaitLemmas.{awaits_in_grown}
use Rattle.ms_arena.proofs.BookLemmas.{awaits_block, length_raised}

-- The account's chunks once the current one grew.
pub record GrowsCurrent (policy : Policy) (state : ArenaState) (chunk : Chunk) (total : ℕ)
    (old new : AccountState) : Type 0 where
  pub found : current state ≡ Some chunk
  pub after : new ≡ record old { chunks = slice_set state.chunks (last_index state) (reaching policy chunk total) }
  pub reach : Reaches chunk (reaching policy chunk total) total

pub grows_current : (policy : Policy) (space : Space) (state : ArenaState) (counted total : ℕ) (chunk : Chunk)
    (may : Bool) (old : AccountState) (span : Span) (new : AccountState)
    → AreBooks space state counted → current state ≡ Some chunk → old.chunks ≡ state.chunks
    → Grows policy chunk.start total may old span new
    → GrowsCurrent policy state chunk total old new
grows_current policy space state counted total chunk may old span new books found chunks grows = record {
  found = found;
  after = grows.after
      ∙ ap (λ (l : List Chunk). record old { chunks = slice_set l grows.index (reaching policy grows.chunk total) })
      chunks
      ∙ ap (λ (p : ℕ). record old { chunks = slice_set state.chunks p (reaching policy grows.chunk total) }) index
      ∙ ap (λ (c : Chunk). record old { chunks = slice_set state.chunks (last_index state) (reaching policy c total) })
      same;
  reach = reaches policy chunk total may (bounded_at space state.chunks (last_index state) chunk books.chunks found)
      (subst (λ (c : Chunk). size_of c.level < total → MayBeParent c total may) same grows.enlarged);
}
  where
    here : slice_get state.chunks grows.index ≡ Some grows.chunk
    here = ap (λ (l : List Chunk). slice_get l grows.index) (sym chunks) ∙ grows.found

    index : grows.index ≡ last_index state
    index = one_index state.chunks grows.index (last_index state) grows.chunk chunk books.chunks.apart here found
        grows.starts

    same : grows.chunk ≡ chunk
    same = let both = sym here ∙ ap (slice_get state.chunks) index ∙ found in cc

-- What is current by the view of books is so by their parts.
pub current_in : (books now : BooksView) (chunk : Chunk) → books ≡ now → current now.state ≡ Some chunk
    → current books.state ≡ Some chunk
current_in books now chunk same found = ap (λ (b : BooksView). current b.state) same ∙ found

-- A block at its top.
pub grown_awaits : (policy : Policy) (space : Space) (state : ArenaState) (counted total n index start : ℕ)
    (chunk : Chunk) (old new : AccountState) (tops : List ℕ)
    → AreBooks space state counted → GrowsCurrent policy state chunk total old new → AreChunks new.space new.chunks
    → total ≡ current_top state + n → 2 ≤ n → start ≡ chunk.start + current_top state → index ≡ last_index state
    → tops ≡ tops_with state.tops index total
    → AwaitsBlock state (record { chunks = new.chunks; tops = tops; kept = state.kept }) start n
grown_awaits policy space state counted total n index start chunk old new tops books grows are sum long starts last is =
    awaits_block new.space state after start n books.sound are (λ live sound.
    subst (λ (s : ArenaState). Awaits s live (start, n)) (sym same)
    (awaits_in_grown new.space state live chunk (reaching policy chunk total) n total start
    (subst (AreChunks new.space) chunks are)
    grows.found grows.reach.start grows.reach.higher grows.reach.reaches sum long starts sound))
  where
    after : ArenaState
    after = record { chunks = new.chunks; tops = tops; kept = state.kept }

    chunks : new.chunks ≡ slice_set state.chunks (last_index state) (reaching policy chunk total)
    chunks = ap (λ (a : AccountState). a.chunks) grows.after

    index_is : index ≡ last_index (with_current state (reaching policy chunk total))
    index_is = omega (arith, last, length-set state.chunks (last_index state) (reaching policy chunk total))

    same : ◌≡◌ {A = ArenaState} (record { chunks = new.chunks; tops = tops; kept = state.kept })
        (with_top (with_current state (reaching policy chunk total)) total)
    same = ap (λ (l : List ℕ). let s : ArenaState = record { chunks = new.chunks; tops = l; kept = state.kept } in s)
        (is ∙ ap (λ (p : ℕ). tops_with state.tops p total) index_is)
        ∙ ap (λ (l : List Chunk).
        let s : ArenaState =
        record {
          chunks = l;
          tops = tops_with state.tops (last_index (with_current state (reaching policy chunk total))) total;
          kept =
              state.kept;
        } in s) chunks

pub books_grown : (policy : Policy) (space : Space) (state : ArenaState) (counted total index now : ℕ) (chunk : Chunk)
    (old new : AccountState) (tops : List ℕ)
    → AreBooks space state counted → GrowsCurrent policy state chunk total old new → AreChunks new.space new.chunks
    → current_top state + 2 ≤ total → index ≡ last_index state → tops ≡ tops_with state.tops index total
    → now ≡ sum tops
    → AreBooks new.space (record { chunks = new.chunks; tops = tops; kept = state.kept }) now
books_grown policy space state counted total index now chunk old new tops books grows are more last is summed = record {
  chunks = are;
  each = ap length is
      ∙ length_raised state.tops index total
      (omega (arith, index_within state.chunks (last_index state) chunk grows.found, last, books.each))
      ∙ books.each ∙ sym (length-set state.chunks (last_index state) (reaching policy chunk total))
      ∙ sym (ap (λ (a : AccountState). length a.chunks) grows.after);
  used = summed;
  sound = ((grown_awaits policy space state counted total (total - current_top state) index
      (chunk.start + current_top state) chunk old new tops books grows are
      (omega (arith, more)) (omega (arith, more)) refl last is).each [] books.sound).sound;
}

-- A view of books, with its parts.
pub grown_view : (policy : Policy) (state : ArenaState) (total : ℕ) (chunk : Chunk) (owner : ℕ) (space : Space)
    (new : AccountState) (tops : List ℕ) (index room came spare_tops spare_tops' : ℕ)
    → GrowsCurrent policy state chunk total (record { owner = owner; space = space; chunks = state.chunks }) new
    → index ≡ last_index state
    → tops ≡ tops_with state.tops index total → spare_tops' ≡ spare_tops
    → ◌≡◌ {A = BooksView}
    (record {
      owner = new.owner;
      space = new.space;
      state = record { chunks = new.chunks; tops = tops; kept = state.kept };
      room = room;
      came = came;
      spare_tops = spare_tops';
    })
    (record {
      owner = owner;
      space = space;
      state = with_top (with_current state (reaching policy chunk total)) total;
      room = room;
      came = came;
      spare_tops = spare_tops;
    })
grown_view policy state total chunk owner space new tops index room came spare_tops spare_tops' grows last is same =
    ap (λ (a : AccountState).
    let v : BooksView =
    record {
      owner = a.owner;
      space = a.space;
      state = record { chunks = a.chunks; tops = tops; kept = state.kept };
      room = room;
      came = came;
      spare_tops = spare_tops';
    } in v) grows.after
    ∙ ap (λ (l : List ℕ).
    let v : BooksView =
    record {
      owner = owner;
      space = space;
      state = record {
        chunks = slice_set state.chunks (last_index state) (reaching policy chunk total);
        tops = l;
        kept = state.kept;
      };
      room = room;
      came = came;
      spare_tops = spare_tops';
    } in v)
    (is ∙ ap (λ (p : ℕ). tops_with state.tops p total)
    (omega (arith, last, length-set state.chunks (last_index state) (reaching policy chunk total))))
    ∙ ap (λ (n : ℕ).
    let v : BooksView =
    record {
      owner = owner;
      space = space;
      state = with_top (with_current state (reaching policy chunk total)) total;
      room = room;
      came = came;
      spare_tops = n;
    } in v) same

-- Books stay books at each step, and what a step places awaits its block. The functions of `books`
-- use these.
use Rattle.std.proofs.Common.{◌≡◌, ◌≤◌, ◌<◌, ◌+◌, ◌-◌, ◌^◌, ℕ, zero, suc, Bool, Option, Some, None, List, [], ◌∷◌}
use Rattle.std.proofs.Common.{length, refl, sym, ap, ◌∙◌, subst, arith, sum, true}
use Rattle.std.specs.Prelude.{if◌then◌else◌, slice_get, slice_index, slice_index_or, slice_set}
use Rattle.std.specs.List.{list_all, list_any, zip}
use Rattle.std.proofs.lemmas.Bool.{and_parts, false≢true, le-leb}
use Rattle.std.proofs.lemmas.Grind.{get_or_default_zero}
use Rattle.ms_base.specs.declared.kind.Space.{Space}
use Rattle.ms_base.specs.declared.span.Chunk.{Chunk}
use Rattle.ms_base.specs.Names.{named, with_new}
use Rattle.ms_base.specs.State.{ArenaState}
use Rattle.ms_base.specs.Good.{IsSound, is_in_use}
use Rattle.ms_base.specs.Interval.{lies_in}
use Rattle.ms_base.specs.Place.{current, current_top, last_index, tops_with, with_top}
use Rattle.ms_base.specs.Place.{best_fit, placed, placed_in, place_at_top}
use Rattle.ms_base.proofs.arena.KeptLemmas.{sound_with_kept}
use Rattle.ms_base.proofs.arena.RaisedLemmas.{top_within, index_within}
use Rattle.ms_blocks.specs.FreeBlocks.{MayBeKept}
use Rattle.ms_pool.specs.Account.{AreChunks}
use Rattle.ms_arena.specs.Kept.{KeptView}
use Rattle.ms_arena.specs.Books.{AreBooks, Awaits, AwaitsBlock, IsCurrent, PlacesFree}
use Rattle.ms_arena.proofs.ChunkLemmas.{bounded_at, used_small, in_use_below}
use Rattle.ms_arena.proofs.AwaitLemmas.{awaits_at_top, awaits_in_free}
use Rattle.ms_arena.proofs.AwaitLemmas.{fits_from}
use Rattle.ms_base.proofs.arena.FreeBlockLemmas.{part_clear}

-- The words in use are few, and the current chunk has its bounds.
pub books_small : (space : Space) (state : ArenaState) (counted : ℕ) → AreBooks space state counted → counted < 2 ^ 51
books_small space state counted books = omega (arith, used_small space state [] books.chunks books.sound, books.used)

pub current_bounded : (space : Space) (state : ArenaState) (counted top : ℕ) (chunk : Chunk)
    → AreBooks space state counted
    → current state ≡ Some chunk → top ≡ current_top state → IsCurrent chunk top
current_bounded space state counted top chunk books found is =
    let bounds = bounded_at space state.chunks (last_index state) chunk books.chunks found in
    record {
      within = omega (arith, is, top_within state.chunks state.tops (last_index state) chunk found books.sound.tops);
      front = bounds.front;
      ends = bounds.ends;
    }

pub current_known : (space : Space) (state : ArenaState) (counted last top : ℕ) (chunk : Chunk)
    → AreBooks space state counted
    → last ≡ length state.chunks - 1 → slice_get state.chunks last ≡ Some chunk
    → top ≡ slice_index_or state.tops last top → IsCurrent chunk top
current_known space state counted last top chunk books is found read =
    current_bounded space state counted top chunk books
    (subst (λ (p : ℕ). slice_get state.chunks p ≡ Some chunk) is found)
    (read ∙ get_or_default_zero state.tops last top
    (omega (arith, books.each, index_within state.chunks last chunk found)) ∙ ap (slice_index state.tops) is)

-- A freed block's words may be kept, and then are.
pub may_be_kept : (space : Space) (state : ArenaState) (counted : ℕ) (run : ℕ × ℕ) → AreBooks space state counted
    → Awaits state [] run
    → MayBeKept state.kept run
may_be_kept space state counted run books awaits = record {
  some = awaits.long;
  apart = awaits.clear;
}

pub awaited_below : (space : Space) (state : ArenaState) (counted : ℕ) (run : ℕ × ℕ) → AreBooks space state counted
    → Awaits state [] run → run.0 + run.1 < 2 ^ 32
awaited_below space state counted run books awaits =
    omega (arith, in_use_below space state [] run books.chunks books.sound awaits.used)

pub books_with_kept : (space : Space) (state : ArenaState) (counted : ℕ) (run : ℕ × ℕ) (kept : List (ℕ × ℕ))
    → AreBooks space state counted
    → Awaits state [] run → kept ≡ with_new state.kept run.0 run.1
    → AreBooks space (record state { kept = kept }) counted
books_with_kept space state counted run kept books awaits is = record {
  chunks = books.chunks;
  each = books.each;
  used = books.used;
  sound = subst (λ (l : List (ℕ × ℕ)). IsSound (record state { kept = l }) []) (sym is)
      (sound_with_kept state [] run (fits_from state [] run awaits) books.sound);
}

-- What awaits its block ends below 2 ^ 27.
pub awaits_block : (space : Space) (old new : ArenaState) (start n : ℕ) → IsSound old [] → AreChunks space new.chunks
    → ((live : List (ℕ × ℕ)) → IsSound old live → Awaits new live (start, n)) → AwaitsBlock old new start n
awaits_block space old new start n sound chunks each =
    record { each = each; ends = in_use_below space new [] (start, n) chunks here.sound here.used }
  where
    here : Awaits new [] (start, n)
    here = each [] sound

-- A block in a free block.
pub free_awaits : (space : Space) (state : ArenaState) (counted n start : ℕ) (kept : List (ℕ × ℕ))
    → AreBooks space state counted
    → PlacesFree state.kept n start kept → 2 ≤ n → AwaitsBlock state (record state { kept = kept }) start n
free_awaits space state counted n start kept books placing long =
    awaits_block space state (record state { kept = kept }) start n books.sound books.chunks (λ live sound.
    subst (λ (l : List (ℕ × ℕ)). Awaits (record state { kept = l }) live (start, n)) (sym placing.after)
    (awaits_in_free state live (start, placing.words) n placing.has long placing.enough sound))

-- A free block's words end as low as those of a block that is placed in it.
pub kept_below : (space : Space) (state : ArenaState) (counted n : ℕ) → AreBooks space state counted → 2 ≤ n
    → (start words : ℕ) → named state.kept start ≡ Some words → n ≤ words → start + words < 2 ^ 32
kept_below space state counted n books long start words has enough =
    let whole = awaits_in_free state [] (start, words) words has (omega (arith, long, enough)) (omega (arith)) books.sound in
    omega (arith, in_use_below space _ [] (start, words) books.chunks whole.sound whole.used)

pub books_placed_free : (space : Space) (state : ArenaState) (counted n start : ℕ) (kept : List (ℕ × ℕ))
    → AreBooks space state counted
    → PlacesFree state.kept n start kept → 2 ≤ n → AreBooks space (record state { kept = kept }) counted
books_placed_free space state counted n start kept books placing long =
    record {
      chunks = books.chunks;
      each = books.each;
      used = books.used;
      sound = ((free_awaits space state counted n start kept books placing long).each [] books.sound).sound;
    }

-- A top of each chunk still.
pub length_raised : (tops : List ℕ) (index top : ℕ) → index < length tops → length (tops_with tops index top) ≡ length tops
length_raised [] index top h = absurd (omega arith)
length_raised (t ∷ tops) zero top h = refl
length_raised (t ∷ tops) (suc index) top h = ap (λ (n : ℕ). suc n) (length_raised tops index top (omega arith))

pub tops_set : (tops : List ℕ) (index top : ℕ) → index < length tops
    → slice_set tops index top ≡ tops_with tops index top
tops_set [] index top h = absurd (omega arith)
tops_set (t ∷ tops) zero top h = refl
tops_set (t ∷ tops) (suc index) top h = ap (λ (l : List ℕ). t ∷ l) (tops_set tops index top (omega arith))

-- A block at the current chunk's top.
pub top_awaits : (space : Space) (state : ArenaState) (counted n index : ℕ) (chunk : Chunk) (tops : List ℕ)
    → AreBooks space state counted
    → current state ≡ Some chunk → current_top state + n ≤ chunk.front → 2 ≤ n → index ≡ last_index state
    → tops ≡ tops_with state.tops index (current_top state + n)
    → AwaitsBlock state (record state { tops = tops }) (chunk.start + current_top state) n
top_awaits space state counted n index chunk tops books found within long last is =
    awaits_block space state (record state { tops = tops }) start n books.sound books.chunks (λ live sound.
    subst (λ (l : List ℕ). Awaits (record state { tops = l }) live (start, n))
    (sym (is ∙ ap (λ (p : ℕ). tops_with state.tops p (current_top state + n)) last))
    (awaits_at_top space state live (last_index state) n (current_top state + n) start chunk
    books.chunks found refl within long refl sound))
  where
    start : ℕ
    start = chunk.start + current_top state

pub books_placed_at_top : (space : Space) (state : ArenaState) (counted n index now : ℕ) (chunk : Chunk) (tops : List ℕ)
    → AreBooks space state counted
    → current state ≡ Some chunk → current_top state + n ≤ chunk.front → 2 ≤ n → index ≡ last_index state
    → tops ≡ tops_with state.tops index (current_top state + n) → now ≡ sum tops
    → AreBooks space (record state { tops = tops }) now
books_placed_at_top space state counted n index now chunk tops books found within long last is summed = record {
  chunks = books.chunks;
  each = ap length is
      ∙ length_raised state.tops index (current_top state + n)
      (omega (arith, index_within state.chunks (last_index state) chunk found, last, books.each)) ∙ books.each;
  used = summed;
  sound = ((top_awaits space state counted n index chunk tops books found within long last is).each [] books.sound).sound;
}

-- So it is placed there where no free block fits.
pub placed_at_top : (state : ArenaState) (n index top : ℕ) (chunk : Chunk) (tops : List ℕ) (kept : List (ℕ × ℕ))
    → best_fit state.kept n ≡ None → current state ≡ Some chunk → top ≡ current_top state
    → current_top state + n ≤ chunk.front → index ≡ last_index state → tops ≡ tops_with state.tops index (top + n)
    → kept ≡ state.kept
    → placed state n ≡ Some (chunk.start + top, record { chunks = state.chunks; tops = tops; kept = kept })
placed_at_top state n index top chunk tops kept none found top_is within last is same =
    ap (λ (run : Option (ℕ × ℕ)). placed_in state run n) none
    ∙ ap (λ (one : Option Chunk). place_at_top state one n) found
    ∙ ap (λ (fits : Bool). if fits then Some (chunk.start + current_top state, after) else None)
    (le-leb (current_top state + n) chunk.front within)
    ∙ ap (λ (t : ℕ). Some (chunk.start + t, after)) (sym top_is)
    ∙ ap (λ (s : ArenaState). Some (chunk.start + top, s)) (sym same_state)
  where
    after : ArenaState
    after = with_top state (current_top state + n)

    same_state : ◌≡◌ {A = ArenaState} (record { chunks = state.chunks; tops = tops; kept = kept }) after
    same_state = λ i. record {
      chunks = state.chunks;
      tops = (is ∙ ap (λ (p : ℕ). tops_with state.tops p (top + n)) last
          ∙ ap (λ (t : ℕ). tops_with state.tops (last_index state) (t + n)) top_is) i;
      kept = same i;
    }

pub rest_may : (kept : List (ℕ × ℕ)) (run : ℕ × ℕ) (start words : ℕ) → MayBeKept kept run → run.0 ≤ start
    → start + words ≤ run.0 + run.1
    → 2 ≤ words → MayBeKept kept (start, words)
rest_may kept run start words may low high some = record {
  some = some;
  apart = part_clear run (start, words) kept low high may.apart;
}

-- Books with free blocks that are the same.
pub same_books : (space : Space) (chunks : List Chunk) (tops : List ℕ) (counted : ℕ) (old new : KeptView) → new ≡ old
    → AreBooks space (record { chunks = chunks; tops = tops; kept = old.kept }) counted
    → AreBooks space (record { chunks = chunks; tops = tops; kept = new.kept }) counted
same_books space chunks tops counted old new same books =
    subst (λ (k : KeptView). AreBooks space (record { chunks = chunks; tops = tops; kept = k.kept }) counted)
    (sym same) books

-- Where no chunk is held, no word is in use, and no block is free.
pub nothing_held : (space : Space) (state : ArenaState) (counted : ℕ) → AreBooks space state counted → state.chunks ≡ []
    → (state.tops ≡ []) × (counted ≡ 0) × (state.kept ≡ [])
nothing_held space state counted are none =
    (no_tops, omega (arith, are.used, ap sum no_tops), none_free state.kept are.sound.inside)
  where
    of_none : (xs : List ℕ) → length xs ≡ 0 → xs ≡ []
    of_none [] e = refl
    of_none (x ∷ xs) e = absurd (omega (arith, e))

    no_tops : state.tops ≡ []
    no_tops = of_none state.tops (are.each ∙ ap length none)

    none_free : (kept : List (ℕ × ℕ)) → list_all (is_in_use state) kept ≡ true → kept ≡ []
    none_free [] all = refl
    none_free (run ∷ more) all = absurd
        (false≢true (sym (ap (λ chunks. list_any (λ (used : Chunk × ℕ). lies_in run (used.0.start, used.1)) (zip chunks state.tops)) none)
        ∙ (and_parts (is_in_use state run) (list_all (is_in_use state) more) all).0))

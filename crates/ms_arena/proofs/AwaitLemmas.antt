-- Words that await their block: at the start of a free block, at a top that rises, in a chunk that
-- grew and in one that was taken. The functions of `books` and `arena` use these.
use Rattle.std.proofs.Common.{◌≡◌, ◌≤◌, ◌+◌, ◌-◌, ℕ, zero, suc, Bool, true, ◌&&◌, ◌||◌, Option, Some, None, List, []}
use Rattle.std.proofs.Common.{◌∷◌, ◌++◌, length, map, refl, sym, ap, ◌∙◌, subst, arith, length-append, length-set}
use Rattle.std.specs.Prelude.{nat_le, slice_get, slice_index, slice_set}
use Rattle.std.specs.Option.{option_map}
use Rattle.std.specs.List.{AllByRecursion, list_any, list_all, zip}
use Rattle.std.proofs.lemmas.Bool.{and_parts, and_from, le-leb, leb-true}
use Rattle.std.proofs.lemmas.List.{length-map, get_or_past}
use Rattle.std.proofs.lemmas.List.Elements.{recursion_from_All, All-from_recursion}
use Rattle.std.proofs.lemmas.Option.{slice_get-map}
use Rattle.std.proofs.lemmas.Nat.{pow_pos}
use Rattle.ms_base.specs.declared.kind.Space.{Space}
use Rattle.ms_base.specs.declared.policy.Policy.TheVariants.{None as Never}
use Rattle.ms_base.specs.declared.span.Chunk.{Chunk}
use Rattle.ms_base.specs.Interval.{are_apart, lies_in}
use Rattle.ms_base.specs.Level.{size_of}
use Rattle.ms_base.specs.Front.{HasFront}
use Rattle.ms_base.specs.Held.{words_of}
use Rattle.ms_base.specs.Names.{named}
use Rattle.ms_base.specs.State.{ArenaState}
use Rattle.ms_base.specs.Good.{IsSound, is_in_use}
use Rattle.ms_base.specs.Place.{current, current_top, last_index, tops_with, with_top, with_chunk, with_taken}
use Rattle.ms_base.specs.Place.{with_used, retired, retired_chunk}
use Rattle.ms_base.proofs.granules.FrontLemmas.{has_front_for}
use Rattle.ms_base.proofs.runs.ApartLemmas.{apart-rest_of, list_all-rest_of}
use Rattle.ms_base.proofs.arena.KeptLemmas.{Fits, IsTakenOut, live_taken_out}
use Rattle.ms_base.proofs.arena.FreeBlockLemmas.{rest_is_sound, used_is_sound}
use Rattle.ms_base.proofs.arena.RaisedLemmas.{above_fits, raised_is_sound, top_within}
use Rattle.ms_base.proofs.arena.GrownLemmas.{grown_is_sound}
use Rattle.ms_pool.specs.Account.{AreChunks}
use Rattle.ms_arena.specs.Alloc.{with_current}
use Rattle.ms_arena.specs.Books.{Awaits}
use Rattle.ms_arena.proofs.ChunkLemmas.{HasWords}

-- Of an account the front's rule is not known. So what is proved of chunks whose fronts follow a
-- policy's is used for the same chunks with fronts that reach their ends, as under policy none.
abbrev whole : Chunk → Chunk
whole chunk = record chunk { front = size_of chunk.level }

abbrev wholes : ArenaState → ArenaState
wholes arena = record arena { chunks = map whole arena.chunks }

whole_fronts : (chunks : List Chunk) → AllByRecursion (HasFront Never) (map whole chunks)
whole_fronts [] = tt
whole_fronts (c ∷ chunks) =
    (has_front_for Never c.start c.level 1 (omega arith) (omega (arith, pow_pos (19 - c.level))), whole_fronts chunks)

whole_words : (chunks : List Chunk) → map words_of (map whole chunks) ≡ map words_of chunks
whole_words [] = refl
whole_words (c ∷ chunks) = ap (λ l. words_of c ∷ l) (whole_words chunks)

abbrev holds : ℕ × ℕ → Chunk × ℕ → Bool
holds run used = lies_in run (used.0.start, used.1)

abbrev is_within : Chunk × ℕ → Bool
is_within used = nat_le used.1 used.0.front

whole_use : (run : ℕ × ℕ) (chunks : List Chunk) (tops : List ℕ)
    → list_any (holds run) (zip (map whole chunks) tops) ≡ list_any (holds run) (zip chunks tops)
whole_use run [] tops = refl
whole_use run (c ∷ chunks) [] = refl
whole_use run (c ∷ chunks) (t ∷ tops) = ap (λ (b : Bool). holds run (c, t) || b) (whole_use run chunks tops)

whole_uses : (arena : ArenaState) (runs : List (ℕ × ℕ))
    → list_all (is_in_use (wholes arena)) runs ≡ list_all (is_in_use arena) runs
whole_uses arena [] = refl
whole_uses arena (run ∷ runs) =
    ap (λ (b : Bool). b && list_all (is_in_use (wholes arena)) runs) (whole_use run arena.chunks arena.tops)
    ∙ ap (λ (b : Bool). is_in_use arena run && b) (whole_uses arena runs)

whole_within : (chunks : List Chunk) (tops : List ℕ) → AllByRecursion HasWords chunks
    → list_all is_within (zip chunks tops) ≡ true
    → list_all is_within (zip (map whole chunks) tops) ≡ true
whole_within [] tops words h = refl
whole_within (c ∷ chunks) [] words h = refl
whole_within (c ∷ chunks) (t ∷ tops) words h =
    let both = and_parts (nat_le t c.front) (list_all is_within (zip chunks tops)) h in
    and_from (nat_le t (size_of c.level)) (list_all is_within (zip (map whole chunks) tops))
    (le-leb t (size_of c.level) (omega (arith, leb-true t c.front both.0, words.0.1)))
    (whole_within chunks tops words.1 both.1)

whole_is_sound : (space : Space) (arena : ArenaState) (live : List (ℕ × ℕ)) → AreChunks space arena.chunks
    → IsSound arena live
    → IsSound (wholes arena) live
whole_is_sound space arena live are sound = record {
  apart = sound.apart;
  long = sound.long;
  inside = whole_uses arena (live ++ arena.kept) ∙ sound.inside;
  few = omega (arith, sound.few, length-map arena.chunks whole);
  tops = whole_within arena.chunks arena.tops (recursion_from_All HasWords arena.chunks are.fronts) sound.tops;
  kept = sound.kept;
}

-- The words from a top on, once the top has risen over them.
pub above_top : (space : Space) (arena : ArenaState) (live : List (ℕ × ℕ)) (index n top : ℕ) (chunk : Chunk)
    → AreChunks space arena.chunks
    → slice_get arena.chunks index ≡ Some chunk → top ≡ slice_index arena.tops index + n → top ≤ chunk.front → 2 ≤ n
    → IsSound arena live
    → Fits (record arena { tops = tops_with arena.tops index top }) live (chunk.start + slice_index arena.tops index, n)
above_top space arena live index n top chunk are found is within long sound = record {
  clear = fits.clear;
  long = fits.long;
  used = sym (whole_use (chunk.start + slice_index arena.tops index, n) arena.chunks (tops_with arena.tops index top))
      ∙ fits.used;
}
  where
    front : chunk.front ≤ size_of chunk.level
    front = (word_at arena.chunks index chunk (recursion_from_All HasWords arena.chunks are.fronts) found).1
      where
        word_at : (chunks : List Chunk) (index : ℕ) (chunk : Chunk) → AllByRecursion HasWords chunks
            → slice_get chunks index ≡ Some chunk → HasWords chunk
        word_at [] index chunk all found = absurd (cc)
        word_at (c ∷ chunks) zero chunk all found = let its : c ≡ chunk = cc in subst HasWords its all.0
        word_at (c ∷ chunks) (suc index) chunk all found = word_at chunks index chunk all.1 found

    fits : Fits (record (wholes arena) { tops = tops_with arena.tops index top }) live
        (chunk.start + slice_index arena.tops index, n)
    fits =
        above_fits Never (wholes arena) live index n top (whole chunk)
        (All-from_recursion (HasFront Never) (map whole arena.chunks) (whole_fronts arena.chunks))
        (ap are_apart (whole_words arena.chunks) ∙ are.apart)
        (slice_get-map whole arena.chunks index ∙ ap (option_map whole) found) is (omega (arith, within, front))
        long
        (whole_is_sound space arena live are sound)

awaits_from : (arena : ArenaState) (live : List (ℕ × ℕ)) (run : ℕ × ℕ) → Fits arena live run → IsSound arena live
    → Awaits arena live run
awaits_from arena live run fits sound = record { sound = sound; clear = fits.clear; used = fits.used; long = fits.long }

pub fits_from : (arena : ArenaState) (live : List (ℕ × ℕ)) (run : ℕ × ℕ) → Awaits arena live run → Fits arena live run
fits_from arena live run awaits = record { clear = awaits.clear; used = awaits.used; long = awaits.long }

-- A block at a top.
pub awaits_at_top : (space : Space) (arena : ArenaState) (live : List (ℕ × ℕ)) (index n top start : ℕ) (chunk : Chunk)
    → AreChunks space arena.chunks
    → slice_get arena.chunks index ≡ Some chunk → top ≡ slice_index arena.tops index + n → top ≤ chunk.front → 2 ≤ n
    → start ≡ chunk.start + slice_index arena.tops index → IsSound arena live
    → Awaits (record arena { tops = tops_with arena.tops index top }) live (start, n)
awaits_at_top space arena live index n top start chunk are found is within long starts sound =
    let raised : ArenaState = record arena { tops = tops_with arena.tops index top } in
    subst (λ (s : ℕ). Awaits raised live (s, n)) (sym starts)
    (awaits_from raised live (chunk.start + slice_index arena.tops index, n)
    (above_top space arena live index n top chunk are found is within long sound)
    (raised_is_sound arena live index top chunk found (omega arith) within sound))

-- A block at the start of a free block.
pub awaits_in_free : (arena : ArenaState) (live : List (ℕ × ℕ)) (run : ℕ × ℕ) (n : ℕ)
    → named arena.kept run.0 ≡ Some run.1 → 2 ≤ n
    → n ≤ run.1 → IsSound arena live → Awaits (with_used arena run n) live (run.0, n)
awaits_in_free arena live run n has long within sound =
    let out : IsTakenOut (with_used arena run n) live (run.0, n) =
    live_taken_out (with_used arena run n) [] (run.0, n) live
    (used_is_sound arena [] live run n has long within sound) in
    awaits_from (with_used arena run n) live (run.0, n) out.fits out.sound

-- The current chunk retired: what is known of its committed rest, and that the arena stays sound.
pub rest_awaits : (space : Space) (arena : ArenaState) (live : List (ℕ × ℕ)) (chunk : Chunk)
    → AreChunks space arena.chunks → current arena ≡ Some chunk
    → 2 ≤ chunk.front - current_top arena → IsSound arena live
    → Fits (with_top arena chunk.front) live (chunk.start + current_top arena, chunk.front - current_top arena)
rest_awaits space arena live chunk are found some sound =
    let low = top_within arena.chunks arena.tops (last_index arena) chunk found sound.tops in
    above_top space arena live (last_index arena) (chunk.front - current_top arena) chunk.front chunk are found
    (omega (arith, low)) (omega arith) some sound

retired_one : (space : Space) (arena : ArenaState) (live : List (ℕ × ℕ)) (o : Option Chunk)
    → AreChunks space arena.chunks → current arena ≡ o
    → IsSound arena live → IsSound (retired_chunk arena o) live
retired_one space arena live None are found sound = sound
retired_one space arena live (Some chunk) are found sound =
    let low = top_within arena.chunks arena.tops (last_index arena) chunk found sound.tops in
    rest_is_sound (with_top arena chunk.front) live (chunk.start + current_top arena) (chunk.front - current_top arena)
    (λ some. rest_awaits space arena live chunk are found some sound)
    (raised_is_sound arena live (last_index arena) chunk.front chunk found low (omega arith) sound)

retired_chunks : (arena : ArenaState) (o : Option Chunk) → (retired_chunk arena o).chunks ≡ arena.chunks
retired_chunks arena None = refl
retired_chunks arena (Some chunk) = refl

-- A chunk more, which has no top.
no_top_more : (chunks : List Chunk) (tops : List ℕ) (chunk : Chunk) → length tops ≤ length chunks
    → zip (chunks ++ chunk ∷ []) tops ≡ zip chunks tops
no_top_more [] [] chunk few = refl
no_top_more [] (t ∷ tops) chunk few = absurd (omega arith)
no_top_more (c ∷ chunks) [] chunk few = refl
no_top_more (c ∷ chunks) (t ∷ tops) chunk few = ap (λ l. (c, t) ∷ l) (no_top_more chunks tops chunk (omega arith))

chunk_is_sound : (arena : ArenaState) (live : List (ℕ × ℕ)) (chunk : Chunk) → IsSound arena live
    → IsSound (with_chunk arena chunk) live
chunk_is_sound arena live chunk sound = record {
  apart = sound.apart;
  long = sound.long;
  inside = subst
      (λ (used : List (Chunk × ℕ)). list_all (λ (run : ℕ × ℕ). list_any (holds run) used) (live ++ arena.kept) ≡ true)
      (sym same) sound.inside;
  few = omega (arith, sound.few, length-append arena.chunks (chunk ∷ []));
  tops = ap (list_all is_within) same ∙ sound.tops;
  kept = sound.kept;
}
  where
    same : zip (arena.chunks ++ chunk ∷ []) arena.tops ≡ zip arena.chunks arena.tops
    same = no_top_more arena.chunks arena.tops chunk sound.few

last_of : {X : Type 0} (xs : List X) (x : X) (index : ℕ) → index ≡ length xs → slice_get (xs ++ x ∷ []) index ≡ Some x
last_of [] x zero is = refl
last_of [] x (suc index) is = absurd (omega arith)
last_of (y ∷ xs) x zero is = absurd (omega arith)
last_of (y ∷ xs) x (suc index) is = last_of xs x index (omega arith)

-- A block at the start of a chunk that was taken.
pub awaits_in_taken : (space : Space) (arena : ArenaState) (live : List (ℕ × ℕ)) (chunk : Chunk) (n : ℕ)
    → AreChunks space arena.chunks
    → AreChunks space (arena.chunks ++ chunk ∷ []) → 2 ≤ n → n ≤ chunk.front → IsSound arena live
    → Awaits (with_taken arena chunk n) live (chunk.start, n)
awaits_in_taken space arena live chunk n are more long within sound =
    awaits_at_top space (with_chunk former chunk) live (last_index (with_chunk former chunk)) n n chunk.start chunk
    (subst (λ (chunks : List Chunk). AreChunks space (chunks ++ chunk ∷ [])) (sym same) more)
    (last_of former.chunks chunk (last_index (with_chunk former chunk)) last)
    (omega (arith, none)) within long (omega (arith, none)) (chunk_is_sound former live chunk still)
  where
    former : ArenaState
    former = retired arena

    same : former.chunks ≡ arena.chunks
    same = retired_chunks arena (current arena)

    still : IsSound former live
    still = retired_one space arena live (current arena) are refl sound

    last : last_index (with_chunk former chunk) ≡ length former.chunks
    last = omega (arith, length-append former.chunks (chunk ∷ []))

    none : slice_index former.tops (last_index (with_chunk former chunk)) ≡ 0
    none = get_or_past former.tops (last_index (with_chunk former chunk)) 0 (omega (arith, last, still.few))

-- A block at the top of a chunk that grew.
set_there : {X : Type 0} (xs : List X) (index other : ℕ) (x y : X) → slice_get xs index ≡ Some x → other ≡ index
    → slice_get (slice_set xs index y) other ≡ Some y
set_there [] index other x y found is = absurd (cc)
set_there (z ∷ xs) zero zero x y found is = refl
set_there (z ∷ xs) zero (suc other) x y found is = absurd (omega arith)
set_there (z ∷ xs) (suc index) zero x y found is = absurd (omega arith)
set_there (z ∷ xs) (suc index) (suc other) x y found is = set_there xs index other x y found (omega arith)

pub awaits_in_grown : (space : Space) (arena : ArenaState) (live : List (ℕ × ℕ)) (was is : Chunk) (n total start : ℕ)
    → AreChunks space (with_current arena is).chunks
    → current arena ≡ Some was → is.start ≡ was.start → was.front ≤ is.front → total ≤ is.front
    → total ≡ current_top arena + n → 2 ≤ n
    → start ≡ was.start + current_top arena → IsSound arena live
    → Awaits (with_top (with_current arena is) total) live (start, n)
awaits_in_grown space arena live was is n total start are found same higher within sum long starts sound =
    awaits_at_top space (with_current arena is) live (last_index (with_current arena is)) n total start is are
    (set_there arena.chunks (last_index arena) (last_index (with_current arena is)) was is found last)
    (sum ∙ ap (λ (index : ℕ). slice_index arena.tops index + n) (sym last)) within long
    (starts ∙ ap (λ (s : ℕ). s + current_top arena) (sym same)
    ∙ ap (λ (index : ℕ). is.start + slice_index arena.tops index) (sym last))
    (grown_is_sound arena live (last_index arena) was is found same higher sound)
  where
    last : last_index (with_current arena is) ≡ last_index arena
    last = omega (arith, length-set arena.chunks (last_index arena) is)

-- With no live block a sound arena is sound too, and what awaits a block does.
pub sound_alone : (arena : ArenaState) (live : List (ℕ × ℕ)) → IsSound arena live → IsSound arena []
sound_alone arena live sound = record {
  apart = apart-rest_of [] live arena.kept sound.apart;
  long = list_all-rest_of (λ (run : ℕ × ℕ). nat_le 2 run.1) [] live arena.kept sound.long;
  inside = list_all-rest_of (is_in_use arena) [] live arena.kept sound.inside;
  few = sound.few;
  tops = sound.tops;
  kept = sound.kept;
}

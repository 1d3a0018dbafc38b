-- A worked example: the moments of a spread follow one another, each event as it may happen.
use Rattle.std.proofs.Common.{◌≡◌, ℕ, Option, Some, [], ◌∷◌, refl, ap, ◌∙◌, subst, arith}
use Rattle.ms_base.specs.declared.kind.Kind.TheVariants.{Standard}
use Rattle.ms_base.specs.declared.kind.Space.{Space}
use Rattle.ms_base.specs.declared.kind.Space.TheVariants.{NonClass, Class}
use Rattle.ms_base.specs.declared.step.Step.TheVariants.{Alloc, Unload}
use Rattle.ms_base.specs.declared.step.Reply.TheVariants.{Ok as Done, At}
use Rattle.ms_base.specs.Names.{named}
use Rattle.ms_base.specs.State.{LoaderState, arena_of, empty_loader}
use Rattle.ms_base.specs.Live.{runs_in}
use Rattle.ms_base.specs.Good.{IsSound, IsSoundLoader}
use Rattle.ms_base.specs.Run.Event.{acting, replied, Happens, emptied}
use Rattle.ms_base.specs.Run.Spread.{Follow}
use Rattle.ms_base.proofs.examples.StepExamples.{none_rise, one_rises}
use Rattle.ms_base.proofs.examples.SpreadExamples.{arena_with, chunk, full, with_its_chunk, with_its_block, two}
use Rattle.ms_base.proofs.examples.SpreadExamples.{at_the_end, moments, chunk_is_taken, loader_is_closed}

-- The loader that a machine has under a name is one.
abbrev pub some_loader : LoaderState → Option LoaderState
some_loader loader = Some loader

pub is_sound : (one : LoaderState) → IsSoundLoader one → (loader : LoaderState) → some_loader one ≡ some_loader loader
    → IsSoundLoader loader
is_sound one sound loader e = let same : one ≡ loader = cc in subst IsSoundLoader same sound

-- An emptied loader is sound, and so is one whose block lies at the start of its chunk.
emptied_arenas : (space : Space) → IsSound (arena_of space (emptied full)) (runs_in space [])
emptied_arenas NonClass =
    record { apart = refl; long = refl; inside = refl; few = omega arith; tops = refl; kept = none_rise }
emptied_arenas Class =
    record { apart = refl; long = refl; inside = refl; few = omega arith; tops = refl; kept = none_rise }

block_arenas : (space : Space) → IsSound (arena_of space with_its_block) (runs_in space with_its_block.blocks)
block_arenas NonClass =
    record { apart = refl; long = refl; inside = refl; few = omega arith; tops = refl; kept = none_rise }
block_arenas Class =
    record { apart = refl; long = refl; inside = refl; few = omega arith; tops = refl; kept = none_rise }

abbrev pub some_name : ℕ → Option ℕ
some_name name = Some name

is_emptied : Happens (two full (empty_loader Standard)) (acting (Unload 1)) (replied Done)
    (two (emptied full) (empty_loader Standard))
is_emptied = (
  record { loader = full; has = refl; after = refl },
  λ name loader its has.
      let mine : some_name 1 ≡ some_name name = its in
      let one : 1 ≡ name = cc in
      is_sound (emptied full) (record { arenas = emptied_arenas; names = none_rise }) loader
      (ap (named (two (emptied full) (empty_loader Standard)).loaders) one ∙ has),
)

block_is_placed : Happens (two (emptied full) with_its_chunk) (acting (Alloc 2 1 10)) (replied (At 512))
    (two (emptied full) with_its_block)
block_is_placed = (
  record {
    some = omega arith;
    fits = omega arith;
    before = with_its_chunk;
    with_it = with_its_block;
    has = refl;
    adds = record {
      arena = arena_with (chunk 512 10 512 ∷ []) (10 ∷ []);
      unused = refl;
      inside = refl;
      chunks = refl;
      after = refl;
    };
    after = refl;
  },
  λ name loader its has.
      let mine : some_name 2 ≡ some_name name = its in
      let one : 2 ≡ name = cc in
      is_sound with_its_block (record { arenas = block_arenas; names = one_rises 1 }) loader
      (ap (named (two (emptied full) with_its_block).loaders) one ∙ has),
)

-- So they are moments of one history.
follow : Follow (two full (empty_loader Standard)) moments at_the_end
follow = (refl, is_emptied, (refl, chunk_is_taken, (refl, block_is_placed, (refl, loader_is_closed, refl))))

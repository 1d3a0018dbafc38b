-- Worked examples: steps of the machine, with the good states between them.
use Rattle.std.proofs.Common.{ℕ, List, [], ◌∷◌, refl, inr, arith}
use Rattle.std.specs.Ordering.{nat_cmp}
use Rattle.std.proofs.lemmas.List.Elements.{All-from_recursion}
use Rattle.std.specs.List.Sorted.{IsStrictlyIncreasing, IsStrictlySortedBy}
use Rattle.std.proofs.lemmas.Map.Keys.{IsStrictlyIncreasing-from_sorted}
use Rattle.ms_base.specs.declared.span.Chunk.{Chunk}
use Rattle.ms_base.specs.declared.kind.Kind.TheVariants.{Standard}
use Rattle.ms_base.specs.declared.step.Step.TheVariants.{New, Alloc, Calloc, Read, Unload, Purge}
use Rattle.ms_base.specs.declared.step.Reply.TheVariants.{Ok as Done, At, Value, Refused}
use Rattle.ms_base.specs.declared.refusal.Refusal.TheVariants.{ZeroWords, TooLarge, OutOfRange, LoaderExists}
use Rattle.ms_base.specs.declared.refusal.Refusal.TheVariants.{BlockExists}
use Rattle.ms_base.specs.declared.kind.Space.{Space}
use Rattle.ms_base.specs.declared.kind.Space.TheVariants.{NonClass, Class}
use Rattle.ms_base.specs.declared.policy.Policy.TheVariants.{Balanced}
use Rattle.ms_base.specs.Spaces.{IsSlotOf}
use Rattle.ms_base.specs.Live.{runs_in}
use Rattle.ms_base.specs.Part.{IsPart}
use Rattle.ms_base.specs.Front.{HasFront}
use Rattle.ms_base.specs.State.{ArenaState, LoaderState, Machine, Limits, empty_machine, empty_arena, empty_loader}
use Rattle.ms_base.specs.State.{arena_of, pool_of}
use Rattle.ms_base.specs.Good.{IsGood, IsSound, IsSoundLoader, IsSoundPool}
use Rattle.ms_base.specs.Transition.{ServesStep, Cause, Transition, zeroed}

rising : (xs : List ℕ) → IsStrictlySortedBy nat_cmp xs → IsStrictlyIncreasing xs
rising xs sorted = IsStrictlyIncreasing-from_sorted xs sorted

-- Rising numbers, by the test that computes.
pub none_rise : IsStrictlyIncreasing []
unfolding IsStrictlySortedBy
none_rise = rising [] tt

pub one_rises : (x : ℕ) → IsStrictlyIncreasing (x ∷ [])
unfolding IsStrictlySortedBy
one_rises x = rising (x ∷ []) (tt, tt)

abbrev limits : Limits
limits = record { nodes = 64; granules = 8192; policy = Balanced; class_nodes = 1 }

abbrev start : Machine
start = empty_machine limits

abbrev one_loader : Machine
one_loader = record start { loaders = (1, empty_loader Standard) ∷ []; given = 2 }

abbrev pub chunk : ℕ → ℕ → ℕ → Chunk
chunk at level front = record { start = at; level = level; front = front }

abbrev arena : ArenaState
arena = record { chunks = chunk 0 10 512 ∷ []; tops = 10 ∷ []; kept = [] }

abbrev pub with_one_block : LoaderState
with_one_block = record { kind = Standard; arena = arena; class_arena = empty_arena; blocks = (1, zeroed 0 10) ∷ [] }

abbrev allocated : Machine
allocated = record one_loader {
  loaders = (1, with_one_block) ∷ [];
  slots = 0 ∷ [];
  committed = 0 ∷ [];
}

abbrev pub first_chunk : Chunk
first_chunk = record { start = 0; level = 10; front = 512 }

pub chunk_is_part : IsPart 0 10
chunk_is_part = (omega arith, refl)

pub chunk_has_front : HasFront Balanced (record { start = 0; level = 10; front = 512 })
chunk_has_front =
    record {
      some = omega arith;
      within = omega arith;
      small = λ h. refl;
      whole = λ h. absurd (omega arith);
      full = λ h. absurd (cc);
    }

pub arenas_are_sound : (space : Space) → IsSound (arena_of space with_one_block) (runs_in space with_one_block.blocks)
arenas_are_sound NonClass =
    record { apart = refl; long = refl; inside = refl; few = omega arith; tops = refl; kept = none_rise }
arenas_are_sound Class =
    record { apart = refl; long = refl; inside = refl; few = omega arith; tops = refl; kept = none_rise }

pools_are_sound : (space : Space) → IsSoundPool (pool_of space allocated)
pools_are_sound NonClass = record {
  held = record {
    parts = All-from_recursion (λ (chunk : Chunk). IsPart chunk.start chunk.level) (first_chunk ∷ [])
        (chunk_is_part, tt);
    fronts = All-from_recursion (HasFront Balanced) (first_chunk ∷ []) (chunk_has_front, tt);
    reserved = refl;
    apart = refl;
  };
  slots = one_rises 0;
  below = All-from_recursion (IsSlotOf NonClass) (0 ∷ []) (omega arith, tt);
  committed = refl;
  granules = omega arith;
  reserved = omega arith;
}
pools_are_sound Class = record {
  held = record {
    parts = All-from_recursion (λ (chunk : Chunk). IsPart chunk.start chunk.level) [] tt;
    fronts = All-from_recursion (HasFront Balanced) [] tt;
    reserved = refl;
    apart = refl;
  };
  slots = one_rises 64;
  below = All-from_recursion (IsSlotOf Class) (64 ∷ []) ((omega arith, omega arith), tt);
  committed = refl;
  granules = omega arith;
  reserved = omega arith;
}

allocated_is_good : IsGood allocated
allocated_is_good = record {
  loaders =
      All-from_recursion IsSoundLoader (with_one_block ∷ [])
      (record { arenas = arenas_are_sound; names = one_rises 1 }, tt);
  names = one_rises 1;
  pools = pools_are_sound;
  given = omega arith;
}

made : ServesStep start (New 1 Standard) Done one_loader
made = record { unused = refl; after = refl }

placed : ServesStep one_loader (Alloc 1 1 10) (At 0) allocated
placed = record {
  some = omega arith;
  fits = omega arith;
  before = empty_loader Standard;
  arena = arena;
  slots = 0 ∷ [];
  found = refl;
  unused = refl;
  inside = refl;
  changes =
      inr (inr (record {
        added = record { start = 0; level = 10; front = 512 };
        front = refl;
        chunks = refl;
        slots = refl;
      }));
  after = refl;
}

placed_and_good : Transition one_loader (Alloc 1 1 10) (At 0) allocated
placed_and_good = (placed, allocated_is_good)

read_zero : Transition allocated (Read 1 1 9) (Value 0) allocated
read_zero = (
  record {
    loader = with_one_block;
    found = zeroed 0 10;
    has = record { loader_is = refl; block_is = refl };
    word = refl;
    after = refl;
  },
  allocated_is_good,
)

read_past : Transition allocated (Read 1 1 10) (Refused (OutOfRange 10)) allocated
read_past = (
  record {
    loader = with_one_block;
    found = zeroed 0 10;
    has = record { loader_is = refl; block_is = refl };
    words_are = refl;
    past = omega arith;
  },
  refl,
)

name_is_taken : Transition allocated (New 1 Standard) (Refused LoaderExists) allocated
name_is_taken = (record { loader = with_one_block; has = refl }, refl)

unloaded : ServesStep allocated (Unload 1) Done (record start { slots = 0 ∷ []; given = 2 })
unloaded = record { loader = with_one_block; has = refl; after = refl }

purged : ServesStep (record start { slots = 0 ∷ []; given = 2 }) Purge Done (record start { given = 2 })
purged = refl

-- A used name is told before words of 0 are.
used_name_comes_first : Cause allocated (Alloc 1 1 0) BlockExists
used_name_comes_first =
    record { loader = with_one_block; found = zeroed 0 10; has = record { loader_is = refl; block_is = refl } }

no_words : Cause allocated (Alloc 1 2 0) ZeroWords
no_words = (record { loader = with_one_block; loader_is = refl; unused = refl }, refl)

-- A root's words and one more.
one_word_too_many : Cause allocated (Calloc 1 2 524289) TooLarge
one_word_too_many = (record { loader = with_one_block; loader_is = refl; unused = refl }, omega arith)

-- A worked example: a history of two loaders in both spaces, from a state that is good. A loader is
-- opened and has a chunk of the class space, the other's chunk grows, a node is purged, a chunk is
-- refused, and the pool tells its totals, each between the events of other steps.
use Rattle.std.proofs.Common.{◌≡◌, ℕ, true, List, [], ◌∷◌, Some, None, refl, arith}
use Rattle.std.specs.Ordering.{nat_cmp}
use Rattle.std.specs.List.Sorted.{IsStrictlyIncreasing, IsStrictlySortedBy}
use Rattle.std.proofs.lemmas.List.Elements.{All-from_recursion}
use Rattle.std.proofs.lemmas.Map.Keys.{IsStrictlyIncreasing-from_sorted}
use Rattle.ms_base.specs.declared.kind.Kind.TheVariants.{Standard}
use Rattle.ms_base.specs.declared.kind.Space.{Space}
use Rattle.ms_base.specs.declared.kind.Space.TheVariants.{NonClass, Class}
use Rattle.ms_base.specs.declared.policy.Policy.TheVariants.{Balanced}
use Rattle.ms_base.specs.declared.span.Chunk.{Chunk}
use Rattle.ms_base.specs.declared.step.Step.TheVariants.{New, Alloc, Calloc, Purge}
use Rattle.ms_base.specs.declared.step.Reply.TheVariants.{Ok as Done, At, Refused}
use Rattle.ms_base.specs.declared.refusal.Refusal.TheVariants.{CommitLimit}
use Rattle.ms_base.specs.Part.{IsPart}
use Rattle.ms_base.specs.Front.{HasFront}
use Rattle.ms_base.specs.Spaces.{IsSlotOf}
use Rattle.ms_base.specs.State.{LoaderState, Machine, pool_of, empty_loader, empty_machine}
use Rattle.ms_base.specs.Good.{IsGood, IsSoundLoader, IsSoundPool}
use Rattle.ms_base.specs.Totals.{PoolSums}
use Rattle.ms_base.specs.Transition.{zeroed}
use Rattle.ms_base.specs.Run.Event.{opening, taking, growing, purging, telling, acting, accepted, lent, counted, told}
use Rattle.ms_base.specs.Run.Event.{replied, refused}
use Rattle.ms_base.specs.Run.Spread.{SpreadStep, Moment}
use Rattle.ms_base.specs.Run.Serial.{serial}
use Rattle.ms_base.proofs.examples.StepExamples.{chunk, first_chunk, with_one_block, chunk_is_part, chunk_has_front}
use Rattle.ms_base.proofs.examples.StepExamples.{arenas_are_sound, one_rises}
use Rattle.ms_base.proofs.examples.SpreadExamples.{arena_with}

two_rise : (x y : ℕ) → IsStrictlySortedBy nat_cmp (x ∷ y ∷ []) → IsStrictlyIncreasing (x ∷ y ∷ [])
two_rise x y sorted = IsStrictlyIncreasing-from_sorted (x ∷ y ∷ []) sorted

slots_rise : IsStrictlyIncreasing (0 ∷ 1 ∷ [])
unfolding IsStrictlySortedBy
slots_rise = two_rise 0 1 ((refl, tt), (tt, tt))

pub names_rise : IsStrictlyIncreasing (1 ∷ 2 ∷ [])
unfolding IsStrictlySortedBy
names_rise = two_rise 1 2 ((refl, tt), (tt, tt))

-- Two granules in all, a node of the class space, and a second node that nobody needs.
abbrev machine : List (ℕ × LoaderState) → List ℕ → List ℕ → ℕ → Machine
machine loaders slots class_committed given =
    record (empty_machine (record { nodes = 64; granules = 2; policy = Balanced; class_nodes = 1 })) {
      loaders = loaders;
      slots = slots;
      committed = 0 ∷ [];
      class_committed = class_committed;
      given = given;
    }

abbrev pub begun : Machine
begun = machine ((1, with_one_block) ∷ []) (0 ∷ 1 ∷ []) [] 2

pools_are_sound : (space : Space) → IsSoundPool (pool_of space begun)
pools_are_sound NonClass = record {
  held = record {
    parts = All-from_recursion (λ (chunk : Chunk). IsPart chunk.start chunk.level) (first_chunk ∷ [])
        (chunk_is_part, tt);
    fronts = All-from_recursion (HasFront Balanced) (first_chunk ∷ []) (chunk_has_front, tt);
    reserved = refl;
    apart = refl;
  };
  slots = slots_rise;
  below = All-from_recursion (IsSlotOf NonClass) (0 ∷ 1 ∷ []) (omega arith, (omega arith, tt));
  committed = refl;
  granules = omega arith;
  reserved = omega arith;
}
pools_are_sound Class = record {
  held = record {
    parts = All-from_recursion (λ (chunk : Chunk). IsPart chunk.start chunk.level) [] tt;
    fronts = All-from_recursion (HasFront Balanced) [] tt;
    reserved = refl;
    apart = refl;
  };
  slots = one_rises 64;
  below = All-from_recursion (IsSlotOf Class) (64 ∷ []) ((omega arith, omega arith), tt);
  committed = refl;
  granules = omega arith;
  reserved = omega arith;
}

begun_is_good : IsGood begun
begun_is_good = record {
  loaders =
      All-from_recursion IsSoundLoader (with_one_block ∷ [])
      (record { arenas = arenas_are_sound; names = one_rises 1 }, tt);
  names = one_rises 1;
  pools = pools_are_sound;
  given = omega arith;
}

-- The steps: a loader is made, has a class block, and is refused a block of two granules; the other
-- has a block for which its chunk becomes its parent; the node that nobody needs goes.
abbrev pub made : SpreadStep
made = record { step = New 2 Standard; reply = Done; events = (opening 2 Standard, accepted) ∷ [] }

abbrev pub class_block : SpreadStep
class_block = record {
  step = Calloc 2 1 10;
  reply = At 67108864;
  events = (taking Class 2 11 12 10, lent (chunk 67108864 11 256))
      ∷ (acting (Calloc 2 1 10), replied (At 67108864)) ∷ [];
}

abbrev pub next_block : SpreadStep
next_block = record {
  step = Alloc 1 2 505;
  reply = At 10;
  events = (growing NonClass 1 0 515 true, lent (chunk 0 9 1024)) ∷ (acting (Alloc 1 2 505), replied (At 10)) ∷ [];
}

abbrev pub node_goes : SpreadStep
node_goes = record { step = Purge; reply = Done; events = (purging, counted 1) ∷ [] }

abbrev pub too_much : SpreadStep
too_much = record {
  step = Alloc 2 2 9000;
  reply = Refused (CommitLimit 2 2 2);
  events = (taking NonClass 2 5 5 9000, refused (CommitLimit 2 2 2))
      ∷ (acting (Alloc 2 2 9000), replied (Refused (CommitLimit 2 2 2))) ∷ [];
}

-- The loaders as the events leave them.
abbrev pub grown_one : LoaderState
grown_one = record with_one_block { arena = arena_with (chunk 0 9 1024 ∷ []) (10 ∷ []) }

abbrev pub with_next_block : LoaderState
with_next_block = record with_one_block {
  arena = arena_with (chunk 0 9 1024 ∷ []) (515 ∷ []);
  blocks = (1, zeroed 0 10) ∷ (2, zeroed 10 505) ∷ [];
}

abbrev pub with_class_chunk : LoaderState
with_class_chunk =
    record (empty_loader Standard) { class_arena = arena_with (chunk 67108864 11 256 ∷ []) [] }

abbrev pub with_class_block : LoaderState
with_class_block = record with_class_chunk {
  class_arena = arena_with (chunk 67108864 11 256 ∷ []) (10 ∷ []);
  blocks = (1, zeroed 67108864 10) ∷ [];
}

-- The states between the events.
abbrev pair : LoaderState → LoaderState → List (ℕ × LoaderState)
pair first second = (1, first) ∷ (2, second) ∷ []

abbrev pub opened : Machine
opened = machine (pair with_one_block (empty_loader Standard)) (0 ∷ 1 ∷ []) [] 4

abbrev pub lent_in_class : Machine
lent_in_class = machine (pair with_one_block with_class_chunk) (0 ∷ 1 ∷ []) (8192 ∷ []) 4

abbrev pub grown_then : Machine
grown_then = machine (pair grown_one with_class_chunk) (0 ∷ 1 ∷ []) (8192 ∷ []) 4

abbrev pub purged_then : Machine
purged_then = machine (pair grown_one with_class_chunk) (0 ∷ []) (8192 ∷ []) 4

abbrev pub placed_in_class : Machine
placed_in_class = machine (pair grown_one with_class_block) (0 ∷ []) (8192 ∷ []) 4

abbrev pub at_the_end : Machine
at_the_end = machine (pair with_next_block with_class_block) (0 ∷ []) (8192 ∷ []) 4

-- What the pool tells while the grown chunk is not yet used: one chunk of level 9, and its buddies
-- free.
abbrev pub sums : PoolSums
sums = record {
  nodes = 1;
  granules = 1;
  lent = 0 ∷ 0 ∷ 0 ∷ 0 ∷ 0 ∷ 0 ∷ 0 ∷ 0 ∷ 0 ∷ 1 ∷ 0 ∷ 0 ∷ 0 ∷ [];
  free = 1 ∷ 1 ∷ 1 ∷ 1 ∷ 1 ∷ 1 ∷ 1 ∷ 1 ∷ 1 ∷ 1 ∷ 0 ∷ 0 ∷ 0 ∷ [];
  capacity = 1024;
  fronts = 1024;
  accounts = 2;
}

abbrev pub moments : List Moment
moments =
    record { before = begun; event = opening 2 Standard; answer = accepted; after = opened; of = Some made }
    ∷ record {
      before = opened;
      event = taking Class 2 11 12 10;
      answer = lent (chunk 67108864 11 256);
      after = lent_in_class;
      of = Some class_block;
    }
    ∷ record {
      before = lent_in_class;
      event = growing NonClass 1 0 515 true;
      answer = lent (chunk 0 9 1024);
      after = grown_then;
      of = Some next_block;
    }
    ∷ record { before = grown_then; event = purging; answer = counted 1; after = purged_then; of = Some node_goes }
    ∷ record {
      before = purged_then;
      event = acting (Calloc 2 1 10);
      answer = replied (At 67108864);
      after = placed_in_class;
      of = Some class_block;
    }
    ∷ record {
      before = placed_in_class;
      event = taking NonClass 2 5 5 9000;
      answer = refused (CommitLimit 2 2 2);
      after = placed_in_class;
      of = Some too_much;
    }
    ∷ record {
      before = placed_in_class;
      event = telling NonClass;
      answer = told sums;
      after = placed_in_class;
      of = None;
    }
    ∷ record {
      before = placed_in_class;
      event = acting (Alloc 1 2 505);
      answer = replied (At 10);
      after = at_the_end;
      of = Some next_block;
    }
    ∷ record {
      before = at_the_end;
      event = acting (Alloc 2 2 9000);
      answer = replied (Refused (CommitLimit 2 2 2));
      after = at_the_end;
      of = Some too_much;
    }
    ∷ []

-- The purge and the refusal are between the growth and its block, which is done before both.
serial_order : serial moments
    ≡ (New 2 Standard, Done) ∷ (Calloc 2 1 10, At 67108864) ∷ (Alloc 1 2 505, At 10) ∷ (Purge, Done)
    ∷ (Alloc 2 2 9000, Refused (CommitLimit 2 2 2)) ∷ []
serial_order = refl

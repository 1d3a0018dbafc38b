-- Worked examples: whole machines over both spaces, their steps, causes and sums.
use Rattle.std.proofs.Common.{◌≡◌, ℕ, List, [], ◌∷◌, ◌++◌, refl, inr, arith}
use Rattle.std.specs.List.{range_with_len}
use Rattle.ms_base.specs.declared.kind.Kind.TheVariants.{Standard, Boot}
use Rattle.ms_base.specs.declared.kind.Space.TheVariants.{NonClass, Class}
use Rattle.ms_base.specs.declared.policy.Policy.{Policy}
use Rattle.ms_base.specs.declared.policy.Policy.TheVariants.{Balanced, Aggressive, None as Never}
use Rattle.ms_base.specs.declared.span.Chunk.{Chunk}
use Rattle.ms_base.specs.declared.step.Step.TheVariants.{New, Alloc, Calloc, Free, Unload, Purge}
use Rattle.ms_base.specs.declared.step.Reply.TheVariants.{Ok as Done, At}
use Rattle.ms_base.specs.declared.refusal.Refusal.TheVariants.{CommitLimit, ReserveLimit, IdsUsedUp, OutOfMemory}
use Rattle.ms_base.specs.State.{ArenaState, LoaderState, Machine, Limits, empty_machine, empty_arena, empty_loader}
use Rattle.ms_base.specs.State.{recommitted}
use Rattle.ms_base.specs.Transition.{ServesStep, Cause, Leaves, zeroed, purged}
use Rattle.ms_base.specs.Totals.{SpaceSums, space_sums, sums_of}

abbrev chunk : ℕ → ℕ → ℕ → Chunk
chunk at level front = record { start = at; level = level; front = front }

abbrev arena : List Chunk → List ℕ → ArenaState
arena chunks tops = record { chunks = chunks; tops = tops; kept = [] }

abbrev limits : Policy → ℕ → Limits
limits policy nodes = record { nodes = 64; granules = 8192; policy = policy; class_nodes = nodes }

-- The machine at its start, its nodes of the class space reserved.
abbrev start : Machine
start = empty_machine (limits Balanced 1)

-- A standard loader with a class block, then with one in the other space too.
abbrev made : Machine
made = record start { loaders = (1, empty_loader Standard) ∷ []; given = 2 }

loader_is_made : ServesStep start (New 1 Standard) Done made
loader_is_made = record { unused = refl; after = refl }

abbrev class_loader : LoaderState
class_loader = record {
  kind = Standard;
  arena = empty_arena;
  class_arena = arena (chunk 67108864 11 256 ∷ []) (10 ∷ []);
  blocks = (1, zeroed 67108864 10) ∷ [];
}

abbrev with_class_block : Machine
with_class_block = record made { loaders = (1, class_loader) ∷ []; class_committed = 8192 ∷ [] }

class_block : ServesStep made (Calloc 1 1 10) (At 67108864) with_class_block
class_block = record {
  some = omega arith;
  fits = omega arith;
  before = empty_loader Standard;
  arena = class_loader.class_arena;
  slots = 64 ∷ [];
  found = refl;
  unused = refl;
  inside = refl;
  changes = inr (inr (record { added = chunk 67108864 11 256; front = refl; chunks = refl; slots = refl }));
  after = refl;
}

abbrev both_loader : LoaderState
both_loader = record class_loader {
  arena = arena (chunk 0 10 512 ∷ []) (10 ∷ []);
  blocks = (1, zeroed 67108864 10) ∷ (2, zeroed 0 10) ∷ [];
}

abbrev with_both : Machine
with_both = record with_class_block { loaders = (1, both_loader) ∷ []; slots = 0 ∷ []; committed = 0 ∷ [] }

other_block : ServesStep with_class_block (Alloc 1 2 10) (At 0) with_both
other_block = record {
  some = omega arith;
  fits = omega arith;
  before = class_loader;
  arena = both_loader.arena;
  slots = 0 ∷ [];
  found = refl;
  unused = refl;
  inside = refl;
  changes = inr (inr (record { added = chunk 0 10 512; front = refl; chunks = refl; slots = refl }));
  after = refl;
}

-- Each space has a granule of its own, and the loader's row has both arenas.
report : sums_of with_both ≡ record {
  loaders = 1;
  space = record {
    nodes = 1;
    reserved = 1048576;
    granules = 1;
    committed = 8192;
    chunks = 1;
    capacity = 512;
    fronts = 512;
    used = 10;
    live = 10;
    free_blocks = 0;
    waste = 0;
    held = 0 ∷ 0 ∷ 0 ∷ 0 ∷ 0 ∷ 0 ∷ 0 ∷ 0 ∷ 0 ∷ 0 ∷ 1 ∷ 0 ∷ 0 ∷ [];
    free = 1 ∷ 1 ∷ 1 ∷ 1 ∷ 1 ∷ 1 ∷ 1 ∷ 1 ∷ 1 ∷ 1 ∷ 1 ∷ 0 ∷ 0 ∷ [];
  };
  class_space = record {
    nodes = 1;
    reserved = 1048576;
    granules = 1;
    committed = 8192;
    chunks = 1;
    capacity = 256;
    fronts = 256;
    used = 10;
    live = 10;
    free_blocks = 0;
    waste = 0;
    held = 0 ∷ 0 ∷ 0 ∷ 0 ∷ 0 ∷ 0 ∷ 0 ∷ 0 ∷ 0 ∷ 0 ∷ 0 ∷ 1 ∷ 0 ∷ [];
    free = 1 ∷ 1 ∷ 1 ∷ 1 ∷ 1 ∷ 1 ∷ 1 ∷ 1 ∷ 1 ∷ 1 ∷ 1 ∷ 1 ∷ 0 ∷ [];
  };
  rows = record { name = 1; kind = Standard; chunks = 2; capacity = 768; used = 20; live = 20 } ∷ [];
}
report = refl

-- A class block that is freed becomes a free block of the class arena.
abbrev class_freed : LoaderState
class_freed = record both_loader {
  class_arena = record { chunks = chunk 67108864 11 256 ∷ []; tops = 10 ∷ []; kept = (67108864, 10) ∷ [] };
  blocks = (2, zeroed 0 10) ∷ [];
}

freed : ServesStep with_both (Free 1 1) Done (record with_both { loaders = (1, class_freed) ∷ [] })
freed = record {
  loader = both_loader;
  found = zeroed 67108864 10;
  kept = (67108864, 10) ∷ [];
  has = record { loader_is = refl; block_is = refl };
  after = refl;
}

-- Unloading gives the chunks of both arenas back; a purge then leaves the class space's nodes.
abbrev given_back : Machine
given_back = record start { slots = 0 ∷ []; given = 2 }

unloaded : ServesStep with_both (Unload 1) Done given_back
unloaded = record { loader = both_loader; has = refl; after = refl }

purge_leaves_class_space : ServesStep given_back Purge Done (record start { given = 2 })
purge_leaves_class_space = refl

class_space_is_whole : space_sums Class (purged given_back) ≡ record {
  nodes = 1;
  reserved = 1048576;
  granules = 0;
  committed = 0;
  chunks = 0;
  capacity = 0;
  fronts = 0;
  used = 0;
  live = 0;
  free_blocks = 0;
  waste = 0;
  held = 0 ∷ 0 ∷ 0 ∷ 0 ∷ 0 ∷ 0 ∷ 0 ∷ 0 ∷ 0 ∷ 0 ∷ 0 ∷ 0 ∷ 0 ∷ [];
  free = 2 ∷ 0 ∷ 0 ∷ 0 ∷ 0 ∷ 0 ∷ 0 ∷ 0 ∷ 0 ∷ 0 ∷ 0 ∷ 0 ∷ 0 ∷ [];
}
class_space_is_whole = refl

-- A purge drops a node without chunks, and the granules of no other.
purge_keeps_used_nodes : purged (record with_both { slots = 0 ∷ 1 ∷ [] }) ≡ with_both
purge_keeps_used_nodes = refl

-- Two owner numbers for each loader: the last pair, and one number left.
last_pair : ServesStep (record start { given = 4294967293 }) (New 1 Boot) Done
    (record start { loaders = (1, empty_loader Boot) ∷ []; given = 4294967295 })
last_pair = record { unused = refl; after = refl }

one_number_left : Cause (record start { given = 4294967294 }) (New 1 Boot) IdsUsedUp
one_number_left = (refl, omega arith)

none_left : Cause (record start { given = 4294967295 }) (New 1 Boot) IdsUsedUp
none_left = (refl, omega arith)

numbers_are_lost : Leaves start (New 1 Boot) OutOfMemory (record start { given = 2 })
numbers_are_lost = inr refl

-- Without class nodes each class block is refused, while the other space serves.
abbrev classless : Machine
classless = record made { limits = limits Balanced 0 }

no_class_nodes : Cause classless (Calloc 1 1 10) (ReserveLimit 0 0)
no_class_nodes = (
  record {
    lacks = record { loader = empty_loader Standard; loader_is = refl; unused = refl };
    some = omega arith;
    fits = omega arith;
  },
  record { met = refl; nodes_are = refl; limit_is = refl },
)

-- One granule in all, which the class space has: none is left for the other.
abbrev one_granule : Machine
one_granule =
    record with_class_block { limits = record { nodes = 64; granules = 1; policy = Balanced; class_nodes = 1 } }

granules_are_shared : Cause one_granule (Alloc 1 2 10) (CommitLimit 1 1 1)
granules_are_shared = (
  record {
    lacks = record { loader = class_loader; loader_is = refl; unused = refl };
    some = omega arith;
    fits = omega arith;
  },
  record {
    loader = class_loader;
    has = refl;
    cause = record { met = refl; committed_are = refl; limit_is = refl; need_is = refl };
  },
)

-- The boot loader's class space of one node: two root chunks, and no third.
abbrev boot_loader : LoaderState
boot_loader = record {
  kind = Boot;
  arena = empty_arena;
  class_arena = arena (chunk 67108864 0 524288 ∷ chunk 67633152 0 524288 ∷ []) (524288 ∷ 524288 ∷ []);
  blocks = [];
}

abbrev full : Machine
full = record start { loaders = (1, boot_loader) ∷ []; class_committed = range_with_len 8192 128; given = 2 }

class_space_is_full : Cause full (Calloc 1 3 2) (ReserveLimit 1 1)
class_space_is_full = (
  record {
    lacks = record { loader = boot_loader; loader_is = refl; unused = refl };
    some = omega arith;
    fits = omega arith;
  },
  record { met = refl; nodes_are = refl; limit_is = refl },
)

full_is_unloaded : ServesStep full (Unload 1) Done (record start { given = 2 })
full_is_unloaded = record { loader = boot_loader; has = refl; after = refl }

-- Policy none: a boot loader's root stays committed once it is unloaded, until its node goes. What
-- the class space committed stays to the end.
abbrev keeping : Machine
keeping = empty_machine (limits Never 1)

abbrev root_loader : LoaderState
root_loader = record {
  kind = Boot;
  arena = arena (chunk 0 0 524288 ∷ []) (2 ∷ []);
  class_arena = arena (chunk 67108864 2 131072 ∷ []) (2 ∷ []);
  blocks = (1, zeroed 0 2) ∷ (2, zeroed 67108864 2) ∷ [];
}

abbrev with_root : Machine
with_root = record keeping {
  loaders = (1, root_loader) ∷ [];
  slots = 0 ∷ [];
  committed = range_with_len 0 64;
  class_committed = range_with_len 8192 16;
  given = 2;
}

-- A purge drops the granules of a node without chunks alone, and none of the class space.
purge_keeps_used_granules : purged
    (record with_root { slots = 0 ∷ 1 ∷ []; committed = range_with_len 0 64 ++ range_with_len 128 16 }) ≡ with_root
purge_keeps_used_granules = refl

abbrev root_stays : Machine
root_stays = record with_root { loaders = [] }

root_is_unloaded : ServesStep with_root (Unload 1) Done root_stays
root_is_unloaded = record { loader = root_loader; has = refl; after = refl }

root_is_purged : ServesStep root_stays Purge Done (record keeping { class_committed = range_with_len 8192 16; given = 2 })
root_is_purged = refl

-- The next loader's chunk is a part of it, and needs nothing.
abbrev next_loader : LoaderState
next_loader = record {
  kind = Standard;
  arena = arena (chunk 0 10 512 ∷ []) (10 ∷ []);
  class_arena = empty_arena;
  blocks = (1, zeroed 0 10) ∷ [];
}

next_block : ServesStep (record root_stays { loaders = (2, empty_loader Standard) ∷ []; given = 4 }) (Alloc 2 1 10) (At 0)
    (record root_stays { loaders = (2, next_loader) ∷ []; given = 4 })
next_block = record {
  some = omega arith;
  fits = omega arith;
  before = empty_loader Standard;
  arena = next_loader.arena;
  slots = 0 ∷ [];
  found = refl;
  unused = refl;
  inside = refl;
  changes = inr (inr (record { added = chunk 0 10 512; front = refl; chunks = refl; slots = refl }));
  after = refl;
}

-- With 63 granules in all the boot loader's first chunk is refused: it would be committed whole.
abbrev tight : Machine
tight = record (empty_machine (record { nodes = 64; granules = 63; policy = Never; class_nodes = 0 })) {
  loaders = (1, empty_loader Boot) ∷ [];
  given = 2;
}

root_is_refused : Cause tight (Alloc 1 1 1) (CommitLimit 0 63 64)
root_is_refused = (
  record {
    lacks = record { loader = empty_loader Boot; loader_is = refl; unused = refl };
    some = omega arith;
    fits = omega arith;
  },
  record {
    loader = empty_loader Boot;
    has = refl;
    cause = record { met = refl; committed_are = refl; limit_is = refl; need_is = refl };
  },
)

-- Policy aggressive: the granules of a machine have 2048 words.
abbrev small_granules : Machine
small_granules = record (empty_machine (limits Aggressive 0)) {
  loaders = (
    1,
    record (empty_loader Standard) {
      arena = arena (chunk 0 10 512 ∷ []) (10 ∷ []);
      blocks = (1, zeroed 0 10) ∷ [];
    },
  )
      ∷ (
        2,
        record (empty_loader Standard) {
          arena = arena (chunk 4096 7 4096 ∷ []) (2049 ∷ []);
          blocks = (1, zeroed 4096 2049) ∷ [];
        },
      ) ∷ [];
  slots = 0 ∷ [];
  committed = 0 ∷ 2 ∷ 3 ∷ [];
  given = 4;
}

in_line : recommitted small_granules ≡ small_granules
in_line = refl

committed_words_of_it : (space_sums NonClass small_granules).committed ≡ 6144
committed_words_of_it = refl

-- The report of two loaders, the first of which has retired a chunk: two free words, 520 in blocks.
abbrev two_loaders : Machine
two_loaders = record (empty_machine (limits Balanced 0)) {
  loaders = (
    1,
    record {
      kind = Standard;
      arena = record { chunks = chunk 0 10 512 ∷ chunk 1024 10 512 ∷ []; tops = 512 ∷ 10 ∷ []; kept = (510, 2) ∷ [] };
      class_arena = empty_arena;
      blocks = (1, zeroed 0 10) ∷ (2, zeroed 10 500) ∷ (3, zeroed 1024 10) ∷ [];
    },
  ) ∷ (
    2,
    record {
      kind = Standard;
      arena = arena (chunk 512 10 512 ∷ []) (10 ∷ []);
      class_arena = empty_arena;
      blocks = (1, zeroed 512 10) ∷ [];
    },
  ) ∷ [];
  slots = 0 ∷ [];
  committed = 0 ∷ [];
  given = 4;
}

-- A space without nodes has 0 in all its numbers.
abbrev nothing : SpaceSums
nothing = record {
  nodes = 0;
  reserved = 0;
  granules = 0;
  committed = 0;
  chunks = 0;
  capacity = 0;
  fronts = 0;
  used = 0;
  live = 0;
  free_blocks = 0;
  waste = 0;
  held = 0 ∷ 0 ∷ 0 ∷ 0 ∷ 0 ∷ 0 ∷ 0 ∷ 0 ∷ 0 ∷ 0 ∷ 0 ∷ 0 ∷ 0 ∷ [];
  free = 0 ∷ 0 ∷ 0 ∷ 0 ∷ 0 ∷ 0 ∷ 0 ∷ 0 ∷ 0 ∷ 0 ∷ 0 ∷ 0 ∷ 0 ∷ [];
}

report_of_two : sums_of two_loaders ≡ record {
  loaders = 2;
  space = record {
    nodes = 1;
    reserved = 1048576;
    granules = 1;
    committed = 8192;
    chunks = 3;
    capacity = 1536;
    fronts = 1536;
    used = 532;
    live = 530;
    free_blocks = 2;
    waste = 0;
    held = 0 ∷ 0 ∷ 0 ∷ 0 ∷ 0 ∷ 0 ∷ 0 ∷ 0 ∷ 0 ∷ 0 ∷ 3 ∷ 0 ∷ 0 ∷ [];
    free = 1 ∷ 1 ∷ 1 ∷ 1 ∷ 1 ∷ 1 ∷ 1 ∷ 1 ∷ 1 ∷ 0 ∷ 1 ∷ 0 ∷ 0 ∷ [];
  };
  class_space = nothing;
  rows = record { name = 1; kind = Standard; chunks = 2; capacity = 1024; used = 522; live = 520 }
      ∷ record { name = 2; kind = Standard; chunks = 1; capacity = 512; used = 10; live = 10 } ∷ [];
}
report_of_two = refl

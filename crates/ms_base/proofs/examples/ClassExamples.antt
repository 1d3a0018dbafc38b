-- Worked examples of the class space: where its chunks lie, and its limits.
use Rattle.std.proofs.Common.{◌≡◌, ℕ, true, List, [], ◌∷◌, refl, Ok, Err}
use Rattle.ms_base.specs.declared.kind.Space.TheVariants.{NonClass, Class}
use Rattle.ms_base.specs.declared.policy.Policy.TheVariants.{Balanced, None as Never}
use Rattle.ms_base.specs.declared.span.Chunk.{Chunk}
use Rattle.ms_base.specs.declared.span.Span.{Span}
use Rattle.ms_base.specs.declared.refusal.Refusal.TheVariants.{CommitLimit, ReserveLimit}
use Rattle.ms_base.specs.Spaces.{class_slots}
use Rattle.ms_base.specs.Committed.{committed_granules}
use Rattle.ms_base.specs.FreeParts.{free_parts}
use Rattle.ms_base.specs.State.{PoolState, Limits}
use Rattle.ms_base.specs.PoolSteps.{taken, grown}
use Rattle.ms_base.specs.Totals.{pool_sums}

abbrev chunk : ℕ → ℕ → ℕ → Chunk
chunk start level front = record { start = start; level = level; front = front }

abbrev span : ℕ → ℕ → Span
span start level = record { start = start; level = level }

abbrev limits : ℕ → ℕ → Limits
limits nodes granules = record { nodes = 64; granules = granules; policy = Balanced; class_nodes = nodes }

-- The class space with so many nodes and these chunks, where so many granules are committed in the
-- other space.
abbrev class_pool : ℕ → List Chunk → ℕ → ℕ → PoolState
class_pool nodes held elsewhere granules = record {
  space = Class;
  held = held;
  slots = class_slots nodes;
  committed = committed_granules 8192 held (class_slots nodes);
  elsewhere = elsewhere;
  limits = limits nodes granules;
}

-- The other space, where so many are committed in the class space.
abbrev pool : List Chunk → List ℕ → ℕ → ℕ → PoolState
pool held slots elsewhere granules = record {
  space = NonClass;
  held = held;
  slots = slots;
  committed = committed_granules 8192 held slots;
  elsewhere = elsewhere;
  limits = limits 1 granules;
}

-- The first class chunk of a standard loader lies at the start of slot 64, in its first granule.
first_class_chunk : taken (class_pool 1 [] 0 8192) 11 12 10 ≡ Ok (chunk 67108864 11 256)
first_class_chunk = refl

its_granule : (class_pool 1 (chunk 67108864 11 256 ∷ []) 0 8192).committed ≡ 8192 ∷ []
its_granule = refl

-- The nodes of the class space are there from the start, whole and uncommitted.
whole_and_free : free_parts [] (class_slots 1) ≡ span 67108864 0 ∷ span 67633152 0 ∷ []
whole_and_free = refl

-- Without class nodes no request is served there.
no_class_space : taken (class_pool 0 [] 0 8192) 11 12 10 ≡ Err (ReserveLimit 0 0)
no_class_space = refl

-- A boot loader's block of a whole root lies in the lower root; no node is added: two root chunks
-- use up one.
first_root : taken (class_pool 1 [] 0 8192) 0 0 524288 ≡ Ok (chunk 67108864 0 524288)
first_root = refl

second_root : taken (class_pool 1 (chunk 67108864 0 524288 ∷ []) 0 8192) 0 0 524288 ≡ Ok (chunk 67633152 0 524288)
second_root = refl

used_up : taken (class_pool 1 (chunk 67108864 0 524288 ∷ chunk 67633152 0 524288 ∷ []) 0 8192) 4 12 2
    ≡ Err (ReserveLimit 1 1)
used_up = refl

-- Both spaces count against the one limit of granules.
limit_of_both : taken (class_pool 1 [] 1 1) 11 12 10 ≡ Err (CommitLimit 1 1 1)
limit_of_both = refl

one_granule_left : taken (class_pool 1 [] 1 2) 11 12 10 ≡ Ok (chunk 67108864 11 256)
one_granule_left = refl

other_way_round : taken (pool [] [] 1 1) 10 12 10 ≡ Err (CommitLimit 1 1 1)
other_way_round = refl

growth_of_both : grown (pool (chunk 0 0 8192 ∷ []) (0 ∷ []) 1 2) (chunk 0 0 8192) 8193 true ≡ Err (CommitLimit 2 2 1)
growth_of_both = refl

-- Under policy none too: what the other space keeps counts, and the granules of the whole chunk are
-- needed.
abbrev keeping : ℕ → PoolState
keeping granules = record {
  space = Class;
  held = [];
  slots = class_slots 1;
  committed = 8192 ∷ [];
  elsewhere = 64;
  limits = record { nodes = 64; granules = granules; policy = Never; class_nodes = 1 };
}

fifteen_are_needed : taken (keeping 79) 2 12 2 ≡ Err (CommitLimit 65 79 15)
fifteen_are_needed = refl

eighty_are_enough : taken (keeping 80) 2 12 2 ≡ Ok (chunk 67108864 2 131072)
eighty_are_enough = refl

-- With nodes and granules both used up, the nodes are what is told, also where there are none.
nodes_before_granules : taken (class_pool 0 [] 1 1) 12 12 128 ≡ Err (ReserveLimit 0 0)
nodes_before_granules = refl

-- What is committed in the other space is not committed enough in this one.
a_granule_elsewhere : taken (pool [] (0 ∷ []) 1 2) 8 12 2 ≡ Ok (chunk 0 8 2048)
a_granule_elsewhere = refl

-- The searches are those of the other space.
smaller_committed_first : taken (class_pool 2 (chunk 67108864 11 256 ∷ []) 0 8192) 2 12 127 ≡ Ok (chunk 67112960 7 4096)
smaller_committed_first = refl

smaller_uncommitted_next : taken (class_pool 1 (chunk 67108864 11 256 ∷ chunk 67239936 2 106496 ∷ []) 0 8192) 2 5 16326
    ≡ Ok (chunk 67174400 3 16384)
smaller_uncommitted_next = refl

leader_grows : grown (class_pool 1 (chunk 67108864 11 256 ∷ []) 0 8192) (chunk 67108864 11 256) 300 true
    ≡ Ok (chunk 67108864 10 512)
leader_grows = refl

-- The pool's sums are those of its space.
sums : pool_sums (class_pool 1 (chunk 67108864 11 256 ∷ []) 5 8192) 1
    ≡ record {
      nodes = 1;
      granules = 1;
      lent = 0 ∷ 0 ∷ 0 ∷ 0 ∷ 0 ∷ 0 ∷ 0 ∷ 0 ∷ 0 ∷ 0 ∷ 0 ∷ 1 ∷ 0 ∷ [];
      free = 1 ∷ 1 ∷ 1 ∷ 1 ∷ 1 ∷ 1 ∷ 1 ∷ 1 ∷ 1 ∷ 1 ∷ 1 ∷ 1 ∷ 0 ∷ [];
      capacity = 256;
      fronts = 256;
      accounts = 1;
    }
sums = refl

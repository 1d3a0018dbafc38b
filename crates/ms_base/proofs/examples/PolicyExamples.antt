-- Worked examples of policies aggressive and none: fronts, limits and committed granules.
use Rattle.std.proofs.Common.{◌≡◌, ℕ, true, false, length, List, [], ◌∷◌, ◌++◌, refl, Ok, Err}
use Rattle.std.specs.List.{range_with_len}
use Rattle.ms_base.specs.declared.kind.Space.TheVariants.{NonClass}
use Rattle.ms_base.specs.declared.policy.Policy.{Policy}
use Rattle.ms_base.specs.declared.policy.Policy.TheVariants.{Balanced, Aggressive, None as Never}
use Rattle.ms_base.specs.declared.span.Chunk.{Chunk}
use Rattle.ms_base.specs.declared.refusal.Refusal.TheVariants.{CommitLimit}
use Rattle.ms_base.specs.Committed.{committed_with}
use Rattle.ms_base.specs.State.{PoolState, Limits, committed_now}
use Rattle.ms_base.specs.PoolSteps.Pick.{picked}
use Rattle.ms_base.specs.PoolSteps.Causes.{has_committed_room, granules_missing, granules_needed}
use Rattle.ms_base.specs.PoolSteps.{taken, grown, slots_with}
use Rattle.ms_base.specs.Laws.Sum.{with_chunk_grown}

abbrev chunk : ℕ → ℕ → ℕ → Chunk
chunk start level front = record { start = start; level = level; front = front }

abbrev limits : Policy → ℕ → Limits
limits policy granules = record { nodes = 64; granules = granules; policy = policy; class_nodes = 0 }

-- A pool in which these granules were committed before.
abbrev pool : Policy → List ℕ → List Chunk → List ℕ → ℕ → PoolState
pool policy before held slots granules = record {
  space = NonClass;
  held = held;
  slots = slots;
  committed = committed_with policy before held slots;
  elsewhere = 0;
  limits = limits policy granules;
}

-- The granules once a chunk more is held.
abbrev once_lent : PoolState → Chunk → List ℕ
once_lent before lent =
    committed_now (record before { held = before.held ++ lent ∷ []; slots = slots_with before.slots lent.start })

-- Policy aggressive: the first chunk of a standard loader takes one granule of 2048 words, one of
-- 4096 words two others.
first_chunk : taken (pool Aggressive [] [] [] 8192) 10 12 10 ≡ Ok (chunk 0 10 512)
first_chunk = refl

abbrev one_small : PoolState
one_small = pool Aggressive [] (chunk 0 10 512 ∷ []) (0 ∷ []) 8192

one_small_granule : one_small.committed ≡ 0 ∷ []
one_small_granule = refl

two_granules : taken one_small 7 7 2049 ≡ Ok (chunk 4096 7 4096)
two_granules = refl

three_granules : once_lent one_small (chunk 4096 7 4096) ≡ 0 ∷ 2 ∷ 3 ∷ []
three_granules = refl

-- A chunk of level 8 is one granule, and a smaller one is committed whole.
level_8_is_a_granule : taken (pool Aggressive [] (chunk 0 12 128 ∷ []) (0 ∷ []) 8192) 8 8 1025 ≡ Ok (chunk 2048 8 2048)
level_8_is_a_granule = refl

level_9_is_found_first : taken (pool Aggressive [] (chunk 0 9 1024 ∷ []) (0 ∷ []) 8192) 8 12 2 ≡ Ok (chunk 1024 9 1024)
level_9_is_found_first = refl

half_a_front : taken (pool Aggressive [] (chunk 0 8 2048 ∷ []) (0 ∷ []) 8192) 7 12 2 ≡ Ok (chunk 4096 7 2048)
half_a_front = refl

small_commit_limit : taken (pool Aggressive [] (chunk 0 8 2048 ∷ []) (0 ∷ []) 1) 0 12 2 ≡ Err (CommitLimit 1 1 1)
small_commit_limit = refl

-- A leader of level 8 whose parent is wanted needs a second granule.
parent_needs_a_granule : grown (pool Aggressive [] (chunk 0 8 2048 ∷ []) (0 ∷ []) 8192) (chunk 0 8 2048) 4096 true
    ≡ Ok (chunk 0 7 4096)
parent_needs_a_granule = refl

parent_is_refused : grown (pool Aggressive [] (chunk 0 8 2048 ∷ []) (0 ∷ []) 1) (chunk 0 8 2048) 4096 true
    ≡ Err (CommitLimit 1 1 1)
parent_is_refused = refl

front_rises : grown (pool Aggressive [] (chunk 0 6 2048 ∷ []) (0 ∷ []) 8192) (chunk 0 6 2048) 3000 true
    ≡ Ok (chunk 0 6 4096)
front_rises = refl

-- Policy none: a boot loader's first chunk is committed whole, 64 granules.
whole_root : taken (pool Never [] [] [] 8192) 0 12 2 ≡ Ok (chunk 0 0 524288)
whole_root = refl

whole_root_granules : once_lent (pool Never [] [] [] 8192) (chunk 0 0 524288) ≡ range_with_len 0 64
whole_root_granules = refl

one_granule_short : taken (pool Never [] [] [] 63) 0 12 2 ≡ Err (CommitLimit 0 63 64)
one_granule_short = refl

-- Given back, they stay committed while the node is reserved; under the other policies they don't.
abbrev given_back : PoolState
given_back = pool Never (range_with_len 0 64) [] (0 ∷ []) 64

they_stay : given_back.committed ≡ range_with_len 0 64
they_stay = refl

they_go : (pool Balanced (range_with_len 0 64) [] (0 ∷ []) 64).committed ≡ []
they_go = refl

they_go_with_the_node : (pool Never (range_with_len 0 64) [] [] 64).committed ≡ []
they_go_with_the_node = refl

-- With as many granules as the limit, what is committed already serves the next loader.
nothing_is_needed : taken given_back 10 12 10 ≡ Ok (chunk 0 10 512)
nothing_is_needed = refl

still_64 : once_lent given_back (chunk 0 10 512) ≡ range_with_len 0 64
still_64 = refl

-- Of a root whose first eight granules are committed, 56 are needed.
abbrev eight_stay : ℕ → PoolState
eight_stay = pool Never (range_with_len 0 8) [] (0 ∷ [])

the_rest_is_needed : taken (eight_stay 63) 0 12 2 ≡ Err (CommitLimit 8 63 56)
the_rest_is_needed = refl

the_rest_is_committed : taken (eight_stay 64) 0 12 2 ≡ Ok (chunk 0 0 524288)
the_rest_is_committed = refl

-- The part that the searches find first is the only one tried: a whole root, though a smaller part
-- has some of its granules.
abbrev two_of_root : PoolState
two_of_root = pool Never (0 ∷ []) (chunk 8192 6 8192 ∷ []) (0 ∷ []) 65

no_second_part : taken two_of_root 0 5 8193 ≡ Err (CommitLimit 2 65 64)
no_second_part = refl

small_part_is_there : taken two_of_root 0 12 2 ≡ Ok (chunk 0 6 8192)
small_part_is_there = refl

-- Holes between committed granules are filled.
abbrev with_hole : ℕ → PoolState
with_hole = pool Never (0 ∷ 2 ∷ 3 ∷ []) [] (0 ∷ [])

hole_is_filled : once_lent (with_hole 4) (chunk 0 4 32768) ≡ 0 ∷ 1 ∷ 2 ∷ 3 ∷ []
hole_is_filled = refl

one_is_needed : taken (with_hole 4) 4 5 8193 ≡ Ok (chunk 0 4 32768)
one_is_needed = refl

one_too_many : taken (with_hole 3) 4 5 8193 ≡ Err (CommitLimit 3 3 1)
one_too_many = refl

-- A chunk grows by its parent alone, which is committed whole.
doubles : grown (pool Never (2 ∷ []) (chunk 0 5 16384 ∷ []) (0 ∷ []) 8192) (chunk 0 5 16384) 20000 true
    ≡ Ok (chunk 0 4 32768)
doubles = refl

doubling_is_refused : grown (pool Never (2 ∷ []) (chunk 0 5 16384 ∷ []) (0 ∷ []) 3) (chunk 0 5 16384) 20000 true
    ≡ Err (CommitLimit 3 3 1)
doubling_is_refused = refl

-- Within its size it has nothing to ask for: its front is its size.
front_is_the_size : grown (pool Never [] (chunk 0 5 16384 ∷ []) (0 ∷ []) 2) (chunk 0 5 16384) 16384 true
    ≡ Ok (chunk 0 5 16384)
front_is_the_size = refl

-- A whole root of which one granule is committed is committed enough for two words, and found
-- first; the other 63 granules are needed.
abbrev partly_committed : ℕ → PoolState
partly_committed = pool Never (0 ∷ []) [] (0 ∷ [])

enough_for_two_words : has_committed_room (partly_committed 63) 12 2 ≡ true
enough_for_two_words = refl

found_as_it_is : picked (partly_committed 64) 0 12 2 ≡ record { start = 0; level = 0 }
found_as_it_is = refl

sixty_three_are_needed : taken (partly_committed 63) 0 12 2 ≡ Err (CommitLimit 1 63 63)
sixty_three_are_needed = refl

sixty_four_are_enough : taken (partly_committed 64) 0 12 2 ≡ Ok (chunk 0 0 524288)
sixty_four_are_enough = refl

-- Words past the committed granule are not committed enough: an uncommitted root may serve as well,
-- and the lowest does.
not_for_more_words : has_committed_room (partly_committed 64) 0 8193 ≡ false
not_for_more_words = refl

-- Where enough granules stay committed, the next loader needs none.
none_needed : granules_needed given_back 10 12 10 ≡ 0
none_needed = refl

-- How many a chunk commits is what its front was missing, also where it grows.
grown_commits_two : length
    (committed_now (with_chunk_grown (pool Aggressive [] (chunk 0 5 2048 ∷ []) (0 ∷ []) 3) 0 (chunk 0 5 6144))) ≡ 3
grown_commits_two = refl

two_were_missing : granules_missing (pool Aggressive [] (chunk 0 5 2048 ∷ []) (0 ∷ []) 3) (chunk 0 5 6144) ≡ 2
two_were_missing = refl

-- A chunk of 256 words is its own front.
small_front : (taken (pool Balanced [] [] [] 8192) 11 12 26 ≡ Ok (chunk 0 11 256))
small_front = refl

-- Sums are bounded: held chunks have no more words than the reserved slots, live and kept words no
-- more than are in use, and used and committed words no more than all nodes of the space.
use Rattle.std.proofs.Common.{◌≡◌, ◌≤◌, ◌<◌, zero, suc, get_or, ◌+◌, ◌*◌, ◌/◌, ℕ, true, ◌||◌, List, [], ◌∷◌, ◌++◌}
use Rattle.std.proofs.Common.{length, map, refl, sym, ap, ◌∙◌, arith, inl, inr}
use Rattle.std.specs.Prelude.{nat_le, sum, ◌==◌}
use Rattle.std.specs.List.{All, AllByRecursion, list_any, list_all, sum_by, flat_map, zip, range_with_len}
use Rattle.std.specs.Map.{values_of}
use Rattle.std.proofs.lemmas.Nat.{mul-le, div-add-mod'}
use Rattle.std.proofs.Math.Nat.{mul_assoc}
use Rattle.std.proofs.lemmas.Bool.{and_parts, and_from, or_left, or_right, or_cases, le-leb, leb-true, eqb-true}
use Rattle.std.proofs.lemmas.Bool.{cases_lt}
use Rattle.std.proofs.lemmas.List.Sums.{sum_by-cons, sum_by-append}
use Rattle.std.proofs.lemmas.List.Elements.{recursion_from_All}
use Rattle.std.proofs.lemmas.Map.Views.{length-le_from_below}
use Rattle.std.proofs.lemmas.Map.Keys.{sorted_from_strictly_increasing}
use Rattle.std.proofs.lemmas.List.FromFn.{length-range_with_len}
use Rattle.ms_base.specs.declared.policy.Policy.{Policy}
use Rattle.ms_base.specs.declared.span.Chunk.{Chunk}
use Rattle.ms_base.specs.Interval.{lies_in}
use Rattle.ms_base.specs.Level.{size_of}
use Rattle.ms_base.specs.Part.{IsPart, slot_of, is_reserved, node_words}
use Rattle.ms_base.specs.Front.{HasFront}
use Rattle.ms_base.specs.Held.{AreHeld, words_of}
use Rattle.ms_base.specs.declared.kind.Space.{Space}
use Rattle.ms_base.specs.declared.kind.Space.TheVariants.{NonClass, Class}
use Rattle.ms_base.specs.Spaces.{IsSlotOf, most_slots}
use Rattle.ms_base.specs.Committed.{is_committed_now}
use Rattle.ms_base.specs.PoolSteps.Pick.{granule_in}
use Rattle.ms_base.specs.State.{ArenaState, LoaderState, Machine, PoolState, arena_of, slots_in, pool_of}
use Rattle.ms_base.specs.Live.{runs_in}
use Rattle.ms_base.specs.Good.{topped, is_in_use, IsSound, IsSoundLoader, IsSoundPool, IsGood}
use Rattle.ms_base.specs.Totals.{capacity_of, fronts_of, used_of, kept_of, live_in, used_words, committed_words}
use Rattle.ms_base.proofs.granules.PolicyLemmas.{granules_make_nodes}
use Rattle.ms_base.proofs.granules.GranuleLemmas.{ends_in_node}
use Rattle.ms_base.proofs.granules.CommittedLemmas.{committed_at_most}
use Rattle.ms_base.proofs.runs.PackingLemmas.{packed, covered_one_by_one}
use Rattle.ms_base.proofs.machine.HeldLemmas.{IsPlaced}

-- The words of a slot.
abbrev area_of : ℕ → ℕ × ℕ
area_of slot = (slot * node_words, node_words)

-- A part lies in its slot.
in_its_slot : (start level : ℕ) → IsPart start level → lies_in (start, size_of level) (area_of (slot_of start)) ≡ true
in_its_slot start level part =
    and_from (nat_le (slot_of start * node_words) start)
    (nat_le (start + size_of level) (slot_of start * node_words + node_words))
    (le-leb (slot_of start * node_words) start (omega (arith, div-add-mod' start node_words)))
    (le-leb (start + size_of level) (slot_of start * node_words + node_words) (ends_in_node start level part))

in_some_slot : (start level : ℕ) (slots : List ℕ) → IsPart start level → is_reserved slots (slot_of start) ≡ true
    → list_any (λ (area : ℕ × ℕ). lies_in (start, size_of level) area) (map area_of slots) ≡ true
in_some_slot start level [] part h = absurd (cc)
in_some_slot start level (s ∷ slots) part h =
    let later = list_any (λ (area : ℕ × ℕ). lies_in (start, size_of level) area) (map area_of slots) in
    elim (or_cases (s == slot_of start) (is_reserved slots (slot_of start)) h) [
      | inl here ↦ or_left (lies_in (start, size_of level) (area_of s)) later
          (ap (λ (k : ℕ). lies_in (start, size_of level) (area_of k)) (eqb-true s (slot_of start) here)
          ∙ in_its_slot start level part)
      | inr there ↦ or_right (lies_in (start, size_of level) (area_of s)) later
          (in_some_slot start level slots part there)
    ]

all_in_slots : (slots : List ℕ) (held : List Chunk) → AllByRecursion IsPlaced held
    → list_all (λ (chunk : Chunk). is_reserved slots (slot_of chunk.start)) held ≡ true
    → list_all (λ (run : ℕ × ℕ). list_any (λ (area : ℕ × ℕ). lies_in run area) (map area_of slots)) (map words_of held)
    ≡ true
all_in_slots slots [] parts h = refl
all_in_slots slots (c ∷ held) parts h =
    let both =
    and_parts (is_reserved slots (slot_of c.start))
    (list_all (λ (d : Chunk). is_reserved slots (slot_of d.start)) held) h in
    and_from (list_any (λ (area : ℕ × ℕ). lies_in (words_of c) area) (map area_of slots))
    (list_all (λ (run : ℕ × ℕ). list_any (λ (area : ℕ × ℕ). lies_in run area) (map area_of slots)) (map words_of held))
    (in_some_slot c.start c.level slots parts.0 both.0) (all_in_slots slots held parts.1 both.1)

-- The words of the runs of chunks, and of slots.
words_of_chunks : (held : List Chunk) → sum_by (λ (run : ℕ × ℕ). run.1) (map words_of held) ≡ capacity_of held
words_of_chunks [] = refl
words_of_chunks (c ∷ held) =
    sum_by-cons (λ (run : ℕ × ℕ). run.1) (words_of c) (map words_of held)
    ∙ ap (λ (n : ℕ). size_of c.level + n) (words_of_chunks held)
    ∙ sym (sum_by-cons (λ (chunk : Chunk). size_of chunk.level) c held)

words_of_slots : (slots : List ℕ) → sum_by (λ (area : ℕ × ℕ). area.1) (map area_of slots) ≡ length slots * node_words
words_of_slots [] = refl
words_of_slots (s ∷ slots) =
    omega (arith, sum_by-cons (λ (area : ℕ × ℕ). area.1) (area_of s) (map area_of slots), words_of_slots slots)

-- Held chunks have no more words than the reserved slots.
pub capacity_within : (policy : Policy) (slots : List ℕ) (held : List Chunk) → AreHeld policy slots held
    → capacity_of held ≤ length slots * node_words
capacity_within policy slots held good =
    omega (
      arith,
      words_of_chunks held,
      words_of_slots slots,
      packed (map words_of held) (map area_of slots) good.apart
          (covered_one_by_one (map words_of held) (map area_of slots)
          (all_in_slots slots held (recursion_from_All IsPlaced held good.parts) good.reserved)),
    )

-- A space of a machine has at most its slots.
at_index : (low n i d : ℕ) → i < n → get_or (range_with_len low n) i d ≡ low + i
at_index low zero i d h = absurd (omega arith)
at_index low (suc n) zero d h = omega arith
at_index low (suc n) (suc i) d h = at_index (low + 1) n i d (omega arith) ∙ omega arith

pub few_slots : (space : Space) (m : Machine) → IsSoundPool (pool_of space m)
    → length (slots_in space m) ≤ most_slots space
few_slots NonClass m sound =
    length-le_from_below 64 m.slots (sorted_from_strictly_increasing m.slots sound.slots) sound.below
few_slots Class m sound = omega (arith, length-range_with_len 64 nodes, few nodes sound.below)
  where
    nodes : ℕ
    nodes = m.limits.class_nodes

    few : (n : ℕ) → All (IsSlotOf Class) (range_with_len 64 n) → n ≤ 16
    few n below = elim (cases_lt 16 n) [
      | inl more ↦
          absurd (omega
          (arith, at_index 64 n 16 0 more, (below 16 0 (omega (arith, length-range_with_len 64 n, more))).1))
      | inr less ↦ less
    ]

-- Fronts are within their chunks, and tops within fronts.
pub fronts_within : (policy : Policy) (held : List Chunk) → AllByRecursion (HasFront policy) held
    → fronts_of held ≤ capacity_of held
fronts_within policy [] fronts = omega arith
fronts_within policy (c ∷ held) fronts =
    omega (
      arith,
      sum_by-cons (λ (chunk : Chunk). chunk.front) c held,
      sum_by-cons (λ (chunk : Chunk). size_of chunk.level) c held,
      fronts.0.within,
      fronts_within policy held fronts.1,
    )

tops_within : (chunks : List Chunk) (tops : List ℕ) → length tops ≤ length chunks
    → list_all (λ (used : Chunk × ℕ). nat_le used.1 used.0.front) (zip chunks tops) ≡ true → sum tops ≤ fronts_of chunks
tops_within chunks [] few h = omega arith
tops_within [] (t ∷ tops) few h = absurd (omega arith)
tops_within (c ∷ chunks) (t ∷ tops) few h =
    let both =
    and_parts (nat_le t c.front) (list_all (λ (used : Chunk × ℕ). nat_le used.1 used.0.front) (zip chunks tops)) h
    in
    omega (
      arith,
      sum_by-cons (λ (top : ℕ). top) t tops,
      sum_by-cons (λ (chunk : Chunk). chunk.front) c chunks,
      leb-true t c.front both.0,
      tops_within chunks tops (omega arith) both.1,
    )

-- The used words of loaders are within the fronts of their chunks.
abbrev chunks_of_all : Space → List LoaderState → List Chunk
chunks_of_all space loaders = flat_map (λ (loader : LoaderState). (arena_of space loader).chunks) loaders

pub used_within : (space : Space) (loaders : List LoaderState) → AllByRecursion IsSoundLoader loaders
    → sum_by (λ (loader : LoaderState). used_of (arena_of space loader)) loaders
    ≤ fronts_of (chunks_of_all space loaders)
used_within space [] sound = omega arith
used_within space (l ∷ loaders) sound =
    let arena = arena_of space l in
    omega (
      arith,
      sum_by-cons (λ (loader : LoaderState). used_of (arena_of space loader)) l loaders,
      sum_by-append (λ (chunk : Chunk). chunk.front) arena.chunks (chunks_of_all space loaders),
      tops_within arena.chunks arena.tops (sound.0.arenas space).few (sound.0.arenas space).tops,
      used_within space loaders sound.1,
    )

-- The words below tops are areas where blocks lie.
abbrev used_area : Chunk × ℕ → ℕ × ℕ
used_area used = (used.0.start, used.1)

words_of_tops : (chunks : List Chunk) (tops : List ℕ) → length tops ≤ length chunks
    → sum_by (λ (area : ℕ × ℕ). area.1) (map used_area (zip chunks tops)) ≡ sum tops
words_of_tops [] [] few = refl
words_of_tops [] (t ∷ tops) few = absurd (omega arith)
words_of_tops (c ∷ chunks) [] few = refl
words_of_tops (c ∷ chunks) (t ∷ tops) few =
    omega (
      arith,
      sum_by-cons (λ (area : ℕ × ℕ). area.1) (used_area (c, t)) (map used_area (zip chunks tops)),
      sum_by-cons (λ (top : ℕ). top) t tops,
      words_of_tops chunks tops (omega arith),
    )

in_used_area : (run : ℕ × ℕ) (used : List (Chunk × ℕ))
    → list_any (λ (area : ℕ × ℕ). lies_in run area) (map used_area used)
    ≡ list_any (λ (u : Chunk × ℕ). lies_in run (u.0.start, u.1)) used
in_used_area run [] = refl
in_used_area run (u ∷ used) = ap (λ b. lies_in run (used_area u) || b) (in_used_area run used)

all_in_used : (arena : ArenaState) (runs : List (ℕ × ℕ)) → list_all (is_in_use arena) runs ≡ true
    → list_all (λ (run : ℕ × ℕ). list_any (λ (area : ℕ × ℕ). lies_in run area) (map used_area (topped arena))) runs
    ≡ true
all_in_used arena [] h = refl
all_in_used arena (run ∷ runs) h =
    let both = and_parts (is_in_use arena run) (list_all (is_in_use arena) runs) h in
    and_from (list_any (λ (area : ℕ × ℕ). lies_in run area) (map used_area (topped arena)))
    (list_all (λ (r : ℕ × ℕ). list_any (λ (area : ℕ × ℕ). lies_in r area) (map used_area (topped arena))) runs)
    (in_used_area run (topped arena) ∙ both.0) (all_in_used arena runs both.1)

-- Live and free blocks have no more words than are in use.
pub blocks_within : (arena : ArenaState) (live : List (ℕ × ℕ)) → IsSound arena live
    → sum_by (λ (run : ℕ × ℕ). run.1) live + kept_of arena ≤ used_of arena
blocks_within arena live sound =
    omega (
      arith,
      sum_by-append (λ (run : ℕ × ℕ). run.1) live arena.kept,
      words_of_tops arena.chunks arena.tops sound.few,
      packed (live ++ arena.kept) (map used_area (topped arena)) sound.apart
          (covered_one_by_one (live ++ arena.kept) (map used_area (topped arena))
          (all_in_used arena (live ++ arena.kept) sound.inside)),
    )

pub all_blocks_within : (space : Space) (loaders : List LoaderState) → AllByRecursion IsSoundLoader loaders
    → sum_by (live_in space) loaders + sum_by (λ (loader : LoaderState). kept_of (arena_of space loader)) loaders
    ≤ sum_by (λ (loader : LoaderState). used_of (arena_of space loader)) loaders
all_blocks_within space [] sound = omega arith
all_blocks_within space (l ∷ loaders) sound =
    omega (
      arith,
      sum_by-cons (live_in space) l loaders,
      sum_by-cons (λ (loader : LoaderState). kept_of (arena_of space loader)) l loaders,
      sum_by-cons (λ (loader : LoaderState). used_of (arena_of space loader)) l loaders,
      blocks_within (arena_of space l) (runs_in space l.blocks) (sound.0.arenas space),
      all_blocks_within space loaders sound.1,
    )

-- Committed granules have no more words than the slots.
pub committed_within_slots : (pool : PoolState) → IsSoundPool pool
    → length pool.committed * granule_in pool ≤ length pool.slots * node_words
committed_within_slots pool sound =
    omega (
      arith,
      mul-le (length pool.committed) (granule_in pool) (length pool.slots * (node_words / granule_in pool))
          (granule_in pool)
          (omega (
            arith,
            ap length sound.committed,
            committed_at_most (is_committed_now pool.limits.policy pool.committed pool.held)
                (granule_in pool) pool.slots,
          )) (omega arith),
      mul_assoc (length pool.slots) (node_words / granule_in pool) (granule_in pool),
      mul-le (length pool.slots) (node_words / granule_in pool * granule_in pool) (length pool.slots) node_words
          (omega arith)
          (omega (arith, granules_make_nodes pool.limits.policy)),
    )

-- So each sum is at most the words of all nodes of its space.
pub capacity_below : (space : Space) (m : Machine) → IsGood m
    → capacity_of (pool_of space m).held ≤ most_slots space * node_words
capacity_below space m good =
    omega (
      arith,
      capacity_within m.limits.policy (slots_in space m) (pool_of space m).held (good.pools space).held,
      few_slots space m (good.pools space),
    )

pub used_below : (space : Space) (m : Machine) → IsGood m → used_words space m ≤ most_slots space * node_words
used_below space m good =
    omega (
      arith,
      used_within space (values_of m.loaders) (recursion_from_All IsSoundLoader (values_of m.loaders) good.loaders),
      fronts_within m.limits.policy (pool_of space m).held
          (recursion_from_All (HasFront m.limits.policy) (pool_of space m).held (good.pools space).held.fronts),
      capacity_below space m good,
    )

pub committed_below : (space : Space) (m : Machine) → IsGood m → committed_words space m ≤ most_slots space * node_words
committed_below space m good =
    omega (arith, committed_within_slots (pool_of space m) (good.pools space), few_slots space m (good.pools space))

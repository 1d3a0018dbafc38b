-- The totals of a system are the sums over its machine: what loaders hold is what the pool has
-- lent, and can be counted. `System::totals` uses these.
use Rattle.std.proofs.Common.{◌≡◌, ◌≤◌, ◌<◌, ◌-◌, ◌*◌, ◌^◌, ℕ, suc, List, [], ◌∷◌, length, map, refl, sym, ap, ◌∙◌}
use Rattle.std.proofs.Common.{arith, length-append}
use Rattle.std.specs.List.{sum_by}
use Rattle.std.specs.Map.{values_of}
use Rattle.std.proofs.lemmas.List.Elements.{recursion_from_All}
use Rattle.std.proofs.lemmas.List.Sums.{sum_by-cons}
use Rattle.ms_base.specs.declared.kind.Space.{Space}
use Rattle.ms_base.specs.declared.kind.Space.TheVariants.{NonClass, Class}
use Rattle.ms_base.specs.Part.{node_words}
use Rattle.ms_base.specs.Policy.{granule_of}
use Rattle.ms_base.specs.Spaces.{most_slots}
use Rattle.ms_base.specs.State.{LoaderState, Machine, arena_of, chunks_held, pool_of}
use Rattle.ms_base.specs.Good.{IsGood}
use Rattle.ms_base.specs.Totals.{LoaderRow, PoolSums, SpaceSums, Sums, committed_words, pool_sums, row_of}
use Rattle.ms_base.specs.Totals.{space_sums, sums_of}
use Rattle.ms_base.proofs.free.OrderLemmas.{sums_alike}
use Rattle.ms_base.proofs.machine.SumLemmas.{capacity_below, committed_below, used_below}
use Rattle.ms_pool.specs.Ledger.{Ledger, state_in}
use Rattle.ms_pool.proofs.ledger.AccountLemmas.{sized}
use Rattle.ms_loader.specs.Loader.{LoaderView}
use Rattle.ms_loaders.specs.System.{states_of, machine_of, AreTogether}
use Rattle.ms_loaders.specs.Collecting.{AreFew, AreInUse, chunks_in, space_made}
use Rattle.ms_loaders.specs.declared.in_use.InUse.{InUse}
use Rattle.ms_loaders.proofs.sums.FitLemmas.{fits}

-- The chunks of all loaders are as many as their numbers come to.
held_are : (space : Space) (loaders : List (ℕ × LoaderState)) → length (chunks_held space loaders)
    ≡ sum_by (chunks_in space) (values_of loaders)
held_are space [] = refl
held_are space (e ∷ es) = omega (
  arith,
  length-append (arena_of space e.1).chunks (chunks_held space es),
  sum_by-cons (chunks_in space) e.1 (values_of es),
  held_are space es,
)

-- There are as many states as loaders.
pub as_many : (loaders : List (ℕ × LoaderView)) → length loaders ≡ length (states_of loaders)
as_many [] = refl
as_many (e ∷ es) = ap suc (as_many es)

few_slots : (space : Space) → most_slots space ≤ 64
few_slots NonClass = omega arith
few_slots Class = omega arith

-- Each has 128 words at least, so they are few; and so are the words in use.
pub are_few : (m : Machine) → IsGood m → AreFew m.loaders
are_few m good = record {
  chunks = λ space. omega (
    arith,
    held_are space m.loaders,
    sized (pool_of space m).held (recursion_from_All _ (pool_of space m).held (good.pools space).held.parts),
    capacity_below space m good,
    few_slots space,
  );
  words = λ space. omega (arith, used_below space m good, few_slots space);
}

-- What the pool tells of a space is told of the machine's.
pub pool_tells : (ledger : Ledger) (loaders : List (ℕ × LoaderView)) → AreTogether ledger loaders → (space : Space)
    (accounts : ℕ)
    → pool_sums (state_in space ledger) accounts ≡ pool_sums (pool_of space (machine_of ledger loaders)) accounts
pool_tells ledger loaders its space accounts =
    sym (sums_alike (state_in space ledger) (chunks_held space (states_of loaders)) accounts
    (fits ledger loaders its.loaders_sound its.served space))

-- So the sums of a space are the machine's.
space_with : PoolSums → ℕ → ℕ → ℕ → ℕ → ℕ → SpaceSums
space_with pool words chunks used live free_blocks = record {
  nodes = pool.nodes;
  reserved = pool.nodes * node_words;
  granules = pool.granules;
  committed = pool.granules * words;
  chunks = chunks;
  capacity = pool.capacity;
  fronts = pool.fronts;
  used = used;
  live = live;
  free_blocks = free_blocks;
  waste = used - live - free_blocks;
  held = pool.lent;
  free = pool.free;
}

pub space_is : (space : Space) (m : Machine) (pool : PoolSums) (words accounts : ℕ) (in_use : InUse)
    → pool ≡ pool_sums (pool_of space m) accounts → words ≡ granule_of m.limits.policy → AreInUse space in_use m.loaders
    → space_made pool words in_use ≡ space_sums space m
unfolding space_with
space_is space m pool words accounts in_use pool_is words_are its =
    let is : PoolSums = pool_sums (pool_of space m) accounts in
    let all : SpaceSums = space_sums space m in
    let granule : ℕ = granule_of m.limits.policy in
    let chunks : in_use.chunks ≡ all.chunks = its.chunks ∙ sym (held_are space m.loaders) in
    ap (λ (p : PoolSums). space_with p words in_use.chunks in_use.used in_use.live in_use.free_blocks) pool_is
    ∙ ap (λ (n : ℕ). space_with is n in_use.chunks in_use.used in_use.live in_use.free_blocks) words_are
    ∙ ap (λ (n : ℕ). space_with is granule n in_use.used in_use.live in_use.free_blocks) chunks
    ∙ ap (λ (n : ℕ). space_with is granule all.chunks n in_use.live in_use.free_blocks) its.used
    ∙ ap (λ (n : ℕ). space_with is granule all.chunks all.used n in_use.free_blocks) its.live
    ∙ ap (λ (n : ℕ). space_with is granule all.chunks all.used all.live n) its.free_blocks

-- The committed words can be counted.
pub committed_few : (space : Space) (m : Machine) (pool : PoolSums) (words accounts : ℕ) → IsGood m
    → pool ≡ pool_sums (pool_of space m) accounts → words ≡ granule_of m.limits.policy → pool.granules * words < 2 ^ 64
committed_few space m pool words accounts good pool_is words_are =
    let same : pool.granules * words ≡ committed_words space m =
    ap (λ (p : PoolSums). p.granules * words) pool_is
    ∙ ap (λ (n : ℕ). (pool_sums (pool_of space m) accounts).granules * n) words_are in
    omega (arith, same, committed_below space m good, few_slots space)

-- All together.
abbrev pub sums_with : ℕ → SpaceSums → SpaceSums → List LoaderRow → Sums
sums_with loaders space class_space rows =
    record { loaders = loaders; space = space; class_space = class_space; rows = rows }

pub sums_are : (m : Machine) (loaders : ℕ) (space class_space : SpaceSums) (rows : List LoaderRow)
    → loaders ≡ length m.loaders → space ≡ space_sums NonClass m → class_space ≡ space_sums Class m
    → rows ≡ map row_of m.loaders
    → sums_with loaders space class_space rows ≡ sums_of m
sums_are m loaders space class_space rows count first second each =
    ap (λ (n : ℕ). sums_with n space class_space rows) count
    ∙ ap (λ (s : SpaceSums). sums_with (length m.loaders) s class_space rows) first
    ∙ ap (λ (s : SpaceSums). sums_with (length m.loaders) (space_sums NonClass m) s rows) second
    ∙ ap (sums_with (length m.loaders) (space_sums NonClass m) (space_sums Class m)) each

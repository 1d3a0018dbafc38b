-- Live blocks lie in committed words of chunks of their own loader, and share none.
use Rattle.std.proofs.Common.{◌≡◌, ◌≤◌, ◌*◌, ℕ, Bool, true, Some, List, [], ◌∷◌, ◌++◌}
use Rattle.std.proofs.Common.{length, sym, ap, ◌∙◌, arith, inl, inr}
use Rattle.std.specs.Prelude.{nat_le}
use Rattle.std.specs.List.{list_any, list_all, zip}
use Rattle.std.proofs.lemmas.Bool.{and_parts, or_left, or_right, or_cases, leb-true}
use Rattle.std.proofs.lemmas.Bool.Decides.{nat_tests}
use Rattle.std.proofs.lemmas.List.Folds.{list_any-append, list_all-append}
use Rattle.ms_base.specs.Policy.{granule_of}
use Rattle.ms_base.specs.declared.span.Chunk.{Chunk}
use Rattle.ms_base.specs.Live.{LiveBlock}
use Rattle.ms_base.specs.declared.kind.Space.{Space}
use Rattle.ms_base.specs.Spaces.{is_in, space_at}
use Rattle.ms_base.specs.Interval.{meet, lies_in}
use Rattle.ms_base.specs.Names.{named}
use Rattle.ms_base.specs.State.{ArenaState, LoaderState, Machine, arena_of, chunks_held, pool_of}
use Rattle.ms_base.specs.Live.{run_of, runs_in}
use Rattle.ms_base.specs.Good.{is_in_use, IsSoundLoader, IsGood}
use Rattle.ms_base.specs.Transition.{HasBlock}
use Rattle.ms_base.specs.Laws.Block.{lies_in_own_front, IsBacked}
use Rattle.ms_base.proofs.entries.EntryLemmas.{split_at}
use Rattle.ms_base.proofs.machine.GoodLemmas.{chunks_split, loader_is_sound}
use Rattle.ms_base.proofs.arena.BlockLemmas.{in_its_space, run_in_here, runs_in_split}
use Rattle.ms_base.proofs.granules.GranuleLemmas.{committed_where_front}

-- What lies in the first words of an area lies in more of them.
pub further : (r m a t f : ℕ) → lies_in (r, m) (a, t) ≡ true → t ≤ f → lies_in (r, m) (a, f) ≡ true
further r m a t f h k = grind (arith, nat_tests)

-- A run in use lies within the front of a chunk.
pub in_use_in_front : (run : ℕ × ℕ) (chunks : List Chunk) (tops : List ℕ)
    → list_all (λ (used : Chunk × ℕ). nat_le used.1 used.0.front) (zip chunks tops) ≡ true
    → list_any (λ (used : Chunk × ℕ). lies_in run (used.0.start, used.1)) (zip chunks tops) ≡ true
    → list_any (λ (chunk : Chunk). lies_in run (chunk.start, chunk.front)) chunks ≡ true
in_use_in_front run [] tops tops_in h = absurd (cc)
in_use_in_front run (c ∷ chunks) [] tops_in h = absurd (cc)
in_use_in_front run (c ∷ chunks) (t ∷ tops) tops_in h =
    let low =
    and_parts (nat_le t c.front) (list_all (λ (used : Chunk × ℕ). nat_le used.1 used.0.front) (zip chunks tops))
    tops_in in
    let rest = list_any (λ (chunk : Chunk). lies_in run (chunk.start, chunk.front)) chunks in
    elim (or_cases (lies_in run (c.start, t))
    (list_any (λ (used : Chunk × ℕ). lies_in run (used.0.start, used.1)) (zip chunks tops)) h) [
      | inl here ↦ or_left (lies_in run (c.start, c.front)) rest
          (further run.0 run.1 c.start t c.front here (leb-true t c.front low.0))
      | inr later ↦ or_right (lies_in run (c.start, c.front)) rest (in_use_in_front run chunks tops low.1 later)
    ]

-- The runs of a space, a block of which is this one.
pub runs_with_block : (space : Space) (loader : LoaderState) (block : ℕ) (found : LiveBlock)
    (has : named loader.blocks block ≡ Some found)
    → is_in space found.start ≡ true
    → runs_in space loader.blocks ≡ runs_in space (split_at loader.blocks block found has).before ++ run_of found
    ∷ runs_in space (split_at loader.blocks block found has).after
runs_with_block space loader block found has here =
    let split = split_at loader.blocks block found has in
    ap (runs_in space) split.is ∙ runs_in_split space split.before split.after block found
    ∙ ap (λ (l : List (ℕ × ℕ)). runs_in space split.before ++ (l ++ runs_in space split.after))
    (run_in_here space found here)

-- What holds of all runs of an arena holds of a live block of its space.
of_block : (space : Space) (p : ℕ × ℕ → Bool) (loader : LoaderState) (block : ℕ) (found : LiveBlock)
    → named loader.blocks block ≡ Some found → is_in space found.start ≡ true
    → list_all p (runs_in space loader.blocks ++ (arena_of space loader).kept) ≡ true → p (run_of found) ≡ true
of_block space p loader block found has here h =
    let split = split_at loader.blocks block found has in
    let kept = (arena_of space loader).kept in
    let b = runs_in space split.before in
    let a = runs_in space split.after in
    let live =
    (and_parts (list_all p (runs_in space loader.blocks)) (list_all p kept)
    (sym (list_all-append p (runs_in space loader.blocks) kept) ∙ h)).0 in
    let parts = rw (runs_with_block space loader block found has here) at live in
    (and_parts (p (run_of found)) (list_all p a)
    (and_parts (list_all p b) (list_all p (run_of found ∷ a))
    (sym (list_all-append p b (run_of found ∷ a)) ∙ parts)).1).0

pub block_in_own_front : (loader : LoaderState) (block : ℕ) (found : LiveBlock) → named loader.blocks block ≡ Some found
    → IsSoundLoader loader → lies_in_own_front loader found ≡ true
block_in_own_front loader block found has sound =
    in_use_in_front (run_of found) arena.chunks arena.tops (sound.arenas space).tops
    (of_block space (is_in_use arena) loader block found has (in_its_space found.start) (sound.arenas space).inside)
  where
    space : Space
    space = space_at found.start

    arena : ArenaState
    arena = arena_of space loader

-- A granule that meets a run within a front meets the front.
front_meets : (run : ℕ × ℕ) (chunks : List Chunk) (g n : ℕ)
    → list_any (λ (chunk : Chunk). lies_in run (chunk.start, chunk.front)) chunks ≡ true → meet run.0 run.1 g n ≡ true
    → list_any (λ (chunk : Chunk). meet chunk.start chunk.front g n) chunks ≡ true
front_meets run [] g n h meets = absurd (cc)
front_meets run (c ∷ chunks) g n h meets =
    let rest = list_any (λ (chunk : Chunk). meet chunk.start chunk.front g n) chunks in
    elim (or_cases (lies_in run (c.start, c.front))
    (list_any (λ (chunk : Chunk). lies_in run (chunk.start, chunk.front)) chunks) h) [
      | inl here ↦ or_left (meet c.start c.front g n) rest (wider run.0 run.1 c.start c.front g n here meets)
      | inr later ↦ or_right (meet c.start c.front g n) rest (front_meets run chunks g n later meets)
    ]
  where
    wider : (r m a f g n : ℕ) → lies_in (r, m) (a, f) ≡ true → meet r m g n ≡ true → meet a f g n ≡ true
    wider r m a f g n h k = grind (arith, nat_tests)

-- What some chunk of a loader passes, some held chunk does.
pub any_of_loader : (space : Space) (p : Chunk → Bool) (loaders : List (ℕ × LoaderState)) (name : ℕ) (loader : LoaderState)
    → named loaders name ≡ Some loader → list_any p (arena_of space loader).chunks ≡ true
    → list_any p (chunks_held space loaders) ≡ true
any_of_loader space p loaders name loader found h =
    let split = split_at loaders name loader found in
    let own = (arena_of space loader).chunks in
    let b = chunks_held space split.before in
    let a = chunks_held space split.after in
    rw (ap (chunks_held space) split.is ∙ chunks_split space split.before split.after name loader)
    (list_any-append p b (own ++ a) ∙ or_right (list_any p b) (list_any p (own ++ a))
    (list_any-append p own a ∙ or_left (list_any p own) (list_any p a) h))

pub block_is_backed : (m : Machine) (name block : ℕ) (loader : LoaderState) (found : LiveBlock) → IsGood m
    → HasBlock m name block loader found → IsBacked m loader found
block_is_backed m name block loader found good has =
    let sound = loader_is_sound m name loader has.loader_is good in
    let own = block_in_own_front loader block found has.block_is sound in
    let granule = granule_of m.limits.policy in
    record {
      long = leb-true 2 (length found.contents)
          (of_block (space_at found.start) (λ (run : ℕ × ℕ). nat_le 2 run.1) loader block found has.block_is
          (in_its_space found.start)
          (sound.arenas (space_at found.start)).long);
      own = own;
      committed =
          λ number meets. committed_where_front (pool_of (space_at found.start) m) number
          (good.pools (space_at found.start))
          (any_of_loader (space_at found.start)
          (λ (chunk : Chunk). meet chunk.start chunk.front (number * granule) granule) m.loaders name loader
          has.loader_is
          (front_meets (run_of found) (arena_of (space_at found.start) loader).chunks (number * granule) granule own
          meets));
    }

-- The live and free blocks of all loaders together share no word: each lies in a front of a chunk
-- of its own loader, and chunks share none.
use Rattle.std.proofs.Common.{◌≡◌, ℕ, true, false, not, List, [], ◌∷◌, ◌++◌, map, refl, ◌∙◌}
use Rattle.std.specs.Prelude.{nat_le}
use Rattle.std.specs.List.{AllByRecursion, list_all, flat_map}
use Rattle.std.specs.Map.{values_of}
use Rattle.std.proofs.lemmas.Bool.{and_parts, and_from, or_from, or_left, or_right, not-true, not_from_false}
use Rattle.std.proofs.lemmas.List.{map-append}
use Rattle.std.proofs.lemmas.List.Folds.{list_any-append, list_all-append}
use Rattle.std.proofs.lemmas.List.Elements.{recursion_from_All}
use Rattle.ms_base.specs.declared.policy.Policy.{Policy}
use Rattle.ms_base.specs.declared.span.Chunk.{Chunk}
use Rattle.ms_base.specs.declared.kind.Space.{Space}
use Rattle.ms_base.specs.Spaces.{words_of_space}
use Rattle.ms_base.specs.Interval.{meet, meets_any, are_apart, lies_in}
use Rattle.ms_base.specs.Front.{HasFront}
use Rattle.ms_base.specs.Held.{words_of}
use Rattle.ms_base.specs.State.{ArenaState, LoaderState, Machine, arena_of, chunks_held, pool_of}
use Rattle.ms_base.specs.Live.{runs_in}
use Rattle.ms_base.specs.Good.{topped, is_in_use, IsSoundLoader, IsGood}
use Rattle.ms_base.specs.Laws.Block.{all_blocks, IsPacked}
use Rattle.ms_base.proofs.runs.ApartLemmas.{later-apart}
use Rattle.ms_base.proofs.machine.BackedLemmas.{in_use_in_front}
use Rattle.ms_base.proofs.machine.BlockSpaceLemmas.{run_in_space}
use Rattle.ms_base.proofs.machine.BlocksApartLemmas.{apart_in_parts, some_front}

-- A loader's live and free blocks in a space, and the chunks of several loaders there.
abbrev blocks_of : Space → LoaderState → List (ℕ × ℕ)
blocks_of space loader = runs_in space loader.blocks ++ (arena_of space loader).kept

abbrev chunks_of : Space → List LoaderState → List Chunk
chunks_of space loaders = flat_map (λ (loader : LoaderState). (arena_of space loader).chunks) loaders

-- Each lies in a front.
in_fronts : (arena : ArenaState) (runs : List (ℕ × ℕ))
    → list_all (λ (used : Chunk × ℕ). nat_le used.1 used.0.front) (topped arena) ≡ true
    → list_all (is_in_use arena) runs ≡ true → list_all (some_front arena.chunks) runs ≡ true
in_fronts arena [] tops h = refl
in_fronts arena (run ∷ runs) tops h =
    let both = and_parts (is_in_use arena run) (list_all (is_in_use arena) runs) h in
    and_from (some_front arena.chunks run) (list_all (some_front arena.chunks) runs)
    (in_use_in_front run arena.chunks arena.tops tops both.0) (in_fronts arena runs tops both.1)

-- What lies in a front of some chunks lies in one of more.
in_more_before : (chunks more : List Chunk) (runs : List (ℕ × ℕ)) → list_all (some_front chunks) runs ≡ true
    → list_all (some_front (chunks ++ more)) runs ≡ true
in_more_before chunks more [] h = refl
in_more_before chunks more (run ∷ runs) h =
    let both = and_parts (some_front chunks run) (list_all (some_front chunks) runs) h in
    and_from (some_front (chunks ++ more) run) (list_all (some_front (chunks ++ more)) runs)
    (list_any-append (λ (c : Chunk). lies_in run (c.start, c.front)) chunks more
    ∙ or_left (some_front chunks run) (some_front more run) both.0)
    (in_more_before chunks more runs both.1)

in_more_after : (more chunks : List Chunk) (runs : List (ℕ × ℕ)) → list_all (some_front chunks) runs ≡ true
    → list_all (some_front (more ++ chunks)) runs ≡ true
in_more_after more chunks [] h = refl
in_more_after more chunks (run ∷ runs) h =
    let both = and_parts (some_front chunks run) (list_all (some_front chunks) runs) h in
    and_from (some_front (more ++ chunks) run) (list_all (some_front (more ++ chunks)) runs)
    (list_any-append (λ (c : Chunk). lies_in run (c.start, c.front)) more chunks
    ∙ or_right (some_front more run) (some_front chunks run) both.0)
    (in_more_after more chunks runs both.1)

all_in_fronts : (space : Space) (loaders : List LoaderState) → AllByRecursion IsSoundLoader loaders
    → list_all (some_front (chunks_of space loaders)) (flat_map (blocks_of space) loaders) ≡ true
all_in_fronts space [] sound = refl
all_in_fronts space (l ∷ loaders) sound =
    let its = some_front (chunks_of space (l ∷ loaders)) in
    let rest = flat_map (blocks_of space) loaders in
    list_all-append its (blocks_of space l) rest
    ∙ and_from (list_all its (blocks_of space l)) (list_all its rest)
    (in_more_before (arena_of space l).chunks (chunks_of space loaders) (blocks_of space l)
    (in_fronts (arena_of space l) (blocks_of space l) (sound.0.arenas space).tops (sound.0.arenas space).inside))
    (in_more_after (arena_of space l).chunks (chunks_of space loaders) rest (all_in_fronts space loaders sound.1))

-- Runs in fronts of some chunks meet none in fronts of the others.
meets_none_of : (policy : Policy) (own others : List Chunk) (run : ℕ × ℕ) (runs : List (ℕ × ℕ))
    → AllByRecursion (HasFront policy) own → AllByRecursion (HasFront policy) others
    → are_apart (map words_of own ++ map words_of others) ≡ true → some_front own run ≡ true
    → list_all (some_front others) runs ≡ true → meets_any run runs ≡ false
meets_none_of policy own others run [] fronts more apart h k = refl
meets_none_of policy own others run (other ∷ runs) fronts more apart h k =
    let both = and_parts (some_front others other) (list_all (some_front others) runs) k in
    or_from (meet run.0 run.1 other.0 other.1) (meets_any run runs)
    (apart_in_parts policy [] own others run other fronts more apart h both.0)
    (meets_none_of policy own others run runs fronts more apart h both.1)

-- So they are apart together where each of both are.
apart_together : (policy : Policy) (own others : List Chunk) (mine runs : List (ℕ × ℕ))
    → AllByRecursion (HasFront policy) own → AllByRecursion (HasFront policy) others
    → are_apart (map words_of own ++ map words_of others) ≡ true → list_all (some_front own) mine ≡ true
    → list_all (some_front others) runs ≡ true → are_apart mine ≡ true → are_apart runs ≡ true
    → are_apart (mine ++ runs) ≡ true
apart_together policy own others [] runs fronts more apart h k mine_apart runs_apart = runs_apart
apart_together policy own others (run ∷ mine) runs fronts more apart h k mine_apart runs_apart =
    let its = and_parts (some_front own run) (list_all (some_front own) mine) h in
    let first = and_parts (not (meets_any run mine)) (are_apart mine) mine_apart in
    let clear : meets_any run (mine ++ runs) ≡ false =
    list_any-append (λ (other : ℕ × ℕ). meet run.0 run.1 other.0 other.1) mine runs
    ∙ or_from (meets_any run mine) (meets_any run runs) (not-true (meets_any run mine) first.0)
    (meets_none_of policy own others run runs fronts more apart its.0 k) in
    and_from (not (meets_any run (mine ++ runs))) (are_apart (mine ++ runs))
    (not_from_false (meets_any run (mine ++ runs)) clear)
    (apart_together policy own others mine runs fronts more apart its.1 k first.1 runs_apart)

-- What holds of each of two parts together holds of each of either.
parts_of : (P : Chunk → Type 0) (xs ys : List Chunk) → AllByRecursion P (xs ++ ys)
    → AllByRecursion P xs × AllByRecursion P ys
parts_of P [] ys all = (tt, all)
parts_of P (x ∷ xs) ys all = let rest = parts_of P xs ys all.1 in ((all.0, rest.0), rest.1)

apart_by_loader : (space : Space) (policy : Policy) (loaders : List LoaderState) → AllByRecursion IsSoundLoader loaders
    → AllByRecursion (HasFront policy) (chunks_of space loaders)
    → are_apart (map words_of (chunks_of space loaders)) ≡ true
    → are_apart (flat_map (blocks_of space) loaders) ≡ true
apart_by_loader space policy [] sound fronts apart = refl
apart_by_loader space policy (l ∷ loaders) sound fronts apart =
    let own = (arena_of space l).chunks in
    let others = chunks_of space loaders in
    let both = parts_of (HasFront policy) own others fronts in
    let chunks = rw (map-append words_of own others) at apart in
    apart_together policy own others (blocks_of space l) (flat_map (blocks_of space) loaders) both.0 both.1 chunks
    (in_fronts (arena_of space l) (blocks_of space l) (sound.0.arenas space).tops (sound.0.arenas space).inside)
    (all_in_fronts space loaders sound.1) (sound.0.arenas space).apart
    (apart_by_loader space policy loaders sound.1 both.1 (later-apart (map words_of own) (map words_of others) chunks))

all_in_space : (space : Space) (m : Machine) (runs : List (ℕ × ℕ)) → IsGood m
    → list_all (some_front (chunks_held space m.loaders)) runs ≡ true
    → list_all (λ (run : ℕ × ℕ). lies_in run (words_of_space space)) runs ≡ true
all_in_space space m [] good h = refl
all_in_space space m (run ∷ runs) good h =
    let both =
    and_parts (some_front (chunks_held space m.loaders) run)
    (list_all (some_front (chunks_held space m.loaders)) runs) h in
    and_from (lies_in run (words_of_space space))
    (list_all (λ (other : ℕ × ℕ). lies_in other (words_of_space space)) runs)
    (run_in_space space m run good both.0) (all_in_space space m runs good both.1)

pub blocks_are_packed : (space : Space) (m : Machine) → IsGood m → IsPacked space m
blocks_are_packed space m good = record {
  inside = all_in_space space m (all_blocks space m) good
      (all_in_fronts space (values_of m.loaders) (recursion_from_All IsSoundLoader (values_of m.loaders) good.loaders));
  apart = apart_by_loader space m.limits.policy (values_of m.loaders)
      (recursion_from_All IsSoundLoader (values_of m.loaders) good.loaders)
      (recursion_from_All (HasFront m.limits.policy) (pool_of space m).held (good.pools space).held.fronts)
      (good.pools space).held.apart;
}

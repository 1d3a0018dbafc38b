-- Live blocks share no word, whichever loaders have them.
use Rattle.std.proofs.Common.{◌≡◌, ◌≤◌, ℕ, Bool, true, false, cond, not, Some, List, [], ◌∷◌, ◌++◌}
use Rattle.std.proofs.Common.{length, map, refl, sym, ap, ◌∙◌, arith, inl, inr}
use Rattle.std.specs.Ordering.{nat_cmp}
use Rattle.std.specs.List.{AllByRecursion, list_any}
use Rattle.std.specs.BTreeMap.{is_at}
use Rattle.std.proofs.lemmas.Bool.{and_parts, or_parts, or_from, or_cases, not-true}
use Rattle.std.proofs.lemmas.Bool.Decides.{nat_tests}
use Rattle.std.proofs.lemmas.List.{map-append, append_assoc}
use Rattle.std.proofs.lemmas.List.Folds.{list_any-append}
use Rattle.std.proofs.lemmas.List.Elements.{recursion_from_All}
use Rattle.ms_base.specs.declared.policy.Policy.{Policy}
use Rattle.ms_base.specs.declared.span.Chunk.{Chunk}
use Rattle.ms_base.specs.Live.{LiveBlock}
use Rattle.ms_base.specs.declared.kind.Space.{Space}
use Rattle.ms_base.specs.Spaces.{is_in}
use Rattle.ms_base.specs.Interval.{meet, meets_any, are_apart, lies_in}
use Rattle.ms_base.specs.Level.{size_of}
use Rattle.ms_base.specs.Front.{HasFront}
use Rattle.ms_base.specs.Names.{named}
use Rattle.ms_base.specs.Held.{words_of}
use Rattle.ms_base.specs.State.{LoaderState, Machine, arena_of, chunks_held}
use Rattle.ms_base.specs.Live.{run_of, runs_in}
use Rattle.ms_base.specs.Good.{IsSoundLoader, IsGood}
use Rattle.ms_base.specs.Transition.{HasLoader}
use Rattle.ms_base.proofs.entries.EntryLemmas.{Split, split_at, same_name}
use Rattle.ms_base.proofs.runs.ApartLemmas.{All-rest_of, All-middle_of, list_any-rest_of, apart-rest_of, list_any-with}
use Rattle.ms_base.proofs.runs.ApartLemmas.{meet_turned}
use Rattle.ms_base.proofs.machine.GoodLemmas.{chunks_split, chunks_joined}
use Rattle.ms_base.proofs.arena.BlockLemmas.{run_in_here, runs_in_split, runs_in_joined}
use Rattle.ms_base.proofs.machine.BackedLemmas.{runs_with_block, any_of_loader}

-- What stands under another name stands among the others.
named_past : {X : Type 0} (b : List (ℕ × X)) (name : ℕ) (value : X) (a : List (ℕ × X)) (other : ℕ) (found : X)
    → (name ≡ other → ⊥) → named (b ++ (name, value) ∷ a) other ≡ Some found → named (b ++ a) other ≡ Some found
named_past [] name value a other found differ h =
    elim (is_at (nat_cmp other) name) as (λ t. is_at (nat_cmp other) name ≡ t
    → cond t (Some value) (named a other) ≡ Some found → named a other ≡ Some found) [
      | true ↦ λ e h. absurd (differ (same_name other name e))
      | false ↦ λ e h. h
    ] refl h
named_past (e ∷ b) name value a other found differ h =
    elim (is_at (nat_cmp other) e.0) as (λ t. cond t (Some e.1) (named (b ++ (name, value) ∷ a) other) ≡ Some found
    → cond t (Some e.1) (named (b ++ a) other) ≡ Some found) [
      | true ↦ λ h. h
      | false ↦ λ h. named_past b name value a other found differ h
    ] h

-- What no run of blocks passes, the run of a block of the space doesn't.
not_of_block : (space : Space) (p : ℕ × ℕ → Bool) (blocks : List (ℕ × LiveBlock)) (block : ℕ) (found : LiveBlock)
    → named blocks block ≡ Some found → is_in space found.start ≡ true → list_any p (runs_in space blocks) ≡ false
    → p (run_of found) ≡ false
not_of_block space p blocks block found has here h =
    let split = split_at blocks block found has in
    let b = runs_in space split.before in
    let a = runs_in space split.after in
    let all =
    rw (ap (runs_in space) split.is ∙ runs_in_split space split.before split.after block found
    ∙ ap (λ l. b ++ (l ++ a)) (run_in_here space found here)) at h in
    (or_parts (p (run_of found)) (list_any p (b ++ a)) (sym (list_any-with p b (run_of found) a) ∙ all)).0

-- A run among others that are apart meets none of them.
pub middle_is_clear : (b : List (ℕ × ℕ)) (run : ℕ × ℕ) (a : List (ℕ × ℕ)) → are_apart (b ++ run ∷ a) ≡ true
    → meets_any run (b ++ a) ≡ false
middle_is_clear [] run a h = not-true (meets_any run a) (and_parts (not (meets_any run a)) (are_apart a) h).0
middle_is_clear (x ∷ b) run a h =
    let both = and_parts (not (meets_any x (b ++ run ∷ a))) (are_apart (b ++ run ∷ a)) h in
    let test : ℕ × ℕ → Bool = λ other. meet x.0 x.1 other.0 other.1 in
    let none =
    or_parts (test run) (list_any test (b ++ a))
    (sym (list_any-with test b run a) ∙ not-true (meets_any x (b ++ run ∷ a)) both.0) in
    or_from (meet run.0 run.1 x.0 x.1) (meets_any run (b ++ a)) (meet_turned run.0 run.1 x.0 x.1 ∙ none.0)
    (middle_is_clear b run a both.1)

-- Two blocks of one loader in one space.
pub apart_in_loader : (space : Space) (loader : LoaderState) (block : ℕ) (found : LiveBlock) (other_block : ℕ)
    (other : LiveBlock)
    → named loader.blocks block ≡ Some found → named loader.blocks other_block ≡ Some other → (block ≡ other_block → ⊥)
    → is_in space found.start ≡ true → is_in space other.start ≡ true
    → IsSoundLoader loader → meet found.start (length found.contents) other.start (length other.contents) ≡ false
apart_in_loader space loader block found other_block other has has_other differ here there sound =
    not_of_block space (λ (run : ℕ × ℕ). meet found.start (length found.contents) run.0 run.1)
    (split.before ++ split.after) other_block other
    (named_past split.before block found split.after other_block other differ (rw split.is at has_other)) there
    (rw (runs_in_joined space split.before split.after) live_clear)
  where
    split : Split loader.blocks block found
    split = split_at loader.blocks block found has

    b : List (ℕ × ℕ)
    b = runs_in space split.before

    a : List (ℕ × ℕ)
    a = runs_in space split.after

    kept : List (ℕ × ℕ)
    kept = (arena_of space loader).kept

    clear : meets_any (run_of found) (b ++ (a ++ kept)) ≡ false
    clear = middle_is_clear b (run_of found) (a ++ kept)
        (rw (ap (λ (l : List (ℕ × ℕ)). l ++ kept) (runs_with_block space loader block found has here)
        ∙ append_assoc b (run_of found ∷ a) kept) at (sound.arenas space).apart)

    live_clear : meets_any (run_of found) (b ++ a) ≡ false
    live_clear =
        (or_parts (meets_any (run_of found) (b ++ a)) (meets_any (run_of found) kept)
        (sym (list_any-append (λ (run : ℕ × ℕ). meet (run_of found).0 (run_of found).1 run.0 run.1) (b ++ a) kept)
        ∙ ap (meets_any (run_of found)) (append_assoc b a kept) ∙ clear)).0

-- Runs in the fronts of chunks that share no word share none.
inside_both : (a s f r m b t g k n : ℕ) → meet a s b t ≡ false → lies_in (r, m) (a, f) ≡ true → f ≤ s
    → lies_in (k, n) (b, g) ≡ true → g ≤ t → meet r m k n ≡ false
inside_both a s f r m b t g k n h i j l o = grind (arith, nat_tests)

abbrev pub some_front : List Chunk → ℕ × ℕ → Bool
some_front chunks run = list_any (λ (chunk : Chunk). lies_in run (chunk.start, chunk.front)) chunks

pub clear_of_others : (policy : Policy) (c : Chunk) (others : List Chunk) (run other : ℕ × ℕ)
    → lies_in run (c.start, c.front) ≡ true → c.front ≤ size_of c.level → AllByRecursion (HasFront policy) others
    → meets_any (words_of c) (map words_of others) ≡ false → some_front others other ≡ true
    → meet run.0 run.1 other.0 other.1 ≡ false
clear_of_others policy c [] run other inside within fronts clear h = absurd (cc)
clear_of_others policy c (d ∷ others) run other inside within fronts clear h =
    let none =
    or_parts (meet c.start (size_of c.level) d.start (size_of d.level))
    (meets_any (words_of c) (map words_of others)) clear in
    elim (or_cases (lies_in other (d.start, d.front)) (some_front others other) h) [
      | inl here ↦ inside_both c.start (size_of c.level) c.front run.0 run.1 d.start (size_of d.level) d.front other.0
          other.1 none.0 inside within here fronts.0.within
      | inr later ↦ clear_of_others policy c others run other inside within fronts.1 none.1 later
    ]

-- A run in the front of one of some chunks, and one in that of one of the others.
pub apart_in_parts : (policy : Policy) (b own a : List Chunk) (run other : ℕ × ℕ) → AllByRecursion (HasFront policy) own
    → AllByRecursion (HasFront policy) (b ++ a)
    → are_apart (map words_of b ++ (map words_of own ++ map words_of a)) ≡ true → some_front own run ≡ true
    → some_front (b ++ a) other ≡ true → meet run.0 run.1 other.0 other.1 ≡ false
apart_in_parts policy b [] a run other fronts others apart h k = absurd (cc)
apart_in_parts policy b (c ∷ own) a run other fronts others apart h k =
    elim (or_cases (lies_in run (c.start, c.front)) (some_front own run) h) [
      | inl here ↦ clear_of_others policy c (b ++ a) run other here fronts.0.within others
          (rw (map-append words_of b a)
          (list_any-rest_of (λ (r : ℕ × ℕ). meet c.start (size_of c.level) r.0 r.1) (map words_of b) (map words_of own)
          (map words_of a)
          (middle_is_clear (map words_of b) (words_of c) (map words_of own ++ map words_of a) apart))) k
      | inr later ↦ apart_in_parts policy b own a run other fronts.1 others
          (apart-rest_of (map words_of b) (words_of c ∷ []) (map words_of own ++ map words_of a) apart) later k
    ]

-- Two blocks of two loaders in one space.
pub apart_in_machine : (space : Space) (m : Machine) (name : ℕ) (loader : LoaderState) (run : ℕ × ℕ)
    (other_name : ℕ) (other_loader : LoaderState) (other : ℕ × ℕ) → IsGood m
    → HasLoader m name loader → HasLoader m other_name other_loader → (name ≡ other_name → ⊥)
    → some_front (arena_of space loader).chunks run ≡ true
    → some_front (arena_of space other_loader).chunks other ≡ true
    → meet run.0 run.1 other.0 other.1 ≡ false
apart_in_machine space m name loader run other_name other_loader other good has has_other differ own others =
    apart_in_parts m.limits.policy b chunks a run other
    (recursion_from_All (HasFront m.limits.policy) chunks
    (All-middle_of (HasFront m.limits.policy) b chunks a (rw all at (good.pools space).held.fronts)))
    (recursion_from_All (HasFront m.limits.policy) (b ++ a)
    (All-rest_of (HasFront m.limits.policy) b chunks a (rw all at (good.pools space).held.fronts)))
    (rw (all, map-append words_of b (chunks ++ a), map-append words_of chunks a) at (good.pools space).held.apart)
    own
    (rw (chunks_joined space split.before split.after) at
    (any_of_loader space (λ (chunk : Chunk). lies_in other (chunk.start, chunk.front)) (split.before ++ split.after)
    other_name other_loader
    (named_past split.before name loader split.after other_name other_loader differ (rw split.is at has_other)) others))
  where
    split : Split m.loaders name loader
    split = split_at m.loaders name loader has

    chunks : List Chunk
    chunks = (arena_of space loader).chunks

    b : List Chunk
    b = chunks_held space split.before

    a : List Chunk
    a = chunks_held space split.after

    all : chunks_held space m.loaders ≡ b ++ (chunks ++ a)
    all = ap (chunks_held space) split.is ∙ chunks_split space split.before split.after name loader

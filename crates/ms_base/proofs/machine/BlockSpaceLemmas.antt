-- A block that lies in a space shares no word with one of the other.
use Rattle.std.proofs.Common.{◌≡◌, ◌≤◌, ◌+◌, subst, ℕ, true, false, List, [], ◌∷◌}
use Rattle.std.proofs.Common.{refl, arith, inl, inr}
use Rattle.std.specs.Prelude.{◌==◌, ◌⊎◌}
use Rattle.std.specs.List.{AllByRecursion, list_all}
use Rattle.std.proofs.lemmas.Bool.{and_parts, or_cases}
use Rattle.std.proofs.lemmas.Bool.{eqb-true}
use Rattle.std.proofs.lemmas.Nat.{div-add-mod'}
use Rattle.std.proofs.lemmas.Bool.Decides.{nat_tests}
use Rattle.std.proofs.lemmas.List.Elements.{recursion_from_All}
use Rattle.ms_base.specs.declared.policy.Policy.{Policy}
use Rattle.ms_base.specs.declared.span.Chunk.{Chunk}
use Rattle.ms_base.specs.Live.{LiveBlock}
use Rattle.ms_base.specs.declared.kind.Space.{Space}
use Rattle.ms_base.specs.declared.kind.Space.TheVariants.{NonClass, Class}
use Rattle.ms_base.specs.Part.{IsPart, slot_of, is_reserved, node_words}
use Rattle.ms_base.specs.Spaces.{IsSlotOf, first_class_word, words_of_space, space_at}
use Rattle.ms_base.specs.Interval.{meet, lies_in}
use Rattle.ms_base.specs.Level.{size_of}
use Rattle.ms_base.specs.Front.{HasFront}
use Rattle.ms_base.specs.State.{LoaderState, Machine, slots_in, chunks_held}
use Rattle.ms_base.specs.Live.{run_of}
use Rattle.ms_base.specs.Good.{IsGood}
use Rattle.ms_base.specs.Transition.{HasBlock}
use Rattle.ms_base.proofs.machine.GoodLemmas.{loader_is_sound}
use Rattle.ms_base.proofs.granules.GranuleLemmas.{ends_in_node}
use Rattle.ms_base.proofs.machine.BlocksApartLemmas.{some_front}
use Rattle.ms_base.proofs.machine.BackedLemmas.{block_in_own_front, any_of_loader}
use Rattle.std.proofs.Common.{Some}
use Rattle.std.proofs.Common.{length, sym, ap, ◌∙◌}
use Rattle.ms_base.specs.Spaces.{is_in}
use Rattle.ms_base.specs.Names.{named}
use Rattle.ms_base.specs.State.{arena_of}
use Rattle.std.proofs.lemmas.Bool.{cases_eq}
use Rattle.ms_base.proofs.arena.BlockLemmas.{in_its_space}
use Rattle.ms_base.proofs.machine.BlocksApartLemmas.{apart_in_loader, apart_in_machine}

-- A run in the front of a held chunk lies in the words of the space.
slot_in : (space : Space) (slots : List ℕ) (slot : ℕ) → AllByRecursion (IsSlotOf space) slots
    → is_reserved slots slot ≡ true → IsSlotOf space slot
slot_in space [] slot below h = absurd (cc)
slot_in space (s ∷ slots) slot below h = elim (or_cases (s == slot) (is_reserved slots slot) h) [
  | inl here ↦ subst (IsSlotOf space) (eqb-true s slot here) below.0
  | inr later ↦ slot_in space slots slot below.1 later
]

within_words : (run : ℕ × ℕ) (start front size low n : ℕ) → lies_in run (start, front) ≡ true → front ≤ size
    → low ≤ start → start + size ≤ low + n
    → lies_in run (low, n) ≡ true
within_words run start front size low n h f l u = within run.0 run.1 start front size low n h f l u
  where
    within : (r k start front size low n : ℕ) → lies_in (r, k) (start, front) ≡ true → front ≤ size → low ≤ start
        → start + size ≤ low + n
        → lies_in (r, k) (low, n) ≡ true
    within r k start front size low n h f l u = grind (arith, nat_tests)

chunk_in_space : (space : Space) (run : ℕ × ℕ) (chunk : Chunk) → IsPart chunk.start chunk.level
    → chunk.front ≤ size_of chunk.level
    → IsSlotOf space (slot_of chunk.start) → lies_in run (chunk.start, chunk.front) ≡ true
    → lies_in run (words_of_space space) ≡ true
chunk_in_space NonClass run chunk part front slot h =
    within_words run chunk.start chunk.front (size_of chunk.level) 0 first_class_word h front (omega arith)
    (omega (arith, ends_in_node chunk.start chunk.level part, slot))
chunk_in_space Class run chunk part front slot h =
    within_words run chunk.start chunk.front (size_of chunk.level) first_class_word 16777216 h front
    (omega (arith, div-add-mod' chunk.start node_words, slot.0))
    (omega (arith, ends_in_node chunk.start chunk.level part, slot.1))

front_in_space : (space : Space) (policy : Policy) (slots : List ℕ) (held : List Chunk) (run : ℕ × ℕ)
    → AllByRecursion (IsSlotOf space) slots
    → AllByRecursion (λ (chunk : Chunk). IsPart chunk.start chunk.level) held → AllByRecursion (HasFront policy) held
    → list_all (λ (chunk : Chunk). is_reserved slots (slot_of chunk.start)) held ≡ true → some_front held run ≡ true
    → lies_in run (words_of_space space) ≡ true
front_in_space space policy slots [] run below parts fronts reserved h = absurd (cc)
front_in_space space policy slots (c ∷ held) run below parts fronts reserved h =
    let both =
    and_parts (is_reserved slots (slot_of c.start))
    (list_all (λ (d : Chunk). is_reserved slots (slot_of d.start)) held) reserved in
    elim (or_cases (lies_in run (c.start, c.front)) (some_front held run) h) [
      | inl here ↦ chunk_in_space space run c parts.0 fronts.0.within
          (slot_in space slots (slot_of c.start) below both.0) here
      | inr later ↦ front_in_space space policy slots held run below parts.1 fronts.1 both.1 later
    ]

pub run_in_space : (space : Space) (m : Machine) (run : ℕ × ℕ) → IsGood m
    → some_front (chunks_held space m.loaders) run ≡ true
    → lies_in run (words_of_space space) ≡ true
run_in_space space m run good h =
    front_in_space space m.limits.policy (slots_in space m) (chunks_held space m.loaders) run
    (recursion_from_All (IsSlotOf space) (slots_in space m) (good.pools space).below)
    (recursion_from_All (λ (chunk : Chunk). IsPart chunk.start chunk.level) (chunks_held space m.loaders)
    (good.pools space).held.parts)
    (recursion_from_All (HasFront m.limits.policy) (chunks_held space m.loaders) (good.pools space).held.fronts)
    (good.pools space).held.reserved h

pub block_in_space : (m : Machine) (name block : ℕ) (loader : LoaderState) (found : LiveBlock) → IsGood m
    → HasBlock m name block loader found
    → lies_in (run_of found) (words_of_space (space_at found.start)) ≡ true
block_in_space m name block loader found good has = run_in_space (space_at found.start) m (run_of found) good
    (any_of_loader (space_at found.start) (λ (chunk : Chunk). lies_in (run_of found) (chunk.start, chunk.front))
    m.loaders name loader has.loader_is
    (block_in_own_front loader block found has.block_is (loader_is_sound m name loader has.loader_is good)))

-- Runs of the two spaces share no word.
pub spaces_are_apart : (space other : Space) (run runs : ℕ × ℕ) → (space ≡ other → ⊥)
    → lies_in run (words_of_space space) ≡ true
    → lies_in runs (words_of_space other) ≡ true → meet run.0 run.1 runs.0 runs.1 ≡ false
spaces_are_apart NonClass NonClass run runs differ h k = absurd (differ refl)
spaces_are_apart NonClass Class run runs differ h k = below run.0 run.1 runs.0 runs.1 h k
  where
    below : (a m b n : ℕ) → lies_in (a, m) (0, first_class_word) ≡ true
        → lies_in (b, n) (first_class_word, 16777216) ≡ true
        → meet a m b n ≡ false
    below a m b n h k = grind (arith, nat_tests)
spaces_are_apart Class NonClass run runs differ h k = above run.0 run.1 runs.0 runs.1 h k
  where
    above : (a m b n : ℕ) → lies_in (a, m) (first_class_word, 16777216) ≡ true
        → lies_in (b, n) (0, first_class_word) ≡ true
        → meet a m b n ≡ false
    above a m b n h k = grind (arith, nat_tests)
spaces_are_apart Class Class run runs differ h k = absurd (differ refl)

pub same_or_other : (one other : Space) → (one ≡ other) ⊎ (one ≡ other → ⊥)
same_or_other NonClass NonClass = inl refl
same_or_other NonClass Class = inr (λ e. absurd (cc))
same_or_other Class NonClass = inr (λ e. absurd (cc))
same_or_other Class Class = inl refl

pub blocks_are_apart : (m : Machine) (name block : ℕ) (loader : LoaderState) (found : LiveBlock)
    (other_name other_block : ℕ) (other_loader : LoaderState) (other : LiveBlock) → IsGood m
    → HasBlock m name block loader found → HasBlock m other_name other_block other_loader other
    → ((name ≡ other_name) × (block ≡ other_block) → ⊥)
    → meet found.start (length found.contents) other.start (length other.contents) ≡ false
blocks_are_apart m name block loader found other_name other_block other_loader other good has has_other differ =
    elim (same_or_other (space_at found.start) (space_at other.start)) [
      | inl one_space ↦ in_space one_space
      | inr spaces ↦ spaces_are_apart (space_at found.start) (space_at other.start) (run_of found) (run_of other) spaces
          (block_in_space m name block loader found good has)
          (block_in_space m other_name other_block other_loader other good has_other)
    ]
  where
    in_space : space_at found.start ≡ space_at other.start
        → meet found.start (length found.contents) other.start (length other.contents) ≡ false
    in_space spaces = elim (cases_eq name other_name) [
      | inl same ↦
          let one : Some loader ≡ Some other_loader =
          sym has.loader_is ∙ ap (named m.loaders) same ∙ has_other.loader_is in
          let its : loader ≡ other_loader = cc in
          apart_in_loader (space_at other.start) loader block found other_block other has.block_is
          (rw its has_other.block_is) (λ blocks. differ (same, blocks))
          (ap (λ (space : Space). is_in space found.start) (sym spaces) ∙ in_its_space found.start)
          (in_its_space other.start)
          (loader_is_sound m name loader has.loader_is good)
      | inr names ↦ apart_in_machine (space_at other.start) m name loader (run_of found) other_name other_loader
          (run_of other) good has.loader_is has_other.loader_is names
          (ap (λ (space : Space). some_front (arena_of space loader).chunks (run_of found)) (sym spaces)
          ∙ block_in_own_front loader block found has.block_is (loader_is_sound m name loader has.loader_is good))
          (block_in_own_front other_loader other_block other has_other.block_is
          (loader_is_sound m other_name other_loader has_other.loader_is good))
    ]

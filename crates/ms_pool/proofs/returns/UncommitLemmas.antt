-- The nodes once the granules of a free part are uncommitted, where a chunk was taken back. The
-- proof of `release` uses them.
use Rattle.std.proofs.Common.{◌≡◌, ◌<◌, ◌≤◌, ℕ, ◌+◌, ◌*◌, ◌/◌, ◌%◌, true, false, not, List, refl, sym, ap, ◌∙◌, arith}
use Rattle.std.proofs.Common.{inl, inr, lt-ltb, le-leb, ltb-true, leb-true}
use Rattle.std.proofs.lemmas.Bool.{cases_lt}
use Rattle.std.proofs.lemmas.List.Kept.{IsStrictlyIncreasing-filter}
use Rattle.ms_base.specs.declared.kind.Space.{Space}
use Rattle.ms_base.specs.declared.kind.Space.TheVariants.{NonClass, Class}
use Rattle.ms_base.specs.declared.policy.Policy.{Policy}
use Rattle.ms_base.specs.declared.policy.Policy.TheVariants.{Balanced, Aggressive, None as Never}
use Rattle.ms_base.specs.declared.span.Chunk.{Chunk}
use Rattle.ms_base.specs.declared.span.Span.{Span}
use Rattle.ms_base.specs.Level.{size_of, root_words}
use Rattle.ms_base.specs.Part.{IsPart, slot_of, is_reserved}
use Rattle.ms_base.specs.Policy.{granule_of, keeps, slot_granules}
use Rattle.ms_base.specs.Spaces.{is_in, other_space, first_class_word}
use Rattle.ms_base.proofs.free.HalvesLemmas.{multiple_of_smaller, size_falls_strictly}
use Rattle.ms_base.proofs.granules.CommittedLemmas.{length_filter}
use Rattle.ms_base.proofs.granules.PolicyLemmas.{IsGranule, granule_is_level}
use Rattle.ms_base.proofs.machine.GoodLemmas.{each_space}
use Rattle.std.proofs.Math.Nat.{mod_self}
use Rattle.ms_commit.specs.NumberSet.{is_in_range, without_range}
use Rattle.ms_commit.specs.Nodes.{NodesState, AreInReserved, AreOfSpace, AreSound, granules_in, is_granule_of, slots_of}
use Rattle.ms_commit.specs.Nodes.{without_granules}
use Rattle.ms_commit.specs.Laws.{ChangeTheirSpace}
use Rattle.ms_commit.proofs.NodesLemmas.{sound_without}
use Rattle.ms_commit.proofs.SpaceLemmas.{change_their_space, reserved_in}
use Rattle.ms_pool.specs.declared.lender.Lender.{Lender}
use Rattle.ms_pool.specs.Ledger.{committed_of, held_in}
use Rattle.ms_pool.specs.Keeping.{IsKept, ledger_of}
use Rattle.ms_pool.proofs.searches.SlotLoopLemmas.{committed_is}
use Rattle.ms_pool.proofs.returns.ReleasedGranuleLemmas.{first_of, count_of, uncommitted_once_back}
use Rattle.ms_pool.proofs.returns.ReleaseLemmas.{IsBack, granules_after, here_without, stay_elsewhere}

-- A part of a granule's words or more is made up of granules.
whole_granules : (granule : ℕ) (part : Span) → IsGranule granule → IsPart part.start part.level
    → granule ≤ size_of part.level
    → (part.start % granule ≡ 0) × (size_of part.level % granule ≡ 0)
whole_granules granule part its placed large = elim (cases_lt its.level part.level) [
  | inl smaller ↦ absurd (omega (arith, its.is, size_falls_strictly its.level part.level smaller placed.0))
  | inr larger ↦ (
    ap (λ (g : ℕ). part.start % g) its.is
        ∙ multiple_of_smaller part.start part.level its.level larger its.below placed.1,
    ap (λ (g : ℕ). size_of part.level % g) its.is
        ∙ multiple_of_smaller (size_of part.level) part.level its.level larger its.below
        (mod_self (size_of part.level)),
  )
]

-- Its granules lie in the chunk's slot.
in_slot : (policy : Policy) (start a s k : ℕ) → start / root_words * root_words ≤ a
    → a + s ≤ start / root_words * root_words + root_words
    → a % granule_of policy ≡ 0 → s % granule_of policy ≡ 0 → a / granule_of policy ≤ k
    → k < a / granule_of policy + s / granule_of policy
    → k / slot_granules (granule_of policy) ≡ slot_of start
in_slot Balanced start a s k low high e f from under = omega arith
in_slot Aggressive start a s k low high e f from under = omega arith
in_slot Never start a s k low high e f from under = omega arith

below_class : (policy : Policy) (start k : ℕ)
    → k / slot_granules (granule_of policy) ≡ slot_of start → start < first_class_word
    → k < 64 * slot_granules (granule_of policy)
below_class Balanced start k e h = omega arith
below_class Aggressive start k e h = omega arith
below_class Never start k e h = omega arith

from_class : (policy : Policy) (start k : ℕ) → k / slot_granules (granule_of policy) ≡ slot_of start
    → first_class_word ≤ start
    → 64 * slot_granules (granule_of policy) ≤ k
from_class Balanced start k e h = omega arith
from_class Aggressive start k e h = omega arith
from_class Never start k e h = omega arith

of_space_there : (space : Space) (policy : Policy) (start k : ℕ) → is_in space start ≡ true
    → k / slot_granules (granule_of policy) ≡ slot_of start
    → is_granule_of space (slot_granules (granule_of policy)) k ≡ true
of_space_there NonClass policy start k inside e =
    lt-ltb k (64 * slot_granules (granule_of policy))
    (below_class policy start k e (ltb-true start first_class_word inside))
of_space_there Class policy start k inside e =
    le-leb (64 * slot_granules (granule_of policy)) k
    (from_class policy start k e (leb-true first_class_word start inside))

-- The range that is uncommitted.
pub record IsRange (lender : Lender) (space : Space) (part : Span) : Type 0 where
  pub whole : part.start % granule_of lender.policy ≡ 0
  pub sized : size_of part.level % granule_of lender.policy ≡ 0
  pub inside : AreOfSpace space lender.nodes (first_of lender.policy part) (count_of lender.policy part)
  pub reserved : AreInReserved lender.nodes (first_of lender.policy part) (count_of lender.policy part)

pub is_range : (lender : Lender) (space : Space) (chunk : Chunk) (part : Span) → IsKept lender
    → IsBack (ledger_of lender) space chunk part
    → is_in space chunk.start ≡ true → granule_of lender.policy ≤ size_of part.level → IsRange lender space part
is_range lender space chunk part kept its here large = record {
  whole = whole.0;
  sized = whole.1;
  inside = inside;
  reserved = λ k from under. reserved_in lender.nodes space k kept.nodes (inside k from under)
      ∙ ap (λ (n : ℕ). is_reserved (slots_of space lender.nodes) (k / slot_granules n)) kept.granule
      ∙ ap (is_reserved (slots_of space lender.nodes)) (slot k from under) ∙ its.reserved;
}
  where
    whole : (part.start % granule_of lender.policy ≡ 0) × (size_of part.level % granule_of lender.policy ≡ 0)
    whole = whole_granules (granule_of lender.policy) part (granule_is_level lender.policy) its.back.free.placed large

    slot : (k : ℕ) → first_of lender.policy part ≤ k → k < first_of lender.policy part + count_of lender.policy part
        → k / slot_granules (granule_of lender.policy) ≡ slot_of chunk.start
    slot k from under =
        in_slot lender.policy chunk.start part.start (size_of part.level) k its.low its.high whole.0 whole.1 from under

    inside : AreOfSpace space lender.nodes (first_of lender.policy part) (count_of lender.policy part)
    inside k from under = ap (λ (n : ℕ). is_granule_of space (slot_granules n) k) kept.granule
        ∙ of_space_there space lender.policy chunk.start k here (slot k from under)

-- The granules that are left are those of the model.
pub granules_leave : (lender : Lender) (space : Space) (chunk : Chunk) (part : Span) → IsKept lender
    → IsBack (ledger_of lender) space chunk part
    → is_in space chunk.start ≡ true → keeps lender.policy ≡ false → granule_of lender.policy ≤ size_of part.level
    → (one : Space)
    → granules_in one (without_granules lender.nodes (first_of lender.policy part) (count_of lender.policy part))
    ≡ granules_after (ledger_of lender) chunk one
granules_leave lender space chunk part kept its here leaves large =
    each_space
    (λ (one : Space). granules_in one (without_granules lender.nodes first count)
    ≡ granules_after (ledger_of lender) chunk one) space
    (change.out ∙ ap (λ (l : List ℕ). without_range l first count) (sym (committed_is space lender))
    ∙ uncommitted_once_back lender.policy (committed_of space (ledger_of lender)) (slots_of space lender.nodes)
    (held_in space (ledger_of lender)) chunk part
    (kept.sound.spaces space).slots (kept.sound.spaces space).committed leaves its.back large range.whole range.sized
    ∙ here_without (ledger_of lender) chunk space)
    (change.out_other ∙ sym (committed_is (other_space space) lender)
    ∙ stay_elsewhere (ledger_of lender) chunk (other_space space) kept.sound its.there)
  where
    first : ℕ
    first = first_of lender.policy part

    count : ℕ
    count = count_of lender.policy part

    range : IsRange lender space part
    range = is_range lender space chunk part kept its here large

    change : ChangeTheirSpace lender.nodes space first count
    change = change_their_space lender.nodes space first count kept.nodes range.inside

-- The nodes stay sound.
pub sound_without_range : (nodes : NodesState) (first count : ℕ) → AreSound nodes
    → AreSound (without_granules nodes first count)
sound_without_range nodes first count sound =
    sound_without nodes (without_range nodes.granules first count) first count sound refl
    (IsStrictlyIncreasing-filter (λ k. not (is_in_range first count k)) nodes.granules sound.granules)
    (omega (arith, length_filter (λ k. not (is_in_range first count k)) nodes.granules, sound.committed))

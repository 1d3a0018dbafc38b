-- The machine stays good where a loader's arena and the slots change in one space, and the granules
-- follow.
use Rattle.std.proofs.Common.{◌≡◌, ◌≤◌, ◌+◌, ℕ, List, length, refl, sym, ap, ◌∙◌, arith}
use Rattle.std.specs.Ordering.{nat_cmp}
use Rattle.std.specs.BTreeMap.{is_at}
use Rattle.std.proofs.lemmas.Map.Views.{All-values-set_value}
use Rattle.ms_base.specs.declared.kind.Space.{Space}
use Rattle.ms_base.specs.declared.kind.Space.TheVariants.{NonClass, Class}
use Rattle.ms_base.specs.declared.span.Chunk.{Chunk}
use Rattle.ms_base.specs.Spaces.{other_space}
use Rattle.ms_base.specs.Committed.{committed_with}
use Rattle.ms_base.specs.State.{LoaderState, Machine, arena_of, chunks_held, slots_in, with_slots, committed_in}
use Rattle.ms_base.specs.State.{pool_of, committed_now, recommitted}
use Rattle.ms_base.specs.Good.{IsSoundLoader, IsGood}
use Rattle.ms_base.specs.Transition.{HasLoader, with_loader}
use Rattle.ms_base.proofs.entries.EntryLemmas.{rises_with_changed}
use Rattle.ms_base.proofs.machine.GoodLemmas.{each_space, chunks_with_same, IsSoundBut, recommitted_is_sound}

-- The machine where a loader and the slots of a space are changed, before the granules follow.
abbrev pub changed : Space → Machine → ℕ → LoaderState → List ℕ → Machine
changed space m name other slots = with_slots space (with_loader m name other) slots

slots_elsewhere : (space : Space) (m : Machine) (slots : List ℕ)
    → slots_in (other_space space) (with_slots space m slots) ≡ slots_in (other_space space) m
slots_elsewhere NonClass m slots = refl
slots_elsewhere Class m slots = refl

-- In the other space nothing changes.
committed_elsewhere : (space : Space) (m : Machine) (slots : List ℕ)
    → committed_in (other_space space) (with_slots space m slots) ≡ committed_in (other_space space) m
committed_elsewhere NonClass m slots = refl
committed_elsewhere Class m slots = refl

pub both_counts : (count : Space → ℕ) (space : Space) (limit : ℕ) → count space + count (other_space space) ≤ limit
    → count NonClass + count Class ≤ limit
both_counts count NonClass limit h = h
both_counts count Class limit h = omega (arith, h)

-- The machine stays good where the space is sound with the change, and its granules with those of
-- the other space are within the limit.
pub good_with_change : (space : Space) (m : Machine) (name : ℕ) (before other : LoaderState) (slots : List ℕ)
    → HasLoader m name before
    → (arena_of (other_space space) other).chunks ≡ (arena_of (other_space space) before).chunks → IsSoundLoader other
    → IsSoundBut (pool_of space (changed space m name other slots))
    → length (committed_now (pool_of space (changed space m name other slots)))
    + length (committed_in (other_space space) m) ≤ m.limits.granules
    → IsGood m → IsGood (recommitted (changed space m name other slots))
good_with_change space m name before other slots found same sound sound_here few good = record {
  loaders = All-values-set_value (is_at (nat_cmp name)) IsSoundLoader m.loaders other good.loaders sound;
  names = rises_with_changed m.loaders name other good.names;
  pools = recommitted_is_sound mid
      (each_space (λ (one : Space). IsSoundBut (pool_of one mid)) space sound_here sound_there)
      (both_counts (λ (one : Space). length (committed_now (pool_of one mid))) space m.limits.granules
      (omega (arith, few, ap length as_it_was)));
  given = good.given;
}
  where
    there : Space
    there = other_space space

    mid : Machine
    mid = changed space m name other slots

    held_same : chunks_held there mid.loaders ≡ chunks_held there m.loaders
    held_same = chunks_with_same there m.loaders name before other found same

    slots_same : slots_in there mid ≡ slots_in there m
    slots_same = slots_elsewhere space (with_loader m name other) slots

    sound_there : IsSoundBut (pool_of there mid)
    sound_there = record {
      held = rw (slots_same, held_same) (good.pools there).held;
      slots = rw slots_same (good.pools there).slots;
      below = rw slots_same (good.pools there).below;
      reserved = rw slots_same (good.pools there).reserved;
    }

    as_it_was : committed_now (pool_of there mid) ≡ committed_in there m
    as_it_was =
        ap (λ (l : List ℕ). committed_with m.limits.policy l (chunks_held there mid.loaders) (slots_in there mid))
        (committed_elsewhere space (with_loader m name other) slots)
        ∙ ap (λ (l : List Chunk). committed_with m.limits.policy (committed_in there m) l (slots_in there mid))
        held_same
        ∙ ap (λ (l : List ℕ). committed_with m.limits.policy (committed_in there m) (chunks_held there m.loaders) l)
        slots_same
        ∙ sym (good.pools there).committed

-- A good machine's granules are those that they are to be, so nothing changes where no chunk does.
pub recommitted_same : (m : Machine) → IsGood m → recommitted m ≡ m
recommitted_same m good =
    ap (λ (l : List ℕ). record m { committed = l; class_committed = committed_now (pool_of Class m) })
    (sym (good.pools NonClass).committed)
    ∙ ap (λ (l : List ℕ). record m { class_committed = l }) (sym (good.pools Class).committed)

pub slots_same : (space : Space) (m : Machine) → with_slots space m (slots_in space m) ≡ m
slots_same NonClass m = refl
slots_same Class m = refl

-- So a change of a loader that keeps the chunks and the slots.
pub unchanged_pools : (space : Space) (m : Machine) (name : ℕ) (other : LoaderState) → IsGood (with_loader m name other)
    → recommitted (changed space m name other (slots_in space m)) ≡ with_loader m name other
unchanged_pools space m name other good = ap recommitted (slots_same space (with_loader m name other))
    ∙ recommitted_same (with_loader m name other) good

use Rattle.std.proofs.Common.{◌≡◌, ℕ, ◌+◌, ◌*◌, ◌<◌, ◌≤◌, None}
use Rattle.ms_loader_map.specs.Slots.{slot_at}
use Rattle.ms_loader_map.proofs.loaders.slots.Slots.next.Given as goal

-- Nothing stood at the numbers that were looked at.
abbrev pub invariant-loop-page : goal.invariant-loop-page
invariant-loop-page l = (l.from ≤ 256 * l.page + l.slot) × (l.slot < 256)
    × ((k : ℕ) → l.from ≤ k → k < 256 * l.page + l.slot → slot_at l.self-inside.pages.items k ≡ None)

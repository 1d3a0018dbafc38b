use Rattle.std.proofs.Common.{◌≡◌, ℕ, ◌≤◌, length}
use Rattle.ms_loader_map.specs.Slots.{slot_at}
use Rattle.ms_loader_map.proofs.loaders.slots.Slots.make_room.Given as goal

-- There is a page for each turn, of 256 at most, and what stands at each number stays.
abbrev pub invariant-loop : goal.invariant-loop
invariant-loop l = (l.counter ≡ length l.self-inside.pages.items) × (length l.self-inside.pages.items ≤ 256)
    × ((other : ℕ) → slot_at l.self-inside.pages.items other ≡ slot_at l.fn.self other)

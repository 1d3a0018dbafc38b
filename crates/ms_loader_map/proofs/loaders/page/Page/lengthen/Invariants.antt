use Rattle.std.proofs.Common.{◌≡◌, ℕ, ◌≤◌, length}
use Rattle.ms_loader_map.specs.Slots.{in_page}
use Rattle.ms_loader_map.proofs.loaders.page.Page.lengthen.Given as goal

-- The page has a slot for each turn, 256 at most, and what stands at each number stays.
abbrev pub invariant-loop : goal.invariant-loop
invariant-loop l = (l.counter ≡ length l.self-inside.slots.items) × (length l.self-inside.slots.items ≤ 256)
    × ((other : ℕ) → in_page l.self-inside.slots.items other ≡ in_page l.fn.self other)

use Rattle.std.proofs.Common.{◌≡◌, ℕ, ◌<◌, ◌≤◌, None}
use Rattle.ms_loader_map.specs.Slots.{in_page}
use Rattle.ms_loader_map.proofs.loaders.page.Page.next.Given as goal

-- Nothing stood at the slots that were looked at.
abbrev pub invariant-loop-slot : goal.invariant-loop-slot
invariant-loop-slot l = (k : ℕ) → l.from ≤ k → k < l.slot → in_page l.self-inside.slots.items k ≡ None

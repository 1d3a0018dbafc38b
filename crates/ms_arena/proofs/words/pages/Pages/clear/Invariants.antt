use Rattle.std.proofs.Common.{◌≡◌, ℕ, ◌*◌, ◌<◌, ◌≤◌, length}
use Rattle.ms_arena.specs.Pages.{PagesView, word_at}
use Rattle.ms_arena.proofs.words.pages.Pages.clear.Given as goal

-- The words of the pages so far are cleared, and the others stay.
pub record ClearsBelow (old : PagesView) (from end number : ℕ) (new : PagesView) : Type 0 where
  pub zero : (at : ℕ) → from ≤ at → at < end → at < 512 * number → word_at new at ≡ 0
  pub before : (at : ℕ) → at < from → word_at new at ≡ word_at old at
  pub after : (at : ℕ) → end ≤ at → word_at new at ≡ word_at old at
  pub room : new.room ≡ old.room
  pub pages : length new.pages ≡ length old.pages

abbrev pub invariant-loop-number : goal.invariant-loop-number
invariant-loop-number l = ClearsBelow l.fn.self l.from l.end l.number l.self

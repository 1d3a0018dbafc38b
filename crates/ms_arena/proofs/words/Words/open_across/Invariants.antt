use Rattle.std.proofs.Common.{◌≡◌, ℕ, ◌+◌, ◌-◌, ◌*◌, ◌/◌, ◌<◌, ◌≤◌}
use Rattle.ms_arena.specs.Words.{WordsView, IsThere, value_at}
use Rattle.ms_arena.proofs.words.Words.open_across.Given as goal

-- The words of the stretches so far are opened, and the others stay.
pub record OpensBelow (old : WordsView) (start end stretch : ℕ) (new : WordsView) : Type 0 where
  pub zero : (word : ℕ) → start ≤ word → word < end → word < 2048 * stretch → value_at new word ≡ 0
  pub here : (word : ℕ) → start ≤ word → word < end → word < 2048 * stretch → IsThere new word
  pub there : (word : ℕ) → IsThere old word → IsThere new word
  pub before : (word : ℕ) → word < start → value_at new word ≡ value_at old word
  pub after : (word : ℕ) → end ≤ word → value_at new word ≡ value_at old word
  pub room : old.ready ≤ new.ready + (stretch - start / 2048)

abbrev pub invariant-loop-stretch : goal.invariant-loop-stretch
invariant-loop-stretch l = OpensBelow l.fn.self l.start l.end l.stretch l.self

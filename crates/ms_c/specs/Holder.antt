-- Whose a word is, in numbers.
use Rattle.std.specs.Prelude.{◌≡◌, ℕ, ◌⊎◌, IsTrue, IsFalse, Some, None}
use Rattle.ms_base.specs.State.{Machine}
use Rattle.ms_loaders.specs.Holder.{holds}
use Rattle.ms_c.specs.declared.answer.Answer.{Answer}
use Rattle.ms_c.specs.Answers.{numbers, no_system}
use Rattle.ms_c.specs.Holding.{Held}

-- The answer's value is the name of a loader that holds the word.
pub record NamesHolder (m : Machine) (word : ℕ) (answer : Answer) : Type 0 where
  pub answer_is : answer ≡ numbers 0 answer.value 0 0
  pub held : IsTrue (holds m answer.value word)

-- No loader holds the word, and the answer says so.
pub record LacksHolder (m : Machine) (word : ℕ) (answer : Answer) : Type 0 where
  pub answer_is : answer ≡ numbers 8 0 0 0
  pub none : (name : ℕ) → IsFalse (holds m name word)

-- The answer tells whose the word is, or that it is nobody's.
abbrev pub TellsHolder : Held → ℕ → Answer → Type 0
TellsHolder None word answer = answer ≡ no_system
TellsHolder (Some m) word answer = NamesHolder m word answer ⊎ LacksHolder m word answer

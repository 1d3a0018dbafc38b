-- A block that is freed by where it lies, in numbers.
use Rattle.std.specs.Prelude.{◌≡◌, ℕ, ◌⊎◌, Some, None}
use Rattle.ms_base.specs.declared.span.Block.{Block}
use Rattle.ms_base.specs.declared.refusal.Refusal.{Refusal}
use Rattle.ms_base.specs.State.{Machine}
use Rattle.ms_loaders.specs.Freeing.{FreesThere, LacksThere}
use Rattle.ms_c.specs.declared.answer.Answer.{Answer}
use Rattle.ms_c.specs.Answers.{numbers, no_system, refused_as}
use Rattle.ms_c.specs.Holding.{Held}

-- The live block there is freed, as by its name.
pub record FreesIt (before : Machine) (loader : ℕ) (block : Block) (answer : Answer) (after : Held) : Type 0 where
  pub now : Machine
  pub after_is : after ≡ Some now
  pub answer_is : answer ≡ numbers 0 0 0 0
  pub freed : FreesThere before loader block now

-- No block is freed: the answer says why, and nothing changes.
pub record LacksIt (before : Machine) (loader : ℕ) (block : Block) (answer : Answer) (after : Held) : Type 0 where
  pub refusal : Refusal
  pub after_is : after ≡ Some before
  pub answer_is : answer ≡ refused_as refusal
  pub cause : LacksThere before loader block refusal

-- So many words from the start on are a block that is freed, or there is none.
abbrev pub FreesBlock : Held → ℕ → ℕ → ℕ → Answer → Held → Type 0
FreesBlock None loader start words answer after = (answer ≡ no_system) × (after ≡ None)
FreesBlock (Some before) loader start words answer after =
    FreesIt before loader (record { start = start; words = words }) answer after
    ⊎ LacksIt before loader (record { start = start; words = words }) answer after

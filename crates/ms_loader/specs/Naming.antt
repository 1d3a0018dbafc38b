-- The names of a loader's blocks; how an allocation enters one, and what it does to names, arena
-- and source.
use Rattle.std.specs.Prelude.{◌≡◌, ℕ, ◌⊎◌, List, Some, None, Result, Ok, Err, IfOk, OnErr}
use Rattle.ms_base.specs.declared.policy.Policy.{Policy}
use Rattle.ms_base.specs.declared.span.Block.{Block}
use Rattle.ms_base.specs.declared.refusal.Refusal.{Refusal}
use Rattle.ms_base.specs.declared.refusal.Refusal.TheVariants.{BlockExists}
use Rattle.ms_base.specs.Names.{named, with_new}
use Rattle.ms_base.specs.Hashed.{by_name}
use Rattle.ms_pool.specs.Source.{IsTakeRefusal}
use Rattle.ms_loader.specs.Table.{TableView, entries_of}
use Rattle.ms_arena.specs.Arena.{PlaceRefused}
use Rattle.ms_arena.specs.Alloc.{TakeRelation, GrowRelation, Allocates}
use Rattle.ms_arena.specs.Raw.{RawArenaView, Gains, IsSameRaw, live_then, with_live}

-- The blocks in rising order of their names.
pub record BlockNames : Type 0 where
  pub entries : List (ℕ × Block)

-- The names of a table.
abbrev pub names_of : TableView → BlockNames
names_of table = record { entries = by_name (entries_of table) }

-- Why a name is not entered, in the order of the checks.
abbrev pub EnterRefused : List (ℕ × Block) → ℕ → ℕ → Refusal → Type 0
EnterRefused names name words BlockExists = (found : Block) × (named names name ≡ Some found)
EnterRefused names name words refusal = (named names name ≡ None) × PlaceRefused words refusal

-- Why no block gets a name: the name is not entered, or the arena's source lends no chunk.
abbrev pub NamedRefused : List (ℕ × Block) → ℕ → ℕ → Refusal → Type 0
NamedRefused names name words refusal = EnterRefused names name words refusal ⊎ IsTakeRefusal refusal

-- The names after an answer: the block has its name, or all is as it was.
abbrev pub names_after : List (ℕ × Block) → ℕ → Result Block Refusal → List (ℕ × Block)
names_after names name (Ok block) = with_new names name block
names_after names name (Err refusal) = names

-- The name is not entered: nothing changes, and no arena is asked.
pub record IsNotNamed {S : Type 0} (names : List (ℕ × Block)) (was : RawArenaView) (name words : ℕ) (before : S)
    (answer : Result Block Refusal) (others : List (ℕ × Block)) (is : RawArenaView) (after : S) : Type 0 where
  pub refusal : Refusal
  pub answer_is : answer ≡ Err refusal
  pub cause : EnterRefused names name words refusal
  pub names_stay : others ≡ names
  pub arena : is ≡ was
  pub source : after ≡ before

-- The name is new, the arena is asked, and the block that it answers gets the name.
pub record AsksNamed {S : Type 0} (grew : GrowRelation S) (took : TakeRelation S) (policy : Policy)
    (names : List (ℕ × Block)) (was : RawArenaView) (name words : ℕ) (before : S) (answer : Result Block Refusal)
    (others : List (ℕ × Block)) (is : RawArenaView) (after : S) : Type 0 where
  pub unused : named names name ≡ None
  pub names_are : others ≡ names_after names name answer
  pub allocates : (live : List (ℕ × List ℕ))
      → Allocates grew took policy (with_live was live) words before answer (with_live is (live_then live answer)) after
  pub gains : IfOk answer (λ block. Gains was block is)
  pub unchanged : OnErr answer (IsSameRaw was is)

-- An allocation of so many words in an arena, under a name.
abbrev pub AllocatesNamed : {S : Type 0} → GrowRelation S → TakeRelation S → Policy → List (ℕ × Block) → RawArenaView
    → ℕ → ℕ → S → Result Block Refusal → List (ℕ × Block) → RawArenaView → S → Type 0
AllocatesNamed grew took policy names was name words before answer others is after =
    IsNotNamed names was name words before answer others is after
    ⊎ AsksNamed grew took policy names was name words before answer others is after

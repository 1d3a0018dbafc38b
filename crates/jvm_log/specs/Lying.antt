-- Where blocks lie after a line of the log, and which thread's last answer one is.
use Rattle.std.specs.Prelude.{◌≡◌, ◌≢◌, ℕ, Option, Some, None, nat_eq}
use Rattle.std.specs.Map.{update}
use Rattle.ms_trace.specs.declared.trace.Command.{Command}
use Rattle.jvm_log.specs.declared.event.Event.{Event}
use Rattle.jvm_log.specs.declared.event.Event.TheVariants.{Returned, TakenFromFreeBlocks, Deallocated, Told}
use Rattle.jvm_log.specs.declared.loader.Block.{Block}
use Rattle.jvm_log.specs.declared.machine.Answer.{Answer}
use Rattle.jvm_log.specs.declared.machine.Answer.TheVariants.{At, FromFreeBlocks}
use Rattle.jvm_log.specs.Giving.{given}
use Rattle.jvm_log.specs.Known.{Blocks, Known, Life, owner_of}

-- Those that were.
pub record Keeps (old new : Blocks) : Type 0 where
  pub blocks : (q : ℕ) → new.block_at q ≡ old.block_at q
  pub answers : (q : ℕ) → new.answer_of q ≡ old.answer_of q

-- An answer has its block's address, or the thread's next line has.
abbrev pub laid_in : (ℕ → Option Block) → Option ℕ → Block → ℕ → Option Block
laid_in block_at None block = block_at
laid_in block_at (Some address) block = update nat_eq block_at address (Some block)

abbrev pub answer_as : Option ℕ → Block → Answer
answer_as None block = FromFreeBlocks block
answer_as (Some address) block = At address

pub record IsLaid (thread : ℕ) (address : Option ℕ) (block : Block) (old new : Blocks) : Type 0 where
  pub blocks : (q : ℕ) → new.block_at q ≡ laid_in old.block_at address block q
  pub answers : (q : ℕ) → new.answer_of q ≡ update nat_eq old.answer_of thread (Some (answer_as address block)) q

-- A request that is answered gives the next block of its arena's loader.
pub record IsNext (thread arena : ℕ) (address : Option ℕ) (known : Known) (new : Blocks) : Type 0 where
  pub loader : ℕ
  pub life : Life
  pub owns : known.loaders.owner_at arena ≡ Some loader
  pub lives : known.loaders.loader_at loader ≡ Some life
  pub laid : IsLaid thread address (record { loader = loader; birth = life.birth; number = life.next }) known.blocks new

abbrev pub Lays : ℕ → ℕ → Option ℕ → Option Command → Known → Blocks → Type 0
Lays thread arena address None known new = Keeps known.blocks new
Lays thread arena address (Some command) known new = IsNext thread arena address known new

-- A block that an arena with a loader frees lies there no more.
abbrev pub clearing : (ℕ → Option Block) → Option Life → ℕ → ℕ → Option Block
clearing block_at None address = block_at
clearing block_at (Some owner) address = update nat_eq block_at address None

pub record Clears (owner : Option Life) (address : ℕ) (old new : Blocks) : Type 0 where
  pub blocks : (q : ℕ) → new.block_at q ≡ clearing old.block_at owner address q
  pub answers : (q : ℕ) → new.answer_of q ≡ old.answer_of q

-- A thread's last answer, or another's where it has none, lies at the address that is told.
abbrev pub telling : (ℕ → Option Block) → Option Answer → ℕ → ℕ → Option Block
telling block_at (Some (FromFreeBlocks block)) address = update nat_eq block_at address (Some block)
telling block_at answer address = block_at

pub record IsTaken (thread : ℕ) (answer : Option Answer) (old new : Blocks) : Type 0 where
  pub teller : ℕ
  pub own : old.answer_of thread ≢ None → teller ≡ thread
  pub answer_is : answer ≡ old.answer_of teller
  pub answers : (q : ℕ) → new.answer_of q ≡ update nat_eq old.answer_of teller None q

pub record Tells (thread address : ℕ) (old new : Blocks) : Type 0 where
  pub answer : Option Answer
  pub taken : IsTaken thread answer old new
  pub blocks : (q : ℕ) → new.block_at q ≡ telling old.block_at answer address q

-- The blocks after a line of the log, by what was known before.
abbrev pub Lying : ℕ → Event → Known → Blocks → Type 0
Lying thread (Returned arena space address) known new =
    Lays thread arena (Some address) (given thread arena space known) known new
Lying thread (TakenFromFreeBlocks arena space) known new = Lays thread arena None (given thread arena space known) known new
Lying thread (Deallocated arena space address words) known new = Clears (owner_of known.loaders arena) address known.blocks new
Lying thread (Told address) known new = Tells thread address known.blocks new
Lying thread event known new = Keeps known.blocks new

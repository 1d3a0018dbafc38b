-- What a machine knows of the JVM at a line of its log.
use Rattle.std.specs.Prelude.{ℕ, Bool, List, Option, nat_eq}
use Rattle.std.specs.Map.{lookup}
use Rattle.std.specs.Option.{option_map}
use Rattle.ms_trace.specs.declared.trace.Command.{Command}
use Rattle.jvm_log.specs.declared.held.Held.{Held}
use Rattle.jvm_log.specs.declared.loader.Block.{Block}
use Rattle.jvm_log.specs.declared.loader.Loader.{Loader}
use Rattle.jvm_log.specs.declared.loader.Request.{Request}
use Rattle.jvm_log.specs.declared.machine.Answer.{Answer}
use Rattle.jvm_log.specs.declared.machine.Machine.{Machine}
use Rattle.jvm_log.specs.Held.{waiting}
use Rattle.jvm_log.specs.Parts.{◌>>=◌}

-- A loader that lives: how many were born before it, its name in the trace, the number of its next block, and
-- its two arenas.
pub record Life : Type 0 where
  pub birth : ℕ
  pub name : ℕ
  pub next : ℕ
  pub arena : ℕ
  pub class_arena : ℕ

abbrev pub life_of : Loader → Life
life_of loader = record {
  birth = loader.birth;
  name = loader.name;
  next = loader.next;
  arena = loader.arena;
  class_arena = loader.class_arena;
}

-- The loaders that live by their addresses, those addresses by the loaders' arenas, and the names that are in use.
pub record Loaders : Type 0 where
  pub loader_at : ℕ → Option Life
  pub owner_at : ℕ → Option ℕ
  pub used : List Bool
  pub births : ℕ

abbrev pub loaders_in : Machine → Loaders
loaders_in machine = record {
  loader_at = λ address. option_map life_of (lookup (nat_eq address) machine.loaders.entries);
  owner_at = λ arena. lookup (nat_eq arena) machine.arenas.entries;
  used = machine.names;
  births = machine.births;
}

-- The blocks that live by their addresses, and the last answers by their threads.
pub record Blocks : Type 0 where
  pub block_at : ℕ → Option Block
  pub answer_of : ℕ → Option Answer

abbrev pub blocks_in : Machine → Blocks
blocks_in machine = record {
  block_at = λ address. lookup (nat_eq address) machine.blocks.entries;
  answer_of = λ thread. lookup (nat_eq thread) machine.answers.entries;
}

-- Loaders, blocks, requests by their threads, the lines that are held back, and whether reports are asked for.
pub record Known : Type 0 where
  pub loaders : Loaders
  pub blocks : Blocks
  pub request_of : ℕ → Option Request
  pub held : Held
  pub reports : Bool

abbrev pub known_in : Machine → Known
known_in machine = record {
  loaders = loaders_in machine;
  blocks = blocks_in machine;
  request_of = λ thread. lookup (nat_eq thread) machine.requests.entries;
  held = machine.held;
  reports = machine.reports;
}

-- The request that a thread has open.
abbrev pub request_of : Machine → ℕ → Option Request
request_of machine thread = (known_in machine).request_of thread

-- The loader of an arena.
abbrev pub owner_of : Loaders → ℕ → Option Life
owner_of loaders arena = loaders.owner_at arena >>= loaders.loader_at

-- The commands that wait, as far as they are known.
abbrev pub waits : Known → List Command
waits known = waiting known.held.entries.items

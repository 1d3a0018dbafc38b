-- What a machine has given after lines of a log: the commands that went out, in their order, and what it knows then.
use Rattle.std.specs.Prelude.{◌≡◌, ℕ, Bool, true, false, List, [], ◌∷◌, ◌++◌, Option, Some, None}
use Rattle.std.specs.List.{All}
use Rattle.ms_trace.specs.declared.trace.Command.{Command}
use Rattle.jvm_log.specs.declared.event.Said.{Said}
use Rattle.jvm_log.specs.declared.held.Entry.{Entry}
use Rattle.jvm_log.specs.Asking.{Asking}
use Rattle.jvm_log.specs.Giving.{Takes}
use Rattle.jvm_log.specs.Hearing.{trimmed}
use Rattle.jvm_log.specs.Held.{Goes, IsAwaiting, waiting}
use Rattle.jvm_log.specs.Known.{Known}
use Rattle.jvm_log.specs.Living.{Living}
use Rattle.jvm_log.specs.Lying.{Lying}
use Rattle.jvm_log.specs.Reading.{said_in}

-- No loader, block or request is known, no name is in use, no line is held back, and more may be known.
pub record KnowsNothing (reports : Bool) (known : Known) : Type 0 where
  pub loaders : (address : ℕ) → known.loaders.loader_at address ≡ None
  pub owners : (arena : ℕ) → known.loaders.owner_at arena ≡ None
  pub names : All (λ is_used. is_used ≡ false) known.loaders.used
  pub blocks : (address : ℕ) → known.blocks.block_at address ≡ None
  pub answers : (thread : ℕ) → known.blocks.answer_of thread ≡ None
  pub requests : (thread : ℕ) → known.request_of thread ≡ None
  pub lines : known.held.entries.items ≡ []
  pub first : known.held.first ≡ 0
  pub closed : known.held.closed ≡ false
  pub asked : known.reports ≡ reports

-- Once all that may go has gone, what a line says becomes known, and lines come to those that are held back.
pub record Learns (said : Said) (old new : Known) : Type 0 where
  pub awaits : IsAwaiting old.held
  pub lines : Takes said.thread said.event old new.loaders.used new.held
  pub requests : Asking said.thread said.event old new.request_of
  pub loaders : Living said.thread said.event old new.loaders
  pub blocks : Lying said.thread said.event old new.blocks
  pub asked : new.reports ≡ old.reports

-- The first lines go, and give these commands; all else stays known.
pub record HandsOut (commands : List Command) (old new : Known) : Type 0 where
  pub gone : List Entry
  pub goes : Goes gone old.held new.held
  pub gives : waiting gone ≡ commands
  pub rest : new ≡ record old { held = new.held }

-- The log is over: nothing more will be known.
abbrev pub Ends : Known → Known → Type 0
Ends old new = new ≡ record old { held = record old.held { closed = true } }

-- What lines of a log say, in their order, without those that say nothing.
abbrev pub one_said : Option Said → List Said
one_said None = []
one_said (Some said) = said ∷ []

abbrev pub said_by : List (List ℕ) → List Said
said_by [] = []
said_by (line ∷ lines) = one_said (said_in (trimmed line)) ++ said_by lines

-- From nothing, a machine has heard what these lines say, and these commands went out.
pub data Follows (reports : Bool) : List Said → List Command → Known → Type 0 where
  nothing : (known : Known) → KnowsNothing reports known → Follows reports [] [] known
  heard : (said : List Said) (line : Said) (out : List Command) (old new : Known) → Follows reports said out old
      → Learns line old new → Follows reports (said ++ line ∷ []) out new
  gave : (said : List Said) (out commands : List Command) (old new : Known) → Follows reports said out old
      → HandsOut commands old new → Follows reports said (out ++ commands) new
  ended : (said : List Said) (out : List Command) (old new : Known) → Follows reports said out old → Ends old new
      → Follows reports said out new

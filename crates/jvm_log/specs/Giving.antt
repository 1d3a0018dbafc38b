-- Which lines of the trace come of what a line of the log says, and where each stands: each loader's are its arenas' events.
use Rattle.std.specs.Prelude.{◌≡◌, ◌<◌, ◌+◌, ◌^◌, ℕ, Bool, true, List, [], ◌∷◌, ◌++◌, Option, Some, None, nat_eq, nat_lt, map, slice_get}
use Rattle.std.specs.Prelude.{if◌then◌else◌}
use Rattle.ms_base.specs.declared.kind.Kind.TheVariants.{Standard}
use Rattle.ms_base.specs.declared.kind.Space.{Space}
use Rattle.ms_base.specs.declared.step.Step.TheVariants.{New, Free, Unload}
use Rattle.ms_trace.specs.declared.trace.Command.{Command}
use Rattle.ms_trace.specs.declared.trace.Command.TheVariants.{Step as Asks, Report}
use Rattle.jvm_log.specs.declared.event.Event.{Event}
use Rattle.jvm_log.specs.declared.event.Event.TheVariants.{LoaderBorn, LoaderDies, Requested, Returned, TakenFromFreeBlocks, Failed, Deallocated, ChunkHandedOut, Enlarged, Committed, Collection}
use Rattle.jvm_log.specs.declared.held.Entry.{Entry}
use Rattle.jvm_log.specs.declared.held.Entry.TheVariants.{Whole, Born, Asked, Void}
use Rattle.jvm_log.specs.declared.held.Held.{Held}
use Rattle.jvm_log.specs.declared.loader.Block.{Block}
use Rattle.jvm_log.specs.declared.loader.Request.{Request}
use Rattle.jvm_log.specs.declared.placed.Placed.{Placed}
use Rattle.jvm_log.specs.Held.{shortened, with_line, without_line}
use Rattle.jvm_log.specs.Known.{Known, Life, owner_of}
use Rattle.jvm_log.specs.Parts.{◌>>=◌}
use Rattle.jvm_log.specs.Steps.{step_for}

-- A loader that dies gives its last line, where it is known.
abbrev pub unloading : Option Life → List Command
unloading None = []
unloading (Some loader) = Asks (Unload loader.name) ∷ []

-- A block that an arena frees gives a line of the arena's loader, where both are known and the block is that loader's.
abbrev pub freeing : Option Life → Option Block → List Command
freeing None block = []
freeing (Some owner) None = []
freeing (Some owner) (Some block) =
    if nat_eq block.birth owner.birth then Asks (Free owner.name block.number) ∷ [] else []

-- A request that is answered gives its block's line: the words that were asked for, in the answer's space, under the
-- next number of the arena's loader, where both are known and a number is left.
abbrev pub allocating : Space → Option Request → Option Life → Option Command
allocating space None owner = None
allocating space (Some request) None = None
allocating space (Some request) (Some owner) =
    if nat_lt (owner.next + 1) (2 ^ 32) then Some (Asks (step_for space owner.name owner.next request.words)) else None

-- A report is asked for, or not.
abbrev pub reporting : Bool → List Command
reporting reports = if reports then Report ∷ [] else []

-- A command without the kind of the loader that it makes, which may come to be known while its line waits.
abbrev pub plain : Command → Command
plain (Asks (New loader kind)) = Asks (New loader Standard)
plain command = command

-- A line of such a command, without where its block lies.
abbrev pub whole : Command → Entry
whole command = Whole (record { command = plain command; address = 0 })

-- An entry as such a line, or as it waits.
abbrev pub bare : Entry → Entry
bare (Whole line) = whole line.command
bare (Born loader) = whole (Asks (New loader Standard))
bare Asked = Asked
bare Void = Void

-- Each name is in use.
abbrev pub IsFull : List Bool → Type 0
IsFull used = (name : ℕ) → name < 65536 → slice_get used name ≡ Some true

-- The first line of a loader that is born, or none where each name is in use.
abbrev pub IsOpening : List Bool → List Command → Type 0
IsOpening used [] = IsFull used
IsOpening used (command ∷ more) = (name : ℕ) × (command ≡ Asks (New name Standard)) × (more ≡ [])

-- Lines come after those that are held back, whose loaders' kinds may come to be known.
abbrev pub Adds : List Command → List Entry → List Entry → Type 0
Adds commands old new = map bare new ≡ map bare old ++ map whole commands

-- The number of the line of the request that a thread has open.
abbrev pub line_of : Known → ℕ → Option ℕ
line_of known thread = known.request_of thread >>= λ request. request.line

-- A request that is answered has its line, which may be none.
abbrev pub Puts : Option ℕ → Option Command → Held → List Entry → Type 0
Puts number None old new = new ≡ without_line number old
Puts number (Some command) old new = (line : Placed) × (line.command ≡ command) × (new ≡ with_line number line old)

-- What a thread's request to an arena gives: its line stands where the request passed the pool.
abbrev pub given : ℕ → ℕ → Space → Known → Option Command
given thread arena space known = allocating space (known.request_of thread) (owner_of known.loaders arena)

abbrev pub Answers : ℕ → ℕ → Space → Known → List Entry → Type 0
Answers thread arena space known new = Puts (line_of known thread) (given thread arena space known) known.held new

-- Its line stands where it first passed the pool: an entry comes there, and waits for the answer.
abbrev pub passing_at : Option ℕ → List Entry
passing_at None = Asked ∷ []
passing_at (Some number) = []

abbrev pub passing : Option Request → List Entry
passing None = []
passing (Some request) = passing_at request.line

abbrev pub Passes : ℕ → Known → List Entry → Type 0
Passes thread known new = new ≡ known.held.entries.items ++ passing (known.request_of thread)

-- A request that is refused, or that its thread forgets, has no line.
abbrev pub GivesUp : ℕ → Known → List Entry → Type 0
GivesUp thread known new = new ≡ without_line (line_of known thread) known.held

-- A loader that is born gives its first line.
abbrev pub Opens : List Bool → List Entry → List Entry → Type 0
Opens used old new = (opening : List Command) × IsOpening used opening × Adds opening old new

-- A loader is born, after the last line of one that lives at its address.
abbrev pub Bears : ℕ → Known → List Bool → List Entry → Type 0
Bears loader known used new =
    (opening : List Command) × IsOpening used opening
    × Adds (unloading (known.loaders.loader_at loader) ++ opening) known.held.entries.items new

-- What any other event adds at the end.
abbrev pub ending : Event → Known → List Command
ending (LoaderDies loader) known = unloading (known.loaders.loader_at loader)
ending (Deallocated arena space address words) known = freeing (owner_of known.loaders arena) (known.blocks.block_at address)
ending Collection known = reporting known.reports
ending event known = []

-- The lines that are held back after a line of the log, by what was known before, and which names are in use then.
abbrev pub Gives : ℕ → Event → Known → List Bool → List Entry → Type 0
Gives thread (LoaderBorn loader arena class_arena) known used new = Bears loader known used new
Gives thread (Requested arena space words) known used new = GivesUp thread known new
Gives thread (Returned arena space address) known used new = Answers thread arena space known new
Gives thread (TakenFromFreeBlocks arena space) known used new = Answers thread arena space known new
Gives thread (Failed arena space) known used new = GivesUp thread known new
Gives thread (ChunkHandedOut space base) known used new = Passes thread known new
Gives thread (Enlarged base) known used new = Passes thread known new
Gives thread (Committed words) known used new = Passes thread known new
Gives thread event known used new = Adds (ending event known) known.held.entries.items new

-- They keep their numbers, and where they are too many the first waits no longer.
pub record Takes (thread : ℕ) (event : Event) (known : Known) (used : List Bool) (new : Held) : Type 0 where
  pub lines : List Entry
  pub come : Gives thread event known used lines
  pub short : new.entries.items ≡ shortened lines
  pub first : new.first ≡ known.held.first
  pub closed : new.closed ≡ known.held.closed

-- Lines that are held back, in their order: where each stands, and which commands are known among them.
use Rattle.std.specs.Prelude.{◌≡◌, ◌-◌, ◌+◌, ◌%◌, ◌^◌, ℕ, Bool, true, false, List, [], ◌∷◌, ◌++◌, Option, Some, None, flat_map, length, nat_le, nat_lt, slice_get, slice_set}
use Rattle.std.specs.Prelude.{if◌then◌else◌}
use Rattle.std.specs.List.{All}
use Rattle.ms_base.specs.declared.kind.Kind.{Kind}
use Rattle.ms_base.specs.declared.kind.Kind.TheVariants.{Standard}
use Rattle.ms_base.specs.declared.step.Step.TheVariants.{New}
use Rattle.ms_trace.specs.declared.trace.Command.{Command}
use Rattle.ms_trace.specs.declared.trace.Command.TheVariants.{Step as Asks}
use Rattle.jvm_log.specs.declared.held.Entry.{Entry}
use Rattle.jvm_log.specs.declared.held.Held.{Held}
use Rattle.jvm_log.specs.declared.held.Entry.TheVariants.{Whole, Born, Asked, Void}
use Rattle.jvm_log.specs.declared.placed.Placed.{Placed}
use Rattle.jvm_log.specs.NameActs.{name_acts}

-- The line that opens a loader.
abbrev pub opening : ℕ → Kind → Placed
opening loader kind = record { command = Asks (New loader kind); address = 0 }

-- The command of an entry, as far as it is known: a loader is standard until its kind is told.
abbrev pub known_of : Entry → List Command
known_of (Whole line) = line.command ∷ []
known_of (Born loader) = Asks (New loader Standard) ∷ []
known_of Asked = []
known_of Void = []

-- The commands that are known among the lines held back.
abbrev pub waiting : List Entry → List Command
waiting entries = flat_map known_of entries

-- What these do to names.
abbrev pub name_acts_of : List Entry → List (ℕ × Bool)
name_acts_of entries = flat_map name_acts (waiting entries)

-- An entry waits for the answer to its request.
abbrev pub is_asked : Option Entry → Bool
is_asked (Some Asked) = true
is_asked entry = false

abbrev pub asks_at : ℕ → Held → Bool
asks_at number held = if nat_le held.first number then is_asked (slice_get held.entries.items (number - held.first)) else false

-- The entry of that number becomes another where it waits for an answer; otherwise the entries are these.
abbrev pub answered : ℕ → Entry → List Entry → Held → List Entry
answered number entry otherwise held =
    if asks_at number held then slice_set held.entries.items (number - held.first) entry else otherwise

-- A line takes the entry of its request while that waits, and comes at the end where the entry is gone or waits no
-- more, or the request has none.
abbrev pub with_line : Option ℕ → Placed → Held → List Entry
with_line None line held = held.entries.items ++ Whole line ∷ []
with_line (Some number) line held = answered number (Whole line) (held.entries.items ++ Whole line ∷ []) held

-- A request that is given up has no line: its entry stays, and gives none.
abbrev pub without_line : Option ℕ → Held → List Entry
without_line None held = held.entries.items
without_line (Some number) held = answered number Void held.entries.items held

-- More may be known of an entry later.
abbrev pub is_open : Entry → Bool
is_open (Born loader) = true
is_open Asked = true
is_open entry = false

-- More may be known of the first entry, or there is none.
abbrev pub none_may_go : List Entry → Bool
none_may_go [] = true
none_may_go (entry ∷ entries) = is_open entry

-- What stands for an entry of which nothing more will be known.
abbrev pub settled : Entry → Entry
settled (Born loader) = Whole (opening loader Standard)
settled Asked = Void
settled entry = entry

abbrev pub settled_first : List Entry → List Entry
settled_first [] = []
settled_first (entry ∷ entries) = settled entry ∷ entries

-- Where more than 100,000 lines are held back the first waits no longer.
abbrev pub shortened : List Entry → List Entry
shortened entries = if nat_lt 100000 (length entries) then settled_first entries else entries

-- The log isn't over, and what may go has gone.
pub record IsAwaiting (held : Held) : Type 0 where
  pub more : held.closed ≡ false
  pub first : none_may_go held.entries.items ≡ true

-- The first entries go, and the others keep their numbers. None goes of which more may be known.
pub record Goes (gone : List Entry) (old new : Held) : Type 0 where
  pub lines : old.entries.items ≡ gone ++ new.entries.items
  pub number : new.first ≡ (old.first + length gone) % 2 ^ 64
  pub closed : new.closed ≡ old.closed
  pub known : old.closed ≡ false → All (λ entry. is_open entry ≡ false) gone

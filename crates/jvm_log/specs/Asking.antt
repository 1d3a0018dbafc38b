-- Which requests threads have open after a line of the log.
use Rattle.std.specs.Prelude.{◌≡◌, ◌+◌, ◌%◌, ◌^◌, ℕ, Bool, true, false, Option, Some, None, length, nat_eq}
use Rattle.std.specs.Prelude.{if◌then◌else◌}
use Rattle.std.specs.Map.{update}
use Rattle.std.specs.Option.{option_map}
use Rattle.jvm_log.specs.declared.event.Event.{Event}
use Rattle.jvm_log.specs.declared.event.Event.TheVariants.{Requested, Returned, TakenFromFreeBlocks, Failed, ChunkHandedOut, Enlarged, Committed}
use Rattle.jvm_log.specs.declared.held.Held.{Held}
use Rattle.jvm_log.specs.declared.loader.Request.{Request}
use Rattle.jvm_log.specs.Known.{Known}

-- A request of an arena that is known, for words; its line has no number so far.
abbrev pub asked : Option ℕ → ℕ → ℕ → Option Request
asked None arena words = None
asked (Some owner) arena words = Some (record { arena = arena; words = words; line = None })

-- The number of the next line that is held back.
abbrev pub next_number : Held → ℕ
next_number held = (held.first + length held.entries.items) % 2 ^ 64

-- A request that passes the pool has its line's number from then on.
abbrev pub placed : Held → Request → Option ℕ → Request
placed held request None = record request { line = Some (next_number held) }
placed held request (Some line) = request

abbrev pub passed : Held → Request → Request
passed held request = placed held request request.line

-- An event is a step in the pool.
abbrev pub is_passing : Event → Bool
is_passing (ChunkHandedOut space base) = true
is_passing (Enlarged base) = true
is_passing (Committed words) = true
is_passing event = false

-- The request of the thread that wrote the line: it opens, passes the pool, and ends with an answer or a refusal.
abbrev pub asked_then : Event → Known → Option Request → Option Request
asked_then (Requested arena space words) known request = asked (known.loaders.owner_at arena) arena words
asked_then (Returned arena space address) known request = None
asked_then (TakenFromFreeBlocks arena space) known request = None
asked_then (Failed arena space) known request = None
asked_then event known request = if is_passing event then option_map (passed known.held) request else request

-- Those of other threads stay.
abbrev pub Asking : ℕ → Event → Known → (ℕ → Option Request) → Type 0
Asking thread event known new =
    (q : ℕ) → new q ≡ update nat_eq known.request_of thread (asked_then event known (known.request_of thread)) q

-- What a line of the log says: the head of a line, and each form of a message, part by part. After
-- the messages of HotSpot 17's metaspace, of its class loaders' data and of its collections.
use Rattle.std.specs.Prelude.{ℕ, List, Option, Some, None, codes, nat_eq, if◌then◌else◌}
use Rattle.std.specs.List.{ends_with, starts_with}
use Rattle.std.specs.Option.{option_or}
use Rattle.ms_base.specs.declared.kind.Kind.{Kind}
use Rattle.ms_base.specs.declared.kind.Kind.TheVariants.{Standard, Reflection, Hidden}
use Rattle.ms_base.specs.declared.kind.Space.{Space}
use Rattle.jvm_log.specs.declared.event.Event.{Event}
use Rattle.jvm_log.specs.declared.event.Event.TheVariants.{Begun, LoaderBorn, LoaderDies, Requested, Returned}
use Rattle.jvm_log.specs.declared.event.Event.TheVariants.{TakenFromFreeBlocks, Failed, Deallocated, ChunkRequested}
use Rattle.jvm_log.specs.declared.event.Event.TheVariants.{ChunkHandedOut, Enlarged, Committed, Told, ClassAdded}
use Rattle.jvm_log.specs.declared.event.Event.TheVariants.{LoaderNamed, Collection, Dropped, OtherRelease}
use Rattle.jvm_log.specs.declared.event.Said.{Said}
use Rattle.jvm_log.specs.Parts.{◌>>=◌, address_after, address_at, after, level_after, level_at, number_after, number_at}
use Rattle.jvm_log.specs.Parts.{only, past, space_at}

-- `[uptime][thread][level][tags] `: the thread, whose number may be padded, and what stands after the
-- head.
unfoldable pub head_of : List ℕ → Option (ℕ × List ℕ)
head_of line = do
  uptime ← after (codes "[") line
  rest ← past 93 uptime
  start ← after (codes "[") rest
  thread ← number_at start
  rest ← past 93 thread.1
  level ← after (codes "[") rest
  rest ← past 93 level
  tags ← after (codes "[") rest
  rest ← past 93 tags
  message ← after (codes " ") rest
  Some (thread.0, message)

-- `Initialized with strategy: ..`.
unfoldable pub begun_line : List ℕ → Option Event
begun_line message = do
  name ← after (codes "Initialized with strategy: ") message
  Some Begun

-- `.. messages dropped due to async logging`.
unfoldable pub dropped_line : List ℕ → Option Event
dropped_line message =
    if ends_with nat_eq message (codes " messages dropped due to async logging") then Some Dropped else None

-- ` : dies.`.
unfoldable pub dying : ℕ → List ℕ → Option Event
dying loader saying = do
  end ← only (codes " : dies.") saying
  Some (LoaderDies loader)

-- ` : born (nonclass arena: A, class arena: A.`.
unfoldable pub bearing : ℕ → List ℕ → Option Event
bearing loader saying = do
  arena ← address_after (codes " : born (nonclass arena: ") saying
  class_arena ← address_after (codes ", class arena: ") arena.1
  end ← only (codes ".") class_arena.1
  Some (LoaderBorn loader arena.0 class_arena.0)

-- `CLMS @P ..`.
unfoldable pub loader_line : List ℕ → Option Event
loader_line message = do
  rest ← after (codes "CLMS @") message
  loader ← address_at rest
  option_or (dying loader.0 loader.1) (bearing loader.0 loader.1)

-- `requested N words.`.
unfoldable pub requested : ℕ → Space → List ℕ → Option Event
requested arena space saying = do
  rest ← after (codes "requested ") saying
  words ← number_at rest
  end ← only (codes " words.") words.1
  Some (Requested arena space words.0)

-- `returning P.`.
unfoldable pub returned : ℕ → Space → List ℕ → Option Event
returned arena space saying = do
  rest ← after (codes "returning ") saying
  address ← address_at rest
  end ← only (codes ".") address.1
  Some (Returned arena space address.0)

-- `taken from fbl (now: N, N).`.
unfoldable pub taken : ℕ → Space → List ℕ → Option Event
taken arena space saying = do
  rest ← after (codes "taken from fbl (now: ") saying
  blocks ← number_at rest
  rest ← after (codes ", ") blocks.1
  words ← number_at rest
  end ← only (codes ").") words.1
  Some (TakenFromFreeBlocks arena space)

-- `deallocating P, word size: N.`.
unfoldable pub deallocated : ℕ → Space → List ℕ → Option Event
deallocated arena space saying = do
  rest ← after (codes "deallocating ") saying
  address ← address_at rest
  rest ← after (codes ", word size: ") address.1
  words ← number_at rest
  end ← only (codes ".") words.1
  Some (Deallocated arena space address.0 words.0)

-- `allocation failed, returned NULL.`.
unfoldable pub failed : ℕ → Space → List ℕ → Option Event
failed arena space saying = do
  end ← only (codes "allocation failed, returned NULL.") saying
  Some (Failed arena space)

-- What an arena does.
unfoldable pub arena_saying : ℕ → Space → List ℕ → Option Event
arena_saying arena space saying =
    option_or (option_or (option_or (option_or
    (requested arena space saying)
    (returned arena space saying))
    (taken arena space saying))
    (deallocated arena space saying))
    (failed arena space saying)

-- `SPACE sm): `, the name of an arena.
unfoldable pub arena_name : List ℕ → Option (Space × List ℕ)
arena_name name = do
  space ← space_at name
  saying ← after (codes " sm): ") space.1
  Some (space.0, saying)

-- `NAME): `, another name, which tells that the log is of another release.
unfoldable pub other_name : List ℕ → Option Event
other_name name = do
  rest ← past 41 name
  saying ← after (codes ": ") rest
  Some OtherRelease

-- What an arena of that name does.
unfoldable pub arena_named : ℕ → List ℕ → Option Event
arena_named arena name = elim (arena_name name) [ None ↦ other_name name | Some read ↦ arena_saying arena read.0 read.1 ]

-- `Arena @A (NAME): ..`.
unfoldable pub arena_line : List ℕ → Option Event
arena_line message = do
  rest ← after (codes "Arena @") message
  arena ← address_at rest
  name ← after (codes " (") arena.1
  arena_named arena.0 name

-- `Metaspace::allocate: type T return P.`.
unfoldable pub told_line : List ℕ → Option Event
told_line message = do
  rest ← after (codes "Metaspace::allocate: type ") message
  type ← number_at rest
  rest ← after (codes " return ") type.1
  address ← address_at rest
  end ← only (codes ".") address.1
  Some (Told address.0)

-- `requested chunk: pref_level: L, max_level: L, min committed size: N.`.
unfoldable pub chunk_requested : Space → List ℕ → Option Event
chunk_requested space saying = do
  level ← level_after (codes "requested chunk: pref_level: ") saying
  most ← level_after (codes ", max_level: ") level.1
  words ← number_after (codes ", min committed size: ") most.1
  end ← only (codes ".") words.1
  Some (ChunkRequested space level.0)

-- `@P, u, base B, level L`: where a chunk in use lies.
unfoldable pub chunk_at : List ℕ → Option (ℕ × List ℕ)
chunk_at text = do
  rest ← after (codes "@") text
  chunk ← address_at rest
  rest ← after (codes ", u, base ") chunk.1
  base ← address_at rest
  rest ← after (codes ", level ") base.1
  level ← level_at rest
  Some (base.0, level.1)

-- `handing out chunk @P, u, base B, level L.`.
unfoldable pub handed_out : Space → List ℕ → Option Event
handed_out space saying = do
  rest ← after (codes "handing out chunk ") saying
  base ← chunk_at rest
  end ← only (codes ".") base.1
  Some (ChunkHandedOut space base.0)

-- `ChkMgr @P (SPACE-space): ..`.
unfoldable pub manager_line : List ℕ → Option Event
manager_line message = do
  rest ← after (codes "ChkMgr @") message
  manager ← address_at rest
  rest ← after (codes " (") manager.1
  space ← space_at rest
  saying ← after (codes "-space): ") space.1
  option_or (chunk_requested space.0 saying) (handed_out space.0 saying)

-- `), used: N, committed: N, committed-free: N.`.
unfoldable pub sizes : List ℕ → Option (Unit {0})
sizes text = do
  used ← number_after (codes "), used: ") text
  committed ← number_after (codes ", committed: ") used.1
  unused ← number_after (codes ", committed-free: ") committed.1
  only (codes ".") unused.1

-- `Enlarged chunk @P, u, base B, level L (N), used: N, committed: N, committed-free: N.`.
unfoldable pub enlarged_line : List ℕ → Option Event
enlarged_line message = do
  rest ← after (codes "Enlarged chunk ") message
  base ← chunk_at rest
  words ← number_after (codes " (") base.1
  end ← sizes words.1
  Some (Enlarged base.0)

-- `VsListNode @P base B : ... committed N additional words.`.
unfoldable pub committed_line : List ℕ → Option Event
committed_line message = do
  node ← address_after (codes "VsListNode @") message
  base ← address_after (codes " base ") node.1
  words ← number_after (codes " : ... committed ") base.1
  end ← only (codes " additional words.") words.1
  Some (Committed words.0)

-- The kind of a loader that a line describes so.
unfoldable pub kind_in : List ℕ → Kind
kind_in owner =
    if ends_with nat_eq owner (codes " has a class holder") then Hidden
    else if starts_with nat_eq owner (codes "for instance a 'jdk/internal/reflect/DelegatingClassLoader'") then Reflection
    else Standard

-- `Adding k: P CLASS to loader data: P ..`.
unfoldable pub class_line : List ℕ → Option Event
class_line message = do
  address ← address_after (codes "Adding k: ") message
  name ← after (codes " ") address.1
  rest ← past 32 name
  pointer ← address_after (codes "to loader data: ") rest
  owner ← after (codes " ") pointer.1
  Some (ClassAdded address.0 (kind_in owner))

-- `unloadloader data: P of ..`.
unfoldable pub named_line : List ℕ → Option Event
named_line message = do
  rest ← after (codes "unloadloader data: ") message
  pointer ← address_at rest
  name ← after (codes " of ") pointer.1
  Some (LoaderNamed pointer.0)

-- `aK(bK)->cK(dK)`.
unfoldable pub change_at : List ℕ → Option (List ℕ)
change_at text = do
  used ← number_at text
  rest ← after (codes "K(") used.1
  committed ← number_at rest
  rest ← after (codes "K)->") committed.1
  used ← number_at rest
  rest ← after (codes "K(") used.1
  committed ← number_at rest
  after (codes "K)") committed.1

-- A word and a change.
unfoldable pub change_after : List ℕ → List ℕ → Option (List ℕ)
change_after word text = after word text >>= change_at

-- `GC(n) Metaspace: CHANGE NonClass: CHANGE Class: CHANGE`.
unfoldable pub collection_line : List ℕ → Option Event
collection_line message = do
  number ← number_after (codes "GC(") message
  rest ← change_after (codes ") Metaspace: ") number.1
  rest ← change_after (codes " NonClass: ") rest
  rest ← change_after (codes " Class: ") rest
  end ← only (codes "") rest
  Some Collection

-- What a message says.
unfoldable pub event_in : List ℕ → Option Event
event_in message =
    option_or (option_or (option_or (option_or (option_or (option_or (option_or (option_or (option_or (option_or
    (arena_line message)
    (told_line message))
    (manager_line message))
    (loader_line message))
    (enlarged_line message))
    (committed_line message))
    (class_line message))
    (named_line message))
    (collection_line message))
    (begun_line message))
    (dropped_line message)

-- What a line says, and the thread that wrote it.
unfoldable pub said_in : List ℕ → Option Said
said_in line = do
  head ← head_of line
  event ← event_in head.1
  Some (record { thread = head.0; event = event })

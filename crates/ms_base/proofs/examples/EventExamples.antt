-- Worked examples: single events, as they happen between two states.
use Rattle.std.proofs.Common.{◌≡◌, ℕ, true, Some, List, [], ◌∷◌, refl, ap, ◌∙◌, inl, arith}
use Rattle.ms_base.specs.declared.kind.Kind.TheVariants.{Standard, Boot}
use Rattle.ms_base.specs.declared.kind.Space.{Space}
use Rattle.ms_base.specs.declared.kind.Space.TheVariants.{NonClass, Class}
use Rattle.ms_base.specs.declared.policy.Policy.TheVariants.{Balanced}
use Rattle.ms_base.specs.declared.span.Chunk.{Chunk}
use Rattle.ms_base.specs.declared.step.Step.TheVariants.{New, Alloc, Unload}
use Rattle.ms_base.specs.declared.step.Reply.TheVariants.{Refused}
use Rattle.ms_base.specs.declared.refusal.Refusal.TheVariants.{CommitLimit, NoLoader, NoRoom, ReserveLimit, IdsUsedUp}
use Rattle.ms_base.specs.State.{ArenaState, LoaderState, Machine, empty_machine, empty_arena, empty_loader, arena_of}
use Rattle.ms_base.specs.Transition.{zeroed, Cause}
use Rattle.ms_base.specs.Run.Event.{opening, taking, growing, closing, purging, acting, accepted, lent, counted, replied}
use Rattle.ms_base.specs.Run.Event.{refused, Happens, emptied}

abbrev chunk : ℕ → ℕ → ℕ → Chunk
chunk at level front = record { start = at; level = level; front = front }

abbrev arena : List Chunk → List ℕ → ArenaState
arena chunks tops = record { chunks = chunks; tops = tops; kept = [] }

-- A standard loader with a block at the start of its chunk.
abbrev loader : Chunk → LoaderState
loader its =
    record {
      kind = Standard;
      arena = arena (its ∷ []) (10 ∷ []);
      class_arena = empty_arena;
      blocks = (1, zeroed its.start 10) ∷ [];
    }

abbrev machine : List (ℕ × LoaderState) → Machine
machine loaders = record (empty_machine (record { nodes = 64; granules = 8192; policy = Balanced; class_nodes = 0 })) {
  loaders = loaders;
  slots = 0 ∷ [];
  committed = 0 ∷ [];
  given = 4;
}

abbrev alone : Machine
alone = machine ((1, loader (chunk 0 10 512)) ∷ [])

abbrev beside : Machine
beside = machine ((1, loader (chunk 0 10 512)) ∷ (2, loader (chunk 512 10 512)) ∷ [])

-- A loader is opened, with two owner numbers.
opens : Happens alone (opening 2 Boot) accepted
    (record (machine ((1, loader (chunk 0 10 512)) ∷ (2, empty_loader Boot) ∷ [])) { given = 6 })
opens = record { numbers = omega arith; made = record { unused = refl; after = refl } }

-- A leader grows into its parent where its buddy is free, and its top stays.
grows : Happens alone (growing NonClass 1 0 520 true) (lent (chunk 0 9 1024))
    (machine ((1, record (loader (chunk 0 10 512)) { arena = arena (chunk 0 9 1024 ∷ []) (10 ∷ []) }) ∷ []))
grows = record {
  loader = loader (chunk 0 10 512);
  index = 0;
  was = chunk 0 10 512;
  asked = record { has = refl; found = refl; starts = refl };
  answer = refl;
  after = refl;
}

-- Where it is held there is no room, and nothing changes.
grows_not : Happens beside (growing NonClass 1 0 520 true) (refused (NoRoom 10)) beside
grows_not = record {
  loader = loader (chunk 0 10 512);
  index = 0;
  was = chunk 0 10 512;
  asked = record { has = refl; found = refl; starts = refl };
  cause = refl;
  after = refl;
}

-- Without nodes of its own the class space lends no chunk.
takes_none : Happens alone (taking Class 1 11 12 10) (refused (ReserveLimit 0 0)) alone
takes_none = record {
  loader = loader (chunk 0 10 512);
  has = refl;
  askable = record { order = omega arith; least = omega arith; some = omega arith; fits = omega arith };
  cause = inl refl;
  after = refl;
}

-- A loader with a live block isn't closed; once emptied it is, and its granule goes.
closes_not : Happens alone (closing 1) accepted (machine []) → ⊥
closes_not closes = has_block closes.loader closes.has closes.blocks
  where
    has_block : (one : LoaderState) → Some (loader (chunk 0 10 512)) ≡ Some one → one.blocks ≡ [] → ⊥
    has_block one is none = let same : loader (chunk 0 10 512) ≡ one = cc in let blocks =
        ap (λ (l : LoaderState). l.blocks) same ∙ none in absurd (cc)

kept_nothing : (space : Space) → (arena_of space (emptied (loader (chunk 0 10 512)))).kept ≡ []
kept_nothing NonClass = refl
kept_nothing Class = refl

closes : Happens (machine ((1, emptied (loader (chunk 0 10 512))) ∷ [])) (closing 1) accepted
    (record (machine []) { committed = [] })
closes = record {
  loader = emptied (loader (chunk 0 10 512));
  has = refl;
  blocks = refl;
  kept = kept_nothing;
  after = refl;
}

-- A purge tells how many nodes went.
purges : Happens (record (machine []) { committed = [] }) purging (counted 1)
    (record (machine []) { slots = []; committed = [] })
purges = record { nodes_are = refl; after = refl }

-- A local event is refused as its request is, but never for owner numbers, which the pool alone
-- knows.
no_loader : Happens alone (acting (Unload 2)) (replied (Refused NoLoader)) alone
no_loader = (refl, refl)

ids_are_the_pools : Happens alone (acting (New 2 Boot)) (replied (Refused IdsUsedUp)) alone → ⊥
ids_are_the_pools none = none.0

-- With a limit of one granule a chunk is refused while another loader holds it, and for no cause
-- when it doesn't: neither once that one is closed nor before it had the chunk. So an unload counts
-- as done at its closing and not before, and a refused allocation where its chunk is refused.
abbrev tight : List (ℕ × LoaderState) → List ℕ → Machine
tight loaders granules =
    record (empty_machine (record { nodes = 64; granules = 1; policy = Balanced; class_nodes = 0 })) {
      loaders = loaders;
      slots = 0 ∷ [];
      committed = granules;
      given = 4;
    }

abbrev holder : LoaderState
holder = record (empty_loader Standard) { arena = arena (chunk 0 6 8192 ∷ []) [] }

limit_is_met : Happens (tight ((1, holder) ∷ (2, empty_loader Standard) ∷ []) (0 ∷ [])) (taking NonClass 2 10 12 10)
    (refused (CommitLimit 1 1 1))
    (tight ((1, holder) ∷ (2, empty_loader Standard) ∷ []) (0 ∷ []))
limit_is_met = record {
  loader = empty_loader Standard;
  has = refl;
  askable = record { order = omega arith; least = omega arith; some = omega arith; fits = omega arith };
  cause = inl refl;
  after = refl;
}

without_it_none_is : Cause (tight ((2, empty_loader Standard) ∷ []) []) (Alloc 2 1 10) (CommitLimit 1 1 1) → ⊥
without_it_none_is cause = let committed = cause.1.cause.committed_are in absurd (cc)

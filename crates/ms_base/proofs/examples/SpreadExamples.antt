-- Worked examples: steps spread over events, their serial order, and lists of events that are no
-- whole steps.
use Rattle.std.proofs.Common.{◌≡◌, ℕ, zero, suc, true, false, List, [], ◌∷◌, ◌++◌, Option, Some, None, length, take}
use Rattle.std.proofs.Common.{refl, ap, ◌∙◌, inl, inr, arith, map}
use Rattle.std.specs.Prelude.{◌==◌}
use Rattle.std.specs.List.{flat_map}
use Rattle.std.proofs.lemmas.List.Elements.{All-from_recursion}
use Rattle.ms_base.specs.declared.kind.Kind.TheVariants.{Standard, Boot}
use Rattle.ms_base.specs.declared.kind.Space.{Space}
use Rattle.ms_base.specs.declared.kind.Space.TheVariants.{NonClass, Class}
use Rattle.ms_base.specs.declared.policy.Policy.TheVariants.{Balanced}
use Rattle.ms_base.specs.declared.span.Chunk.{Chunk}
use Rattle.ms_base.specs.declared.step.Step.TheVariants.{New, Alloc, Calloc, Read, Unload}
use Rattle.ms_base.specs.declared.step.Reply.TheVariants.{Ok as Done, At, Value, Refused}
use Rattle.ms_base.specs.declared.refusal.Refusal.TheVariants.{CommitLimit, OutOfMemory, NoRoom}
use Rattle.ms_base.specs.State.{ArenaState, LoaderState, Machine, empty_machine, empty_arena, empty_loader, arena_of}
use Rattle.ms_base.specs.Transition.{zeroed}
use Rattle.ms_base.specs.Run.Event.{Event, opening, taking, growing, closing, purging, acting, Answer, accepted, lent}
use Rattle.ms_base.specs.Run.Event.{counted, replied, refused, Happens, emptied, loader_of_event}
use Rattle.ms_base.specs.Run.Spread.{SpreadStep, Moment, GoesOn, HasNoSpan, Spreads, IsWhole, IsByItself, IsAskedFor}
use Rattle.ms_base.specs.Run.Spread.{words_asked, Part, spread_parts, AreWhole, IsSpread, not_asked, not_had, parts_by}
use Rattle.ms_base.specs.Run.Serial.{is_accepted, is_taking, is_closing, is_acting, is_position, serial}

abbrev pub chunk : ℕ → ℕ → ℕ → Chunk
chunk at level front = record { start = at; level = level; front = front }

-- An unload counts as done at its closing, and not at its local event.
abbrev unload : SpreadStep
unload = record {
  step = Unload 1;
  reply = Done;
  events = (acting (Unload 1), replied Done) ∷ (closing 1, accepted) ∷ [];
}

unload_is_whole : IsWhole unload
unload_is_whole = refl

unload_at_its_closing : map (is_position unload.events) unload.events ≡ false ∷ true ∷ []
unload_at_its_closing = refl

-- An allocation that asks for a growth first, which is refused, counts as done at its chunk, be it
-- lent or refused.
abbrev alloc : SpreadStep
alloc = record {
  step = Alloc 2 1 10;
  reply = At 512;
  events = (taking NonClass 2 10 12 10, lent (chunk 512 10 512)) ∷ (acting (Alloc 2 1 10), replied (At 512)) ∷ [];
}

alloc_is_whole : IsWhole alloc
alloc_is_whole = inr (record {
  asked = [];
  rest = alloc.events;
  no_span = not_asked;
  goes_on =
      inl (record { p = 10; m = 12; words = 10; chunk = chunk 512 10 512; at = 512; served = refl; events_are = refl });
  events_are = refl;
})

alloc_at_its_chunk : map (is_position alloc.events) alloc.events ≡ true ∷ false ∷ []
alloc_at_its_chunk = refl

abbrev refused_alloc : SpreadStep
refused_alloc = record {
  step = Calloc 3 1 500;
  reply = Refused (CommitLimit 1 1 1);
  events = (growing Class 3 67108864 510 true, refused (NoRoom 11))
      ∷ (taking Class 3 10 10 500, refused (CommitLimit 1 1 1))
      ∷ (acting (Calloc 3 1 500), replied (Refused (CommitLimit 1 1 1))) ∷ [];
}

refused_alloc_is_whole : IsWhole refused_alloc
refused_alloc_is_whole = inr (record {
  asked = (growing Class 3 67108864 510 true, refused (NoRoom 11)) ∷ [];
  rest = (taking Class 3 10 10 500, refused (CommitLimit 1 1 1))
      ∷ (acting (Calloc 3 1 500), replied (Refused (CommitLimit 1 1 1))) ∷ [];
  no_span = not_had 67108864 510 true (NoRoom 11);
  goes_on =
      inr (inl (record { p = 10; m = 10; words = 500; refusal = CommitLimit 1 1 1; passed = refl; events_are = refl }));
  events_are = refl;
})

refused_alloc_at_its_chunk : map (is_position refused_alloc.events) refused_alloc.events ≡ false ∷ true ∷ false ∷ []
refused_alloc_at_its_chunk = refl

-- A New that finds no memory after the opening counts as done at the opening.
abbrev wants_memory : SpreadStep
wants_memory =
    record {
      step = New 4 Boot;
      reply = Refused OutOfMemory;
      events = (opening 4 Boot, accepted) ∷ (closing 4, accepted) ∷ [];
    }

wants_memory_is_whole : IsWhole wants_memory
wants_memory_is_whole = inl refl

new_at_its_opening : map (is_position wants_memory.events) wants_memory.events ≡ true ∷ false ∷ []
new_at_its_opening = refl

-- A Purge and a Read are one event, which has their position.
purge_at_its_only_event : is_position ((purging, counted 1) ∷ []) (purging, counted 1) ≡ true
purge_at_its_only_event = refl

read_at_its_only_event : is_position ((acting (Read 1 1 0), replied (Value 0)) ∷ [])
    (acting (Read 1 1 0), replied (Value 0)) ≡ true
read_at_its_only_event = refl

-- Three loaders' events in a row, and the serial order of their steps: the first loader's unload
-- comes after the allocation that its closing comes after.
abbrev in_state : Machine → SpreadStep → Event → Answer → Moment
in_state m spread event answer = record { before = m; event = event; answer = answer; after = m; of = Some spread }

abbrev row : Machine → List Moment
row m =
    in_state m unload (acting (Unload 1)) (replied Done)
    ∷ in_state m refused_alloc (growing Class 3 67108864 510 true) (refused (NoRoom 11))
    ∷ in_state m alloc (taking NonClass 2 10 12 10) (lent (chunk 512 10 512))
    ∷ in_state m refused_alloc (taking Class 3 10 10 500) (refused (CommitLimit 1 1 1))
    ∷ in_state m unload (closing 1) accepted
    ∷ in_state m refused_alloc (acting (Calloc 3 1 500)) (replied (Refused (CommitLimit 1 1 1)))
    ∷ in_state m alloc (acting (Alloc 2 1 10)) (replied (At 512))
    ∷ []

serial_order : (m : Machine) → serial (row m)
    ≡ (Alloc 2 1 10, At 512) ∷ (Calloc 3 1 500, Refused (CommitLimit 1 1 1)) ∷ (Unload 1, Done) ∷ []
serial_order m = refl

-- An unload that is never closed is no whole step; nor is one that is closed first.
unload_needs_its_closing : IsWhole (record unload { events = (acting (Unload 1), replied Done) ∷ [] }) → ⊥
unload_needs_its_closing e = cc

closing_comes_last : IsWhole (record unload { events = (closing 1, accepted) ∷ (acting (Unload 1), replied Done) ∷ [] })
    → ⊥
closing_comes_last e = let kinds = ap (map is_closing) e in absurd (cc)

-- A limit comes in no local event but where the pool told it.
limit_is_told : Spreads (Alloc 1 1 1) (Refused (CommitLimit 1 1 1))
    ((acting (Alloc 1 1 1), replied (Refused (CommitLimit 1 1 1))) ∷ []) → ⊥
limit_is_told (inl grows) = let served = grows.served in absurd (cc)
limit_is_told (inr on) = elim on.goes_on [
  | inl takes ↦ let served = takes.served in absurd (cc)
  | inr other ↦ elim other [
    | inl passes ↦
        two_events on.asked _ _ (on.events_are ∙ ap (λ (l : List (Event × Answer)). on.asked ++ l) passes.events_are)
    | inr none ↦ none.own
  ]
]
  where
    two_events : (asked : List (Event × Answer)) (first second : Event × Answer) {one : Event × Answer}
        → one ∷ [] ≡ asked ++ first ∷ second ∷ [] → ⊥
    two_events [] first second e = absurd (cc)
    two_events (a ∷ []) first second e = absurd (cc)
    two_events (a ∷ b ∷ asked) first second e = absurd (cc)

-- After a growth that is had no chunk is asked for.
abbrev both : List (Event × Answer)
both = (growing NonClass 1 0 20 true, lent (chunk 0 10 512)) ∷ (taking NonClass 1 10 12 10, lent (chunk 512 10 512))
    ∷ (acting (Alloc 1 1 10), replied (At 512)) ∷ []

growth_is_enough : Spreads (Alloc 1 1 10) (At 512) both → ⊥
growth_is_enough (inl grows) = let counts = ap length grows.events_are in absurd (cc)
growth_is_enough (inr on) = by_asked on.no_span on.events_are
  where
    by_rest : {rest : List (Event × Answer)} → GoesOn NonClass 1 (Alloc 1 1 10) (At 512) rest → both ≡ rest → ⊥
    by_rest (inl takes) e = let kinds = ap (map is_taking) (e ∙ takes.events_are) in absurd (cc)
    by_rest (inr (inl passes)) e = let kinds = ap (map is_taking) (e ∙ passes.events_are) in absurd (cc)
    by_rest (inr (inr none)) e = let kinds = ap (map is_acting) (e ∙ none.events_are) in absurd (cc)

    by_asked : {asked : List (Event × Answer)} → HasNoSpan NonClass 1 asked → both ≡ asked ++ on.rest → ⊥
    by_asked not_asked e = by_rest on.goes_on e
    by_asked (not_had start total enlarges refusal) e = let kinds = ap (map is_accepted) e in absurd (cc)

-- A spread with its states: a loader's unload and another's allocation, each between the other's
-- events.
abbrev pub arena_with : List Chunk → List ℕ → ArenaState
arena_with chunks tops = record { chunks = chunks; tops = tops; kept = [] }

abbrev pub full : LoaderState
full = record {
  kind = Standard;
  arena = arena_with (chunk 0 10 512 ∷ []) (10 ∷ []);
  class_arena = empty_arena;
  blocks = (1, zeroed 0 10) ∷ [];
}

abbrev pub with_its_chunk : LoaderState
with_its_chunk = record (empty_loader Standard) { arena = arena_with (chunk 512 10 512 ∷ []) [] }

abbrev pub with_its_block : LoaderState
with_its_block =
    record with_its_chunk { arena = arena_with (chunk 512 10 512 ∷ []) (10 ∷ []); blocks = (1, zeroed 512 10) ∷ [] }

abbrev pub two : LoaderState → LoaderState → Machine
two first second = record (empty_machine (record { nodes = 64; granules = 8192; policy = Balanced; class_nodes = 0 })) {
  loaders = (1, first) ∷ (2, second) ∷ [];
  slots = 0 ∷ [];
  committed = 0 ∷ [];
  given = 4;
}

abbrev pub at_the_end : Machine
at_the_end = record (two full full) { loaders = (2, with_its_block) ∷ [] }

abbrev pub moments : List Moment
moments =
    record {
      before = two full (empty_loader Standard);
      event = acting (Unload 1);
      answer = replied Done;
      after = two (emptied full) (empty_loader Standard);
      of = Some unload;
    }
    ∷ record {
      before = two (emptied full) (empty_loader Standard);
      event = taking NonClass 2 10 12 10;
      answer = lent (chunk 512 10 512);
      after = two (emptied full) with_its_chunk;
      of = Some alloc;
    }
    ∷ record {
      before = two (emptied full) with_its_chunk;
      event = acting (Alloc 2 1 10);
      answer = replied (At 512);
      after = two (emptied full) with_its_block;
      of = Some alloc;
    }
    ∷ record {
      before = two (emptied full) with_its_block;
      event = closing 1;
      answer = accepted;
      after = at_the_end;
      of = Some unload;
    }
    ∷ []

-- The allocation is first, since its chunk was lent while the unload's own was still held.
serial_with_states : serial moments ≡ (Alloc 2 1 10, At 512) ∷ (Unload 1, Done) ∷ []
serial_with_states = refl

none_of_the_class_space : (space : Space) → (arena_of space (emptied full)).kept ≡ []
none_of_the_class_space NonClass = refl
none_of_the_class_space Class = refl

pub chunk_is_taken : Happens (two (emptied full) (empty_loader Standard)) (taking NonClass 2 10 12 10)
    (lent (chunk 512 10 512)) (two (emptied full) with_its_chunk)
chunk_is_taken = record {
  loader = empty_loader Standard;
  has = refl;
  askable = record { order = omega arith; least = omega arith; some = omega arith; fits = omega arith };
  answer = refl;
  inside = refl;
  after = refl;
}

pub loader_is_closed : Happens (two (emptied full) with_its_block) (closing 1) accepted at_the_end
loader_is_closed =
    record { loader = emptied full; has = refl; blocks = refl; kept = none_of_the_class_space; after = refl }

only_known : (name : ℕ) → AreWhole (parts_by name moments)
only_known zero = record { steps = []; whole = All-from_recursion IsWhole [] tt; parts_are = refl }
only_known (suc zero) =
    record {
      steps = unload ∷ [];
      whole = All-from_recursion IsWhole (unload ∷ []) (unload_is_whole, tt);
      parts_are = refl;
    }
only_known (suc (suc zero)) =
    record {
      steps = alloc ∷ [];
      whole = All-from_recursion IsWhole (alloc ∷ []) (alloc_is_whole, tt);
      parts_are = refl;
    }
only_known (suc (suc (suc name))) =
    record { steps = []; whole = All-from_recursion IsWhole [] tt; parts_are = rw (first name, second name) refl }
  where
    first : (n : ℕ) → (1 == suc (suc (suc n))) ≡ false
    first n = grind arith

    second : (n : ℕ) → (2 == suc (suc (suc n))) ≡ false
    second n = grind arith

arena_asks : IsAskedFor (two (emptied full) (empty_loader Standard)) (taking NonClass 2 10 12 10)
    (words_asked (Some alloc))
arena_asks = record { loader = empty_loader Standard; has = refl; wanted = refl; most_is = refl; words_are = refl }

pub is_spread : IsSpread moments
is_spread = record {
  each = only_known;
  others = All-from_recursion
      (λ (moment : Moment). IsByItself (moment.event, moment.answer) (loader_of_event moment.event) moment.of) moments
      (tt, (tt, (tt, (tt, tt))));
  asked = All-from_recursion (λ (moment : Moment). IsAskedFor moment.before moment.event (words_asked moment.of))
      moments (tt, (arena_asks, (tt, (tt, tt))));
}

abbrev some_spread : SpreadStep → Option SpreadStep
some_spread spread = Some spread

-- The step whose event is the first.
abbrev whose : List Part → Option SpreadStep
whose [] = None
whose (part ∷ parts) = part.0

-- Without the last moment it is none: the unload is never closed.
abbrev unclosed : List Part
unclosed = parts_by 1 (take 3 moments)

unclosed_is_no_step : AreWhole unclosed → ⊥
unclosed_is_no_step are = of_steps are.steps are.parts_are
  where
    its : (spread : SpreadStep) (events : List (Event × Answer)) (more : List Part) → spread.events ≡ events
        → (unclosed ≡ more → ⊥) → unclosed ≡ map (λ (one : Event × Answer). (Some spread, one.0, one.1)) events ++ more
        → ⊥
    its spread [] more has later e = later e
    its spread (one ∷ []) more has later e =
        let first : some_spread unload ≡ some_spread spread = ap (λ (l : List Part). whose l) e in
        let same : unload ≡ spread = cc in
        let counts : length unload.events ≡ 1 = ap (λ (one : SpreadStep). length one.events) same ∙ ap length has in
        absurd (cc)
    its spread (one ∷ other ∷ events) more has later e = absurd (cc)

    of_steps : (steps : List SpreadStep) → unclosed ≡ flat_map spread_parts steps → ⊥
    of_steps [] e = absurd (cc)
    of_steps (spread ∷ steps) e = its spread spread.events (flat_map spread_parts steps) refl (of_steps steps) e

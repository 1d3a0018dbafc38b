-- What an allocation tells of granules, whatever it asked of the pool. For
-- `System::allocate_with_run`.
use Rattle.std.proofs.Common.{◌≡◌, ◌≤◌, ◌<◌, ℕ, zero, suc, ◌+◌, ◌-◌, ◌/◌, Bool, true, false, Some, Ok}
use Rattle.std.proofs.Common.{List, [], ◌∷◌, ◌++◌, length, length-append, refl, sym, ap, ◌∙◌, subst, inl, inr, arith}
use Rattle.std.specs.List.{Contains}
use Rattle.std.specs.Prelude.{◌==◌, ◌⊎◌, nat_le, nat_lt, ◌&&◌, slice_get, slice_set, if◌then◌else◌, Option, IfSome}
use Rattle.std.proofs.lemmas.Bool.{and_parts, both_ways, ltb-true, eq-eqb, eqb-true, ne_eqb}
use Rattle.std.proofs.lemmas.List.Elements.{All-contains}
use Rattle.ms_base.specs.declared.kind.Space.{Space}
use Rattle.ms_base.specs.declared.kind.Space.TheVariants.{NonClass, Class}
use Rattle.ms_base.specs.declared.span.Chunk.{Chunk}
use Rattle.ms_base.specs.Policy.{granule_of}
use Rattle.ms_base.specs.PoolSteps.Causes.{granules_missing}
use Rattle.ms_base.specs.Spaces.{other_space}
use Rattle.ms_base.specs.declared.span.Block.{Block}
use Rattle.ms_base.specs.Level.{size_of}
use Rattle.ms_base.specs.Names.{named}
use Rattle.ms_base.specs.Live.{block_words}
use Rattle.ms_base.specs.Part.{IsPart, slot_of}
use Rattle.ms_base.specs.Spaces.{IsSlotOf}
use Rattle.ms_base.specs.PoolSteps.{grown}
use Rattle.ms_base.specs.State.{ArenaState, arena_of}
use Rattle.ms_base.proofs.entries.LookupLemmas.{named_changed_same}
use Rattle.ms_base.proofs.free.HalvesLemmas.{size_some}
use Rattle.ms_pool.specs.Calls.{tallied}
use Rattle.ms_pool.specs.Tallies.{Tallies}
use Rattle.ms_pool.specs.Ledger.{Ledger, IsSoundLedger, Serves, state_in, held_in, committed_of, with_grown, with_lent}
use Rattle.ms_pool.proofs.ledger.LoanAtLemmas.{contains_at}
use Rattle.ms_loader.specs.Loader.{LoaderView, IsSoundView, AllocatesBlock, account_in, owner_in}
use Rattle.ms_loaders.specs.Serving.{AllocatesAt, AllocatesIn}
use Rattle.ms_loaders.specs.System.{AreTogether, machine_of}
use Rattle.ms_loaders.specs.Committing.{IsEdge, TellsRun, first_past, front_before, run_of}
use Rattle.ms_loaders.specs.declared.system.committing.Edge.{Edge}
use Rattle.ms_loaders.specs.declared.system.committing.GranuleRun.{GranuleRun}
use Rattle.ms_loaders.proofs.CommitLemmas.{count, stays}
use Rattle.ms_loaders.proofs.EdgeLemmas.{some_edge, its_edge}
use Rattle.ms_loaders.proofs.RunToldLemmas.{Over, came_in, run_is_backed, run_came}
use Rattle.ms_loaders.proofs.AllocRunLemmas.{CommitsIn, grown_commits, lent_commits}
use Rattle.ms_loaders.proofs.steps.AllocStepLemmas.{after_chunks}
use Rattle.ms_loaders.proofs.steps.AskedLemmas.{outcome}
use Rattle.ms_loader.proofs.calls.LoaderSpaceLemmas.{chunk_in_space}
use Rattle.ms_loaders.proofs.steps.OutcomeLemmas.{GrewAtAll, GrownBy, IsMade, LentBy, TookAtAll}
use Rattle.ms_loaders.proofs.steps.AlikeLemmas.{allocates_at_all}
use Rattle.ms_loaders.proofs.steps.ServedLemmas.{apart_of}
use Rattle.ms_loaders.proofs.steps.StillTogetherLemmas.{own_served, own_sound}
use Rattle.ms_loaders.proofs.steps.StepGoesLemmas.{pool_calls}

-- How many granules are committed in both spaces.
abbrev pub committed_in_all : Ledger → ℕ
committed_in_all ledger = length ledger.committed + length ledger.class_committed

came_there : (space : Space) (old new : Ledger) (more : ℕ)
    → committed_of (other_space space) new ≡ committed_of (other_space space) old
    → length (committed_of space new) ≡ length (committed_of space old) + more
    → committed_in_all new - committed_in_all old ≡ more
came_there NonClass old new more same counted = omega (arith, counted, ap length same)
came_there Class old new more same counted = omega (arith, counted, ap length same)

abbrev came_of : GranuleRun → ℕ
came_of run = run.came

told_came : (granule front start words came : ℕ) → (run_of granule front start words came).came ≡ came
told_came granule front start words came = go (came == 0) refl
  where
    go : (b : Bool) → (came == 0) ≡ b
        → came_of (if b then record { first = 0; granules = 0; came = 0 }
        else record {
          first = first_past granule start front;
          granules = (start + words - 1) / granule + 1 - first_past granule start front;
          came = came;
        }) ≡ came
    go true e = sym (eqb-true came 0 e)
    go false e = refl

-- A chunk that came or grew.
pub tells_commits : (space : Space) (old new : Ledger) (loaders after : List (ℕ × LoaderView)) (mid : List Chunk)
    (is : Chunk) (front came : ℕ) → CommitsIn space old new mid is → Over mid is front
    → committed_of (other_space space) new ≡ committed_of (other_space space) old
    → came ≡ committed_in_all new - committed_in_all old
    → TellsRun space (machine_of old loaders) (run_of (granule_of old.limits.policy) front is.start is.front came)
    (machine_of new after)
tells_commits space old new loaders after mid is front came c over same told = record {
  elsewhere = same;
  stay = λ k there. stays (state_in space old) (held_in space new) (state_in space new).slots (committed_of space new)
      (state_in space new).elsewhere mid is c k there;
  came = λ k there none. came_in (state_in space old) (held_in space new) (state_in space new).slots
      (committed_of space new) (state_in space new).elsewhere mid is front came c over missing k there none;
  backed = λ k inside. run_is_backed (state_in space old) (held_in space new) (state_in space new).slots
      (committed_of space new) (state_in space new).elsewhere mid is front came c over missing k inside;
  count = counted ∙ ap (λ n. length (committed_of space old) + n)
      (sym missing ∙ sym (told_came (granule_of old.limits.policy) front is.start is.front came));
  exact = λ reclaims k inside. run_came (state_in space old) (held_in space new) (state_in space new).slots
      (committed_of space new) (state_in space new).elsewhere mid is front came c over missing reclaims k inside;
}
  where
    counted : length (committed_of space new) ≡ length (committed_of space old) + granules_missing (state_in space old) is
    counted = count (state_in space old) (held_in space new) (state_in space new).slots (committed_of space new)
        (state_in space new).elsewhere mid is c

    missing : came ≡ granules_missing (state_in space old) is
    missing = told ∙ came_there space old new (granules_missing (state_in space old) is) same counted

-- Nothing was asked.
pub tells_none : (space : Space) (old new : Ledger) (loaders after : List (ℕ × LoaderView))
    (granule front start words came : ℕ) → new ≡ old → came ≡ committed_in_all new - committed_in_all old
    → TellsRun space (machine_of old loaders) (run_of granule front start words came) (machine_of new after)
tells_none space old new loaders after granule front start words came same told =
    subst (λ (l : Ledger). TellsRun space (machine_of old loaders) (run_of granule front start words came)
    (machine_of l after)) (sym same)
    (subst (λ (n : ℕ). TellsRun space (machine_of old loaders) (run_of granule front start words n)
    (machine_of old after)) (sym none) (record {
      elsewhere = refl;
      stay = λ k there. there;
      came = λ k there was. absurd (both_ways _ was there);
      backed = λ k inside. absurd (nothing k inside);
      count = omega arith;
      exact = λ reclaims k inside. absurd (nothing k inside);
    }))
  where
    none : came ≡ 0
    none = told ∙ ap (λ (l : Ledger). committed_in_all l - committed_in_all old) same ∙ itself (committed_in_all old)
      where
        itself : (n : ℕ) → n - n ≡ 0
        itself n = omega arith

    nothing : (k : ℕ) → (nat_le 0 k && nat_lt k (0 + 0)) ≡ true → ⊥
    nothing k inside = omega (arith, ltb-true k (0 + 0) (and_parts (nat_le 0 k) (nat_lt k (0 + 0)) inside).1)

-- The last of chunks of which the last was replaced, or one was added.
set_at : (cs : List Chunk) (index : ℕ) (was is : Chunk) → slice_get cs index ≡ Some was
    → slice_get (slice_set cs index is) index ≡ Some is
set_at [] index was is found = absurd (cc)
set_at (c ∷ cs) zero was is found = refl
set_at (c ∷ cs) (suc index) was is found = set_at cs index was is found

as_many : (cs : List Chunk) (index : ℕ) (is : Chunk) → length (slice_set cs index is) ≡ length cs
as_many [] index is = refl
as_many (c ∷ cs) zero is = refl
as_many (c ∷ cs) (suc index) is = ap suc (as_many cs index is)

at_end : (cs : List Chunk) (is : Chunk) → slice_get (cs ++ is ∷ []) (length cs) ≡ Some is
at_end [] is = refl
at_end (c ∷ cs) is = at_end cs is

module _ (space : Space) (old new : Ledger) (loaders after : List (ℕ × LoaderView)) (was is : LoaderView) (edge now : Edge)
    (came : ℕ) (sound : IsSoundLedger old) (sound_now : IsSoundLedger new) (view : IsSoundView was) (view_now : IsSoundView is)
    (served : Serves old (account_in space was)) (at : IsEdge (arena_of space was.state).chunks edge)
    (at_now : IsEdge (arena_of space is.state).chunks now)
    (told : came ≡ committed_in_all new - committed_in_all old) where
  abbrev Told : Type 0
  Told = TellsRun space (machine_of old loaders)
      (run_of (granule_of old.limits.policy) (front_before edge now) now.start now.front came) (machine_of new after)

  run_is : (front start words : ℕ) → front_before edge now ≡ front → now.start ≡ start → now.front ≡ words
      → TellsRun space (machine_of old loaders) (run_of (granule_of old.limits.policy) front start words came)
      (machine_of new after) → Told
  run_is front start words e f g tells = rw (e, f, g) tells

  last_at : (cs : List Chunk) (index : ℕ) (chunk : Chunk) → (arena_of space is.state).chunks ≡ cs
      → length cs - 1 ≡ index → slice_get cs index ≡ Some chunk → (now.start ≡ chunk.start) × (now.front ≡ chunk.front)
  last_at cs index chunk chunks_are index_is there =
      at_now.last chunk (ap (λ (l : List Chunk). slice_get l (length l - 1)) chunks_are ∙ ap (slice_get cs) index_is ∙ there)

  grown_tells : (chunk greater : Chunk) (total : ℕ) (may : Bool)
      → slice_get (arena_of space was.state).chunks (length (arena_of space was.state).chunks - 1) ≡ Some chunk
      → grown (state_in space old) chunk total may ≡ Ok greater
      → (arena_of space is.state).chunks
      ≡ slice_set (arena_of space was.state).chunks (length (arena_of space was.state).chunks - 1) greater
      → new ≡ with_grown old greater → Told
  grown_tells chunk greater total may there grows chunks_are ledger =
      let cs = (arena_of space was.state).chunks in
      let index = length cs - 1 in
      let its = grown_commits space old (owner_in space was) sound cs index chunk greater total may there grows served
      (view.chunks space) in
      let held : now.held ≡ edge.held =
      at_now.held ∙ ap length chunks_are ∙ as_many cs index greater ∙ sym at.held in
      let last = last_at (slice_set cs index greater) index greater chunks_are
      (ap (λ (n : ℕ). n - 1) (as_many cs index greater)) (set_at cs index chunk greater there) in
      run_is chunk.front greater.start greater.front
      (ap (λ b. if b then edge.front else 0) (eq-eqb now.held edge.held held) ∙ (at.last chunk there).1) last.0 last.1
      (subst (λ (l : Ledger). committed_of (other_space space) l ≡ committed_of (other_space space) old
      → CommitsIn space old l (chunk ∷ []) greater → came ≡ committed_in_all l - committed_in_all old
      → TellsRun space (machine_of old loaders)
      (run_of (granule_of old.limits.policy) chunk.front greater.start greater.front came) (machine_of l after))
      (sym ledger) (λ same commits counted. tells_commits space old (with_grown old greater) loaders after (chunk ∷ [])
      greater chunk.front came commits (
        sym its.1,
        refl,
        (All-contains (λ (c : Chunk). (1 ≤ c.front) × (c.front ≤ size_of c.level))
            cs chunk (view.chunks space).fronts (contains_at cs index chunk there)).0,
      ) same counted)
      (ap (committed_of (other_space space)) ledger ∙ its.2)
      (subst (λ (l : Ledger). CommitsIn space old l (chunk ∷ []) greater) (sym ledger) its.0) told)

  lent_tells : (chunk : Chunk) (tallies : Tallies)
      → (arena_of space is.state).chunks ≡ (arena_of space was.state).chunks ++ chunk ∷ []
      → new ≡ with_lent (tallied old tallies) space (owner_in space was) chunk → Told
  lent_tells chunk tallies chunks_are ledger =
      let cs = (arena_of space was.state).chunks in
      let base = tallied old tallies in
      let more : length (cs ++ chunk ∷ []) ≡ length cs + 1 = length-append cs (chunk ∷ []) in
      let last = last_at (cs ++ chunk ∷ []) (length cs) chunk chunks_are (omega (arith, more)) (at_end cs chunk) in
      let held : now.held ≡ edge.held + 1 = at_now.held ∙ ap length chunks_are ∙ more ∙ ap (λ (n : ℕ). n + 1) (sym at.held) in
      let own = subst (λ (l : List Chunk). Contains l chunk) (sym chunks_are) (contains_at (cs ++ chunk ∷ []) (length cs) chunk (at_end cs chunk)) in
      let here = chunk_in_space space chunk chunk.start
      (All-contains (λ (c : Chunk). IsPart c.start c.level) (arena_of space is.state).chunks chunk (view_now.chunks space).parts own)
      (All-contains (λ (c : Chunk). IsSlotOf space (slot_of c.start)) (arena_of space is.state).chunks chunk
      (view_now.chunks space).inside own) (omega arith) (omega (arith, size_some chunk.level)) in
      let its = lent_commits space base (owner_in space was) chunk (record {
        spaces = sound.spaces;
        order = sound.order;
        owners = sound.owners;
        given = sound.given;
        opened = sound.opened;
        nodes = sound.nodes;
        class_nodes = sound.class_nodes;
      }) (subst IsSoundLedger ledger sound_now) here in
      run_is 0 chunk.start chunk.front
      (ap (λ b. if b then edge.front else 0) (ne_eqb now.held edge.held (λ same. omega (arith, held, same)))) last.0 last.1
      (tells_commits space old new loaders after [] chunk 0 came
      (subst (λ (l : Ledger). CommitsIn space old l [] chunk) (sym ledger) its.0) refl
      (ap (committed_of (other_space space)) ledger ∙ its.1) told)

  allocation_tells : (name words : ℕ) (made : Block)
      → AllocatesBlock GrewAtAll TookAtAll old.limits.policy space was name words old (Ok made) is new → Told
  allocation_tells name words made (inl refused) = let e = refused.answer_is in absurd (cc)
  allocation_tells name words made (inr asks) = by_how its.how
    where
      its : IsMade asks.was words old made asks.is new
      its = outcome asks.was words old (Ok made) asks.is new (apart_of space was asks.was view asks.arena) asks.allocates

      chunks_now : (arena_of space is.state).chunks ≡ asks.is.books.chunks
      chunks_now = after_chunks space was is name asks.is made asks.follows

      books : asks.was.books ≡ arena_of space was.state
      books = asks.arena.books

      by_how : ((asks.is.books.chunks ≡ asks.was.books.chunks) × (new ≡ old))
          ⊎ GrownBy asks.was.space old new asks.was.books asks.is.books
          ⊎ LentBy asks.was.space asks.was.owner (block_words words) old new asks.was.books asks.is.books → Told
      by_how (inl same) = tells_none space old new loaders after (granule_of old.limits.policy) (front_before edge now)
          now.start now.front came same.1 told
      by_how (inr (inl grew)) = grown_tells grew.chunk grew.greater grew.total grew.may
          (ap (λ (b : ArenaState). slice_get b.chunks (length b.chunks - 1)) (sym books) ∙ grew.at_it)
          (subst (λ (s : Space). grown (state_in s old) grew.chunk grew.total grew.may ≡ Ok grew.greater)
          asks.arena.space_is grew.grows)
          (chunks_now ∙ grew.chunks
          ∙ ap (λ (b : ArenaState). slice_set b.chunks (length b.chunks - 1) grew.greater) books) grew.ledger
      by_how (inr (inr lent)) = lent_tells lent.chunk lent.tallies
          (chunks_now ∙ lent.chunks ∙ ap (λ (b : ArenaState). b.chunks ++ lent.chunk ∷ []) books)
          (lent.ledger
          ∙ ap (λ (s : Space). with_lent (tallied old lent.tallies) s asks.was.owner lent.chunk) asks.arena.space_is
          ∙ ap (λ (n : ℕ). with_lent (tallied old lent.tallies) space n lent.chunk) asks.arena.owner)

-- As a step makes it, of a loader by its name: the edge after it matters where granules came.
pub step_tells : (space : Space) (old new : Ledger) (loaders after : List (ℕ × LoaderView)) (name block words start : ℕ)
    (edge now : Edge) (came : ℕ) → AreTogether old loaders → IsSoundLedger new
    → AllocatesAt pool_calls space loaders name block words old start after new
    → IfSome (named loaders name) (λ (l : LoaderView). IsEdge (arena_of space l.state).chunks edge)
    → (0 < came → IfSome (named after name) (λ (l : LoaderView). IsEdge (arena_of space l.state).chunks now))
    → came ≡ committed_in_all new - committed_in_all old
    → TellsRun space (machine_of old loaders)
    (run_of (granule_of old.limits.policy) (front_before edge now) now.start now.front came) (machine_of new after)
step_tells space old new loaders after name block words start edge now came its sound made at at_now told =
    by_came came told at_now
  where
    one : AllocatesIn pool_calls space loaders name block words old (Ok made.0) after new
    one = made.2

    there : Edge → Option LoaderView → Type 0
    there e loader = IfSome loader (λ l. IsEdge (arena_of space l.state).chunks e)

    tells : (e : Edge) (n : ℕ) → n ≡ committed_in_all new - committed_in_all old
        → IsEdge (arena_of space one.is.state).chunks e
        → TellsRun space (machine_of old loaders)
        (run_of (granule_of old.limits.policy) (front_before edge e) e.start e.front n) (machine_of new after)
    tells e n counted at_e = allocation_tells space old new loaders after one.was one.is edge e n its.ledger_sound sound
        (own_sound old loaders name one.was one.found its) one.sound
        (own_served space old loaders name one.was one.found its.served) (subst (there edge) one.found at) at_e counted
        block words made.0 (allocates_at_all _ _ _ _ _ _ _ _ _ one.allocates)

    by_came : (n : ℕ) → n ≡ committed_in_all new - committed_in_all old → (0 < n → there now (named after name))
        → TellsRun space (machine_of old loaders)
        (run_of (granule_of old.limits.policy) (front_before edge now) now.start now.front n) (machine_of new after)
    by_came zero counted at_e =
        tells (some_edge (arena_of space one.is.state).chunks) 0 counted (its_edge (arena_of space one.is.state).chunks)
    by_came (suc n) counted at_e = tells now (suc n) counted
        (subst (there now) (ap (λ (l : List (ℕ × LoaderView)). named l name) one.changed
        ∙ named_changed_same loaders name one.was one.is one.found) (at_e (omega arith)))

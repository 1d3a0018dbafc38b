-- An allocation of a system that is refused is refused for a cause that its machine knows, and the
-- machine stays as it was. Used by `System::allocate`.
use Rattle.std.proofs.Common.{◌≡◌, ℕ, Bool, true, false, Some, None, Result, Ok, Err, List, length, refl, ap, ◌∙◌}
use Rattle.std.proofs.Common.{subst, inl, inr, if◌then◌else◌}
use Rattle.std.specs.Ordering.{nat_cmp}
use Rattle.std.specs.BTreeMap.{is_at}
use Rattle.std.proofs.lemmas.Map.Steps.{set_value_same}
use Rattle.ms_base.specs.declared.kind.Kind.{Kind}
use Rattle.ms_base.specs.declared.kind.Space.{Space}
use Rattle.ms_base.specs.declared.kind.Space.TheVariants.{NonClass, Class}
use Rattle.ms_base.specs.declared.span.Chunk.{Chunk}
use Rattle.ms_base.specs.declared.span.Block.{Block}
use Rattle.ms_base.specs.declared.refusal.Refusal.{Refusal}
use Rattle.ms_base.specs.declared.refusal.Refusal.TheVariants.{ZeroWords, TooLarge, CommitLimit, ReserveLimit}
use Rattle.ms_base.specs.declared.refusal.Refusal.TheVariants.{OutOfMemory, BlockExists, NoLoader}
use Rattle.ms_base.specs.declared.step.Reply.TheVariants.{Refused}
use Rattle.ms_base.specs.Level.{level_that_holds}
use Rattle.ms_base.specs.Names.{named, with_changed}
use Rattle.ms_base.specs.Live.{block_words}
use Rattle.ms_base.specs.Asks.{wanted_level}
use Rattle.ms_base.specs.PoolSteps.Pick.{chunk_picked}
use Rattle.ms_base.specs.PoolSteps.Causes.{meets_reserve_limit, meets_commit_limit, committed_count, node_limit, granules_needed}
use Rattle.ms_base.specs.PoolSteps.Causes.{ReserveCause, CommitCause}
use Rattle.ms_base.specs.PoolSteps.{taken}
use Rattle.ms_base.specs.State.{ArenaState, PoolState, Machine, arena_of, chunks_held, pool_of}
use Rattle.ms_base.specs.Transition.{LacksBlock, IsServable, AllocCause, Transition}
use Rattle.ms_base.proofs.free.AlikeLemmas.{permuted_are_alike}
use Rattle.ms_base.proofs.free.OrderLemmas.{taken_alike}
use Rattle.ms_pool.specs.Ledger.{Ledger, held_in, state_in}
use Rattle.ms_arena.specs.Arena.{IsAskable, PlaceRefused}
use Rattle.ms_loader.specs.Loader.{LoaderView, IsSoundView, NameRefused, AllocatesBlock}
use Rattle.ms_base.specs.Request.{alloc_in}
use Rattle.ms_loaders.specs.System.{states_of, machine_of, AreTogether}
use Rattle.ms_loaders.proofs.steps.OutcomeLemmas.{GrewAtAll, TookAtAll, SameBut, IsNotMade, TakeCause}
use Rattle.ms_loaders.proofs.steps.AskedLemmas.{outcome}
use Rattle.ms_loaders.proofs.sums.FitLemmas.{fits}
use Rattle.ms_loaders.proofs.steps.ServedLemmas.{apart_of}
use Rattle.ms_loaders.proofs.steps.StillTogetherLemmas.{own_sound}
use Rattle.ms_loaders.proofs.steps.StepLemmas.{has_loader, lacks_loader}

-- The refusals, as answers.
abbrev reserve : ℕ → ℕ → Result Chunk Refusal
reserve nodes limit = Err (ReserveLimit nodes limit)

abbrev commit : ℕ → ℕ → ℕ → Result Chunk Refusal
commit committed limit need = Err (CommitLimit committed limit need)

-- The limit that a refused request meets, as the machine tells it.
is_reserve : (pool : PoolState) (p m words nodes limit : ℕ) → taken pool p m words ≡ Err (ReserveLimit nodes limit)
    → ReserveCause pool m nodes limit
is_reserve pool p m words nodes limit is = go (meets_reserve_limit pool m) (meets_commit_limit pool p m words) refl is
  where
    numbers : (a b : ℕ) → reserve a b ≡ reserve nodes limit → (nodes ≡ a) × (limit ≡ b)
    numbers a b e = (cc, cc)

    go : (a b : Bool) → meets_reserve_limit pool m ≡ a
        → (if a then Err (ReserveLimit (length pool.slots) (node_limit pool)) else if b then Err
        (CommitLimit (committed_count pool) pool.limits.granules (granules_needed pool p m words)) else Ok
        (chunk_picked pool p m words)) ≡ Err (ReserveLimit nodes limit)
        → ReserveCause pool m nodes limit
    go true b e is = let its = numbers (length pool.slots) (node_limit pool) is in
        record { met = e; nodes_are = its.0; limit_is = its.1 }
    go false true e is = absurd (cc)
    go false false e is = absurd (cc)

is_commit : (pool : PoolState) (p m words committed limit need : ℕ)
    → taken pool p m words ≡ Err (CommitLimit committed limit need) → CommitCause pool p m words committed limit need
is_commit pool p m words committed limit need is =
    go (meets_reserve_limit pool m) (meets_commit_limit pool p m words) refl is
  where
    numbers : (a b c : ℕ) → commit a b c ≡ commit committed limit need → (committed ≡ a) × (limit ≡ b) × (need ≡ c)
    numbers a b c e = (cc, cc, cc)

    go : (a b : Bool) → meets_commit_limit pool p m words ≡ b
        → (if a then Err (ReserveLimit (length pool.slots) (node_limit pool)) else if b then Err
        (CommitLimit (committed_count pool) pool.limits.granules (granules_needed pool p m words)) else Ok
        (chunk_picked pool p m words)) ≡ Err (CommitLimit committed limit need)
        → CommitCause pool p m words committed limit need
    go true b e is = absurd (cc)
    go false true e is = let its =
        numbers (committed_count pool) pool.limits.granules (granules_needed pool p m words) is in
        record { met = e; committed_are = its.0; limit_is = its.1; need_is = its.2 }
    go false false e is = absurd (cc)

-- A refusal of each kind is for its cause.
module _ (space : Space) (old : Ledger) (loaders : List (ℕ × LoaderView)) (name block words : ℕ) (was : LoaderView)
    (found : named loaders name ≡ Some was) (its : AreTogether old loaders) where
  lacks : named was.state.blocks block ≡ None → LacksBlock (machine_of old loaders) name block
  lacks unused = record { loader = was.state; loader_is = has_loader old loaders name was found; unused = unused }

  servable : named was.state.blocks block ≡ None → IsAskable words
      → IsServable (machine_of old loaders) name block words
  servable unused askable = record { lacks = lacks unused; some = askable.some; fits = askable.fits }

  by_index : (refusal : Refusal) → named was.state.blocks block ≡ None → PlaceRefused words refusal
      → AllocCause (machine_of old loaders) space name block words refusal
  by_index ZeroWords unused cause = (lacks unused, cause)
  by_index TooLarge unused cause = (lacks unused, cause)
  by_index OutOfMemory unused cause = servable unused cause
  by_index _ unused cause = absurd cause

  by_name : (refusal : Refusal) → NameRefused was block words refusal
      → AllocCause (machine_of old loaders) space name block words refusal
  by_name BlockExists cause =
      record {
        loader = was.state;
        found = cause.0;
        has = record { loader_is = has_loader old loaders name was found; block_is = cause.1 };
      }
  by_name ZeroWords cause = by_index ZeroWords cause.0 cause.1
  by_name TooLarge cause = by_index TooLarge cause.0 cause.1
  by_name OutOfMemory cause = by_index OutOfMemory cause.0 cause.1
  by_name _ cause = absurd cause.1

  in_machine : (p m n : ℕ) → taken (pool_of space (machine_of old loaders)) p m n ≡ taken (state_in space old) p m n
  in_machine p m n =
      taken_alike (state_in space old) (chunks_held space (states_of loaders))
      (permuted_are_alike (held_in space old) (chunks_held space (states_of loaders))
      (fits old loaders its.loaders_sound its.served space)) p m n

  by_take : (refusal : Refusal) → named was.state.blocks block ≡ None → IsAskable words
      → TakeCause (state_in space old)
      (wanted_level was.state.kind space (arena_of space was.state) (block_words words))
      (level_that_holds (block_words words)) (block_words words) refusal
      → AllocCause (machine_of old loaders) space name block words refusal
  by_take (CommitLimit committed limit need) unused askable cause = (
    servable unused askable,
    record {
      loader = was.state;
      has = has_loader old loaders name was found;
      cause = is_commit (pool_of space (machine_of old loaders)) p m n committed limit need (in_machine p m n ∙ cause);
    },
  )
    where
      n : ℕ
      n = block_words words

      p : ℕ
      p = wanted_level was.state.kind space (arena_of space was.state) n

      m : ℕ
      m = level_that_holds n
  by_take (ReserveLimit nodes limit) unused askable cause = (
    servable unused askable,
    is_reserve (pool_of space (machine_of old loaders))
        (wanted_level was.state.kind space (arena_of space was.state) (block_words words))
        (level_that_holds (block_words words)) (block_words words) nodes limit
        (in_machine (wanted_level was.state.kind space (arena_of space was.state) (block_words words))
        (level_that_holds (block_words words)) (block_words words) ∙ cause),
  )
  by_take OutOfMemory unused askable cause = servable unused askable
  by_take _ unused askable cause = absurd cause

-- The machine is as it was.
same_machine : (old new : Ledger) (loaders : List (ℕ × LoaderView)) (name : ℕ) (was is : LoaderView)
    → named loaders name ≡ Some was → is ≡ was → SameBut old new
    → machine_of new (with_changed loaders name is) ≡ machine_of old loaders
same_machine old new loaders name was is found same but =
    ap (λ (l : Ledger). machine_of l (with_changed loaders name is)) but.is
    ∙ ap (machine_of old)
    (ap (with_changed loaders name) same ∙ set_value_same (is_at (nat_cmp name)) loaders was found)

abbrev refused : Refusal → Result Block Refusal
refused refusal = Err refusal

same_refusal : (a b : Refusal) → refused a ≡ refused b → b ≡ a
same_refusal a b e = cc

alloc_is_refused : (space : Space) (old new : Ledger) (loaders : List (ℕ × LoaderView)) (name block words : ℕ)
    (was is : LoaderView) (refusal : Refusal) → named loaders name ≡ Some was
    → AllocatesBlock GrewAtAll TookAtAll old.limits.policy space was block words old (Err refusal) is new
    → IsSoundView was → AreTogether old loaders
    → AllocCause (machine_of old loaders) space name block words refusal
    × (machine_of new (with_changed loaders name is) ≡ machine_of old loaders)
alloc_is_refused space old new loaders name block words was is refusal found (inl not) sound its = (
  subst (λ (r : Refusal). AllocCause (machine_of old loaders) space name block words r)
      (same_refusal refusal not.refusal not.answer_is)
      (by_name space old loaders name block words was found its not.refusal not.cause),
  same_machine old new loaders name was is found not.loader (record { tallies = old.tallies; is = not.source }),
)
alloc_is_refused space old new loaders name block words was is refusal found (inr asks) sound its = (
  elim how.cause [
    | inl index ↦ by_index space old loaders name block words was found its refusal asks.unused index
    | inr take ↦ by_take space old loaders name block words was found its refusal asks.unused take.0
        (subst (λ (k : Kind). TakeCause (state_in space old)
        (wanted_level k space (arena_of space was.state) (block_words words)) (level_that_holds (block_words words))
        (block_words words) refusal) asks.arena.kind
        (subst (λ (s : Space). TakeCause (state_in s old)
        (wanted_level asks.was.kind s (arena_of space was.state) (block_words words))
        (level_that_holds (block_words words)) (block_words words) refusal) asks.arena.space_is
        (subst (λ (a : ArenaState). TakeCause (state_in asks.was.space old)
        (wanted_level asks.was.kind asks.was.space a (block_words words)) (level_that_holds (block_words words))
        (block_words words) refusal) asks.arena.books take.1)))
  ],
  same_machine old new loaders name was is found asks.follows how.ledger,
)
  where
    how : IsNotMade asks.was words old refusal new
    how = outcome asks.was words old (Err refusal) asks.is new (apart_of space was asks.was sound asks.arena)
        asks.allocates

-- As the call's answer tells it.
alloc_refuses : (space : Space) (old new : Machine) (name block words : ℕ) (refusal : Refusal)
    → AllocCause old space name block words refusal × (new ≡ old)
    → Transition old (alloc_in space name block words) (Refused refusal) new
alloc_refuses NonClass old new name block words refusal its = its
alloc_refuses Class old new name block words refusal its = its

pub alloc_answers_why : (space : Space) (old new : Ledger) (loaders : List (ℕ × LoaderView)) (name block words : ℕ)
    (was is : LoaderView) (answer : Result Block Refusal) (refusal : Refusal)
    → answer ≡ Err refusal → named loaders name ≡ Some was
    → AllocatesBlock GrewAtAll TookAtAll old.limits.policy space was block words old answer is new
    → AreTogether old loaders
    → Transition (machine_of old loaders) (alloc_in space name block words) (Refused refusal)
    (machine_of new (with_changed loaders name is))
alloc_answers_why space old new loaders name block words was is answer refusal err found allocates its =
    alloc_refuses space (machine_of old loaders) (machine_of new (with_changed loaders name is)) name block words
    refusal
    (alloc_is_refused space old new loaders name block words was is refusal found
    (subst (λ (a : Result Block Refusal).
    AllocatesBlock GrewAtAll TookAtAll old.limits.policy space was block words old a is new) err allocates)
    (own_sound old loaders name was found its) its)

pub alloc_finds_none : (space : Space) (ledger : Ledger) (loaders : List (ℕ × LoaderView)) (name block words : ℕ)
    → named loaders name ≡ None
    → Transition (machine_of ledger loaders) (alloc_in space name block words) (Refused NoLoader)
    (machine_of ledger loaders)
alloc_finds_none space ledger loaders name block words none =
    alloc_refuses space (machine_of ledger loaders) (machine_of ledger loaders) name block words NoLoader
    (lacks_loader ledger loaders name none, refl)

-- Why a request is refused, and that it is refused so in a machine that has the same under its
-- name.
use Rattle.std.proofs.Common.{◌≡◌, ℕ, Bool, true, false, Some, Result, Ok, Err, refl, sym, ◌∙◌, subst, inl, inr, length}
use Rattle.std.proofs.Common.{if◌then◌else◌}
use Rattle.std.specs.Prelude.{⊤}
use Rattle.ms_base.specs.declared.kind.Kind.{Kind}
use Rattle.ms_base.specs.declared.span.Chunk.{Chunk}
use Rattle.ms_base.specs.declared.kind.Space.{Space}
use Rattle.ms_base.specs.declared.kind.Space.TheVariants.{NonClass, Class}
use Rattle.ms_base.specs.declared.step.Step.{Step}
use Rattle.ms_base.specs.declared.step.Step.TheVariants.{New, Alloc, Calloc, Write, Read, Free, Unload, Purge}
use Rattle.ms_base.specs.declared.step.Reply.TheVariants.{Refused}
use Rattle.ms_base.specs.declared.refusal.Refusal.{Refusal}
use Rattle.ms_base.specs.declared.refusal.Refusal.TheVariants.{ZeroWords, TooLarge, CommitLimit, ReserveLimit}
use Rattle.ms_base.specs.declared.refusal.Refusal.TheVariants.{OutOfRange, OutOfMemory, NoLoader, LoaderExists, NoBlock}
use Rattle.ms_base.specs.declared.refusal.Refusal.TheVariants.{BlockExists, IdsUsedUp}
use Rattle.ms_base.specs.Names.{named}
use Rattle.ms_base.specs.Request.{alloc_in, loader_of}
use Rattle.ms_base.specs.State.{LoaderState, Machine, PoolState}
use Rattle.ms_base.specs.PoolSteps.Pick.{chunk_picked}
use Rattle.ms_base.specs.PoolSteps.Causes.{committed_count, node_limit, granules_needed, meets_reserve_limit, meets_commit_limit}
use Rattle.ms_base.specs.PoolSteps.Causes.{ReserveCause, CommitCause}
use Rattle.ms_base.specs.Transition.{HasBlock, LacksBlock, IsServable, NewCause, AllocCause, BlockCause, WordCause}
use Rattle.ms_base.specs.Transition.{Cause, Leaves}
use Rattle.ms_base.specs.Run.Event.{LendsNone, ActsNotCause}
use Rattle.ms_base.specs.Run.Spread.{IsOwnReply}

-- Why the pool lends no chunk, as the machine tells it.
abbrev pub NoneCause : PoolState → ℕ → ℕ → ℕ → Refusal → Type 0
NoneCause pool p m words (CommitLimit committed limit need) = CommitCause pool p m words committed limit need
NoneCause pool p m words (ReserveLimit nodes limit) = ReserveCause pool m nodes limit
NoneCause pool p m words OutOfMemory = ⊤
NoneCause pool p m words _ = ⊥

abbrev refused_as : Refusal → Result Chunk Refusal
refused_as refusal = Err refusal

same_refusal : (a b : Refusal) → refused_as a ≡ refused_as b → a ≡ b
same_refusal a b e = cc

pub none_cause : (pool : PoolState) (p m words : ℕ) (refusal : Refusal) → LendsNone pool p m words refusal
    → NoneCause pool p m words refusal
none_cause pool p m words refusal (inr wants) = subst (NoneCause pool p m words) (sym wants.1) tt
none_cause pool p m words refusal (inl is) = go (meets_reserve_limit pool m)
    (meets_commit_limit pool p m words) refl refl is
  where
    go : (a b : Bool) → meets_reserve_limit pool m ≡ a → meets_commit_limit pool p m words ≡ b
        → (if a then Err (ReserveLimit (length pool.slots) (node_limit pool)) else if b then Err
        (CommitLimit (committed_count pool) pool.limits.granules (granules_needed pool p m words)) else Ok
        (chunk_picked pool p m words)) ≡ Err refusal
        → NoneCause pool p m words refusal
    go true b e f is = subst (NoneCause pool p m words) (same_refusal
        (ReserveLimit (length pool.slots) (node_limit pool)) refusal is)
        (record { met = e; nodes_are = refl; limit_is = refl })
    go false true e f is = subst (NoneCause pool p m words) (same_refusal
        (CommitLimit (committed_count pool) pool.limits.granules (granules_needed pool p m words)) refusal is)
        (record { met = f; committed_are = refl; limit_is = refl; need_is = refl })
    go false false e f is = absurd (cc)

-- A refusal leaves the machine as it was.
pub leaves_same : (m : Machine) (step : Step) (refusal : Refusal) → Leaves m step refusal m
leaves_same m (New name kind) OutOfMemory = inl refl
leaves_same m _ _ = refl

-- Two machines that have the same under a name, and have given out as many owner numbers.
module _ (m other : Machine) (name : ℕ) (same : named other.loaders name ≡ named m.loaders name)
    (given : other.given ≡ m.given) where
  has_block : (block : ℕ) (loader : LoaderState) (found : _) → HasBlock m name block loader found
      → HasBlock other name block loader found
  has_block block loader found has = record { loader_is = same ∙ has.loader_is; block_is = has.block_is }

  pub lacks_block : (block : ℕ) → LacksBlock m name block → LacksBlock other name block
  lacks_block block lacks = record { loader = lacks.loader; loader_is = same ∙ lacks.loader_is; unused = lacks.unused }

  pub servable : (block words : ℕ) → IsServable m name block words → IsServable other name block words
  servable block words its = record { lacks = lacks_block block its.lacks; some = its.some; fits = its.fits }

  new_cause : (refusal : Refusal) → NewCause m name refusal → NewCause other name refusal
  new_cause LoaderExists cause = record { loader = cause.loader; has = same ∙ cause.has }
  new_cause IdsUsedUp cause = (same ∙ cause.0, rw given cause.1)
  new_cause OutOfMemory cause = (same ∙ cause.0, rw given cause.1)
  new_cause _ cause = absurd cause

  block_cause : (block : ℕ) (refusal : Refusal) → BlockCause m name block refusal → BlockCause other name block refusal
  block_cause block NoLoader cause = same ∙ cause
  block_cause block NoBlock cause = lacks_block block cause
  block_cause block _ cause = absurd cause

  word_cause : (block index : ℕ) (refusal : Refusal) → WordCause m name block index refusal
      → WordCause other name block index refusal
  word_cause block index (OutOfRange words) cause = record {
    loader = cause.loader;
    found = cause.found;
    has = has_block block cause.loader cause.found cause.has;
    words_are = cause.words_are;
    past = cause.past;
  }
  word_cause block index NoLoader cause = same ∙ cause
  word_cause block index NoBlock cause = lacks_block block cause
  word_cause block index _ cause = absurd cause

  alloc_cause : (space : Space) (block words : ℕ) (refusal : Refusal) → IsOwnReply (Refused refusal)
      → AllocCause m space name block words refusal → AllocCause other space name block words refusal
  alloc_cause space block words NoLoader own cause = same ∙ cause
  alloc_cause space block words BlockExists own cause =
      record { loader = cause.loader; found = cause.found; has = has_block block cause.loader cause.found cause.has }
  alloc_cause space block words ZeroWords own cause = (lacks_block block cause.0, cause.1)
  alloc_cause space block words TooLarge own cause = (lacks_block block cause.0, cause.1)
  alloc_cause space block words OutOfMemory own cause = servable block words cause
  alloc_cause space block words (CommitLimit committed limit need) own cause = absurd own
  alloc_cause space block words (ReserveLimit nodes limit) own cause = absurd own
  alloc_cause space block words _ own cause = absurd cause

  acts_not_new : (kind : Kind) (refusal : Refusal) → ActsNotCause m (New name kind) refusal
      → Cause other (New name kind) refusal
  acts_not_new kind IdsUsedUp cause = absurd cause
  acts_not_new kind refusal cause = new_cause refusal cause

  acts_not_alloc : (space : Space) (block words : ℕ) (refusal : Refusal) → IsOwnReply (Refused refusal)
      → ActsNotCause m (alloc_in space name block words) refusal → AllocCause other space name block words refusal
  acts_not_alloc space block words (CommitLimit committed limit need) own cause = absurd own
  acts_not_alloc space block words (ReserveLimit nodes limit) own cause = absurd own
  acts_not_alloc NonClass block words refusal own cause = alloc_cause NonClass block words refusal own cause
  acts_not_alloc Class block words refusal own cause = alloc_cause Class block words refusal own cause

  unload_cause : (refusal : Refusal) → Cause m (Unload name) refusal → Cause other (Unload name) refusal
  unload_cause NoLoader cause = same ∙ cause
  unload_cause _ cause = absurd cause

-- So a local event that is refused is refused in the other machine too, for the same cause.
pub acts_not : (m other : Machine) (name : ℕ) → named other.loaders name ≡ named m.loaders name
    → other.given ≡ m.given → (step : Step) (refusal : Refusal) → loader_of step ≡ Some name
    → IsOwnReply (Refused refusal) → ActsNotCause m step refusal → Cause other step refusal
acts_not m other name same given (New mine kind) refusal its own cause =
    let eq : name ≡ mine = cc in
    acts_not_new m other mine (subst (λ (n : ℕ). named other.loaders n ≡ named m.loaders n) eq same) given kind refusal
    cause
acts_not m other name same given (Alloc mine block words) refusal its own cause =
    let eq : name ≡ mine = cc in
    acts_not_alloc m other mine (subst (λ (n : ℕ). named other.loaders n ≡ named m.loaders n) eq same) given NonClass
    block words refusal own cause
acts_not m other name same given (Calloc mine block words) refusal its own cause =
    let eq : name ≡ mine = cc in
    acts_not_alloc m other mine (subst (λ (n : ℕ). named other.loaders n ≡ named m.loaders n) eq same) given Class block
    words refusal own cause
acts_not m other name same given (Write mine block index value) refusal its own cause =
    let eq : name ≡ mine = cc in
    word_cause m other mine (subst (λ (n : ℕ). named other.loaders n ≡ named m.loaders n) eq same) given block index
    refusal cause
acts_not m other name same given (Read mine block index) refusal its own cause =
    let eq : name ≡ mine = cc in
    word_cause m other mine (subst (λ (n : ℕ). named other.loaders n ≡ named m.loaders n) eq same) given block index
    refusal cause
acts_not m other name same given (Free mine block) refusal its own cause =
    let eq : name ≡ mine = cc in
    block_cause m other mine (subst (λ (n : ℕ). named other.loaders n ≡ named m.loaders n) eq same) given block refusal
    cause
acts_not m other name same given (Unload mine) refusal its own cause =
    let eq : name ≡ mine = cc in
    unload_cause m other mine (subst (λ (n : ℕ). named other.loaders n ≡ named m.loaders n) eq same) given refusal cause
acts_not m other name same given Purge refusal its own cause = absurd (cc)

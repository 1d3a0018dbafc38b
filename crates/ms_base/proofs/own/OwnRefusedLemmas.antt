-- A refusal follows from what is known of the loader that the request names. For `alone`.
use Rattle.std.proofs.Common.{◌≡◌, ℕ, ◌≤◌, true, false, Bool, Option, Some, None}
use Rattle.std.proofs.Common.{refl, sym, ap, ◌∙◌, subst}
use Rattle.std.proofs.lemmas.Option.{same_Some}
use Rattle.ms_base.specs.declared.kind.Kind.{Kind}
use Rattle.ms_base.specs.declared.kind.Space.{Space}
use Rattle.ms_base.specs.declared.kind.Space.TheVariants.{NonClass, Class}
use Rattle.ms_base.specs.declared.step.Step.{Step}
use Rattle.ms_base.specs.declared.step.Step.TheVariants.{New, Alloc, Calloc, Write, Read, Free, Unload, Purge}
use Rattle.ms_base.specs.declared.step.Reply.{Reply}
use Rattle.ms_base.specs.declared.step.Reply.TheVariants.{Refused}
use Rattle.ms_base.specs.declared.refusal.Refusal.{Refusal}
use Rattle.ms_base.specs.declared.refusal.Refusal.TheVariants.{ZeroWords, TooLarge, CommitLimit, ReserveLimit}
use Rattle.ms_base.specs.declared.refusal.Refusal.TheVariants.{OutOfRange, OutOfMemory, NoLoader, LoaderExists, NoBlock}
use Rattle.ms_base.specs.declared.refusal.Refusal.TheVariants.{BlockExists, IdsUsedUp}
use Rattle.ms_base.specs.Level.{root_words}
use Rattle.ms_base.specs.Names.{named}
use Rattle.ms_base.specs.Request.{alloc_in, loader_of}
use Rattle.ms_base.specs.State.{LoaderState, Machine}
use Rattle.ms_base.specs.Transition.{HasLoader, LacksBlock, Cause, NewCause, AllocCause, BlockCause, WordCause}
use Rattle.ms_base.specs.Run.Alone.{OwnLoader, OwnReply, AnswersAlloc, CanAlloc, IsAllocWant}
use Rattle.ms_base.specs.Run.Own.{own_of, own_in}

-- The reply to a request, by what is known of its loader before and after.
abbrev pub IsOwn : Option OwnLoader → Step → Reply → Option OwnLoader → Type 0
IsOwn before step reply after = (refused : Bool) × OwnReply before step refused reply after

abbrev pub own_as : LoaderState → OwnLoader
own_as loader = record { kind = loader.kind; blocks = loader.blocks }

-- The loader is known, or there is none.
pub known : (was is : Option OwnLoader) (step : Step) (refused : Bool) (reply : Reply) (before after : Option OwnLoader)
    → was ≡ before → is ≡ after
    → OwnReply before step refused reply after → IsOwn was step reply is
known was is step refused reply before after p q told = (
  refused,
  subst (λ (o : Option OwnLoader). OwnReply o step refused reply is) (sym p)
      (subst (λ (o : Option OwnLoader). OwnReply before step refused reply o) (sym q) told),
)

-- An allocating request is answered as the loader's map says, in either space.
pub alloc_told : (own : OwnLoader) (space : Space) (name block words : ℕ) (reply : Reply) (after : Option OwnLoader)
    → AnswersAlloc own space block words reply after
    → OwnReply (Some own) (alloc_in space name block words) false reply after
alloc_told own NonClass name block words reply after told = told
alloc_told own Class name block words reply after told = told

alloc_wants : (own : OwnLoader) (space : Space) (name block words : ℕ) (refusal : Refusal) → CanAlloc own block words
    → IsAllocWant refusal
    → OwnReply (Some own) (alloc_in space name block words) true (Refused refusal) (Some own)
alloc_wants own NonClass name block words refusal can want = (can, want, refl)
alloc_wants own Class name block words refusal can want = (can, want, refl)

alloc_without : (space : Space) (name block words : ℕ)
    → OwnReply None (alloc_in space name block words) false (Refused NoLoader) None
alloc_without NonClass name block words = refl
alloc_without Class name block words = refl

-- A refusal, by its cause.
module _ (m : Machine) (name : ℕ) where
  abbrev own_now : Option OwnLoader
  own_now = own_in m.loaders name

  abbrev IsOwnRefusal : Step → Refusal → Type 0
  IsOwnRefusal step refusal = IsOwn own_now step (Refused refusal) own_now

  -- The loader is there, and stays as it is.
  there : (step : Step) (refused : Bool) (refusal : Refusal) (loader : LoaderState) → HasLoader m name loader
      → OwnReply (Some (own_as loader)) step refused (Refused refusal) (Some (own_as loader))
      → IsOwnRefusal step refusal
  there step refused refusal loader has told =
      known own_now own_now step refused (Refused refusal) (Some (own_as loader)) (Some (own_as loader))
      (ap own_of has) (ap own_of has) told

  -- There is no loader of the name, and none comes.
  none : (step : Step) (refused : Bool) (refusal : Refusal) → named m.loaders name ≡ None
      → OwnReply None step refused (Refused refusal) None → IsOwnRefusal step refusal
  none step refused refusal lacks told =
      known own_now own_now step refused (Refused refusal) None None (ap own_of lacks) (ap own_of lacks) told

  new_refused : (kind : Kind) (refusal : Refusal) → NewCause m name refusal → IsOwnRefusal (New name kind) refusal
  new_refused kind LoaderExists cause = there (New name kind) false LoaderExists cause.loader cause.has refl
  new_refused kind IdsUsedUp cause = none (New name kind) true IdsUsedUp cause.0 (tt, tt, refl)
  new_refused kind OutOfMemory cause = none (New name kind) true OutOfMemory cause.0 (tt, tt, refl)
  new_refused kind _ cause = absurd cause

  -- A refusal that the block's name or its words are the cause of.
  alloc_told_so : (space : Space) (block words : ℕ) (refusal : Refusal) (loader : LoaderState)
      → HasLoader m name loader
      → AnswersAlloc (own_as loader) space block words (Refused refusal) (Some (own_as loader))
      → IsOwnRefusal (alloc_in space name block words) refusal
  alloc_told_so space block words refusal loader has told =
      there (alloc_in space name block words) false refusal loader has
      (alloc_told (own_as loader) space name block words (Refused refusal) (Some (own_as loader)) told)

  -- A refusal for want.
  alloc_wanting : (space : Space) (block words : ℕ) (refusal : Refusal) (lacks : LacksBlock m name block) → 1 ≤ words
      → words ≤ root_words → IsAllocWant refusal
      → IsOwnRefusal (alloc_in space name block words) refusal
  alloc_wanting space block words refusal lacks some fits want =
      there (alloc_in space name block words) true refusal lacks.loader lacks.loader_is
      (alloc_wants (own_as lacks.loader) space name block words refusal (lacks.unused, some, fits) want)

  alloc_refused : (space : Space) (block words : ℕ) (refusal : Refusal) → AllocCause m space name block words refusal
      → IsOwnRefusal (alloc_in space name block words) refusal
  alloc_refused space block words NoLoader cause =
      none (alloc_in space name block words) false NoLoader cause (alloc_without space name block words)
  alloc_refused space block words BlockExists cause =
      alloc_told_so space block words BlockExists cause.loader cause.has.loader_is
      (cause.found, cause.has.block_is, refl)
  alloc_refused space block words ZeroWords cause =
      alloc_told_so space block words ZeroWords cause.0.loader cause.0.loader_is (cause.0.unused, cause.1, refl)
  alloc_refused space block words TooLarge cause =
      alloc_told_so space block words TooLarge cause.0.loader cause.0.loader_is (cause.0.unused, cause.1, refl)
  alloc_refused space block words (ReserveLimit nodes limit) cause =
      alloc_wanting space block words (ReserveLimit nodes limit) cause.0.lacks cause.0.some cause.0.fits tt
  alloc_refused space block words (CommitLimit committed limit need) cause =
      alloc_wanting space block words (CommitLimit committed limit need) cause.0.lacks cause.0.some cause.0.fits tt
  alloc_refused space block words OutOfMemory cause =
      alloc_wanting space block words OutOfMemory cause.lacks cause.some cause.fits tt
  alloc_refused space block words _ cause = absurd cause

  write_refused : (block index value : ℕ) (refusal : Refusal) → WordCause m name block index refusal
      → IsOwnRefusal (Write name block index value) refusal
  write_refused block index value (OutOfRange words) cause =
      there (Write name block index value) false (OutOfRange words) cause.loader cause.has.loader_is
      (cause.found, cause.has.block_is, cause.words_are, cause.past, refl)
  write_refused block index value NoLoader cause = none (Write name block index value) false NoLoader cause refl
  write_refused block index value NoBlock cause =
      there (Write name block index value) false NoBlock cause.loader cause.loader_is (cause.unused, refl)
  write_refused block index value _ cause = absurd cause

  read_refused : (block index : ℕ) (refusal : Refusal) → WordCause m name block index refusal
      → IsOwnRefusal (Read name block index) refusal
  read_refused block index (OutOfRange words) cause =
      there (Read name block index) false (OutOfRange words) cause.loader cause.has.loader_is
      (cause.found, cause.has.block_is, cause.words_are, cause.past, refl)
  read_refused block index NoLoader cause = none (Read name block index) false NoLoader cause refl
  read_refused block index NoBlock cause =
      there (Read name block index) false NoBlock cause.loader cause.loader_is (cause.unused, refl)
  read_refused block index _ cause = absurd cause

  free_refused : (block : ℕ) (refusal : Refusal) → BlockCause m name block refusal → IsOwnRefusal (Free name block) refusal
  free_refused block NoLoader cause = none (Free name block) false NoLoader cause refl
  free_refused block NoBlock cause =
      there (Free name block) false NoBlock cause.loader cause.loader_is (cause.unused, refl)
  free_refused block _ cause = absurd cause

  unload_refused : (refusal : Refusal) → Cause m (Unload name) refusal → IsOwnRefusal (Unload name) refusal
  unload_refused NoLoader cause = none (Unload name) false NoLoader cause refl
  unload_refused _ cause = absurd cause

-- What follows for the loader that a request names.
abbrev pub AnswersOwn : Machine → Step → Reply → Machine → Type 0
AnswersOwn old step reply new = (name : ℕ) → loader_of step ≡ Some name
    → IsOwn (own_in old.loaders name) step reply (own_in new.loaders name)

pub at_name : (old new : Machine) (step : Step) (reply : Reply) (mine : ℕ) → loader_of step ≡ Some mine
    → IsOwn (own_in old.loaders mine) step reply (own_in new.loaders mine) → AnswersOwn old step reply new
at_name old new step reply mine its told name e =
    subst (λ (n : ℕ). IsOwn (own_in old.loaders n) step reply (own_in new.loaders n)) (same_Some mine name (sym its ∙ e))
    told

pub refused_own : (m : Machine) (step : Step) (refusal : Refusal) → Cause m step refusal
    → AnswersOwn m step (Refused refusal) m
refused_own m (New name kind) refusal cause =
    at_name m m (New name kind) (Refused refusal) name refl (new_refused m name kind refusal cause)
refused_own m (Alloc name block words) refusal cause =
    at_name m m (Alloc name block words) (Refused refusal) name refl
    (alloc_refused m name NonClass block words refusal cause)
refused_own m (Calloc name block words) refusal cause =
    at_name m m (Calloc name block words) (Refused refusal) name refl
    (alloc_refused m name Class block words refusal cause)
refused_own m (Write name block index value) refusal cause =
    at_name m m (Write name block index value) (Refused refusal) name refl
    (write_refused m name block index value refusal cause)
refused_own m (Read name block index) refusal cause =
    at_name m m (Read name block index) (Refused refusal) name refl (read_refused m name block index refusal cause)
refused_own m (Free name block) refusal cause =
    at_name m m (Free name block) (Refused refusal) name refl (free_refused m name block refusal cause)
refused_own m (Unload name) refusal cause =
    at_name m m (Unload name) (Refused refusal) name refl (unload_refused m name refusal cause)
refused_own m Purge refusal cause = absurd cause

-- Which loaders live after a line of the log, and whose their arenas are.
use Rattle.std.specs.Prelude.{◌≡◌, ◌⊎◌, ◌+◌, ◌%◌, ◌^◌, ℕ, Bool, true, false, List, Option, Some, None, nat_eq, slice_get, slice_set}
use Rattle.std.specs.Map.{update}
use Rattle.ms_trace.specs.declared.trace.Command.{Command}
use Rattle.jvm_log.specs.declared.event.Event.{Event}
use Rattle.jvm_log.specs.declared.event.Event.TheVariants.{LoaderBorn, LoaderDies, Returned, TakenFromFreeBlocks}
use Rattle.jvm_log.specs.Giving.{IsFull, given}
use Rattle.jvm_log.specs.Known.{Known, Life, Loaders}

-- Those that were.
pub record Same (old new : Loaders) : Type 0 where
  pub loaders : (q : ℕ) → new.loader_at q ≡ old.loader_at q
  pub owners : (q : ℕ) → new.owner_at q ≡ old.owner_at q
  pub births : new.births ≡ old.births

-- Where a loader dies its arenas are nobody's, and its name is free.
abbrev pub without : (ℕ → Option ℕ) → Option Life → ℕ → Option ℕ
without owner_at None = owner_at
without owner_at (Some life) = update nat_eq (update nat_eq owner_at life.arena None) life.class_arena None

abbrev pub freed : List Bool → Option Life → List Bool
freed used None = used
freed used (Some life) = slice_set used life.name false

pub record Dies (loader : ℕ) (old new : Loaders) : Type 0 where
  pub loaders : (q : ℕ) → new.loader_at q ≡ update nat_eq old.loader_at loader None q
  pub owners : (q : ℕ) → new.owner_at q ≡ without old.owner_at (old.loader_at loader) q
  pub used : new.used ≡ freed old.used (old.loader_at loader)
  pub births : new.births ≡ old.births

-- A loader lives from then on at its address, with its arenas, no block so far, and a name that was free.
abbrev pub newborn : ℕ → ℕ → ℕ → ℕ → Life
newborn birth name arena class_arena =
    record { birth = birth; name = name; next = 0; arena = arena; class_arena = class_arena }

pub record Lives (loader arena class_arena : ℕ) (old new : Loaders) : Type 0 where
  pub name : ℕ
  pub free : slice_get old.used name ≡ Some false
  pub taken : new.used ≡ slice_set old.used name true
  pub births : new.births ≡ (old.births + 1) % 2 ^ 64
  pub loaders : (q : ℕ) → new.loader_at q ≡ update nat_eq old.loader_at loader (Some (newborn old.births name arena class_arena)) q
  pub owners : (q : ℕ) → new.owner_at q ≡ update nat_eq (update nat_eq old.owner_at arena (Some loader)) class_arena (Some loader) q

-- Or none does, where each name is in use.
abbrev pub Comes : ℕ → ℕ → ℕ → Loaders → Loaders → Type 0
Comes loader arena class_arena old new = Lives loader arena class_arena old new ⊎ (IsFull old.used × Same old new)

-- A loader is born, after the death of one that lives at its address.
abbrev pub IsBorn : ℕ → ℕ → ℕ → Loaders → Loaders → Type 0
IsBorn loader arena class_arena old new = (mid : Loaders) × Dies loader old mid × Comes loader arena class_arena mid new

-- The arena's loader has one block more.
pub record IsCounted (arena : ℕ) (old new : Loaders) : Type 0 where
  pub loader : ℕ
  pub life : Life
  pub owns : old.owner_at arena ≡ Some loader
  pub lives : old.loader_at loader ≡ Some life
  pub loaders : (q : ℕ) → new.loader_at q ≡ update nat_eq old.loader_at loader (Some (record life { next = life.next + 1 })) q
  pub owners : (q : ℕ) → new.owner_at q ≡ old.owner_at q
  pub births : new.births ≡ old.births

abbrev pub Counts : ℕ → Option Command → Loaders → Loaders → Type 0
Counts arena None old new = Same old new
Counts arena (Some command) old new = IsCounted arena old new

-- The loaders after a line of the log, by what was known before.
abbrev pub Living : ℕ → Event → Known → Loaders → Type 0
Living thread (LoaderBorn loader arena class_arena) known new = IsBorn loader arena class_arena known.loaders new
Living thread (LoaderDies loader) known new = Dies loader known.loaders new
Living thread (Returned arena space address) known new = Counts arena (given thread arena space known) known.loaders new
Living thread (TakenFromFreeBlocks arena space) known new = Counts arena (given thread arena space known) known.loaders new
Living thread event known new = Same known.loaders new

-- A loader's write, read and free are steps of its machine; for system.rt.
use Rattle.std.proofs.Common.{◌≡◌, ℕ, Some, List, length, refl, ap, ◌∙◌}
use Rattle.std.specs.Ordering.{nat_cmp}
use Rattle.std.specs.BTreeMap.{is_at}
use Rattle.std.proofs.lemmas.Map.Steps.{set_value_same}
use Rattle.ms_base.specs.declared.kind.Space.{Space}
use Rattle.ms_base.specs.declared.kind.Space.TheVariants.{NonClass, Class}
use Rattle.ms_base.specs.declared.refusal.Refusal.{Refusal}
use Rattle.ms_base.specs.declared.refusal.Refusal.TheVariants.{OutOfRange, NoBlock}
use Rattle.ms_base.specs.Spaces.{space_at}
use Rattle.ms_base.specs.Names.{named, with_new, with_changed}
use Rattle.ms_base.specs.State.{LoaderState, Machine, arena_of}
use Rattle.ms_base.specs.Good.{IsGood}
use Rattle.ms_base.specs.Transition.{HasLoader, with_loader, with_freed, Writes, Frees, Reads, BlockCause, WordCause}
use Rattle.ms_pool.specs.Ledger.{Ledger}
use Rattle.ms_loader.specs.Loader.{LoaderView, with_state, IsSoundView, HasWord, WritesWord, FreesBlock, LacksWord}
use Rattle.ms_loader.specs.Loader.{LacksName}
use Rattle.ms_loaders.specs.System.{machine_of, AreTogether}
use Rattle.ms_loaders.proofs.sums.FitLemmas.{machine_is_good}
use Rattle.ms_loaders.proofs.steps.StillTogetherLemmas.{together_with}
use Rattle.ms_loaders.proofs.steps.StepLemmas.{has_loader, machine_with}

-- What is served.
write_is_served : (m : Machine) (name block index value : ℕ) (loader other : LoaderState) → HasLoader m name loader
    → WritesWord loader block index value other → Writes m name block index value (with_loader m name other)
write_is_served m name block index value loader other has writes = record {
  loader = loader;
  found = writes.found;
  has = record { loader_is = has; block_is = writes.has };
  within = writes.within;
  after = ap (with_loader m name) writes.after;
}

free_is_served : (m : Machine) (name block : ℕ) (loader other : LoaderState) → HasLoader m name loader
    → FreesBlock loader block other → Frees m name block (with_loader m name other)
free_is_served m name block loader other has frees = record {
  loader = loader;
  found = frees.found;
  kept = with_new (arena_of (space_at frees.found.start) loader).kept frees.found.start (length frees.found.contents);
  has = record { loader_is = has; block_is = frees.has };
  after = ap (with_loader m name) frees.after;
}

pub read_is_served : (m : Machine) (name block index value : ℕ) (loader : LoaderState) → HasLoader m name loader
    → HasWord loader block index value → Reads m name block index value m
read_is_served m name block index value loader has word =
    record {
      loader = loader;
      found = word.found;
      has = record { loader_is = has; block_is = word.has };
      word = word.word;
      after = refl;
    }

-- Why a loader can't write or read a word, or free a block, is why the machine can't.
pub word_is_refused : (m : Machine) (name block index : ℕ) (loader : LoaderState) (refusal : Refusal)
    → HasLoader m name loader
    → LacksWord loader block index refusal → WordCause m name block index refusal
word_is_refused m name block index loader NoBlock has lacks =
    record { loader = loader; loader_is = has; unused = lacks }
word_is_refused m name block index loader (OutOfRange words) has past =
    record {
      loader = loader;
      found = past.found;
      has = record { loader_is = has; block_is = past.has };
      words_are = past.words_are;
      past = past.past;
    }
word_is_refused m name block index loader _ has lacks = absurd lacks

pub free_is_refused : (m : Machine) (name block : ℕ) (loader : LoaderState) (refusal : Refusal)
    → HasLoader m name loader
    → LacksName loader block refusal → BlockCause m name block refusal
free_is_refused m name block loader NoBlock has lacks = record { loader = loader; loader_is = has; unused = lacks }
free_is_refused m name block loader _ has lacks = absurd lacks

-- Neither changes a chunk.
pub write_keeps : (space : Space) (loader other : LoaderState) (block index value : ℕ)
    → WritesWord loader block index value other → (arena_of space other).chunks ≡ (arena_of space loader).chunks
write_keeps space loader other block index value writes =
    ap (λ (l : LoaderState). (arena_of space l).chunks) writes.after

pub freed_keeps : (one there : Space) (loader : LoaderState) (block : ℕ) (kept : List (ℕ × ℕ))
    → (arena_of one (with_freed there loader block kept)).chunks ≡ (arena_of one loader).chunks
freed_keeps NonClass NonClass loader block kept = refl
freed_keeps NonClass Class loader block kept = refl
freed_keeps Class NonClass loader block kept = refl
freed_keeps Class Class loader block kept = refl

pub free_keeps : (space : Space) (loader other : LoaderState) (block : ℕ) → FreesBlock loader block other
    → (arena_of space other).chunks ≡ (arena_of space loader).chunks
free_keeps space loader other block frees = ap (λ (l : LoaderState). (arena_of space l).chunks) frees.after
    ∙ freed_keeps space (space_at frees.found.start) loader block
    (with_new (arena_of (space_at frees.found.start) loader).kept frees.found.start (length frees.found.contents))

-- Where a loader writes a word or frees a block, pool and loaders stay together, and the machine
-- makes its step.
module _ (ledger : Ledger) (loaders : List (ℕ × LoaderView)) (name block : ℕ) (was is : LoaderView)
    (found : named loaders name ≡ Some was)
    (same : is ≡ with_state was is.state) (sound : IsSoundView is) (its : AreTogether ledger loaders) where
  with_chunks : ((space : Space) → (arena_of space is.state).chunks ≡ (arena_of space was.state).chunks)
      → AreTogether ledger (with_changed loaders name is)
  with_chunks chunks =
      together_with ledger loaders name was is found (ap (λ (v : LoaderView). v.owner) same)
      (ap (λ (v : LoaderView). v.class_owner) same) chunks sound its

  pub together_written : (index value : ℕ) → WritesWord was.state block index value is.state
      → AreTogether ledger (with_changed loaders name is)
  together_written index value writes =
      with_chunks (λ space. write_keeps space was.state is.state block index value writes)

  pub is_written : (index value : ℕ) → WritesWord was.state block index value is.state
      → Writes (machine_of ledger loaders) name block index value (machine_of ledger (with_changed loaders name is))
      × IsGood (machine_of ledger (with_changed loaders name is))
  is_written index value writes = (
    rw (machine_with ledger loaders name is)
        (write_is_served (machine_of ledger loaders) name block index value was.state is.state
        (has_loader ledger loaders name was found) writes),
    machine_is_good ledger (with_changed loaders name is) (together_written index value writes),
  )

  pub together_freed : FreesBlock was.state block is.state → AreTogether ledger (with_changed loaders name is)
  together_freed frees = with_chunks (λ space. free_keeps space was.state is.state block frees)

  pub is_freed : FreesBlock was.state block is.state
      → Frees (machine_of ledger loaders) name block (machine_of ledger (with_changed loaders name is))
      × IsGood (machine_of ledger (with_changed loaders name is))
  is_freed frees = (
    rw (machine_with ledger loaders name is)
        (free_is_served (machine_of ledger loaders) name block was.state is.state
        (has_loader ledger loaders name was found) frees),
    machine_is_good ledger (with_changed loaders name is) (together_freed frees),
  )

-- A loader that is as it was.
pub same_loaders : (loaders : List (ℕ × LoaderView)) (name : ℕ) (was is : LoaderView) → named loaders name ≡ Some was
    → is ≡ was → with_changed loaders name is ≡ loaders
same_loaders loaders name was is found same =
    ap (with_changed loaders name) same ∙ set_value_same (is_at (nat_cmp name)) loaders was found

-- Whether a name is used.

-- What a loader's own replies tell of it: why it is refused, and what it read. For the run of the
-- machine that an order of steps is.
use Rattle.std.proofs.Common.{◌≡◌, ℕ, Bool, true, false, Option, Some, None, List, refl, ap, ◌∙◌, option_map}
use Rattle.ms_base.specs.declared.step.Step.TheVariants.{New, Alloc, Calloc, Write, Read, Free, Unload}
use Rattle.ms_base.specs.declared.kind.Kind.{Kind}
use Rattle.ms_base.specs.declared.step.Reply.TheVariants.{Ok as Done, At, Value, Refused}
use Rattle.ms_base.specs.declared.refusal.Refusal.{Refusal}
use Rattle.ms_base.specs.declared.refusal.Refusal.TheVariants.{NoLoader, NoBlock, OutOfRange, LoaderExists}
use Rattle.ms_base.specs.Names.{named}
use Rattle.ms_base.specs.Run.Alone.{OwnLoader, OwnReply}
use Rattle.ms_loader.specs.Loader.{LoaderView, HasWord, LacksWord, LacksName}
use Rattle.ms_loaders.specs.System.{states_of}
use Rattle.ms_loader.proofs.MappedLemmas.{named-mapped}
use Rattle.ms_loaders.proofs.steps.UnloadLemmas.{state_of}
use Rattle.ms_base.specs.Run.Own.{own_of, own_in}

-- What a loader's own requests can know of it.
abbrev pub own_view : Option LoaderView → Option OwnLoader
own_view None = None
own_view (Some loader) = Some (record { kind = loader.state.kind; blocks = loader.state.blocks })

pub own_view_is : (loaders : List (ℕ × LoaderView)) (name : ℕ) → own_in (states_of loaders) name
    ≡ own_view (named loaders name)
own_view_is loaders name = ap own_of (named-mapped state_of loaders name) ∙ go (named loaders name)
  where
    go : (o : Option LoaderView) → own_of (option_map state_of o) ≡ own_view o
    go None = refl
    go (Some loader) = refl

-- No loader, or one that lacks the word, or the block.
abbrev pub LacksWordIn : Option LoaderView → ℕ → ℕ → Refusal → Type 0
LacksWordIn None block index refusal = refusal ≡ NoLoader
LacksWordIn (Some loader) block index refusal = LacksWord loader.state block index refusal

abbrev pub LacksNameIn : Option LoaderView → ℕ → Refusal → Type 0
LacksNameIn None block refusal = refusal ≡ NoLoader
LacksNameIn (Some loader) block refusal = LacksName loader.state block refusal

module _ (name block : ℕ) (after : Option OwnLoader) where
  pub write_lacks : (index value : ℕ) (o : Option LoaderView) (flag : Bool) (refusal : Refusal)
      → OwnReply (own_view o) (Write name block index value) flag (Refused refusal) after
      → LacksWordIn o block index refusal
  write_lacks index value None true refusal told = absurd told.0
  write_lacks index value (Some loader) true refusal told = absurd told.0
  write_lacks index value None false NoLoader told = refl
  write_lacks index value None false _ told = absurd told
  write_lacks index value (Some loader) false (OutOfRange words) told =
      record { found = told.0; has = told.1; words_are = told.2; past = told.3 }
  write_lacks index value (Some loader) false NoBlock told = told.0
  write_lacks index value (Some loader) false _ told = absurd told

  pub read_lacks : (index : ℕ) (o : Option LoaderView) (flag : Bool) (refusal : Refusal)
      → OwnReply (own_view o) (Read name block index) flag (Refused refusal) after
      → LacksWordIn o block index refusal
  read_lacks index None true refusal told = absurd told.0
  read_lacks index (Some loader) true refusal told = absurd told.0
  read_lacks index None false NoLoader told = refl
  read_lacks index None false _ told = absurd told
  read_lacks index (Some loader) false (OutOfRange words) told =
      record { found = told.0; has = told.1; words_are = told.2; past = told.3 }
  read_lacks index (Some loader) false NoBlock told = told.0
  read_lacks index (Some loader) false _ told = absurd told

  pub free_lacks : (o : Option LoaderView) (flag : Bool) (refusal : Refusal)
      → OwnReply (own_view o) (Free name block) flag (Refused refusal) after → LacksNameIn o block refusal
  free_lacks None true refusal told = absurd told.0
  free_lacks (Some loader) true refusal told = absurd told.0
  free_lacks None false NoLoader told = refl
  free_lacks None false _ told = absurd told
  free_lacks (Some loader) false NoBlock told = told.0
  free_lacks (Some loader) false _ told = absurd told

  -- A word that is read is the loader's.
  pub reads_word : (index value : ℕ) (o : Option LoaderView) (flag : Bool)
      → OwnReply (own_view o) (Read name block index) flag (Value value) after
      → (loader : LoaderView) × (o ≡ Some loader) × HasWord loader.state block index value
  reads_word index value None true told = absurd told
  reads_word index value None false told = absurd told
  reads_word index value (Some loader) true told = absurd told
  reads_word index value (Some loader) false told =
      (loader, refl, record { found = told.0; has = told.1; word = told.2 })

  -- No other reply comes.
  pub read_answers : (index : ℕ) (o : Option LoaderView) (flag : Bool) (start : ℕ)
      → OwnReply (own_view o) (Read name block index) flag (At start) after → ⊥
  read_answers index None true start told = told
  read_answers index None false start told = told
  read_answers index (Some loader) true start told = told
  read_answers index (Some loader) false start told = told

  pub read_not_done : (index : ℕ) (o : Option LoaderView) (flag : Bool)
      → OwnReply (own_view o) (Read name block index) flag Done after → ⊥
  read_not_done index None true told = told
  read_not_done index None false told = told
  read_not_done index (Some loader) true told = told
  read_not_done index (Some loader) false told = told

  pub write_not_at : (index value : ℕ) (o : Option LoaderView) (flag : Bool) (start : ℕ)
      → OwnReply (own_view o) (Write name block index value) flag (At start) after → ⊥
  write_not_at index value None true start told = told
  write_not_at index value None false start told = told
  write_not_at index value (Some loader) true start told = told
  write_not_at index value (Some loader) false start told = told

  pub write_not_value : (index value : ℕ) (o : Option LoaderView) (flag : Bool) (word : ℕ)
      → OwnReply (own_view o) (Write name block index value) flag (Value word) after → ⊥
  write_not_value index value None true word told = told
  write_not_value index value None false word told = told
  write_not_value index value (Some loader) true word told = told
  write_not_value index value (Some loader) false word told = told

  pub free_not_at : (o : Option LoaderView) (flag : Bool) (start : ℕ)
      → OwnReply (own_view o) (Free name block) flag (At start) after → ⊥
  free_not_at None true start told = told
  free_not_at None false start told = told
  free_not_at (Some loader) true start told = told
  free_not_at (Some loader) false start told = told

  pub free_not_value : (o : Option LoaderView) (flag : Bool) (word : ℕ)
      → OwnReply (own_view o) (Free name block) flag (Value word) after → ⊥
  free_not_value None true word told = told
  free_not_value None false word told = told
  free_not_value (Some loader) true word told = told
  free_not_value (Some loader) false word told = told

module _ (name : ℕ) (after : Option OwnLoader) where
  -- An unload is refused where there is no loader; so is an allocation that has none.
  pub unload_lacks : (o : Option LoaderView) (flag : Bool) (refusal : Refusal)
      → OwnReply (own_view o) (Unload name) flag (Refused refusal) after → (o ≡ None) × (refusal ≡ NoLoader)
  unload_lacks None true refusal told = absurd told.0
  unload_lacks (Some loader) true refusal told = absurd told.0
  unload_lacks None false NoLoader told = (refl, refl)
  unload_lacks None false _ told = absurd told
  unload_lacks (Some loader) false refusal told = absurd told

  pub alloc_lacks : (block words : ℕ) (flag : Bool) (refusal : Refusal)
      → OwnReply None (Alloc name block words) flag (Refused refusal) after → refusal ≡ NoLoader
  alloc_lacks block words true refusal told = absurd told.0
  alloc_lacks block words false NoLoader told = refl
  alloc_lacks block words false _ told = absurd told

  pub calloc_lacks : (block words : ℕ) (flag : Bool) (refusal : Refusal)
      → OwnReply None (Calloc name block words) flag (Refused refusal) after → refusal ≡ NoLoader
  calloc_lacks block words true refusal told = absurd told.0
  calloc_lacks block words false NoLoader told = refl
  calloc_lacks block words false _ told = absurd told

  -- A New is refused where the loader is there, or for want where it isn't.
  pub new_there : (kind : Kind) (o : Option LoaderView) (flag : Bool)
      → OwnReply (own_view o) (New name kind) flag (Refused LoaderExists) after
      → (loader : LoaderView) × (o ≡ Some loader)
  new_there kind None true told = absurd told.1
  new_there kind None false told = absurd told
  new_there kind (Some loader) flag told = (loader, refl)

  pub new_wants : (kind : Kind) (o : Option LoaderView) (flag : Bool) (refusal : Refusal)
      → (refusal ≡ LoaderExists → ⊥) → OwnReply (own_view o) (New name kind) flag (Refused refusal) after → o ≡ None
  new_wants kind None flag refusal other told = refl
  new_wants kind (Some loader) true refusal other told = absurd told.0
  new_wants kind (Some loader) false LoaderExists other told = absurd (other refl)
  new_wants kind (Some loader) false _ other told = absurd told

  -- One that is served is of a loader that wasn't there; an unload that is leaves none.
  pub new_was_none : (kind : Kind) (o : Option LoaderView) (flag : Bool)
      → OwnReply (own_view o) (New name kind) flag Done after → o ≡ None
  new_was_none kind None flag told = refl
  new_was_none kind (Some loader) true told = absurd told
  new_was_none kind (Some loader) false told = absurd told

-- An unload that is served leaves no loader.
pub unload_leaves : (name : ℕ) (o p : Option LoaderView) (flag : Bool)
    → OwnReply (own_view o) (Unload name) flag Done (own_view p) → p ≡ None
unload_leaves name None p true told = absurd told
unload_leaves name None p false told = absurd told
unload_leaves name (Some loader) p true told = absurd told
unload_leaves name (Some loader) None false told = refl
unload_leaves name (Some loader) (Some other) false told = absurd (let e : Some _ ≡ None = told in cc)

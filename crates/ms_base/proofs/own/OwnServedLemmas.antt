-- What is served follows from what is known of the loader that the request names. For `alone`.
use Rattle.std.proofs.Common.{◌≡◌, ℕ, false, Some, None, List, [], ◌∷◌, map, length, slice_set}
use Rattle.std.proofs.Common.{refl, sym, ap, ◌∙◌}
use Rattle.std.specs.List.{AllByRecursion}
use Rattle.std.specs.Map.{values_of}
use Rattle.std.proofs.lemmas.Bool.{or_from}
use Rattle.std.proofs.lemmas.List.{length-replicate}
use Rattle.std.proofs.lemmas.List.Elements.{recursion_from_All}
use Rattle.std.proofs.lemmas.Option.{none-some}
use Rattle.ms_base.specs.declared.kind.Kind.{Kind}
use Rattle.ms_base.specs.declared.kind.Space.{Space}
use Rattle.ms_base.specs.declared.kind.Space.TheVariants.{NonClass, Class}
use Rattle.ms_base.specs.Live.{LiveBlock}
use Rattle.ms_base.specs.declared.step.Step.{Step}
use Rattle.ms_base.specs.declared.step.Step.TheVariants.{New, Alloc, Calloc, Write, Read, Free, Unload, Purge}
use Rattle.ms_base.specs.declared.step.Reply.{Reply}
use Rattle.ms_base.specs.declared.step.Reply.TheVariants.{Ok as Done, At, Value}
use Rattle.ms_base.specs.Interval.{meet, meets_any}
use Rattle.ms_base.specs.Names.{named, with_changed, with_new}
use Rattle.ms_base.specs.Request.{alloc_in}
use Rattle.ms_base.specs.Spaces.{space_at}
use Rattle.ms_base.specs.Live.{run_of, runs_of, block_words}
use Rattle.ms_base.specs.State.{ArenaState, LoaderState, Machine, empty_loader}
use Rattle.ms_base.specs.Good.{IsGood}
use Rattle.ms_base.specs.Transition.{HasLoader}
use Rattle.ms_base.specs.Transition.{ServesStep, Makes, Allocates, Writes, Reads, Frees, Unloads, with_allocated}
use Rattle.ms_base.specs.Transition.{with_block, with_freed, zeroed}
use Rattle.ms_base.proofs.entries.LookupLemmas.{named_changed_same, named_new_same}
use Rattle.ms_base.proofs.entries.LookupLemmas.{named_new_other}
use Rattle.ms_base.proofs.events.SeenEntryLemmas.{all_values, named_without_same}
use Rattle.ms_base.proofs.machine.GoodLemmas.{loader_is_sound}
use Rattle.ms_base.proofs.machine.BlockSpaceLemmas.{blocks_are_apart}
use Rattle.ms_base.specs.Run.Own.{own_of, own_in}
use Rattle.ms_base.proofs.own.OwnRefusedLemmas.{AnswersOwn, IsOwn, at_name, known, own_as, alloc_told}

-- A run that meets none of the blocks.
clear_of_all : (run : ℕ × ℕ) (blocks : List LiveBlock)
    → AllByRecursion (λ (other : LiveBlock). meet run.0 run.1 other.start (length other.contents) ≡ false) blocks
    → meets_any run (map run_of blocks) ≡ false
clear_of_all run [] all = refl
clear_of_all run (block ∷ blocks) all =
    or_from (meet run.0 run.1 block.start (length block.contents)) (meets_any run (map run_of blocks)) all.0
    (clear_of_all run blocks all.1)

-- A new block meets none of its loader's blocks.
new_is_clear : (space : Space) (old new : Machine) (name block words start : ℕ) → IsGood old → IsGood new
    → (made : Allocates old space name block words start new)
    → meets_any (start, block_words words) (runs_of made.before.blocks) ≡ false
new_is_clear space old new name block words start was good made =
    clear_of_all (start, block_words words) (values_of made.before.blocks)
    (recursion_from_All
    (λ (other : LiveBlock). meet start (block_words words) other.start (length other.contents) ≡ false)
    (values_of made.before.blocks)
    (all_values (λ (other : LiveBlock). meet start (block_words words) other.start (length other.contents) ≡ false)
    made.before.blocks
    (loader_is_sound old name made.before made.found was).names apart))
  where
    fresh : LiveBlock
    fresh = zeroed start (block_words words)

    after : LoaderState
    after = with_allocated space made.before made.arena block fresh

    has : HasLoader new name after
    has = ap (λ (m : Machine). named m.loaders name) made.after
        ∙ named_changed_same old.loaders name made.before after made.found

    apart : (other : ℕ) (found : LiveBlock) → named made.before.blocks other ≡ Some found
        → meet start (block_words words) found.start (length found.contents) ≡ false
    apart other found is =
        let differ : block ≡ other → ⊥ =
        λ e. none-some found (sym (ap (named made.before.blocks) (sym e) ∙ made.unused) ∙ is) in
        ap (λ (n : ℕ). meet start n found.start (length found.contents)) (sym (length-replicate (block_words words) 0))
        ∙ blocks_are_apart new name block after fresh name other after found good
        (record { loader_is = has; block_is = named_new_same made.before.blocks block fresh })
        (record { loader_is = has; block_is = named_new_other made.before.blocks block fresh other differ ∙ is })
        (λ e. differ e.1)

-- An allocation's other arena is nothing that a loader's lines say.
own_allocated : (space : Space) (loader : LoaderState) (arena : ArenaState) (block : ℕ) (fresh : LiveBlock)
    → own_as (with_allocated space loader arena block fresh)
    ≡ record (own_as loader) { blocks = with_new loader.blocks block fresh }
own_allocated NonClass loader arena block fresh = refl
own_allocated Class loader arena block fresh = refl

-- What is served, by the request.
module _ (old new : Machine) (name : ℕ) where
  abbrev IsServed : Step → Reply → Type 0
  IsServed step reply = IsOwn (own_in old.loaders name) step reply (own_in new.loaders name)

  -- The loader of the name is changed.
  changed : (before after : LoaderState) → named old.loaders name ≡ Some before
      → new.loaders ≡ with_changed old.loaders name after
      → own_in new.loaders name ≡ Some (own_as after)
  changed before after has is = ap (λ (l : List (ℕ × LoaderState)). own_of (named l name)) is
      ∙ ap own_of (named_changed_same old.loaders name before after has)

  made_own : (kind : Kind) → Makes old name (empty_loader kind) new → IsServed (New name kind) Done
  made_own kind made =
      known (own_in old.loaders name) (own_in new.loaders name) (New name kind) false Done None
      (Some (record { kind = kind; blocks = [] })) (ap own_of made.unused)
      (ap (λ (m : Machine). own_in m.loaders name) made.after
      ∙ ap own_of (named_new_same old.loaders name (empty_loader kind))) refl

  allocated_own : IsGood old → IsGood new → (space : Space) (block words start : ℕ)
      → Allocates old space name block words start new
      → IsServed (alloc_in space name block words) (At start)
  allocated_own was good space block words start made =
      let after = with_allocated space made.before made.arena block (zeroed start (block_words words)) in
      known (own_in old.loaders name) (own_in new.loaders name) (alloc_in space name block words) false (At start)
      (Some (own_as made.before)) (Some (own_as after)) (ap own_of made.found)
      (changed made.before after made.found (ap (λ (m : Machine). m.loaders) made.after))
      (alloc_told (own_as made.before) space name block words (At start) (Some (own_as after)) (
        (made.unused, made.some, made.fits),
        made.inside,
        new_is_clear space old new name block words start was good made,
        ap Some (own_allocated space made.before made.arena block (zeroed start (block_words words))),
      ))

  written_own : (block index value : ℕ) → Writes old name block index value new
      → IsServed (Write name block index value) Done
  written_own block index value made =
      let after =
      with_block made.loader block (record made.found { contents = slice_set made.found.contents index value }) in
      known (own_in old.loaders name) (own_in new.loaders name) (Write name block index value) false Done
      (Some (own_as made.loader)) (Some (own_as after)) (ap own_of made.has.loader_is)
      (changed made.loader after made.has.loader_is (ap (λ (m : Machine). m.loaders) made.after))
      (made.found, made.has.block_is, made.within, refl)

  read_own : (block index value : ℕ) → Reads old name block index value new
      → IsServed (Read name block index) (Value value)
  read_own block index value made =
      known (own_in old.loaders name) (own_in new.loaders name) (Read name block index) false (Value value)
      (Some (own_as made.loader)) (Some (own_as made.loader))
      (ap own_of made.has.loader_is)
      (ap (λ (m : Machine). own_in m.loaders name) made.after ∙ ap own_of made.has.loader_is)
      (made.found, made.has.block_is, made.word, refl)

  freed_own : (block : ℕ) → Frees old name block new → IsServed (Free name block) Done
  freed_own block made =
      let after = with_freed (space_at made.found.start) made.loader block made.kept in
      known (own_in old.loaders name) (own_in new.loaders name) (Free name block) false Done (Some (own_as made.loader))
      (Some (own_as after)) (ap own_of made.has.loader_is)
      (changed made.loader after made.has.loader_is (ap (λ (m : Machine). m.loaders) made.after))
      (made.found, made.has.block_is, refl)

  unloaded_own : IsGood old → Unloads old name new → IsServed (Unload name) Done
  unloaded_own was made =
      known (own_in old.loaders name) (own_in new.loaders name) (Unload name) false Done (Some (own_as made.loader))
      None (ap own_of made.has)
      (ap (λ (m : Machine). own_in m.loaders name) made.after
      ∙ ap own_of (named_without_same old.loaders name was.names)) refl

pub served_own : (old new : Machine) (step : Step) (reply : Reply) → IsGood old → IsGood new → ServesStep old step reply new
    → AnswersOwn old step reply new
served_own old new (New name kind) Done was good made =
    at_name old new (New name kind) Done name refl (made_own old new name kind made)
served_own old new (Alloc name block words) (At start) was good made =
    at_name old new (Alloc name block words) (At start) name refl
    (allocated_own old new name was good NonClass block words start made)
served_own old new (Calloc name block words) (At start) was good made =
    at_name old new (Calloc name block words) (At start) name refl
    (allocated_own old new name was good Class block words start made)
served_own old new (Write name block index value) Done was good made =
    at_name old new (Write name block index value) Done name refl (written_own old new name block index value made)
served_own old new (Read name block index) (Value value) was good made =
    at_name old new (Read name block index) (Value value) name refl (read_own old new name block index value made)
served_own old new (Free name block) Done was good made =
    at_name old new (Free name block) Done name refl (freed_own old new name block made)
served_own old new (Unload name) Done was good made =
    at_name old new (Unload name) Done name refl (unloaded_own old new name was made)
served_own old new Purge Done was good made = λ name e. absurd (cc)
served_own old new _ _ was good made = absurd made

-- An allocation's events: what each does to the serial order's machine.
use Rattle.std.proofs.Common.{◌≡◌, ℕ, Option, Some, None, List, [], ◌∷◌, refl, sym, ap, ◌∙◌, subst}
use Rattle.ms_base.specs.declared.kind.Space.{Space}
use Rattle.ms_base.specs.declared.kind.Space.TheVariants.{NonClass, Class}
use Rattle.ms_base.specs.declared.span.Chunk.{Chunk}
use Rattle.ms_base.specs.Live.{LiveBlock}
use Rattle.ms_base.specs.declared.step.Step.{Step}
use Rattle.ms_base.specs.declared.step.Reply.{Reply}
use Rattle.ms_base.specs.declared.step.Reply.TheVariants.{At}
use Rattle.ms_base.specs.Names.{named, with_changed}
use Rattle.ms_base.specs.Live.{block_words}
use Rattle.ms_base.specs.State.{ArenaState, LoaderState, Machine, arena_of, with_arena, slots_in, recommitted}
use Rattle.ms_base.specs.Good.{IsGood}
use Rattle.ms_base.specs.Transition.{HasLoader, with_allocated, zeroed, Change, MayChange, Allocates, Transition}
use Rattle.ms_base.specs.Request.{alloc_in}
use Rattle.ms_base.proofs.entries.EntryLemmas.{rises_with_changed}
use Rattle.ms_base.proofs.entries.LookupLemmas.{named_changed_same, named_changed_other}
use Rattle.ms_base.proofs.machine.ChangeLemmas.{changed}
use Rattle.ms_base.proofs.arena.BlockLemmas.{arena_there}
use Rattle.ms_base.proofs.events.SeenEntryLemmas.{changed_back}
use Rattle.ms_base.proofs.events.StageLemmas.{Stage, owes_block, Shows, OwesBlock, IsSeen, GoesBack}
use Rattle.ms_base.proofs.events.SeenLemmas.{same_loader}
use Rattle.ms_base.proofs.events.BackLemmas.{with_seen, recommitted_seen, steps_back}

-- A stage in which both machines have the same.
abbrev pub IsPlain : Stage → Type 0
IsPlain stage = (serial real : Option LoaderState) → serial ≡ real → Shows stage serial real

twice : (space : Space) (loader : LoaderState) (first second : ArenaState) (block : ℕ) (made : LiveBlock)
    → with_allocated space loader second block made
    ≡ with_allocated space (with_arena space loader first) second block made
twice NonClass loader first second block made = refl
twice Class loader first second block made = refl

pub served_in : (space : Space) (old : Machine) (name block words start : ℕ) (new : Machine)
    → Allocates old space name block words start new → IsGood new
    → Transition old (alloc_in space name block words) (At start) new
served_in NonClass old name block words start new allocates good = (allocates, good)
served_in Class old name block words start new allocates good = (allocates, good)

-- Where a chunk is had, be it taken or grown, the allocation counts as done: in the serial order's
-- machine the loader has its block at once.
module _ (space : Space) (old : Machine) (name block words start : ℕ) (before : LoaderState) (arena : ArenaState)
    (slots : List ℕ) (has : HasLoader old name before) where
  abbrev with_it : LoaderState
  with_it = with_arena space before arena

  abbrev mid : Machine
  mid = changed space old name with_it slots

  abbrev change : List Chunk → List ℕ → Change
  change chunks into = record { chunks = chunks; slots = into }

  pub had_back : (stage : Stage) → IsPlain stage
      → MayChange old.limits.policy (block_words words) (change (arena_of space before).chunks (slots_in space old))
      (change arena.chunks slots)
      → (seen : List (ℕ × LoaderState)) → IsSeen name (owes_block space block words start) (recommitted mid) seen
      → (done : List (Step × Reply)) → done ≡ (alloc_in space name block words, At start) ∷ []
      → GoesBack name stage old (recommitted mid) seen done
  had_back stage plain changes seen its done one =
      steps_back name stage old (recommitted mid) seen loaders done (alloc_in space name block words) (At start) one
      (rises_with_changed seen name before its.rises)
      (λ other differ. named_changed_other seen name before other differ)
      (plain (named loaders name) (named old.loaders name) (found ∙ sym has))
      (served_in space (with_seen old loaders) name block words start (with_seen (recommitted mid) seen) (record {
        some = owed.some;
        fits = owed.fits;
        before = before;
        arena = owed.adds.arena;
        slots = slots;
        found = found;
        unused = subst (λ (l : LoaderState). named l.blocks block ≡ None) (sym is) owed.adds.unused;
        inside = owed.adds.inside;
        changes = subst (λ (l : List Chunk). MayChange old.limits.policy (block_words words)
            (change (arena_of space before).chunks (slots_in space old)) (change l slots)) (sym chunks) changes;
        after = sym (ap (λ (l : List (ℕ × LoaderState)). recommitted (with_seen mid l)) restored
            ∙ recommitted_seen mid seen its.held);
      }) its.good)
    where
      owed : OwesBlock space block words start (named seen name) (named mid.loaders name)
      owed = its.mine

      loaders : List (ℕ × LoaderState)
      loaders = with_changed seen name before

      found : named loaders name ≡ Some before
      found = named_changed_same seen name owed.after before owed.serial_is

      is : with_it ≡ owed.before
      is = same_loader with_it owed.before (named mid.loaders name)
          (named_changed_same old.loaders name before with_it has) owed.real_is

      chunks : owed.adds.arena.chunks ≡ arena.chunks
      chunks = owed.adds.chunks ∙ ap (λ (l : LoaderState). (arena_of space l).chunks) (sym is) ∙ ap
          (λ (a : ArenaState). a.chunks) (arena_there space before arena)

      made : LiveBlock
      made = zeroed start (block_words words)

      restored : with_changed loaders name (with_allocated space before owed.adds.arena block made) ≡ seen
      restored =
          ap (with_changed loaders name) (twice space before arena owed.adds.arena block made
          ∙ ap (λ (l : LoaderState). with_allocated space l owed.adds.arena block made) is ∙ sym owed.adds.after)
          ∙ changed_back seen name before owed.after owed.serial_is

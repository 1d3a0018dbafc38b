-- The serial order's machine has the same chunks as the other, and is good too.
use Rattle.std.proofs.Common.{◌≡◌, ℕ, Option, Some, None, List, [], refl, sym, ap, ◌∙◌, subst}
use Rattle.ms_base.specs.declared.kind.Kind.{Kind}
use Rattle.ms_base.specs.declared.kind.Space.{Space}
use Rattle.ms_base.specs.declared.kind.Space.TheVariants.{NonClass, Class}
use Rattle.ms_base.specs.declared.span.Chunk.{Chunk}
use Rattle.ms_base.specs.Names.{AreNamed, named}
use Rattle.ms_base.specs.State.{LoaderState, Machine, arena_of, empty_loader, chunks_held, pool_of}
use Rattle.ms_base.specs.Good.{IsSoundLoader, IsGood}
use Rattle.ms_base.proofs.machine.GoodLemmas.{sound_with, loader_is_sound}
use Rattle.ms_base.proofs.events.SeenEntryLemmas.{given, same_given, all_values}
use Rattle.ms_base.proofs.events.HappenLemmas.{added_chunks, emptied_chunks}
use Rattle.ms_base.proofs.events.StageLemmas.{Stage, idle, turned_down, owes_block, owes_refusal, unloading, retracting}
use Rattle.ms_base.proofs.events.StageLemmas.{Shows, Was}
use Rattle.ms_base.proofs.events.BackLemmas.{with_seen}

abbrev chunks_in : Space → LoaderState → List Chunk
chunks_in space loader = (arena_of space loader).chunks

abbrev chunks_at : Space → ℕ → Option LoaderState → List Chunk
chunks_at space name o = given (λ _ loader. chunks_in space loader) name o

none_in : (space : Space) (kind : Kind) → chunks_in space (empty_loader kind) ≡ []
none_in NonClass kind = refl
none_in Class kind = refl

-- Under each name they have the same chunks.
same_chunks : (space : Space) (name : ℕ) (stage : Stage) (serial real : Option LoaderState) → Shows stage serial real
    → Was stage real → chunks_at space name serial ≡ chunks_at space name real
same_chunks space name idle serial real shows was = ap (chunks_at space name) shows
same_chunks space name (turned_down spread) serial real shows was = ap (chunks_at space name) shows
same_chunks space name (owes_block one block words start) serial real shows was =
    ap (chunks_at space name) shows.serial_is
    ∙ added_chunks one block words start shows.before shows.after shows.adds space
    ∙ sym (ap (chunks_at space name) shows.real_is)
same_chunks space name (owes_refusal one block words refusal) serial real shows was =
    ap (chunks_at space name) shows.same
same_chunks space name (unloading loader) serial real shows was =
    ap (chunks_at space name) shows ∙ sym (emptied_chunks loader space) ∙ sym (ap (chunks_at space name) was.0)
same_chunks space name retracting serial real shows was = ap (chunks_at space name) shows ∙ sym (none_in space was.0)
    ∙ sym (ap (chunks_at space name) was.1)

-- And what the serial order's machine has is sound.
abbrev pub some_loader : LoaderState → Option LoaderState
some_loader loader = Some loader

pub same_loader : (a b : LoaderState) (o : Option LoaderState) → o ≡ some_loader a → o ≡ some_loader b → a ≡ b
same_loader a b o e f = let both : some_loader a ≡ some_loader b = sym e ∙ f in cc

none_there : (loader : LoaderState) (o : Option LoaderState) → o ≡ None → o ≡ some_loader loader → ⊥
none_there loader o e f = let both : None ≡ some_loader loader = sym e ∙ f in absurd (cc)

sound_there : (stage : Stage) (serial real : Option LoaderState) → Shows stage serial real → Was stage real
    → ((loader : LoaderState) → real ≡ Some loader → IsSoundLoader loader) → (loader : LoaderState)
    → serial ≡ Some loader → IsSoundLoader loader
sound_there idle serial real shows was sound loader found = sound loader (sym shows ∙ found)
sound_there (turned_down spread) serial real shows was sound loader found = sound loader (sym shows ∙ found)
sound_there (owes_block space block words start) serial real shows was sound loader found =
    subst IsSoundLoader (same_loader shows.after loader serial shows.serial_is found) shows.sound
sound_there (owes_refusal space block words refusal) serial real shows was sound loader found = sound loader
    (sym shows.same ∙ found)
sound_there (unloading one) serial real shows was sound loader found = subst IsSoundLoader
    (same_loader one loader serial shows found) was.1
sound_there retracting serial real shows was sound loader found = absurd (none_there loader serial shows found)

module _ (stage : ℕ → Stage) (m : Machine) (seen : List (ℕ × LoaderState)) (good : IsGood m) (rises : AreNamed seen)
    (shows : (name : ℕ) → Shows (stage name) (named seen name) (named m.loaders name))
    (was : (name : ℕ) → Was (stage name) (named m.loaders name)) where
  pub seen_held : (space : Space) → chunks_held space seen ≡ chunks_held space m.loaders
  seen_held space = same_given (chunks_in space) seen m.loaders rises good.names
      (λ name. same_chunks space name (stage name) (named seen name) (named m.loaders name) (shows name) (was name))

  pub seen_good : IsGood (with_seen m seen)
  seen_good = record {
    loaders = all_values IsSoundLoader seen rises (λ name loader found. sound_there (stage name) (named seen name)
        (named m.loaders name) (shows name) (was name)
        (λ one there. loader_is_sound m name one there good) loader found);
    names = rises;
    pools = λ space. sound_with (pool_of space m) (chunks_held space seen) (seen_held space) (good.pools space);
    given = good.given;
  }

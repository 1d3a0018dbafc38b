-- Openings and closings, and the local event of an unload, as their steps go on.
use Rattle.std.proofs.Common.{◌≡◌, ◌+◌, ℕ, true, false, Some, None, List, [], ◌∷◌, ◌++◌, refl, sym, ap, ◌∙◌, subst, inr}
use Rattle.ms_base.specs.declared.kind.Kind.{Kind}
use Rattle.ms_base.specs.declared.kind.Space.{Space}
use Rattle.ms_base.specs.declared.kind.Space.TheVariants.{NonClass, Class}
use Rattle.ms_base.specs.declared.span.Chunk.{Chunk}
use Rattle.ms_base.specs.declared.step.Step.{Step}
use Rattle.ms_base.specs.declared.step.Step.TheVariants.{New, Unload}
use Rattle.ms_base.specs.declared.step.Reply.{Reply}
use Rattle.ms_base.specs.declared.step.Reply.TheVariants.{Ok as Done, Refused}
use Rattle.ms_base.specs.declared.refusal.Refusal.TheVariants.{OutOfMemory, IdsUsedUp}
use Rattle.ms_base.specs.Names.{named, with_new, with_changed, without}
use Rattle.ms_base.specs.State.{LoaderState, Machine, arena_of, chunks_held, empty_loader, recommitted}
use Rattle.ms_base.specs.Good.{IsGood}
use Rattle.ms_base.specs.Transition.{NewCause}
use Rattle.ms_base.specs.Run.Event.{opening, closing, acting, accepted, replied, refused, Opens, Closes, Empties, emptied}
use Rattle.ms_base.specs.Run.Spread.{SpreadStep, Part, AreWhole}
use Rattle.ms_base.specs.Run.Serial.{is_position, done_by}
use Rattle.ms_base.proofs.entries.NameLemmas.{rises_with_new}
use Rattle.ms_base.proofs.entries.EntryLemmas.{Split, split_at, rises_without}
use Rattle.ms_base.proofs.entries.LookupLemmas.{named_changed_same, named_new_same, named_new_other}
use Rattle.ms_base.proofs.entries.LookupLemmas.{named_without_other}
use Rattle.ms_base.proofs.machine.GoodLemmas.{chunks_split, chunks_joined, loader_is_sound}
use Rattle.ms_base.proofs.machine.ChangeLemmas.{recommitted_same}
use Rattle.ms_base.proofs.events.SeenEntryLemmas.{named_without_same, new_back, without_back}
use Rattle.ms_base.proofs.events.EventCauseLemmas.{leaves_same}
use Rattle.ms_base.proofs.events.StageLemmas.{idle, unloading, retracting, Was, IsSeen, GoesBack, GoesOnBy}
use Rattle.ms_base.proofs.events.BackLemmas.{done_there, done_elsewhere, with_seen, recommitted_seen, goes_back}
use Rattle.ms_base.proofs.events.BackLemmas.{steps_back}
use Rattle.ms_base.proofs.events.AskLemmas.{same_step}

module _ (name : ℕ) (spread : SpreadStep) (old new : Machine) (more : List Part) (whole : AreWhole more) where
  -- A loader is made.
  pub goes_on_opened : (kind : Kind) → spread.step ≡ New name kind → spread.reply ≡ Done
      → is_position spread.events (opening name kind, accepted) ≡ true → Opens old name kind new
      → GoesOnBy name idle old new (Some spread, opening name kind, accepted) more
  goes_on_opened kind step_is reply_is here opens =
      subst (λ (one : Machine). GoesOnBy name idle old one (Some spread, opening name kind, accepted) more)
      (sym opens.made.after) (record {
        next = idle;
        was = tt;
        left = whole;
        back = back;
      })
    where
      made : Machine
      made = record old { loaders = with_new old.loaders name (empty_loader kind); given = old.given + 2 }

      back : (seen : List (ℕ × LoaderState)) → IsSeen name idle made seen
          → GoesBack name idle old made seen (done_by (Some spread) (opening name kind, accepted))
      back seen its =
          let there : named seen name ≡ Some (empty_loader kind) = its.mine ∙ named_new_same old.loaders name
          (empty_loader kind) in
          let gone = named_without_same seen name its.rises in
          steps_back name idle old made seen (without seen name) _ (New name kind) Done
          (done_there spread (opening name kind) accepted here ∙ same_step spread (New name kind) Done step_is reply_is)
          (rises_without seen name its.rises) (λ other differ. named_without_other seen name other differ)
          (gone ∙ sym opens.made.unused) (
            record {
              unused = gone;
              after = sym (ap (λ (l : List
                  (ℕ × LoaderState)). record old { loaders = l; given = old.given + 2 })
                  (new_back seen name (empty_loader kind) its.rises there));
            },
            its.good,
          )

  -- None is, since owner numbers are used up.
  pub goes_on_unopened : (kind : Kind) → spread.step ≡ New name kind → spread.reply ≡ Refused IdsUsedUp
      → is_position spread.events (opening name kind, refused IdsUsedUp) ≡ true
      → NewCause old name IdsUsedUp × (new ≡ old)
      → GoesOnBy name idle old new (Some spread, opening name kind, refused IdsUsedUp) more
  goes_on_unopened kind step_is reply_is here none =
      subst (λ (one : Machine). GoesOnBy name idle old one (Some spread, opening name kind, refused IdsUsedUp) more)
      (sym none.1) (record {
        next = idle;
        was = tt;
        left = whole;
        back = λ seen its. steps_back name idle old old seen seen _ (New name kind) (Refused IdsUsedUp)
            (done_there spread (opening name kind) (refused IdsUsedUp) here ∙ same_step spread (New name kind)
            (Refused IdsUsedUp) step_is reply_is)
            its.rises (λ other differ. refl) its.mine (
              (its.mine ∙ none.0.0, none.0.1),
              leaves_same
                  (with_seen old seen) (New name kind) IdsUsedUp,
            );
      })

  -- One is made that is closed again for want of memory: in the serial order none was.
  pub goes_on_in_vain : (kind : Kind) → spread.step ≡ New name kind → spread.reply ≡ Refused OutOfMemory
      → is_position spread.events (opening name kind, accepted) ≡ true
      → is_position spread.events (closing name, accepted) ≡ false → Opens old name kind new
      → GoesOnBy name idle old new (Some spread, opening name kind, accepted)
      ((Some spread, closing name, accepted) ∷ more)
  goes_on_in_vain kind step_is reply_is here elsewhere opens =
      subst (λ (one : Machine). GoesOnBy name idle old one (Some spread, opening name kind, accepted)
      ((Some spread, closing name, accepted) ∷ more)) (sym opens.made.after) (record {
        next = retracting;
        was = (kind, named_new_same old.loaders name (empty_loader kind));
        left = (
          New name kind,
          Refused OutOfMemory,
          record {
            spread = spread;
            more = more;
            step_is = step_is;
            reply_is = reply_is;
            position_is = elsewhere;
            parts_are = refl;
            whole = whole;
          },
        );
        back = λ seen its. steps_back name idle old (record old {
          loaders = with_new old.loaders name
              (empty_loader kind);
          given = old.given + 2;
        }) seen seen _ (New name kind) (Refused OutOfMemory)
            (done_there spread (opening name kind) accepted here ∙ same_step spread (New name kind)
            (Refused OutOfMemory) step_is reply_is)
            its.rises (λ other differ. refl) (its.mine ∙ sym opens.made.unused) ((its.mine, opens.numbers), inr refl);
      })

  -- A loader is emptied: in the serial order it has all until it is closed.
  pub goes_on_emptied : IsGood old → spread.step ≡ Unload name → spread.reply ≡ Done
      → is_position spread.events (acting (Unload name), replied Done) ≡ false
      → is_position spread.events (closing name, accepted) ≡ true → Empties old name new
      → GoesOnBy name idle old new (Some spread, acting (Unload name), replied Done)
      ((Some spread, closing name, accepted) ∷ more)
  goes_on_emptied good step_is reply_is elsewhere later empties =
      subst (λ (one : Machine). GoesOnBy name idle old one (Some spread, acting (Unload name), replied Done)
      ((Some spread, closing name, accepted) ∷ more)) (sym empties.after) (record {
        next = unloading empties.loader;
        was = (
          named_changed_same old.loaders name empties.loader
              (emptied empties.loader) empties.has,
          loader_is_sound old name empties.loader empties.has good,
        );
        left = record {
          spread = spread;
          more = more;
          step_is = step_is;
          reply_is = reply_is;
          position_is = later;
          parts_are = refl;
          whole = whole;
        };
        back = λ seen its. goes_back name idle old (record old {
          loaders = with_changed old.loaders name
              (emptied empties.loader);
        }) seen _
            (done_elsewhere spread (acting (Unload name)) (replied Done) elsewhere) its.rises
            (its.mine ∙ sym empties.has) refl;
      })

  -- It is closed, and unloaded.
  pub goes_on_closed : (loader : LoaderState) → spread.step ≡ Unload name → spread.reply ≡ Done
      → is_position spread.events (closing name, accepted) ≡ true → IsGood old → Closes old name new
      → GoesOnBy name (unloading loader) old new (Some spread, closing name, accepted) more
  goes_on_closed loader step_is reply_is here good closes =
      subst (λ (one : Machine). GoesOnBy name (unloading loader) old one (Some spread, closing name, accepted) more)
      (sym closes.after) (record {
        next = idle;
        was = tt;
        left = whole;
        back = back;
      })
    where
      mid : Machine
      mid = record old { loaders = without old.loaders name }

      back : (seen : List (ℕ × LoaderState)) → IsSeen name idle (recommitted mid) seen
          → GoesBack name (unloading loader) old (recommitted mid) seen (done_by (Some spread) (closing name, accepted))
      back seen its =
          let none : named seen name ≡ None = its.mine ∙ named_without_same old.loaders name good.names in
          let there = named_new_same seen name loader in
          steps_back name (unloading loader) old (recommitted mid) seen (with_new seen name loader) _ (Unload name) Done
          (done_there spread (closing name) accepted here ∙ same_step spread (Unload name) Done step_is reply_is)
          (rises_with_new seen name loader its.rises) (λ other differ. named_new_other seen name loader other differ)
          there (
            record {
              loader = loader;
              has = there;
              after = sym (ap (λ (l : List (ℕ × LoaderState)). recommitted (record old { loaders = l }))
                  (without_back seen name loader its.rises none) ∙ recommitted_seen mid seen its.held);
            },
            its.good,
          )

  -- One that was made in vain is closed: nothing changes but its name.
  pub goes_on_retracted : (step : Step) (reply : Reply) → is_position spread.events (closing name, accepted) ≡ false
      → IsGood old → Was retracting (named old.loaders name) → Closes old name new
      → GoesOnBy name retracting old new (Some spread, closing name, accepted) more
  goes_on_retracted step reply elsewhere good was closes =
      subst (λ (one : Machine). GoesOnBy name retracting old one (Some spread, closing name, accepted) more)
      (sym closes.after) (record {
        next = idle;
        was = tt;
        left = whole;
        back = λ seen its. goes_back name retracting old (recommitted mid) seen _
            (done_elsewhere spread (closing name) accepted elsewhere) its.rises
            (its.mine ∙ named_without_same old.loaders name good.names) (same seen its.held);
      })
    where
      mid : Machine
      mid = record old { loaders = without old.loaders name }

      split : Split old.loaders name (empty_loader was.0)
      split = split_at old.loaders name (empty_loader was.0) was.1

      no_chunks : (space : Space) → (arena_of space (empty_loader was.0)).chunks ≡ []
      no_chunks NonClass = refl
      no_chunks Class = refl

      held : (space : Space) → chunks_held space (without old.loaders name) ≡ chunks_held space old.loaders
      held space =
          ap (chunks_held space) split.gone ∙ chunks_joined space split.before split.after
          ∙ sym (ap (chunks_held space) split.is ∙ chunks_split space split.before split.after name (empty_loader was.0)
          ∙ ap (λ (l : List Chunk). chunks_held space split.before ++ (l ++ chunks_held space split.after))
          (no_chunks space))

      same : (seen : List (ℕ × LoaderState))
          → ((space : Space) → chunks_held space seen ≡ chunks_held space (without old.loaders name))
          → with_seen (recommitted mid) seen ≡ with_seen old seen
      same seen its =
          sym (recommitted_seen mid seen its) ∙ recommitted_seen old seen (λ space. its space ∙ held space)
          ∙ ap (λ (m : Machine). with_seen m seen) (recommitted_same old good)

-- Local events, as their steps go on.
use Rattle.std.proofs.Common.{◌≡◌, ℕ, true, Some, List, [], ◌∷◌, refl, sym, ◌∙◌, subst}
use Rattle.ms_base.specs.declared.step.Step.{Step}
use Rattle.ms_base.specs.declared.step.Reply.{Reply}
use Rattle.ms_base.specs.declared.step.Reply.TheVariants.{Refused}
use Rattle.ms_base.specs.declared.refusal.Refusal.{Refusal}
use Rattle.ms_base.specs.Names.{named, with_changed}
use Rattle.ms_base.specs.Request.{loader_of}
use Rattle.ms_base.specs.State.{LoaderState, Machine}
use Rattle.ms_base.specs.Good.{IsGood}
use Rattle.ms_base.specs.Transition.{HasLoader, with_loader, Transition}
use Rattle.ms_base.specs.Run.Event.{acting, replied, ActsNotCause}
use Rattle.ms_base.specs.Run.Spread.{SpreadStep, Part, AreWhole, IsOwnReply}
use Rattle.ms_base.specs.Run.Serial.{is_position}
use Rattle.ms_base.proofs.entries.EntryLemmas.{rises_with_changed}
use Rattle.ms_base.proofs.entries.LookupLemmas.{named_changed_same, named_changed_other}
use Rattle.ms_base.proofs.events.SeenEntryLemmas.{changed_back}
use Rattle.ms_base.proofs.events.EventCauseLemmas.{acts_not, leaves_same}
use Rattle.ms_base.proofs.events.StageLemmas.{Stage, idle, IsSeen, GoesBack, GoesOnBy}
use Rattle.ms_base.proofs.events.BackLemmas.{done_there, with_seen, steps_back}
use Rattle.ms_base.proofs.events.AllocEventLemmas.{IsPlain}
use Rattle.ms_base.proofs.events.AskLemmas.{same_step}

-- A local event that is refused is the whole step, or at its position: nothing changes.
pub acts_refused : (name : ℕ) (spread : SpreadStep) (stage : Stage) (old new : Machine) (step : Step)
    (refusal : Refusal) (more : List Part)
    → AreWhole more → IsPlain stage → spread.step ≡ step → spread.reply ≡ Refused refusal → loader_of step ≡ Some name
    → IsOwnReply (Refused refusal) → is_position spread.events (acting step, replied (Refused refusal)) ≡ true
    → ActsNotCause old step refusal × (new ≡ old)
    → GoesOnBy name stage old new (Some spread, acting step, replied (Refused refusal)) more
acts_refused name spread stage old new step refusal more whole plain step_is reply_is its own here none =
    subst (λ (one : Machine). GoesOnBy name stage old one (Some spread, acting step, replied (Refused refusal)) more)
    (sym none.1) (record {
      next = idle;
      was = tt;
      left = whole;
      back = λ seen seen_is. steps_back name stage old old seen seen _ step (Refused refusal)
          (done_there spread (acting step) (replied (Refused refusal)) here ∙ same_step spread step
          (Refused refusal) step_is reply_is)
          seen_is.rises (λ other differ. refl) (plain (named seen name) (named old.loaders name) seen_is.mine) (
            acts_not old (with_seen old seen) name seen_is.mine refl step refusal its own none.0,
            leaves_same
                (with_seen old seen) step refusal,
          );
    })

-- It is a step of the serial order's machine, whatever other loaders that has.
abbrev StepsThere : ℕ → Machine → Step → Reply → LoaderState → LoaderState → Type 0
StepsThere name old step reply before after =
    (seen : List (ℕ × LoaderState)) → named seen name ≡ Some after
    → HasLoader (with_seen old (with_changed seen name before)) name before → IsGood (with_seen old seen)
    → Transition (with_seen old (with_changed seen name before)) step reply
    (with_loader (with_seen old (with_changed seen name before)) name after)

-- A local event that is served changes its loader in both machines.
pub served_back : (name : ℕ) (stage : Stage) (old : Machine) (step : Step) (reply : Reply)
    (before after : LoaderState) → IsPlain stage → HasLoader old name before
    → StepsThere name old step reply before after
    → (seen : List (ℕ × LoaderState)) → IsSeen name idle (with_loader old name after) seen
    → (done : List (Step × Reply)) → done ≡ (step, reply) ∷ []
    → GoesBack name stage old (with_loader old name after) seen done
served_back name stage old step reply before after plain has transition seen its done one =
    steps_back name stage old (with_loader old name after) seen (with_changed seen name before) done step reply one
    (rises_with_changed seen name before its.rises)
    (λ other differ. named_changed_other seen name before other differ)
    (plain (named (with_changed seen name before) name) (named old.loaders name) (found ∙ sym has))
    (subst (λ (l : List (ℕ × LoaderState)). Transition (with_seen old (with_changed seen name before)) step reply
    (with_seen old l)) (changed_back seen name before after there)
    (transition seen there found its.good))
  where
    there : named seen name ≡ Some after
    there = its.mine ∙ named_changed_same old.loaders name before after has

    found : named (with_changed seen name before) name ≡ Some before
    found = named_changed_same seen name after before there

-- Write, Read and Free.
pub acts_on_block : (name : ℕ) (spread : SpreadStep) (old new : Machine) (step : Step) (reply : Reply)
    (more : List Part)
    → AreWhole more → spread.step ≡ step → spread.reply ≡ reply
    → is_position spread.events (acting step, replied reply) ≡ true → (before after : LoaderState)
    → HasLoader old name before → new ≡ with_loader old name after
    → ((m : Machine) → HasLoader m name before → IsGood (with_loader m name after)
    → Transition m step reply (with_loader m name after))
    → GoesOnBy name idle old new (Some spread, acting step, replied reply) more
acts_on_block name spread old new step reply more whole step_is reply_is here before after has is transition =
    subst (λ (one : Machine). GoesOnBy name idle old one (Some spread, acting step, replied reply) more) (sym is)
    (record {
      next = idle;
      was = tt;
      left = whole;
      back = λ seen its. served_back name idle old step reply before after (λ serial real e. e) has
          (λ l there found good. transition (with_seen old (with_changed l name before)) found
          (subst (λ (k : List (ℕ × LoaderState)). IsGood (with_seen old k))
          (sym (changed_back l name before after there)) good))
          seen its _
          (done_there spread (acting step) (replied reply) here ∙ same_step spread step reply step_is reply_is);
    })

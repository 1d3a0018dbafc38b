-- The serial order's machine before an event, from the one after it: what all events share.
use Rattle.std.proofs.Common.{◌≡◌, ℕ, Bool, true, false, Some, List, [], ◌∷◌, ◌++◌, refl, sym, ap, ◌∙◌, subst}
use Rattle.std.proofs.Common.{if◌then◌else◌}
use Rattle.ms_base.specs.declared.kind.Space.{Space}
use Rattle.ms_base.specs.declared.kind.Space.TheVariants.{NonClass, Class}
use Rattle.ms_base.specs.declared.span.Chunk.{Chunk}
use Rattle.ms_base.specs.declared.step.Step.{Step}
use Rattle.ms_base.specs.declared.step.Reply.{Reply}
use Rattle.ms_base.specs.Names.{AreNamed, named}
use Rattle.ms_base.specs.State.{LoaderState, Machine, PoolState, chunks_held, committed_now, pool_of, recommitted}
use Rattle.ms_base.specs.Run.{Run}
use Rattle.ms_base.specs.Transition.{Transition}
use Rattle.ms_base.specs.Run.Event.{Event, Answer}
use Rattle.ms_base.specs.Run.Spread.{SpreadStep}
use Rattle.ms_base.specs.Run.Serial.{is_position, done_by, steps_of, replies_of}
use Rattle.ms_base.proofs.events.StageLemmas.{Stage, Shows, GoesBack}

-- What counts as done at an event, by whether it has the step's position.
pub done_there : (spread : SpreadStep) (event : Event) (answer : Answer) → is_position spread.events (event, answer) ≡ true
    → done_by (Some spread) (event, answer) ≡ (spread.step, spread.reply) ∷ []
done_there spread event answer e = ap (λ (b : Bool). if b then (spread.step, spread.reply) ∷ [] else []) e

pub done_elsewhere : (spread : SpreadStep) (event : Event) (answer : Answer)
    → is_position spread.events (event, answer) ≡ false → done_by (Some spread) (event, answer) ≡ []
done_elsewhere spread event answer e = ap (λ (b : Bool). if b then (spread.step, spread.reply) ∷ [] else []) e

-- Loaders with the same chunks are one to the pool, and commit the same.
abbrev pub with_seen : Machine → List (ℕ × LoaderState) → Machine
with_seen m seen = record m { loaders = seen }

pub pool_seen : (space : Space) (m : Machine) (seen : List (ℕ × LoaderState))
    → chunks_held space seen ≡ chunks_held space m.loaders → pool_of space (with_seen m seen) ≡ pool_of space m
pool_seen space m seen held = ap (λ (l : List Chunk). record (pool_of space m) { held = l }) held

pub recommitted_seen : (m : Machine) (seen : List (ℕ × LoaderState))
    → ((space : Space) → chunks_held space seen ≡ chunks_held space m.loaders)
    → recommitted (with_seen m seen) ≡ with_seen (recommitted m) seen
recommitted_seen m seen held =
    ap (λ (pool : PoolState).
    record (with_seen m seen) {
      committed = committed_now pool;
      class_committed = committed_now (pool_of Class (with_seen m seen));
    })
    (pool_seen NonClass m seen (held NonClass))
    ∙ ap (λ (pool : PoolState). record (with_seen m seen) {
      committed = committed_now
          (pool_of NonClass m);
      class_committed = committed_now pool;
    }) (pool_seen Class m seen (held Class))

-- An event that has not its step's position leaves the serial order's machine.
pub goes_back : (name : ℕ) (stage : Stage) (old new : Machine) (seen : List (ℕ × LoaderState))
    (done : List (Step × Reply))
    → done ≡ [] → AreNamed seen → Shows stage (named seen name) (named old.loaders name)
    → with_seen new seen ≡ with_seen old seen → GoesBack name stage old new seen done
goes_back name stage old new seen done none rises mine same = record {
  loaders = seen;
  rises = rises;
  others = λ other differ. refl;
  mine = mine;
  run = λ later end run. subst (λ (l : List (Step × Reply)). Run (with_seen old seen) (steps_of (l ++ later))
      (replies_of (l ++ later)) end) (sym none)
      (subst (λ (m : Machine). Run m (steps_of later) (replies_of later) end) same run);
}

-- At the position of a step is that step of the serial order's machine.
pub steps_back : (name : ℕ) (stage : Stage) (old new : Machine) (seen loaders : List (ℕ × LoaderState))
    (done : List (Step × Reply)) (step : Step) (reply : Reply)
    → done ≡ (step, reply) ∷ [] → AreNamed loaders
    → ((other : ℕ) → (name ≡ other → ⊥) → named loaders other ≡ named seen other)
    → Shows stage (named loaders name) (named old.loaders name)
    → Transition (with_seen old loaders) step reply (with_seen new seen) → GoesBack name stage old new seen done
steps_back name stage old new seen loaders done step reply one rises others mine transition = record {
  loaders = loaders;
  rises = rises;
  others = others;
  mine = mine;
  run = λ later end run. subst (λ (l : List (Step × Reply)). Run (with_seen old loaders) (steps_of (l ++ later))
      (replies_of (l ++ later)) end) (sym one)
      (with_seen new seen, transition, run);
}

-- The local event of an allocation, as its step goes on, and those of Write, Read and Free.
use Rattle.std.proofs.Common.{◌≡◌, ℕ, Bool, true, false, Some, List, refl, sym, ap, ◌∙◌, subst, inl}
use Rattle.ms_base.specs.declared.kind.Space.{Space}
use Rattle.ms_base.specs.declared.kind.Space.TheVariants.{NonClass, Class}
use Rattle.ms_base.specs.declared.span.Chunk.{Chunk}
use Rattle.ms_base.specs.declared.step.Step.{Step}
use Rattle.ms_base.specs.declared.step.Reply.TheVariants.{At, Refused}
use Rattle.ms_base.specs.declared.refusal.Refusal.{Refusal}
use Rattle.ms_base.specs.declared.refusal.Refusal.TheVariants.{CommitLimit, ReserveLimit, OutOfMemory}
use Rattle.ms_base.specs.Names.{named, with_changed}
use Rattle.ms_base.specs.Request.{alloc_in, loader_of}
use Rattle.ms_base.specs.State.{LoaderState, Machine, slots_in, with_slots, recommitted}
use Rattle.ms_base.specs.Good.{IsSoundLoader, IsGood}
use Rattle.ms_base.specs.Transition.{HasLoader, with_loader, Change, Allocates, IsServable}
use Rattle.ms_base.specs.Run.Event.{growing, acting, replied, refused, Happens, PlacesBlock, ActsNotCause, IsSoundAfter, GrowsNone}
use Rattle.ms_base.specs.Run.Spread.{SpreadStep, Part, AreWhole}
use Rattle.ms_base.specs.Run.Serial.{is_position}
use Rattle.ms_base.proofs.entries.LookupLemmas.{named_changed_same}
use Rattle.ms_base.proofs.machine.ChangeLemmas.{unchanged_pools}
use Rattle.ms_base.proofs.events.SeenEntryLemmas.{changed_back}
use Rattle.ms_base.proofs.events.StageLemmas.{Stage, idle, turned_down, owes_block, owes_refusal, IsPassed, IsOnItsWay}
use Rattle.ms_base.proofs.events.StageLemmas.{GoesOnBy}
use Rattle.ms_base.proofs.events.BackLemmas.{done_there, done_elsewhere, with_seen, goes_back}
use Rattle.ms_base.proofs.events.AllocEventLemmas.{IsPlain, served_in}
use Rattle.ms_base.proofs.events.AskLemmas.{same_step}
use Rattle.ms_base.proofs.events.LocalLemmas.{served_back}

-- A growth that is refused changes nothing, and is at no step's position.
pub goes_on_turned : (space : Space) (name : ℕ) (spread : SpreadStep) (stage : Stage) → IsPlain stage
    → (old new : Machine) (at total : ℕ) (enlarges : Bool) (refusal : Refusal) (rest : List Part)
    → IsOnItsWay name spread rest
    → is_position spread.events (growing space name at total enlarges, refused refusal) ≡ false
    → GrowsNone old space name at total enlarges refusal new
    → GoesOnBy name stage old new (Some spread, growing space name at total enlarges, refused refusal) rest
goes_on_turned space name spread stage plain old new at total enlarges refusal rest on elsewhere none =
    subst (λ (one : Machine). GoesOnBy name stage old one
    (Some spread, growing space name at total enlarges, refused refusal) rest) (sym none.after) (record {
      next = turned_down spread;
      was = tt;
      left = on;
      back = λ seen its. goes_back name stage old old seen _
          (done_elsewhere spread (growing space name at total enlarges) (refused refusal) elsewhere)
          its.rises (plain (named seen name) (named old.loaders name) its.mine) refl;
    })

-- What the local event of an allocation says.
pub record HasAdded (old : Machine) (space : Space) (name block words start : ℕ) (new : Machine) : Type 0 where
  pub adds : PlacesBlock old space name block words start new
  pub sound : IsSoundLoader adds.with_it

has_added : (old : Machine) (space : Space) (name block words start : ℕ) (new : Machine) (step : Step)
    → loader_of step ≡ Some name → PlacesBlock old space name block words start new → IsSoundAfter new step
    → HasAdded old space name block words start new
has_added old space name block words start new step its adds sound = record {
  adds = adds;
  sound = sound name adds.with_it its (ap (λ (m : Machine). named m.loaders name) adds.after
      ∙ named_changed_same old.loaders name adds.before adds.with_it adds.has);
}

pub added_by : (space : Space) (old : Machine) (name block words start : ℕ) (new : Machine)
    → Happens old (acting (alloc_in space name block words)) (replied (At start)) new
    → HasAdded old space name block words start new
added_by NonClass old name block words start new does = has_added old NonClass name block words start new
    (alloc_in NonClass name block words) refl does.0 does.1
added_by Class old name block words start new does = has_added old Class name block words start new
    (alloc_in Class name block words) refl does.0 does.1

-- A block that is owed is there in the serial order already.
pub pays_block : (space : Space) (name block words start : ℕ) (spread : SpreadStep) (old new : Machine)
    (more : List Part)
    → AreWhole more → is_position spread.events (acting (alloc_in space name block words), replied (At start)) ≡ false
    → HasAdded old space name block words start new
    → GoesOnBy name (owes_block space block words start) old new
    (Some spread, acting (alloc_in space name block words), replied (At start)) more
pays_block space name block words start spread old new more whole elsewhere added =
    subst (λ (one : Machine). GoesOnBy name (owes_block space block words start) old one
    (Some spread, acting (alloc_in space name block words), replied (At start)) more) (sym adds.after) (record {
      next = idle;
      was = tt;
      left = whole;
      back = λ seen its. goes_back name (owes_block space block words start) old (with_loader old name adds.with_it)
          seen _
          (done_elsewhere spread (acting (alloc_in space name block words)) (replied (At start)) elsewhere) its.rises
          (record {
            before = adds.before;
            after = adds.with_it;
            real_is = adds.has;
            serial_is = its.mine ∙ named_changed_same old.loaders name adds.before adds.with_it adds.has;
            adds = adds.adds;
            some = adds.some;
            fits = adds.fits;
            sound = added.sound;
          }) refl;
    })
  where
    adds : PlacesBlock old space name block words start new
    adds = added.adds

-- A refusal that is owed is given there already.
servable_by : (space : Space) (m : Machine) (name block words : ℕ) (refusal : Refusal) → IsPassed refusal
    → ActsNotCause m (alloc_in space name block words) refusal → IsServable m name block words
servable_by NonClass m name block words (CommitLimit committed limit need) passed cause = cause
servable_by NonClass m name block words (ReserveLimit nodes limit) passed cause = cause
servable_by NonClass m name block words OutOfMemory passed cause = cause
servable_by Class m name block words (CommitLimit committed limit need) passed cause = cause
servable_by Class m name block words (ReserveLimit nodes limit) passed cause = cause
servable_by Class m name block words OutOfMemory passed cause = cause
servable_by space m name block words _ passed cause = absurd passed

pub pays_refusal : (space : Space) (name block words : ℕ) (refusal : Refusal) (spread : SpreadStep)
    (old new : Machine) (more : List Part)
    → AreWhole more → IsPassed refusal
    → is_position spread.events (acting (alloc_in space name block words), replied (Refused refusal)) ≡ false
    → ActsNotCause old (alloc_in space name block words) refusal × (new ≡ old)
    → GoesOnBy name (owes_refusal space block words refusal) old new
    (Some spread, acting (alloc_in space name block words), replied (Refused refusal)) more
pays_refusal space name block words refusal spread old new more whole passed elsewhere none =
    subst (λ (one : Machine). GoesOnBy name (owes_refusal space block words refusal) old one
    (Some spread, acting (alloc_in space name block words), replied (Refused refusal)) more) (sym none.1) (record {
      next = idle;
      was = tt;
      left = whole;
      back = λ seen its. goes_back name (owes_refusal space block words refusal) old old seen _
          (done_elsewhere spread (acting (alloc_in space name block words)) (replied (Refused refusal)) elsewhere)
          its.rises
          (record {
            loader = can.lacks.loader;
            real_is = can.lacks.loader_is;
            same = its.mine;
            unused = can.lacks.unused;
            some = can.some;
            fits = can.fits;
          }) refl;
    })
  where
    can : IsServable old name block words
    can = servable_by space old name block words refusal passed none.0

-- A block that is placed in chunks that the loader has.
pub goes_on_placed : (space : Space) (name block words start : ℕ) (spread : SpreadStep)
    → spread.step ≡ alloc_in space name block words → spread.reply ≡ At start → (stage : Stage) → IsPlain stage
    → (old new : Machine) (more : List Part) → AreWhole more
    → is_position spread.events (acting (alloc_in space name block words), replied (At start)) ≡ true
    → HasAdded old space name block words start new
    → GoesOnBy name stage old new (Some spread, acting (alloc_in space name block words), replied (At start)) more
goes_on_placed space name block words start spread step_is reply_is stage plain old new more whole here added =
    subst (λ (one : Machine). GoesOnBy name stage old one
    (Some spread, acting (alloc_in space name block words), replied (At start)) more)
    (sym adds.after) (record {
      next = idle;
      was = tt;
      left = whole;
      back = λ seen its. served_back name stage old (alloc_in space name block words)
          (At start) adds.before adds.with_it plain adds.has
          (λ l there found good. served_in space (serial l) name block words start
          (with_loader (serial l) name adds.with_it) (placed l found (still l there good))
          (still l there good)) seen its _
          (done_there spread (acting (alloc_in space name block words)) (replied (At start)) here ∙ same_step spread
          (alloc_in space name block words) (At start) step_is reply_is);
    })
  where
    adds : PlacesBlock old space name block words start new
    adds = added.adds

    serial : List (ℕ × LoaderState) → Machine
    serial l = with_seen old (with_changed l name adds.before)

    change : List Chunk → Change
    change chunks = record { chunks = chunks; slots = slots_in space old }

    still : (l : List (ℕ × LoaderState)) → named l name ≡ Some adds.with_it → IsGood (with_seen old l)
        → IsGood (with_loader (serial l) name adds.with_it)
    still l there good = subst (λ (k : List (ℕ × LoaderState)). IsGood (with_seen old k))
        (sym (changed_back l name adds.before adds.with_it there)) good

    placed : (l : List (ℕ × LoaderState)) → HasLoader (serial l) name adds.before
        → IsGood (with_loader (serial l) name adds.with_it)
        → Allocates (serial l) space name block words start (with_loader (serial l) name adds.with_it)
    placed l found good = record {
      some = adds.some;
      fits = adds.fits;
      before = adds.before;
      arena = adds.adds.arena;
      slots = slots_in space old;
      found = found;
      unused = adds.adds.unused;
      inside = adds.adds.inside;
      changes = inl (ap (λ (chunks : List Chunk). change chunks) adds.adds.chunks);
      after = sym (ap (λ (one : LoaderState). recommitted (with_slots space (with_loader (serial l) name one)
          (slots_in space (serial l)))) (sym adds.adds.after)
          ∙ unchanged_pools space (serial l) name adds.with_it good);
    }

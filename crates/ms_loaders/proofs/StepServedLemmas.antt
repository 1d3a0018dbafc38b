-- A step that is served over the pool itself is a transition of the machine, and pool and loaders
-- stay together. For system.rt.
use Rattle.std.proofs.Common.{◌≡◌, ◌≢◌, ◌<◌, ◌+◌, ℕ, suc, Some, List, ◌∷◌, Ok, Err, Result, length}
use Rattle.std.proofs.Common.{refl, sym, ap, ◌∙◌, subst, arith}
use Rattle.std.specs.Prelude.{OnOk, IfErr, ◌↔◌}
use Rattle.std.proofs.lemmas.List.{length-append}
use Rattle.ms_base.specs.declared.kind.Kind.{Kind}
use Rattle.ms_base.specs.declared.kind.Space.{Space}
use Rattle.ms_base.specs.declared.kind.Space.TheVariants.{NonClass, Class}
use Rattle.ms_base.specs.declared.refusal.Refusal.{Refusal}
use Rattle.ms_base.specs.declared.refusal.Refusal.TheVariants.{NoLoader, OutOfMemory}
use Rattle.ms_base.specs.declared.step.Step.{Step}
use Rattle.ms_base.specs.declared.step.Step.TheVariants.{New, Alloc, Calloc, Write, Read, Free, Unload, Purge}
use Rattle.ms_base.specs.declared.step.Reply.{Reply}
use Rattle.ms_base.specs.declared.step.Reply.TheVariants.{Ok as Done, At, Value, Refused}
use Rattle.ms_base.specs.Names.{named}
use Rattle.ms_base.specs.State.{Machine}
use Rattle.ms_base.specs.Transition.{Transition, LacksLoader}
use Rattle.ms_base.proofs.entries.EntryLemmas.{Split, split_at}
use Rattle.ms_pool.specs.Ledger.{Ledger, Serves, IsSoundLedger, opened_in}
use Rattle.ms_loader.specs.Loader.{LoaderView}
use Rattle.ms_loaders.specs.System.{AreTogether, HasNoValue}
use Rattle.ms_loaders.specs.Serving.{MayServe, Served}
use Rattle.ms_loaders.proofs.steps.StillTogetherLemmas.{own_served}
use Rattle.ms_loaders.proofs.steps.StepLemmas.{lacks_loader}
use Rattle.ms_loaders.proofs.steps.StepGoesLemmas.{pool_calls, Goes, stays, makes, not_made, allocates_at, allocates_none}
use Rattle.ms_loaders.proofs.steps.StepGoesLemmas.{writes, frees, reads, no_word_to_write, no_word_to_read}
use Rattle.ms_loaders.proofs.steps.StepGoesLemmas.{no_block_to_free, unloads, purges}

-- So each step goes.
pub served_goes : (old : Ledger) (loaders : List (ℕ × LoaderView)) (step : Step) (reply : Reply) (new : Ledger)
    (others : List (ℕ × LoaderView)) → AreTogether old loaders → IsSoundLedger new
    → Served pool_calls loaders step reply old others new
    → Goes old loaders step reply new others
served_goes old loaders (New name kind) Done new others its sound made =
    makes old loaders its name kind new others sound made
served_goes old loaders (New name kind) (Refused refusal) new others its sound made =
    subst (λ (l : List (ℕ × LoaderView)). Goes old loaders (New name kind) (Refused refusal) new l) (sym made.1)
    (not_made old loaders its name kind refusal new sound made.0)
served_goes old loaders (Alloc name block words) (At start) new others its sound made =
    allocates_at old loaders its NonClass name block words start new others sound made
served_goes old loaders (Alloc name block words) (Refused refusal) new others its sound made =
    allocates_none old loaders its NonClass name block words refusal new others sound made
served_goes old loaders (Calloc name block words) (At start) new others its sound made =
    allocates_at old loaders its Class name block words start new others sound made
served_goes old loaders (Calloc name block words) (Refused refusal) new others its sound made =
    allocates_none old loaders its Class name block words refusal new others sound made
served_goes old loaders (Write name block index value) Done new others its sound made =
    subst (λ (l : Ledger). Goes old loaders (Write name block index value) Done l others) (sym made.1)
    (writes old loaders its name block index value others made.0)
served_goes old loaders (Write name block index value) (Refused refusal) new others its sound made =
    subst (λ (l : Ledger). Goes old loaders (Write name block index value) (Refused refusal) l others) (sym made.1)
    (no_word_to_write old loaders its name block index value refusal others made.0)
served_goes old loaders (Read name block index) (Value value) new others its sound made =
    subst (λ (l : Ledger). Goes old loaders (Read name block index) (Value value) l others) (sym made.1)
    (reads old loaders its name block index value others made.0)
served_goes old loaders (Read name block index) (Refused refusal) new others its sound made =
    subst (λ (l : Ledger). Goes old loaders (Read name block index) (Refused refusal) l others) (sym made.1)
    (no_word_to_read old loaders its name block index refusal others made.0)
served_goes old loaders (Free name block) Done new others its sound made =
    subst (λ (l : Ledger). Goes old loaders (Free name block) Done l others) (sym made.1)
    (frees old loaders its name block others made.0)
served_goes old loaders (Free name block) (Refused refusal) new others its sound made =
    subst (λ (l : Ledger). Goes old loaders (Free name block) (Refused refusal) l others) (sym made.1)
    (no_block_to_free old loaders its name block refusal others made.0)
served_goes old loaders (Unload name) Done new others its sound made =
    unloads old loaders its name new others sound made
served_goes old loaders (Unload name) (Refused refusal) new others its sound made =
    subst (λ (r : Refusal). Goes old loaders (Unload name) (Refused r) new others) (sym made.0.refusal_is)
    (stays old loaders its (Unload name) (Refused NoLoader) new others made.1 made.0.same
    (lacks_loader old loaders name made.0.none, refl))
served_goes old loaders Purge Done new others its sound made =
    subst (λ (l : List (ℕ × LoaderView)). Goes old loaders Purge Done new l) (sym made.1)
    (purges old loaders its made.0.0 new sound made.0.1)
served_goes old loaders Purge (Refused refusal) new others its sound made = absurd made
served_goes old loaders (Write name block index value) _ new others its sound made = absurd made.0
served_goes old loaders (Read name block index) _ new others its sound made = absurd made.0
served_goes old loaders (Free name block) _ new others its sound made = absurd made.0
served_goes old loaders _ _ new others its sound made = absurd made

-- What a step asks of the pool: it serves each loader, and counts its accounts.
pub may_serve : (ledger : Ledger) (loaders : List (ℕ × LoaderView)) → AreTogether ledger loaders
    → MayServe Serves opened_in ledger loaders
may_serve ledger loaders its = record {
  served = λ name loader found space. own_served space ledger loaders name loader found its.served;
  counted = counted;
}
  where
    counted : (name : ℕ) (loader : LoaderView) → named loaders name ≡ Some loader → (space : Space)
        → 0 < opened_in ledger space
    counted name loader found space = go space
      where
        split : Split loaders name loader
        split = split_at loaders name loader found

        some : length loaders ≡ length split.before + suc (length split.after)
        some = ap length split.is ∙ length-append split.before ((name, loader) ∷ split.after)

        go : (space : Space) → 0 < opened_in ledger space
        go NonClass = omega (arith, its.served.opened, some)
        go Class = omega (arith, its.served.class_opened, some)

-- A step whose reply has no value is done or refused.
pub is_done : (old new : Machine) (step : Step) (reply : Reply) → HasNoValue step
    → ((refusal : Refusal) → reply ≢ Refused refusal)
    → Transition old step reply new → Transition old step Done new
is_done old new step Done plain served goes = goes
is_done old new step (Refused refusal) plain served goes = absurd (served refusal refl)
is_done old new (New name kind) (At start) plain served goes = absurd goes.0
is_done old new (Alloc name block words) (At start) plain served goes = absurd plain
is_done old new (Calloc name block words) (At start) plain served goes = absurd plain
is_done old new (Write name block index value) (At start) plain served goes = absurd goes.0
is_done old new (Read name block index) (At start) plain served goes = absurd plain
is_done old new (Free name block) (At start) plain served goes = absurd goes.0
is_done old new (Unload name) (At start) plain served goes = absurd goes.0
is_done old new Purge (At start) plain served goes = absurd goes.0
is_done old new (New name kind) (Value word) plain served goes = absurd goes.0
is_done old new (Alloc name block words) (Value word) plain served goes = absurd plain
is_done old new (Calloc name block words) (Value word) plain served goes = absurd plain
is_done old new (Write name block index value) (Value word) plain served goes = absurd goes.0
is_done old new (Read name block index) (Value word) plain served goes = absurd plain
is_done old new (Free name block) (Value word) plain served goes = absurd goes.0
is_done old new (Unload name) (Value word) plain served goes = absurd goes.0
is_done old new Purge (Value word) plain served goes = absurd goes.0

-- A New that is refused changes nothing, but for want of memory; and only a name that no loader has
-- isn't unloaded.
pub new_leaves : (old new : Machine) (name : ℕ) (kind : Kind) (refusal : Refusal)
    → Transition old (New name kind) (Refused refusal) new → refusal ≢ OutOfMemory → new ≡ old
new_leaves old new name kind OutOfMemory goes other = absurd (other refl)
new_leaves old new name kind _ goes other = goes.1

pub unload_tells : {X : Type 0} (old new : Machine) (name : ℕ) (result : Result X Refusal)
    → OnOk result (Transition old (Unload name) Done new)
    → IfErr result (λ refusal. Transition old (Unload name) (Refused refusal) new)
    → (result ≡ Err NoLoader) ↔ LacksLoader old name
unload_tells old new name (Ok x) done refused =
    ((λ e. absurd (cc)), λ lacks. absurd (let has = done.0.has in cc))
unload_tells old new name (Err NoLoader) done refused = ((λ e. refused.0), λ lacks. refl)
unload_tells old new name (Err _) done refused = absurd refused.0

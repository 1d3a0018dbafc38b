-- A worker's allocation is a transition of the machine of the pool and all loaders. For the run of
-- the machine that an order of steps is.
use Rattle.std.proofs.Common.{◌≡◌, ℕ, Option, Some, None, Result, Ok, Err, List, refl, sym, ap, ◌∙◌, subst}
use Rattle.std.proofs.lemmas.Option.{same_Some}
use Rattle.ms_base.specs.declared.kind.Space.{Space}
use Rattle.ms_base.specs.declared.span.Block.{Block}
use Rattle.ms_base.specs.declared.step.Reply.TheVariants.{At, Refused}
use Rattle.ms_base.specs.declared.refusal.Refusal.{Refusal}
use Rattle.ms_base.specs.declared.refusal.Refusal.TheVariants.{NoLoader}
use Rattle.ms_base.specs.Names.{named, with_changed}
use Rattle.ms_base.specs.Request.{loader_of, alloc_in}
use Rattle.ms_base.specs.Transition.{Transition}
use Rattle.ms_base.proofs.entries.LookupLemmas.{named_changed_same, named_changed_other}
use Rattle.ms_pool.specs.Ledger.{Ledger, IsSoundLedger}
use Rattle.ms_pool.specs.Calls.{Took}
use Rattle.ms_loader.specs.Loader.{LoaderView, IsSoundView, AllocatesBlock}
use Rattle.ms_loaders.specs.System.{machine_of}
use Rattle.ms_loaders.proofs.steps.CauseLemmas.{alloc_finds_none}
use Rattle.ms_shared.specs.History.{Event}
use Rattle.ms_run.specs.Acts.{AsksOf, Asks, IsAllocation, GrewSeen, start_of}
use Rattle.ms_run.proofs.machine.FilledLemmas.{AreWhole}
use Rattle.ms_run.proofs.machine.AllocFilledLemmas.{alloc_serves, alloc_refuses}
use Rattle.ms_run.proofs.machine.GoesLemmas.{GoesTo, goes_to}

-- The loaders before and after, where they are there.
pub record AreThere (old new : Option LoaderView) (space : Space) (name words : ℕ) (answer : Result ℕ Refusal)
    (events : List Event) : Type 0 where
  pub was : LoaderView
  pub is : LoaderView
  pub found : old ≡ Some was
  pub left : new ≡ Some is
  pub asks : Asks space was is name words answer events

pub there : (old new : Option LoaderView) (space : Space) (name words : ℕ) (answer : Result ℕ Refusal)
    (events : List Event) (is : LoaderView) → new ≡ Some is → AsksOf old new space name words answer events
    → AreThere old new space name words answer events
there (Some was) (Some other) space name words answer events is left its =
    record { was = was; is = other; found = refl; left = refl; asks = its }
there None (Some other) space name words answer events is left its = absurd its
there old None space name words answer events is left its = absurd (cc)

answered : (start : ℕ) (made : Result Block Refusal) → Ok start ≡ start_of made
    → (block : Block) × (made ≡ Ok block) × (start ≡ block.start)
answered start (Ok block) e = (block, refl, (let same : start ≡ block.start = cc in same))
answered start (Err refusal) e = absurd (cc)

refused_by : (refusal : Refusal) (made : Result Block Refusal) → Err refusal ≡ start_of made → made ≡ Err refusal
refused_by refusal (Ok block) e = absurd (cc)
refused_by refusal (Err other) e = let same : refusal ≡ other = cc in ap (λ (r : Refusal). Err r) (sym same)

module _ (space : Space) (old new : Ledger)
    (all team later : List (ℕ × LoaderView)) (name block words : ℕ)
    (names : loader_of (alloc_in space name block words) ≡ Some name) (same : named all name ≡ named team name)
    (whole : AreWhole old all) (sound : IsSoundLedger new) where
  pub alloc_at : (start : ℕ) (was is sound_one : LoaderView) → named team name ≡ Some was → named later name ≡ Some is
      → named later name ≡ Some sound_one → IsSoundView sound_one
      → IsAllocation space was is block words (Ok start) old new
      → GoesTo old all (alloc_in space name block words) (At start) new later
  alloc_at start was is sound_one found left one one_sound its =
      let made = answered start its.made its.answer_is in
      let is_sound = subst IsSoundView (same_Some sound_one is (sym one ∙ left)) one_sound in
      let both = alloc_serves space old new all name block words was is (same ∙ found) sound whole made.0
      (subst (λ (a : Result Block Refusal). AllocatesBlock GrewSeen Took old.limits.policy space was block words old a
      is new) made.1 its.allocates) is_sound in
      goes_to old all (alloc_in space name block words) (At start) new later (with_changed all name is) name names both.0
      (subst (λ (n : ℕ). Transition (machine_of old all) (alloc_in space name block words) (At n)
      (machine_of new (with_changed all name is))) (sym made.2) both.1)
      (named_changed_same all name was is (same ∙ found) ∙ sym left)
      (λ other differ. named_changed_other all name is other differ)

  pub alloc_refused : (refusal : Refusal) (was is : LoaderView) → later ≡ team → named team name ≡ Some was
      → IsAllocation space was is block words (Err refusal) old new
      → GoesTo old all (alloc_in space name block words) (Refused refusal) new later
  alloc_refused refusal was is unchanged found its =
      let both = alloc_refuses space old new all name block words was is (same ∙ found) sound whole refusal
      (subst (λ (a : Result Block Refusal). AllocatesBlock GrewSeen Took old.limits.policy space was block words old a
      is new) (refused_by refusal its.made its.answer_is) its.allocates) in
      goes_to old all (alloc_in space name block words) (Refused refusal) new later all name names both.0 both.1
      (same ∙ ap (λ (l : List (ℕ × LoaderView)). named l name) (sym unchanged)) (λ other differ. refl)

  pub alloc_none : (refusal : Refusal) → later ≡ team → named team name ≡ None → refusal ≡ NoLoader → new ≡ old
      → GoesTo old all (alloc_in space name block words) (Refused refusal) new later
  alloc_none refusal unchanged none is still =
      goes_to old all (alloc_in space name block words) (Refused refusal) new later all name names
      (subst (λ (l : Ledger). AreWhole l all) (sym still) whole)
      (subst (λ (l : Ledger). Transition (machine_of old all) (alloc_in space name block words) (Refused refusal)
      (machine_of l all)) (sym still)
      (subst (λ (r : Refusal). Transition (machine_of old all) (alloc_in space name block words) (Refused r)
      (machine_of old all)) (sym is) (alloc_finds_none space old all name block words (same ∙ none))))
      (same ∙ ap (λ (l : List (ℕ × LoaderView)). named l name) (sym unchanged)) (λ other differ. refl)

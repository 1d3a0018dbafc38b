-- An order of workers' steps, which is a run of the whole, is a run of the machine of the pool and
-- all loaders. Used for a phase.
use Rattle.std.proofs.Common.{◌≡◌, ◌≢◌, ◌<◌, ◌==◌, ℕ, Bool, true, false, cond, Option, Some, None, option_map, List, [], ◌∷◌, map, length}
use Rattle.std.proofs.Common.{length-set, get_or-set_same, eq-eqb, refl, sym, ap, ◌∙◌, subst, arith}
use Rattle.std.specs.Prelude.{⊤, slice_index_or, slice_set}
use Rattle.std.specs.List.{AllByRecursion, filter}
use Rattle.std.specs.List.Sorted.{IsPermutation}
use Rattle.std.proofs.lemmas.Bool.{eqb-true}
use Rattle.std.proofs.lemmas.List.{get_or-set_other}
use Rattle.std.proofs.lemmas.List.Elements.{recursion_from_All, All-from_recursion}
use native.Mathlib.Decide.{ℕ_discrete}
use Rattle.ms_base.specs.declared.step.Step.{Step}
use Rattle.ms_base.specs.declared.step.Reply.{Reply}
use Rattle.ms_base.specs.Names.{named, AreNamed}
use Rattle.ms_base.specs.Request.{loader_of}
use Rattle.ms_base.specs.State.{LoaderState}
use Rattle.ms_base.specs.Transition.{Transition}
use Rattle.ms_base.specs.Run.{Run}
use Rattle.ms_base.proofs.events.SeenEntryLemmas.{same_entries}
use Rattle.ms_pool.specs.Ledger.{Ledger, Serves}
use Rattle.ms_loader.specs.Loader.{LoaderView}
use Rattle.ms_loaders.specs.System.{states_of, machine_of, accounts_of, AreTogether}
use Rattle.ms_loaders.proofs.steps.CloseLemmas.{served_with}
use Rattle.ms_loader.proofs.MappedLemmas.{named-mapped, rises-mapped}
use Rattle.ms_loaders.proofs.events.OpenCallLemmas.{new_is_sound}
use Rattle.ms_shared.specs.Weaving.{where_so, without_numbers, of, Steps, Runs}
use Rattle.ms_base.specs.Run.Own.{Said}
use Rattle.ms_run.specs.Acts.{seen, IsStep}
use Rattle.ms_run.specs.Shares.{Position, AreAt, AreWithin}
use Rattle.ms_run.specs.Replay.{IsOneRun}
use Rattle.ms_run.proofs.machine.FilledLemmas.{filled, filled_sound, AreWhole}
use Rattle.ms_run.proofs.machine.GoesLemmas.{GoesTo}
use Rattle.ms_run.proofs.machine.StepGoesLemmas.{step_goes}
use Rattle.ms_run.proofs.machine.PartsLemmas.{same_elements}
use Rattle.ms_run.proofs.machine.KeptLemmas.{kept_by_worker, kept_all}

-- All loaders, of which each worker has those of its position, and the pool are together.
pub record IsWhole (position : Position) (view : Ledger) (teams : List (List (ℕ × LoaderView))) : Type 0 where
  pub all : List (ℕ × LoaderView)
  pub whole : AreWhole view all
  pub parts : (at : ℕ) → at < length teams → AreAt position at all (slice_index_or teams at [])

names_it : (wanted : Option ℕ) (name : ℕ) → Dec (wanted ≡ Some name)
names_it None name = no (λ e. absurd (cc))
names_it (Some other) name = elim (ℕ_discrete other name) [
  | yes same ↦ yes (ap (λ (n : ℕ). Some n) same)
  | no differ ↦ no (λ e. differ (let same : other ≡ name = cc in same))
]

module _ (position : Position) (view after : Ledger) (step : Step) (reply : Reply) (all team new : List (ℕ × LoaderView))
    (worker : ℕ) (placed : position (loader_of step) ≡ worker) (part : AreAt position worker all team)
    (its : IsStep view team (step, reply) after new) (goes : GoesTo view all step reply after new) where
  away_from : (name : ℕ) → position (Some name) ≢ worker → loader_of step ≢ Some name
  away_from name away e = away (ap position (sym e) ∙ placed)

  part_here : AreAt position worker goes.now new
  part_here = record {
    here = λ name there. elim (names_it (loader_of step) name) [
      | yes e ↦ sym (goes.here name e)
      | no other ↦ its.loaders.others name other ∙ part.here name there ∙ sym (goes.others name other)
    ];
    apart = λ name away. its.loaders.others name (away_from name away) ∙ part.apart name away;
  }

  part_there : (at : ℕ) (others : List (ℕ × LoaderView)) → at ≢ worker → AreAt position at all others
      → AreAt position at goes.now others
  part_there at others differ were = record {
    here = λ name there. were.here name there
        ∙ sym (goes.others name (away_from name (λ e. differ (sym there ∙ e))));
    apart = were.apart;
  }

module _ (position : Position) where
  -- One step.
  record StepsWhole (old : Ledger × List (List (ℕ × LoaderView))) (said : Said)
      (new : Ledger × List (List (ℕ × LoaderView))) (all : List (ℕ × LoaderView)) : Type 0 where
    after : IsWhole position new.0 new.1
    goes : Transition (machine_of old.0 all) said.0 said.1 (machine_of new.0 after.all)
    count : length new.1 ≡ length old.1

  one_step : (old : Ledger × List (List (ℕ × LoaderView))) (worker : ℕ) (said : Said)
      (new : Ledger × List (List (ℕ × LoaderView))) → Steps IsStep [] old worker said new
      → position (loader_of said.0) ≡ worker → (its : IsWhole position old.0 old.1) → StepsWhole old said new its.all
  one_step old worker said new steps placed its =
      let part = its.parts worker steps.there in
      let goes = step_goes new_is_sound its.all (slice_index_or old.1 worker []) steps.after old.0 new.0
      said.0 said.1 its.whole
      (λ name e. sym (part.here name (ap position (sym e) ∙ placed))) steps.step_is in
      record {
        after = record {
          all = goes.now;
          whole = goes.whole;
          parts = λ at less. subst (λ (l : List (List (ℕ × LoaderView))). AreAt position at goes.now (slice_index_or l at []))
              (sym steps.teams) (elim (ℕ_discrete at worker) [
                | yes same ↦ subst (λ (k : ℕ). AreAt position k goes.now (slice_index_or (slice_set old.1 worker steps.after) k []))
                    (sym same) (subst (λ (l : List (ℕ × LoaderView)). AreAt position worker goes.now l)
                    (sym (get_or-set_same old.1 worker steps.after [] steps.there))
                    (part_here position old.0 new.0 said.0 said.1 its.all (slice_index_or old.1 worker []) steps.after worker
                    placed part steps.step_is goes))
                | no differ ↦ subst (λ (l : List (ℕ × LoaderView)). AreAt position at goes.now l)
                    (sym (get_or-set_other old.1 worker at steps.after [] differ))
                    (part_there position old.0 new.0 said.0 said.1 its.all (slice_index_or old.1 worker []) steps.after worker
                    placed part steps.step_is goes at (slice_index_or old.1 at []) differ
                    (its.parts at (rw (ap length steps.teams ∙ length-set old.1 worker steps.after) at less)))
              ]);
        };
        goes = goes.goes;
        count = ap length steps.teams ∙ length-set old.1 worker steps.after;
      }

  -- Each step of an order is of the worker of its position.
  AreAtPositions : List (ℕ × Said) → Type 0
  AreAtPositions [] = ⊤
  AreAtPositions (one ∷ order) = (position (loader_of one.1.0) ≡ one.0) × AreAtPositions order

  -- The steps of an order, one after another.
  record RunsWhole (old : Ledger × List (List (ℕ × LoaderView))) (order : List (ℕ × Said))
      (new : Ledger × List (List (ℕ × LoaderView))) (all : List (ℕ × LoaderView)) : Type 0 where
    after : IsWhole position new.0 new.1
    run : Run (machine_of old.0 all) (map (λ (s : Said). s.0) (without_numbers order))
        (map (λ (s : Said). s.1) (without_numbers order)) (machine_of new.0 after.all)
    count : length new.1 ≡ length old.1

  runs_whole : (old : Ledger × List (List (ℕ × LoaderView))) (order : List (ℕ × Said))
      (new : Ledger × List (List (ℕ × LoaderView))) → AreAtPositions order → Runs IsStep [] old order new
      → (its : IsWhole position old.0 old.1) → RunsWhole old order new its.all
  unfolding AreAtPositions
  runs_whole old [] new placed runs its =
      subst (λ (state : Ledger × List (List (ℕ × LoaderView))). RunsWhole old [] state its.all) (sym runs)
      (record { after = its; run = refl; count = refl })
  runs_whole old (one ∷ order) new placed runs its =
      let first = one_step old one.0 one.1 runs.0 runs.1 placed.0 its in
      let rest = runs_whole runs.0 order new placed.1 runs.2 first.after in
      record {
        after = rest.after;
        run = (machine_of runs.0.0 first.after.all, first.goes, rest.run);
        count = rest.count ∙ first.count;
      }

  passes : (at : ℕ) (said : List Said) → AllByRecursion (λ (s : Said). position (loader_of s.0) ≡ at)
      (filter (λ (s : Said). position (loader_of s.0) == at) said)
  passes at [] = tt
  passes at (s ∷ said) = elim (position (loader_of s.0) == at) as (λ b. (position (loader_of s.0) == at) ≡ b
      → AllByRecursion (λ (s : Said). position (loader_of s.0) ≡ at)
      (cond b (s ∷ filter (λ (s : Said). position (loader_of s.0) == at) said)
      (filter (λ (s : Said). position (loader_of s.0) == at) said))) [
        | true ↦ λ is. (eqb-true (position (loader_of s.0)) at is, passes at said)
        | false ↦ λ is. passes at said
      ] refl

  of_rest : (P : Said → Type 0) (b : Bool) (s : Said) (rest : List Said) → AllByRecursion P (where_so b s rest)
      → AllByRecursion P rest
  of_rest P true s rest all = all.1
  of_rest P false s rest all = all

  of_first : (P : Said → Type 0) (b : Bool) (s : Said) (rest : List Said) → b ≡ true
      → AllByRecursion P (where_so b s rest) → P s
  of_first P true s rest is all = all.0
  of_first P false s rest is all = absurd (cc)

  at_all_positions : (n : ℕ) (old : Ledger × List (List (ℕ × LoaderView))) (order : List (ℕ × Said))
      (new : Ledger × List (List (ℕ × LoaderView))) → length old.1 ≡ n → Runs IsStep [] old order new
      → ((at : ℕ) → at < n → AllByRecursion (λ (s : Said). position (loader_of s.0) ≡ at) (of at order))
      → AreAtPositions order
  unfolding AreAtPositions
  at_all_positions n old [] new count runs at_position = tt
  at_all_positions n old (one ∷ order) new count runs at_position = (
    of_first (λ (s : Said). position (loader_of s.0) ≡ one.0) (one.0 == one.0) one.1 (of one.0 order)
        (eq-eqb one.0 one.0 refl) (at_position one.0 (subst (λ (k : ℕ). one.0 < k) count runs.1.there)),
    at_all_positions n runs.0 order new
        (ap length runs.1.teams ∙ length-set old.1 one.0 runs.1.after ∙ count) runs.2
        (λ at less. of_rest (λ (s : Said). position (loader_of s.0) ≡ at) (one.0 == at) one.1 (of at order)
        (at_position at less)),
  )

  same_where : (b : Bool) (s : Said) (xs ys : List Said) → xs ≡ ys → cond b (s ∷ xs) xs ≡ where_so b s ys
  same_where true s xs ys e = ap (λ (l : List Said). s ∷ l) e
  same_where false s xs ys e = e

  -- So the steps of a position, in the order, are those that were said there.
  kept_there : (at : ℕ) (order : List (ℕ × Said)) → AreAtPositions order
      → filter (λ (s : Said). position (loader_of s.0) == at) (without_numbers order) ≡ of at order
  unfolding AreAtPositions
  kept_there at [] placed = refl
  kept_there at (one ∷ order) placed =
      rw placed.0 (same_where (one.0 == at) one.1 _ _ (kept_there at order placed.1))

-- A pool and loaders that are together are so whatever was counted.
whole_at_first : (pool : Ledger) (loaders : List (ℕ × LoaderView)) → AreTogether pool loaders → AreWhole (seen pool) loaders
whole_at_first pool loaders its = record {
  ledger_sound = filled_sound (length loaders) pool
      (omega (arith, its.ledger_sound.opened, its.served.opened, its.served.class_opened)) its.ledger_sound;
  loaders_sound = its.loaders_sound;
  names = its.names;
  served = record {
    served = All-from_recursion (Serves (filled (length loaders) pool)) (accounts_of loaders)
        (served_with pool (filled (length loaders) pool) refl (omega arith) (accounts_of loaders)
        (recursion_from_All (Serves pool) (accounts_of loaders) its.served.served));
    distinct = its.served.distinct;
    no_other = its.served.no_other;
    opened = refl;
    class_opened = refl;
  };
}

abbrev state_of : LoaderView → LoaderState
state_of loader = loader.state

-- Loaders whose parts are the same at each position are the same.
same_states : (position : Position) (count : ℕ) (parts : List (List (ℕ × LoaderView))) (all ending : List (ℕ × LoaderView))
    → AreWithin position count → ((at : ℕ) → at < count → AreAt position at all (slice_index_or parts at []))
    → ((at : ℕ) → at < count → AreAt position at ending (slice_index_or parts at []))
    → AreNamed all → AreNamed (states_of ending) → states_of all ≡ states_of ending
same_states position count parts all ending within here there rises ends =
    same_entries (states_of all) (states_of ending) (rises-mapped state_of all rises) ends (λ name.
    named-mapped state_of all name
    ∙ ap (λ (o : Option LoaderView). option_map state_of o) (same name)
    ∙ sym (named-mapped state_of ending name))
  where
    same : (name : ℕ) → named all name ≡ named ending name
    same name = sym ((here (position (Some name)) (within (Some name))).here name refl)
        ∙ (there (position (Some name)) (within (Some name))).here name refl

-- An order of steps of workers, from a pool and loaders that are together to others, is one run of
-- the machine, in which each worker's keep theirs, where all of a worker's are at one position.
module _ (position : Position) (first last : Ledger)
    (before after : List (List (ℕ × LoaderView))) (loaders ending : List (ℕ × LoaderView)) (said : List Said)
    (order : List (ℕ × Said)) (worker : Option ℕ → ℕ) (share : ℕ → ℕ) where
  pub one_run : AreTogether first loaders → AreWithin position (length before)
      → ((at : ℕ) → at < length before → AreAt position at loaders (slice_index_or before at []))
      → ((at : ℕ) → at < length before → AreAt position at ending (slice_index_or after at []))
      → Runs IsStep [] (seen first, before) order (seen last, after)
      → ((at : ℕ) → at < length before → of at order ≡ filter (λ (s : Said). position (loader_of s.0) == at) said)
      → AreNamed (states_of ending)
      → AllByRecursion (λ (s : Said). position (loader_of s.0) ≡ share (worker (loader_of s.0))) said
      → IsOneRun worker (machine_of first loaders) said (machine_of last ending)
  one_run together within begins ends runs keeps names shared =
      let placed = at_all_positions position (length before) (seen first, before) order (seen last, after) refl runs
      (λ at less. subst (λ (l : List Said). AllByRecursion (λ (s : Said). position (loader_of s.0) ≡ at) l)
      (sym (keeps at less)) (passes position at said)) in
      let whole = runs_whole position (seen first, before) order (seen last, after) placed runs
      (record { all = loaders; whole = whole_at_first first loaders together; parts = begins }) in
      let permutes : IsPermutation (without_numbers order) said =
      same_elements (λ (s : Said). position (loader_of s.0)) (length before) (λ s. within (loader_of s.0))
      (without_numbers order) said (λ at less. kept_there position at order placed ∙ keeps at less) in
      record {
        order = without_numbers order;
        permutes = permutes;
        keeps =
            kept_by_worker (λ (s : Said). position (loader_of s.0)) (λ (s : Said). worker (loader_of s.0)) share
            (without_numbers order) said permutes shared
            (kept_all (λ (s : Said). position (loader_of s.0)) (length before) (without_numbers order) said
            (λ s. within (loader_of s.0)) (λ at less. kept_there position at order placed ∙ keeps at less));
        run = subst (λ (l : List (ℕ × LoaderState)). Run (machine_of first loaders)
            (map (λ (s : Said). s.0) (without_numbers order)) (map (λ (s : Said). s.1) (without_numbers order))
            (record (machine_of last loaders) { loaders = l }))
            (same_states position (length before) after whole.after.all ending within
            (λ at less. whole.after.parts at (subst (λ (k : ℕ). at < k) (sym whole.count) less)) ends
            whole.after.whole.names names)
            whole.run;
      }

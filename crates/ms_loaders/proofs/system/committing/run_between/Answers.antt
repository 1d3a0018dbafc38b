use Rattle.std.proofs.Common.{◌≡◌, ◌+◌, ◌-◌, ◌/◌, ℕ, ap, ◌∙◌}
use Rattle.std.proofs.lemmas.Bool.{eq-eqb, ne_eqb}
use Rattle.ms_loaders.specs.Committing.{first_past, front_before, run_of}
use Rattle.ms_loaders.specs.declared.system.committing.Edge.{Edge}
use Rattle.ms_loaders.specs.declared.system.committing.GranuleRun.{GranuleRun}
use Rattle.ms_loaders.proofs.system.committing.run_between.Goals as goal
use Rattle.ms_loaders.proofs.system.committing.run_between.Goals.{then-front-eq0, else-front-eq0}
use Rattle.ms_loaders.proofs.system.committing.run_between.Goals.{then-now-before, else-now-before}

-- How far the same chunk was committed, and a new one.
same_chunk : (before now : Edge) (front : ℕ) → now.held ≡ before.held → front ≡ before.front
    → front ≡ front_before before now
same_chunk before now front same is = rw (eq-eqb now.held before.held same) is

new_chunk : (before now : Edge) (front : ℕ) → (now.held ≡ before.held → ⊥) → front ≡ 0
    → front ≡ front_before before now
new_chunk before now front other is = rw (ne_eqb now.held before.held other) is

-- Where the run begins.
from_start : (granule start front first : ℕ) → front ≡ 0 → first ≡ start / granule
    → first ≡ first_past granule start front
from_start granule start front first none is = rw (eq-eqb front 0 none) is

from_front : (granule start front first : ℕ) → (front ≡ 0 → ⊥) → first ≡ (start + front - 1) / granule + 1
    → first ≡ first_past granule start front
from_front granule start front first some is = rw (ne_eqb front 0 some) is

-- It ends with the front's last granule.
run_is : (granule before start front came first granules : ℕ) → (came ≡ 0 → ⊥) → first ≡ first_past granule start before
    → granules ≡ (start + front - 1) / granule + 1 - first
    → ◌≡◌ {A = GranuleRun} (record { first = first; granules = granules; came = came })
    (run_of granule before start front came)
run_is granule before start front came first granules some begins ends = rw (ne_eqb came 0 some) (λ i. record {
  first = begins i;
  granules = (ends ∙ ap (λ (n : ℕ). (start + front - 1) / granule + 1 - n) begins) i;
  came = came;
})

pub returns : goal.returns
returns c =
    let before : c.if-now-before.front ≡ front_before c.args.before c.args.now = elim c.if-now-before.branch [
      | then-now-before w ↦ same_chunk c.args.before c.args.now _ w.if-now-before.true w.front-is
      | else-now-before w ↦ new_chunk c.args.before c.args.now _ w.if-now-before.false w.front-is
    ] in
    let begins : c.if-front-eq0.first ≡ first_past c.args.granule c.args.now.start c.if-now-before.front =
    elim c.if-front-eq0.branch [
      | then-front-eq0 w ↦ from_start c.args.granule c.args.now.start _ _ w.if-front-eq0.true w.first-is
      | else-front-eq0 w ↦ from_front c.args.granule c.args.now.start _ _ w.if-front-eq0.false w.first-is
    ] in
    run_is c.args.granule (front_before c.args.before c.args.now) c.args.now.start c.args.now.front c.args.came _ _
    c.if-came-eq0.false (begins ∙ ap (first_past c.args.granule c.args.now.start) before)
    (c.saturating_sub-2.ensures ∙ ap (λ (n : ℕ). n / c.args.granule + 1 - c.if-front-eq0.first) c.saturating_sub.ensures)

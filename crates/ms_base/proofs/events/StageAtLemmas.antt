-- The stage of each loader by name, where one loader's is another.
use Rattle.std.proofs.Common.{◌≡◌, ℕ, Bool, false, cond, Option, Some, List, [], ◌∷◌, map, refl, sym, ap}
use Rattle.std.proofs.Common.{◌∙◌}
use Rattle.std.specs.Prelude.{◌==◌}
use Rattle.std.specs.List.{filter}
use Rattle.std.proofs.lemmas.Bool.{eq-eqb, false_from_ne_true, eqb-true}
use Rattle.ms_base.specs.Request.{is_name}
use Rattle.ms_base.specs.State.{LoaderState}
use Rattle.ms_base.specs.Run.Event.{loader_of_event}
use Rattle.ms_base.specs.Run.Spread.{Moment, part_of, parts_by}
use Rattle.ms_base.proofs.events.StageLemmas.{Stage, idle, turned_down, owes_block, owes_refusal, unloading, retracting}
use Rattle.ms_base.proofs.events.StageLemmas.{Shows, Left}

-- Nothing is owed at the end.
pub nothing_left : (name : ℕ) (stage : Stage) (o : Option LoaderState) → Left name stage [] → Shows stage o o
nothing_left name idle o left = refl
nothing_left name (turned_down spread) o left = refl
nothing_left name (owes_block space block words start) o left = let e = left.parts_are in absurd (cc)
nothing_left name (owes_refusal space block words refusal) o left = let e = left.parts_are in absurd (cc)
nothing_left name (unloading loader) o left = let e = left.parts_are in absurd (cc)
nothing_left name retracting o left = let e = left.2.parts_are in absurd (cc)

-- The events of a name after a moment.
pub mine_first : (name : ℕ) (moment : Moment) (moments : List Moment) → loader_of_event moment.event ≡ Some name
    → parts_by name (moment ∷ moments) ≡ part_of moment ∷ parts_by name moments
mine_first name moment moments is =
    ap (λ (b : Bool). map part_of (cond b (moment ∷ of_name) of_name)) (ap (is_name name) is ∙ eq-eqb name name refl)
  where
    of_name : List Moment
    of_name = filter (λ (one : Moment). is_name name (loader_of_event one.event)) moments

pub other_first : (name : ℕ) (moment : Moment) (moments : List Moment) → is_name name (loader_of_event moment.event) ≡ false
    → parts_by name (moment ∷ moments) ≡ parts_by name moments
other_first name moment moments is = ap (λ (b : Bool). map part_of (cond b (moment ∷ of_name) of_name)) is
  where
    of_name : List Moment
    of_name = filter (λ (one : Moment). is_name name (loader_of_event one.event)) moments

-- A stage of one name.
abbrev pub at : (ℕ → Stage) → ℕ → Stage → ℕ → Stage
at stage name next other = cond (other == name) next (stage other)

pub at_itself : (stage : ℕ → Stage) (name : ℕ) (next : Stage) → at stage name next name ≡ next
at_itself stage name next = ap (λ (b : Bool). cond b next (stage name)) (eq-eqb name name refl)

differs : (name other : ℕ) → (name ≡ other → ⊥) → (other == name) ≡ false
differs name other apart = false_from_ne_true (other == name) (λ e. apart (sym (eqb-true other name e)))

pub is_not : (name other : ℕ) → (name ≡ other → ⊥) → (name == other) ≡ false
is_not name other apart = false_from_ne_true (name == other) (λ e. apart (eqb-true name other e))

pub at_other : (stage : ℕ → Stage) (name : ℕ) (next : Stage) (other : ℕ) → (name ≡ other → ⊥)
    → at stage name next other ≡ stage other
at_other stage name next other apart = ap (λ (b : Bool). cond b next (stage other)) (differs name other apart)

-- Stretches and births, with one moment more. `Course.push` uses these.
use Rattle.std.proofs.Common.{◌≡◌, ◌+◌, ◌<◌, ◌≤◌, ◌==◌, ℕ, Bool, true, false, List, [], ◌∷◌, ◌++◌}
use Rattle.std.proofs.Common.{length, refl, sym, ap, ◌∙◌, arith, append_assoc}
use Rattle.std.specs.Prelude.{min, Option, Some, None, if◌then◌else◌}
use Rattle.std.proofs.lemmas.List.{append-nil}
use Rattle.ms_course.specs.declared.births.Birth.{Birth}
use Rattle.ms_course.specs.declared.moment.Moment.{Moment}
use Rattle.ms_course.specs.declared.stretch.Stretch.{Stretch}
use Rattle.ms_course.specs.Course.{first_line}
use Rattle.ms_course.specs.Gathering.{between, birth_after, birth_of, birth_with, earlier, fewer, fewest, lies}
use Rattle.ms_course.specs.Gathering.{stretch_next, stretch_of, stretch_with}

-- The fewest loaders, and the first line.
least : (fewest : Option ℕ) (loaders one : ℕ)
    → fewer (Some (fewer fewest one)) loaders ≡ fewer (Some (fewer fewest loaders)) one
least None loaders one = omega arith
least (Some fewest) loaders one = omega arith

fewest_push : (moments : List Moment) (moment : Moment)
    → fewest (moments ++ moment ∷ []) ≡ Some (fewer (fewest moments) moment.standing.loaders)
fewest_push [] moment = refl
fewest_push (first ∷ moments) moment =
    ap (λ (few : Option ℕ). Some (fewer few first.standing.loaders)) (fewest_push moments moment)
    ∙ ap Some (least (fewest moments) first.standing.loaders moment.standing.loaders)

first_of : (moments : List Moment) (moment : Moment)
    → first_line (moments ++ moment ∷ []) ≡ earlier (fewest moments) moment.line (first_line moments)
first_of [] moment = refl
first_of (first ∷ moments) moment = refl

pub stretch_push : (moments : List Moment) (moment : Moment)
    → stretch_of (moments ++ moment ∷ []) ≡ stretch_with (stretch_of moments) moment
stretch_push moments moment = λ i. record {
  first_line = first_of moments moment i;
  fewest = fewest_push moments moment i;
}

-- The moments between positions.
abbrev here : Bool → Moment → List Moment
here lies moment = if lies then moment ∷ [] else []

between_from : (first end position : ℕ) (moments : List Moment) (moment : Moment)
    → between first end position (moments ++ moment ∷ [])
    ≡ between first end position moments ++ here (lies first end (position + length moments)) moment
between_from first end position [] moment =
    append-nil (here (lies first end position) moment)
    ∙ ap (λ (p : ℕ). here (lies first end p) moment) (omega arith)
between_from first end position (one ∷ moments) moment =
    let its = here (lies first end position) one in
    let later = between first end (position + 1) moments in
    let next : position + 1 + length moments ≡ position + length (one ∷ moments) = omega arith in
    ap (λ (others : List Moment). its ++ others) (between_from first end (position + 1) moments moment)
    ∙ sym (append_assoc its later (here (lies first end (position + 1 + length moments)) moment))
    ∙ ap (λ (p : ℕ). its ++ later ++ here (lies first end p) moment) next

here_stretch : (b : Bool) (moments : List Moment) (moment : Moment)
    → stretch_of (moments ++ here b moment) ≡ stretch_next b (stretch_of moments) moment
here_stretch true moments moment = stretch_push moments moment
here_stretch false moments moment = ap stretch_of (append-nil moments)

pub between_push : (first end : ℕ) (moments : List Moment) (moment : Moment)
    → stretch_of (between first end 0 (moments ++ moment ∷ []))
    ≡ stretch_next (lies first end (length moments)) (stretch_of (between first end 0 moments)) moment
between_push first end moments moment =
    ap stretch_of (between_from first end 0 moments moment
    ∙ ap (λ (p : ℕ). between first end 0 moments ++ here (lies first end p) moment) (omega arith))
    ∙ here_stretch (lies first end (length moments)) (between first end 0 moments) moment

-- Births.
birth_from : (name position : ℕ) (moments : List Moment) (moment : Moment) (before : Option Birth)
    → birth_after name position (moments ++ moment ∷ []) before
    ≡ birth_with name (position + length moments) moment (birth_after name position moments before)
birth_from name position [] moment before =
    ap (λ (p : ℕ). birth_with name p moment before) (omega arith)
birth_from name position (one ∷ moments) moment before =
    let next : position + 1 + length moments ≡ position + length (one ∷ moments) = omega arith in
    birth_from name (position + 1) moments moment (birth_with name position one before)
    ∙ ap (λ (p : ℕ).
    birth_with name p moment (birth_after name (position + 1) moments (birth_with name position one before))) next

pub birth_push : (name : ℕ) (moments : List Moment) (moment : Moment)
    → birth_of name (moments ++ moment ∷ []) ≡ birth_with name (length moments) moment (birth_of name moments)
birth_push name moments moment =
    birth_from name 0 moments moment None
    ∙ ap (λ (p : ℕ). birth_with name p moment (birth_of name moments)) (omega arith)

-- Positions of stretches in a list, where the last one counts. The functions of `others` use these.
use Rattle.std.proofs.Common.{◌≡◌, ◌∙◌, ◌++◌, ◌∷◌, [], ℕ, ◌+◌, ◌-◌, ◌<◌, ◌≤◌, Bool, true, false, List, Option, Some, ap, arith, cond, length, refl, sym, take}
use Rattle.std.specs.Option.{unwrap_or}
use Rattle.std.proofs.lemmas.Bool.Decides.{nat_tests}
use Rattle.std.specs.Prelude.{nat_eq, slice_index_or}
use Rattle.std.specs.Map.{lookup}
use Rattle.std.proofs.lemmas.List.{take_more}
use Rattle.ms_arena.specs.declared.words.positions.Positioned.{Positioned}
use Rattle.ms_arena.specs.Others.{AreGroups, entries_onto, position_listed}

-- One more at the list's end comes first.
onto_more : (list : List Positioned) (placed : Positioned) (entries : List (ℕ × ℕ))
    → entries_onto (list ++ placed ∷ []) entries ≡ (placed.stretch, placed.position) ∷ entries_onto list entries
onto_more [] placed entries = refl
onto_more (other ∷ list) placed entries = onto_more list placed ((other.stretch, other.position) ∷ entries)

-- So it has its position, and the others theirs.
abbrev ComesFirst : List (ℕ × ℕ) → ℕ → ℕ → List (ℕ × ℕ) → Type 0
ComesFirst old stretch position new = (other : ℕ)
    → lookup (nat_eq other) new ≡ cond (nat_eq other stretch) (Some position) (lookup (nat_eq other) old)

more_comes : (list : List Positioned) (placed : Positioned)
    → ComesFirst (entries_onto list []) placed.stretch placed.position (entries_onto (list ++ placed ∷ []) [])
more_comes list placed other = ap (lookup (nat_eq other)) (onto_more list placed [])

told : (test : Bool) (position : ℕ) (found : Option ℕ) (none : ℕ)
    → unwrap_or (cond test (Some position) found) none ≡ cond test position (unwrap_or found none)
told true position found none = refl
told false position found none = refl

pub more_enters : (list : List Positioned) (placed : Positioned) (other none : ℕ)
    → unwrap_or (lookup (nat_eq other) (entries_onto (list ++ placed ∷ []) [])) none
    ≡ cond (nat_eq other placed.stretch) placed.position (unwrap_or (lookup (nat_eq other) (entries_onto list [])) none)
more_enters list placed other none =
    ap (λ (found : Option ℕ). unwrap_or found none) (more_comes list placed other)
    ∙ told (nat_eq other placed.stretch) placed.position (lookup (nat_eq other) (entries_onto list [])) none

-- A list up to one position further.
taken_comes : (list : List Positioned) (at : ℕ) (none : Positioned) → at < length list
    → ComesFirst (entries_onto (take at list) []) (slice_index_or list at none).stretch (slice_index_or list at none).position
    (entries_onto (take (at + 1) list) [])
taken_comes list at none within other =
    ap (λ (l : List Positioned). lookup (nat_eq other) (entries_onto l [])) (take_more list at none within)
    ∙ more_comes (take at list) (slice_index_or list at none) other

-- Positions of which one of the list was set are what the list has one position further.
pub set_on : (list : List Positioned) (at : ℕ) (none : Positioned) (old new : ℕ → ℕ) → at < length list
    → ((stretch : ℕ) → old stretch ≡ position_listed (take at list) stretch)
    → ((other : ℕ) → new other ≡ cond (nat_eq other (slice_index_or list at none).stretch)
    (slice_index_or list at none).position (old other))
    → (stretch : ℕ) → new stretch ≡ position_listed (take (at + 1) list) stretch
set_on list at none old new within so_far set stretch =
    let placed : Positioned = slice_index_or list at none in
    set stretch
    ∙ ap (cond (nat_eq stretch placed.stretch) placed.position) (so_far stretch)
    ∙ sym (ap (λ (found : Option ℕ). unwrap_or found 0) (taken_comes list at none within stretch)
    ∙ told (nat_eq stretch placed.stretch) placed.position (lookup (nat_eq stretch) (entries_onto (take at list) [])) 0)

-- Groups stay what they are where each has the number that it had.
pub same_groups : (old new positions : List ℕ) → ((group : ℕ) → slice_index_or new group 0 ≡ slice_index_or old group 0)
    → AreGroups old positions → AreGroups new positions
same_groups old new positions same are = record {
  none = are.none;
  below = λ group. rw (same group) (are.below group);
  own = λ group other. rw (same group, same other) (are.own group other);
  whole = are.whole;
}

-- What a look at the last position of a list tells: the position of the stretch, or that it stands before
-- it.
look : (list : List Positioned) (left stretch : ℕ) (none : Positioned) → 0 < left → left ≤ length list
    → lookup (nat_eq stretch) (entries_onto (take left list) [])
    ≡ cond (nat_eq stretch (slice_index_or list (left - 1) none).stretch)
    (Some (slice_index_or list (left - 1) none).position)
    (lookup (nat_eq stretch) (entries_onto (take (left - 1) list) []))
look list left stretch none some within =
    let before : left ≡ left - 1 + 1 = omega (arith, some) in
    ap (λ (n : ℕ). lookup (nat_eq stretch) (entries_onto (take n list) [])) before
    ∙ taken_comes list (left - 1) none (omega (arith, some, within)) stretch

pub found_last : (list : List Positioned) (left stretch : ℕ) (none : Positioned) → 0 < left → left ≤ length list
    → lookup (nat_eq stretch) (entries_onto list []) ≡ lookup (nat_eq stretch) (entries_onto (take left list) [])
    → (slice_index_or list (left - 1) none).stretch ≡ stretch
    → (slice_index_or list (left - 1) none).position ≡ unwrap_or (lookup (nat_eq stretch) (entries_onto list [])) 0
found_last list left stretch none some within left_is here =
    let test : nat_eq stretch (slice_index_or list (left - 1) none).stretch ≡ true = grind (arith, nat_tests, here) in
    sym (ap (λ (found : Option ℕ). unwrap_or found 0) (left_is ∙ look list left stretch none some within
    ∙ ap (λ (t : Bool). cond t (Some (slice_index_or list (left - 1) none).position)
    (lookup (nat_eq stretch) (entries_onto (take (left - 1) list) []))) test))

pub passed_last : (list : List Positioned) (left stretch : ℕ) (none : Positioned) → 0 < left → left ≤ length list
    → lookup (nat_eq stretch) (entries_onto list []) ≡ lookup (nat_eq stretch) (entries_onto (take left list) [])
    → ((slice_index_or list (left - 1) none).stretch ≡ stretch → ⊥)
    → lookup (nat_eq stretch) (entries_onto list []) ≡ lookup (nat_eq stretch) (entries_onto (take (left - 1) list) [])
passed_last list left stretch none some within left_is differ =
    let test : nat_eq stretch (slice_index_or list (left - 1) none).stretch ≡ false = grind (arith, nat_tests, differ) in
    left_is ∙ look list left stretch none some within
    ∙ ap (λ (t : Bool). cond t (Some (slice_index_or list (left - 1) none).position)
    (lookup (nat_eq stretch) (entries_onto (take (left - 1) list) []))) test

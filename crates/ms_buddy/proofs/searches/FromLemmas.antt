-- The free leaves from an offset on: the lowest of them, and those that come after it. For walks.
use Rattle.std.proofs.Common.{◌≡◌, ◌<◌, ◌≤◌, ℕ, ◌+◌, Bool, true, false, List, [], ◌∷◌}
use Rattle.std.proofs.Common.{refl, sym, ap, subst, ◌∙◌, inl, inr, arith}
use Rattle.std.specs.Prelude.{◌||◌, nat_le}
use Rattle.std.specs.List.{AllByRecursion, filter, list_any}
use Rattle.std.proofs.lemmas.Bool.{cases_lt}
use Rattle.std.proofs.lemmas.Bool.Decides.{nat_tests}
use Rattle.ms_base.specs.declared.span.Span.{Span}
use Rattle.ms_buddy.specs.Leaves.{from_on, is_same}
use Rattle.ms_buddy.proofs.searches.CoverLemmas.{same}
use Rattle.ms_buddy.proofs.searches.FoundLemmas.{AreRising}
use Rattle.ms_buddy.proofs.WalkLemmas.{all_weaker}

all_of : {X : Type 0} (P : X → Type 0) (every : (x : X) → P x) (xs : List X) → AllByRecursion P xs
all_of P every [] = tt
all_of P every (x ∷ xs) = (every x, all_of P every xs)

-- What holds of all holds of one that is listed.
pub all_listed : (P : Span → Type 0) (parts : List Span) (part : Span) → AllByRecursion P parts
    → list_any (is_same part) parts ≡ true → P part
all_listed P [] part all any = absurd (cc (any))
all_listed P (other ∷ parts) part all any =
    elim (is_same part other) as (λ b. is_same part other ≡ b → (b || list_any (is_same part) parts) ≡ true → P part) [
      | true ↦ λ own e. subst P (sym (same part other own)) all.0
      | false ↦ λ own e. all_listed P parts part all.1 e
    ] refl any

filter_all : (test : Span → Bool) (parts : List Span) → AllByRecursion (λ part. test part ≡ true) parts
    → filter test parts ≡ parts
filter_all test [] all = refl
filter_all test (part ∷ parts) all = rw all.0 (ap (λ rest. part ∷ rest) (filter_all test parts all.1))

within : (a b : ℕ) → a ≤ b → nat_le a b ≡ true
within a b h = grind (arith, nat_tests)

before : (a b : ℕ) → b < a → nat_le a b ≡ false
before a b h = grind (arith, nat_tests)

-- Those from an offset on are the lowest of them and those past it.
pub rest_of : (at : ℕ) (parts : List Span) (part : Span) → AreRising parts → list_any (is_same part) parts ≡ true
    → at ≤ part.start → AllByRecursion (λ other. at ≤ other.start → part.start ≤ other.start) parts
    → from_on at parts ≡ part ∷ from_on (part.start + 1) parts
rest_of at [] part rising any from lowest = absurd (cc (any))
rest_of at (first ∷ parts) part rising any from lowest =
    elim (is_same part first) as (λ b. is_same part first ≡ b → (b || list_any (is_same part) parts) ≡ true
    → from_on at (first ∷ parts) ≡ part ∷ from_on (part.start + 1) (first ∷ parts)) [
      | true ↦ λ own e. let is : part ≡ first = same part first own in
          subst (λ (p : Span). from_on at (first ∷ parts) ≡ p ∷ from_on (p.start + 1) (first ∷ parts)) (sym is)
          (here (subst (λ (p : Span). at ≤ p.start) is from))
      | false ↦ λ own e.
          let less : first.start < part.start = all_listed (λ later. first.start < later.start) parts part rising.0 e in
          rw (before at first.start (past less), before (part.start + 1) first.start (omega (arith, less)))
          (rest_of at parts part rising.1 e from lowest.1)
    ] refl any
  where
    here : at ≤ first.start → from_on at (first ∷ parts) ≡ first ∷ from_on (first.start + 1) (first ∷ parts)
    here h = rw (within at first.start h, before (first.start + 1) first.start (omega arith))
        (ap (λ rest. first ∷ rest) (filter_all (λ part. nat_le at part.start) parts
        (all_weaker (λ later. first.start < later.start) (λ part. nat_le at part.start ≡ true)
        (λ later k. within at later.start (omega (arith, h, k))) parts rising.0)
        ∙ sym (filter_all (λ part. nat_le (first.start + 1) part.start) parts
        (all_weaker (λ later. first.start < later.start) (λ part. nat_le (first.start + 1) part.start ≡ true)
        (λ later k. within (first.start + 1) later.start (omega (arith, k))) parts rising.0))))

    past : first.start < part.start → first.start < at
    past less = elim (cases_lt first.start at) [
      | inl below ↦ below
      | inr above ↦ absurd (omega (arith, less, lowest.0 above))
    ]

pub none_from_on : (at : ℕ) (parts : List Span) → AllByRecursion (λ other. at ≤ other.start → ⊥) parts
    → from_on at parts ≡ []
none_from_on at [] none = refl
none_from_on at (part ∷ parts) none = elim (cases_lt part.start at) [
  | inl below ↦ rw (before at part.start below) (none_from_on at parts none.1)
  | inr above ↦ absurd (none.0 above)
]

-- All start at the first word or past it.
pub from_start : (parts : List Span) → from_on 0 parts ≡ parts
from_start parts = filter_all (λ part. nat_le 0 part.start) parts
    (all_of (λ part. nat_le 0 part.start ≡ true) (λ part. within 0 part.start (omega arith)) parts)

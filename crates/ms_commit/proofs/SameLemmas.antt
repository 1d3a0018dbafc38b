-- Sets in rising order by their members: what is in a set with a number added, and that a set is
-- known by its members.
use Rattle.std.proofs.Common.{◌≡◌, ◌≤◌, ◌<◌, ℕ, Bool, true, false, ◌||◌, List, [], ◌∷◌, refl, sym, ap, ap₂, ◌∙◌, inl}
use Rattle.std.proofs.Common.{inr, arith}
use Rattle.std.specs.Prelude.{◌==◌}
use Rattle.std.specs.List.{AllByRecursion}
use Rattle.std.specs.List.Sorted.{IsStrictlySortedBy}
use Rattle.std.specs.Ordering.{nat_cmp, match_ordering}
use Rattle.std.specs.declared.cmp.Ordering.{Ordering}
use Rattle.std.specs.declared.cmp.Ordering.TheVariants.{Less, Equal, Greater}
use Rattle.std.specs.BTreeSet.{insert_key}
use Rattle.std.proofs.lemmas.Bool.{false≢true, cases_lt, cases_order}
use Rattle.std.proofs.lemmas.Bool.Decides.{nat_tests}
use Rattle.ms_base.specs.Committed.{is_among}

-- A set with a number added has its members and the number.
pub is_among-insert_key : (members : List ℕ) (number k : ℕ)
    → is_among (insert_key nat_cmp members number) k ≡ (is_among members k || (number == k))
is_among-insert_key [] number k = or_nothing (number == k)
  where
    or_nothing : (a : Bool) → (a || false) ≡ a
    or_nothing true = refl
    or_nothing false = refl
is_among-insert_key (x ∷ members) number k = placed (nat_cmp number x) refl (is_among-insert_key members number k)
  where
    in_front : (a b c : Bool) → (a || (b || c)) ≡ (b || c || a)
    in_front true true c = refl
    in_front true false true = refl
    in_front true false false = refl
    in_front false true c = refl
    in_front false false true = refl
    in_front false false false = refl

    already : (a b : Bool) → (a || b) ≡ (a || b || a)
    already true b = refl
    already false true = refl
    already false false = refl

    later : (a b c : Bool) → (a || (b || c)) ≡ (a || b || c)
    later true b c = refl
    later false b c = refl

    is_it : (a b : ℕ) → nat_cmp a b ≡ Equal → a ≡ b
    is_it a b e = grind (arith, nat_tests)

    placed : (o : Ordering) → nat_cmp number x ≡ o
        → is_among (insert_key nat_cmp members number) k ≡ (is_among members k || (number == k))
        → is_among (match_ordering o (number ∷ x ∷ members) (x ∷ members) (x ∷ insert_key nat_cmp members number)) k
        ≡ ((x == k) || is_among members k || (number == k))
    placed Less e rest = in_front (number == k) (x == k) (is_among members k)
    placed Equal e rest =
        already (x == k) (is_among members k)
        ∙ ap (λ same. (x == k) || is_among members k || (same == k)) (sym (is_it number x e))
    placed Greater e rest = ap (λ b. (x == k) || b) rest ∙ later (x == k) (is_among members k) (number == k)

-- Nothing up to a number is in a list of numbers above it.
none_up_to : (low k : ℕ) (members : List ℕ) → k ≤ low → AllByRecursion (λ x. nat_cmp low x ≡ Less) members
    → is_among members k ≡ false
none_up_to low k [] h all = refl
none_up_to low k (x ∷ members) h all = ap₂ (λ a b. a || b) (above low x k h all.0) (none_up_to low k members h all.1)
  where
    above : (low x k : ℕ) → k ≤ low → nat_cmp low x ≡ Less → (x == k) ≡ false
    above low x k h less = grind (arith, nat_tests)

has_first : (x : ℕ) (members : List ℕ) → is_among (x ∷ members) x ≡ true
has_first x members = ap (λ b. b || is_among members x) (itself x)
  where
    itself : (x : ℕ) → (x == x) ≡ true
    itself x = grind (arith, nat_tests)

other_number : (x k : ℕ) → (x ≡ k → ⊥) → (x == k) ≡ false
other_number x k apart = grind (arith, nat_tests)

-- A number below the first is not in the list.
misses_lower : (k x : ℕ) (members : List ℕ) → k < x → AllByRecursion (λ y. nat_cmp x y ≡ Less) members
    → is_among (x ∷ members) k ≡ false
misses_lower k x members under all =
    ap₂ (λ a b. a || b) (other_number x k (λ e. omega arith)) (none_up_to x k members (omega arith) all)

-- With the same first number, the rests have the same members.
same_rest : (x y k : ℕ) (one other : List ℕ) → x ≡ y → AllByRecursion (λ z. nat_cmp x z ≡ Less) one
    → AllByRecursion (λ z. nat_cmp y z ≡ Less) other
    → is_among (x ∷ one) k ≡ is_among (y ∷ other) k → is_among one k ≡ is_among other k
same_rest x y k one other e above_one above_other same = elim (cases_lt x k) [
  | inl later ↦
      ap (λ b. b || is_among one k) (sym (other_number x k (λ at. omega arith))) ∙ same
      ∙ ap (λ b. b || is_among other k) (other_number y k (λ at. omega arith))
  | inr not_later ↦ none_up_to x k one not_later above_one ∙ sym (none_up_to y k other (omega arith) above_other)
]

-- Two sets in rising order with the same members are equal.
pub same_sets : (one other : List ℕ) → IsStrictlySortedBy nat_cmp one → IsStrictlySortedBy nat_cmp other
    → ((k : ℕ) → is_among one k ≡ is_among other k) → one ≡ other
unfolding IsStrictlySortedBy
same_sets [] [] rise rising same = refl
same_sets [] (y ∷ other) rise rising same = absurd (false≢true (same y ∙ has_first y other))
same_sets (x ∷ one) [] rise rising same = absurd (false≢true (sym (same x) ∙ has_first x one))
same_sets (x ∷ one) (y ∷ other) rise rising same = elim (cases_order x y) [
  | inl e ↦ ap₂ (λ head tail. head ∷ tail) e
      (same_sets one other rise.1 rising.1 (λ k. same_rest x y k one other e rise.0 rising.0 (same k)))
  | inr apart ↦ elim apart [
    | inl less ↦ absurd (false≢true (sym (misses_lower x y other less rising.0) ∙ sym (same x) ∙ has_first x one))
    | inr more ↦ absurd (false≢true (sym (misses_lower y x one more rise.0) ∙ same y ∙ has_first y other))
  ]
]

-- A part is one of the free leaves exactly where its bit is set. For telling whether a part is
-- free.
use Rattle.std.proofs.Common.{◌≡◌, ◌≤◌, ℕ, ◌+◌, Bool, true, false, cond, ◌&&◌, ◌||◌, List, [], ◌∷◌}
use Rattle.std.proofs.Common.{refl, sym, ap, ◌∙◌, inl, inr, arith, eq-eqb, eqb-true, ne_eqb}
use Rattle.std.specs.Prelude.{◌==◌, nat_lt}
use Rattle.std.specs.List.{AllByRecursion, list_any}
use Rattle.std.proofs.lemmas.Bool.{and_parts, cases_eq, false_from_ne_true}
use Rattle.std.proofs.lemmas.Bool.Decides.{nat_tests}
use Rattle.ms_base.specs.declared.span.Span.{Span}
use Rattle.ms_buddy.specs.Tree.{Node}
use Rattle.ms_buddy.specs.Counts.{count_of_number, number_of}
use Rattle.ms_buddy.specs.FreeBits.{AreFreeBits, bit_of}
use Rattle.ms_buddy.specs.Leaves.{is_same, root}
use Rattle.ms_buddy.specs.Tree.{Free, Lent, Split, IsTree, free_in, is_free}
use Rattle.ms_buddy.proofs.counts.CountLemmas.{number-cons, number-none}
use Rattle.ms_buddy.proofs.changes.EnlargeLemmas.{not_free_whole}
use Rattle.ms_buddy.proofs.searches.FoundLemmas.{alike}
use Rattle.ms_buddy.proofs.bits.FreeNumberLemmas.{IsRootSpan, few_of_number, free_spans, root_number, root_part}
use Rattle.ms_buddy.proofs.bits.NumberLemmas.{same_number}

-- Parts with one number are the same.
same_test : (part other : Span) → IsRootSpan part → IsRootSpan other
    → (number_of other == number_of part) ≡ is_same part other
same_test part other of_root there = elim (cases_eq (number_of other) (number_of part)) [
  | inl same ↦ let both = same_number other part there of_root same in
      eq-eqb (number_of other) (number_of part) same ∙ sym (both_true (eq-eqb other.start part.start both.1)
      (eq-eqb other.level part.level both.0))
  | inr differ ↦ ne_eqb (number_of other) (number_of part) differ
      ∙ sym (false_from_ne_true (is_same part other) (λ same.
      let both = and_parts (other.start == part.start) (other.level == part.level) same in
      differ (ap number_of (alike other part (eqb-true other.start part.start both.0)
      (eqb-true other.level part.level both.1)))))
]
  where
    both_true : {a b : Bool} → a ≡ true → b ≡ true → (a && b) ≡ true
    both_true e f = rw (e, f) refl

-- A part is listed where a part of the list has its number.
pub listed : (part : Span) (parts : List Span) → IsRootSpan part → AllByRecursion IsRootSpan parts
    → nat_lt 0 (count_of_number (number_of part) parts) ≡ list_any (is_same part) parts
listed part [] of_root all = ap (nat_lt 0) (number-none (number_of part))
listed part (other ∷ parts) of_root all =
    ap (nat_lt 0) (number-cons (number_of part) other parts)
    ∙ either (number_of other == number_of part) (count_of_number (number_of part) parts)
    ∙ ap (λ b. b || nat_lt 0 (count_of_number (number_of part) parts)) (same_test part other of_root all.0)
    ∙ ap (λ b. is_same part other || b) (listed part parts of_root all.1)
  where
    either : (b : Bool) (n : ℕ) → nat_lt 0 (cond b 1 0 + n) ≡ (b || nat_lt 0 n)
    either true n = grind (arith, nat_tests)
    either false n = grind (arith, nat_tests)

-- So it is by the bit of its number, since no two free leaves have one number.
pub free_by_bit : (node : Node) (words : List ℕ) (part : Span) → IsTree 0 node
    → AreFreeBits words (free_in 0 0 node) → IsRootSpan part
    → (bit_of words (number_of part) == 1) ≡ list_any (is_same part) (free_in 0 0 node)
free_by_bit node words part tree are of_root =
    set (bit_of words (number_of part)) _ (are (number_of part))
    (few_of_number 0 0 (number_of part) node tree root_part)
    ∙ listed part (free_in 0 0 node) of_root (free_spans 0 0 node tree root_part)
  where
    set : (bit count : ℕ) → bit ≡ count → count ≤ 1 → (bit == 1) ≡ nat_lt 0 count
    set bit count e few = grind (arith, nat_tests, e, few)

-- The root is free exactly where its bit is set.
pub whole_by_bit : (node : Node) (words : List ℕ) → IsTree 0 node → AreFreeBits words (free_in 0 0 node)
    → (bit_of words 1 == 1) ≡ is_free node
whole_by_bit node words tree are =
    ap (λ (n : ℕ). bit_of words n == 1) (sym root_number) ∙ free_by_bit node words root tree are root_part
    ∙ whole node
  where
    whole : (node : Node) → list_any (is_same root) (free_in 0 0 node) ≡ is_free node
    whole Free = refl
    whole (Lent owner front) = refl
    whole (Split lower upper) = not_free_whole 0 0 (Split lower upper) refl

-- Which leaf covers an offset: there is one, and a free leaf that does is the one that is found.
use Rattle.std.proofs.Common.{◌≡◌, ◌<◌, ◌≤◌, ℕ, ◌+◌, Bool, true, false, cond, List, [], ◌∷◌, Some, refl, sym, subst, ◌∙◌}
use Rattle.std.proofs.Common.{inl, inr, arith}
use Rattle.std.specs.Prelude.{◌⊎◌, ◌==◌, ◌&&◌, ◌||◌, nat_le, nat_lt, IsTrue}
use Rattle.std.specs.List.{AllByRecursion, list_any, find}
use Rattle.std.proofs.lemmas.Bool.{cases_lt}
use Rattle.std.proofs.lemmas.Bool.Decides.{nat_tests}
use Rattle.std.proofs.lemmas.List.Folds.{list_any-append}
use Rattle.ms_base.specs.declared.span.Span.{Span}
use Rattle.ms_base.specs.Level.{size_of}
use Rattle.ms_buddy.specs.Leaves.{LentLeaf, covers, is_lent, is_same, span_at, span_of}
use Rattle.ms_buddy.specs.Tree.{Node, Free, Lent, Split, IsRootPart, IsTree, free_in, lent_in}
use Rattle.ms_buddy.proofs.TreeHalvesLemmas.{lower_part, size_of-halves, upper_part}
use Rattle.ms_buddy.proofs.SplitLemmas.{at_split, lent_part_lies_in, lower_found, lower_lent, upper_found, upper_lent}
use Rattle.ms_buddy.proofs.changes.CarveLemmas.{lower_is_free, upper_is_free}
use Rattle.ms_buddy.proofs.WalkLemmas.{LiesIn, free_lies_in}
use Rattle.ms_buddy.proofs.searches.FoundLemmas.{alike}

pub from_covers : (a b : ℕ) (c : Bool) → (nat_le a b && c) ≡ true → a ≤ b
from_covers a b c e = grind (arith, nat_tests)

pub to_covers : (a b c : ℕ) → (nat_le a b && nat_lt b c) ≡ true → b < c
to_covers a b c e = grind (arith, nat_tests)

pub it_covers : (a b c : ℕ) → a ≤ b → b < c → (nat_le a b && nat_lt b c) ≡ true
it_covers a b c h k = grind (arith, nat_tests)

alone : (a b c d : ℕ) → (((a == b) && (c == d)) || false) ≡ true → (b ≡ a) × (d ≡ c)
alone a b c d e = (grind (arith, nat_tests), grind (arith, nat_tests))

-- A free leaf that covers an offset is found.
pub found_free : (level start : ℕ) (node : Node) (part : Span) (offset : ℕ) → IsTree level node
    → list_any (is_same part) (free_in level start node) ≡ true → covers offset part ≡ true
    → find (covers offset) (free_in level start node) ≡ Some part
found_free level start Free part offset tree any within =
    let same : part ≡ span_at start level =
    let fields = alone start part.start level part.level any in alike part (span_at start level) fields.0 fields.1 in
    subst (λ (p : Span). find (covers offset) (span_at start level ∷ []) ≡ Some p) (sym same)
    (rw (subst (λ (p : Span). covers offset p ≡ true) same within) refl)
found_free level start (Lent owner front) part offset tree any within = absurd (cc)
found_free level start (Split lower upper) part offset tree any within =
    let s = at_split level start lower upper tree in
    elim (cases_lt part.start (start + size_of (level + 1))) [
      | inl below ↦ lower_found offset level start lower upper part
          (found_free (level + 1) start lower part offset tree.2
          (sym (lower_is_free part level start _ lower upper s.halves below) ∙ any) within)
      | inr above ↦ upper_found offset level start _ lower upper part tree.2 refl
          (omega (arith, above, from_covers part.start offset _ within))
          (found_free (level + 1) (start + size_of (level + 1)) upper part offset tree.3
          (sym (upper_is_free part level start _ lower upper s.halves above) ∙ any) within)
    ]

-- A leaf that covers an offset, free or lent.
pub record Covered (start offset : ℕ) (free : List Span) (lent : List LentLeaf) : Type 0 where
  pub part : Span
  pub of_root : IsRootPart part.level part.start
  pub from : start ≤ part.start
  pub within : covers offset part ≡ true
  pub there : (list_any (is_same part) free ≡ true) ⊎ (is_lent lent part ≡ true)

itself : (a b : ℕ) → (((a == a) && (b == b)) || false) ≡ true
itself a b = grind (arith, nat_tests)

pub left : (b c : Bool) → b ≡ true → (b || c) ≡ true
left b c e = rw e refl

pub right : (b c : Bool) → c ≡ true → (b || c) ≡ true
right true c e = refl
right false c e = e

pub covered : (level start : ℕ) (node : Node) (offset : ℕ) → IsTree level node → IsRootPart level start → start ≤ offset
    → offset < start + size_of level → Covered start offset (free_in level start node) (lent_in level start node)
covered level start Free offset tree of_root from below = record {
  part = span_at start level;
  of_root = of_root;
  from = omega arith;
  within = it_covers start offset (start + size_of level) from below;
  there = inl (itself start level);
}
covered level start (Lent owner front) offset tree of_root from below = record {
  part = span_at start level;
  of_root = of_root;
  from = omega arith;
  within = it_covers start offset (start + size_of level) from below;
  there = inr (itself start level);
}
covered level start (Split lower upper) offset tree of_root from below =
    let s = at_split level start lower upper tree in
    elim (cases_lt offset (start + size_of (level + 1))) [
      | inl low ↦
          let half = covered (level + 1) start lower offset tree.2 (lower_part level start of_root s.low) from low in record {
            part = half.part;
            of_root = half.of_root;
            from = half.from;
            within = half.within;
            there = elim half.there [
              | inl any ↦ inl (lower_is_free half.part level start _ lower upper s.halves
                  (omega (arith, low, from_covers half.part.start offset _ half.within)) ∙ any)
              | inr any ↦ inr (list_any-append (λ (leaf : LentLeaf). is_same half.part (span_of leaf))
                  (lent_in (level + 1) start lower) (lent_in (level + 1) (start + size_of (level + 1)) upper)
                  ∙ left _ _ any)
            ];
          }
      | inr high ↦
          let half = covered (level + 1) (start + size_of (level + 1)) upper offset tree.3
          (upper_part level start _ of_root s.low refl) high (omega (arith, below, size_of-halves level s.low)) in record {
            part = half.part;
            of_root = half.of_root;
            from = omega (arith, half.from);
            within = half.within;
            there = elim half.there [
              | inl any ↦ inl (upper_is_free half.part level start _ lower upper s.halves half.from ∙ any)
              | inr any ↦ inr (list_any-append (λ (leaf : LentLeaf). is_same half.part (span_of leaf))
                  (lent_in (level + 1) start lower) (lent_in (level + 1) (start + size_of (level + 1)) upper)
                  ∙ right _ _ any)
            ];
          }
    ]

-- A free leaf that is found is listed.
pub found_listed : (test : Span → Bool) (parts : List Span) (part : Span) → find test parts ≡ Some part
    → list_any (is_same part) parts ≡ true
found_listed test [] part e = absurd (cc)
found_listed test (first ∷ parts) part e =
    elim (test first) as (λ b. cond b (Some first) (find test parts) ≡ Some part
    → list_any (is_same part) (first ∷ parts) ≡ true) [
      | true ↦ λ e. subst (λ (other : Span). list_any (is_same other) (first ∷ parts) ≡ true) (taken first part e)
          (left _ _ (same first.start first.level))
      | false ↦ λ e. right _ _ (found_listed test parts part e)
    ] e
  where
    taken : (a b : Span) → Some a ≡ Some b → a ≡ b
    taken a b e = cc

    same : (a b : ℕ) → ((a == a) && (b == b)) ≡ true
    same a b = grind (arith, nat_tests)

-- A part that is the same is that part.
pub same : (part other : Span) → is_same part other ≡ true → part ≡ other
same part other e = let fields = both other.start part.start other.level part.level e in
    alike part other fields.0 fields.1
  where
    both : (a b c d : ℕ) → ((a == b) && (c == d)) ≡ true → (b ≡ a) × (d ≡ c)
    both a b c d e = (grind (arith, nat_tests), grind (arith, nat_tests))

-- No offset is in a free leaf and in a lent one.
pub free_or_lent : (level start : ℕ) (node : Node) (part other : Span) (offset : ℕ) → IsTree level node
    → list_any (is_same part) (free_in level start node) ≡ true → covers offset part ≡ true
    → IsTrue (is_lent (lent_in level start node) other) → covers offset other ≡ true → ⊥
free_or_lent level start Free part other offset tree any within lent there = absurd (cc (lent))
free_or_lent level start (Lent owner front) part other offset tree any within lent there = absurd (cc (any))
free_or_lent level start (Split lower upper) part other offset tree any within lent there =
    let s = at_split level start lower upper tree in
    elim (cases_lt offset (start + size_of (level + 1))) [
      | inl low ↦
          free_or_lent (level + 1) start lower part other offset tree.2
          (sym (lower_is_free part level start _ lower upper s.halves
          (omega (arith, low, from_covers part.start offset _ within))) ∙ any) within
          (lower_lent other level start _ lower upper s.halves (omega (arith, low, from_covers other.start offset _ there)) lent)
          there
      | inr high ↦ elim (cases_lt part.start (start + size_of (level + 1))) [
        | inl below ↦ ends_before part offset (start + size_of (level + 1)) high within
            (free_lies (level + 1) start lower part tree.2
            (sym (lower_is_free part level start _ lower upper s.halves below) ∙ any)).to
        | inr above ↦ elim (cases_lt other.start (start + size_of (level + 1))) [
          | inl under ↦ ends_before other offset (start + size_of (level + 1)) high there
              (lent_part_lies_in other (level + 1) start lower tree.2
              (lower_lent other level start _ lower upper s.halves under lent)).to
          | inr over ↦
              free_or_lent (level + 1) (start + size_of (level + 1)) upper part other offset tree.3
              (sym (upper_is_free part level start _ lower upper s.halves above) ∙ any) within
              (upper_lent other level start _ lower upper s.halves over lent) there
        ]
      ]
    ]
  where
    ends_before : (part : Span) (offset middle : ℕ) → middle ≤ offset → covers offset part ≡ true
        → part.start + size_of part.level ≤ middle → ⊥
    ends_before part offset middle h e to = omega (arith, h, to, to_covers part.start offset (part.start + size_of part.level) e)

    free_lies : (level start : ℕ) (node : Node) (part : Span) → IsTree level node
        → list_any (is_same part) (free_in level start node) ≡ true → LiesIn start (start + size_of level) part
    free_lies level start node part tree any = of_list (free_in level start node) (free_lies_in level start node tree) any
      where
        of_list : (xs : List Span) → AllByRecursion (LiesIn start (start + size_of level)) xs
            → list_any (is_same part) xs ≡ true → LiesIn start (start + size_of level) part
        of_list [] all e = absurd (cc)
        of_list (other ∷ xs) all e = elim (is_same part other) as (λ b. is_same part other ≡ b
            → (b || list_any (is_same part) xs) ≡ true → LiesIn start (start + size_of level) part) [
              | true ↦ λ f e. subst (LiesIn start (start + size_of level)) (sym (same part other f)) all.0
              | false ↦ λ f e. of_list xs all.1 e
            ] refl e

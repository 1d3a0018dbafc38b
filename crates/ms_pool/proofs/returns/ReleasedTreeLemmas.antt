-- Where a lent chunk lies among the trees, and what the loans are once its leaf is released. The
-- proof of `release` uses them.
use Rattle.std.proofs.Common.{◌≡◌, ◌<◌, ◌≤◌, ℕ, suc, ◌+◌, ◌*◌, ◌/◌, ◌%◌, Bool, true, false, cond, not, ◌&&◌, ◌||◌, ◌==◌}
use Rattle.std.proofs.Common.{eqb-true, List, [], ◌∷◌, length, get_or, set, map, refl, sym, ap, ap₂, subst, ◌∙◌, arith}
use Rattle.std.proofs.Common.{inl, inr}
use Rattle.std.specs.List.{AllByRecursion, list_any}
use Rattle.std.proofs.lemmas.Bool.{or_cases, and_parts}
use Rattle.std.proofs.lemmas.Bool.Decides.{nat_tests}
use Rattle.std.proofs.lemmas.List.Elements.{filter-append}
use Rattle.std.proofs.lemmas.List.Folds.{list_any-append}
use Rattle.ms_base.specs.declared.span.Chunk.{Chunk}
use Rattle.ms_base.specs.declared.span.Span.{Span}
use Rattle.ms_base.specs.Level.{size_of, root_words}
use Rattle.ms_buddy.specs.Leaves.{LentLeaf, AreLeaves, is_lent, is_same, span_of, without_leaf}
use Rattle.ms_buddy.proofs.TreeHalvesLemmas.{size_of-some}
use Rattle.ms_pool.specs.Ledger.{Loan}
use Rattle.ms_pool.specs.Keeping.{loan_at, loans_from}
use Rattle.ms_pool.specs.Releasing.{is_at, is_lent_in, without_loan}
use Rattle.ms_pool.proofs.searches.RootLemmas.{EndsBy, StartsFrom, changed_at_root}

-- The chunk's span in a root.
abbrev pub span_in : Chunk → Span
span_in chunk = record { start = chunk.start % root_words; level = chunk.level }

-- A leaf and its loan are of the span alike.
same_test : (root : ℕ) (chunk : Chunk) (part : Span) (leaf : LentLeaf) → chunk.start ≡ root * root_words + part.start
    → chunk.level ≡ part.level
    → is_at chunk (loan_at root leaf) ≡ is_same part (span_of leaf)
same_test root chunk part leaf e f =
    ap₂ (λ a b. a && b) (shifted leaf.start part.start chunk.start (root * root_words) e)
    (ap (λ (n : ℕ). leaf.level == n) f)
  where
    shifted : (a b c r : ℕ) → c ≡ r + b → (a + r == c) ≡ (a == b)
    shifted a b c r e = grind (arith, nat_tests)

-- Loans of other roots are not.
none_before : (root : ℕ) (chunk : Chunk) (loans : List Loan) → root * root_words ≤ chunk.start
    → AllByRecursion (EndsBy (root * root_words)) loans → without_loan chunk loans ≡ loans
none_before root chunk [] low all = refl
none_before root chunk (loan ∷ loans) low all =
    ap (λ (b : Bool). cond (not (b && (loan.chunk.level == chunk.level))) (loan ∷ without_loan chunk loans)
    (without_loan chunk loans))
    (differ loan.chunk.start (size_of loan.chunk.level) chunk.start (root * root_words) all.0 low
    (size_of-some loan.chunk.level))
    ∙ ap (λ (l : List Loan). loan ∷ l) (none_before root chunk loans low all.1)
  where
    differ : (a s c r : ℕ) → a + s ≤ r → r ≤ c → 0 < s → (a == c) ≡ false
    differ a s c r h k some = grind (arith, nat_tests)

none_after : (end : ℕ) (chunk : Chunk) (loans : List Loan) → chunk.start < end → AllByRecursion (StartsFrom end) loans
    → without_loan chunk loans ≡ loans
none_after end chunk [] low all = refl
none_after end chunk (loan ∷ loans) low all =
    ap (λ (b : Bool). cond (not (b && (loan.chunk.level == chunk.level))) (loan ∷ without_loan chunk loans)
    (without_loan chunk loans))
    (differ loan.chunk.start chunk.start end all.0 low)
    ∙ ap (λ (l : List Loan). loan ∷ l) (none_after end chunk loans low all.1)
  where
    differ : (a c e : ℕ) → e ≤ a → c < e → (a == c) ≡ false
    differ a c e h k = grind (arith, nat_tests)

own_without : (root : ℕ) (chunk : Chunk) (part : Span) (leaves : List LentLeaf)
    → chunk.start ≡ root * root_words + part.start → chunk.level ≡ part.level
    → map (loan_at root) (without_leaf part leaves) ≡ without_loan chunk (map (loan_at root) leaves)
own_without root chunk part [] e f = refl
own_without root chunk part (leaf ∷ leaves) e f =
    elim (is_same part (span_of leaf)) as (λ b. map (loan_at root)
    (cond (not b) (leaf ∷ without_leaf part leaves) (without_leaf part leaves))
    ≡ cond (not b) (loan_at root leaf ∷ without_loan chunk (map (loan_at root) leaves))
    (without_loan chunk (map (loan_at root) leaves))) [
      | true ↦ own_without root chunk part leaves e f
      | false ↦ ap (λ (l : List Loan). loan_at root leaf ∷ l) (own_without root chunk part leaves e f)
    ]
    ∙ ap (λ (b : Bool). cond (not b) (loan_at root leaf ∷ without_loan chunk (map (loan_at root) leaves))
    (without_loan chunk (map (loan_at root) leaves)))
    (sym (same_test root chunk part leaf e f))

-- The loans once a leaf of a root is released.
pub released_loans : (trees : List (List LentLeaf)) (root : ℕ) (chunk : Chunk) (part : Span) → root < length trees
    → AllByRecursion AreLeaves trees
    → chunk.start ≡ root * root_words + part.start → chunk.level ≡ part.level → part.start < root_words
    → loans_from 0 (set trees root (without_leaf part (get_or trees root []))) ≡ without_loan chunk (loans_from 0 trees)
released_loans trees root chunk part within all e f low =
    changed_at_root trees root (without_leaf part tree) (without_loan chunk) within all (filter-append _)
    (λ before ends. none_before root chunk before (omega (arith, e)) ends)
    (λ after starts. none_after ((root + 1) * root_words) chunk after (omega (arith, e, low)) starts)
    (own_without root chunk part tree e f)
  where
    tree : List LentLeaf
    tree = get_or trees root []

-- Where the chunk's leaf is.
pub record HasLeaf (trees : List (List LentLeaf)) (first : ℕ) (chunk : Chunk) : Type 0 where
  pub i : ℕ
  pub within : i < length trees
  pub root : chunk.start / root_words ≡ first + i
  pub lent : is_lent (get_or trees i []) (span_in chunk) ≡ true

in_tree : (root : ℕ) (chunk : Chunk) (leaves : List LentLeaf)
    → AllByRecursion (λ leaf. leaf.start + size_of leaf.level ≤ root_words) leaves
    → list_any (is_at chunk) (map (loan_at root) leaves) ≡ true
    → (chunk.start / root_words ≡ root) × (is_lent leaves (span_in chunk) ≡ true)
in_tree root chunk [] all there = absurd (cc)
in_tree root chunk (leaf ∷ leaves) all there =
    elim (or_cases (is_at chunk (loan_at root leaf)) (list_any (is_at chunk) (map (loan_at root) leaves)) there) [
      | inl here ↦ let parts = and_parts (leaf.start + root * root_words == chunk.start) (leaf.level == chunk.level) here in
          let fits : leaf.start < root_words = omega (arith, all.0, size_of-some leaf.level) in (
            at_start (leaf.start + root * root_words) chunk.start parts.0 root leaf.start refl fits,
            first_is (leaf.start == chunk.start % root_words) (leaf.level == chunk.level) (list_any _ leaves)
                (in_root (leaf.start + root * root_words) chunk.start parts.0 root leaf.start refl fits) parts.1,
          )
      | inr later ↦ let rest = in_tree root chunk leaves all.1 later in
          (rest.0, or_later (is_same (span_in chunk) (span_of leaf)) (is_lent leaves (span_in chunk)) rest.1)
    ]
  where
    at_start : (a c : ℕ) → (a == c) ≡ true → (root b : ℕ) → a ≡ b + root * root_words → b < root_words
        → c / root_words ≡ root
    at_start a c e root b f h = omega (arith, eqb-true a c e, f)

    same : (a b : ℕ) → a ≡ b → (a == b) ≡ true
    same a b e = grind (arith, nat_tests)

    in_root : (a c : ℕ) → (a == c) ≡ true → (root b : ℕ) → a ≡ b + root * root_words → b < root_words
        → (b == c % root_words) ≡ true
    in_root a c e root b f h = same b (c % root_words) (omega (arith, eqb-true a c e, f))

    first_is : (a b c : Bool) → a ≡ true → b ≡ true → ((a && b) || c) ≡ true
    first_is a b c e f = grind arith

    or_later : (a b : Bool) → b ≡ true → (a || b) ≡ true
    or_later a b e = grind arith

pub has_leaf : (trees : List (List LentLeaf)) (first : ℕ) (chunk : Chunk) → AllByRecursion AreLeaves trees
    → is_lent_in (loans_from first trees) chunk ≡ true → HasLeaf trees first chunk
has_leaf [] first chunk all there = absurd (cc)
has_leaf (tree ∷ trees) first chunk all there =
    elim (or_cases (list_any (is_at chunk) (map (loan_at first) tree))
    (list_any (is_at chunk) (loans_from (first + 1) trees))
    (sym (list_any-append (is_at chunk) (map (loan_at first) tree) (loans_from (first + 1) trees)) ∙ there)) [
      | inl here ↦ let found = in_tree first chunk tree all.0.in_root here in
          record { i = 0; within = omega arith; root = omega (arith, found.0); lent = found.1 }
      | inr later ↦ let rest = has_leaf trees (first + 1) chunk all.1 later in
          record {
            i = suc rest.i;
            within = omega (arith, rest.within);
            root = omega (arith, rest.root);
            lent = rest.lent;
          }
    ]

-- The tree of the chunk has its leaf.
pub leaf_there : (trees : List (List LentLeaf)) (chunk : Chunk) → AllByRecursion AreLeaves trees
    → is_lent_in (loans_from 0 trees) chunk ≡ true
    → (chunk.start / root_words < length trees)
    × (is_lent (get_or trees (chunk.start / root_words) []) (span_in chunk) ≡ true)
leaf_there trees chunk all there = (
  subst (λ (i : ℕ). i < length trees) (sym same) leaf.within,
  subst (λ (i : ℕ). is_lent (get_or trees i []) (span_in chunk) ≡ true) (sym same) leaf.lent,
)
  where
    leaf : HasLeaf trees 0 chunk
    leaf = has_leaf trees 0 chunk all there

    same : chunk.start / root_words ≡ leaf.i
    same = omega (arith, leaf.root)

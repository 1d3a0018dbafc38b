-- What the loans are once a leaf of a root has grown: its front, or into its parent.
use Rattle.std.proofs.Common.{◌≡◌, ◌<◌, ◌≤◌, ℕ, ◌+◌, ◌-◌, ◌*◌, Bool, true, false, cond, ◌&&◌, ◌||◌, ◌==◌, eqb-true}
use Rattle.std.proofs.Common.{eq-eqb, List, [], ◌∷◌, length, get_or, set, map, refl, sym, ap, ap₂, ◌∙◌, arith, inl, inr}
use Rattle.std.specs.Prelude.{◌⊎◌}
use Rattle.std.specs.List.{AllByRecursion}
use Rattle.std.proofs.lemmas.Bool.{and_parts}
use Rattle.std.proofs.lemmas.Bool.Decides.{nat_tests}
use Rattle.std.proofs.lemmas.List.{map-append}
use Rattle.ms_base.specs.declared.span.Chunk.{Chunk}
use Rattle.ms_base.specs.declared.span.Span.{Span}
use Rattle.ms_base.specs.Level.{size_of, root_words, highest_level}
use Rattle.ms_buddy.specs.Leaves.{LentLeaf, AreInOrder, AreLeaves, is_lent, is_same, span_of, with_front, with_parent}
use Rattle.ms_buddy.proofs.TreeHalvesLemmas.{size_of-halves, size_of-some}
use Rattle.ms_pool.specs.Ledger.{Loan}
use Rattle.ms_pool.specs.Keeping.{loan_at, loans_from}
use Rattle.ms_pool.specs.Growing.{with_greater_loan}
use Rattle.ms_pool.proofs.searches.FreeRootLemmas.{at_tree}
use Rattle.ms_pool.proofs.searches.RootLemmas.{EndsBy, StartsFrom, changed_at_root}

-- A lent leaf is the only one that starts where it does.
IsOnce : Span → LentLeaf → Type 0
IsOnce part leaf = (leaf.start == part.start) ≡ is_same part (span_of leaf)

starts_later : (low : ℕ) (part : Span) (leaves : List LentLeaf) → AllByRecursion (λ leaf. low ≤ leaf.start) leaves
    → is_lent leaves part ≡ true → low ≤ part.start
starts_later low part [] all there = absurd (cc)
starts_later low part (leaf ∷ leaves) all there =
    go (is_same part (span_of leaf)) refl there (starts_later low part leaves all.1)
  where
    go : (b : Bool) → is_same part (span_of leaf) ≡ b → (b || is_lent leaves part) ≡ true
        → (is_lent leaves part ≡ true → low ≤ part.start) → low ≤ part.start
    go true same e later =
        omega (
          arith,
          all.0,
          eqb-true leaf.start part.start (and_parts (leaf.start == part.start) (leaf.level == part.level) same).0,
        )
    go false same e later = later e

neither : (a b : ℕ) (c : Bool) → (a == b) ≡ false → (a == b) ≡ ((a == b) && c)
neither a b c e = e ∙ ap (λ t. t && c) (sym e)

differ_below : (a s b : ℕ) → a + s ≤ b → 0 < s → (a == b) ≡ false
differ_below a s b h some = grind (arith, nat_tests)

differ_above : (a b e : ℕ) → e ≤ a → b < e → (a == b) ≡ false
differ_above a b e h k = grind (arith, nat_tests)

none_later : (end : ℕ) (part : Span) (leaves : List LentLeaf) → part.start < end
    → AllByRecursion (λ leaf. end ≤ leaf.start) leaves → AllByRecursion (IsOnce part) leaves
unfolding IsOnce
none_later end part [] low all = tt
none_later end part (leaf ∷ leaves) low all = (
  neither leaf.start part.start (leaf.level == part.level) (differ_above leaf.start part.start end all.0 low),
  none_later end part leaves low all.1,
)

starts_once : (part : Span) (leaves : List LentLeaf) → AreInOrder leaves → is_lent leaves part ≡ true
    → AllByRecursion (IsOnce part) leaves
unfolding IsOnce
starts_once part [] order there = tt
starts_once part (leaf ∷ leaves) order there =
    go (is_same part (span_of leaf)) refl there (starts_once part leaves order.1)
  where
    go : (b : Bool) → is_same part (span_of leaf) ≡ b → (b || is_lent leaves part) ≡ true
        → (is_lent leaves part ≡ true → AllByRecursion (IsOnce part) leaves)
        → AllByRecursion (IsOnce part) (leaf ∷ leaves)
    go true same e rest =
        let starts : leaf.start ≡ part.start =
        eqb-true leaf.start part.start (and_parts (leaf.start == part.start) (leaf.level == part.level) same).0 in (
          eq-eqb leaf.start part.start starts ∙ sym same,
          none_later (leaf.start + size_of leaf.level) part leaves (omega (arith, starts, size_of-some leaf.level))
              order.0,
        )
    go false same e rest = (
      neither leaf.start part.start (leaf.level == part.level)
          (differ_below leaf.start (size_of leaf.level) part.start
          (starts_later (leaf.start + size_of leaf.level) part leaves order.0 e) (size_of-some leaf.level)),
      rest e,
    )

-- Loans of other roots stay.
same_before : (end : ℕ) (greater : Chunk) (loans : List Loan) → end ≤ greater.start → AllByRecursion (EndsBy end) loans
    → with_greater_loan greater loans ≡ loans
same_before end greater [] low all = refl
same_before end greater (loan ∷ loans) low all =
    ap (λ (b : Bool). cond b (record loan { chunk = greater }) loan ∷ with_greater_loan greater loans)
    (differ_below loan.chunk.start (size_of loan.chunk.level) greater.start (omega (arith, all.0, low))
    (size_of-some loan.chunk.level))
    ∙ ap (λ (l : List Loan). loan ∷ l) (same_before end greater loans low all.1)

same_after : (end : ℕ) (greater : Chunk) (loans : List Loan) → greater.start < end
    → AllByRecursion (StartsFrom end) loans → with_greater_loan greater loans ≡ loans
same_after end greater [] low all = refl
same_after end greater (loan ∷ loans) low all =
    ap (λ (b : Bool). cond b (record loan { chunk = greater }) loan ∷ with_greater_loan greater loans)
    (differ_above loan.chunk.start greater.start end all.0 low)
    ∙ ap (λ (l : List Loan). loan ∷ l) (same_after end greater loans low all.1)

-- A leaf that becomes the grown chunk is a loan that does.
abbrev Becomes : ℕ → Span → Chunk → (LentLeaf → LentLeaf) → Type 0
Becomes root part greater change = (leaf : LentLeaf) → is_same part (span_of leaf) ≡ true
    → loan_at root (change leaf) ≡ record (loan_at root leaf) { chunk = greater }

abbrev changed_at : Span → (LentLeaf → LentLeaf) → List LentLeaf → List LentLeaf
changed_at part change leaves = map (λ leaf. cond (is_same part (span_of leaf)) (change leaf) leaf) leaves

shifted : (a b c r : ℕ) → c ≡ r + b → (a + r == c) ≡ (a == b)
shifted a b c r e = grind (arith, nat_tests)

own_raised : (root : ℕ) (part : Span) (greater : Chunk) (change : LentLeaf → LentLeaf) (leaves : List LentLeaf)
    → greater.start ≡ root * root_words + part.start
    → Becomes root part greater change → AllByRecursion (IsOnce part) leaves
    → map (loan_at root) (changed_at part change leaves) ≡ with_greater_loan greater (map (loan_at root) leaves)
unfolding IsOnce
own_raised root part greater change [] e becomes once = refl
own_raised root part greater change (leaf ∷ leaves) e becomes once =
    ap₂ (λ (first : Loan) (rest : List Loan). first ∷ rest)
    (go (is_same part (span_of leaf)) refl
    ∙ ap (λ (b : Bool). cond b (record (loan_at root leaf) { chunk = greater }) (loan_at root leaf))
    (sym once.0 ∙ sym (shifted leaf.start part.start greater.start (root * root_words) e)))
    (own_raised root part greater change leaves e becomes once.1)
  where
    go : (b : Bool) → is_same part (span_of leaf) ≡ b
        → loan_at root (cond b (change leaf) leaf)
        ≡ cond b (record (loan_at root leaf) { chunk = greater }) (loan_at root leaf)
    go true same = becomes leaf same
    go false same = refl

raised_loans : (trees : List (List LentLeaf)) (root : ℕ) (part : Span) (greater : Chunk) (change : LentLeaf → LentLeaf)
    → root < length trees → AllByRecursion AreLeaves trees
    → greater.start ≡ root * root_words + part.start → part.start < root_words
    → is_lent (get_or trees root []) part ≡ true → Becomes root part greater change
    → loans_from 0 (set trees root (changed_at part change (get_or trees root [])))
    ≡ with_greater_loan greater (loans_from 0 trees)
raised_loans trees root part greater change within all e low lent becomes =
    changed_at_root trees root (changed_at part change tree) (with_greater_loan greater) within all (map-append _)
    (λ before ends. same_before (root * root_words) greater before (omega (arith, e)) ends)
    (λ after starts. same_after ((root + 1) * root_words) greater after (omega (arith, e, low)) starts)
    (own_raised root part greater change tree e becomes
    (starts_once part tree (at_tree trees root within all).in_order lent))
  where
    tree : List LentLeaf
    tree = get_or trees root []

-- A greater front, and the parent.
made_of : ℕ → ℕ → ℕ → ℕ → Loan
made_of owner start level front =
    record { owner = owner; chunk = record { start = start; level = level; front = front } }

pub loans_with_front : (trees : List (List LentLeaf)) (root : ℕ) (part : Span) (greater : Chunk) → root < length trees
    → AllByRecursion AreLeaves trees
    → greater.start ≡ root * root_words + part.start → greater.level ≡ part.level → part.start < root_words
    → is_lent (get_or trees root []) part ≡ true
    → loans_from 0 (set trees root (with_front part greater.front (get_or trees root [])))
    ≡ with_greater_loan greater (loans_from 0 trees)
unfolding made_of
loans_with_front trees root part greater within all e f low lent =
    raised_loans trees root part greater (λ (leaf : LentLeaf). record leaf { front = greater.front }) within all e low
    lent (λ leaf same.
    let parts = and_parts (leaf.start == part.start) (leaf.level == part.level) same in
    let start : leaf.start + root * root_words ≡ greater.start =
    omega (arith, e, eqb-true leaf.start part.start parts.0) in
    ap₂ (λ (s : ℕ) (l : ℕ). made_of leaf.owner s l greater.front) start
    (eqb-true leaf.level part.level parts.1 ∙ sym f))

pub loans_with_parent : (trees : List (List LentLeaf)) (root : ℕ) (part : Span) (greater : Chunk) → root < length trees
    → AllByRecursion AreLeaves trees
    → greater.start ≡ root * root_words + part.start → greater.level ≡ part.level - 1 → part.start < root_words
    → is_lent (get_or trees root []) part ≡ true
    → loans_from 0 (set trees root (with_parent part greater.front (get_or trees root [])))
    ≡ with_greater_loan greater (loans_from 0 trees)
unfolding made_of
loans_with_parent trees root part greater within all e f low lent =
    raised_loans trees root part greater
    (λ (leaf : LentLeaf). record leaf { level = leaf.level - 1; front = greater.front }) within all e low lent
    (λ leaf same.
    let parts = and_parts (leaf.start == part.start) (leaf.level == part.level) same in
    let start : leaf.start + root * root_words ≡ greater.start =
    omega (arith, e, eqb-true leaf.start part.start parts.0) in
    ap₂ (λ (s : ℕ) (l : ℕ). made_of leaf.owner s l greater.front) start
    (ap (λ (l : ℕ). l - 1) (eqb-true leaf.level part.level parts.1) ∙ sym f))

-- What a grown chunk's level says.
pub grown_size : (level above front : ℕ) (P : Type 0) → front ≤ size_of above
    → (above ≡ level) ⊎ ((above + 1 ≡ level) × P) → level ≤ highest_level → front ≤ 2 * size_of level
grown_size level above front P within grows low = elim grows [
  | inl same ↦ omega (arith, within, ap size_of same)
  | inr next ↦ omega (arith, within, size_of-halves above (omega (arith, next.0, low)), ap size_of next.0)
]

pub parent_level : (level above : ℕ) (P : Type 0) → (above ≡ level) ⊎ ((above + 1 ≡ level) × P) → (above ≡ level → ⊥)
    → above ≡ level - 1
parent_level level above P grows other = elim grows [
  | inl same ↦ absurd (other same)
  | inr next ↦ omega (arith, next.0)
]

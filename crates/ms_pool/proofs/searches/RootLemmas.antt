-- The loans of the trees, split at one root: those of the roots before it, its own, and those of
-- the roots after it. What changes one tree changes its own loans alone.
use Rattle.std.proofs.Common.{◌≡◌, ◌<◌, ◌≤◌, ℕ, zero, suc, ◌+◌, ◌*◌, List, [], ◌∷◌, ◌++◌, length, get_or, set, map}
use Rattle.std.proofs.Common.{refl, sym, ap, ap₂, subst, ◌∙◌, arith, append_assoc}
use Rattle.std.specs.List.{AllByRecursion}
use Rattle.ms_base.specs.Level.{size_of, root_words}
use Rattle.ms_base.proofs.free.PickLemmas.{both_joined}
use Rattle.ms_buddy.specs.Leaves.{LentLeaf, AreLeaves}
use Rattle.ms_pool.specs.Ledger.{Loan}
use Rattle.ms_pool.specs.Keeping.{loan_at, loans_from}

-- A loan lies below a word, or from one on.
abbrev pub EndsBy : ℕ → Loan → Type 0
EndsBy end loan = loan.chunk.start + size_of loan.chunk.level ≤ end

abbrev pub StartsFrom : ℕ → Loan → Type 0
StartsFrom start loan = start ≤ loan.chunk.start

-- A root's leaves, as loans, lie in it.
abbrev InRoot : LentLeaf → Type 0
InRoot leaf = leaf.start + size_of leaf.level ≤ root_words

pub ends_in_root : (root : ℕ) (leaves : List LentLeaf) → AllByRecursion InRoot leaves
    → AllByRecursion (EndsBy ((root + 1) * root_words)) (map (loan_at root) leaves)
ends_in_root root [] all = all
ends_in_root root (leaf ∷ leaves) all = (omega (arith, all.0), ends_in_root root leaves all.1)

starts_in_root : (root : ℕ) (leaves : List LentLeaf)
    → AllByRecursion (StartsFrom (root * root_words)) (map (loan_at root) leaves)
starts_in_root root [] = tt
starts_in_root root (leaf ∷ leaves) = (omega arith, starts_in_root root leaves)

wider_from : (low high : ℕ) (loans : List Loan) → low ≤ high → AllByRecursion (StartsFrom high) loans
    → AllByRecursion (StartsFrom low) loans
wider_from low high [] h all = all
wider_from low high (loan ∷ loans) h all = (omega (arith, all.0), wider_from low high loans h all.1)

wider_by : (low high : ℕ) (loans : List Loan) → low ≤ high → AllByRecursion (EndsBy low) loans
    → AllByRecursion (EndsBy high) loans
wider_by low high [] h all = all
wider_by low high (loan ∷ loans) h all = (omega (arith, all.0), wider_by low high loans h all.1)

pub starts_from_first : (first : ℕ) (trees : List (List LentLeaf))
    → AllByRecursion (StartsFrom (first * root_words)) (loans_from first trees)
starts_from_first first [] = tt
starts_from_first first (tree ∷ trees) =
    both_joined (StartsFrom (first * root_words)) (map (loan_at first) tree) (loans_from (first + 1) trees)
    (starts_in_root first tree)
    (wider_from (first * root_words) ((first + 1) * root_words) (loans_from (first + 1) trees) (omega arith)
    (starts_from_first (first + 1) trees))

-- The loans around those of a root.
pub record AtRoot (trees : List (List LentLeaf)) (first i root : ℕ) : Type 0 where
  pub before : List Loan
  pub after : List Loan
  pub whole : loans_from first trees ≡ before ++ (map (loan_at root) (get_or trees i []) ++ after)
  pub changed : (tree : List LentLeaf)
      → loans_from first (set trees i tree) ≡ before ++ (map (loan_at root) tree ++ after)
  pub low : AllByRecursion (EndsBy (root * root_words)) before
  pub high : AllByRecursion (StartsFrom ((root + 1) * root_words)) after

pub at_root : (trees : List (List LentLeaf)) (first i root : ℕ) → first + i ≡ root → i < length trees
    → AllByRecursion AreLeaves trees → AtRoot trees first i root
at_root [] first i root e within all = absurd (omega arith)
at_root (t ∷ trees) first zero root e within all =
    let same : first ≡ root = omega (arith, e) in
    subst (λ (r : ℕ). AtRoot (t ∷ trees) first zero r) same (record {
      before = [];
      after = loans_from (first + 1) trees;
      whole = refl;
      changed = λ tree. refl;
      low = tt;
      high = starts_from_first (first + 1) trees;
    })
at_root (t ∷ trees) first (suc i) root e within all =
    let rest = at_root trees (first + 1) i root (omega (arith, e)) (omega arith) all.1 in
    record {
      before = map (loan_at first) t ++ rest.before;
      after = rest.after;
      whole = ap (λ (l : List Loan). map (loan_at first) t ++ l) rest.whole
          ∙ sym (append_assoc (map (loan_at first) t) rest.before
          (map (loan_at root) (get_or trees i []) ++ rest.after));
      changed = λ tree. ap (λ (l : List Loan). map (loan_at first) t ++ l) (rest.changed tree)
          ∙ sym (append_assoc (map (loan_at first) t) rest.before (map (loan_at root) tree ++ rest.after));
      low = both_joined (EndsBy (root * root_words)) (map (loan_at first) t) rest.before
          (wider_by ((first + 1) * root_words) (root * root_words) (map (loan_at first) t) (omega (arith, e))
          (ends_in_root first t all.0.in_root))
          rest.low;
      high = rest.high;
    }

-- A change of loans, one by one, that leaves those of other roots is a change of the root's own
-- loans.
pub changed_at_root : (trees : List (List LentLeaf)) (root : ℕ) (leaves : List LentLeaf)
    (change : List Loan → List Loan) → root < length trees → AllByRecursion AreLeaves trees
    → ((before after : List Loan) → change (before ++ after) ≡ change before ++ change after)
    → ((before : List Loan) → AllByRecursion (EndsBy (root * root_words)) before → change before ≡ before)
    → ((after : List Loan) → AllByRecursion (StartsFrom ((root + 1) * root_words)) after → change after ≡ after)
    → map (loan_at root) leaves ≡ change (map (loan_at root) (get_or trees root []))
    → loans_from 0 (set trees root leaves) ≡ change (loans_from 0 trees)
changed_at_root trees root leaves change within all joins low high own =
    cut.changed leaves
    ∙ ap₂ (λ (b : List Loan) (rest : List Loan). b ++ rest) (sym (low cut.before cut.low))
    (ap₂ (λ (o : List Loan) (a : List Loan). o ++ a) own (sym (high cut.after cut.high)) ∙ sym (joins tree cut.after))
    ∙ sym (joins cut.before (tree ++ cut.after))
    ∙ sym (ap change cut.whole)
  where
    tree : List Loan
    tree = map (loan_at root) (get_or trees root [])

    cut : AtRoot trees 0 root root
    cut = at_root trees 0 root root (omega arith) within all

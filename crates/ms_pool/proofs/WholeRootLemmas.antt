-- A slot whose two trees are whole has no chunk. The proof of `is_whole` uses them.
use Rattle.std.proofs.Common.{◌≡◌, ◌<◌, ◌≤◌, ℕ, zero, suc, ◌+◌, ◌*◌, ◌/◌, Bool, true, false, cond, not, ◌&&◌, ◌||◌}
use Rattle.std.proofs.Common.{◌==◌, eqb-true, eq-eqb, ◌⊎◌, List, [], ◌∷◌, ◌++◌, get_or, map, refl, sym, ap, ◌∙◌, arith}
use Rattle.std.proofs.Common.{inl, inr, lt-ltb}
use Rattle.std.specs.Prelude.{◌↔◌}
use Rattle.std.specs.List.{AllByRecursion, list_any}
use Rattle.std.proofs.lemmas.Bool.{cases_lt, false≢true, false_from_ne_true, or_cases, or_left, or_right}
use Rattle.std.proofs.lemmas.List.Folds.{list_any-append}
use Rattle.ms_base.specs.declared.kind.Space.TheVariants.{NonClass}
use Rattle.ms_base.specs.Level.{size_of, root_words}
use Rattle.ms_base.specs.Part.{slot_of}
use Rattle.ms_base.specs.Held.{has_chunk_in}
use Rattle.ms_base.specs.Spaces.{is_in, first_class_word}
use Rattle.ms_buddy.specs.Leaves.{LentLeaf, AreLeaves}
use Rattle.ms_buddy.proofs.TreeHalvesLemmas.{size_of-some}
use Rattle.ms_pool.specs.Ledger.{Loan}
use Rattle.ms_pool.specs.Keeping.{loan_at, loans_from}
use Rattle.ms_pool.proofs.searches.FreeRootLemmas.{chunks_there}

-- A loan lies in the slot.
abbrev lies_in_slot : ℕ → Loan → Bool
lies_in_slot slot loan = slot_of loan.chunk.start == slot

-- Of slots below the class space's the loans are all in its space.
same_there : (slot : ℕ) (loans : List Loan) → slot < 64
    → has_chunk_in (chunks_there NonClass loans) slot ≡ list_any (lies_in_slot slot) loans
same_there slot [] low = refl
same_there slot (loan ∷ loans) low =
    step (is_in NonClass loan.chunk.start) (lies_in_slot slot loan) refl refl (same_there slot loans low)
  where
    below : (start : ℕ) → (slot_of start == slot) ≡ true → is_in NonClass start ≡ true
    below start e = lt-ltb start first_class_word (omega (arith, low, eqb-true (slot_of start) slot e))

    step : (here lies : Bool) → is_in NonClass loan.chunk.start ≡ here → lies_in_slot slot loan ≡ lies
        → has_chunk_in (chunks_there NonClass loans) slot ≡ list_any (lies_in_slot slot) loans
        → has_chunk_in (cond here (loan.chunk ∷ chunks_there NonClass loans) (chunks_there NonClass loans)) slot
        ≡ (lies || list_any (lies_in_slot slot) loans)
    step true lies e f same = ap (λ (b : Bool). b || has_chunk_in (chunks_there NonClass loans) slot) f
        ∙ ap (λ (b : Bool). lies || b) same
    step false true e f same = absurd (false≢true (sym e ∙ below loan.chunk.start f))
    step false false e f same = same

-- A tree that has a leaf in the slot.
record HasTree (trees : List (List LentLeaf)) (first slot : ℕ) : Type 0 where
  i : ℕ
  is : (first + i) / 2 ≡ slot
  some : get_or trees i [] ≡ [] → ⊥

in_tree : (root slot : ℕ) (leaves : List LentLeaf)
    → AllByRecursion (λ leaf. leaf.start + size_of leaf.level ≤ root_words) leaves
    → list_any (lies_in_slot slot) (map (loan_at root) leaves) ≡ true → root / 2 ≡ slot
in_tree root slot [] all there = absurd (cc)
in_tree root slot (leaf ∷ leaves) all there =
    elim (or_cases (slot_of (leaf.start + root * root_words) == slot)
    (list_any (lies_in_slot slot) (map (loan_at root) leaves)) there) [
      | inl here ↦
          omega (arith, eqb-true (slot_of (leaf.start + root * root_words)) slot here, all.0, size_of-some leaf.level)
      | inr later ↦ in_tree root slot leaves all.1 later
    ]

not_none : (root slot : ℕ) (leaves : List LentLeaf) → list_any (lies_in_slot slot) (map (loan_at root) leaves) ≡ true
    → leaves ≡ [] → ⊥
not_none root slot leaves there none =
    false≢true (sym (ap (λ (l : List LentLeaf). list_any (lies_in_slot slot) (map (loan_at root) l)) none) ∙ there)

tree_with : (trees : List (List LentLeaf)) (first slot : ℕ) → AllByRecursion AreLeaves trees
    → list_any (lies_in_slot slot) (loans_from first trees) ≡ true
    → HasTree trees first slot
tree_with [] first slot all there = absurd (cc)
tree_with (tree ∷ trees) first slot all there =
    elim (or_cases (list_any (lies_in_slot slot) (map (loan_at first) tree))
    (list_any (lies_in_slot slot) (loans_from (first + 1) trees))
    (sym (list_any-append (lies_in_slot slot) (map (loan_at first) tree) (loans_from (first + 1) trees)) ∙ there)) [
      | inl here ↦ let own = in_tree first slot tree all.0.in_root here in
          record { i = 0; is = omega (arith, own); some = not_none first slot tree here }
      | inr later ↦ let rest = tree_with trees (first + 1) slot all.1 later in
          record { i = suc rest.i; is = omega (arith, rest.is); some = rest.some }
    ]

tree_lies : (trees : List (List LentLeaf)) (first i slot : ℕ) → AllByRecursion AreLeaves trees → (first + i) / 2 ≡ slot
    → (get_or trees i [] ≡ [] → ⊥)
    → list_any (lies_in_slot slot) (loans_from first trees) ≡ true
tree_lies [] first i slot all is some = absurd (some refl)
tree_lies ([] ∷ trees) first zero slot all is some = absurd (some refl)
tree_lies ((leaf ∷ leaves) ∷ trees) first zero slot all is some =
    or_left (lies_in_slot slot (loan_at first leaf))
    (list_any (lies_in_slot slot) (map (loan_at first) leaves ++ loans_from (first + 1) trees))
    (eq-eqb (slot_of (leaf.start + first * root_words)) slot
    (omega (arith, is, all.0.in_root.0, size_of-some leaf.level)))
tree_lies (tree ∷ trees) first (suc i) slot all is some =
    list_any-append (lies_in_slot slot) (map (loan_at first) tree) (loans_from (first + 1) trees)
    ∙ or_right (list_any (lies_in_slot slot) (map (loan_at first) tree))
    (list_any (lies_in_slot slot) (loans_from (first + 1) trees))
    (tree_lies trees (first + 1) i slot all.1 (omega (arith, is)) some)

-- Both trees of a slot are whole exactly where it has no chunk.
pub whole_slot : (trees : List (List LentLeaf)) (slot : ℕ) (lower upper : Bool) → AllByRecursion AreLeaves trees
    → slot < 64
    → (lower ≡ true) ↔ (get_or trees (2 * slot) [] ≡ []) → (upper ≡ true) ↔ (get_or trees (2 * slot + 1) [] ≡ [])
    → (lower && upper) ≡ not (has_chunk_in (chunks_there NonClass (loans_from 0 trees)) slot)
whole_slot trees slot true true all low first second =
    sym (ap not
    (same_there slot (loans_from 0 trees) low
    ∙ false_from_ne_true (list_any (lies_in_slot slot) (loans_from 0 trees))
    (λ there. none (tree_with trees 0 slot all there))))
  where
    none : HasTree trees 0 slot → ⊥
    none tree = elim (lower_or_upper tree.i (tree.is)) [
      | inl same ↦ tree.some (ap (λ (i : ℕ). get_or trees i []) same ∙ first.0 refl)
      | inr same ↦ tree.some (ap (λ (i : ℕ). get_or trees i []) same ∙ second.0 refl)
    ]
      where
        lower_or_upper : (i : ℕ) → (0 + i) / 2 ≡ slot → (i ≡ 2 * slot) ⊎ (i ≡ 2 * slot + 1)
        lower_or_upper i e = elim (halves i) [
          | inl even ↦ inl (omega (arith, e, even))
          | inr odd ↦ inr (omega (arith, e, odd))
        ]
          where
            halves : (i : ℕ) → (i ≡ 2 * (i / 2)) ⊎ (i ≡ 2 * (i / 2) + 1)
            halves i = elim (cases_lt (2 * (i / 2)) i) [
              | inl more ↦ inr (omega (arith, more))
              | inr same ↦ inl (omega (arith, same))
            ]
whole_slot trees slot true false all low first second =
    sym (ap not
    (same_there slot (loans_from 0 trees) low
    ∙ tree_lies trees 0 (2 * slot + 1) slot all (omega arith) (λ none. false≢true (second.1 none))))
whole_slot trees slot false upper all low first second =
    sym (ap not
    (same_there slot (loans_from 0 trees) low
    ∙ tree_lies trees 0 (2 * slot) slot all (omega arith) (λ none. false≢true (first.1 none))))

-- What is read of a tree, as what the list has there.
pub by_read : (whole : Bool) (tree there : List LentLeaf) → tree ≡ there → (whole ≡ true) ↔ (tree ≡ [])
    → (whole ≡ true) ↔ (there ≡ [])
by_read whole tree there same known = (λ e. sym same ∙ known.0 e, λ e. known.1 (same ∙ e))

-- The index of the trees: what a root's levels told anew do to it, and that it is exact over whole
-- trees. `Index` and `Trees` use these.
use Rattle.std.proofs.Common.{◌≡◌, ◌≢◌, ◌<◌, ◌≤◌, ℕ, suc, zero, ◌+◌, ◌*◌, ◌/◌, Bool, true, false, ◌||◌, ◌==◌, List, []}
use Rattle.std.proofs.Common.{length, get_or, set, refl, sym, ap, subst, ◌∙◌, inl, inr, arith, bit_or}
use Rattle.std.specs.Prelude.{replicate}
use Rattle.std.specs.List.{list_any}
use Rattle.std.proofs.lemmas.Bool.{cases_eq, cases_lt}
use Rattle.std.proofs.lemmas.List.{get_or-replicate, get_or-set_other, get_or-set_same, get_or_past, get_or_read}
use Rattle.ms_buddy.specs.Leaves.{LentLeaf, free_of, has_level, is_of}
use Rattle.ms_buddy.proofs.FreeLeafLemmas.{free_of-none}
use Rattle.ms_buddy.proofs.bits.LeafLevelLemmas.{has_level-one, has_level-or, none_has}
use Rattle.ms_pool.specs.Trees.{AreGathered, HaveGroups, HaveLevels, IsIndex}

-- The levels of one more root.
pub one_more : (levels at_ from : ℕ) (roots : List ℕ) → HaveLevels levels roots (λ root. (from ≤ root) × (root < at_))
    → HaveLevels (bit_or levels (get_or roots at_ 0)) roots (λ root. (from ≤ root) × (root < at_ + 1))
one_more levels at_ from roots so_far level root there asked has =
    has_level-or levels (get_or roots at_ 0) level
    ∙ elim (cases_eq root at_) [
      | inl here ↦ right (has_level levels level) (has_level (get_or roots at_ 0) level)
          (ap (λ (r : ℕ). has_level (get_or roots r 0) level) (sym here) ∙ has)
      | inr before ↦ left (has_level levels level) (has_level (get_or roots at_ 0) level)
          (so_far level root there (asked.0, omega (arith, asked.1, before)) has)
    ]
  where
    right : (a b : Bool) → b ≡ true → (a || b) ≡ true
    right true b e = refl
    right false b e = e

    left : (a b : Bool) → a ≡ true → (a || b) ≡ true
    left a b e = ap (λ c. c || b) e

-- With the levels of its group gathered anew, a root's own levels are among them.
pub members_told : (roots groups : List ℕ) (root levels whole : ℕ) → root < 160 → length groups ≡ 10
    → HaveGroups groups roots
    → HaveLevels whole (set roots root levels) (λ other. (root / 16 * 16 ≤ other) × (other < root / 16 * 16 + 16))
    → HaveGroups (set groups (root / 16) whole) (set roots root levels)
members_told roots groups root levels whole there size members gathered level other within has =
    elim (cases_eq (other / 16) (root / 16)) [
      | inl same ↦ ap (λ (g : ℕ). has_level (get_or (set groups (root / 16) whole) g 0) level) same
          ∙ ap (λ bits. has_level bits level) (get_or-set_same groups (root / 16) whole 0 (omega arith))
          ∙ gathered level other within (omega arith, omega arith) has
      | inr apart ↦ ap (λ bits. has_level bits level) (get_or-set_other groups (root / 16) (other / 16) whole 0 apart)
          ∙ members level other within
          (ap (λ bits. has_level bits level)
          (sym (get_or-set_other roots root other levels 0 (λ e. apart (ap (λ (r : ℕ). r / 16) e)))) ∙ has)
    ]

-- Where a group is told that isn't asked for, the levels have those of the others as before.
pub levels_kept : (levels : ℕ) (groups : List ℕ) (at_ whole : ℕ) (IsAsked : ℕ → Type 0)
    → HaveLevels levels groups IsAsked → (IsAsked at_ → ⊥) → HaveLevels levels (set groups at_ whole) IsAsked
levels_kept levels groups at_ whole IsAsked kept apart level group there asked has =
    kept level group there asked
    (ap (λ bits. has_level bits level)
    (sym (get_or-set_other groups at_ group whole 0 (λ e. apart (subst IsAsked e asked)))) ∙ has)

-- No group past the last one has a level.
pub class_told : (levels : ℕ) (groups : List ℕ) → length groups ≡ 10
    → HaveLevels levels groups (λ group. (8 ≤ group) × (group < 10)) → HaveLevels levels groups (λ group. 8 ≤ group)
class_told levels groups size told level group there asked has = elim (cases_lt group 10) [
  | inl low ↦ told level group there (asked, low) has
  | inr past ↦ absurd (none_has level
      (sym (ap (λ b. has_level b level) (get_or_past groups group 0 (omega (arith, past, size)))) ∙ has))
]

-- Each root has level 0, and so has each group and each space.
pub whole_gathered : AreGathered (replicate 160 1) (replicate 10 1) 1 1
whole_gathered = record {
  members = λ level root there has.
      ap (λ b. has_level b level)
      (get_or-replicate 10 (root / 16) 1 0 (omega (arith, there)) ∙ sym (get_or-replicate 160 root 1 0 there)) ∙ has;
  space = λ level group there asked has.
      ap (λ b. has_level b level) (sym (get_or-replicate 10 group 1 0 (omega (arith, asked)))) ∙ has;
  class_space = λ level group there asked has. elim (cases_lt group 10) [
    | inl low ↦ ap (λ b. has_level b level) (sym (get_or-replicate 10 group 1 0 low)) ∙ has
    | inr past ↦ absurd (none_has level
        (sym (ap (λ b. has_level b level) (get_or_past (replicate 10 1) group 0 past)) ∙ has))
  ];
}

-- With whole trees alone each has level 0 free.
read_replicate : (count at_ : ℕ) → get_or {A = List LentLeaf} (replicate count []) at_ [] ≡ []
read_replicate zero at_ = refl
read_replicate (suc count) zero = refl
read_replicate (suc count) (suc at_) = read_replicate count at_

pub index_of_whole : (count : ℕ) (roots : List ℕ) (trees : List (List LentLeaf)) → count ≤ 160
    → roots ≡ replicate 160 1 → trees ≡ replicate count [] → length trees ≡ count → IsIndex roots trees
index_of_whole count roots trees few e f size = record {
  few = omega (arith, few, size);
  exact = λ level root there.
      ap (λ (all : List ℕ). has_level (get_or all root 0) level) e
      ∙ ap (λ bits. has_level bits level) (get_or-replicate 160 root 1 0 (omega (arith, there, size, few)))
      ∙ has_level-one 0 level
      ∙ beside (0 == level)
      ∙ sym (ap (λ (tree : List LentLeaf). list_any (is_of level) (free_of tree))
      (ap (λ (all : List (List LentLeaf)). get_or all root []) f ∙ read_replicate count root)
      ∙ ap (list_any (is_of level)) free_of-none);
}
  where
    beside : (b : Bool) → b ≡ (b || false)
    beside true = refl
    beside false = refl

-- Where one tree has changed and its root's levels are told anew, the index is exact again.
pub exact_again : (old new : List ℕ) (old_trees trees : List (List LentLeaf)) (root levels : ℕ) (tree : List LentLeaf)
    → IsIndex old old_trees → length trees ≡ length old_trees
    → ((other : ℕ) → other ≢ root → get_or trees other [] ≡ get_or old_trees other [])
    → get_or new root 0 ≡ levels → ((other : ℕ) → other ≢ root → get_or new other 0 ≡ get_or old other 0)
    → tree ≡ get_or trees root tree → ((level : ℕ) → has_level levels level ≡ list_any (is_of level) (free_of tree))
    → IsIndex new trees
exact_again old new old_trees trees root levels tree index size alike here others read told = record {
  few = omega (arith, index.few, size);
  exact = λ level at_ there. elim (cases_eq at_ root) [
    | inl same ↦ ap (λ (r : ℕ). has_level (get_or new r 0) level) same
        ∙ ap (λ bits. has_level bits level) here
        ∙ told level
        ∙ ap (has_of level) (get_or_read trees root tree (omega (arith, same, there)) read [])
        ∙ ap (λ (r : ℕ). has_of level (get_or trees r [])) (sym same)
    | inr apart ↦ ap (λ bits. has_level bits level) (others at_ apart)
        ∙ index.exact level at_ (omega (arith, there, size))
        ∙ sym (ap (has_of level) (alike at_ apart))
  ];
}
  where
    has_of : ℕ → List LentLeaf → Bool
    has_of level tree = list_any (is_of level) (free_of tree)

-- The trees of the roots that may be reserved, and which of them have a free leaf of a level.
use Rattle.std.specs.Prelude.{◌≡◌, ℕ, ◌*◌, ◌/◌, ◌<◌, ◌≤◌, Bool, true, false, List, [], length, get_or}
use Rattle.std.specs.List.{list_any}
use Rattle.ms_base.specs.declared.kind.Space.{Space}
use Rattle.ms_base.specs.declared.kind.Space.TheVariants.{NonClass, Class}
use Rattle.ms_base.specs.Spaces.{first_class_slot}
use Rattle.ms_buddy.specs.Leaves.{LentLeaf, free_of, has_level, is_of}

-- What callers see: the lent leaves of each root.
pub record TreesState : Type 0 where
  pub items : List (List LentLeaf)

-- The tree of the root has a free leaf of the level.
abbrev pub has_free : List (List LentLeaf) → ℕ → ℕ → Bool
has_free trees level root = list_any (is_of level) (free_of (get_or trees root []))

-- How many roots the index has: two for each slot of both spaces.
abbrev pub all_roots : ℕ
all_roots = 160

-- The root is one of the space.
abbrev pub IsRootOf : Space → ℕ → Type 0
IsRootOf NonClass root = root < 2 * first_class_slot
IsRootOf Class root = 2 * first_class_slot ≤ root

-- Among the levels are those of each entry that is asked for: of each root, or of each group.
abbrev pub HaveLevels : ℕ → List ℕ → (ℕ → Type 0) → Type 0
HaveLevels levels entries IsAsked = (level entry : ℕ) → entry < all_roots → IsAsked entry
    → has_level (get_or entries entry 0) level ≡ true → has_level levels level ≡ true

-- Sixteen roots are a group: among its levels are those of each of them.
abbrev pub HaveGroups : List ℕ → List ℕ → Type 0
HaveGroups groups roots = (level root : ℕ) → root < all_roots → has_level (get_or roots root 0) level ≡ true
    → has_level (get_or groups (root / 16) 0) level ≡ true

-- The groups have the levels of their roots, and each space has those of its groups.
pub record AreGathered (roots groups : List ℕ) (levels class_levels : ℕ) : Type 0 where
  pub members : HaveGroups groups roots
  pub space : HaveLevels levels groups (λ group. group < 8)
  pub class_space : HaveLevels class_levels groups (λ group. 8 ≤ group)

-- The index has exactly the levels of which each root's tree has a free leaf.
pub record IsIndex (roots : List ℕ) (trees : List (List LentLeaf)) : Type 0 where
  pub few : length trees ≤ all_roots
  pub exact : (level root : ℕ) → root < length trees → has_level (get_or roots root 0) level ≡ has_free trees level root

-- No root of the space has a free leaf of a level whose bit is clear.
abbrev pub LeaveNone : ℕ → Space → List (List LentLeaf) → Type 0
LeaveNone levels space trees = (level root : ℕ) → IsRootOf space root → root < length trees
    → has_level levels level ≡ false → has_free trees level root ≡ false

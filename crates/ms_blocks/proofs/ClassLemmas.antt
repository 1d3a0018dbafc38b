-- Blocks by rank in trees of one class each: where a block goes, and which one fits first, in the
-- trees' blocks one after the other. Used by the functions of `classes`.
use Rattle.std.proofs.Common.{◌≡◌, ◌≢◌, ℕ, ◌+◌, ◌<◌, ◌≤◌, true, false, List, [], ◌∷◌, ◌++◌, Option, Some, None, refl}
use Rattle.std.proofs.Common.{ap, ap₂, sym, subst, ◌∙◌, arith, zero, suc, take, drop, inl, inr}
use Rattle.std.specs.Prelude.{nat_le, if◌then◌else◌, slice_get, slice_set}
use Rattle.std.specs.List.{AllByRecursion}
use Rattle.std.proofs.lemmas.Bool.{cases_lt, le-leb, lt-leb}
use Rattle.std.proofs.lemmas.List.{append-nil}
use Rattle.std.proofs.lemmas.Bool.Decides.{nat_tests}
use Rattle.ms_base.specs.declared.span.Block.{Block}
use Rattle.ms_blocks.specs.Classes.{AreClassed, AreOf, NoneFitsAt}
use Rattle.ms_blocks.specs.Classes.{all_of, class_of}
use Rattle.ms_blocks.specs.Rank.{ranks_before, IsRanked, with_ranked, first_fit, without_fit}
use Rattle.ms_blocks.specs.Tree.{blocks_of}
use Rattle.ms_blocks.specs.declared.tree.Tree.{Tree}
use Rattle.ms_blocks.proofs.RankLemmas.{all_left, all_so, first_fit-left, first_fit-past}
use Rattle.ms_blocks.proofs.RankLemmas.{with_ranked-left, without_fit-left, without_fit-none, without_fit-past}

-- More words are in no lower class.
class_up : (few many : ℕ) → few ≤ many → class_of few ≤ class_of many
class_up few many h = grind (arith, nat_tests)

class_few : (few words : ℕ) → class_of few < class_of words → few < words
class_few few words h = elim (cases_lt few words) [
  | inl less ↦ less
  | inr more ↦ absurd (omega (arith, h, class_up words few more))
]

pub class_within : (words : ℕ) → class_of words < 64
class_within words = grind (arith, nat_tests)

-- A block of a lower class ranks before one of a higher class.
fewer_first : (a b : Block) → a.words < b.words → ranks_before a b ≡ true
fewer_first a b h = grind (arith, nat_tests)

more_behind : (a b : Block) → b.words < a.words → ranks_before a b ≡ false
more_behind a b h = grind (arith, nat_tests)

class_first : (a b : Block) → class_of a.words < class_of b.words → ranks_before a b ≡ true
class_first a b h = fewer_first a b (class_few a.words b.words h)

class_behind : (a b : Block) → class_of b.words < class_of a.words → ranks_before a b ≡ false
class_behind a b h = more_behind a b (class_few b.words a.words h)

all_append : (P : Block → Type 0) (left right : List Block) → AllByRecursion P left → AllByRecursion P right
    → AllByRecursion P (left ++ right)
all_append P [] right one other = other
all_append P (block ∷ left) right one other = (one.0, all_append P left right one.1 other)

-- A block goes past those that rank before it, and stays before those that don't.
with_ranked-past : (left rest : List Block) (block : Block)
    → AllByRecursion (λ other. ranks_before other block ≡ true) left
    → with_ranked (left ++ rest) block ≡ left ++ with_ranked rest block
with_ranked-past [] rest block before = refl
with_ranked-past (other ∷ left) rest block before =
    rw before.0 (ap (λ blocks. other ∷ blocks) (with_ranked-past left rest block before.1))

with_ranked-here : (left rest : List Block) (block : Block)
    → AllByRecursion (λ other. ranks_before other block ≡ false) rest
    → with_ranked (left ++ rest) block ≡ with_ranked left block ++ rest
with_ranked-here left [] block behind =
    ap (λ blocks. with_ranked blocks block) (append-nil left) ∙ sym (append-nil (with_ranked left block))
with_ranked-here left (other ∷ rest) block behind = with_ranked-left left rest other block behind.0

-- All blocks are too small where their class is lower.
few_fit : (blocks : List Block) (words : ℕ) → AllByRecursion (λ (b : Block). class_of b.words < class_of words) blocks
    → first_fit blocks words ≡ None
few_fit [] words few = refl
few_fit (block ∷ blocks) words few =
    rw (lt-leb words block.words (class_few block.words words few.0)) (few_fit blocks words few.1)

-- The blocks of trees from a class on are of no lower one.
pub later : {A : Type 0} (trees : List (Tree A)) (class : ℕ) → AreClassed class trees
    → AllByRecursion (λ (b : Block). class ≤ class_of b.words) (all_of trees)
later [] class classed = tt
later (tree ∷ trees) class classed =
    all_append (λ (b : Block). class ≤ class_of b.words) (blocks_of tree) (all_of trees)
    (all_so _ _ (blocks_of tree) (λ b is. omega (arith, is)) classed.0)
    (all_so _ _ (all_of trees) (λ b more. omega (arith, more)) (later trees (class + 1) classed.1))

-- A tree's blocks are of its class, and others of that class may take their place.
pub classed_at : {A : Type 0} (trees : List (Tree A)) (class at : ℕ) (tree : Tree A) → AreClassed class trees
    → slice_get trees at ≡ Some tree → AreOf (class + at) (blocks_of tree)
classed_at [] class at tree classed there = absurd (cc)
classed_at (first ∷ trees) class zero tree classed there =
    let same : first ≡ tree = cc in
    subst (λ (t : Tree _). AreOf (class + 0) (blocks_of t)) same
    (all_so _ _ (blocks_of first) (λ b is. omega (arith, is)) classed.0)
classed_at (first ∷ trees) class (suc at) tree classed there =
    all_so _ _ (blocks_of tree) (λ b is. omega (arith, is)) (classed_at trees (class + 1) at tree classed.1 there)

pub classed_with : {A : Type 0} (trees : List (Tree A)) (class at : ℕ) (changed : Tree A) → AreClassed class trees
    → AreOf (class + at) (blocks_of changed) → AreClassed class (slice_set trees at changed)
classed_with [] class at changed classed all = tt
classed_with (first ∷ trees) class zero changed classed all =
    (all_so _ _ (blocks_of changed) (λ b is. omega (arith, is)) all, classed.1)
classed_with (first ∷ trees) class (suc at) changed classed all = (
  classed.0,
  classed_with trees (class + 1) at changed classed.1
      (all_so _ _ (blocks_of changed) (λ b is. omega (arith, is)) all),
)

-- A block goes into the tree of its class.
pub inserted : {A : Type 0} (trees : List (Tree A)) (class at : ℕ) (tree grown : Tree A) (block : Block)
    → AreClassed class trees → class_of block.words ≡ class + at → slice_get trees at ≡ Some tree
    → blocks_of grown ≡ with_ranked (blocks_of tree) block
    → all_of (slice_set trees at grown) ≡ with_ranked (all_of trees) block
inserted [] class at tree grown block classed is there grows = absurd (cc)
inserted (first ∷ trees) class zero tree grown block classed is there grows =
    let same : first ≡ tree = cc in
    ap (λ (bs : List Block). bs ++ all_of trees)
    (grows ∙ ap (λ (t : Tree _). with_ranked (blocks_of t) block) (sym same))
    ∙ sym (with_ranked-here (blocks_of first) (all_of trees) block
    (all_so _ _ (all_of trees) (λ b more. class_behind b block (omega (arith, is, more)))
    (later trees (class + 1) classed.1)))
inserted (first ∷ trees) class (suc at) tree grown block classed is there grows =
    ap (λ (bs : List Block). blocks_of first ++ bs)
    (inserted trees (class + 1) at tree grown block classed.1 (omega (arith, is)) there grows)
    ∙ sym (with_ranked-past (blocks_of first) (all_of trees) block
    (all_so _ _ (blocks_of first) (λ b low. class_first b block (omega (arith, is, low))) classed.0))

none_left : (left rest : List Block) (words : ℕ) → first_fit (left ++ rest) words ≡ None
    → first_fit left words ≡ None
none_left [] rest words none = refl
none_left (other ∷ left) rest words none =
    elim (nat_le words other.words) as (λ b. (if b then Some other else first_fit (left ++ rest) words) ≡ None
    → (if b then Some other else first_fit left words) ≡ None) [
      | true ↦ λ none. absurd (cc)
      | false ↦ λ none. none_left left rest words none
    ] none

-- What fits first in front of blocks fits first of all, and where nothing does, none behind may.
fit_in_front : (left rest : List Block) (words : ℕ) (taken : Option Block) → first_fit left words ≡ taken
    → (taken ≡ None → first_fit rest words ≡ None)
    → (first_fit (left ++ rest) words ≡ taken) × (without_fit (left ++ rest) words ≡ without_fit left words ++ rest)
fit_in_front left rest words (Some found) is behind =
    (first_fit-left left rest words found is, without_fit-left left rest words found is)
fit_in_front left rest words None is behind = (
  first_fit-past left rest words is ∙ behind refl,
  without_fit-past left rest words is
      ∙ ap₂ (λ (xs ys : List Block). xs ++ ys) (sym (without_fit-none left words is))
      (without_fit-none rest words (behind refl)),
)

-- The first fit is taken from a tree where none before it fits, and where none fits in it, none
-- behind it does.
pub record TakesAmong {A : Type 0} (trees : List (Tree A)) (at words : ℕ) (rest : Tree A) (taken : Option Block)
    : Type 0 where
  pub found : first_fit (all_of trees) words ≡ taken
  pub left : all_of (slice_set trees at rest) ≡ without_fit (all_of trees) words

pub takes_among : {A : Type 0} (trees : List (Tree A)) (at : ℕ) (tree rest : Tree A) (words : ℕ) (taken : Option Block)
    → slice_get trees at ≡ Some tree → first_fit (all_of (take at trees)) words ≡ None
    → (taken ≡ None → first_fit (all_of (drop (suc at) trees)) words ≡ None)
    → first_fit (blocks_of tree) words ≡ taken → blocks_of rest ≡ without_fit (blocks_of tree) words
    → TakesAmong trees at words rest taken
takes_among [] at tree rest words taken there none behind is left = absurd (cc)
takes_among (first ∷ trees) zero tree rest words taken there none behind is left =
    let same : first ≡ tree = cc in
    let front = fit_in_front (blocks_of first) (all_of trees) words taken
    (ap (λ (t : Tree _). first_fit (blocks_of t) words) same ∙ is) behind in record {
      found = front.0;
      left = ap (λ (bs : List Block). bs ++ all_of trees)
          (left ∙ ap (λ (t : Tree _). without_fit (blocks_of t) words) (sym same)) ∙ sym front.1;
    }
takes_among (first ∷ trees) (suc at) tree rest words taken there none behind is left =
    let here = none_left (blocks_of first) (all_of (take at trees)) words none in
    let more = takes_among trees at tree rest words taken there
    (sym (first_fit-past (blocks_of first) (all_of (take at trees)) words here) ∙ none) behind is left in record {
      found = first_fit-past (blocks_of first) (all_of trees) words here ∙ more.found;
      left = ap (λ (bs : List Block). blocks_of first ++ bs) more.left
          ∙ sym (without_fit-past (blocks_of first) (all_of trees) words here);
    }

-- Each tree's blocks are ranked.
ranked_parts : (left right : List Block) → IsRanked (left ++ right) → IsRanked left × IsRanked right
ranked_parts [] right ranked = (tt, ranked)
ranked_parts (block ∷ left) right ranked =
    let parts = ranked_parts left right ranked.1 in
    ((all_left (λ other. ranks_before block other ≡ true) left right ranked.0, parts.0), parts.1)

pub ranked_at : {A : Type 0} (trees : List (Tree A)) (at : ℕ) (tree : Tree A) → IsRanked (all_of trees)
    → slice_get trees at ≡ Some tree → IsRanked (blocks_of tree)
ranked_at [] at tree ranked there = absurd (cc)
ranked_at (first ∷ trees) zero tree ranked there =
    let same : first ≡ tree = cc in
    subst (λ (t : Tree _). IsRanked (blocks_of t)) same (ranked_parts (blocks_of first) (all_of trees) ranked).0
ranked_at (first ∷ trees) (suc at) tree ranked there =
    ranked_at trees at tree (ranked_parts (blocks_of first) (all_of trees) ranked).1 there

-- None before a class fits where none from that of the words on does: those of lower classes are
-- too small.
pub none_before : {A : Type 0} (trees : List (Tree A)) (class at words : ℕ) → AreClassed class trees
    → ((k : ℕ) → k < at → class_of words ≤ class + k → NoneFitsAt trees k words)
    → first_fit (all_of (take at trees)) words ≡ None
none_before trees class zero words classed none = refl
none_before [] class (suc at) words classed none = refl
none_before (tree ∷ trees) class (suc at) words classed none =
    first_fit-past (blocks_of tree) (all_of (take at trees)) words here
    ∙ none_before trees (class + 1) at words classed.1
    (λ k low from tree there. none (suc k) (omega (arith, low)) (omega (arith, from)) tree there)
  where
    here : first_fit (blocks_of tree) words ≡ None
    here = elim (cases_lt class (class_of words)) [
      | inl low ↦ few_fit (blocks_of tree) words
          (all_so _ _ (blocks_of tree) (λ b is. omega (arith, is, low)) classed.0)
      | inr high ↦ none 0 (omega arith) (omega (arith, high)) tree refl
    ]

-- One of a higher class has so many words.
pub some_fits : (blocks : List Block) (words class : ℕ) → AreOf class blocks
    → class_of words < class → blocks ≢ [] → first_fit blocks words ≢ None
some_fits [] words class all low full none = full refl
some_fits (block ∷ blocks) words class all low full none =
    let less : words < block.words = class_few words block.words (omega (arith, low, all.0)) in
    let is : Some block ≡ None = rw (le-leb words block.words (omega (arith, less))) at none in absurd (cc)

-- A fork has a block.
pub not_none : (left right : List Block) (block : Block) → left ++ block ∷ right ≢ []
not_none [] right block e = absurd (cc)
not_none (other ∷ left) right block e = absurd (cc)

pub both_none : (left right : List Block) → left ++ right ≡ [] → (left ≡ []) × (right ≡ [])
both_none [] right e = (refl, e)
both_none (block ∷ left) right e = absurd (cc)

-- One tree more, with no block.
pub classed_more : {A : Type 0} (trees : List (Tree A)) (class : ℕ) (tree : Tree A) → AreClassed class trees
    → blocks_of tree ≡ [] → AreClassed class (trees ++ tree ∷ [])
classed_more [] class tree classed none = (rw none tt, tt)
classed_more (first ∷ trees) class tree classed none =
    (classed.0, classed_more trees (class + 1) tree classed.1 none)

pub none_more : {A : Type 0} (trees : List (Tree A)) (tree : Tree A) → all_of trees ≡ [] → blocks_of tree ≡ []
    → all_of (trees ++ tree ∷ []) ≡ []
none_more [] tree none empty = ap (λ (bs : List Block). bs ++ []) empty
none_more (first ∷ trees) tree none empty =
    let parts = both_none (blocks_of first) (all_of trees) none in
    ap (λ (bs : List Block). bs ++ all_of (trees ++ tree ∷ [])) parts.0 ∙ none_more trees tree parts.1 empty

-- Trees by class once one of them gains or loses a block, and what is found by the bits that tell of
-- them. The calls of `classes` use these.
use Rattle.std.proofs.Common.{◌≡◌, ◌≢◌, ℕ, ◌+◌, ◌<◌, true, false, List, [], ◌∷◌, ◌++◌, Option, Some, None, refl}
use Rattle.std.proofs.Common.{ap, sym, subst, subst₂, ◌∙◌, arith, zero, suc, get_or, length, take, drop, inl, inr}
use Rattle.std.proofs.Common.{bit_or, w64, Bool, cond, ◌*◌, ◌%◌, ◌^◌}
use Rattle.std.specs.Prelude.{if◌then◌else◌, slice_get, slice_set, IfSome, IfNone, OnSome, IsTrue, IsFalse}
use Rattle.std.specs.Int.{bit_at}
use Rattle.std.specs.Option.{option_map}
use Rattle.std.proofs.lemmas.Bool.{cases_eq, cases_lt}
use Rattle.std.proofs.lemmas.Grind.{get_or-set_at}
use Rattle.std.proofs.lemmas.List.{get_or-set_other, length-set, take_all, take_at}
use Rattle.std.proofs.lemmas.Nat.Bits.{bit_at-zero}
use Rattle.std.proofs.lemmas.Nat.Bits.{bit_at_set_same, bit_at_set_other}
use Rattle.std.proofs.lemmas.Option.{get_or_from_slice_get, slice_get-get_or, slice_get_read, slice_get_within}
use Rattle.ms_base.specs.declared.span.Block.{Block}
use Rattle.ms_blocks.specs.Classes.{AreByClass, AreOf, IsNextClass, NoneFitsAt, TellsOf}
use Rattle.ms_blocks.specs.Classes.{TellsWhether}
use Rattle.ms_blocks.specs.Classes.{all_of, class_of}
use Rattle.ms_blocks.specs.Rank.{ranks_before, IsRanked, with_ranked, first_fit, without_fit}
use Rattle.ms_blocks.specs.Tree.{blocks_of}
use Rattle.ms_blocks.specs.declared.tree.Tree.{Tree}
use Rattle.ms_blocks.specs.declared.tree.Tree.TheVariants.{Empty}
use Rattle.ms_blocks.proofs.RankLemmas.{all_with, all_without}
use Rattle.ms_blocks.proofs.ClassLemmas.{class_within, classed_at, classed_with, inserted, TakesAmong}
use Rattle.ms_blocks.proofs.ClassLemmas.{takes_among, ranked_at, none_before, some_fits, both_none}

full_with : (blocks : List Block) (block : Block) → with_ranked blocks block ≢ []
full_with [] block e = absurd (cc)
full_with (other ∷ blocks) block e =
    elim (ranks_before other block) as (λ b. (if b then other ∷ with_ranked blocks block else block ∷ other ∷ blocks)
    ≡ [] → ⊥) [
      | true ↦ λ e. absurd (cc)
      | false ↦ λ e. absurd (cc)
    ] e

-- The bits tell of the trees, once one of them has changed, and its bit alone.
tells_anew : {A : Type 0} (trees : List (Tree A)) (some told class : ℕ) (changed : Tree A) → TellsOf some trees
    → ((other : ℕ) → other ≢ class → bit_at told other ≡ bit_at some other)
    → TellsWhether (bit_at told class) (blocks_of changed) → TellsOf told (slice_set trees class changed)
tells_anew trees some told class changed tells others here = λ at other there.
    let within : at < length trees = omega (arith, slice_get_within _ at other there, length-set trees class changed) in
    let is = get_or_from_slice_get (slice_set trees class changed) at other other there in
    elim (cases_eq at class) [
      | inl same ↦
          let here_is = sym (get_or-set_at trees class at changed other same (omega (arith, same, within))) ∙ is in
          subst₂ (λ (n : ℕ) (t : Tree _). TellsWhether (bit_at told n) (blocks_of t)) (sym same) here_is here
      | inr differ ↦
          let was = tells at other (slice_get_read trees (length trees) at other refl within
          (sym is ∙ get_or-set_other trees class at changed other differ)) in
          subst (λ (bit : ℕ). TellsWhether bit (blocks_of other)) (sym (others at differ)) was
    ]

pub tells_whether : (empty : Bool) (bit : ℕ) (blocks : List Block) → bit ≡ cond empty 0 1
    → (IsTrue empty → blocks ≡ []) → (IsFalse empty → blocks ≢ []) → TellsWhether bit blocks
tells_whether true bit blocks is none full = (λ zero_is. none refl, λ one. absurd (omega (arith, is, one)))
tells_whether false bit blocks is none full = (λ zero_is. absurd (omega (arith, is, zero_is)), λ one. full refl)

-- What an addition makes of the trees.
pub record InsertsAmong {A : Type 0} (trees : List (Tree A)) (told at : ℕ) (grown : Tree A) (block : Block)
    : Type 0 where
  pub classes : AreByClass told (slice_set trees at grown)
  pub blocks : all_of (slice_set trees at grown) ≡ with_ranked (all_of trees) block

pub inserts_among : {A : Type 0} (trees : List (Tree A)) (some at : ℕ) (tree grown : Tree A) (block : Block)
    → AreByClass some trees → IsRanked (all_of trees) → class_of block.words ≡ at → slice_get trees at ≡ Some tree
    → (IsRanked (blocks_of tree) → blocks_of grown ≡ with_ranked (blocks_of tree) block)
    → InsertsAmong trees (bit_or some (1 * 2 ^ at % 2 ^ 64)) at grown block
inserts_among trees some at tree grown block by_class ranked is there grows = record {
  classes = record {
    there = length-set trees at grown ∙ by_class.there;
    classed = classed_with trees 0 at grown by_class.classed
        (subst (AreOf (0 + at)) (sym grown_is)
        (all_with _ (blocks_of tree) block (classed_at trees 0 at tree by_class.classed there) (omega (arith, is))));
    tells = tells_anew trees some _ at grown by_class.tells (bit_at_set_other w64 some at within) (
      λ none. absurd (omega (arith, none, bit_at_set_same w64 some at within)),
      λ one e. full_with (blocks_of tree) block (sym grown_is ∙ e),
    );
  };
  blocks = inserted trees 0 at tree grown block by_class.classed (omega (arith, is)) there grown_is;
}
  where
    grown_is : blocks_of grown ≡ with_ranked (blocks_of tree) block
    grown_is = grows (ranked_at trees at tree ranked there)

    within : at < 64
    within = omega (arith, is, class_within block.words)

-- What a removal makes of them.
pub record TakesFit {A : Type 0} (trees : List (Tree A)) (told at words : ℕ) (rest : Tree A) (taken : Option Block)
    : Type 0 where
  pub classes : AreByClass told (slice_set trees at rest)
  pub among : TakesAmong trees at words rest taken

pub takes_fit : {A : Type 0} (trees : List (Tree A)) (some told at words : ℕ) (tree rest : Tree A) (taken : Block)
    → AreByClass some trees → IsRanked (all_of trees) → first_fit (all_of (take at trees)) words ≡ None
    → slice_get trees at ≡ Some tree
    → (IsRanked (blocks_of tree) → first_fit (blocks_of tree) words ≡ Some taken)
    → (IsRanked (blocks_of tree) → blocks_of rest ≡ without_fit (blocks_of tree) words)
    → ((other : ℕ) → other ≢ at → bit_at told other ≡ bit_at some other)
    → TellsWhether (bit_at told at) (blocks_of rest) → TakesFit trees told at words rest (Some taken)
takes_fit trees some told at words tree rest taken by_class ranked before there found left others here = record {
  classes = record {
    there = length-set trees at rest ∙ by_class.there;
    classed = classed_with trees 0 at rest by_class.classed
        (subst (AreOf (0 + at)) (sym (left in_tree)) (all_without _ (blocks_of tree) words classed));
    tells = tells_anew trees some told at rest by_class.tells others here;
  };
  among = takes_among trees at tree rest words (Some taken) there before (λ none. absurd (cc)) (found in_tree)
      (left in_tree);
}
  where
    in_tree : IsRanked (blocks_of tree)
    in_tree = ranked_at trees at tree ranked there

    classed : AreOf (0 + at) (blocks_of tree)
    classed = classed_at trees 0 at tree by_class.classed there

-- Nothing fits in the one tree of a class of which nothing is taken.
pub none_here : {A : Type 0} (trees : List (Tree A)) (at words : ℕ) (tree : Tree A) → IsRanked (all_of trees)
    → slice_get trees at ≡ Some tree → (IsRanked (blocks_of tree) → first_fit (blocks_of tree) words ≡ None)
    → NoneFitsAt trees at words
none_here trees at words tree ranked there none = λ other is.
    let same : other ≡ tree = cc in
    ap (λ (t : Tree _). first_fit (blocks_of t) words) same ∙ none (ranked_at trees at tree ranked there)

-- A class of which a block is taken has its bit.
pub one_where_some : (bit words : ℕ) (blocks : List Block) (taken : Block) → TellsWhether bit blocks → bit < 2
    → first_fit blocks words ≡ Some taken → bit ≡ 1
one_where_some bit words blocks taken tells two is = elim (cases_lt 0 bit) [
  | inl more ↦ omega (arith, more, two)
  | inr none ↦ let empty : Some taken ≡ None = sym is ∙ ap (λ bs. first_fit bs words) (tells.0 (omega (arith, none))) in
      absurd (cc)
]

-- Where no tree before a class fits, none before the next one that has a block does, nor any at all
-- where none has.
none_up_to : {A : Type 0} (trees : List (Tree A)) (some class words at : ℕ) → AreByClass some trees
    → class ≡ class_of words → NoneFitsAt trees class words
    → ((other : ℕ) → class < other → other < at → bit_at some other ≡ 0)
    → first_fit (all_of (take at trees)) words ≡ None
none_up_to trees some class words at by_class is here past = none_before trees 0 at words by_class.classed
    (λ k under from tree there. elim (cases_eq k class) [
      | inl same ↦ here tree (subst (λ (n : ℕ). slice_get trees n ≡ Some tree) same there)
      | inr differ ↦ ap (λ bs. first_fit bs words)
          ((by_class.tells k tree there).0 (past k (omega (arith, from, is, differ)) under))
    ])

-- None before the class of the words has so many.
pub none_below : {A : Type 0} (trees : List (Tree A)) (some class words : ℕ) → AreByClass some trees
    → class ≡ class_of words → first_fit (all_of (take class trees)) words ≡ None
none_below trees some class words by_class is = none_before trees 0 class words by_class.classed
    (λ k under from. absurd (omega (arith, under, from, is)))

pub none_to_next : {A : Type 0} (trees : List (Tree A)) (some class next words : ℕ) → AreByClass some trees
    → class ≡ class_of words → NoneFitsAt trees class words → IsNextClass some class next
    → first_fit (all_of (take next trees)) words ≡ None
none_to_next trees some class next words by_class is here to =
    none_up_to trees some class words next by_class is here to.past

pub none_at_all : {A : Type 0} (trees : List (Tree A)) (some class words : ℕ) → AreByClass some trees
    → class ≡ class_of words → NoneFitsAt trees class words
    → ((other : ℕ) → class < other → bit_at some other ≡ 0) → first_fit (all_of trees) words ≡ None
none_at_all trees some class words by_class is here past =
    ap (λ (ts : List (Tree _)). first_fit (all_of ts) words) (sym (take_all 64 trees (omega (arith, by_class.there))))
    ∙ none_up_to trees some class words 64 by_class is here (λ other later under. past other later)

-- The next class has a fit.
pub next_fits : {A : Type 0} (trees : List (Tree A)) (some class next words : ℕ) → AreByClass some trees
    → class ≡ class_of words → IsNextClass some class next → NoneFitsAt trees next words → ⊥
next_fits {A} trees some class next words by_class is to none =
    some_fits (blocks_of tree) words (0 + next) (classed_at trees 0 next tree by_class.classed there)
    (omega (arith, is, to.from)) ((by_class.tells next tree there).1 to.one) (none tree there)
  where
    within : next < length trees
    within = omega (arith, to.within, by_class.there)

    tree : Tree A
    tree = get_or trees next Empty

    there : slice_get trees next ≡ Some tree
    there = slice_get-get_or trees next Empty within

-- What is taken where it can't be that nothing fits.
pub found_next : {X P : Type 0} (fit : Option Block) (block_of : X → Block) (taken : Option X)
    → IfSome taken (λ x. fit ≡ Some (block_of x)) → IfNone taken P → (P → ⊥) → fit ≡ option_map block_of taken
found_next fit block_of (Some x) found none not = found
found_next fit block_of None found none not = absurd (not none)

pub left_next : {X P Q : Type 0} (taken : Option X) → OnSome taken Q → IfNone taken P → (P → ⊥) → Q
left_next (Some x) left none not = left
left_next None left none not = absurd (not none)

pub none_each : {A : Type 0} (trees : List (Tree A)) (class : ℕ) (tree : Tree A) → all_of trees ≡ []
    → slice_get trees class ≡ Some tree → blocks_of tree ≡ []
none_each [] class tree none there = absurd (cc)
none_each (first ∷ trees) zero tree none there =
    let same : first ≡ tree = cc in
    ap (λ (t : Tree _). blocks_of t) (sym same) ∙ (both_none (blocks_of first) (all_of trees) none).0
none_each (first ∷ trees) (suc class) tree none there =
    none_each trees class tree (both_none (blocks_of first) (all_of trees) none).1 there

-- No bit tells of trees with no block.
pub tells_none : {A : Type 0} (trees : List (Tree A)) → all_of trees ≡ [] → TellsOf 0 trees
tells_none trees none = λ class tree there. (
  λ zero_is. none_each trees class tree none there,
  λ one. absurd (omega (arith, one, bit_at-zero class)),
)

-- Trees that were lent come back whole.
pub lent_back : {A : Type 0} (was some len : ℕ) (old new : List (Tree A)) → AreByClass was old → AreByClass some new
    → len ≡ length old → take len (new ++ drop (length new) old) ≡ new
lent_back was some len old new whole anew long =
    take_at new (drop (length new) old) len (anew.there ∙ sym whole.there ∙ sym long)

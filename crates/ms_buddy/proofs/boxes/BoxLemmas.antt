-- A split in boxes and its halves, and what a function passes on that a half answered. For the calls
-- of a tree in boxes.
use Rattle.std.proofs.Common.{◌≡◌, ◌≤◌, ℕ, ◌+◌, Bool, true, false, ◌∷◌, [], List, Some, None, Option, refl, sym, ap, subst}
use Rattle.std.proofs.Common.{◌∙◌, arith}
use Rattle.std.specs.Prelude.{◌≢◌, ◌↔◌, ◌&&◌, ◌||◌, ◌==◌, cond, IsTrue, IsFalse, IfSome, OnSome, Result, Ok, Err, IfOk, OnOk, IfErr}
use Rattle.std.specs.List.{find, list_any}
use Rattle.std.proofs.lemmas.Bool.Decides.{nat_tests}
use Rattle.std.proofs.lemmas.List.Folds.{find-append}
use Rattle.ms_base.specs.declared.refusal.Refusal.{Refusal}
use Rattle.ms_base.specs.declared.refusal.Refusal.TheVariants.{NoRoom, OutOfMemory}
use Rattle.ms_base.specs.declared.span.Span.{Span}
use Rattle.ms_base.specs.Level.{size_of}
use Rattle.ms_buddy.specs.declared.leaf.Leaf.{Leaf}
use Rattle.ms_buddy.specs.declared.leaf.Leaf.TheVariants.{Free as FreeLeaf, Lent as LentTo}
use Rattle.ms_buddy.specs.declared.node.Node.{Node as BoxedNode}
use Rattle.ms_buddy.specs.declared.node.Node.TheVariants.{Split' as BoxedSplit}
use Rattle.ms_buddy.specs.Boxes.{shape_of}
use Rattle.ms_buddy.specs.Leaves.{LentLeaf, IsCarveRefusal, IsLeafAt, covers, fits_in, is_lent, is_same, leaf_of, span_at, span_of}
use Rattle.ms_buddy.specs.Tree.{Node, Split, IsTree, IsRootPart, free_in, free_in_halves, lent_in, lent_in_halves}
use Rattle.ms_buddy.proofs.WalkLemmas.{find-none, none_lent_covers_below}
use Rattle.ms_buddy.proofs.SplitLemmas.{AtSplit, at_split, lower_found, upper_found}
use Rattle.ms_buddy.proofs.changes.MergeLemmas.{whole_found}

-- What is known at a split in boxes.
pub at_boxes : {A : Type 0} (level start half : ℕ) (node : BoxedNode A) (p : _) (lower : BoxedNode A) (q : _)
    (upper : BoxedNode A) → node ≡ BoxedSplit p lower q upper → IsTree level (shape_of node)
    → half ≡ size_of (level + 1) → AtSplit level start half (shape_of node) (shape_of lower) (shape_of upper)
at_boxes level start half node p lower q upper e tree size =
    subst (λ (n : ℕ). AtSplit level start n (shape_of node) (shape_of lower) (shape_of upper)) (sym size)
    (subst (λ (other : Node). AtSplit level start (size_of (level + 1)) other (shape_of lower) (shape_of upper)) (sym same)
    (at_split level start (shape_of lower) (shape_of upper) (subst (λ (other : Node). IsTree level other) same tree)))
  where
    same : shape_of node ≡ Split (shape_of lower) (shape_of upper)
    same = ap shape_of e

-- The leaf that covers an offset is the leaf of the half where the offset is.
pub lower_leaf : (offset level start : ℕ) (lower upper : Node) (part : Span) (leaf : Leaf)
    → IsLeafAt offset part leaf (lent_in (level + 1) start lower) (free_in (level + 1) start lower)
    → IsLeafAt offset part leaf (lent_in_halves level start lower upper) (free_in_halves level start lower upper)
lower_leaf offset level start lower upper part FreeLeaf e = lower_found offset level start lower upper part e
lower_leaf offset level start lower upper part (LentTo owner front) e =
    find-append (λ (leaf : LentLeaf). covers offset (span_of leaf)) (lent_in (level + 1) start lower)
    (lent_in (level + 1) (start + size_of (level + 1)) upper) ∙ rw e refl

pub upper_leaf : (offset level start half : ℕ) (lower upper : Node) (part : Span) (leaf : Leaf)
    → IsTree (level + 1) lower → half ≡ size_of (level + 1) → start + half ≤ offset
    → IsLeafAt offset part leaf (lent_in (level + 1) (start + half) upper) (free_in (level + 1) (start + half) upper)
    → IsLeafAt offset part leaf (lent_in_halves level start lower upper) (free_in_halves level start lower upper)
upper_leaf offset level start half lower upper part FreeLeaf tree size h e =
    upper_found offset level start half lower upper part tree size h e
upper_leaf offset level start half lower upper part (LentTo owner front) tree size h e =
    find-append (λ (leaf : LentLeaf). covers offset (span_of leaf)) (lent_in (level + 1) start lower)
    (lent_in (level + 1) (start + size_of (level + 1)) upper)
    ∙ rw (
      find-none (λ leaf. covers offset (span_of leaf)) (lent_in (level + 1) start lower)
          (none_lent_covers_below offset (level + 1) start lower tree (omega (arith, size))),
      subst (λ (n : ℕ). find (λ leaf. covers offset (span_of leaf)) (lent_in (level + 1) (start + n) upper)
          ≡ Some (leaf_of part owner front)) size e,
    ) refl

-- A node that is merged whole is the free leaf that covers the part that was lent in it.
pub merged_whole : (part : Span) (level start : ℕ) (node : Node) (result : Span) → IsTree level node → IsRootPart level start
    → IsTrue (is_lent (lent_in level start node) part) → result.start ≡ start → result.level ≡ level
    → find (covers part.start) (span_at start level ∷ []) ≡ Some result
merged_whole part level start node result tree of_root lent e f =
    find_alone (covers part.start) (span_at start level) _ (whole_found part level start node tree of_root lent)
    ∙ ap Some (rw (← e, ← f) refl)
  where
    find_alone : (test : Span → Bool) (own other : Span) → find test (own ∷ []) ≡ Some other → find test (own ∷ []) ≡ Some own
    find_alone test own other e =
        elim (test own) as (λ b. cond b (Some own) None ≡ Some other → cond b (Some own) None ≡ Some own) [
          | true ↦ λ e. refl
          | false ↦ λ e. absurd (cc (e))
        ] e

-- What holds of a value holds of it where it is passed on.
pub passed_on : (result : Option Span) (span : Span) (P : Span → Type 0) → IfSome result (λ other. other ≡ span) → P span
    → IfSome result P
passed_on (Some other) span P e h = subst P (sym e) h
passed_on None span P e h = tt

-- Two facts of what succeeds, the first of which follows from another.
pub ok_and : {T E : Type 0} {P : T → Type 0} (R Q : T → Type 0) (result : Result T E) → ((value : T) → P value → R value)
    → IfOk result P → IfOk result Q → IfOk result (λ value. R value × Q value)
ok_and R Q (Ok value) step p q = (step value p, q)
ok_and R Q (Err e) step p q = tt

pub on_ok : {T E : Type 0} (P Q : Type 0) (result : Result T E) → (P → Q) → OnOk result P → OnOk result Q
on_ok P Q (Ok value) step h = step h
on_ok P Q (Err e) step h = tt

pub ok_some : {E : Type 0} (P : Type 0) (result : Result (Option ℕ) E) → P → IfOk result (λ owner. OnSome owner P)
ok_some P (Ok (Some owner)) h = h
ok_some P (Ok None) h = tt
ok_some P (Err e) h = tt

-- A refusal stands where a part can't become its parent, also where that is asked of other leaves.
pub refused : (can : Bool) → can ≡ false → (false ≡ true → can ≡ true) × (can ≡ true → false ≡ true)
refused can e = (λ h. absurd (cc), λ h. sym e ∙ h)

pub refused_too : (can other : Bool) → can ≡ other → (false ≡ true → other ≡ true) × (other ≡ true → false ≡ true)
    → (false ≡ true → can ≡ true) × (can ≡ true → false ≡ true)
refused_too can other e h = (λ f. absurd (cc), λ f. h.1 (sym e ∙ f))

-- Free leaves among which a part fits alike refuse it alike.
same_refusal : (part : Span) (free other : List Span) → fits_in part other ≡ fits_in part free
    → list_any (is_same part) other ≡ list_any (is_same part) free
    → (refusal : Refusal) → IsCarveRefusal part free refusal → IsCarveRefusal part other refusal
same_refusal part free other e f (NoRoom level) h = (h.0, e ∙ h.1)
same_refusal part free other e f OutOfMemory h = (e ∙ h.0, f ∙ h.1)
same_refusal part free other e f _ h = absurd h

pub refused_alike : (part : Span) (free other : List Span) (result : Result (Unit {0}) Refusal)
    → fits_in part other ≡ fits_in part free → list_any (is_same part) other ≡ list_any (is_same part) free
    → IfErr result (λ refusal. IsCarveRefusal part free refusal) → IfErr result (λ refusal. IsCarveRefusal part other refusal)
refused_alike part free other (Ok unit) e f h = tt
refused_alike part free other (Err refusal) e f h = same_refusal part free other e f refusal h

-- A leaf that is found is lent.
found_is_lent : (test : LentLeaf → Bool) (lent : List LentLeaf) (leaf : LentLeaf) → find test lent ≡ Some leaf → is_lent lent (span_of leaf) ≡ true
found_is_lent test [] leaf e = absurd (cc)
found_is_lent test (first ∷ lent) leaf e =
    elim (test first) as (λ b. cond b (Some first) (find test lent) ≡ Some leaf → is_lent (first ∷ lent) (span_of leaf) ≡ true) [
      | true ↦ λ e. subst (λ (other : LentLeaf). (is_same (span_of other) (span_of first) || is_lent lent (span_of other)) ≡ true) (taken first leaf e) (here first.start first.level (is_lent lent (span_of first)))
      | false ↦ λ e. or_true (is_same (span_of leaf) (span_of first)) (is_lent lent (span_of leaf)) (found_is_lent test lent leaf e)
    ] e
  where
    taken : (a b : LentLeaf) → Some a ≡ Some b → a ≡ b
    taken a b e = cc

    here : (a b : ℕ) (c : Bool) → (((a == a) && (b == b)) || c) ≡ true
    here a b c = grind (arith, nat_tests)

    or_true : (a b : Bool) → b ≡ true → (a || b) ≡ true
    or_true true b e = refl
    or_true false b e = e

pub leaf_is_lent : (offset : ℕ) (part : Span) (leaf : Leaf) (lent : List LentLeaf) (free : List Span) → IsLeafAt offset part leaf lent free → leaf ≢ FreeLeaf → IsTrue (is_lent lent part)
leaf_is_lent offset part FreeLeaf lent free at_offset differs = absurd (differs refl)
leaf_is_lent offset part (LentTo owner front) lent free at_offset differs = found_is_lent _ lent (leaf_of part owner front) at_offset

same_refused : (result : Result (Unit {0}) Refusal) (a b : Refusal) → result ≡ Err a → result ≡ Err b → a ≡ b
same_refused result a b e f = cc

-- There is no room exactly where the part lies in no free leaf.
pub no_room_exactly : (part : Span) (free : List Span) (result : Result (Unit {0}) Refusal) → OnOk result (IsTrue (fits_in part free))
    → IfErr result (λ refusal. IsCarveRefusal part free refusal) → (result ≡ Err (NoRoom part.level)) ↔ IsFalse (fits_in part free)
no_room_exactly part free (Ok value) room refusal = (λ e. absurd (cc), λ e. absurd (contrary (fits_in part free) room e))
  where
    contrary : (b : Bool) → b ≡ true → b ≡ false → ⊥
    contrary b e f = absurd (cc)
no_room_exactly part free (Err refused) room refusal = (λ e. forth refused (same_refused (Err refused) refused (NoRoom part.level) refl e) refusal, λ e. ap Err (back refused refusal e))
  where
    forth : (r : Refusal) → r ≡ NoRoom part.level → IsCarveRefusal part free r → IsFalse (fits_in part free)
    forth r e h = (subst (λ (r : Refusal). IsCarveRefusal part free r) e h).1

    contrary : (b : Bool) → b ≡ true → b ≡ false → ⊥
    contrary b e f = absurd (cc)

    back : (r : Refusal) → IsCarveRefusal part free r → IsFalse (fits_in part free) → r ≡ NoRoom part.level
    back (NoRoom level) h e = ap NoRoom h.0
    back OutOfMemory h e = absurd (contrary (fits_in part free) h.0 e)
    back _ h e = absurd h

-- What always holds does where a call is accepted.
pub always : {T E : Type 0} (P : Type 0) (result : Result T E) → P → OnOk result P
always P (Ok value) h = h
always P (Err e) h = tt

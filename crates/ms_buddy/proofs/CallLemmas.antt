-- What the calls of a tree do to what is kept true of it: the bits tell which leaf is meant, and
-- the entries follow.
use Rattle.std.proofs.Common.{◌≡◌, ◌<◌, ◌≤◌, ℕ, ◌+◌, ◌*◌, ◌-◌, ◌/◌, ◌%◌, ◌^◌, Bool, true, false, List, [], ◌∷◌, Option}
use Rattle.std.proofs.Common.{Some, None, refl, sym, ap, subst, ◌∙◌, arith}
use Rattle.std.specs.Prelude.{◌==◌, ◌&&◌, ◌||◌, nat_le, nat_lt}
use Rattle.std.specs.List.{list_any, find}
use Rattle.std.proofs.lemmas.Bool.{false_from_ne_true}
use Rattle.std.proofs.lemmas.Bool.Decides.{nat_tests}
use Rattle.std.proofs.lemmas.Nat.{div-add-mod', pow-add}
use Rattle.std.proofs.Math.Nat.{mul-mod_left}
use Rattle.ms_base.specs.declared.span.Span.{Span}
use Rattle.ms_base.specs.Interval.{lies_in}
use Rattle.ms_base.specs.Level.{size_of, highest_level}
use Rattle.ms_buddy.specs.declared.entries.Lending.{Lending}
use Rattle.ms_buddy.specs.Counts.{holder_of, number_of, one_at}
use Rattle.ms_buddy.specs.FreeBits.{AreFreeBits, bit_of}
use Rattle.ms_buddy.specs.Leaves.{covers, fits_in, is_lent, is_same, span_at, span_of}
use Rattle.ms_buddy.specs.Leaves.{words_of}
use Rattle.ms_buddy.specs.Entries.{leaf_from, lending_at, lent_from}
use Rattle.ms_buddy.specs.Tree.{Node, Free, Lent, Split, IsRootPart, IsSplit, IsTree, MayBeLent, free_in, lent_in}
use Rattle.ms_buddy.proofs.TreeHalvesLemmas.{size_of-some}
use Rattle.ms_buddy.proofs.bits.BuddyLemmas.{number_of-holder, past}
use Rattle.ms_buddy.proofs.changes.CarveLemmas.{ends_in}
use Rattle.ms_buddy.proofs.changes.CarvedLemmas.{Carved, carved}
use Rattle.ms_buddy.proofs.counts.CountLemmas.{number-one}
use Rattle.ms_buddy.proofs.searches.CoverLemmas.{found_free, free_or_lent, it_covers, left, right, same}
use Rattle.ms_buddy.proofs.bits.FreeBitLemmas.{free_by_bit, listed}
use Rattle.ms_buddy.proofs.bits.FreeNumberLemmas.{free_spans, root_part}
use Rattle.ms_buddy.proofs.bits.NumberLemmas.{holder_fits, holder_part, number_below}
use Rattle.ms_buddy.proofs.EntryLemmas.{is_there}
use Rattle.ms_buddy.proofs.bits.TwinLemmas.{none_beside_it}

-- A part starts where an entry does.
pub at_entry : (level at : ℕ) → level ≤ highest_level → at % size_of level ≡ 0 → 128 * (at / 128) ≡ at
at_entry level at low aligned = omega (arith, whole)
  where
    rows : ℕ
    rows = 2 ^ (12 - level)

    size : size_of level ≡ rows * 128
    size = ap (λ (n : ℕ). 2 ^ n) exponent ∙ pow-add 2 (12 - level) 7
      where
        exponent : 19 - level ≡ 12 - level + 7
        exponent = omega (arith, low)

    by_number : (q x a : ℕ) → a % (x * 128) ≡ 0 → q * (x * 128) + a % (x * 128) ≡ a → q * x * 128 ≡ a
    by_number q x a e d = omega (arith, e, d)

    whole : at % 128 ≡ 0
    whole = subst (λ (n : ℕ). n % 128 ≡ 0)
        (by_number (at / (rows * 128)) rows at (subst (λ (w : ℕ). at % w ≡ 0) size aligned) (div-add-mod' at (rows * 128)))
        (mul-mod_left (at / (rows * 128) * rows) 128)

is_one : (n : ℕ) → n ≡ 1 → (n == 1) ≡ true
is_one n e = grind (arith, nat_tests)

-- What is asked of a part: it lies in the root, and the node that is kept has these bits.
pub record InRoot (node : Node) (words : List ℕ) (part : Span) : Type 0 where
  pub tree : IsTree 0 node
  pub marked : AreFreeBits words (free_in 0 0 node)
  pub in_root : part.start < 524288

-- It is a part, too.
pub record IsAsked (node : Node) (words : List ℕ) (part : Span) : Type 0 where
  pub root : InRoot node words part
  pub low : part.level ≤ highest_level
  pub aligned : part.start % size_of part.level ≡ 0

-- The part of a level that holds it is a free leaf where its bit is set, and then it is the one
-- found there.
pub holder_listed : (node : Node) (words : List ℕ) (part : Span) (free : ℕ) → InRoot node words part
    → free ≤ highest_level → bit_of words (number_of (span_at part.start free)) ≡ 1
    → list_any (is_same (holder_of free part)) (free_in 0 0 node) ≡ true
holder_listed node words part free is low set =
    sym (free_by_bit node words (holder_of free part) is.tree is.marked (holder_part free part low is.in_root))
    ∙ is_one _ (ap (bit_of words) (sym (number_of-holder free part low is.in_root)) ∙ set)

pub holder_covers : (part : Span) (free : ℕ) → covers part.start (holder_of free part) ≡ true
holder_covers part free = it_covers (part.start - part.start % size_of free) part.start
    (part.start - part.start % size_of free + size_of free) (omega arith)
    (past part.start (size_of free) (size_of-some free))

pub holder_found : (node : Node) (words : List ℕ) (part : Span) (free : ℕ) → InRoot node words part
    → list_any (is_same (holder_of free part)) (free_in 0 0 node) ≡ true
    → find (covers part.start) (free_in 0 0 node) ≡ Some (holder_of free part)
holder_found node words part free is any =
    found_free 0 0 node (holder_of free part) part.start is.tree any (holder_covers part free)

abbrev level_of : Option Span → ℕ
level_of None = 0
level_of (Some part) = part.level

-- A part lies in the part of a lower level that holds it.
lies_in_holder : (node : Node) (words : List ℕ) (part : Span) (free : ℕ) → IsAsked node words part → free ≤ part.level
    → lies_in (words_of part) (words_of (holder_of free part)) ≡ true
lies_in_holder node words part free is order =
    within (part.start - part.start % size_of free) (size_of free) part.start (size_of part.level) (omega arith)
    (ends_in part free (part.start - part.start % size_of free) (is.low, is.aligned) (of_root.level_fits, of_root.aligned) order
    (omega arith) (past part.start (size_of free) (size_of-some free)))
  where
    of_root : IsRootPart free (part.start - part.start % size_of free)
    of_root = holder_part free part (omega (arith, order, is.low)) is.root.in_root

    within : (a s b t : ℕ) → a ≤ b → b + t ≤ a + s → (nat_le a b && nat_le (b + t) (a + s)) ≡ true
    within a s b t h k = grind (arith, nat_tests)

any_fits : (part leaf : Span) (parts : List Span) → list_any (is_same leaf) parts ≡ true
    → lies_in (words_of part) (words_of leaf) ≡ true → fits_in part parts ≡ true
any_fits part leaf [] any lies = absurd (cc (any))
any_fits part leaf (other ∷ parts) any lies =
    elim (is_same leaf other) as (λ b. is_same leaf other ≡ b → (b || list_any (is_same leaf) parts) ≡ true
    → fits_in part (other ∷ parts) ≡ true) [
      | true ↦ λ own e. subst (λ (p : Span). (lies_in (words_of part) (words_of p) || fits_in part parts) ≡ true)
          (same leaf other own) (left _ _ lies)
      | false ↦ λ own e. right _ _ (any_fits part leaf parts e lies)
    ] refl any

pub fits_there : (node : Node) (words : List ℕ) (part : Span) (free : ℕ) → IsAsked node words part → free ≤ part.level
    → list_any (is_same (holder_of free part)) (free_in 0 0 node) ≡ true → fits_in part (free_in 0 0 node) ≡ true
fits_there node words part free is order any =
    any_fits part (holder_of free part) (free_in 0 0 node) any (lies_in_holder node words part free is order)

may_be : (node : Node) (words : List ℕ) (part : Span) (front : ℕ) → IsAsked node words part → 0 < front
    → front ≤ size_of part.level → MayBeLent 0 0 part front
may_be node words part front is some within = record {
  of_root = root_part;
  is_part = (is.low, is.aligned);
  inside = record {
    low = omega arith;
    from = omega arith;
    to = omega (arith, is.aligned, holder_fits part.level part.start is.low is.root.in_root);
  };
  fits = (some, within);
}

-- The leaf in which a part was lent was free.
was_listed : (node : Node) (words : List ℕ) (part : Span) (owner front : ℕ) → IsAsked node words part
    → (c : Carved 0 0 part owner front node) → list_any (is_same (holder_of c.free part)) (free_in 0 0 node) ≡ true
was_listed node words part owner front is c =
    sym (listed (holder_of c.free part) (free_in 0 0 node) of_root (free_spans 0 0 node is.root.tree root_part))
    ∙ some _ (omega (
      arith,
      c.parted.numbered (number_of (holder_of c.free part)),
      number-one (number_of (holder_of c.free part)) (holder_of c.free part),
      own (number_of (holder_of c.free part)),
      none_beside_it c.free (number_of (holder_of c.free part)) part c.parted.order c.parted.low is.root.in_root
          (number_below c.free (part.start - part.start % size_of c.free) of_root),
    ))
  where
    of_root : IsRootPart c.free (part.start - part.start % size_of c.free)
    of_root = holder_part c.free part (omega (arith, c.parted.order, c.parted.low)) is.root.in_root

    some : (n : ℕ) → 0 < n → nat_lt 0 n ≡ true
    some n h = grind (arith, nat_tests)

    own : (n : ℕ) → one_at n n ≡ 1
    own n = grind (arith, nat_tests)

-- A part is lent in the free leaf whose bit is set.
pub carve_done : (node : Node) (words : List ℕ) (part : Span) (owner front free : ℕ) → IsAsked node words part
    → 0 < front → front ≤ size_of part.level → free ≤ part.level
    → list_any (is_same (holder_of free part)) (free_in 0 0 node) ≡ true
    → (c : Carved 0 0 part owner front node) × (c.free ≡ free)
carve_done node words part owner front free is some within order any =
    let c = carved 0 0 node part owner front is.root.tree (may_be node words part front is some within)
    (fits_there node words part free is order any) in (
      c,
      ap level_of (sym (holder_found node words part c.free is.root (was_listed node words part owner front is c))
          ∙ holder_found node words part free is.root any),
    )

-- Where no bit on the way is set the part lies in no free leaf.
pub none_fits : (node : Node) (words : List ℕ) (part : Span) → IsAsked node words part
    → ((holder : ℕ) → holder ≤ part.level → bit_of words (number_of (span_at part.start holder)) ≡ 0)
    → fits_in part (free_in 0 0 node) ≡ false
none_fits node words part is none = false_from_ne_true (fits_in part (free_in 0 0 node)) (λ fits.
    let c = carved 0 0 node part 0 1 is.root.tree (may_be node words part 1 is (omega arith) (omega (arith, size_of-some part.level)))
    fits in
    contrary _ (sym (free_by_bit node words (holder_of c.free part) is.root.tree is.root.marked
    (holder_part c.free part (omega (arith, c.parted.order, is.low)) is.root.in_root)))
    (was_listed node words part 0 1 is c)
    (ap (bit_of words) (sym (number_of-holder c.free part (omega (arith, c.parted.order, is.low)) is.root.in_root))
    ∙ none c.free c.parted.order))
  where
    contrary : (bit : ℕ) {any : Bool} → any ≡ (bit == 1) → any ≡ true → bit ≡ 0 → ⊥
    contrary bit e f g = grind (arith, nat_tests, e, f, g)

-- A part of a free leaf of a lower level is no free leaf itself.
pub not_whole : (node : Node) (words : List ℕ) (part : Span) (free : ℕ) → IsAsked node words part → free < part.level
    → list_any (is_same (holder_of free part)) (free_in 0 0 node) ≡ true
    → list_any (is_same part) (free_in 0 0 node) ≡ false
not_whole node words part free is deep any = false_from_ne_true (list_any (is_same part) (free_in 0 0 node)) (λ own.
    let same : free ≡ part.level = ap level_of (sym (holder_found node words part free is.root any)
    ∙ found_free 0 0 node part part.start is.root.tree own
    (it_covers part.start part.start (part.start + size_of part.level) (omega arith)
    (omega (arith, size_of-some part.level)))) in
    omega (arith, deep, same))

-- A free leaf past the first word is one of a root that is split.
pub split_past : (node : Node) (part : Span) → list_any (is_same part) (free_in 0 0 node) ≡ true → 0 < part.start
    → IsSplit node
split_past Free part any some = absurd (starts part.start part.level some any)
  where
    starts : (a b : ℕ) → 0 < a → (((0 == a) && (0 == b)) || false) ≡ true → ⊥
    starts a b h e = grind (arith, nat_tests)
split_past (Lent owner front) part any some = absurd (cc (any))
split_past (Split lower upper) part any some = tt

-- Nothing is lent from the entry of a part that lies in a free leaf.
pub none_there : (node : Node) (words : List ℕ) (part : Span) (free : ℕ) (entries : List (Option Lending))
    → IsAsked node words part → lent_in 0 0 node ≡ lent_from 0 entries
    → list_any (is_same (holder_of free part)) (free_in 0 0 node) ≡ true → lending_at entries (part.start / 128) ≡ None
none_there node words part free entries is same any =
    elim (lending_at entries (part.start / 128)) as (λ entry. lending_at entries (part.start / 128) ≡ entry
    → lending_at entries (part.start / 128) ≡ None) [
      | None ↦ λ e. e
      | Some lending ↦ λ e. absurd (free_or_lent 0 0 node (holder_of free part)
          (span_of (leaf_from (part.start / 128) lending)) part.start is.root.tree any (holder_covers part free)
          (ap (λ leaves. is_lent leaves (span_of (leaf_from (part.start / 128) lending))) same
          ∙ is_there 0 (part.start / 128) (part.start / 128) entries lending e (omega arith))
          (it_covers (128 * (part.start / 128)) part.start (128 * (part.start / 128) + size_of lending.level)
          (omega (arith, at_entry part.level part.start is.low is.aligned))
          (omega (arith, at_entry part.level part.start is.low is.aligned, size_of-some lending.level))))
    ] refl

-- The bits of the halves beside the way to a part, as they are set and cleared one after the other.
use Rattle.std.proofs.Common.{◌≡◌, ◌<◌, ◌≤◌, ℕ, zero, suc, ◌+◌, ◌-◌, ◌*◌, ◌%◌, ◌^◌, Bool, true, false, cond, List, [], ◌∷◌}
use Rattle.std.proofs.Common.{refl, sym, ap, ◌∙◌, inl, inr, arith}
use Rattle.std.specs.Prelude.{◌==◌, nat_lt}
use Rattle.std.proofs.lemmas.Bool.{cases_lt}
use Rattle.std.proofs.lemmas.Bool.Decides.{nat_tests}
use Rattle.std.proofs.lemmas.Nat.{pow-add}
use Rattle.std.proofs.lemmas.Nat.Bits.{bit_at-lt}
use Rattle.std.proofs.Math.Nat.{pow-le-pow_right}
use Rattle.ms_base.specs.declared.span.Span.{Span}
use Rattle.ms_base.specs.Level.{size_of, highest_level}
use Rattle.ms_buddy.specs.Counts.{beside, buddy_of, count_of_number, halves_beside, holder_of, number_of, one_at}
use Rattle.ms_buddy.specs.FreeBits.{ArePut, IsMoved, MayJoin, MayPart, bit_of}
use Rattle.ms_buddy.specs.Leaves.{span_at}
use Rattle.ms_buddy.specs.Tree.{IsRootPart}
use Rattle.ms_buddy.proofs.TreeHalvesLemmas.{holder_is, lower_part, size_of-halves, size_of-some, upper_part}
use Rattle.ms_buddy.proofs.bits.NumberLemmas.{holder_part, level_back, number_below, number_from}
use Rattle.ms_buddy.proofs.bits.BuddyLemmas.{lower_is_buddy, number_of-holder, past, upper_is_buddy}
use Rattle.ms_buddy.proofs.counts.CountLemmas.{lower_beside, number-cons, number-none, number-one, none_beside, upper_beside}

-- The bit of a number is set or cleared, and the others stay.
abbrev pub Changed : List ℕ → ℕ → ℕ → List ℕ → Type 0
Changed words number bit new = (m : ℕ) → bit_of new m ≡ cond (number == m) bit (bit_of words m)

pub clear_one : (words new : List ℕ) (half : Span) (rest : List Span) (m : ℕ) → Changed words (number_of half) 0 new
    → count_of_number m (half ∷ rest) ≤ bit_of words m → bit_of new m + one_at (number_of half) m ≡ bit_of words m
clear_one words new half rest m cleared are =
    ap (λ (n : ℕ). n + one_at (number_of half) m) (cleared m)
    ∙ by_case (number_of half == m) (bit_of words m) (count_of_number m rest)
    (bit_at-lt _ _) (omega (arith, are, number-cons m half rest))
  where
    by_case : (b : Bool) (bit more : ℕ) → bit < 2 → cond b 1 0 + more ≤ bit → cond b 0 bit + cond b 1 0 ≡ bit
    by_case true bit more small h = omega (arith, small, h)
    by_case false bit more small h = omega arith

-- No half is beside the way to a part that ends where it begins.
pub no_halves : (times level start at m : ℕ) → times ≡ 0 → count_of_number m (halves_beside times level start at) ≡ 0
no_halves times level start at m e = ap (count_of_number m) (none_beside times level start at e) ∙ number-none m

-- The halves beside the way from a level on are the other half there and those from the next level
-- on.
pub next_beside : (level at lent m : ℕ) → level < lent → lent ≤ highest_level → at < 524288
    → count_of_number m (beside (holder_of level (span_at at lent)) (span_at at lent))
    ≡ one_at (buddy_of (number_of (span_at at (level + 1)))) m
    + count_of_number m (beside (holder_of (level + 1) (span_at at lent)) (span_at at lent))
next_beside level at lent m deep low below = elim (cases_lt at (start + size_of (level + 1))) [
  | inl lower ↦
      ap (count_of_number m) (upper_beside (lent - level) (lent - (level + 1)) level start at (omega arith) lower)
      ∙ joins (start + size_of (level + 1)) start
      (upper_is_buddy level start at of_root (omega arith) (omega arith) lower)
      (ap (λ (part : Span). part.start) (holder_is (level + 1) start (span_at at lent)
      (lower_part level start of_root (omega arith)) (omega arith) lower))
  | inr above ↦
      ap (count_of_number m) (lower_beside (lent - level) (lent - (level + 1)) level start at (omega arith) above)
      ∙ joins start (start + size_of (level + 1))
      (lower_is_buddy level start at of_root (omega arith) above (past at (size_of level) (size_of-some level)))
      (ap (λ (part : Span). part.start) (holder_is (level + 1) (start + size_of (level + 1)) (span_at at lent)
      (upper_part level start (start + size_of (level + 1)) of_root (omega arith) refl) above
      (omega (arith, past at (size_of level) (size_of-some level), size_of-halves level (omega arith)))))
]
  where
    start : ℕ
    start = at - at % size_of level

    of_root : IsRootPart level start
    of_root = holder_part level (span_at at lent) (omega arith) below

    joins : (other next : ℕ) → buddy_of (number_of (span_at at (level + 1))) ≡ number_of (span_at other (level + 1))
        → at - at % size_of (level + 1) ≡ next
        → count_of_number m (span_at other (level + 1) ∷ halves_beside (lent - (level + 1)) (level + 1) next at)
        ≡ one_at (buddy_of (number_of (span_at at (level + 1)))) m
        + count_of_number m (beside (holder_of (level + 1) (span_at at lent)) (span_at at lent))
    joins other next e f =
        number-cons m (span_at other (level + 1)) (halves_beside (lent - (level + 1)) (level + 1) next at)
        ∙ ap (λ (n : ℕ). one_at n m + count_of_number m (halves_beside (lent - (level + 1)) (level + 1) next at)) (sym e)
        ∙ ap (λ (n : ℕ). one_at (buddy_of (number_of (span_at at (level + 1)))) m
        + count_of_number m (halves_beside (lent - (level + 1)) (level + 1) n at)) (sym f)

-- No bit is put on the way from a part to itself.
pub none_put : (words : List ℕ) (at lent bit : ℕ)
    → ArePut words (beside (holder_of lent (span_at at lent)) (span_at at lent)) bit words
none_put words at lent bit m = rw (no_halves (lent - lent) lent (at - at % size_of lent) at m (omega arith)) refl

-- The bits of the halves below a level are put, and then that of the other half there.
pub put_above : (words mid new : List ℕ) (level at lent number bit : ℕ) → 0 < level → level ≤ lent
    → lent ≤ highest_level → at < 524288 → number ≡ buddy_of (number_of (span_at at level))
    → ArePut words (beside (holder_of level (span_at at lent)) (span_at at lent)) bit mid
    → Changed mid number bit new
    → ArePut words (beside (holder_of (level - 1) (span_at at lent)) (span_at at lent)) bit new
put_above words mid new level at lent number bit some deep low below e more one m =
    by_case (number == m) (bit_of words m) (bit_of mid m) (bit_of new m) _
    (count_of_number m (beside (holder_of level (span_at at lent)) (span_at at lent)))
    (rw e (rw (level_back level some) at (next_beside (level - 1) at lent m (omega (arith, some, deep)) low below)))
    (more m) (one m)
  where
    by_case : (is : Bool) (old mid new count rest : ℕ) → count ≡ cond is 1 0 + rest
        → mid ≡ cond (nat_lt 0 rest) bit old → new ≡ cond is bit mid → new ≡ cond (nat_lt 0 count) bit old
    by_case true old mid new count rest e more one = grind (arith, nat_tests)
    by_case false old mid new count rest e more one = grind (arith, nat_tests)

-- A bit that is set once others were cleared was set before.
pub was_set : (words mid : List ℕ) (parts : List Span) (m : ℕ) → ArePut words parts 0 mid → bit_of mid m ≡ 1
    → bit_of words m ≡ 1
was_set words mid parts m put set = by_case (nat_lt 0 (count_of_number m parts)) (bit_of words m) (sym (put m) ∙ set)
  where
    by_case : (b : Bool) (bit : ℕ) → cond b 0 bit ≡ 1 → bit ≡ 1
    by_case true bit e = absurd (omega (arith, e))
    by_case false bit e = e

-- The number of the part that is split is that of none of these halves, whose numbers are larger.
pub none_is_whole : (times level start at m : ℕ) → level + times ≤ highest_level → IsRootPart level start
    → m < 2 ^ (level + 1) → count_of_number m (halves_beside times level start at) ≡ 0
none_is_whole zero level start at m low of_root small = no_halves zero level start at m refl
none_is_whole (suc times) level start at m low of_root small = elim (cases_lt at (start + size_of (level + 1))) [
  | inl below ↦
      ap (count_of_number m) (upper_beside (suc times) times level start at refl below)
      ∙ number-cons m (span_at (start + size_of (level + 1)) (level + 1)) (halves_beside times (level + 1) start at)
      ∙ omega (
        arith,
        other (number_of (span_at (start + size_of (level + 1)) (level + 1)))
            (number_from (level + 1) (start + size_of (level + 1))
            (upper_part level start (start + size_of (level + 1)) of_root (omega arith) refl)),
        none_is_whole times (level + 1) start at m (omega arith) (lower_part level start of_root (omega arith))
            (omega (arith, small, grows)),
      )
  | inr above ↦
      ap (count_of_number m) (lower_beside (suc times) times level start at refl above)
      ∙ number-cons m (span_at start (level + 1))
      (halves_beside times (level + 1) (start + size_of (level + 1)) at)
      ∙ omega (
        arith,
        other (number_of (span_at start (level + 1)))
            (number_from (level + 1) start (lower_part level start of_root (omega arith))),
        none_is_whole times (level + 1) (start + size_of (level + 1)) at m (omega arith)
            (upper_part level start (start + size_of (level + 1)) of_root (omega arith) refl)
            (omega (arith, small, grows)),
      )
]
  where
    grows : 2 ^ (level + 1) ≤ 2 ^ (level + 1 + 1)
    grows = pow-le-pow_right {n = 2} (omega arith) {i = level + 1} {j = level + 1 + 1} (omega arith)

    differs : (a b : ℕ) → b < a → one_at a b ≡ 0
    differs a b h = grind (arith, nat_tests)

    other : (number : ℕ) → 2 ^ (level + 1) ≤ number → one_at number m ≡ 0
    other number h = differs number m (omega (arith, small, h))

-- So none of them has the number of that part, nor its buddy's.
part_apart : (level at lent m : ℕ) → level ≤ lent → lent ≤ highest_level → at < 524288 → m < 2 * 2 ^ level
    → count_of_number m (beside (holder_of level (span_at at lent)) (span_at at lent)) ≡ 0
part_apart level at lent m deep low below small =
    none_is_whole (lent - level) level (at - at % size_of level) at m (omega (arith, deep, low))
    (holder_part level (span_at at lent) (omega (arith, deep, low)) below) (omega (arith, small, pow-add 2 level 1))

pub was_clear : (words mid : List ℕ) (level at lent : ℕ) → level ≤ lent → lent ≤ highest_level → at < 524288
    → ArePut words (beside (holder_of level (span_at at lent)) (span_at at lent)) 0 mid
    → bit_of mid (buddy_of (number_of (span_at at level))) ≡ 0
    → bit_of words (buddy_of (number_of (span_at at level))) ≡ 0
was_clear words mid level at lent deep low below put clear =
    same (count_of_number (buddy_of (number_of (span_at at level))) (beside (holder_of level (span_at at lent)) (span_at at lent)))
    _ _ (part_apart level at lent (buddy_of (number_of (span_at at level))) deep low below near) (put _) clear
  where
    of_root : IsRootPart level (at - at % size_of level)
    of_root = holder_part level (span_at at lent) (omega (arith, deep, low)) below

    even_row : (n p : ℕ) → n < 2 * p → buddy_of n < 2 * p
    even_row n p h = by_parity (n % 2 == 0) refl
      where
        by_parity : (b : Bool) → (n % 2 == 0) ≡ b → cond b (n + 1) (n - 1) < 2 * p
        by_parity true e = grind (arith, nat_tests)
        by_parity false e = omega (arith, h)

    near : buddy_of (number_of (span_at at level)) < 2 * 2 ^ level
    near =
        even_row (number_of (span_at at level)) (2 ^ level)
        (rw (number_of-holder level (span_at at lent) (omega (arith, deep, low)) below)
        (number_below level (at - at % size_of level) of_root))

    same : (count old mid : ℕ) → count ≡ 0 → mid ≡ cond (nat_lt 0 count) 0 old → mid ≡ 0 → old ≡ 0
    same count old mid e put clear = grind (arith, nat_tests)

-- A free leaf is parted: the bits of the halves beside the way are set, and its own is cleared.
pub part_done : (words mid new : List ℕ) (level at lent number : ℕ) → level ≤ lent → lent ≤ highest_level → at < 524288
    → number ≡ number_of (span_at at level) → MayPart words (holder_of level (span_at at lent)) (span_at at lent)
    → ArePut words (beside (holder_of level (span_at at lent)) (span_at at lent)) 1 mid → Changed mid number 0 new
    → IsMoved words (holder_of level (span_at at lent) ∷ []) (beside (holder_of level (span_at at lent)) (span_at at lent)) new
part_done words mid new level at lent number deep low below e may set cleared m =
    by_case (number_of leaf == m) (bit_of words m) (bit_of mid m) (bit_of new m) (count_of_number m (leaf ∷ []))
    (count_of_number m (beside leaf (span_at at lent))) (bit_at-lt _ _) (number-one m leaf) (set m)
    (rw (e ∙ number_of-holder level (span_at at lent) (omega (arith, deep, low)) below) at (cleared m))
    (may.gone m) (may.come m) alone
  where
    leaf : Span
    leaf = holder_of level (span_at at lent)

    small : (p n m : ℕ) → (n == m) ≡ true → n < p → m < p
    small p n m is h = grind (arith, nat_tests)

    alone : (number_of leaf == m) ≡ true → count_of_number m (beside leaf (span_at at lent)) ≡ 0
    alone is =
        part_apart level at lent m deep low below
        (small _ (number_of leaf) m is (number_below level leaf.start (holder_part level (span_at at lent) (omega (arith, deep, low)) below)))

    by_case : (is : Bool) (old mid new here more : ℕ) → old < 2 → here ≡ cond is 1 0 → mid ≡ cond (nat_lt 0 more) 1 old
        → new ≡ cond is 0 mid → here ≤ old → old + more ≤ 1 + here → (is ≡ true → more ≡ 0) → new + here ≡ old + more
    by_case true old mid new here more small is some one gone come alone = omega (arith, small, is, one, gone, alone refl)
    by_case false old mid new here more small is some one gone come alone = grind (arith, nat_tests)

-- It is joined again: the bits of these halves are cleared, and its own is set.
pub join_done : (words mid new : List ℕ) (number : ℕ) (leaf part : Span) → number ≡ number_of leaf
    → MayJoin words leaf part → ArePut words (beside leaf part) 0 mid → Changed mid number 1 new
    → IsMoved new (leaf ∷ []) (beside leaf part) words
join_done words mid new number leaf part e may cleared set m =
    by_case (number_of leaf == m) (bit_of words m) (bit_of mid m) (bit_of new m) (count_of_number m (leaf ∷ []))
    (count_of_number m (beside leaf part)) (bit_at-lt _ _) (number-one m leaf) (cleared m) (rw e at (set m))
    (may.gone m) (may.come m)
  where
    by_case : (is : Bool) (old mid new here more : ℕ) → old < 2 → here ≡ cond is 1 0
        → mid ≡ cond (nat_lt 0 more) 0 old → new ≡ cond is 1 mid → more ≤ old → old + here ≤ 1 + more
        → old + here ≡ new + more
    by_case true old mid new here more small is one some gone come = grind (arith, nat_tests)
    by_case false old mid new here more small is one some gone come = grind (arith, nat_tests)

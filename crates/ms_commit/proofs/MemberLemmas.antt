-- The words of a mask against the set of its members: what changed bits do to the set.
use Rattle.std.proofs.Common.{◌≡◌, ◌≤◌, ◌<◌, ℕ, ◌+◌, ◌-◌, ◌*◌, Bool, true, false, cond, ◌&&◌, ◌||◌, not, List, [], ◌∷◌}
use Rattle.std.proofs.Common.{length, refl, sym, ap, ap₂, ◌∙◌, subst, arith}
use Rattle.std.specs.Prelude.{◌==◌}
use Rattle.std.specs.Ordering.{nat_cmp}
use Rattle.std.specs.BTreeSet.{insert_key}
use Rattle.std.specs.List.{filter, range_with_len}
use Rattle.std.proofs.lemmas.Bool.Decides.{nat_tests}
use Rattle.std.proofs.lemmas.List.Elements.{filter_agree}
use Rattle.std.proofs.lemmas.List.FromFn.{length-range_with_len}
use Rattle.ms_base.specs.Committed.{is_among}
use Rattle.ms_commit.specs.NumberSet.{is_in_range, with_range, without_range, without_number, count_within, IsSetBelow}
use Rattle.ms_base.specs.PoolSteps.Pick.{lowest_unreserved}
use Rattle.ms_commit.specs.Mask.{is_set, members_of, IsLowestClear}
use Rattle.ms_commit.proofs.RangeLemmas.{filter_agree_in, filter_all_in, filter-filter}
use Rattle.ms_commit.proofs.MaskLemmas.{is_among-members}
use Rattle.ms_commit.proofs.MemberOrderLemmas.{insert_key-filter, lowest_unreserved-is, length_from_full}
use Rattle.ms_commit.proofs.SetLemmas.{IsSetBelow-filter, with_range-filter, length-with_range, length-without_range}
use Rattle.ms_commit.proofs.SetLemmas.{count_within-filter}

-- The bits of a mask pass a test.
abbrev pub HasBits : List ℕ → ℕ → (ℕ → Bool) → Type 0
HasBits words count p = (length words ≡ count) × ((k : ℕ) → k < 64 * count → is_set words k ≡ p k)

pub members_of-bits : (words : List ℕ) (count : ℕ) (p : ℕ → Bool) → HasBits words count p
    → members_of words ≡ filter p (range_with_len 0 (64 * count))
members_of-bits words count p bits =
    ap (λ n. filter (is_set words) (range_with_len 0 (64 * n))) bits.0
    ∙ filter_agree_in (is_set words) p 0 (64 * count) (λ k low high. bits.1 k (omega arith))

-- A range is set.
pub members_with : (old new : List ℕ) (first count : ℕ)
    → ((k : ℕ) → first ≤ k → k < first + count → k < 64 * length old)
    → HasBits new (length old) (λ k. is_set old k || is_in_range first count k)
    → members_of new ≡ with_range (members_of old) first count
members_with old new first count within bits =
    members_of-bits new (length old) (λ k. is_set old k || is_in_range first count k) bits
    ∙ sym (with_range-filter (is_set old) (64 * length old) first count within)

-- A range is cleared.
pub members_without : (old new : List ℕ) (first count : ℕ)
    → HasBits new (length old) (λ k. is_set old k && not (is_in_range first count k))
    → members_of new ≡ without_range (members_of old) first count
members_without old new first count bits =
    members_of-bits new (length old) (λ k. is_set old k && not (is_in_range first count k)) bits
    ∙ sym (filter-filter (is_set old) (λ k. not (is_in_range first count k)) (range_with_len 0 (64 * length old)))

-- The members in a range are counted by the bits.
pub count_within-members : (words : List ℕ) (first count : ℕ)
    → count_within (members_of words) first count ≡ length (filter (is_set words) (range_with_len first count))
count_within-members words first count =
    ap length (filter_agree (is_among (members_of words)) (is_set words) (is_among-members words)
    (range_with_len first count))

pub range_counted : (words members : List ℕ) (first count : ℕ) → members_of words ≡ members
    → length (filter (is_set words) (range_with_len first (first + count - first))) ≡ count_within members first count
range_counted words members first count are =
    ap (λ n. length (filter (is_set words) (range_with_len first n))) (so_many first count)
    ∙ sym (count_within-members words first count) ∙ ap (λ members. count_within members first count) are
  where
    so_many : (first count : ℕ) → first + count - first ≡ count
    so_many first count = omega arith

pub members_in_range : (words : List ℕ) (first count : ℕ)
    → ((k : ℕ) → first ≤ k → k < first + count → k < 64 * length words)
    → length (filter (is_in_range first count) (members_of words)) ≡ count_within (members_of words) first count
members_in_range words first count within =
    count_within-filter (is_set words) (64 * length words) first count within
    ∙ sym (count_within-members words first count)

-- A mask stands for a set below the number of its bits.
pub IsSetBelow-members : (words : List ℕ) (count : ℕ) → length words ≡ count
    → IsSetBelow (64 * count) (members_of words)
IsSetBelow-members words count e =
    subst (λ n. IsSetBelow (64 * n) (members_of words)) e (IsSetBelow-filter (is_set words) (64 * length words))

-- How many members there are once a range is set, and once it is cleared.
pub counted_with : (old new : List ℕ) (first count : ℕ)
    → ((k : ℕ) → first ≤ k → k < first + count → k < 64 * length old)
    → HasBits new (length old) (λ k. is_set old k || is_in_range first count k)
    → length (members_of new) + count_within (members_of old) first count ≡ length (members_of old) + count
counted_with old new first count within bits =
    ap₂ (λ after inside. after + inside) (ap length (members_with old new first count within bits))
    (sym (members_in_range old first count within))
    ∙ length-with_range (members_of old) first count

pub counted_without : (old new : List ℕ) (first count : ℕ)
    → ((k : ℕ) → first ≤ k → k < first + count → k < 64 * length old)
    → HasBits new (length old) (λ k. is_set old k && not (is_in_range first count k))
    → length (members_of new) + count_within (members_of old) first count ≡ length (members_of old)
counted_without old new first count within bits =
    ap₂ (λ after inside. after + inside) (ap length (members_without old new first count bits))
    (sym (members_in_range old first count within))
    ∙ length-without_range (members_of old) first count

-- One number in a range of one is counted.
pub count_within-one : (members : List ℕ) (number : ℕ) (member : Bool) → is_among members number ≡ member
    → count_within members number 1 ≡ cond member 1 0
count_within-one members number member e = ap (λ b. length (cond b (number ∷ []) [])) e ∙ kept member
  where
    kept : (b : Bool) → length (cond b (number ∷ []) []) ≡ cond b 1 0
    kept b = elim b as (λ v. length (cond v (number ∷ []) []) ≡ cond v 1 0) [ true ↦ refl | false ↦ refl ]

-- A number is set, and cleared.
pub members_insert : (old new : List ℕ) (number : ℕ) → number < 64 * length old
    → HasBits new (length old) (λ k. is_set old k || is_in_range number 1 k)
    → members_of new ≡ insert_key nat_cmp (members_of old) number
members_insert old new number within bits =
    members_of-bits new (length old) (λ k. is_set old k || is_in_range number 1 k) bits
    ∙ sym (insert_key-filter (is_set old) number 0 (64 * length old) (omega arith) (omega arith))

pub members_remove : (old new : List ℕ) (number : ℕ)
    → HasBits new (length old) (λ k. is_set old k && not (is_in_range number 1 k))
    → members_of new ≡ without_number (members_of old) number
members_remove old new number bits =
    members_without old new number 1 bits
    ∙ filter_agree (λ k. not (is_in_range number 1 k)) (λ k. not (k == number)) (only_one number) (members_of old)
  where
    only_one : (number k : ℕ) → not (is_in_range number 1 k) ≡ not (k == number)
    only_one number k = grind (arith, nat_tests)

-- The lowest clear bit is that of the lowest number that is no member.
pub lowest_is_unreserved : (words : List ℕ) (number : ℕ) → IsLowestClear words number
    → number ≡ lowest_unreserved (members_of words)
lowest_is_unreserved words number lowest =
    sym (lowest_unreserved-is (members_of words) number (is_among-members words number ∙ lowest.clear)
    (λ k under. is_among-members words k ∙ lowest.below k under)
    (length_from_full (is_set words) number (64 * length words) (omega (arith, lowest.within)) lowest.below))

-- Where no bit is clear, the members are as many as the bits.
pub length-members_full : (words : List ℕ) → ((k : ℕ) → k < 64 * length words → is_set words k ≡ true)
    → length (members_of words) ≡ 64 * length words
length-members_full words full =
    ap length (filter_all_in (is_set words) 0 (64 * length words) (λ k low high. full k (omega arith)))
    ∙ length-range_with_len 0 (64 * length words)

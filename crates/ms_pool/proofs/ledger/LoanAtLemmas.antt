-- A loan among loans in order, and the loans where its chunk is replaced by one with the same
-- start.
use Rattle.std.proofs.Common.{◌≡◌, ◌≢◌, ◌≤◌, ℕ, zero, suc, Bool, true, false, cond, not, Some, List, [], ◌∷◌, ◌++◌, map}
use Rattle.std.proofs.Common.{refl, sym, ap, ◌∙◌, subst, arith}
use Rattle.std.specs.Prelude.{◌==◌, slice_get, slice_set}
use Rattle.std.specs.Ordering.{nat_cmp}
use Rattle.std.specs.declared.cmp.Ordering.TheVariants.{Less}
use Rattle.std.specs.List.{All, AllByRecursion, Contains, filter}
use Rattle.std.specs.List.Sorted.{IsStrictlyIncreasing, IsStrictlySortedBy}
use Rattle.std.proofs.lemmas.Bool.{and_parts, or_parts, not-true, eqb-true, eq-eqb, ne_eqb}
use Rattle.std.proofs.lemmas.Bool.Decides.{nat_tests}
use Rattle.std.proofs.lemmas.List.{map-append}
use Rattle.std.proofs.lemmas.List.Elements.{All-from_recursion, recursion_from_All}
use Rattle.std.proofs.lemmas.Map.Keys.{sorted_from_strictly_increasing}
use Rattle.ms_base.specs.declared.span.Chunk.{Chunk}
use Rattle.ms_base.specs.Interval.{meet, meets_any, are_apart}
use Rattle.ms_base.specs.Level.{size_of}
use Rattle.ms_base.specs.Held.{words_of}
use Rattle.ms_base.proofs.free.HalvesLemmas.{size_some}
use Rattle.ms_pool.specs.Ledger.{Loan, is_owned_by}
use Rattle.ms_pool.proofs.ledger.LoanLemmas.{owned_by}
use Rattle.ms_pool.proofs.ledger.LoanOrderLemmas.{start_of, StartsElsewhere}

-- An element at an index is contained.
pub contains_at : (chunks : List Chunk) (index : ℕ) (chunk : Chunk) → slice_get chunks index ≡ Some chunk
    → Contains chunks chunk
contains_at [] index chunk found = absurd (cc)
contains_at (c ∷ chunks) zero chunk found = let its : c ≡ chunk = cc in (0, omega arith, its)
contains_at (c ∷ chunks) (suc index) chunk found = let rest = contains_at chunks index chunk found in
    (suc rest.0, omega (arith, rest.1), rest.2)

-- The loan of an owner's chunk.
pub record IsLoan (owner : ℕ) (chunk : Chunk) (loans : List Loan) : Type 0 where
  pub before : List Loan
  pub after : List Loan
  pub is : loans ≡ before ++ record { owner = owner; chunk = chunk } ∷ after

later_loan : (owner : ℕ) (chunk : Chunk) (loan : Loan) (loans : List Loan) → IsLoan owner chunk loans
    → IsLoan owner chunk (loan ∷ loans)
later_loan owner chunk loan loans its =
    record { before = loan ∷ its.before; after = its.after; is = ap (λ (l : List Loan). loan ∷ l) its.is }

pub loan_of : (owner : ℕ) (chunk : Chunk) (loans : List Loan) → Contains (owned_by owner loans) chunk
    → IsLoan owner chunk loans
loan_of owner chunk [] there = absurd (omega (arith, there.1))
loan_of owner chunk (loan ∷ loans) there = go (loan.owner == owner) refl there (loan_of owner chunk loans)
  where
    own : List Loan
    own = filter (is_owned_by owner) loans

    go : (b : Bool) → (loan.owner == owner) ≡ b
        → Contains (map (λ (one : Loan). one.chunk) (cond b (loan ∷ own) own)) chunk
        → (Contains (owned_by owner loans) chunk → IsLoan owner chunk loans) → IsLoan owner chunk (loan ∷ loans)
    go true e (zero, below, is) rest = record {
      before = [];
      after = loans;
      is = ap (λ (l : Loan). l ∷ loans)
          (ap (λ (n : ℕ). record { owner = n; chunk = loan.chunk }) (eqb-true loan.owner owner e)
          ∙ ap (λ (c : Chunk). record { owner = owner; chunk = c }) is);
    }
    go true e (suc k, below, is) rest = later_loan owner chunk loan loans (rest (k, omega arith, is))
    go false e there rest = later_loan owner chunk loan loans (rest there)

-- Loans around one start elsewhere.
less_is_other : (a b : ℕ) → nat_cmp a b ≡ Less → a ≢ b
less_is_other a b e same = grind (arith, nat_tests, e)

pub all_above : (start : ℕ) (loans : List Loan)
    → AllByRecursion (λ (y : ℕ). nat_cmp start y ≡ Less) (map start_of loans)
    → AllByRecursion (StartsElsewhere start) loans
all_above start [] all = tt
all_above start (loan ∷ loans) all =
    (λ same. less_is_other start loan.chunk.start all.0 (sym same), all_above start loans all.1)

at_middle : (P : ℕ → Type 0) (b : List Loan) (loan : Loan) (a : List Loan)
    → AllByRecursion P (map start_of (b ++ loan ∷ a))
    → P loan.chunk.start
at_middle P [] loan a all = all.0
at_middle P (x ∷ b) loan a all = at_middle P b loan a all.1

pub after_elsewhere : (b : List Loan) (loan : Loan) (a : List Loan)
    → IsStrictlySortedBy nat_cmp (map start_of (b ++ loan ∷ a))
    → AllByRecursion (StartsElsewhere loan.chunk.start) a
unfolding IsStrictlySortedBy
after_elsewhere [] loan a sorted = all_above loan.chunk.start a sorted.0
after_elsewhere (x ∷ b) loan a sorted = after_elsewhere b loan a sorted.1

pub before_elsewhere : (b : List Loan) (loan : Loan) (a : List Loan)
    → IsStrictlySortedBy nat_cmp (map start_of (b ++ loan ∷ a))
    → AllByRecursion (StartsElsewhere loan.chunk.start) b
unfolding IsStrictlySortedBy
before_elsewhere [] loan a sorted = tt
before_elsewhere (x ∷ b) loan a sorted = (
  less_is_other x.chunk.start loan.chunk.start
      (at_middle (λ (y : ℕ). nat_cmp x.chunk.start y ≡ Less) b loan a sorted.0),
  before_elsewhere b loan a sorted.1,
)

-- The loans with another chunk in the place of the one that starts there.
abbrev pub in_place : Chunk → Loan → Loan
in_place chunk loan = cond (loan.chunk.start == chunk.start) (record loan { chunk = chunk }) loan

abbrev pub replaced : Chunk → List Loan → List Loan
replaced chunk loans =
    map (λ (loan : Loan). cond (loan.chunk.start == chunk.start) (record loan { chunk = chunk }) loan) loans

none_replaced : (chunk : Chunk) (loans : List Loan) → AllByRecursion (StartsElsewhere chunk.start) loans
    → replaced chunk loans ≡ loans
none_replaced chunk [] others = refl
none_replaced chunk (loan ∷ loans) others =
    ap (λ (b : Bool). cond b (record loan { chunk = chunk }) loan ∷ replaced chunk loans)
    (ne_eqb loan.chunk.start chunk.start others.0)
    ∙ ap (λ (l : List Loan). loan ∷ l) (none_replaced chunk loans others.1)

pub replaced_at : (owner : ℕ) (was is : Chunk) (b a : List Loan) → is.start ≡ was.start
    → IsStrictlyIncreasing (map start_of (b ++ record { owner = owner; chunk = was } ∷ a))
    → replaced is (b ++ record { owner = owner; chunk = was } ∷ a) ≡ b ++ record { owner = owner; chunk = is } ∷ a
replaced_at owner was is b a same order =
    map-append (in_place is) b (loan ∷ a)
    ∙ ap (λ (l : List Loan). l ++ replaced is (loan ∷ a))
    (none_replaced is b
    (subst (λ (s : ℕ). AllByRecursion (StartsElsewhere s) b) (sym same) (before_elsewhere b loan a sorted)))
    ∙ ap (λ (t : Bool). b ++ cond t (record { owner = owner; chunk = is }) loan ∷ replaced is a)
    (eq-eqb was.start is.start (sym same))
    ∙ ap (λ (l : List Loan). b ++ record { owner = owner; chunk = is } ∷ l)
    (none_replaced is a
    (subst (λ (s : ℕ). AllByRecursion (StartsElsewhere s) a) (sym same) (after_elsewhere b loan a sorted)))
  where
    loan : Loan
    loan = record { owner = owner; chunk = was }

    sorted : IsStrictlySortedBy nat_cmp (map start_of (b ++ loan ∷ a))
    sorted = sorted_from_strictly_increasing (map start_of (b ++ loan ∷ a)) order

-- No start changes, and no owner.
starts_as_before : (chunk : Chunk) (loans : List Loan) → map start_of (replaced chunk loans) ≡ map start_of loans
starts_as_before chunk [] = refl
starts_as_before chunk (loan ∷ loans) =
    go (loan.chunk.start == chunk.start) refl ∙ ap (λ (l : List ℕ). loan.chunk.start ∷ l) (starts_as_before chunk loans)
  where
    go : (b : Bool) → (loan.chunk.start == chunk.start) ≡ b
        → (cond b (record loan { chunk = chunk }) loan).chunk.start ∷ map start_of (replaced chunk loans)
        ≡ loan.chunk.start ∷ map start_of (replaced chunk loans)
    go true e = ap (λ (s : ℕ). s ∷ map start_of (replaced chunk loans)) (sym (eqb-true loan.chunk.start chunk.start e))
    go false e = refl

pub order_replaced : (chunk : Chunk) (loans : List Loan) → IsStrictlyIncreasing (map start_of loans)
    → IsStrictlyIncreasing (map start_of (replaced chunk loans))
order_replaced chunk loans order = subst IsStrictlyIncreasing (sym (starts_as_before chunk loans)) order

owners_as_before : (P : ℕ → Type 0) (chunk : Chunk) (loans : List Loan)
    → AllByRecursion (λ (loan : Loan). P loan.owner) loans
    → AllByRecursion (λ (loan : Loan). P loan.owner) (replaced chunk loans)
owners_as_before P chunk [] all = tt
owners_as_before P chunk (loan ∷ loans) all =
    (go (loan.chunk.start == chunk.start), owners_as_before P chunk loans all.1)
  where
    go : (b : Bool) → P (cond b (record loan { chunk = chunk }) loan).owner
    go true = all.0
    go false = all.0

pub owners_replaced : (P : ℕ → Type 0) (chunk : Chunk) (loans : List Loan) → All (λ (loan : Loan). P loan.owner) loans
    → All (λ (loan : Loan). P loan.owner) (replaced chunk loans)
owners_replaced P chunk loans all = All-from_recursion (λ (loan : Loan). P loan.owner) (replaced chunk loans)
    (owners_as_before P chunk loans (recursion_from_All (λ (loan : Loan). P loan.owner) loans all))

-- The chunks of an owner, with another in the place of the one that starts there.
abbrev pub swapped : Chunk → Chunk → Chunk
swapped chunk one = cond (one.start == chunk.start) chunk one

pub owned_by-replaced : (owner : ℕ) (chunk : Chunk) (loans : List Loan)
    → owned_by owner (replaced chunk loans) ≡ map (swapped chunk) (owned_by owner loans)
owned_by-replaced owner chunk [] = refl
owned_by-replaced owner chunk (loan ∷ loans) =
    ap (λ (n : ℕ). map (λ (one : Loan). one.chunk) (cond (n == owner) (in_place chunk loan ∷ own) own))
    (same_owner (loan.chunk.start == chunk.start))
    ∙ go (loan.chunk.start == chunk.start) (loan.owner == owner) refl (owned_by-replaced owner chunk loans)
  where
    with_chunk : Loan
    with_chunk = record loan { chunk = chunk }

    own : List Loan
    own = filter (is_owned_by owner) (replaced chunk loans)

    same_owner : (s : Bool) → (cond s with_chunk loan).owner ≡ loan.owner
    same_owner true = refl
    same_owner false = refl

    go : (s t : Bool) → (loan.chunk.start == chunk.start) ≡ s
        → owned_by owner (replaced chunk loans) ≡ map (swapped chunk) (owned_by owner loans)
        → map (λ (one : Loan). one.chunk) (cond t (cond s with_chunk loan ∷ own) own)
        ≡ map (swapped chunk)
        (map (λ (one : Loan). one.chunk)
        (cond t (loan ∷ filter (is_owned_by owner) loans) (filter (is_owned_by owner) loans)))
    go true true e rest = ap (λ (b : Bool). cond b chunk loan.chunk ∷ owned_by owner (replaced chunk loans)) (sym e)
        ∙ ap (λ (l : List Chunk). swapped chunk loan.chunk ∷ l) rest
    go false true e rest = ap (λ (b : Bool). cond b chunk loan.chunk ∷ owned_by owner (replaced chunk loans)) (sym e)
        ∙ ap (λ (l : List Chunk). swapped chunk loan.chunk ∷ l) rest
    go true false e rest = rest
    go false false e rest = rest

-- Of chunks that are apart, that is one.
starts_apart : (chunk : Chunk) (others : List Chunk) → meets_any (words_of chunk) (map words_of others) ≡ false
    → AllByRecursion (λ (one : Chunk). one.start ≢ chunk.start) others
starts_apart chunk [] clear = tt
starts_apart chunk (c ∷ others) clear =
    let both =
    or_parts (meet chunk.start (size_of chunk.level) c.start (size_of c.level))
    (meets_any (words_of chunk) (map words_of others)) clear in (
      λ same. itself chunk.start (size_of chunk.level) (size_of c.level) (size_some chunk.level) (size_some c.level)
          (ap (λ (s : ℕ). meet chunk.start (size_of chunk.level) s (size_of c.level)) (sym same) ∙ both.0),
      starts_apart chunk others both.1,
    )
  where
    itself : (a m n : ℕ) → 1 ≤ m → 1 ≤ n → meet a m a n ≡ false → ⊥
    itself a m n h k e = grind (arith, nat_tests, e)

none_swapped : (chunk : Chunk) (others : List Chunk) → AllByRecursion (λ (one : Chunk). one.start ≢ chunk.start) others
    → map (swapped chunk) others ≡ others
none_swapped chunk [] apart = refl
none_swapped chunk (c ∷ others) apart =
    ap (λ (b : Bool). cond b chunk c ∷ map (swapped chunk) others) (ne_eqb c.start chunk.start apart.0)
    ∙ ap (λ (l : List Chunk). c ∷ l) (none_swapped chunk others apart.1)

at_span : (P : Chunk → Type 0) (chunks : List Chunk) (index : ℕ) (chunk : Chunk) → slice_get chunks index ≡ Some chunk
    → AllByRecursion P chunks → P chunk
at_span P [] index chunk found all = absurd (cc)
at_span P (c ∷ chunks) zero chunk found all = let its : c ≡ chunk = cc in subst P its all.0
at_span P (c ∷ chunks) (suc index) chunk found all = at_span P chunks index chunk found all.1

pub swapped_at : (chunks : List Chunk) (index : ℕ) (was is : Chunk) → is.start ≡ was.start
    → are_apart (map words_of chunks) ≡ true
    → slice_get chunks index ≡ Some was → map (swapped is) chunks ≡ slice_set chunks index is
swapped_at [] index was is same apart found = absurd (cc)
swapped_at (c ∷ chunks) zero was is same apart found =
    let its : c ≡ was = cc in
    let both = and_parts (not (meets_any (words_of c) (map words_of chunks))) (are_apart (map words_of chunks)) apart in
    let start : c.start ≡ is.start = ap (λ (one : Chunk). one.start) its ∙ sym same in
    ap (λ (b : Bool). cond b is c ∷ map (swapped is) chunks) (eq-eqb c.start is.start start)
    ∙ ap (λ (l : List Chunk). is ∷ l)
    (none_swapped is chunks (subst (λ (s : ℕ). AllByRecursion (λ (one : Chunk). one.start ≢ s) chunks) start
    (starts_apart c chunks (not-true (meets_any (words_of c) (map words_of chunks)) both.0))))
swapped_at (c ∷ chunks) (suc index) was is same apart found =
    let both = and_parts (not (meets_any (words_of c) (map words_of chunks))) (are_apart (map words_of chunks)) apart in
    let other =
    at_span (λ (one : Chunk). one.start ≢ c.start) chunks index was found
    (starts_apart c chunks (not-true (meets_any (words_of c) (map words_of chunks)) both.0)) in
    ap (λ (b : Bool). cond b is c ∷ map (swapped is) chunks) (ne_eqb c.start is.start (λ e. other (sym same ∙ sym e)))
    ∙ ap (λ (l : List Chunk). c ∷ l) (swapped_at chunks index was is same both.1 found)

-- A start tells the chunk.
pub same_from_start : (chunks : List Chunk) (index other : ℕ) (a b : Chunk) → are_apart (map words_of chunks) ≡ true
    → slice_get chunks index ≡ Some a → slice_get chunks other ≡ Some b → a.start ≡ b.start → a ≡ b
same_from_start [] index other a b apart found too same = absurd (cc)
same_from_start (c ∷ chunks) index other a b apart found too same =
    go index other found too
    (λ p q h k. same_from_start chunks p q a b
    (and_parts (not (meets_any (words_of c) (map words_of chunks))) (are_apart (map words_of chunks)) apart).1 h k
    same)
  where
    clear : meets_any (words_of c) (map words_of chunks) ≡ false
    clear = not-true (meets_any (words_of c) (map words_of chunks))
        (and_parts (not (meets_any (words_of c) (map words_of chunks))) (are_apart (map words_of chunks)) apart).0

    differ : (index : ℕ) (d : Chunk) → slice_get chunks index ≡ Some d → d.start ≢ c.start
    differ index d found =
        at_span (λ (one : Chunk). one.start ≢ c.start) chunks index d found (starts_apart c chunks clear)

    go : (index other : ℕ) → slice_get (c ∷ chunks) index ≡ Some a → slice_get (c ∷ chunks) other ≡ Some b
        → ((p q : ℕ) → slice_get chunks p ≡ Some a → slice_get chunks q ≡ Some b → a ≡ b) → a ≡ b
    go zero zero found too rest = let first : c ≡ a = cc in let second : c ≡ b = cc in sym first ∙ second
    go zero (suc other) found too rest = let first : c ≡ a =
        cc in absurd (differ other b too (sym same ∙ ap (λ (d : Chunk). d.start) (sym first)))
    go (suc index) zero found too rest = let second : c ≡ b =
        cc in absurd (differ index a found (same ∙ ap (λ (d : Chunk). d.start) (sym second)))
    go (suc index) (suc other) found too rest = rest index other found too

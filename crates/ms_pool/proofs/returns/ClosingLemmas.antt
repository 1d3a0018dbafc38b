-- The chunks of an account taken back one after the other: which are lent still, that none of the
-- owner's is lent at the end, and that granules may follow once or at each step. The proofs of
-- `close` and `close_both` use them.
use Rattle.std.proofs.Common.{◌≡◌, ◌≤◌, ℕ, zero, suc, ◌+◌, Bool, true, false, cond, not, ◌&&◌, ◌||◌, ◌==◌, eqb-true}
use Rattle.std.proofs.Common.{List, [], ◌∷◌, ◌++◌, map, take, refl, sym, ap, ◌∙◌, arith, inl, inr, Some}
use Rattle.std.specs.Ordering.{nat_cmp}
use Rattle.std.specs.List.{AllByRecursion, filter, list_any, slice_get}
use Rattle.std.specs.List.Sorted.{IsStrictlySortedBy}
use Rattle.std.proofs.lemmas.Bool.{or_cases, or_from, or_left, or_right, or_parts, and_parts, ne_eqb}
use Rattle.std.proofs.lemmas.Bool.Decides.{nat_tests}
use Rattle.std.proofs.lemmas.List.{take_more}
use Rattle.std.proofs.lemmas.List.Elements.{filter_agree}
use Rattle.std.proofs.lemmas.List.Folds.{list_any-append}
use Rattle.std.proofs.lemmas.List.Sorted.{list_any-IsPermutation}
use Rattle.std.proofs.lemmas.Map.Keys.{sorted_from_strictly_increasing}
use Rattle.std.proofs.lemmas.Option.{get_or_from_slice_get, slice_get_within}
use Rattle.ms_base.specs.declared.span.Chunk.{Chunk}
use Rattle.ms_base.specs.Interval.{meet, meets_any, are_apart}
use Rattle.ms_base.specs.Level.{size_of}
use Rattle.ms_base.specs.Held.{words_of}
use Rattle.ms_base.proofs.free.HalvesLemmas.{size_some}
use Rattle.ms_commit.proofs.RangeLemmas.{filter-filter}
use Rattle.ms_pool.specs.Account.{AccountState, AreChunks}
use Rattle.ms_pool.specs.Ledger.{Loan, Ledger, IsSoundLedger, Serves, is_owned_by, others_than}
use Rattle.ms_pool.specs.Releasing.{is_at, is_lent_in, without_loan}
use Rattle.ms_pool.proofs.ledger.LoanLemmas.{owned_by}
use Rattle.ms_pool.proofs.ledger.LoanOrderLemmas.{StartsElsewhere, start_of}
use Rattle.ms_pool.proofs.returns.ReleasedChunkLemmas.{is_there, not_true}
use Rattle.ms_pool.proofs.ledger.LoanAtLemmas.{all_above}

-- One of the chunks is of that span; and the loans of none of their spans.
abbrev pub at_span : List Chunk → ℕ → ℕ → Bool
at_span chunks start level = list_any (λ (c : Chunk). (start == c.start) && (level == c.level)) chunks

abbrev pub without_all : List Chunk → List Loan → List Loan
without_all chunks loans = filter (λ (loan : Loan). not (at_span chunks loan.chunk.start loan.chunk.level)) loans

pub without_none : (loans : List Loan) → without_all [] loans ≡ loans
without_none [] = refl
without_none (loan ∷ loans) = ap (λ (l : List Loan). loan ∷ l) (without_none loans)

pub without_one_more : (chunks : List Chunk) (chunk : Chunk) (loans : List Loan)
    → without_loan chunk (without_all chunks loans) ≡ without_all (chunks ++ chunk ∷ []) loans
without_one_more chunks chunk loans =
    filter-filter (λ (loan : Loan). not (at_span chunks loan.chunk.start loan.chunk.level))
    (λ loan. not (is_at chunk loan)) loans
    ∙ filter_agree (λ (loan : Loan). not (at_span chunks loan.chunk.start loan.chunk.level) && not (is_at chunk loan))
    (λ (loan : Loan). not (at_span (chunks ++ chunk ∷ []) loan.chunk.start loan.chunk.level))
    (λ loan. neither (at_span chunks loan.chunk.start loan.chunk.level) (is_at chunk loan)
    ∙ ap not (sym
    (list_any-append (λ (c : Chunk). (loan.chunk.start == c.start) && (loan.chunk.level == c.level)) chunks
    (chunk ∷ [])))) loans
  where
    neither : (a b : Bool) → (not a && not b) ≡ not (a || (b || false))
    neither true b = refl
    neither false true = refl
    neither false false = refl

pub take_one_more : (chunks : List Chunk) (index : ℕ) (chunk : Chunk) → slice_get chunks index ≡ Some chunk
    → take (index + 1) chunks ≡ take index chunks ++ chunk ∷ []
take_one_more chunks index chunk found =
    take_more chunks index chunk (slice_get_within chunks index chunk found)
    ∙ ap (λ (c : Chunk). take index chunks ++ c ∷ []) (get_or_from_slice_get chunks index chunk chunk found)

-- Chunks that are apart have each a span of its own.
met_by_none : (c : Chunk) (chunks : List Chunk) (index : ℕ) (chunk : Chunk)
    → meets_any (words_of c) (map words_of chunks) ≡ false → slice_get chunks index ≡ Some chunk
    → meet c.start (size_of c.level) chunk.start (size_of chunk.level) ≡ false
met_by_none c [] index chunk clear found = absurd (cc)
met_by_none c (x ∷ chunks) zero chunk clear found = let same : x ≡ chunk = cc in
    ap (λ (y : Chunk). meet c.start (size_of c.level) y.start (size_of y.level)) (sym same)
    ∙ (or_parts (meet c.start (size_of c.level) x.start (size_of x.level))
    (meets_any (words_of c) (map words_of chunks)) clear).0
met_by_none c (x ∷ chunks) (suc index) chunk clear found =
    met_by_none c chunks index chunk
    (or_parts (meet c.start (size_of c.level) x.start (size_of x.level))
    (meets_any (words_of c) (map words_of chunks)) clear).1 found

none_before : (chunks : List Chunk) (index : ℕ) (chunk : Chunk) → are_apart (map words_of chunks) ≡ true
    → slice_get chunks index ≡ Some chunk
    → at_span (take index chunks) chunk.start chunk.level ≡ false
none_before [] index chunk apart found = absurd (cc)
none_before (c ∷ chunks) zero chunk apart found = refl
none_before (c ∷ chunks) (suc index) chunk apart found =
    let parts = and_parts (not (meets_any (words_of c) (map words_of chunks))) (are_apart (map words_of chunks)) apart
    in
    or_from ((chunk.start == c.start) && (chunk.level == c.level))
    (at_span (take index chunks) chunk.start chunk.level)
    (ap (λ (b : Bool). b && (chunk.level == c.level))
    (differ c.start (size_of c.level) chunk.start (size_of chunk.level) (size_some c.level) (size_some chunk.level)
    (met_by_none c chunks index chunk (not_true (meets_any (words_of c) (map words_of chunks)) parts.0) found)))
    (none_before chunks index chunk parts.1 found)
  where
    differ : (a s b t : ℕ) → 1 ≤ s → 1 ≤ t → meet a s b t ≡ false → (b == a) ≡ false
    differ a s b t h k e = grind (arith, nat_tests)

-- The later ones are lent still.
itself_there : (chunks : List Chunk) (index : ℕ) (chunk : Chunk) → slice_get chunks index ≡ Some chunk
    → list_any (is_there chunk) chunks ≡ true
itself_there [] index chunk found = absurd (cc)
itself_there (c ∷ chunks) zero chunk found = let same : c ≡ chunk = cc in
    or_left (is_there chunk c) (list_any (is_there chunk) chunks)
    (ap (λ (d : Chunk). is_there chunk d) same ∙ itself chunk.start chunk.level)
  where
    itself : (a b : ℕ) → ((a == a) && (b == b)) ≡ true
    itself a b = grind (arith, nat_tests)
itself_there (c ∷ chunks) (suc index) chunk found =
    or_right (is_there chunk c) (list_any (is_there chunk) chunks) (itself_there chunks index chunk found)

owned_is_lent : (owner : ℕ) (chunk : Chunk) (loans : List Loan)
    → list_any (is_there chunk) (owned_by owner loans) ≡ true → is_lent_in loans chunk ≡ true
owned_is_lent owner chunk [] there = there
owned_is_lent owner chunk (loan ∷ loans) there = step (is_owned_by owner loan) there (owned_is_lent owner chunk loans)
  where
    step : (b : Bool)
        → list_any (is_there chunk)
        (map (λ (one : Loan). one.chunk)
        (cond b (loan ∷ filter (is_owned_by owner) loans) (filter (is_owned_by owner) loans))) ≡ true
        → (list_any (is_there chunk) (owned_by owner loans) ≡ true → is_lent_in loans chunk ≡ true)
        → (is_at chunk loan || is_lent_in loans chunk) ≡ true
    step false h rest = or_right (is_at chunk loan) (is_lent_in loans chunk) (rest h)
    step true h rest =
        elim (or_cases (is_there chunk loan.chunk) (list_any (is_there chunk) (owned_by owner loans)) h) [
          | inl here ↦ or_left (is_at chunk loan) (is_lent_in loans chunk) here
          | inr later ↦ or_right (is_at chunk loan) (is_lent_in loans chunk) (rest later)
        ]

lent_without : (chunks : List Chunk) (chunk : Chunk) (loans : List Loan)
    → at_span chunks chunk.start chunk.level ≡ false → is_lent_in loans chunk ≡ true
    → is_lent_in (without_all chunks loans) chunk ≡ true
lent_without chunks chunk [] clear lent = lent
lent_without chunks chunk (loan ∷ loans) clear lent = elim (or_cases (is_at chunk loan) (is_lent_in loans chunk) lent) [
  | inl here ↦ let both = and_parts (loan.chunk.start == chunk.start) (loan.chunk.level == chunk.level) here in
      ap (λ (b : Bool). is_lent_in (cond (not b) (loan ∷ rest) rest) chunk)
      (ap (λ (s : ℕ). at_span chunks s loan.chunk.level) (eqb-true loan.chunk.start chunk.start both.0)
      ∙ ap (λ (l : ℕ). at_span chunks chunk.start l) (eqb-true loan.chunk.level chunk.level both.1) ∙ clear)
      ∙ or_left (is_at chunk loan) (is_lent_in rest chunk) here
  | inr later ↦ step (at_span chunks loan.chunk.start loan.chunk.level) (lent_without chunks chunk loans clear later)
]
  where
    rest : List Loan
    rest = without_all chunks loans

    step : (b : Bool) → is_lent_in rest chunk ≡ true → is_lent_in (cond (not b) (loan ∷ rest) rest) chunk ≡ true
    step true h = h
    step false h = or_right (is_at chunk loan) (is_lent_in rest chunk) h

pub lent_still : (ledger : Ledger) (account : AccountState) (index : ℕ) (chunk : Chunk) → Serves ledger account
    → AreChunks account.space account.chunks
    → slice_get account.chunks index ≡ Some chunk
    → is_lent_in (without_all (take index account.chunks) ledger.loans) chunk ≡ true
lent_still ledger account index chunk served chunks found =
    lent_without (take index account.chunks) chunk ledger.loans
    (none_before account.chunks index chunk chunks.apart found)
    (owned_is_lent account.owner chunk ledger.loans
    (list_any-IsPermutation (is_there chunk) (owned_by account.owner ledger.loans) account.chunks served.chunks
    ∙ itself_there account.chunks index chunk found))

-- At the end none of the owner's is lent, and all others are.
none_owned_at : (owner start level : ℕ) (loans : List Loan) → AllByRecursion (StartsElsewhere start) loans
    → at_span (owned_by owner loans) start level ≡ false
none_owned_at owner start level [] others = refl
none_owned_at owner start level (loan ∷ loans) others =
    step (is_owned_by owner loan) (none_owned_at owner start level loans others.1)
  where
    step : (b : Bool) → at_span (owned_by owner loans) start level ≡ false
        → at_span
        (map (λ (one : Loan). one.chunk)
        (cond b (loan ∷ filter (is_owned_by owner) loans) (filter (is_owned_by owner) loans))) start level ≡ false
    step false h = h
    step true h =
        or_from ((start == loan.chunk.start) && (level == loan.chunk.level))
        (at_span (owned_by owner loans) start level)
        (ap (λ (b : Bool). b && (level == loan.chunk.level))
        (ne_eqb start loan.chunk.start (λ same. others.0 (sym same)))) h

but_the_first : (chunk : Chunk) (chunks : List Chunk) (loans : List Loan)
    → AllByRecursion (StartsElsewhere chunk.start) loans
    → without_all (chunk ∷ chunks) loans ≡ without_all chunks loans
but_the_first chunk chunks [] others = refl
but_the_first chunk chunks (loan ∷ loans) others =
    ap (λ (b : Bool). cond
    (not ((b && (loan.chunk.level == chunk.level)) || at_span chunks loan.chunk.start loan.chunk.level))
    (loan ∷ without_all (chunk ∷ chunks) loans) (without_all (chunk ∷ chunks) loans))
    (ne_eqb loan.chunk.start chunk.start others.0)
    ∙ ap (λ (l : List Loan). cond (not (at_span chunks loan.chunk.start loan.chunk.level)) (loan ∷ l) l)
    (but_the_first chunk chunks loans others.1)

own_gone : (owner : ℕ) (loans : List Loan) → IsStrictlySortedBy nat_cmp (map start_of loans)
    → without_all (owned_by owner loans) loans ≡ others_than owner loans
unfolding IsStrictlySortedBy
own_gone owner [] sorted = refl
own_gone owner (loan ∷ loans) sorted =
    step (is_owned_by owner loan) (all_above loan.chunk.start loans sorted.0) (own_gone owner loans sorted.1)
  where
    own : List Chunk
    own = owned_by owner loans

    itself : (a b : ℕ) (c : Bool) → (((a == a) && (b == b)) || c) ≡ true
    itself a b c = grind (arith, nat_tests)

    step : (b : Bool) → AllByRecursion (StartsElsewhere loan.chunk.start) loans
        → without_all own loans ≡ others_than owner loans
        → without_all
        (map (λ (one : Loan). one.chunk)
        (cond b (loan ∷ filter (is_owned_by owner) loans) (filter (is_owned_by owner) loans))) (loan ∷ loans)
        ≡ cond (not b) (loan ∷ others_than owner loans) (others_than owner loans)
    step true others same =
        ap (λ (b : Bool). cond (not b) (loan ∷ without_all (loan.chunk ∷ own) loans)
        (without_all (loan.chunk ∷ own) loans))
        (itself loan.chunk.start loan.chunk.level (at_span own loan.chunk.start loan.chunk.level))
        ∙ but_the_first loan.chunk own loans others ∙ same
    step false others same =
        ap (λ (b : Bool). cond (not b) (loan ∷ without_all own loans) (without_all own loans))
        (none_owned_at owner loan.chunk.start loan.chunk.level loans others)
        ∙ ap (λ (l : List Loan). loan ∷ l) same

pub all_gone : (ledger : Ledger) (account : AccountState) → IsSoundLedger ledger → Serves ledger account
    → without_all account.chunks ledger.loans ≡ others_than account.owner ledger.loans
all_gone ledger account sound served =
    filter_agree (λ (loan : Loan). not (at_span account.chunks loan.chunk.start loan.chunk.level))
    (λ (loan : Loan). not (at_span (owned_by account.owner ledger.loans) loan.chunk.start loan.chunk.level))
    (λ loan. ap not
    (sym (list_any-IsPermutation (λ (c : Chunk). (loan.chunk.start == c.start) && (loan.chunk.level == c.level))
    (owned_by account.owner ledger.loans) account.chunks served.chunks))) ledger.loans
    ∙ own_gone account.owner ledger.loans (sorted_from_strictly_increasing (map start_of ledger.loans) sound.order)

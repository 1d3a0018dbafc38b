-- The held chunks of a space once one is taken back: the others are apart from it, and commit all
-- that its front doesn't meet. The proof of `release` uses them.
use Rattle.std.proofs.Common.{◌≡◌, ◌≤◌, ℕ, ◌*◌, Bool, true, false, cond, not, ◌&&◌, ◌||◌, ◌==◌, eqb-true, List, [], ◌∷◌}
use Rattle.std.proofs.Common.{map, refl, sym, ap, ◌∙◌, arith, inl, inr}
use Rattle.std.specs.List.{AllByRecursion, filter, list_any}
use Rattle.std.proofs.lemmas.Bool.{or_cases, or_parts, or_from, or_left, or_right, and_parts}
use Rattle.std.proofs.lemmas.Bool.Decides.{nat_tests}
use Rattle.ms_base.specs.declared.kind.Space.{Space}
use Rattle.ms_base.specs.declared.span.Chunk.{Chunk}
use Rattle.ms_base.specs.Interval.{meet, meets_any, are_apart}
use Rattle.ms_base.specs.Level.{size_of}
use Rattle.ms_base.specs.Held.{meets_chunk, words_of}
use Rattle.ms_base.specs.Spaces.{is_in}
use Rattle.ms_base.specs.Committed.{is_committed}
use Rattle.ms_pool.specs.Ledger.{Loan}
use Rattle.ms_pool.specs.Releasing.{is_at, is_lent_in, without_loan}
use Rattle.ms_pool.proofs.searches.FreeRootLemmas.{chunks_there}

-- A chunk is of the span of another.
abbrev pub is_there : Chunk → Chunk → Bool
is_there chunk one = (one.start == chunk.start) && (one.level == chunk.level)

abbrev pub without_chunk : Chunk → List Chunk → List Chunk
without_chunk chunk held = filter (λ one. not (is_there chunk one)) held

-- The chunks of a space without the loan.
pub held_without : (space : Space) (chunk : Chunk) (loans : List Loan)
    → chunks_there space (without_loan chunk loans) ≡ without_chunk chunk (chunks_there space loans)
held_without space chunk [] = refl
held_without space chunk (loan ∷ loans) =
    go (is_at chunk loan) (is_in space loan.chunk.start) refl refl (held_without space chunk loans)
  where
    left : List Loan
    left = without_loan chunk loans

    rest : List Chunk
    rest = chunks_there space loans

    go : (t here : Bool) → is_at chunk loan ≡ t → is_in space loan.chunk.start ≡ here
        → chunks_there space left ≡ without_chunk chunk rest
        → chunks_there space (cond (not t) (loan ∷ left) left)
        ≡ without_chunk chunk (cond here (loan.chunk ∷ rest) rest)
    go true true e f same =
        same ∙ sym
        (ap (λ (b : Bool). cond (not b) (loan.chunk ∷ without_chunk chunk rest) (without_chunk chunk rest)) e)
    go true false e f same = same
    go false true e f same =
        ap (λ (b : Bool). cond b (loan.chunk ∷ chunks_there space left) (chunks_there space left)) f
        ∙ ap (λ (l : List Chunk). loan.chunk ∷ l) same
        ∙ sym (ap (λ (b : Bool). cond (not b) (loan.chunk ∷ without_chunk chunk rest) (without_chunk chunk rest)) e)
    go false false e f same =
        ap (λ (b : Bool). cond b (loan.chunk ∷ chunks_there space left) (chunks_there space left)) f ∙ same

-- A loan of a span of a space is a chunk of it; where no chunk is of the span, all stay.
pub held_there : (space : Space) (chunk : Chunk) (loans : List Loan) → is_in space chunk.start ≡ true
    → is_lent_in loans chunk ≡ true
    → list_any (is_there chunk) (chunks_there space loans) ≡ true
held_there space chunk [] inside lent = absurd (cc)
held_there space chunk (loan ∷ loans) inside lent = elim (or_cases (is_at chunk loan) (is_lent_in loans chunk) lent) [
  | inl here ↦
      ap (λ (b : Bool). list_any (is_there chunk)
      (cond b (loan.chunk ∷ chunks_there space loans) (chunks_there space loans)))
      (ap (is_in space)
      (eqb-true loan.chunk.start chunk.start
      (and_parts (loan.chunk.start == chunk.start) (loan.chunk.level == chunk.level) here).0) ∙ inside)
      ∙ or_left (is_there chunk loan.chunk) (list_any (is_there chunk) (chunks_there space loans)) here
  | inr later ↦ more (is_in space loan.chunk.start) (held_there space chunk loans inside later)
]
  where
    more : (b : Bool) → list_any (is_there chunk) (chunks_there space loans) ≡ true
        → list_any (is_there chunk) (cond b (loan.chunk ∷ chunks_there space loans) (chunks_there space loans)) ≡ true
    more true h = or_right (is_there chunk loan.chunk) (list_any (is_there chunk) (chunks_there space loans)) h
    more false h = h

pub held_elsewhere : (space : Space) (chunk : Chunk) (loans : List Loan) → is_in space chunk.start ≡ false
    → chunks_there space (without_loan chunk loans) ≡ chunks_there space loans
held_elsewhere space chunk [] outside = refl
held_elsewhere space chunk (loan ∷ loans) outside =
    go (is_at chunk loan) (is_in space loan.chunk.start) refl refl (held_elsewhere space chunk loans outside)
  where
    left : List Loan
    left = without_loan chunk loans

    go : (t here : Bool) → is_at chunk loan ≡ t → is_in space loan.chunk.start ≡ here
        → chunks_there space left ≡ chunks_there space loans
        → chunks_there space (cond (not t) (loan ∷ left) left)
        ≡ cond here (loan.chunk ∷ chunks_there space loans) (chunks_there space loans)
    go true true e f same =
        let its =
        ap (is_in space)
        (eqb-true loan.chunk.start chunk.start
        (and_parts (loan.chunk.start == chunk.start) (loan.chunk.level == chunk.level) e).0) in absurd (cc)
    go true false e f same = same
    go false true e f same =
        ap (λ (b : Bool). cond b (loan.chunk ∷ chunks_there space left) (chunks_there space left)) f
        ∙ ap (λ (l : List Chunk). loan.chunk ∷ l) same
    go false false e f same =
        ap (λ (b : Bool). cond b (loan.chunk ∷ chunks_there space left) (chunks_there space left)) f ∙ same

-- The chunk's words are clear once it is taken back.
turned : (a m b n : ℕ) → meet a m b n ≡ false → meet b n a m ≡ false
turned a m b n e = grind (arith, nat_tests)

clear_among : (x : Chunk) (q : Chunk → Bool) (held : List Chunk) → meets_any (words_of x) (map words_of held) ≡ false
    → meets_chunk (filter q held) x.start x.level ≡ false
clear_among x q [] clear = refl
clear_among x q (one ∷ held) clear =
    let parts =
    or_parts (meet x.start (size_of x.level) one.start (size_of one.level))
    (meets_any (words_of x) (map words_of held)) clear in
    step (q one) (turned x.start (size_of x.level) one.start (size_of one.level) parts.0) (clear_among x q held parts.1)
  where
    step : (b : Bool) → meet one.start (size_of one.level) x.start (size_of x.level) ≡ false
        → meets_chunk (filter q held) x.start x.level ≡ false
        → meets_chunk (cond b (one ∷ filter q held) (filter q held)) x.start x.level ≡ false
    step true e rest =
        or_from (meet one.start (size_of one.level) x.start (size_of x.level))
        (meets_chunk (filter q held) x.start x.level) e rest
    step false e rest = rest

apart_from : (x chunk : Chunk) (held : List Chunk) → meets_any (words_of x) (map words_of held) ≡ false
    → list_any (is_there chunk) held ≡ true
    → meet x.start (size_of x.level) chunk.start (size_of chunk.level) ≡ false
apart_from x chunk [] clear there = absurd (cc)
apart_from x chunk (one ∷ held) clear there =
    let parts =
    or_parts (meet x.start (size_of x.level) one.start (size_of one.level))
    (meets_any (words_of x) (map words_of held)) clear in
    elim (or_cases (is_there chunk one) (list_any (is_there chunk) held) there) [
      | inl here ↦ let both = and_parts (one.start == chunk.start) (one.level == chunk.level) here in
          ap (λ (s : ℕ). meet x.start (size_of x.level) s (size_of chunk.level))
          (sym (eqb-true one.start chunk.start both.0))
          ∙ ap (λ (l : ℕ). meet x.start (size_of x.level) one.start (size_of l))
          (sym (eqb-true one.level chunk.level both.1)) ∙ parts.0
      | inr later ↦ apart_from x chunk held parts.1 later
    ]

pub not_true : (a : Bool) → not a ≡ true → a ≡ false
not_true true e = absurd (cc)
not_true false e = refl

pub clear_once_out : (chunk : Chunk) (held : List Chunk) → are_apart (map words_of held) ≡ true
    → list_any (is_there chunk) held ≡ true
    → meets_chunk (without_chunk chunk held) chunk.start chunk.level ≡ false
clear_once_out chunk [] apart there = refl
clear_once_out chunk (x ∷ held) apart there =
    let parts = and_parts (not (meets_any (words_of x) (map words_of held))) (are_apart (map words_of held)) apart in
    let clear = not_true (meets_any (words_of x) (map words_of held)) parts.0 in
    elim (or_cases (is_there chunk x) (list_any (is_there chunk) held) there) [
      | inl here ↦ let both = and_parts (x.start == chunk.start) (x.level == chunk.level) here in
          ap (λ (b : Bool). meets_chunk (cond (not b) (x ∷ rest) rest) chunk.start chunk.level) here
          ∙ ap (λ (s : ℕ). meets_chunk rest s chunk.level) (sym (eqb-true x.start chunk.start both.0))
          ∙ ap (λ (l : ℕ). meets_chunk rest x.start l) (sym (eqb-true x.level chunk.level both.1))
          ∙ clear_among x (λ one. not (is_there chunk one)) held clear
      | inr later ↦ step (is_there chunk x) (apart_from x chunk held clear later)
          (clear_once_out chunk held parts.1 later)
    ]
  where
    rest : List Chunk
    rest = without_chunk chunk held

    step : (b : Bool) → meet x.start (size_of x.level) chunk.start (size_of chunk.level) ≡ false
        → meets_chunk rest chunk.start chunk.level ≡ false
        → meets_chunk (cond (not b) (x ∷ rest) rest) chunk.start chunk.level ≡ false
    step true e clear = clear
    step false e clear =
        or_from (meet x.start (size_of x.level) chunk.start (size_of chunk.level))
        (meets_chunk rest chunk.start chunk.level) e clear

-- What the others commit was committed; and what the chunk's words don't meet stays so.
pub committed_still : (granule number : ℕ) (q : Chunk → Bool) (held : List Chunk)
    → is_committed granule (filter q held) number ≡ true → is_committed granule held number ≡ true
committed_still granule number q [] there = absurd (cc)
committed_still granule number q (x ∷ held) there = step (q x) there (committed_still granule number q held)
  where
    meets : Bool
    meets = meet x.start x.front (number * granule) granule

    step : (b : Bool) → is_committed granule (cond b (x ∷ filter q held) (filter q held)) number ≡ true
        → (is_committed granule (filter q held) number ≡ true → is_committed granule held number ≡ true)
        → (meets || is_committed granule held number) ≡ true
    step false h rest = or_right meets (is_committed granule held number) (rest h)
    step true h rest = elim (or_cases meets (is_committed granule (filter q held) number) h) [
      | inl here ↦ or_left meets (is_committed granule held number) here
      | inr later ↦ or_right meets (is_committed granule held number) (rest later)
    ]

pub committed_elsewhere : (granule number : ℕ) (chunk : Chunk) (held : List Chunk)
    → AllByRecursion (λ one. one.front ≤ size_of one.level) held
    → meet chunk.start (size_of chunk.level) (number * granule) granule ≡ false
    → is_committed granule (without_chunk chunk held) number ≡ is_committed granule held number
committed_elsewhere granule number chunk [] fit outside = refl
committed_elsewhere granule number chunk (x ∷ held) fit outside =
    step (is_there chunk x) refl (committed_elsewhere granule number chunk held fit.1 outside)
  where
    meets : Bool
    meets = meet x.start x.front (number * granule) granule

    rest : List Chunk
    rest = without_chunk chunk held

    shorter : (a f s b n : ℕ) → f ≤ s → meet a s b n ≡ false → meet a f b n ≡ false
    shorter a f s b n h e = grind (arith, nat_tests)

    out : is_there chunk x ≡ true → meets ≡ false
    out e = let both = and_parts (x.start == chunk.start) (x.level == chunk.level) e in
        shorter x.start x.front (size_of x.level) (number * granule) granule fit.0
        (ap (λ (s : ℕ). meet s (size_of x.level) (number * granule) granule) (eqb-true x.start chunk.start both.0)
        ∙ ap (λ (l : ℕ). meet chunk.start (size_of l) (number * granule) granule) (eqb-true x.level chunk.level both.1)
        ∙ outside)

    step : (b : Bool) → is_there chunk x ≡ b → is_committed granule rest number ≡ is_committed granule held number
        → is_committed granule (cond (not b) (x ∷ rest) rest) number ≡ (meets || is_committed granule held number)
    step true e same = same ∙ sym (ap (λ (b : Bool). b || is_committed granule held number) (out e))
    step false e same = ap (λ (b : Bool). meets || b) same

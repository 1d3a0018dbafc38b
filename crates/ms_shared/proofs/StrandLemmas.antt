-- Strands and the history: what an event more makes of them.
use Rattle.std.proofs.Common.{◌≡◌, ◌≢◌, ℕ, zero, suc, ◌+◌, ◌<◌, ◌≤◌, ◌==◌, Bool, true, false, List, [], ◌∷◌, ◌++◌}
use Rattle.std.proofs.Common.{length, eq-eqb, ne_eqb, zero-add, refl, sym, ap, ◌∙◌, arith}
use mathlib.Core.Logic.{dite}
use native.Mathlib.Decide.{ℕ_discrete}
use Rattle.ms_pool.specs.Ledger.{Ledger}
use Rattle.ms_shared.specs.Entries.{one_if}
use Rattle.ms_shared.specs.Weaving.{where_so}
use Rattle.ms_shared.specs.History.{Event, Logged, Strand, Chain, events_in, events_of, AreBelow, AreStrands}
use Rattle.ms_shared.specs.History.{strands_with, first_strand, front, later, IsOne, extended, no_events}

-- The history with an event more.
abbrev pub with_event : List Logged → ℕ → Event → List Logged
with_event log n e = log ++ (n, e) ∷ []

pub chain_more : (log : List Logged) (n : ℕ) (first old new : Ledger) → Chain first (events_in log) old
    → Chain first (events_in (with_event log n (old, new))) new
chain_more [] n first old new chain = (chain, refl)
chain_more (e ∷ log) n first old new chain = (chain.0, chain_more log n e.1.1 old new chain.1)

pub below_more : (made : ℕ) (log : List Logged) (n : ℕ) (e : Event) → n < made → AreBelow made log
    → AreBelow made (with_event log n e)
below_more made [] n e less below = (less, tt)
below_more made (x ∷ log) n e less below = (below.0, below_more made log n e less below.1)

where_append : (b : Bool) (e : Event) (es fs : List Event) → where_so b e (es ++ fs) ≡ where_so b e es ++ fs
where_append true e es fs = refl
where_append false e es fs = refl

of_own : (log : List Logged) (n : ℕ) (e : Event) → events_of n (with_event log n e) ≡ events_of n log ++ e ∷ []
of_own [] n e = rw (eq-eqb n n refl) refl
of_own (x ∷ log) n e =
    ap (where_so (x.0 == n) x.1) (of_own log n e) ∙ where_append (x.0 == n) x.1 (events_of n log) (e ∷ [])

of_else : (log : List Logged) (n k : ℕ) (e : Event) → n ≢ k → events_of k (with_event log n e) ≡ events_of k log
of_else [] n k e differs = rw (ne_eqb n k differs) refl
of_else (x ∷ log) n k e differs = ap (where_so (x.0 == k) x.1) (of_else log n k e differs)

-- Strands of other numbers stay.
pub strands_kept : (made : ℕ) (log : List Logged) (n : ℕ) (e : Event) (ss : List Strand) → strands_with n ss ≡ 0
    → AreStrands made log ss → AreStrands made (with_event log n e) ss
strands_kept made log n e [] none are = tt
strands_kept made log n e (s ∷ ss) none are =
    let apart : n ≢ s.0 =
    λ is. let one : one_if (s.0 == n) ≡ 1 = ap one_if (eq-eqb s.0 n (sym is)) in absurd (omega arith) in (
      are.0,
      are.1 ∙ sym (of_else log n s.0 e apart),
      strands_kept made log n e ss (omega arith) are.2,
    )

-- The number under which a view's events are made.
abbrev pub own_number : List Strand → ℕ
own_number ss = (first_strand ss).0

pub number_below : (made : ℕ) (log : List Logged) (ss : List Strand) → 0 < length ss → AreStrands made log ss
    → own_number ss < made
number_below made log [] some are = absurd (omega arith)
number_below made log (s ∷ ss) some are = are.0

pub own_strands : (ss : List Strand) → 0 < length ss → 1 ≤ strands_with (own_number ss) ss
own_strands [] some = absurd (omega arith)
own_strands (s ∷ ss) some = let one : one_if (s.0 == s.0) ≡ 1 = ap one_if (eq-eqb s.0 s.0 refl) in omega arith

pub strands_extended : (made : ℕ) (log : List Logged) (e : Event) (ss : List Strand)
    → strands_with (own_number ss) ss ≤ 1 → AreStrands made log ss
    → AreStrands made (with_event log (own_number ss) e) (extended e ss)
strands_extended made log e [] once are = tt
strands_extended made log e (s ∷ ss) once are =
    let one : one_if (s.0 == s.0) ≡ 1 = ap one_if (eq-eqb s.0 s.0 refl) in (
      are.0,
      ap (λ (l : List Event). l ++ e ∷ []) are.1 ∙ sym (of_own log s.0 e),
      strands_kept made log s.0 e ss (omega arith) are.2,
    )

pub with_extended : (n : ℕ) (e : Event) (ss : List Strand) → strands_with n (extended e ss) ≡ strands_with n ss
with_extended n e [] = refl
with_extended n e (s ∷ ss) = refl

-- A seat's own strand, with an event more.
pub first_extended : (e : Event) (ss : List Strand) → IsOne ss
    → first_strand (extended e ss) ≡ ((first_strand ss).0, (first_strand ss).1 ++ e ∷ [])
first_extended e [] one = let none : ◌≡◌ {A = ℕ} 0 1 = ap (λ (l : List Strand). length l) one in absurd (omega arith)
first_extended e (s ∷ ss) one = refl

-- Strands joined and cut.
pub with_append : (n : ℕ) (ss ts : List Strand) → strands_with n (ss ++ ts) ≡ strands_with n ss + strands_with n ts
with_append n [] ts = sym (zero-add (strands_with n ts))
with_append n (s ∷ ss) ts = let rest = with_append n ss ts in omega arith

pub strands_append : (made : ℕ) (log : List Logged) (ss ts : List Strand) → AreStrands made log ss
    → AreStrands made log ts → AreStrands made log (ss ++ ts)
strands_append made log [] ts one two = two
strands_append made log (s ∷ ss) ts one two = (one.0, one.1, strands_append made log ss ts one.2 two)

pub strands_front : (made : ℕ) (log : List Logged) (ss ts : List Strand) → AreStrands made log (ss ++ ts)
    → AreStrands made log ss
strands_front made log [] ts are = tt
strands_front made log (s ∷ ss) ts are = (are.0, are.1, strands_front made log ss ts are.2)

pub strands_back : (made : ℕ) (log : List Logged) (ss ts : List Strand) → AreStrands made log (ss ++ ts)
    → AreStrands made log ts
strands_back made log [] ts are = are
strands_back made log (s ∷ ss) ts are = strands_back made log ss ts are.2

pub front_later : (ss : List Strand) → front ss ++ later ss ≡ ss
front_later [] = refl
front_later (s ∷ ss) = refl

pub first_of_front : (ss : List Strand) → first_strand (front ss) ≡ first_strand ss
first_of_front [] = refl
first_of_front (s ∷ ss) = refl

-- Strands with no event: each number from one on is there once.
no_low : (n first count : ℕ) → n < first → strands_with n (no_events first count) ≡ 0
no_low n first zero less = refl
no_low n first (suc count) less =
    let here : one_if (first == n) ≡ 0 = ap one_if (ne_eqb first n (λ e. absurd (omega arith))) in
    let rest = no_low n (suc first) count (omega arith) in omega arith

pub no_events_once : (n first count : ℕ) → first ≤ n → n < first + count → strands_with n (no_events first count) ≡ 1
no_events_once n first zero low less = absurd (omega arith)
no_events_once n first (suc count) low less =
    dite (ℕ_discrete first n)
    (λ e. let rest = no_low n (suc first) count (omega arith) in
    let here : one_if (first == n) ≡ 1 = ap one_if (eq-eqb first n e) in omega arith)
    (λ d. let here : one_if (first == n) ≡ 0 = ap one_if (ne_eqb first n d) in let apart : first ≢ n = d in
    let rest = no_events_once n (suc first) count (omega arith) (omega arith) in omega arith)

pub no_events_are : (made first count : ℕ) → first + count ≤ made → AreStrands made [] (no_events first count)
no_events_are made first zero within = tt
no_events_are made first (suc count) within = (omega arith, refl, no_events_are made (suc first) count (omega arith))

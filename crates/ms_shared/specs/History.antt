-- Events on a pool, and one history of them: a list in which each has the number of the seat that
-- made it (this project's choice).
use Rattle.std.specs.Prelude.{◌≡◌, ℕ, zero, suc, ◌+◌, ◌<◌, ◌==◌, List, [], ◌∷◌, ◌++◌}
use Rattle.ms_pool.specs.Ledger.{Ledger}
use Rattle.ms_shared.specs.Entries.{one_if}
use Rattle.ms_shared.specs.Weaving.{Chain as ChainOf, without_numbers, of, AreBelow as BelowOf}

-- An event is the pool before and after.
abbrev pub Event : Type 0
Event = Ledger × Ledger

-- An event of the history, with the number of its seat; and a seat's number with its own events.
abbrev pub Logged : Type 0
Logged = ℕ × Event

abbrev pub Strand : Type 0
Strand = ℕ × List Event

-- Each event begins where the last one ended.
abbrev pub Chain : Ledger → List Event → Ledger → Type 0
Chain = ChainOf

-- The events of a history, and those of one number; and all numbers are below one.
abbrev pub events_in : List Logged → List Event
events_in = without_numbers

abbrev pub events_of : ℕ → List Logged → List Event
events_of = of

abbrev pub AreBelow : ℕ → List Logged → Type 0
AreBelow = BelowOf

-- Each strand has just its own events of the history.
abbrev pub AreStrands : ℕ → List Logged → List Strand → Type 0
AreStrands made log [] = Unit {0}
AreStrands made log (s ∷ ss) = (s.0 < made) × (s.1 ≡ events_of s.0 log) × AreStrands made log ss

-- How often a number stands there.
abbrev pub strands_with : ℕ → List Strand → ℕ
strands_with n [] = 0
strands_with n (s ∷ ss) = one_if (s.0 == n) + strands_with n ss

-- The first strand, and the others.
abbrev pub first_strand : List Strand → Strand
first_strand [] = (0, [])
first_strand (s ∷ ss) = s

abbrev pub front : List Strand → List Strand
front [] = []
front (s ∷ ss) = s ∷ []

abbrev pub later : List Strand → List Strand
later [] = []
later (s ∷ ss) = ss

-- There is one, and no other.
abbrev pub IsOne : List Strand → Type 0
IsOne ss = ss ≡ first_strand ss ∷ []

-- An event more under the first number.
abbrev pub extended : Event → List Strand → List Strand
extended e [] = []
extended e (s ∷ ss) = (s.0, s.1 ++ e ∷ []) ∷ ss

-- Strands of so many numbers from one on, none with an event.
abbrev pub no_events : ℕ → ℕ → List Strand
no_events first zero = []
no_events first (suc n) = (first, []) ∷ no_events (suc first) n

-- A meter: one word, which is the sum of what its seats added less what they took off (this
-- project's choice).
use Rattle.std.specs.Prelude.{◌≡◌, ℕ, ◌+◌, ◌-◌, ◌%◌, ◌^◌, List, length, slice_index}
use Rattle.std.specs.List.{sum_by}
use mathlib.Core.Option.{some}
use lib.ListN.{get_elem?}
use Rattle.atomic_table.specs.Table.{State, Me, Step}
use Rattle.atomic_table.specs.Seated.{TableId}
use Rattle.ms_shared.specs.declared.meter_rule.MeterView.{MeterView}

-- What a number of 64 bits is after so many more.
abbrev pub added : ℕ → ℕ → ℕ
added amount n = (amount + n) % 2 ^ 64

-- What it is after so many less.
abbrev pub taken_off : ℕ → ℕ → ℕ
taken_off amount n = (amount + (2 ^ 64 - n)) % 2 ^ 64

abbrev pub meter_view : ℕ → ℕ → ℕ → MeterView
meter_view parts amount steps = record { parts = parts; amount = amount; steps = steps }

-- What is left once a part is cut off.
abbrev pub less_part : MeterView → MeterView
less_part view = meter_view (view.parts - 1) view.amount view.steps

-- Two views in one. The sums aren't reduced, since no machine has them.
abbrev pub joined : MeterView → MeterView → MeterView
joined view other =
    meter_view (view.parts + other.parts) (view.amount + other.amount) (view.steps + other.steps)

-- A view with no part has no amount.
abbrev pub IdleIsEmpty : List MeterView → Type 0
IdleIsEmpty views = (seat : ℕ) (view : MeterView) → get_elem? views seat ≡ some view → view.parts ≡ 0 → view.amount ≡ 0

abbrev pub parts_in : List MeterView → ℕ
parts_in views = sum_by (λ view. view.parts) views

abbrev pub amounts_in : List MeterView → ℕ
amounts_in views = sum_by (λ view. view.amount) views

-- The word is the sum of the amounts, and the parts are as many as seats were made.
pub record IsMetered (made : ℕ) (state : State ℕ MeterView) : Type 0 where
  pub sum : slice_index state.words 0 ≡ amounts_in state.views % 2 ^ 64
  pub word : length state.words ≡ 1
  pub parts : parts_in state.views ≡ made
  pub idle : IdleIsEmpty state.views

-- A seat after one step more on the word, which leaves it this amount.
abbrev pub stepped : Me ℕ MeterView → ℕ → Me ℕ MeterView
stepped old amount = (meter_view old.0.parts amount (old.0.steps + 1), old.1)

-- What the steps on the word leave the seat with: its first operand more, its first operand less,
-- or what it had. Each is one step.
abbrev pub AddsAmount : Step ℕ → Me ℕ MeterView → ℕ → Me ℕ MeterView → Type 0
AddsAmount step old found new = new ≡ stepped old (added old.0.amount step.first)

abbrev pub Subtracts : Step ℕ → Me ℕ MeterView → ℕ → Me ℕ MeterView → Type 0
Subtracts step old found new = new ≡ stepped old (taken_off old.0.amount step.first)

abbrev pub Looks : Step ℕ → Me ℕ MeterView → ℕ → Me ℕ MeterView → Type 0
Looks step old found new = new ≡ stepped old old.0.amount

-- A meter as its callers see it: which one it is, and how many seats it was made with.
pub record MeterState : Type 0 where
  pub id : TableId
  pub seats : ℕ

-- A seat: of which meter, its amount, modulo 2^64, and how many atomic steps it took on the word.
pub record MeterSeatState : Type 0 where
  pub id : TableId
  pub amount : ℕ
  pub steps : ℕ

-- A seat with nothing, which took no step yet.
abbrev pub new_seat : MeterState → MeterSeatState
new_seat meter = record { id = meter.id; amount = 0; steps = 0 }

-- A seat after one atomic step on the word, which leaves it this amount.
abbrev pub after_step : MeterSeatState → ℕ → MeterSeatState
after_step seat amount = record { id = seat.id; amount = amount; steps = seat.steps + 1 }

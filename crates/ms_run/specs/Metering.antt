-- How the meter's seats follow the words in use of the loaders that their workers have.
use Rattle.std.specs.Prelude.{ℕ, ◌%◌, ◌^◌, ⊤, List, Bool, true, false}
use Rattle.std.specs.List.{sum_by}
use Rattle.ms_base.specs.declared.step.Step.{Step}
use Rattle.ms_base.specs.declared.step.Step.TheVariants.{Alloc, Calloc, Unload}
use Rattle.ms_base.specs.State.{Machine}
use Rattle.ms_base.specs.Totals.{over_spaces, used_words}
use Rattle.ms_loader_map.specs.Used.{used_in}
use Rattle.ms_shared.specs.MeterRule.{MeterState, MeterSeatState, after_step, new_seat}
use Rattle.ms_run.specs.declared.share.Share.{Share}

-- The words in use of a whole machine.
abbrev pub used_words_of : Machine → ℕ
used_words_of m = over_spaces (λ space. used_words space m)

-- A step that moves no top: the words in use stay.
abbrev pub MovesNoTop : Step → Type 0
MovesNoTop (Alloc loader block words) = ⊥
MovesNoTop (Calloc loader block words) = ⊥
MovesNoTop (Unload loader) = ⊥
MovesNoTop _ = ⊤

-- A share's seat of the meter.
abbrev pub meter_of : Share → MeterSeatState
meter_of share = share.meter

-- A seat of the meter that nothing was added to.
abbrev pub unmoved : MeterState → MeterSeatState
unmoved meter = new_seat meter

-- A seat of the meter once its worker looked at the word, where it looks: one step more.
abbrev pub after_look : Bool → MeterSeatState → MeterSeatState
after_look true seat = after_step seat seat.amount
after_look false seat = seat

-- The words in use of the loaders of all shares.
abbrev pub used_over : List Share → ℕ
used_over shares = sum_by (λ (share : Share). used_in share.loaders) shares

-- What all seats' amounts sum to, modulo 2^64.
abbrev pub amount_of : List MeterSeatState → ℕ
amount_of seats = sum_by (λ (seat : MeterSeatState). seat.amount) seats % 2 ^ 64

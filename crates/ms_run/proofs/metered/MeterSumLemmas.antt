-- The words in use of shares, and what their seats of the meter sum to. For `gather` and
-- `run_phase`.
use Rattle.std.proofs.Common.{◌≡◌, ℕ, ◌+◌, ◌%◌, List, [], ◌∷◌, ◌++◌, map, refl, sym, ap, ◌∙◌, subst, arith, replicate}
use Rattle.std.proofs.Common.{zero, suc, ◌^◌}
use Rattle.std.specs.List.{All, AllByRecursion, sum_by}
use Rattle.std.specs.Map.{values_of}
use Rattle.std.proofs.lemmas.List.Sums.{sum_by-cons, sum_by-append}
use Rattle.std.proofs.lemmas.List.Sorted.{sum_by-IsPermutation}
use Rattle.std.proofs.lemmas.List.Elements.{recursion_from_All, All-from_recursion}
use Rattle.std.proofs.lemmas.List.Folds.{sum_by-replicate}
use Rattle.std.proofs.Math.Nat.{add-mod, add-mod-mod, mod-eq_of_lt}
use Rattle.ms_base.specs.State.{Machine}
use Rattle.ms_base.specs.Good.{IsGood}
use Rattle.ms_pool.specs.Ledger.{Ledger}
use Rattle.ms_loader.specs.Loader.{LoaderView}
use Rattle.ms_loaders.specs.System.{machine_of}
use Rattle.ms_loader_map.specs.Used.{used_by, used_in}
use Rattle.ms_loaders.proofs.sums.UsedLemmas.{used_is, used_fits}
use Rattle.ms_shared.specs.MeterRule.{MeterState, MeterSeatState}
use Rattle.ms_shared.specs.SeatView.{LockState}
use Rattle.ms_trace.specs.declared.trace.Line.{Line}
use Rattle.ms_run.specs.declared.share.Share.{Share}
use Rattle.ms_run.specs.Joined.{IsJoined, AreJoined}
use Rattle.ms_run.specs.Metering.{used_words_of, used_over, meter_of, unmoved, amount_of}
use Rattle.ms_run.specs.Shares.{AllWorked, IsReady, IsReadyFor}
use Rattle.ms_run.proofs.sharing.GatherLemmas.{Loaders}

-- A whole system has in use what its loaders have.
pub used_machine : (pool : Ledger) (loaders : Loaders) → used_words_of (machine_of pool loaders) ≡ used_in loaders
used_machine pool loaders = sym (used_is loaders)

-- An entry's words in use, and those of loaders by their entries: so their order is all one.
abbrev used_entry : ℕ × LoaderView → ℕ
used_entry entry = used_by entry.1.state

by_entry : (loaders : Loaders) → used_in loaders ≡ sum_by used_entry loaders
by_entry [] = refl
by_entry (e ∷ es) = omega (
  arith,
  by_entry es,
  sum_by-cons (λ (loader : LoaderView). used_by loader.state) e.1 (values_of es),
  sum_by-cons used_entry e es,
)

used_with : (old part new : Loaders) → IsJoined old part new → used_in new ≡ used_in old + used_in part
used_with old part new joined = omega (
  arith,
  by_entry old,
  by_entry part,
  by_entry new,
  sum_by-IsPermutation used_entry new (old ++ part) joined.same,
  sum_by-append used_entry old part,
)

pub used_joined : (old : Loaders) (shares : List Share) (new : Loaders) → AreJoined old shares new
    → used_in new ≡ used_in old + used_over shares
used_joined old [] new joined = omega (arith, ap used_in joined)
used_joined old (share ∷ shares) new joined = omega (
  arith,
  used_joined joined.0 shares new joined.2,
  used_with old share.loaders joined.0 joined.1,
  sum_by-cons (λ (s : Share). used_in s.loaders) share shares,
)

pub used_gathered : (shares : List Share) (new : Loaders) → AreJoined [] shares new → used_in new ≡ used_over shares
used_gathered shares new joined = omega (arith, used_joined [] shares new joined)

-- Two equations modulo a number, added up.
both_mod : (m a b c d w x y z : ℕ) → (a + b) % m ≡ (c + d) % m → (w + x) % m ≡ (y + z) % m
    → (a + w + (b + x)) % m ≡ (c + y + (d + z)) % m
both_mod m a b c d w x y z first rest =
    ap (λ (n : ℕ). n % m) (regrouped a w b x) ∙ add-mod (a + b) (w + x) m
    ∙ ap (λ (n : ℕ). (n + (w + x) % m) % m) first ∙ ap (λ (n : ℕ). ((c + d) % m + n) % m) rest
    ∙ sym (add-mod (c + d) (y + z) m) ∙ ap (λ (n : ℕ). n % m) (sym (regrouped c y d z))
  where
    regrouped : (e f g h : ℕ) → e + f + (g + h) ≡ e + g + (f + h)
    regrouped e f g h = omega arith

-- The amounts of seats, and of those that nothing was added to.
abbrev amounts : List MeterSeatState → ℕ
amounts seats = sum_by (λ (seat : MeterSeatState). seat.amount) seats

none_amount : (count : ℕ) (meter : MeterState) → amounts (replicate count (unmoved meter)) ≡ 0
none_amount count meter = omega (arith, sum_by-replicate (λ (seat : MeterSeatState). seat.amount) count (unmoved meter))

-- Worked shares' seats moved together as the words in use of all loaders did.
moved_over : (lines : List Line) (shares others : List Share) → AllWorked lines shares others
    → (used_over shares + amounts (map meter_of others)) % 2 ^ 64
    ≡ (used_over others + amounts (map meter_of shares)) % 2 ^ 64
moved_over lines [] [] all = refl
moved_over lines [] (done ∷ others) all = absurd all
moved_over lines (share ∷ shares) [] all = absurd all
moved_over lines (share ∷ shares) (done ∷ others) all =
    rw (
      sum_by-cons (λ (s : Share). used_in s.loaders) share shares,
      sum_by-cons (λ (s : Share). used_in s.loaders) done others,
      sum_by-cons (λ (seat : MeterSeatState). seat.amount) share.meter (map meter_of shares),
      sum_by-cons (λ (seat : MeterSeatState). seat.amount) done.meter (map meter_of others),
    ) (both_mod (2 ^ 64) (used_in share.loaders) done.meter.amount (used_in done.loaders) share.meter.amount
    (used_over shares) (amounts (map meter_of others)) (used_over others) (amounts (map meter_of shares))
    all.0.moved.amount (moved_over lines shares others all.1))

-- Each seat is of the meter that all were made with, before the work and after.
all_of_meter : (meter : MeterState) (count : ℕ) (shares : List Share)
    → map meter_of shares ≡ replicate count (unmoved meter)
    → AllByRecursion (λ (share : Share). share.meter.id ≡ meter.id) shares
all_of_meter meter count [] same = tt
all_of_meter meter zero (share ∷ shares) same = absurd (cc)
all_of_meter meter (suc count) (share ∷ shares) same =
    let here : share.meter ≡ unmoved meter = cc in
    let rest : map meter_of shares ≡ replicate count (unmoved meter) = cc in
    (ap (λ (seat : MeterSeatState). seat.id) here, all_of_meter meter count shares rest)

pub ready_for : (shared : LockState) (meter : MeterState) (count : ℕ) (shares : List Share)
    → All (IsReady shared) shares
    → map meter_of shares ≡ replicate count (unmoved meter) → All (IsReadyFor shared meter) shares
ready_for shared meter count shares ready same =
    All-from_recursion (IsReadyFor shared meter) shares
    (both shares (recursion_from_All (IsReady shared) shares ready) (all_of_meter meter count shares same))
  where
    both : (xs : List Share) → AllByRecursion (IsReady shared) xs
        → AllByRecursion (λ (share : Share). share.meter.id ≡ meter.id) xs → AllByRecursion (IsReadyFor shared meter) xs
    both [] all own = tt
    both (x ∷ xs) all own = ((all.0, own.0), both xs all.1 own.1)

still_of_meter : (meter : MeterState) (lines : List Line) (shares others : List Share) → AllWorked lines shares others
    → AllByRecursion (λ (share : Share). share.meter.id ≡ meter.id) shares
    → AllByRecursion (λ (seat : MeterSeatState). seat.id ≡ meter.id) (map meter_of others)
still_of_meter meter lines [] [] all own = tt
still_of_meter meter lines [] (done ∷ others) all own = absurd all
still_of_meter meter lines (share ∷ shares) [] all own = absurd all
still_of_meter meter lines (share ∷ shares) (done ∷ others) all own =
    (all.0.moved.meter ∙ own.0, still_of_meter meter lines shares others all.1 own.1)

pub own_meters : (meter : MeterState) (count : ℕ) (lines : List Line) (shares others : List Share)
    (seats : List MeterSeatState)
    → map meter_of shares ≡ replicate count (unmoved meter)
    → AllWorked lines shares others → seats ≡ map meter_of others → All (λ (seat : MeterSeatState). seat.id ≡ meter.id) seats
own_meters meter count lines shares others seats same all are =
    subst (All (λ (seat : MeterSeatState). seat.id ≡ meter.id)) (sym are)
    (All-from_recursion (λ (seat : MeterSeatState). seat.id ≡ meter.id) (map meter_of others)
    (still_of_meter meter lines shares others all (all_of_meter meter count shares same)))

-- A phase's sum, added to the words in use before it, gives those in use after it.
pub used_after : (meter : MeterState) (count : ℕ) (lines : List Line) (shares others : List Share)
    (seats : List MeterSeatState)
    (before sum : ℕ) (after : Machine)
    → map meter_of shares ≡ replicate count (unmoved meter) → AllWorked lines shares others → seats ≡ map meter_of others
    → before ≡ used_over shares → sum ≡ amount_of seats → used_words_of after ≡ used_over others → IsGood after
    → (before + sum) % 2 ^ 64 ≡ used_words_of after
used_after meter count lines shares others seats before sum after same all are before_is sum_is after_is good =
    rw (before_is, sum_is, are, after_is)
    (add-mod-mod (used_over shares) (amounts (map meter_of others)) (2 ^ 64) ∙ moved_over lines shares others all
    ∙ ap (λ (n : ℕ). (used_over others + n) % 2 ^ 64) (ap amounts same ∙ none_amount count meter)
    ∙ ap (λ (n : ℕ). n % 2 ^ 64) no_more ∙ mod-eq_of_lt (omega (arith, after_is, used_fits after good)))
  where
    no_more : used_over others + 0 ≡ used_over others
    no_more = omega arith

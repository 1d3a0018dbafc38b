-- Each step on a meter's word keeps its rule, and so do cutting and joining seats; where all seats
-- have become one, the word is its amount. For the calls of UsedMeter.
use Rattle.std.proofs.Common.{◌≡◌, ℕ, ◌+◌, ◌-◌, ◌%◌, ◌^◌, ◌<◌, ◌≤◌, List, [], ◌∷◌, ◌++◌, set}
use Rattle.std.proofs.Common.{sym, refl, ap, ◌∙◌}
use Rattle.std.proofs.Common.{arith, ⊎_elim, length-set, get_or-set_same, slice_index, replicate}
use Rattle.std.proofs.lemmas.List.{replicate_more}
use Rattle.std.proofs.lemmas.List.Sums.{sum_by_push}
use mathlib.Core.Option.{some, some-injective, some-ne-none}
use lib.ListN.{get_elem?}
use Rattle.atomic_table.specs.Seated.{TableId}
use Rattle.atomic_table.specs.Table.{Me, keeps, Allows, Splits, Joins, Final, Seen}
use Rattle.atomic_table.proofs.Lists.{at_set, at_snoc}
use Rattle.ms_shared.specs.MeterRule.{added, meter_view, stepped, less_part, joined, IsMetered, IdleIsEmpty, MeterSeatState}
use Rattle.ms_shared.specs.MeterRule.{amounts_in}
use Rattle.ms_shared.specs.declared.meter_rule.MeterView.{MeterView}
use Rattle.ms_shared.proofs.TotalLemmas.{total-set, alone, mod_shift, mod_in}

idle_set : (views : List MeterView) (seat : ℕ) (view : MeterView) → (view.parts ≡ 0 → view.amount ≡ 0)
    → IdleIsEmpty views
    → IdleIsEmpty (set views seat view)
idle_set views seat view new idle other w at none =
    ⊎_elim (λ here. let is = here.1 in ap (λ (v : MeterView). v.amount) (sym is)
    ∙ new (ap (λ (v : MeterView). v.parts) is ∙ none))
    (λ there. idle other w there.1 none) (at_set views seat other view w at)

idle_snoc : (views : List MeterView) (view : MeterView) → (view.parts ≡ 0 → view.amount ≡ 0) → IdleIsEmpty views
    → IdleIsEmpty (views ++ view ∷ [])
idle_snoc views view new idle other w at none =
    ⊎_elim (λ there. idle other w there none)
    (λ is. ap (λ (v : MeterView). v.amount) (sym is) ∙ new (ap (λ (v : MeterView). v.parts) is ∙ none))
    (at_snoc views view w other at)

-- A step that adds k to the word and to the seat's amount.
pub shifts : (made slots id k : ℕ) (me : Me ℕ MeterView) → me.0.parts ≡ 1
    → Allows (IsMetered made) slots id me 0 (λ n. (n + k) % 2 ^ 64)
    (λ found new. new ≡ stepped me (added me.0.amount k))
shifts made slots id k me one state rule wide at fits =
    let old = me.0 in let new = (stepped me (added old.amount k)).0 in
    let amounts = total-set (λ (v : MeterView). v.amount) state.views id old new at in
    let parts = total-set (λ (v : MeterView). v.parts) state.views id old new at in
    let long = rule.word in let made_is = rule.parts in (
      new,
      keeps,
      tt,
      record {
        sum = get_or-set_same state.words 0 _ 0 (omega arith) ∙ ap (λ n. (n + k) % 2 ^ 64) rule.sum
            ∙ mod_in _ k (2 ^ 64) ∙ sym (mod_shift _ _ old.amount k (2 ^ 64) amounts);
        word = length-set state.words 0 _ ∙ rule.word;
        parts = omega arith;
        idle = idle_set state.views id new (λ none. absurd (omega arith)) rule.idle;
      },
      refl,
    )

-- A step that reads the word.
pub looks : (made slots id : ℕ) (me : Me ℕ MeterView) → me.0.parts ≡ 1
    → Allows (IsMetered made) slots id me 0 (λ n. n) (λ found new. new ≡ stepped me me.0.amount)
looks made slots id me one state rule wide at fits =
    let old = me.0 in let new = (stepped me old.amount).0 in
    let amounts = total-set (λ (v : MeterView). v.amount) state.views id old new at in
    let parts = total-set (λ (v : MeterView). v.parts) state.views id old new at in
    let long = rule.word in let made_is = rule.parts in
    let same : amounts_in state.views ≡ amounts_in (set state.views id new) = omega arith in (
      new,
      keeps,
      tt,
      record {
        sum = get_or-set_same state.words 0 _ 0 (omega arith) ∙ rule.sum ∙ ap (λ n. n % 2 ^ 64) same;
        word = length-set state.words 0 _ ∙ rule.word;
        parts = omega arith;
        idle = idle_set state.views id new (λ none. absurd (omega arith)) rule.idle;
      },
      refl,
    )

-- A part is cut off.
pub cuts : (made id : ℕ) (view : MeterView) → 1 < view.parts
    → Splits (IsMetered made) id view (less_part view) (meter_view 1 0 0)
cuts made id view some_left state rule at =
    let left = less_part view in let right = meter_view 1 0 0 in let views = set state.views id left in
    let a = total-set (λ (v : MeterView). v.amount) state.views id view left at in
    let p = total-set (λ (v : MeterView). v.parts) state.views id view left at in
    let a' = sum_by_push (λ (v : MeterView). v.amount) views right in
    let p' = sum_by_push (λ (v : MeterView). v.parts) views right in
    let made_is = rule.parts in
    let same : amounts_in (views ++ right ∷ []) ≡ amounts_in state.views = omega arith in
    record {
      sum = rule.sum ∙ ap (λ n. n % 2 ^ 64) (sym same);
      word = rule.word;
      parts = omega arith;
      idle = idle_snoc views right (λ none. absurd (omega arith))
          (idle_set state.views id left (λ none. absurd (omega arith)) rule.idle);
    }

-- Two seats become one.
pub joins : (made id other : ℕ) (view another : MeterView) → 0 < view.parts
    → Joins (IsMetered made) id view other another (joined view another) (meter_view 0 0 0)
joins made id other view another live state rule at apart at' =
    let both = joined view another in let spent = meter_view 0 0 0 in let views = set state.views id both in
    let a = total-set (λ (v : MeterView). v.amount) state.views id view both at in
    let p = total-set (λ (v : MeterView). v.parts) state.views id view both at in
    let a' = total-set (λ (v : MeterView). v.amount) views other another spent at' in
    let p' = total-set (λ (v : MeterView). v.parts) views other another spent at' in
    let made_is = rule.parts in
    let same : amounts_in (set views other spent) ≡ amounts_in state.views = omega arith in
    record {
      sum = rule.sum ∙ ap (λ n. n % 2 ^ 64) (sym same);
      word = rule.word;
      parts = omega arith;
      idle = idle_set views other spent (λ none. refl)
          (idle_set state.views id both (λ none. absurd (omega arith)) rule.idle);
    }

first_word : (words : List ℕ) (n : ℕ) → get_elem? words 0 ≡ some n → n ≡ slice_index words 0
first_word [] n at = absurd (some-ne-none n (sym at))
first_word (word ∷ words) n at = sym (some-injective word n at)

-- Where one seat has every part, the word is its amount.
pub settled : (made id n : ℕ) (view : MeterView) (words slots : List ℕ) → view.parts ≡ made
    → Final (Seen (IsMetered made) id view) words slots → get_elem? words 0 ≡ some n → n ≡ view.amount % 2 ^ 64
settled made id n view words slots all final at =
    let state = final.0 in let rule = final.1.0 in let here = final.1.1 in let made_is = rule.parts in
    let sum =
    alone (λ (v : MeterView). v.amount) (λ (v : MeterView). v.parts) state.views id view rule.idle here
    (made_is ∙ sym all) in
    first_word words n at ∙ sym (ap (λ list. slice_index list 0) final.2) ∙ rule.sum ∙ ap (λ k. k % 2 ^ 64) sum

-- One more seat with nothing, of the same meter.
abbrev idle_seat : TableId → MeterSeatState
idle_seat id = record { id = id; amount = 0; steps = 0 }

pub one_more_seat : (id : TableId) (given new : List MeterSeatState) (seat : MeterSeatState) (n count : ℕ) → 1 ≤ n
    → count ≡ n → given ≡ replicate (n - 1) (idle_seat id) → new ≡ given ++ seat ∷ [] → seat ≡ idle_seat id
    → new ≡ replicate count (idle_seat id)
one_more_seat id given new seat n count above all so_far is its =
    is
    ∙ ap (λ (l : List MeterSeatState). l ++ seat ∷ []) so_far
    ∙ ap (λ (s : MeterSeatState). replicate (n - 1) (idle_seat id) ++ s ∷ []) its
    ∙ replicate_more (n - 1) (idle_seat id)
    ∙ ap (λ (k : ℕ). replicate k (idle_seat id)) (omega arith)

-- A seat as its callers see it.
abbrev seat_of : TableId → MeterView → MeterSeatState
seat_of id view = record { id = id; amount = view.amount; steps = view.steps }

pub meter_seat_is : (id id' : TableId) (me me' : Me ℕ MeterView) → id' ≡ id → me' ≡ me
    → seat_of id' me'.0 ≡ seat_of id me.0
meter_seat_is id id' me me' same is = λ i. seat_of (same i) (is i).0

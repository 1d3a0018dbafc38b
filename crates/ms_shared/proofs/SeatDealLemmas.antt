-- The seats of a new lock, cut off one by one: the first knows all of the pool. For `new`.
use Rattle.std.proofs.Common.{◌≡◌, ℕ, zero, suc, ◌+◌, ◌-◌, ◌*◌, ◌<◌, ◌≤◌, List, [], ◌∷◌, ◌++◌, ap, ◌∙◌}
use Rattle.std.proofs.Common.{length, length-append, arith, None, Option, Some, refl, sym, subst, add-zero}
use Rattle.atomic_table.specs.Seated.{TableId}
use Rattle.ms_base.specs.State.{Limits}
use Rattle.ms_pool.specs.Ledger.{Ledger}
use Rattle.ms_shared.specs.declared.lock_rule.SeatView.{SeatView}
use Rattle.ms_shared.specs.declared.lock_rule.LockView.{LockView}
use Rattle.ms_shared.specs.History.{Strand, IsOne, first_strand, front, later, no_events}
use Rattle.ms_shared.specs.SeatView.{SeatState, knows_all, knows_limits, seat_with, seat_of, spare_seats, new_seats}
use Rattle.ms_shared.specs.LockRule.{Sat, first_view, other_seats, own_seat}

-- All seats but the last ones are cut off, and the rest stands for those.
pub record IsDealing (id : TableId) (made n : ℕ) (pool : Ledger) (given : List SeatState) (rest : LockView) : Type 0
  where
    pub done : ℕ
    pub left : ℕ
    pub count : suc done ≡ n
    pub all : done + suc left ≡ made
    pub seats : given ++ seat_of id rest ∷ [] ≡ new_seats id n pool
    pub strands : rest.strands ≡ no_events done (suc left)
    pub limits : rest.knows.limits ≡ pool.limits
    pub parts : rest.parts + n * 2 ≡ made * 2 + 2
    pub free : rest.taken ≡ None

pub deals_begin : (id : TableId) (made : ℕ) (pool : Ledger) (given : List SeatState) (rest : LockView) → 1 ≤ made
    → given ≡ []
    → rest ≡ first_view made pool → IsDealing id made 1 pool given rest
deals_begin id zero pool given rest some none is = absurd (omega arith)
deals_begin id (suc left) pool given rest some none is =
    let parts : rest.parts ≡ suc left * 2 = ap (λ (v : LockView). v.parts) is in record {
      done = 0;
      left = left;
      count = refl;
      all = omega arith;
      seats = ap (λ (l : List SeatState). l ++ seat_of id rest ∷ []) none ∙ ap (λ (v : LockView). seat_of id v ∷ []) is;
      strands = ap (λ (v : LockView). v.strands) is;
      limits = ap (λ (v : LockView). v.knows.limits) is;
      parts = omega arith;
      free = ap (λ (v : LockView). v.taken) is;
    }

-- A seat of the table as callers see it.
pub seen_as : (id id' : TableId) (strand : Strand) (knows : SeatView) (view : LockView) → id' ≡ id
    → first_strand view.strands ≡ strand → view.knows ≡ knows → seat_of id' view ≡ seat_with id strand knows
seen_as id id' strand knows view same same' same'' =
    ap (λ (i : TableId). seat_with i (first_strand view.strands) view.knows) same
    ∙ ap (λ (s : Strand). seat_with id s view.knows) same' ∙ ap (seat_with id strand) same''

more_seats : (id : TableId) (limits : Limits) (first n : ℕ)
    → spare_seats id limits first n ++ seat_with id (first + n, []) (knows_limits limits) ∷ []
    ≡ spare_seats id limits first (suc n)
more_seats id limits first zero = ap (λ k. seat_with id (k, []) (knows_limits limits) ∷ []) (add-zero first)
more_seats id limits first (suc n) =
    let same : first + suc n ≡ suc first + n = omega arith in
    ap (λ (l : List SeatState). seat_with id (first, []) (knows_limits limits) ∷ l)
    (ap (λ k. spare_seats id limits (suc first) n ++ seat_with id (k, []) (knows_limits limits) ∷ []) same
    ∙ more_seats id limits (suc first) n)

one_more_seat : (id : TableId) (done : ℕ) (pool : Ledger)
    → new_seats id (suc done) pool ++ seat_with id (suc done, []) (knows_limits pool.limits) ∷ []
    ≡ new_seats id (suc (suc done)) pool
one_more_seat id done pool =
    let same : suc done ≡ 1 + done = omega arith in let less : suc done - 1 ≡ done = omega arith in
    let most : suc done ≡ suc (suc done) - 1 = omega arith in
    ap (λ (l : List SeatState). seat_with id (0, []) (knows_all pool) ∷ l)
    (ap (λ n. spare_seats id pool.limits 1 n ++ seat_with id (suc done, []) (knows_limits pool.limits) ∷ []) less
    ∙ ap (λ k. spare_seats id pool.limits 1 done ++ seat_with id (k, []) (knows_limits pool.limits) ∷ []) same
    ∙ more_seats id pool.limits 1 done ∙ ap (spare_seats id pool.limits 1) most)

pub deals_more : (id : TableId) (made n : ℕ) (pool : Ledger) (old new : List SeatState) (rest next : LockView)
    (seat : SeatState)
    → IsDealing id made n pool old rest → n < made
    → new ≡ old ++ seat ∷ [] → seat ≡ seat_of id rest → next ≡ other_seats rest
    → IsDealing id made (n + 1) pool new next
deals_more id made n pool old new rest next seat so_far more is its cut = go so_far.left so_far.all so_far.strands
  where
    go : (left : ℕ) → so_far.done + suc left ≡ made → rest.strands ≡ no_events so_far.done (suc left)
        → IsDealing id made (n + 1) pool new next
    go zero all strands = let count = so_far.count in absurd (omega arith)
    go (suc left) all strands =
        let count = so_far.count in let parts = so_far.parts in
        let next_parts : next.parts ≡ rest.parts - 2 = ap (λ (v : LockView). v.parts) cut in
        let knows : next.knows ≡ knows_limits pool.limits =
        ap (λ (v : LockView). v.knows) cut ∙ ap knows_limits so_far.limits in
        let numbers : next.strands ≡ no_events (suc so_far.done) (suc left) =
        ap (λ (v : LockView). v.strands) cut ∙ ap later strands in
        let above : suc (suc so_far.done) ≡ n + 1 = omega arith in record {
          done = suc so_far.done;
          left = left;
          count = omega arith;
          all = omega arith;
          seats = ap (λ (l : List SeatState). l ++ seat_of id next ∷ [])
              (is ∙ ap (λ (s : SeatState). old ++ s ∷ []) its ∙ so_far.seats)
              ∙ ap (λ (s : SeatState). new_seats id n pool ++ s ∷ [])
              (seen_as id id (suc so_far.done, []) (knows_limits pool.limits) next refl (ap first_strand numbers) knows)
              ∙ ap (λ (k : ℕ). new_seats id k pool ++ seat_with id (suc so_far.done, []) (knows_limits pool.limits) ∷ [])
              (sym count)
              ∙ one_more_seat id so_far.done pool ∙ ap (λ (k : ℕ). new_seats id k pool) above;
          strands = numbers;
          limits = ap (λ (view : SeatView). view.limits) knows;
          parts = omega arith;
          free = ap (λ (v : LockView). v.taken) cut;
        }

pub deals_end : (id : TableId) (made n : ℕ) (pool : Ledger) (old new : List SeatState) (rest : LockView)
    (seat : SeatState)
    → IsDealing id made n pool old rest → made ≤ n
    → new ≡ old ++ seat ∷ [] → seat ≡ seat_of id rest → new ≡ new_seats id made pool
deals_end id made n pool old new rest seat so_far all is its =
    let count = so_far.count in let sum = so_far.all in let same : n ≡ made = omega arith in
    is ∙ ap (λ (s : SeatState). old ++ s ∷ []) its ∙ so_far.seats ∙ ap (λ (k : ℕ). new_seats id k pool) same

-- A seat that is cut off stands for one, and so does the last one.
abbrev IsOneSeat : Sat → Type 0
IsOneSeat me = (me.1 ≡ []) × (me.0.parts ≡ 2) × (me.0.taken ≡ None) × IsOne me.0.strands

pub cut_is_one : (id : TableId) (made n : ℕ) (pool : Ledger) (given : List SeatState) (rest me : Sat)
    → IsDealing id made n pool given rest.0 → rest.1 ≡ [] → me ≡ (own_seat rest.0, rest.1) → IsOneSeat me
cut_is_one id made n pool given rest me dealing none cut =
    let strands : me.0.strands ≡ (dealing.done, []) ∷ [] =
    ap (λ (m : Sat). m.0.strands) cut ∙ ap front dealing.strands in (
      ap (λ (m : Sat). m.1) cut ∙ none,
      ap (λ (m : Sat). m.0.parts) cut,
      ap (λ (m : Sat). m.0.taken) cut ∙ dealing.free,
      subst IsOne (sym strands) refl,
    )

pub last_is_one : (id : TableId) (made n : ℕ) (pool : Ledger) (given : List SeatState) (rest : Sat)
    → IsDealing id made n pool given rest.0 → made ≤ n → rest.1 ≡ [] → IsOneSeat rest
last_is_one id made n pool given rest dealing all none =
    let count = dealing.count in let sum = dealing.all in let parts = dealing.parts in
    let last : dealing.left ≡ 0 = omega arith in
    let strands : rest.0.strands ≡ (dealing.done, []) ∷ [] =
    dealing.strands ∙ ap (λ (left : ℕ). no_events dealing.done (suc left)) last in (
      none,
      omega arith,
      dealing.free,
      subst IsOne (sym strands) refl,
    )

-- What was found in the slots is the pool that was put there.
pub same_slot : (slots left : List (Option Ledger)) (pool given : Ledger) → slots ≡ Some given ∷ []
    → slots ≡ left ++ Some pool ∷ [] → pool ≡ given
same_slot slots [] pool given only found = cc
same_slot slots (x ∷ left) pool given only found =
    absurd (omega (arith, ap length (sym only ∙ found), length-append left (Some pool ∷ [])))

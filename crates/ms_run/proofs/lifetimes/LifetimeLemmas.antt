-- What a seat serves after a call over the lock, and what stays of its loaders. For `new_loader`,
-- `unload` and `hand_on`.
use Rattle.std.proofs.Common.{◌≡◌, ◌≢◌, ◌+◌, ◌-◌, ◌<◌, ◌≤◌, ℕ, zero, suc, Bool, true, false, ◌||◌, List, [], ◌∷◌, ◌++◌}
use Rattle.std.proofs.Common.{map, refl, sym, ap, ◌∙◌, ◌⊎◌, inl, inr, ⊎_elim, IsTrue, arith}
use Rattle.std.specs.Prelude.{◌==◌}
use Rattle.std.specs.List.{AllByRecursion}
use Rattle.std.proofs.lemmas.Bool.{eqb-true, eq-eqb, ne_eqb}
use Rattle.std.proofs.lemmas.List.Sums.{sum_by-cons}
use Rattle.ms_base.specs.declared.span.Chunk.{Chunk}
use Rattle.ms_base.specs.Committed.{is_among}
use Rattle.ms_base.proofs.runs.ApartLemmas.{list_any-with}
use Rattle.ms_pool.specs.Account.{AccountState}
use Rattle.ms_pool.specs.Ledger.{Ledger, chunks_of}
use Rattle.ms_loaders.proofs.sums.FitLemmas.{owner_of}
use Rattle.ms_loaders.proofs.steps.ServedLemmas.{times, is_it, it_is, one_if}
use Rattle.ms_shared.specs.declared.lock_rule.SeatView.{SeatView}
use Rattle.ms_shared.specs.Entries.{Entry, Has, refreshed, fresh}
use Rattle.ms_shared.specs.SeatView.{ServesBy, IsKnown, view_after}
use Rattle.ms_shared.proofs.RecordLemmas.{has_record}
use Rattle.ms_shared.proofs.LockCallLemmas.{served_by_pool}

-- What stands in two lists together stands in one of them.
pub has_either : (xs ys : List Entry) (owner : ℕ) (chunks : List Chunk) → Has (xs ++ ys) owner chunks
    → Has xs owner chunks ⊎ Has ys owner chunks
has_either [] ys owner chunks here = inr here
has_either (x ∷ xs) ys owner chunks here =
    ⊎_elim (λ is. inl (inl is))
    (λ there. ⊎_elim (λ left. inl (inr left)) (λ right. inr right) (has_either xs ys owner chunks there)) here

-- An owner that stands among records made anew stood among the former ones.
record WasThere (pool : Ledger) (xs : List Entry) (owner : ℕ) (chunks : List Chunk) : Type 0 where
  was : List Chunk
  entry : Has xs owner was
  is : chunks ≡ chunks_of pool owner

was_there : (pool : Ledger) (xs : List Entry) (owner : ℕ) (chunks : List Chunk) → Has (refreshed pool xs) owner chunks
    → WasThere pool xs owner chunks
was_there pool [] owner chunks here = absurd here
was_there pool (x ∷ xs) owner chunks here =
    ⊎_elim
    (λ is.
    let same : x.0 ≡ owner = ap (λ (entry : Entry). entry.0) is in
    record {
      was = x.1;
      entry = inl (ap (λ (o : ℕ). (o, x.1)) same);
      is = sym (ap (λ (entry : Entry). entry.1) is)
          ∙ ap (chunks_of pool) same;
    })
    (λ there. let rest = was_there pool xs owner chunks there in
    record { was = rest.was; entry = inr rest.entry; is = rest.is }) here

-- The owner's number was given out since.
abbrev pub IsNew : Ledger → Ledger → ℕ → Type 0
IsNew before after owner = (before.given < owner) × (owner ≤ before.given + (after.given - before.given))

is_new : (pool : Ledger) (first n owner : ℕ) (chunks : List Chunk) → Has (fresh pool first n) owner chunks
    → (first < owner) × (owner ≤ first + n)
is_new pool first zero owner chunks here = absurd here
is_new pool first (suc n) owner chunks here =
    ⊎_elim (λ is. let same : first + suc n ≡ owner = ap (λ (entry : Entry). entry.0) is in (omega arith, omega arith))
    (λ there. let rest = is_new pool first n owner chunks there in let low = rest.0 in let up = rest.1 in
    (low, omega arith)) here

-- No other owner than these holds a chunk that the seat serves.
abbrev pub NoOther : List ℕ → SeatView → Type 0
NoOther owners seat = (owner : ℕ) (chunks : List Chunk) → Has seat.served owner chunks
    → (chunks ≡ []) ⊎ IsTrue (is_among owners owner)

-- So it is after a call, by what the call leaves an owner that the seat served, and one that is
-- new.
pub no_other_then : (before after : Ledger) (view : SeatView) (owners then : List ℕ) → IsKnown before view
    → NoOther owners view
    → ((owner : ℕ) → (chunks_of before owner ≡ []) ⊎ IsTrue (is_among owners owner)
    → (chunks_of after owner ≡ []) ⊎ IsTrue (is_among then owner))
    → ((owner : ℕ) → IsNew before after owner → IsTrue (is_among then owner))
    → NoOther then (view_after before after view)
no_other_then before after view owners then known none each more owner chunks here =
    ⊎_elim
    (λ left.
    let its = was_there after view.served owner chunks left in
    let record_is = has_record before view.served owner its.was known.served its.entry in
    let told : (chunks_of before owner ≡ []) ⊎ IsTrue (is_among owners owner)
    = ⊎_elim (λ empty. inl (record_is.chunks_are ∙ empty)) (λ among. inr among) (none owner its.was its.entry) in
    ⊎_elim (λ empty. inl (its.is ∙ empty)) (λ among. inr among) (each owner told))
    (λ right. inr (more owner (is_new after before.given (after.given - before.given) owner chunks right)))
    (has_either (refreshed after view.served) (fresh after before.given (after.given - before.given)) owner chunks here)

-- Accounts of other owners than two are served still, and all are where all owners' are.
pub served_apart : (old new : SeatView) (x y : ℕ)
    → ((other : AccountState) → other.owner ≢ x → other.owner ≢ y → ServesBy old other → ServesBy new other)
    → (accounts : List AccountState) → times x (map owner_of accounts) ≡ 0 → times y (map owner_of accounts) ≡ 0
    → AllByRecursion (ServesBy old) accounts → AllByRecursion (ServesBy new) accounts
served_apart old new x y each [] none_x none_y all = tt
served_apart old new x y each (account ∷ accounts) none_x none_y all = (
  each account
      (differs account.owner x (omega (arith, none_x, sum_by-cons (is_it x) account.owner (map owner_of accounts))))
      (differs account.owner y (omega (arith, none_y, sum_by-cons (is_it y) account.owner (map owner_of accounts))))
      all.0,
  served_apart old new x y each accounts
      (omega (arith, none_x, sum_by-cons (is_it x) account.owner (map owner_of accounts)))
      (omega (arith, none_y, sum_by-cons (is_it y) account.owner (map owner_of accounts))) all.1,
)
  where
    differs : (a b : ℕ) → is_it b a ≡ 0 → a ≢ b
    differs a b none same = omega (arith, none, it_is b, ap (is_it b) same)

pub all_served : (old new : SeatView) → ((other : AccountState) → ServesBy old other → ServesBy new other)
    → (accounts : List AccountState)
    → AllByRecursion (ServesBy old) accounts → AllByRecursion (ServesBy new) accounts
all_served old new each [] all = tt
all_served old new each (account ∷ accounts) all = (each account all.0, all_served old new each accounts all.1)

-- No owner that the seat serves is above the numbers that were given out.
pub below_given : (pool : Ledger) (view : SeatView) (number : ℕ) → IsKnown pool view → pool.given < number
    → (accounts : List AccountState)
    → AllByRecursion (ServesBy view) accounts → times number (map owner_of accounts) ≡ 0
below_given pool view number known above [] all = refl
below_given pool view number known above (account ∷ accounts) all =
    let its = served_by_pool pool view account known all.0 in
    omega (
      arith,
      sum_by-cons (is_it number) account.owner (map owner_of accounts),
      ap one_if (ne_eqb account.owner number (λ same. omega (arith, above, its.given, same))),
      below_given pool view number known above accounts all.1,
    )

pub among_new : (number : ℕ) (b a : List ℕ) (x y : ℕ) → (x ≡ number) ⊎ (y ≡ number)
    → is_among (b ++ x ∷ y ∷ a) number ≡ true
among_new number b a x y which = list_any-with (λ other. other == number) b x (y ∷ a)
    ∙ ap (λ t. (x == number) || t) (list_any-with (λ other. other == number) b y a)
    ∙ ⊎_elim (λ is. first (y == number) (is_among (b ++ a) number) (eq-eqb x number is))
    (λ is. second (x == number) (is_among (b ++ a) number) (eq-eqb y number is)) which
  where
    first : {c : Bool} (d e : Bool) → c ≡ true → (c || (d || e)) ≡ true
    first d e is = ap (λ t. t || (d || e)) is

    second : (c : Bool) {d : Bool} (e : Bool) → d ≡ true → (c || (d || e)) ≡ true
    second true e is = refl
    second false e is = ap (λ t. t || e) is

pub without_one : (b a : List ℕ) (gone number : ℕ) → number ≢ gone → is_among (b ++ gone ∷ a) number ≡ true
    → is_among (b ++ a) number ≡ true
without_one b a gone number differs there =
    pick (gone == number) refl (sym (list_any-with (λ other. other == number) b gone a) ∙ there)
  where
    pick : (t : Bool) → (gone == number) ≡ t → (t || is_among (b ++ a) number) ≡ true → is_among (b ++ a) number ≡ true
    pick true e h = absurd (differs (sym (eqb-true gone number e)))
    pick false e h = h

-- Owners and the pool's records of them: where entries are joined, made anew, cut by an owner, or
-- the pool moves on. The lock's rule and its calls rest on these.
use Rattle.std.proofs.Common.{◌≡◌, ◌≢◌, ℕ, zero, suc, ◌+◌, ◌==◌, ◌<◌, ◌≤◌, ◌⊎◌, inl, inr, ⊎_elim, Bool, true, false}
use Rattle.std.proofs.Common.{not, cond, List, [], ◌∷◌, ◌++◌, refl, ap, sym, ◌∙◌, subst, ne_eqb, eq-eqb, arith, nat_le}
use Rattle.std.proofs.Common.{◌&&◌, lt_of_not-le, zero-add}
use Rattle.std.proofs.lemmas.Bool.{le-leb, lt-leb}
use mathlib.Core.Logic.{dite}
use native.Mathlib.Decide.{ℕ_discrete, dec_le}
use Rattle.ms_base.specs.declared.span.Chunk.{Chunk}
use Rattle.ms_pool.specs.Ledger.{Ledger, chunks_of}
use Rattle.ms_shared.specs.Entries.{Entry, Has, times, one_if, once_given, IsRecord, AreRecords, refreshed, fresh, only}
use Rattle.ms_shared.specs.Entries.{all_but}

pub times-append : (owner : ℕ) (xs ys : List Entry) → times owner (xs ++ ys) ≡ times owner xs + times owner ys
times-append owner [] ys = omega arith
times-append owner (x ∷ xs) ys = let rest = times-append owner xs ys in omega arith

pub times-refreshed : (pool : Ledger) (owner : ℕ) (xs : List Entry) → times owner (refreshed pool xs) ≡ times owner xs
times-refreshed pool owner [] = refl
times-refreshed pool owner (x ∷ xs) = ap (λ n. one_if (x.0 == owner) + n) (times-refreshed pool owner xs)

pub records_append : (pool : Ledger) (xs ys : List Entry) → AreRecords pool xs → AreRecords pool ys
    → AreRecords pool (xs ++ ys)
records_append pool [] ys front back = back
records_append pool (x ∷ xs) ys front back = (front.0, records_append pool xs ys front.1 back)

pub records_front : (pool : Ledger) (xs ys : List Entry) → AreRecords pool (xs ++ ys) → AreRecords pool xs
records_front pool [] ys all = tt
records_front pool (x ∷ xs) ys all = (all.0, records_front pool xs ys all.1)

pub records_back : (pool : Ledger) (xs ys : List Entry) → AreRecords pool (xs ++ ys) → AreRecords pool ys
records_back pool [] ys all = all
records_back pool (x ∷ xs) ys all = records_back pool xs ys all.1

-- What stands there is the pool's record.
pub has_record : (pool : Ledger) (xs : List Entry) (owner : ℕ) (chunks : List Chunk) → AreRecords pool xs
    → Has xs owner chunks → IsRecord pool owner chunks
has_record pool [] owner chunks all here = absurd here
has_record pool (x ∷ xs) owner chunks all here =
    ⊎_elim (λ is. subst (λ (entry : Entry). IsRecord pool entry.0 entry.1) is all.0)
    (λ there. has_record pool xs owner chunks all.1 there) here

pub has_times : (xs : List Entry) (owner : ℕ) (chunks : List Chunk) → Has xs owner chunks → 0 < times owner xs
has_times [] owner chunks here = absurd here
has_times (x ∷ xs) owner chunks here =
    ⊎_elim
    (λ is.
    let same : x.0 ≡ owner = ap (λ (entry : Entry). entry.0) is in
    let one : one_if (x.0 == owner) ≡ 1 = rw (eq-eqb x.0 owner same) refl in omega arith)
    (λ there. let rest = has_times xs owner chunks there in omega arith) here

pub has_left : (xs ys : List Entry) (owner : ℕ) (chunks : List Chunk) → Has xs owner chunks
    → Has (xs ++ ys) owner chunks
has_left [] ys owner chunks here = absurd here
has_left (x ∷ xs) ys owner chunks here = ⊎_elim (λ is. inl is) (λ there. inr (has_left xs ys owner chunks there)) here

pub has_right : (xs ys : List Entry) (owner : ℕ) (chunks : List Chunk) → Has ys owner chunks
    → Has (xs ++ ys) owner chunks
has_right [] ys owner chunks here = here
has_right (x ∷ xs) ys owner chunks here = inr (has_right xs ys owner chunks here)

pub has_refreshed : (pool : Ledger) (xs : List Entry) (owner : ℕ) (chunks : List Chunk) → Has xs owner chunks
    → Has (refreshed pool xs) owner (chunks_of pool owner)
has_refreshed pool [] owner chunks here = absurd here
has_refreshed pool (x ∷ xs) owner chunks here =
    ⊎_elim (λ is. inl (ap (λ (entry : Entry). (entry.0, chunks_of pool entry.0)) is))
    (λ there. inr (has_refreshed pool xs owner chunks there)) here

-- Records made anew are the pool's.
pub refreshed_records : (old new : Ledger) → old.given ≤ new.given → (xs : List Entry) → AreRecords old xs
    → AreRecords new (refreshed new xs)
refreshed_records old new more [] all = tt
refreshed_records old new more (x ∷ xs) all =
    let up = all.0.given in
    (record { some = all.0.some; given = omega arith; chunks_are = refl }, refreshed_records old new more xs all.1)

pub fresh_records : (pool : Ledger) (first n : ℕ) → first + n ≤ pool.given → AreRecords pool (fresh pool first n)
fresh_records pool first zero within = tt
fresh_records pool first (suc n) within =
    (record { some = omega arith; given = within; chunks_are = refl }, fresh_records pool first n (omega arith))

-- Records of owners that a change leaves alone stay the pool's.
pub same_records : (old new : Ledger) → old.given ≤ new.given → (mine : List Entry)
    → ((owner : ℕ) → times owner mine ≡ 0 → chunks_of new owner ≡ chunks_of old owner)
    → (xs : List Entry) → ((owner : ℕ) → 0 < times owner xs → times owner mine ≡ 0) → AreRecords old xs
    → AreRecords new xs
same_records old new more mine same [] apart all = tt
same_records old new more mine same (x ∷ xs) apart all =
    let up = all.0.given in
    let here : one_if (x.0 == x.0) ≡ 1 = rw (eq-eqb x.0 x.0 refl) refl in (
      record {
        some = all.0.some;
        given = omega arith;
        chunks_are = same x.0 (apart x.0 (omega arith))
            ∙ all.0.chunks_are;
      },
      same_records old new more mine same xs (λ owner there. apart owner (omega arith)) all.1,
    )

once_in : (owner given : ℕ) → 1 ≤ owner → owner ≤ given → once_given owner given ≡ 1
once_in owner given low up = rw (le-leb 1 owner low) (rw (le-leb owner given up) refl)

once_out : (owner given : ℕ) → (owner < 1) ⊎ (given < owner) → once_given owner given ≡ 0
once_out owner given (inl low) = rw (lt-leb 1 owner low) refl
once_out owner given (inr up) =
    ⊎_elim (λ l. rw (lt-leb 1 owner l) refl) (λ l. rw (le-leb 1 owner l) (rw (lt-leb owner given up) refl))
    (split owner 1)
  where
    split : (a b : ℕ) → (a < b) ⊎ (b ≤ a)
    split a b = dite (dec_le b a) (λ y. inr y) (λ n. inl (lt_of_not-le n))

pub once_given-le : (owner given : ℕ) → once_given owner given ≤ 1
once_given-le owner given = bound (nat_le 1 owner && nat_le owner given)
  where
    bound : (b : Bool) → one_if b ≤ 1
    bound true = omega arith
    bound false = omega arith

pub once_given-none : (owner : ℕ) → once_given owner 0 ≡ 0
once_given-none zero = refl
once_given-none (suc n) = once_out (suc n) 0 (inr (omega arith))

other_given : (owner given more : ℕ) → more ≡ suc given → owner ≢ more → once_given owner given ≡ once_given owner more
other_given owner given more is differs =
    dite (dec_le 1 owner)
    (λ low.
    dite (dec_le owner given) (λ up. once_in owner given low up ∙ sym (once_in owner more low (omega arith)))
    (λ n. let above = lt_of_not-le n in
    once_out owner given (inr above) ∙ sym (once_out owner more (inr (omega arith)))))
    (λ n. once_out owner given (inl (lt_of_not-le n)) ∙ sym (once_out owner more (inl (lt_of_not-le n))))

step_given : (owner first n : ℕ) → one_if (first + suc n == owner) + once_given owner (first + n)
    ≡ once_given owner (first + suc n)
step_given owner first n =
    dite (ℕ_discrete (first + suc n) owner)
    (λ is.
    let one : one_if (first + suc n == owner) ≡ 1 = rw (eq-eqb (first + suc n) owner is) refl in
    let before = once_out owner (first + n) (inr (omega arith)) in
    let after = once_in owner (first + suc n) (omega arith) (omega arith) in omega arith)
    (λ differs.
    let none : one_if (first + suc n == owner) ≡ 0 = rw (ne_eqb (first + suc n) owner differs) refl in
    let same = other_given owner (first + n) (first + suc n) (omega arith) (λ q. differs (sym q)) in omega arith)

-- Each number that was given out since then stands there once.
pub times_fresh : (pool : Ledger) (owner first n : ℕ)
    → times owner (fresh pool first n) + once_given owner first ≡ once_given owner (first + n)
times_fresh pool owner first zero = let same : first + 0 ≡ first = omega arith in
    zero-add _ ∙ ap (once_given owner) (sym same)
times_fresh pool owner first (suc n) = let rest = times_fresh pool owner first n in let step =
    step_given owner first n in omega arith

times_step : (x : Entry) (owner : ℕ) (others own xs : List Entry) (b : Bool)
    → times owner others + times owner own ≡ times owner xs
    → times owner (cond (not b) (x ∷ others) others) + times owner (cond b (x ∷ own) own) ≡ times owner (x ∷ xs)
times_step x owner others own xs true rest = omega arith
times_step x owner others own xs false rest = omega arith

records_step : (pool : Ledger) (x : Entry) (others own : List Entry) (b : Bool) → IsRecord pool x.0 x.1
    → AreRecords pool others × AreRecords pool own
    → AreRecords pool (cond (not b) (x ∷ others) others) × AreRecords pool (cond b (x ∷ own) own)
records_step pool x others own true here rest = (rest.0, (here, rest.1))
records_step pool x others own false here rest = ((here, rest.0), rest.1)

-- Entries cut by an owner.
pub times_cut : (who owner : ℕ) (xs : List Entry)
    → times owner (all_but who xs) + times owner (only who xs) ≡ times owner xs
times_cut who owner [] = refl
times_cut who owner (x ∷ xs) = times_step x owner _ _ _ (x.0 == who) (times_cut who owner xs)

pub records_cut : (pool : Ledger) (who : ℕ) (xs : List Entry) → AreRecords pool xs
    → AreRecords pool (all_but who xs) × AreRecords pool (only who xs)
records_cut pool who [] all = (tt, tt)
records_cut pool who (x ∷ xs) all = records_step pool x _ _ (x.0 == who) all.0 (records_cut pool who xs all.1)

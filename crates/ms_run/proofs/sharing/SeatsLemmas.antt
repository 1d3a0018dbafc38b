-- The seats that loaders are dealt to: the first serves all loaders of the pool, the others none.
-- For `deal` and `deal_to`.
use Rattle.std.proofs.Common.{◌≡◌, ◌≤◌, ◌-◌, ℕ, zero, suc, true, false, cond, List, [], ◌∷◌, map, length, refl, sym, ap}
use Rattle.std.proofs.Common.{◌∙◌, subst, ◌⊎◌, inl, inr, ⊎_elim, arith}
use Rattle.std.specs.Prelude.{◌==◌, IsTrue}
use Rattle.std.specs.List.{AllByRecursion, filter}
use Rattle.std.proofs.lemmas.Bool.{eqb-true}
use Rattle.std.proofs.lemmas.List.Elements.{recursion_from_All, All-from_recursion}
use Rattle.ms_base.specs.declared.kind.Space.{Space}
use Rattle.ms_base.specs.declared.kind.Space.TheVariants.{NonClass, Class}
use Rattle.ms_base.specs.declared.span.Chunk.{Chunk}
use Rattle.ms_base.specs.Committed.{is_among}
use Rattle.ms_base.specs.State.{Limits}
use Rattle.ms_pool.specs.Account.{AccountState}
use Rattle.ms_pool.specs.Ledger.{Loan, Ledger, Serves, chunks_of, is_owned_by}
use Rattle.ms_loader.specs.Loader.{IsSoundView}
use Rattle.ms_loaders.specs.System.{accounts_of, owners_of, AreTogether}
use Rattle.ms_shared.specs.declared.lock_rule.SeatView.{SeatView}
use Rattle.ms_shared.specs.Entries.{Has, fresh, IsRecord}
use Rattle.ms_shared.specs.SeatView.{SeatState, LockState, ServesBy, opened_by, knows_all, knows_limits, seat_with}
use Rattle.ms_shared.specs.SeatView.{spare_seats, new_seats}
use Rattle.ms_shared.proofs.LockOpenLemmas.{has_fresh}
use Rattle.ms_shared.proofs.RecordLemmas.{has_record, fresh_records}
use Rattle.ms_run.specs.Manned.{IsManned}
use Rattle.ms_run.specs.Dealing.{Loaded, AreBeside, AreSeats, AreSpare}

-- A seat that serves no loader.
pub none_manned : (limits : Limits) → IsManned (knows_limits limits) []
none_manned limits = record {
  served = All-from_recursion (ServesBy (knows_limits limits)) [] tt;
  distinct = λ number. omega arith;
  no_other = λ owner chunks here. absurd here;
  opened = λ space. nothing space;
  sound = All-from_recursion IsSoundView [] tt;
  names = λ k h. absurd (omega arith);
}
  where
    nothing : (space : Space) → opened_by (knows_limits limits) space ≡ 0
    nothing NonClass = refl
    nothing Class = refl

-- The first seat serves all loaders of the pool.
serves_all : (pool : Ledger) (accounts : List AccountState) → AllByRecursion (Serves pool) accounts
    → AllByRecursion (ServesBy (knows_all pool)) accounts
serves_all pool [] all = tt
serves_all pool (account ∷ accounts) all = (
  record {
    chunks = chunks_of pool account.owner;
    entry = has_fresh pool 0 pool.given account.owner all.0.some (omega (arith, all.0.given));
    same = all.0.chunks;
  },
  serves_all pool accounts all.1,
)

lent_to : (owners : List ℕ) (owner : ℕ) (loans : List Loan)
    → AllByRecursion (λ (loan : Loan). IsTrue (is_among owners loan.owner)) loans
    → (map (λ (loan : Loan). loan.chunk) (filter (is_owned_by owner) loans) ≡ []) ⊎ IsTrue (is_among owners owner)
lent_to owners owner [] all = inl refl
lent_to owners owner (loan ∷ loans) all =
    elim (loan.owner == owner) as (λ b. (loan.owner == owner) ≡ b
    → (map (λ (l : Loan). l.chunk) (cond b (loan ∷ filter (is_owned_by owner) loans) (filter (is_owned_by owner) loans))
    ≡ []) ⊎ IsTrue (is_among owners owner)) [
      | true ↦ λ same. inr (subst (λ (n : ℕ). IsTrue (is_among owners n)) (eqb-true loan.owner owner same) all.0)
      | false ↦ λ past. lent_to owners owner loans all.1
    ] refl

pub all_manned : (pool : Ledger) (loaders : Loaded) → AreTogether pool loaders → IsManned (knows_all pool) loaders
all_manned pool loaders together = record {
  served = All-from_recursion (ServesBy (knows_all pool)) (accounts_of loaders)
      (serves_all pool (accounts_of loaders) (recursion_from_All (Serves pool) (accounts_of loaders) together.served.served));
  distinct = together.served.distinct;
  no_other =
      λ owner chunks here. ⊎_elim (λ none. inl (sym (its owner chunks here).chunks_are ∙ none)) (λ among. inr among)
      (lent_to (owners_of loaders) owner pool.loans
      (recursion_from_All (λ (loan : Loan). IsTrue (is_among (owners_of loaders) loan.owner)) pool.loans
      together.served.no_other));
  opened = λ space. counted space;
  sound = together.loaders_sound;
  names = together.names;
}
  where
    its : (owner : ℕ) (chunks : List Chunk) → Has (fresh pool 0 pool.given) owner chunks → IsRecord pool owner chunks
    its owner chunks here =
        has_record pool (fresh pool 0 pool.given) owner chunks (fresh_records pool 0 pool.given (omega arith)) here

    counted : (space : Space) → opened_by (knows_all pool) space ≡ length loaders
    counted NonClass = together.served.opened
    counted Class = together.served.class_opened

spare_free : (shared : LockState) (limits : Limits) (first count : ℕ)
    → AllByRecursion (λ (seat : SeatState). (seat.id ≡ shared.id) × IsManned seat.knows [])
    (spare_seats shared.id limits first count)
spare_free shared limits first zero = tt
spare_free shared limits first (suc count) = ((refl, none_manned limits), spare_free shared limits (suc first) count)

spare_numbers : (shared : LockState) (limits : Limits) (first count : ℕ)
    → AreSpare first (spare_seats shared.id limits first count)
spare_numbers shared limits first zero = tt
spare_numbers shared limits first (suc count) = (refl, refl, spare_numbers shared limits (suc first) count)

pub seats_are : (shared : LockState) (count : ℕ) (seats : List SeatState) (pool : Ledger) (loaders : Loaded)
    → seats ≡ new_seats shared.id count pool
    → AreTogether pool loaders → AreSeats shared seats loaders
seats_are shared count seats pool loaders are together = record {
  first = seat_with shared.id (0, []) (knows_all pool);
  others = spare_seats shared.id pool.limits 1 (count - 1);
  are = are;
  own = refl;
  spare = (refl, refl, spare_numbers shared pool.limits 1 (count - 1));
  manned = all_manned pool loaders together;
  free = All-from_recursion (λ (seat : SeatState). (seat.id ≡ shared.id) × IsManned seat.knows [])
      (spare_seats shared.id pool.limits 1 (count - 1)) (spare_free shared pool.limits 1 (count - 1));
}

-- Beside a seat that serves nothing.
pub beside_none : (from to : SeatView) (loaders : Loaded) → IsManned from loaders
    → IsManned to [] → AreBeside from loaders to []
beside_none from to loaders manned to_manned = record {
  manned = manned;
  to_manned = to_manned;
  apart = λ number. omega (arith, manned.distinct number);
}

-- As many seats as were asked for.
spare_count : (shared : LockState) (limits : Limits) (first count : ℕ)
    → length (spare_seats shared.id limits first count) ≡ count
spare_count shared limits first zero = refl
spare_count shared limits first (suc count) = ap suc (spare_count shared limits (suc first) count)

pub seats_count : (shared : LockState) (count : ℕ) (seats : List SeatState) (pool : Ledger) → 1 ≤ count
    → seats ≡ new_seats shared.id count pool → length seats ≡ count
seats_count shared count seats pool some are =
    omega (
      arith,
      ap (λ (l : List SeatState). length l) are,
      spare_count shared pool.limits 1 (count - 1),
      some,
    )

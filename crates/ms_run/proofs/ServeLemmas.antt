-- A step by one worker: for serving.rt.
use Rattle.std.proofs.Common.{◌≡◌, ℕ, ◌-◌, inl, inr, ⊎_elim, List, [], ◌∷◌, ◌++◌, sym, ap, ◌∙◌, subst, arith}
use Rattle.std.proofs.lemmas.List.{append-nil}
use Rattle.std.proofs.lemmas.List.Elements.{All-weaker}
use Rattle.ms_base.specs.declared.kind.Space.{Space}
use Rattle.ms_base.specs.declared.span.Chunk.{Chunk}
use Rattle.ms_pool.specs.Account.{AccountState}
use Rattle.ms_pool.specs.Ledger.{Ledger, chunks_of}
use Rattle.ms_pool.specs.Calls.{Purged}
use Rattle.ms_loader.specs.Loader.{LoaderView}
use Rattle.ms_loaders.specs.System.{accounts_of}
use Rattle.ms_shared.specs.Entries.{Entry, Has, AreRecords, refreshed, fresh}
use Rattle.ms_shared.specs.SeatView.{SeatState, ServesBy, OverLock, opened_by}
use Rattle.ms_run.specs.Manned.{IsManned}

-- Where the pool's records stay, those made anew are those that stood there.
has_before : (before after : Ledger) (xs : List Entry) (owner : ℕ) (chunks : List Chunk)
    → ((one : ℕ) → chunks_of after one ≡ chunks_of before one) → AreRecords before xs
    → Has (refreshed after xs) owner chunks → Has xs owner chunks
has_before before after [] owner chunks same all here = absurd here
has_before before after (x ∷ xs) owner chunks same all here =
    ⊎_elim (λ is. inl (ap (λ (c : List Chunk). (x.0, c)) (sym all.0.chunks_are ∙ sym (same x.0)) ∙ is))
    (λ there. inr (has_before before after xs owner chunks same all.1 there)) here

-- A purge over the lock leaves the seat all that it serves and counts.
pub purged_manned : (loaders : List (ℕ × LoaderView)) (old new : SeatState) (gone : ℕ)
    → OverLock (λ before after. Purged before gone after) old new
    → ((account : AccountState) → ServesBy old.knows account → ServesBy new.knows account)
    → opened_by new.knows ≡ opened_by old.knows → IsManned old.knows loaders → IsManned new.knows loaders
purged_manned loaders old new gone event served counted manned = record {
  served = All-weaker (ServesBy old.knows) (ServesBy new.knows) served (accounts_of loaders) manned.served;
  distinct = manned.distinct;
  no_other = λ owner chunks here. manned.no_other owner chunks
      (has_before event.before event.after old.knows.served owner chunks
      (λ one. ap (λ (l : Ledger). chunks_of l one) event.called.1) event.known.served
      (subst (λ (entries : List Entry). Has entries owner chunks) entries here));
  opened = λ space. ap (λ (count : Space → ℕ). count space) counted ∙ manned.opened space;
  sound = manned.sound;
  names = manned.names;
}
  where
    none : event.after.given - event.before.given ≡ 0
    none = let given : event.after.given ≡ event.before.given = ap (λ (l : Ledger). l.given) event.called.1 in
        omega arith

    entries : new.knows.served ≡ refreshed event.after old.knows.served
    entries = ap (λ (s : SeatState). s.knows.served) event.left
        ∙ ap (λ (n : ℕ). refreshed event.after old.knows.served ++ fresh event.after event.before.given n) none
        ∙ append-nil (refreshed event.after old.knows.served)

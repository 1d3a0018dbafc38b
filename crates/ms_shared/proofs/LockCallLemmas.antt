-- A call over the lock, from the steps that it is made of: the seat finds the pool as it knows it,
-- and knows then what the pool has become. For the calls of LockedPool.
use Rattle.std.proofs.Common.{◌≡◌, ◌≢◌, ℕ, ◌+◌, ◌-◌, ◌<◌, Bool, List, [], ◌∷◌, ◌++◌, refl, sym, ap, ◌∙◌, subst, arith, None}
use Rattle.std.specs.Prelude.{Result, Ok, Err, IfOk, OnErr, OnOk, IfErr}
use Rattle.std.specs.List.Sorted.{IsPermutation}
use Rattle.atomic_table.specs.Seated.{TableId}
use Rattle.ms_base.specs.declared.kind.Space.{Space}
use Rattle.ms_base.specs.declared.kind.Space.TheVariants.{NonClass, Class}
use Rattle.ms_base.specs.declared.span.Chunk.{Chunk}
use Rattle.ms_base.specs.declared.span.Span.{Span}
use Rattle.ms_base.specs.declared.policy.Policy.{Policy}
use Rattle.ms_base.specs.declared.refusal.Refusal.{Refusal}
use Rattle.ms_base.specs.declared.refusal.Refusal.TheVariants.{CommitLimit, ReserveLimit, OutOfMemory, NoRoom}
use Rattle.ms_pool.specs.Account.{AccountState}
use Rattle.ms_pool.specs.Lending.{Adds, Grows}
use Rattle.ms_pool.specs.Tallies.{Tallies}
use Rattle.ms_pool.specs.Calls.{Opened, OpenedBoth, Took, GrewFrom, Grew}
use Rattle.ms_pool.specs.Source.{LeavesRest}
use Rattle.ms_pool.specs.Ledger.{Ledger, IsSoundLedger, Serves, chunks_of, opened_in}
use Rattle.ms_pool.proofs.ledger.KeepsLemmas.{Keeps, keeps_serves}
use Rattle.ms_pool.proofs.ledger.ClosedLemmas.{ClosesWell, ClosesBothWell}
use Rattle.ms_shared.specs.declared.lock_rule.SeatView.{SeatView}
use Rattle.ms_shared.specs.declared.lock_rule.LockView.{LockView}
use Rattle.ms_shared.specs.Entries.{Has, times, refreshed, fresh}
use Rattle.ms_shared.specs.History.{IsOne, first_strand, extended}
use Rattle.ms_shared.specs.SeatView.{seat_with, seat_of}
use Rattle.ms_shared.specs.SeatView.{SeatState, ServesBy, IsKnown, OverLock, opened_by, view_after, tallies_after}
use Rattle.ms_shared.specs.SeatView.{TallyKind, commit_of_take, reserve_of_take, commit_of_grow, room_of_grow}
use Rattle.ms_shared.specs.SeatView.{ids_of_open, raise}
use Rattle.ms_shared.specs.LockCalls.{TakeTallies, GrowTallies}
use Rattle.ms_shared.specs.LockRule.{Sat, Moves, after, with_pool, taken_of}
use Rattle.ms_shared.proofs.RecordLemmas.{has_record, has_times, has_left, has_right, has_refreshed}
use Rattle.ms_shared.proofs.LetGoLemmas.{opened_after}
use Rattle.ms_shared.proofs.MovesLemmas.{tallies_stay, tallies_rise}
use Rattle.ms_shared.proofs.SeatDealLemmas.{seen_as}
use Rattle.ms_shared.proofs.StrandLemmas.{first_extended}

-- What holds in any case holds of an answer that is no refusal.
pub on_ok : (answer : Result Span Refusal) (P : Type 0) → P → OnOk answer P
on_ok (Ok span) P holds = holds
on_ok (Err refusal) P holds = tt

-- The seat before and after a call on the pool that it found.
pub record IsCall (old new : SeatState) (before later : Ledger) : Type 0 where
  pub sound : IsSoundLedger before
  pub sound_after : IsSoundLedger later
  pub known : IsKnown before old.knows
  pub left : new
      ≡ record old { events = old.events ++ (before, later) ∷ []; knows = view_after before later old.knows }

-- What the seat may make of the pool, said of the seat that has it.
pub moves_at : (view : LockView) (old new : Ledger) (me : Sat) → me ≡ (with_pool view old, (0, None) ∷ [])
    → Moves view.knows old new
    → Moves me.0.knows (taken_of me.0) new
moves_at view old new me has moves = subst (λ (m : Sat). Moves m.0.knows (taken_of m.0) new) (sym has) moves

seat_then : (id id' : TableId) (view : LockView) (old new : Ledger) (me end : Sat) → IsOne view.strands
    → me ≡ (with_pool view old, (0, None) ∷ []) → end ≡ (after me.0 (taken_of me.0) new, []) → id' ≡ id
    → seat_of id' end.0
    ≡ seat_with id ((first_strand view.strands).0, (first_strand view.strands).1 ++ (old, new) ∷ [])
    (view_after old new view.knows)
seat_then id id' view old new me end one has back same =
    seen_as id id' ((first_strand view.strands).0, (first_strand view.strands).1 ++ (old, new) ∷ [])
    (view_after old new view.knows) end.0 same
    (ap (λ (m : Sat). first_strand m.0.strands) back
    ∙ ap (λ (m : Sat). first_strand (extended (taken_of m.0, new) m.0.strands)) has
    ∙ first_extended (old, new) view.strands one)
    (ap (λ (m : Sat). m.0.knows) back ∙ ap (λ (m : Sat). view_after (taken_of m.0) new m.0.knows) has)

pub is_call : (id id' : TableId) (view : LockView) (old : SeatState) (before later : Ledger) (me end : Sat)
    → IsOne view.strands → seat_of id view ≡ old → IsKnown before view.knows
    → IsSoundLedger before → IsSoundLedger later
    → me ≡ (with_pool view before, (0, None) ∷ []) → end ≡ (after me.0 (taken_of me.0) later, []) → id' ≡ id
    → IsCall old (seat_of id' end.0) before later
is_call id id' view old before later me end one is known sound sound_after has back same =
    subst (λ (s : SeatState). IsCall s (seat_of id' end.0) before later) is (record {
      sound = sound;
      sound_after = sound_after;
      known = known;
      left = seat_then id id' view before later me end one has back same;
    })

pub over_lock : (event : Ledger → Ledger → Type 0) (old new : SeatState) (before later : Ledger)
    → IsCall old new before later → event before later
    → OverLock event old new
over_lock event old new before later call called =
    record {
      before = before;
      after = later;
      sound = call.sound;
      sound_after = call.sound_after;
      known = call.known;
      called = called;
      left = call.left;
    }

-- An account that the seat serves is served by the pool that it finds.
pub served_by_pool : (pool : Ledger) (view : SeatView) (account : AccountState) → IsKnown pool view
    → ServesBy view account → Serves pool account
served_by_pool pool view account known serves =
    let its = has_record pool view.served account.owner serves.chunks known.served serves.entry in
    record {
      some = its.some;
      given = its.given;
      chunks = subst (λ (l : List Chunk). IsPermutation l account.chunks) (sym its.chunks_are) serves.same;
    }

pub own_times : (view : SeatView) (account : AccountState) → ServesBy view account → 0 < times account.owner view.served
own_times view account serves = has_times view.served account.owner serves.chunks serves.entry

module _ (old new : SeatState) (before later : Ledger) (call : IsCall old new before later) where
  -- An owner that the seat serves is served as the pool then serves it.
  pub serves_then : (account changed : AccountState) → ServesBy old.knows account → changed.owner ≡ account.owner
      → Serves later changed → ServesBy new.knows changed
  serves_then account changed serves same its =
      subst (λ (s : SeatState). ServesBy s.knows changed) (sym call.left) (record {
        chunks = chunks_of later changed.owner;
        entry = has_left (refreshed later old.knows.served) (fresh later before.given (later.given - before.given))
            changed.owner (chunks_of later changed.owner)
            (has_refreshed later old.knows.served changed.owner serves.chunks
            (subst (λ (o : ℕ). Has old.knows.served o serves.chunks) (sym same) serves.entry));
        same = its.chunks;
      })

  -- So is an owner whose number the call gave out.
  pub serves_new : (account : AccountState)
      → Has (fresh later before.given (later.given - before.given)) account.owner (chunks_of later account.owner)
      → Serves later account → ServesBy new.knows account
  serves_new account here its = subst (λ (s : SeatState). ServesBy s.knows account) (sym call.left) (record {
    chunks = chunks_of later account.owner;
    entry = has_right (refreshed later old.knows.served) (fresh later before.given (later.given - before.given))
        account.owner (chunks_of later account.owner) here;
    same = its.chunks;
  })

  pub limits_stay : new.knows.limits ≡ old.knows.limits
  limits_stay = ap (λ (s : SeatState). s.knows.limits) call.left

  pub counts_then : (space : Space)
      → opened_by new.knows space ≡ (opened_by old.knows space + opened_in later space) - opened_in before space
  counts_then space = ap (λ (s : SeatState). opened_by s.knows space) call.left
      ∙ opened_after space before later old.knows

  pub counts_stay : opened_in later ≡ opened_in before → opened_by new.knows ≡ opened_by old.knows
  counts_stay same = λ i. λ space. stays space i
    where
      stays : (space : Space) → opened_by new.knows space ≡ opened_by old.knows space
      stays space = let moved = counts_then space in let equal : opened_in later space ≡ opened_in before space =
          ap (λ (f : Space → ℕ). f space) same in omega arith

  -- A call for one owner's account leaves the rest of the seat.
  pub leaves_rest : (owner : ℕ) → Keeps owner before later
      → LeavesRest (λ (seat : SeatState). ServesBy seat.knows) (λ (seat : SeatState). opened_by seat.knows)
      (λ (seat : SeatState). seat.knows.limits) owner old new
  leaves_rest owner keeps = record {
    others = λ other differs its. serves_then other other its refl
        (keeps_serves owner before later other keeps differs (served_by_pool before old.knows other call.known its));
    counted = counts_stay keeps.opened;
    limits_stay = limits_stay;
  }

  -- A closed account is counted no more, and those of the other space are.
  pub close_counts : (account : AccountState) → 0 < opened_by old.knows account.space → ClosesWell before account later
      → opened_by new.knows account.space + 1 ≡ opened_by old.knows account.space
  close_counts account some well = let moved = counts_then account.space in let less = well.counted in omega arith

  pub close_elsewhere : (account : AccountState) → ClosesWell before account later → (space : Space)
      → space ≢ account.space
      → opened_by new.knows space ≡ opened_by old.knows space
  close_elsewhere account well space differs = let moved = counts_then space in let same =
      well.elsewhere space differs in omega arith

  pub close_both_counts : (account class_account : AccountState) → ((space : Space) → 0 < opened_by old.knows space)
      → ClosesBothWell before account class_account later
      → (space : Space) → opened_by new.knows space + 1 ≡ opened_by old.knows space
  close_both_counts account class_account some well NonClass =
      let moved = counts_then NonClass in let less = well.counted in let one = some NonClass in omega arith
  close_both_counts account class_account some well Class =
      let moved = counts_then Class in let less = well.class_counted in let one = some Class in omega arith

  tallies_then : new.knows.tallies ≡ tallies_after before.tallies later.tallies old.knows.tallies
  tallies_then = ap (λ (s : SeatState). s.knows.tallies) call.left

  pub tallies_kept : later.tallies ≡ before.tallies → new.knows.tallies ≡ old.knows.tallies
  tallies_kept same = tallies_then ∙ ap (λ (t : Tallies). tallies_after before.tallies t old.knows.tallies) same
      ∙ tallies_stay before.tallies old.knows.tallies

  pub tallies_raised : (kind : TallyKind) → later.tallies ≡ raise kind before.tallies
      → new.knows.tallies ≡ raise kind old.knows.tallies
  tallies_raised kind raised =
      tallies_then ∙ ap (λ (t : Tallies). tallies_after before.tallies t old.knows.tallies) raised
      ∙ tallies_rise kind before.tallies old.knows.tallies

  -- The tallies that answers of `take` and of `grow` raise, and a refusal of `open`.
  pub take_raises : (account : AccountState) (wanted most words : ℕ) (result : Result Span Refusal)
      → Took before account wanted most words result later
      → TakeTallies result old.knows.tallies new.knows.tallies
  take_raises account wanted most words (Ok span) lends = tallies_kept (ap (λ (l : Ledger). l.tallies) lends.after)
  take_raises account wanted most words (Err (CommitLimit committed limit need)) refused =
      tallies_raised commit_of_take (ap (λ (l : Ledger). l.tallies) refused.1)
  take_raises account wanted most words (Err (ReserveLimit nodes limit)) refused =
      tallies_raised reserve_of_take (ap (λ (l : Ledger). l.tallies) refused.1)
  take_raises account wanted most words (Err OutOfMemory) refused =
      tallies_kept (ap (λ (l : Ledger). l.tallies) refused.1)
  take_raises account wanted most words (Err _) refused = absurd refused

  grow_raises_from : (account : AccountState) (chunk : Chunk) (total : ℕ) (may_enlarge : Bool)
      (result : Result Span Refusal) → GrewFrom before account chunk total may_enlarge result later
      → GrowTallies result old.knows.tallies new.knows.tallies
  grow_raises_from account chunk total may_enlarge (Ok span) grown =
      tallies_kept (ap (λ (l : Ledger). l.tallies) grown.3)
  grow_raises_from account chunk total may_enlarge (Err (CommitLimit committed limit need)) refused =
      tallies_raised commit_of_grow (ap (λ (l : Ledger). l.tallies) refused.1)
  grow_raises_from account chunk total may_enlarge (Err (NoRoom level)) refused =
      tallies_raised room_of_grow (ap (λ (l : Ledger). l.tallies) refused.1)
  grow_raises_from account chunk total may_enlarge (Err _) refused = absurd refused

  pub grow_raises : (account : AccountState) (start total : ℕ) (may_enlarge : Bool) (result : Result Span Refusal)
      → Grew before account start total may_enlarge result later
      → GrowTallies result old.knows.tallies new.knows.tallies
  grow_raises account start total may_enlarge result grew =
      grow_raises_from account grew.chunk total may_enlarge result grew.after

  pub open_raises : (space : Space) (result : Result AccountState Refusal) → Opened before space result later
      → IfErr result (λ refusal. new.knows.tallies ≡ raise ids_of_open old.knows.tallies)
  open_raises space (Ok account) opened = tt
  open_raises space (Err refusal) refused = tallies_raised ids_of_open (ap (λ (l : Ledger). l.tallies) refused.2)

  pub open_both_raises : (result : Result (AccountState × AccountState) Refusal) → OpenedBoth before result later
      → IfErr result (λ refusal. new.knows.tallies ≡ raise ids_of_open old.knows.tallies)
  open_both_raises (Ok accounts) opened = tt
  open_both_raises (Err refusal) refused = tallies_raised ids_of_open (ap (λ (l : Ledger). l.tallies) refused.2)

-- A chunk that is lent, and one that grows, are the caller's account's; refused, it is as it was.
pub took_owner : (policy : Policy) (wanted most words : ℕ) (old new : AccountState) (result : Result Span Refusal)
    → IfOk result (λ span. Adds policy wanted most words old span new) → OnErr result (new ≡ old)
    → new.owner ≡ old.owner
took_owner policy wanted most words old new (Ok span) adds unchanged = ap (λ (a : AccountState). a.owner) adds.after
took_owner policy wanted most words old new (Err refusal) adds unchanged = ap (λ (a : AccountState). a.owner) unchanged

pub grew_owner : (policy : Policy) (start total : ℕ) (may_enlarge : Bool) (old new : AccountState)
    (result : Result Span Refusal)
    → IfOk result (λ span. Grows policy start total may_enlarge old span new) → OnErr result (new ≡ old)
    → new.owner ≡ old.owner
grew_owner policy start total may_enlarge old new (Ok span) grows unchanged =
    ap (λ (a : AccountState). a.owner) grows.after
grew_owner policy start total may_enlarge old new (Err refusal) grows unchanged =
    ap (λ (a : AccountState). a.owner) unchanged

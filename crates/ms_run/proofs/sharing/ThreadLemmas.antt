-- That a share may go to another thread, and that threads may look at the lock and the meter; and
-- what the threads' promises say of all shares.
use Rattle.std.proofs.Common.{◌≡◌, ◌<◌, ℕ, zero, suc, List, [], ◌∷◌, ◌++◌, length, map, get_or, refl, ap, sym, ◌∙◌}
use Rattle.std.proofs.Common.{subst, arith}
use Rattle.std.proofs.lemmas.List.{append-nil}
use Rattle.std.specs.List.{All, AllByRecursion}
use Rattle.std.proofs.lemmas.List.Elements.{All-from_recursion, All-push}
use Rattle.ms_shared.specs.SeatView.{LockState}
use Rattle.ms_shared.specs.MeterRule.{MeterState}
use Rattle.ms_trace.specs.declared.trace.Line.{Line}
use Rattle.ms_run.specs.declared.share.Share.{Share}
use Rattle.ms_run.specs.Shares.{IsReadyFor, IsWorked, AllWorked}
use denote.RattleType.{RattleType}
use denote.Struct.Tuple.{TupleAt, type_at}
use denote.Struct.Field.{shr_ref_field, shr_slice_field, row_field, u64-field}
use denote.Ref.{NamedLft}
use denote.Param.{param}
use Rattle.std.specs.contracts.alloc.Global as heap
use denote.Param.Send.{IsSend, IsSync, sendable}
use denote.Param.SendFields.{declared_send, as_row_send}
use Rattle.std.proofs.Crossing.{crosses}
use Rattle.std.proofs.option.Option.TheSendSync as option
use Rattle.ms_base.proofs.step.Reply.TheSendSync as reply
use Rattle.ms_pool.proofs.account.Account.TheSendSync as account
use Rattle.ms_shared.below.atomic_table.proofs.shared.Seat.TheSendSync as table_seat
use Rattle.ms_loaders.below.ms_blocks.proofs.tree.Tree.TheLaws.TheKnot.{send-Tree, send-Fork}
use Rattle.ms_loaders.below.ms_arena.proofs.words.Words.TheSendSync as words
use Rattle.ms_loader.proofs.naming.Names.TheSendSync as names
use Rattle.ms_loader_map.proofs.loaders.owners.Owners.TheSendSync as owners
use Rattle.ms_loaders.below.ms_commit.proofs.mask.Mask.TheSendSync as mask
use Rattle.ms_loaders.below.ms_commit.proofs.nodes.Nodes.TheSendSync as nodes
use Rattle.ms_shared.below.atomic_table.proofs.shared.Shared.TheSendSync as table
use Rattle.ms_shared.below.atomic_table.proofs.send_lease.SendLease.TheSendSync as lease
use Rattle.std.proofs.alloc.Global.TheSendSync as global
use Rattle.ms_loader_map.specs.contracts.loaders.Loaders as loaders
use Rattle.ms_loader_map.specs.contracts.loaders.boxed.Boxed as boxed
use Rattle.ms_loader_map.specs.contracts.loaders.page.Page as page
use Rattle.ms_loader_map.specs.contracts.loaders.spares.Spares as spares
use Rattle.ms_shared.specs.contracts.seat.PoolSeat as seat
use Rattle.ms_shared.specs.contracts.shared_pool.SharedPool as shared
use Rattle.ms_shared.specs.contracts.used_meter.MeterSeat as meter_seat
use Rattle.ms_shared.specs.contracts.used_meter.UsedMeter as meter
use Rattle.ms_pool.specs.contracts.pool.Pool as pool
use Rattle.ms_trace.proofs.trace.Line.TheSendSync as line
use Rattle.ms_trace.specs.contracts.trace.Line as line_row
use Rattle.ms_run.specs.contracts.share.Share as share

boxed_send : IsSend boxed.the_row
boxed_send =
    search (sendable, crosses, send-Tree, send-Fork, words.the_send, names.the_send, account.the_send)
    depth 60 fits 30000

page_send : IsSend page.the_row
page_send = search (boxed_send, sendable, crosses, option.the_send) depth 20

spares_send : IsSend spares.the_row
spares_send = search (boxed_send, sendable, crosses) depth 20

loaders_send : IsSend loaders.the_row
loaders_send = search (page_send, owners.the_send, spares_send, sendable, crosses, global.the_send) depth 20

seat_send : IsSend seat.the_row
seat_send =
    search (sendable, crosses, option.the_send, table_seat.the_send, mask.the_send, nodes.the_send)
    depth 60 fits 30000

meter_seat_send : IsSend meter_seat.the_row
meter_seat_send = search (sendable, crosses, table_seat.the_send) depth 20

pub share_send : IsSend share.the_row
share_send =
    search (loaders_send, seat_send, meter_seat_send, sendable, crosses, reply.the_send) depth 20

pool_send : IsSend pool.the_row
pool_send = search (sendable, crosses, mask.the_send, nodes.the_send) depth 60 fits 30000

pub shared_sync : IsSync shared.the_row
shared_sync =
    search (
      pool_send,
      sendable,
      crosses,
      option.the_send,
      table.the_sync,
      lease.the_sync,
      global.the_send,
      global.the_sync,
    ) depth 60 fits 30000

meter_sync : IsSync meter.the_row
meter_sync = search (sendable, crosses, table.the_sync, lease.the_sync, global.the_send, global.the_sync) depth 20

-- What a thread is handed: what it looks at, the words in use before, the lines, and its share.
abbrev handed : (l m k n o : NamedLft) (R G : RattleType) → List RattleType
handed l m k n o R G =
    (shr_ref_field l (param 0 R) tt).row
    ∷ heap.the_row
    ∷ (shr_ref_field m shared.the_row tt).row
    ∷ (shr_ref_field k meter.the_row tt).row
    ∷ u64-field.row
    ∷ (shr_ref_field n (param 1 G) tt).row
    ∷ (shr_slice_field o line_row.the_row tt).row
    ∷ share.the_row
    ∷ []

-- That may go there.
pub handed_send : (name : List ℕ) (l m k n o : NamedLft) (R G : RattleType) → IsSync (param 0 R) → IsSync (param 1 G)
    → IsSend (TupleAt name (handed l m k n o R G))
handed_send name l m k n o R G r g = declared_send (type_at name (handed l m k n o R G)) (
  as_row_send (row_field (shr_ref_field l (param 0 R) tt).row) (search (r, sendable)),
  (
    as_row_send (row_field heap.the_row) global.the_send,
    (
      as_row_send (row_field (shr_ref_field m shared.the_row tt).row) (search (shared_sync, sendable)),
      (
        as_row_send (row_field (shr_ref_field k meter.the_row tt).row) (search (meter_sync, sendable)),
        (
          as_row_send (row_field u64-field.row) (search sendable),
          (
            as_row_send (row_field (shr_ref_field n (param 1 G) tt).row) (search (g, sendable)),
            (
              as_row_send (row_field (shr_slice_field o line_row.the_row tt).row) (search (line.the_sync, sendable)),
              (as_row_send (row_field share.the_row) share_send, tt),
            ),
          ),
        ),
      ),
    ),
  ),
)

-- A thread more, and a share less.
added : {H : Type 0} (of : H → Share) (old : List H) (handle : H) (after : List Share)
    → map of (old ++ handle ∷ []) ++ after ≡ map of old ++ of handle ∷ after
added of [] handle after = refl
added of (x ∷ old) handle after = ap (λ shares. of x ∷ shares) (added of old handle after)

pub one_more : {H : Type 0} (of : H → Share) (old new : List H) (handle : H) (share : Share)
    (before after shares : List Share) → new ≡ old ++ handle ∷ [] → before ≡ share ∷ after
    → of handle ≡ share → map of old ++ before ≡ shares → map of new ++ after ≡ shares
one_more of old new handle share before after shares new_is before_is of_is all =
    ap (λ handles. map of handles ++ after) new_is
    ∙ (added of old handle after
    ∙ (ap (λ s. map of old ++ s ∷ after) of_is ∙ (ap (λ others. map of old ++ others) (sym before_is) ∙ all)))

pub fewer_ready : (shared : LockState) (meter : MeterState) (share : Share) (before after : List Share)
    → before ≡ share ∷ after
    → All (IsReadyFor shared meter) before → All (IsReadyFor shared meter) after
fewer_ready shared meter share before after is ready k d below =
    subst (All (IsReadyFor shared meter)) is ready (suc k) d (omega arith)

pub only : (shares rest all : List Share) → length rest ≡ 0 → shares ++ rest ≡ all → shares ≡ all
only shares [] all none is = sym (append-nil shares) ∙ is
only shares (x ∷ rest) all none is = absurd (omega arith)

-- Each result is its own share's.
pub all_worked : {H : Type 0} (lines : List Line) (of : H → Share) (handles : List H) (done : List Share)
    → length done ≡ length handles
    → ((i : ℕ) (d : Share) → i < length handles
    → (h : H) × (h ≡ get_or handles i h) × IsWorked lines (of h) (get_or done i d))
    → AllWorked lines (map of handles) done
all_worked lines of [] [] same each = tt
all_worked lines of [] (result ∷ done) same each = absurd (omega arith)
all_worked lines of (handle ∷ handles) [] same each = absurd (omega arith)
all_worked lines of (handle ∷ handles) (result ∷ done) same each =
    let first = each zero result (omega arith) in (
      subst (λ h. IsWorked lines (of h) result) first.1 first.2,
      all_worked lines of handles done (omega arith) (λ i d below. each (suc i) d (omega arith)),
    )

-- What is true of each thread so far, and of one more.
pub one_more_kept : {H : Type 0} (P : H → Type 0) (old new : List H) (handle : H) → new ≡ old ++ handle ∷ [] → All P old
    → P handle → All P new
one_more_kept P old new handle is kept one = subst (All P) (sym is) (All-push P old handle kept one)

-- And what each thread keeps of its own share is true of all.
shares_keep : {H : Type 0} (of : H → Share) (Kept : Share → Type 0) (handles : List H) (done : List Share)
    → length done ≡ length handles
    → ((i : ℕ) (d : Share) → i < length handles → (h : H) × (h ≡ get_or handles i h) × Kept (of h))
    → AllByRecursion Kept (map of handles)
shares_keep of Kept [] done same each = tt
shares_keep of Kept (handle ∷ handles) [] same each = absurd (omega arith)
shares_keep of Kept (handle ∷ handles) (result ∷ done) same each =
    let first = each zero result (omega arith) in (
      subst (λ h. Kept (of h)) first.1 first.2,
      shares_keep of Kept handles done (omega arith) (λ i d below. each (suc i) d (omega arith)),
    )

pub all_kept : {H : Type 0} (of : H → Share) (Kept : Share → Type 0) (handles : List H) (done : List Share)
    → length done ≡ length handles
    → ((i : ℕ) (d : Share) → i < length handles → (h : H) × (h ≡ get_or handles i h) × Kept (of h))
    → All Kept (map of handles)
all_kept of Kept handles done same each =
    All-from_recursion Kept (map of handles) (shares_keep of Kept handles done same each)

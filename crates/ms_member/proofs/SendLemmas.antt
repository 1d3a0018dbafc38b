-- A member may go to another thread: all its parts may, and the pool that members share may be called
-- by any thread. Cited by whoever hands members to threads.
use denote.Param.Send.{IsSend, IsSync, sendable}
use Rattle.std.proofs.Crossing.{crosses}
use Rattle.std.proofs.MapsCrossing.{HashMap-send}
use Rattle.std.proofs.option.Option.TheSendSync as option
use Rattle.std.proofs.alloc.Global.TheSendSync as global
use Rattle.std_alloc.proofs.arc.Arc.TheSendSync as arc
use Rattle.ms_pool.proofs.account.Account.TheSendSync as account
use Rattle.ms_arena.proofs.words.Words.TheSendSync as words
use Rattle.ms_loader.proofs.naming.Names.TheSendSync as names
use Rattle.ms_loaders.below.ms_blocks.proofs.tree.Tree.TheLaws.TheKnot.{send-Tree, send-Fork}
use Rattle.ms_loaders.below.ms_commit.proofs.nodes.Nodes.TheSendSync as nodes
use Rattle.ms_shared.below.atomic_table.proofs.shared.Seat.TheSendSync as table_seat
use Rattle.ms_shared.below.atomic_table.proofs.shared.Shared.TheSendSync as table
use Rattle.ms_shared.below.atomic_table.proofs.send_lease.SendLease.TheSendSync as lease
use Rattle.ms_pool.specs.contracts.pool.Pool as pool
use Rattle.ms_loader.specs.contracts.loader.Loader as loader
use Rattle.ms_shared.specs.contracts.seat.PoolSeat as seat
use Rattle.ms_shared.specs.contracts.held_pool.HeldSeat as held
use Rattle.ms_shared.specs.contracts.shared_pool.SharedPool as shared
use Rattle.ms_member.specs.contracts.member.Member as member
use Rattle.ms_member.specs.contracts.member.bare.BareArena as bare
use Rattle.ms_member.specs.contracts.member.hosted.Hosted as hosted
use Rattle.ms_arena.specs.contracts.arena.Arena as arena

loader_send : IsSend loader.the_row
loader_send =
    search (sendable, crosses, send-Tree, send-Fork, words.the_send, names.the_send, account.the_send)
    depth 60 fits 30000

arena_send : IsSend arena.the_row
arena_send =
    search (sendable, crosses, HashMap-send, send-Tree, send-Fork, words.the_send, account.the_send)
    depth 60 fits 30000

bare_send : IsSend bare.the_row
bare_send = search (sendable, crosses, send-Tree, send-Fork, words.the_send, account.the_send) depth 60 fits 30000

hosted_send : IsSend hosted.the_row
hosted_send = search (arena_send, bare_send, sendable, crosses) depth 60 fits 30000

pool_send : IsSend pool.the_row
pool_send = search (sendable, crosses, nodes.the_send) depth 60 fits 30000

seat_send : IsSend seat.the_row
seat_send = search (pool_send, sendable, crosses, option.the_send, table_seat.the_send) depth 60 fits 30000

held_send : IsSend held.the_row
held_send = search (pool_send, sendable, crosses, option.the_send, table_seat.the_send) depth 60 fits 30000

shared_send : IsSend shared.the_row
shared_send =
    search (
      pool_send,
      sendable,
      crosses,
      option.the_send,
      table.the_send,
      lease.the_send,
      global.the_send,
    ) depth 60 fits 30000

shared_sync : IsSync shared.the_row
shared_sync =
    search (
      pool_send,
      sendable,
      crosses,
      option.the_send,
      table.the_sync,
      lease.the_sync,
      global.the_send,
      global.the_sync,
    ) depth 60 fits 30000

pub member_send : IsSend member.the_row
member_send =
    search (arc.the_send, shared_send, shared_sync, seat_send, held_send, loader_send, hosted_send, sendable, crosses)
    depth 60 fits 30000

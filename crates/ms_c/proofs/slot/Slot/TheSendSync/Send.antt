-- A slot may go to another thread: it owns nothing, or a box of a system, all of whose parts may
-- go.
use base.Shift.{Keyless}
use mir.Raw.{raw}
use denote.Memory.{lone}
use denote.RawPtr.{Ptr}
use denote.Struct.Struct.{exits_of}
use denote.Struct.Owning.{shape, fields, to}
use denote.Param.Send.{IsSend, AllSend, owning_send, struct_send, sendable}
use Rattle.std.proofs.Crossing as heap
use Rattle.std.proofs.Crossing.{crosses}
use Rattle.std.proofs.option.Option.TheSendSync as option
use Rattle.std.specs.Prelude.{Some, None}
use Rattle.std.specs.Global.{Global}
use Rattle.std_alloc.proofs.SendSync.{quiet, lies}
use Rattle.std_heap.proofs.Global.TheSendSync as handle
use Rattle.ms_pool.proofs.account.Account.TheSendSync as account
use Rattle.ms_arena.proofs.words.Words.TheSendSync as words
use Rattle.ms_loader.proofs.naming.Names.TheSendSync as names
use Rattle.ms_loader_map.proofs.loaders.owners.Owners.TheSendSync as owners
use Rattle.ms_loaders.below.ms_blocks.proofs.tree.Tree.TheLaws.TheKnot.{send-Tree, send-Fork}
use Rattle.ms_loaders.below.ms_commit.proofs.mask.Mask.TheSendSync as mask
use Rattle.ms_loaders.below.ms_commit.proofs.nodes.Nodes.TheSendSync as nodes
use Rattle.ms_pool.specs.contracts.pool.Pool as pool
use Rattle.ms_loader_map.specs.contracts.loaders.Loaders as loaders
use Rattle.ms_loader_map.specs.contracts.loaders.boxed.Boxed as boxed
use Rattle.ms_loader_map.specs.contracts.loaders.page.Page as page
use Rattle.ms_loader_map.specs.contracts.loaders.spares.Spares as spares
use Rattle.ms_loaders.specs.contracts.system.System as system
use Rattle.ms_c.specs.Holding.{Held, held_by}
use Rattle.ms_c.specs.contracts.slot.Slot.{the_row, the_type}

boxed_send : IsSend boxed.the_row
boxed_send =
    search (sendable, crosses, send-Tree, send-Fork, words.the_send, names.the_send, account.the_send)
    depth 60 fits 30000

page_send : IsSend page.the_row
page_send = search (boxed_send, sendable, crosses, option.the_send) depth 20

spares_send : IsSend spares.the_row
spares_send = search (boxed_send, sendable, crosses) depth 20

loaders_send : IsSend loaders.the_row
loaders_send = search (page_send, owners.the_send, spares_send, sendable, crosses, handle.the_send) depth 20

pool_send : IsSend pool.the_row
pool_send = search (sendable, crosses, mask.the_send, nodes.the_send) depth 60 fits 30000

system_send : IsSend system.the_row
system_send = search (loaders_send, pool_send, sendable, crosses) depth 20

held_goes : (alloc : Global) (at : Ptr) (held : Held) → Keyless (held_by alloc at held)
held_goes alloc at None = tt
held_goes alloc at (Some value) =
    (lies system.the_row system_send at value, heap.frees.frees alloc (raw (lone system.the_row.mir)) at)

pub send : IsSend the_row
send =
    let all : AllSend (fields the_type) = (search sendable, (handle.the_field_send, tt)) in
    owning_send the_type all (λ d. held_goes d.alloc d.at d.held)
    (λ k. quiet (to the_type) (exits_of k (fields the_type)) ((struct_send (shape the_type) all).leaving k))

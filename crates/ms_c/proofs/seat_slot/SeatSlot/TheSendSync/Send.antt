-- A seat's slot may go to another thread: it owns nothing, or a box of a member, which may go.
use base.Shift.{Keyless}
use mir.Raw.{raw}
use denote.Memory.{lone}
use denote.RawPtr.{Ptr}
use denote.Struct.Struct.{exits_of}
use denote.Struct.Owning.{shape, fields, to}
use denote.Param.Send.{IsSend, AllSend, owning_send, struct_send, sendable}
use Rattle.std.proofs.Crossing as heap
use Rattle.std.proofs.alloc.Global.TheSendSync as global
use Rattle.std.specs.Prelude.{Some, None}
use Rattle.std.specs.Global.{Global}
use Rattle.std_alloc.proofs.SendSync.{quiet, lies}
use Rattle.ms_member.proofs.SendLemmas.{member_send}
use Rattle.ms_member.specs.contracts.member.Member as member
use Rattle.ms_c.specs.Seating.{Seated, seated_by}
use Rattle.ms_c.specs.contracts.seat_slot.SeatSlot.{the_row, the_type}

held_goes : (alloc : Global) (at : Ptr) (held : Seated) → Keyless (seated_by alloc at held)
held_goes alloc at None = tt
held_goes alloc at (Some value) =
    (lies member.the_row member_send at value, heap.frees.frees alloc (raw (lone member.the_row.mir)) at)

pub send : IsSend the_row
send =
    let all : AllSend (fields the_type) = (search sendable, (global.the_field_send, tt)) in
    owning_send the_type all (λ d. held_goes d.alloc d.at d.held)
    (λ k. quiet (to the_type) (exits_of k (fields the_type)) ((struct_send (shape the_type) all).leaving k))

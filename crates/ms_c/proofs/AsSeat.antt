-- A slot that holds a member, and the parts of a box, own what a box at the same types owns: this
-- file alone names the type that the walks are at.
use mir.Syntax.{impl, tnil, dnil}
use Rattle.std.proofs.Common.{◌≡◌, [], refl, subst, Some, None, IsSome, Bool, not, T}
use denote.Signature.{Slot as Carrier, plain}
use Rattle.std_alloc.proofs.BoxSteps.Form.{Bx}
use Rattle.std_heap.specs.contracts.Global as Heap
use Rattle.std_heap.specs.contracts.GlobalAllocator.TheImpl.{ghosts, dict}
use Rattle.std_heap.proofs.Global.TheLaws as heap
use Rattle.ms_member.specs.contracts.member.Member as Member
use Rattle.ms_member.proofs.member.Member.TheLaws as member
use Rattle.ms_c.specs.Seating.{Seated}
use Rattle.ms_c.specs.contracts.parts.Parts as Parts
use Rattle.ms_c.specs.contracts.seat_slot.SeatSlot as SeatSlot

abbrev pub E : Bx
E = record {
  row = Member.the_row;
  laws = member.the_row_laws;
  al = record { row = Heap.the_row; laws = heap.the_row_laws; g = ghosts; d = dict; drops = impl [] tnil dnil };
}

-- The carriers of a parameter that is the allocator, the parts of a box or a slot.
abbrev pub FromHeap : Carrier 0
FromHeap = plain (λ _. Heap.the_row)

abbrev pub FromParts : Carrier 0
FromParts = plain (λ _. Parts.the_row Member.the_row Heap.the_row ghosts)

abbrev pub FromSeatSlot : Carrier 0
FromSeatSlot = plain (λ _. SeatSlot.the_row)

-- What is there, is some value.
pub opened : (h : Seated) → IsSome h → (x : Member.the_row.Denot) × (h ≡ Some x)
opened (Some x) some = (x, refl)
opened None some = absurd (subst (λ (b : Bool). T (not b)) some tt)

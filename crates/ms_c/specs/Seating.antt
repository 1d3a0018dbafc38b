-- What a slot of a seat owns: nothing, or a member in a box.
use base.Fml.{Fml, ftrue}
use base.Stored.{Coded}
use denote.RawPtr.{Ptr}
use Rattle.std.specs.Prelude.{Option, Some, None}
use Rattle.std.specs.Coded.{coded_option}
use Rattle.std.specs.Global.{Global}
use Rattle.std_alloc.specs.Box.Ownership.{box_owns}
use Rattle.std_heap.specs.contracts.GlobalAllocator.TheImpl.{ghosts}
use Rattle.ms_member.specs.contracts.member.Member.{the_row}

abbrev pub Seated : Type 0
Seated = Option the_row.Denot

abbrev pub seated_by : Global → Ptr → Seated → Fml
seated_by alloc at None = ftrue
seated_by alloc at (Some value) = box_owns (ghosts.dealloc_token alloc) the_row at value

abbrev pub seated_coded : Coded Seated
seated_coded = coded_option the_row.coded

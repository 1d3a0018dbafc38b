use Rattle.std.proofs.Common.{length, sym, ◌∙◌, arith}
use Rattle.ms_base.specs.FreeParts.{free_in_slot}
use Rattle.ms_base.specs.Part.{is_reserved}
use Rattle.ms_commit.specs.Nodes.{all_slots}
use Rattle.ms_pool.specs.Ledger.{held_in}
use Rattle.ms_pool.specs.Keeping.{ledger_of}
use Rattle.ms_pool.proofs.counts.FreeCountLemmas.{none_raised, raised_in_slot, room_in_slot, slot_parts}
use Rattle.ms_pool.proofs.searches.SlotLoopLemmas.{root_there}
use Rattle.ms_pool.proofs.lender.Lender.free_in_slot.Goals as goal

pub returns-then-not-is_reserved : goal.returns-then-not-is_reserved
returns-then-not-is_reserved c =
    none_raised c.args.before.free (is_reserved (all_slots c.args.self.now.nodes) c.args.slot)
    (free_in_slot (held_in c.args.space (ledger_of c.args.self.now)) c.args.slot)
    (sym c.is_reserved.ensures ∙ c.if-not-is_reserved.true)

pub free_in_root-lower-requires-clause-there : goal.free_in_root-lower-requires-clause-there
free_in_root-lower-requires-clause-there c =
    omega (
      arith,
      root_there c.args.space c.args.self.now.nodes c.args.slot 0 (length c.args.self.now.trees.items)
          (omega arith) c.requires.low c.requires.high c.requires.kept.trees,
    )

pub free_in_root-lower-requires-clause-room : goal.free_in_root-lower-requires-clause-room
free_in_root-lower-requires-clause-room c = λ level h.
    omega (
      arith,
      slot_parts c.args.space c.args.self.now c.args.slot level c.requires.kept c.requires.low c.requires.high,
      room_in_slot c.args.before.free (is_reserved (all_slots c.args.self.now.nodes) c.args.slot)
          (free_in_slot (held_in c.args.space (ledger_of c.args.self.now)) c.args.slot)
          (sym c.is_reserved.ensures ∙ c.if-not-is_reserved.false) c.requires.room level h,
    )

pub free_in_root-requires-clause-there : goal.free_in_root-requires-clause-there
free_in_root-requires-clause-there c =
    root_there c.args.space c.args.self.now.nodes c.args.slot 1 (length c.args.self.now.trees.items)
    (omega arith) c.requires.low c.requires.high c.requires.kept.trees

pub free_in_root-requires-clause-room : goal.free_in_root-requires-clause-room
free_in_root-requires-clause-room c = λ level h.
    omega (
      arith,
      slot_parts c.args.space c.args.self.now c.args.slot level c.requires.kept c.requires.low c.requires.high,
      c.free_in_root-lower.ensures.counts level h,
      room_in_slot c.args.before.free (is_reserved (all_slots c.args.self.now.nodes) c.args.slot)
          (free_in_slot (held_in c.args.space (ledger_of c.args.self.now)) c.args.slot)
          (sym c.is_reserved.ensures ∙ c.if-not-is_reserved.false) c.requires.room level h,
    )

pub returns : goal.returns
returns c =
    raised_in_slot c.args.before.free c.free_in_root.result.free
    (is_reserved (all_slots c.args.self.now.nodes) c.args.slot)
    (free_in_slot (held_in c.args.space (ledger_of c.args.self.now)) c.args.slot)
    (sym c.is_reserved.ensures ∙ c.if-not-is_reserved.false)
    (record {
      full = c.free_in_root.ensures.full ∙ c.free_in_root-lower.ensures.full;
      counts = λ level h. omega (
        arith,
        slot_parts c.args.space c.args.self.now c.args.slot level c.requires.kept c.requires.low c.requires.high,
        c.free_in_root-lower.ensures.counts level h,
        c.free_in_root.ensures.counts level h,
      );
    })

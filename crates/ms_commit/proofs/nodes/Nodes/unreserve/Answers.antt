use Rattle.std.proofs.Common.{arith}
use Rattle.std.proofs.lemmas.Nat.{row_fits}
use Rattle.ms_commit.proofs.KeepingLemmas.{slot_in_kept, kept_unreserve}
use Rattle.ms_commit.proofs.nodes.Nodes.unreserve.Goals as goal

pub remove_range-cleared-requires : goal.remove_range-cleared-requires
remove_range-cleared-requires c =
    let inside = row_fits c.args.slot c.self.inside.slot_granules 64 512 c.requires.below c.self.invariant.slot_few in
    (omega arith, (λ k low high. omega (arith, inside), omega (arith, inside)))

pub remove-requires : goal.remove-requires
remove-requires c = (omega arith, (c.requires.below, omega (arith, c.requires.below)))

pub invariant_of-self : goal.invariant_of-self
invariant_of-self c =
    let reserved =
    slot_in_kept c.self.inside c.args.self.now c.args.slot c.self.view_is c.requires.reserved c.requires.below in
    let slots = c.remove.ensures in
    let granules = c.remove_range-cleared.ensures in
    kept_unreserve c.self.inside c.remove.new.self c.remove_range-cleared.new.self c.args.slot c.remove_range-cleared.result
    c.self.invariant granules.members slots.removed (slots.counted reserved) slots.set
    granules.removed granules.set.rising granules.counted

pub overflow_sub-self-2 : goal.overflow_sub-self-2
overflow_sub-self-2 c =
    let reserved = slot_in_kept c.self.inside c.args.self.now c.args.slot c.self.view_is c.requires.reserved
    c.requires.below in
    omega (arith, c.remove.ensures.counted reserved, c.self.invariant.reserved)

use Rattle.std.proofs.Common.{cond, [], sym, ap, ◌∙◌, arith}
use Rattle.std.specs.List.{find}
use Rattle.ms_base.specs.FreeParts.{free_in_slot}
use Rattle.ms_base.proofs.free.HalvesLemmas.{size_falls}
use Rattle.ms_pool.specs.Ledger.{held_in, state_in}
use Rattle.ms_pool.specs.Keeping.{ledger_of}
use Rattle.ms_pool.specs.Searching.{first_in_slot, grants, part_at}
use Rattle.ms_pool.proofs.searches.SearchLemmas.{found_here, found_later}
use Rattle.ms_pool.proofs.searches.SlotLoopLemmas.{slot_found}
use Rattle.ms_pool.proofs.lender.Lender.lowest_in_slot.Goals as goal

pub returns-in-Some : goal.returns-in-Some
unfolding first_in_slot
returns-in-Some c =
    let lender = c.args.self.now in
    let space = c.args.wish.now.space in
    let wish = c.args.wish.now in
    let test = grants (state_in space (ledger_of lender)) wish.words wish.committed c.args.level in
    sym (ap (λ b. find test (cond b (free_in_slot (held_in space (ledger_of lender)) c.args.slot) []))
    (sym c.is_reserved.ensures ∙ c.if-is_reserved.true)
    ∙ slot_found space lender c.args.wish.now.words c.args.wish.now.committed c.args.level c.args.slot c.requires.kept
    c.args.wish.now.some c.requires.fits c.requires.low c.requires.high
    ∙ found_here _ _ _ (sym c.lowest_in_root.ensures ∙ ap (part_at c.args.level) c.in-Some.is))

pub returns-then-is_reserved : goal.returns-then-is_reserved
unfolding first_in_slot
returns-then-is_reserved c =
    let lender = c.args.self.now in
    let space = c.args.wish.now.space in
    let wish = c.args.wish.now in
    let test = grants (state_in space (ledger_of lender)) wish.words wish.committed c.args.level in
    c.lowest_in_root-then-is_reserved.ensures
    ∙ sym (ap (λ b. find test (cond b (free_in_slot (held_in space (ledger_of lender)) c.args.slot) []))
    (sym c.is_reserved.ensures ∙ c.if-is_reserved.true)
    ∙ slot_found space lender c.args.wish.now.words c.args.wish.now.committed c.args.level c.args.slot c.requires.kept
    c.args.wish.now.some c.requires.fits c.requires.low c.requires.high
    ∙ found_later _ _ (sym c.lowest_in_root.ensures ∙ ap (part_at c.args.level) c.in_default.is))

pub returns : goal.returns
unfolding first_in_slot
returns c =
    let lender = c.args.self.now in
    let space = c.args.wish.now.space in
    let wish = c.args.wish.now in
    let test = grants (state_in space (ledger_of lender)) wish.words wish.committed c.args.level in
    sym (ap (λ b. find test (cond b (free_in_slot (held_in space (ledger_of lender)) c.args.slot) []))
    (sym c.is_reserved.ensures ∙ c.if-is_reserved.false))

pub lowest_in_root-requires-clause-fits : goal.lowest_in_root-requires-clause-fits
lowest_in_root-requires-clause-fits c =
    omega (arith, c.requires.fits, size_falls 0 c.args.level (omega arith))

pub lowest_in_root-requires-then-is_reserved-clause-fits : goal.lowest_in_root-requires-then-is_reserved-clause-fits
lowest_in_root-requires-then-is_reserved-clause-fits c =
    omega (arith, c.requires.fits, size_falls 0 c.args.level (omega arith))

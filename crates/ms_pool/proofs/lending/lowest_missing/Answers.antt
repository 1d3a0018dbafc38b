use Rattle.std.proofs.Common.{◌≡◌, ◌<◌, false, length, sym, ap, ◌∙◌, arith}
use Rattle.ms_base.specs.declared.kind.Space.TheVariants.{NonClass}
use Rattle.ms_base.specs.Part.{is_reserved}
use Rattle.ms_commit.specs.Nodes.{all_slots}
use Rattle.ms_commit.proofs.NodesLemmas.{reserved_low}
use Rattle.ms_commit.proofs.MemberOrderLemmas.{length_from_full, lowest_unreserved-is}
use Rattle.ms_pool.proofs.searches.SlotLoopLemmas.{slots_are}
use Rattle.ms_pool.proofs.lending.lowest_missing.Goals as goal

pub returns-then-not-is_reserved-clause-lowest : goal.returns-then-not-is_reserved-clause-lowest
returns-then-not-is_reserved-clause-lowest c =
    let nodes = c.args.nodes.now in
    let slot = c.loop-slot.slot in
    let low : slot < 64 = omega (arith, c.loop-slot-test.true) in
    let gone : is_reserved (all_slots nodes) slot ≡ false = sym c.is_reserved.ensures ∙ c.if-not-is_reserved.true in
    sym (lowest_unreserved-is nodes.slots slot (sym (reserved_low nodes slot low) ∙ gone)
    (λ k below. sym (reserved_low nodes k (omega (arith, below, low))) ∙ c.loop-slot.invariant k below)
    (omega (
      arith,
      ap length (slots_are NonClass nodes c.requires.sound),
      length_from_full (is_reserved (all_slots nodes)) slot 64 (omega (arith, low)) c.loop-slot.invariant,
    )))

pub returns : goal.returns
returns c =
    let nodes = c.args.nodes.now in
    absurd (omega (
      arith,
      ap length (slots_are NonClass nodes c.requires.sound),
      c.requires.few,
      c.requires.left,
      length_from_full (is_reserved (all_slots nodes)) 64 64 (omega arith)
          (λ k below. c.loop-slot.invariant k (omega (arith, below, c.loop-slot-test.false))),
    ))

use Rattle.std.proofs.Common.{◌≡◌, ◌+◌, ◌/◌, arith, refl, rules, subst, ℕ}
use Rattle.std.specs.Prelude.{nat_le}
use Rattle.ms_pool.proofs.maps.FoundLemmas.{AreUpTo, all_noted}
use Rattle.ms_pool.proofs.mapping.note.Goals as goal

pub returns : goal.returns
returns c =
    let words = c.words-words.result in
    let all : c.loop-number.number ≡ (c.args.part.start + c.words-words.result + 8191) / 8192 =
    omega (arith, c.loop-number-test.false, c.loop-number.auto.number-end) in
    all_noted c.args.part words (c.args.part.start / 8192) ((c.args.part.start + words + 8191) / 8192)
    c.args.found.now.lent c.args.found.now.free c.loop-number.found.lent c.loop-number.found.free c.requires.placed
    c.words-words.ensures.size refl refl
    (subst (λ (end : ℕ). AreUpTo (nat_le 8192 words) (c.args.part.start / 8192) end c.args.found.now.lent
    c.args.found.now.free c.loop-number.found.lent c.loop-number.found.free) all c.loop-number.invariant)

pub loop-number-preserved : goal.loop-number-preserved
loop-number-preserved c = search rules

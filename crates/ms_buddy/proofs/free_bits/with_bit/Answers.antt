use Rattle.std.proofs.Common.{Bool, ◌∙◌, ap, cond, sym, w64}
use Rattle.std.proofs.lemmas.Nat.Bits.{bit_at_set_same, bit_at_set_other, bit_at_clear_same, bit_at_clear_other}
use Rattle.ms_buddy.proofs.free_bits.with_bit.Goals as goal

pub returns-then-set-clause-here : goal.returns-then-set-clause-here
returns-then-set-clause-here c =
    bit_at_set_same w64 c.args.word c.args.position c.requires ∙ sym (ap (λ (b : Bool). cond b 1 0) c.if-set.true)

pub returns-then-set-clause-others : goal.returns-then-set-clause-others
returns-then-set-clause-others c other low differs = bit_at_set_other w64 c.args.word c.args.position c.requires other differs

pub returns-clause-here : goal.returns-clause-here
returns-clause-here c =
    bit_at_clear_same w64 c.args.word c.args.position c.requires ∙ sym (ap (λ (b : Bool). cond b 1 0) c.if-set.false)

pub returns-clause-others : goal.returns-clause-others
returns-clause-others c other low differs =
    bit_at_clear_other w64 c.args.word c.args.position c.requires other low differs

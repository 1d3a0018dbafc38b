use Rattle.std.proofs.Common.{◌≡◌, ◌&&◌, ◌||◌, true, false, refl, get_or, ap, ◌∙◌, arith}
use Rattle.std.specs.Prelude.{nat_le, nat_lt}
use Rattle.ms_commit.specs.Mask.{is_one}
use Rattle.ms_commit.proofs.MaskLemmas.{is_one-or, changed_more}
use Rattle.ms_commit.proofs.mask.set_bits.Goals as goal

pub loop-index-preserved : goal.loop-index-preserved
loop-index-preserved c =
    let word = get_or c.loop-index.words c.loop-index.index 0 in
    changed_more (λ a b. a || b)
    (λ k. nat_le c.args.first k && nat_lt k c.args.end) c.args.words.now c.loop-index.words c.loop-index.index _
    (λ b. elim b as (λ v. (v || false) ≡ v) [ true ↦ refl | false ↦ refl ]) (omega arith)
    (λ position within. is_one-or word c.bits_between.result position
    ∙ ap (λ b. is_one word position || b) (c.bits_between.ensures position within))
    c.loop-index.invariant

use Rattle.std.proofs.Common.{◌≡◌, ℕ, ◌+◌, ◌-◌, ◌<◌, min, ◌&&◌, ◌∙◌, ap, ap₂, arith}
use Rattle.std.specs.Prelude.{nat_le, nat_lt}
use Rattle.std.proofs.lemmas.Bool.Decides.{nat_tests}
use Rattle.ms_commit.proofs.MaskLemmas.{is_one-between}
use Rattle.ms_commit.proofs.mask.bits_between.Goals as goal

-- The positions of a range in a word are the range moved down and cut off at the word's ends.
cut_to_word : (first end base position : ℕ) → position < 64
    → (nat_le (min (first - base) 64) position && nat_lt position (min (end - base) 64))
    ≡ (nat_le first (base + position) && nat_lt (base + position) end)
cut_to_word first end base position within = grind (arith, nat_tests)

pub returns-then-low-high : goal.returns-then-low-high
returns-then-low-high c position within =
    let low = c.min-low.ensures ∙ ap (λ n. min n 64) c.saturating_sub.ensures in
    let high = c.min-high.ensures ∙ ap (λ n. min n 64) c.saturating_sub-2.ensures in
    is_one-between c.min-low.result c.min-high.result position (omega arith) (omega arith) within
    ∙ ap₂ (λ a b. nat_le a position && nat_lt position b) low high
    ∙ cut_to_word c.args.first c.args.end c.args.base position within

use Rattle.std.proofs.Common.{◌≡◌, ◌/◌, ◌%◌, false, get_or, sym, ap, ◌∙◌, arith}
use Rattle.std.specs.Prelude.{◌==◌, nat_lt}
use Rattle.std.proofs.lemmas.Bool.Decides.{nat_tests}
use Rattle.std.proofs.lemmas.Nat.Bits.{shr_and_one}
use Rattle.ms_base.specs.Committed.{is_among}
use Rattle.ms_commit.proofs.MaskLemmas.{is_among-members, is_set-past}
use Rattle.ms_commit.proofs.mask.Mask.contains.Goals as goal

pub returns-then-index : goal.returns-then-index
returns-then-index g c =
    ap (λ bit. bit == 1) (shr_and_one (get_or c.self.inside.words (c.args.number / 64) 0) (c.args.number % 64))
    ∙ sym (is_among-members c.self.inside.words c.args.number)
    ∙ ap (λ members. is_among members c.args.number) c.self.view_is

pub returns-else-index : goal.returns-else-index
returns-else-index g c =
    past
    ∙ sym (is_set-past c.self.inside.words c.args.number (omega arith))
    ∙ sym (is_among-members c.self.inside.words c.args.number)
    ∙ ap (λ members. is_among members c.args.number) c.self.view_is
  where
    past : nat_lt (c.args.number / 64) g.row.WORDS ≡ false
    past = let over = c.if-index.false in grind (arith, nat_tests)

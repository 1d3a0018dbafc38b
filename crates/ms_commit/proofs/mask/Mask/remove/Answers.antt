use Rattle.std.proofs.Common.{◌≡◌, ℕ, ◌+◌, List, true, length, ap, ◌∙◌, subst, arith}
use Rattle.ms_base.specs.Committed.{is_among}
use Rattle.ms_commit.specs.NumberSet.{without_number}
use Rattle.ms_commit.specs.Mask.{members_of}
use Rattle.ms_commit.proofs.MemberLemmas.{members_remove, counted_without, count_within-one, IsSetBelow-members}
use Rattle.ms_commit.proofs.mask.Mask.remove.Goals as goal

pub returns-clause-removed : goal.returns-clause-removed
returns-clause-removed g c =
    members_remove c.self.inside.words c.clear_bits.new.words c.args.number
    (c.clear_bits.auto.words, c.clear_bits.ensures.cleared)
    ∙ ap (λ members. without_number members c.args.number) c.self.view_is

pub returns-clause-counted : goal.returns-clause-counted
returns-clause-counted g c =
    let IsCounted : List ℕ → Type 0 = λ members.
    is_among members c.args.number ≡ true → length (members_of c.clear_bits.new.words) + 1 ≡ length members in
    subst IsCounted c.self.view_is (λ member. omega (
      arith,
      counted_without c.self.inside.words c.clear_bits.new.words c.args.number 1
          (λ k low high. omega (arith, c.self.told, c.requires.within)) (c.clear_bits.auto.words, c.clear_bits.ensures.cleared),
      count_within-one (members_of c.self.inside.words) c.args.number true member,
    ))

pub returns-clause-set : goal.returns-clause-set
returns-clause-set g c = IsSetBelow-members c.clear_bits.new.words g.row.WORDS (c.clear_bits.auto.words ∙ c.self.told)

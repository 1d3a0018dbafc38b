use Rattle.std.proofs.Common.{◌≡◌, ℕ, ◌+◌, List, length, ap, ◌∙◌, subst, arith}
use Rattle.ms_commit.specs.NumberSet.{with_range, count_within}
use Rattle.ms_commit.specs.Mask.{members_of}
use Rattle.ms_commit.proofs.MemberLemmas.{members_with, counted_with, IsSetBelow-members}
use Rattle.ms_commit.proofs.mask.Mask.insert_range.Goals as goal

pub returns-clause-added : goal.returns-clause-added
returns-clause-added g c =
    members_with c.self.inside.words c.set_bits.new.words c.args.first c.args.count
    (λ k low high. omega (arith, c.requires.within k low high, c.self.told))
    (c.set_bits.auto.words, c.set_bits.ensures)
    ∙ ap (λ members. with_range members c.args.first c.args.count) c.self.view_is

pub returns-clause-counted : goal.returns-clause-counted
returns-clause-counted g c =
    let IsCounted : List ℕ → Type 0 = λ members.
    length (members_of c.set_bits.new.words) + count_within members c.args.first c.args.count
    ≡ length members + c.args.count in
    subst IsCounted c.self.view_is
    (counted_with c.self.inside.words c.set_bits.new.words c.args.first c.args.count
    (λ k low high. omega (arith, c.requires.within k low high, c.self.told))
    (c.set_bits.auto.words, c.set_bits.ensures))

pub returns-clause-set : goal.returns-clause-set
returns-clause-set g c = IsSetBelow-members c.set_bits.new.words g.row.WORDS (c.set_bits.auto.words ∙ c.self.told)

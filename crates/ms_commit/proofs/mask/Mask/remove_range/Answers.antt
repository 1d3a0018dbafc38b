use Rattle.std.proofs.Common.{◌≡◌, ℕ, ◌+◌, List, length, ap, ◌∙◌, subst, arith}
use Rattle.ms_commit.specs.NumberSet.{without_range, count_within}
use Rattle.ms_commit.specs.Mask.{members_of}
use Rattle.ms_commit.proofs.MemberLemmas.{range_counted, members_without, counted_without, IsSetBelow-members}
use Rattle.ms_commit.proofs.mask.Mask.remove_range.Goals as goal

pub returns-clause-members : goal.returns-clause-members
returns-clause-members g c =
    c.clear_bits.ensures.count ∙ range_counted c.self.inside.words _ c.args.first c.args.count c.self.view_is

pub returns-clause-removed : goal.returns-clause-removed
returns-clause-removed g c =
    members_without c.self.inside.words c.clear_bits.new.words c.args.first c.args.count
    (c.clear_bits.auto.words, c.clear_bits.ensures.cleared)
    ∙ ap (λ members. without_range members c.args.first c.args.count) c.self.view_is

pub returns-clause-counted : goal.returns-clause-counted
returns-clause-counted g c =
    let IsCounted : List ℕ → Type 0 = λ members.
    length (members_of c.clear_bits.new.words) + count_within members c.args.first c.args.count ≡ length members in
    subst IsCounted c.self.view_is
    (counted_without c.self.inside.words c.clear_bits.new.words c.args.first c.args.count
    (λ k low high. omega (arith, c.requires.within k low high, c.self.told))
    (c.clear_bits.auto.words, c.clear_bits.ensures.cleared))

pub returns-clause-set : goal.returns-clause-set
returns-clause-set g c = IsSetBelow-members c.clear_bits.new.words g.row.WORDS (c.clear_bits.auto.words ∙ c.self.told)

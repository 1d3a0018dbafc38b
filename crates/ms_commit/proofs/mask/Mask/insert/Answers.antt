use Rattle.std.proofs.Common.{◌≡◌, ℕ, ◌+◌, List, false, length, ap, ◌∙◌, subst, arith}
use Rattle.std.specs.Ordering.{nat_cmp}
use Rattle.std.specs.BTreeSet.{insert_key}
use Rattle.ms_base.specs.Committed.{is_among}
use Rattle.ms_commit.specs.Mask.{members_of}
use Rattle.ms_commit.proofs.MemberLemmas.{members_insert, counted_with, count_within-one, IsSetBelow-members}
use Rattle.ms_commit.proofs.mask.Mask.insert.Goals as goal

pub returns-clause-added : goal.returns-clause-added
returns-clause-added g c =
    members_insert c.self.inside.words c.set_bits.new.words c.args.number
    (omega (arith, c.self.told, c.requires.within)) (c.set_bits.auto.words, c.set_bits.ensures)
    ∙ ap (λ members. insert_key nat_cmp members c.args.number) c.self.view_is

pub returns-clause-counted : goal.returns-clause-counted
returns-clause-counted g c =
    let IsCounted : List ℕ → Type 0 = λ members.
    is_among members c.args.number ≡ false → length (members_of c.set_bits.new.words) ≡ length members + 1 in
    subst IsCounted c.self.view_is (λ missing. omega (
      arith,
      counted_with c.self.inside.words c.set_bits.new.words c.args.number 1
          (λ k low high. omega (arith, c.self.told, c.requires.within)) (c.set_bits.auto.words, c.set_bits.ensures),
      count_within-one (members_of c.self.inside.words) c.args.number false missing,
    ))

pub returns-clause-set : goal.returns-clause-set
returns-clause-set g c = IsSetBelow-members c.set_bits.new.words g.row.WORDS (c.set_bits.auto.words ∙ c.self.told)

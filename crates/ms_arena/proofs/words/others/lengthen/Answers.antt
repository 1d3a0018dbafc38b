-- Each group has the number that it had.
use Rattle.std.proofs.Common.{◌≡◌, ℕ, arith, slice_index_or}
use Rattle.std.proofs.lemmas.Grind.{common_steps}
use Rattle.ms_arena.proofs.OthersLemmas.{same_groups}
use Rattle.ms_arena.proofs.words.others.lengthen.Goals as goal

pub returns-clause-groups : goal.returns-clause-groups
returns-clause-groups c =
    let same : (group : ℕ) → slice_index_or c.resize.new.self.items group 0
    ≡ slice_index_or c.args.numbers.now.items group 0 = λ group. grind (arith, common_steps) in
    same_groups c.args.numbers.now.items c.resize.new.self.items c.args.positions.now same c.requires.groups

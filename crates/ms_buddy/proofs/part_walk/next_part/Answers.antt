-- Each turn leaves what was left, or answers its first part.
use Rattle.std.proofs.Common.{◌<◌, length, arith, sym, ◌∙◌}
use Rattle.ms_base.specs.Level.{root_words}
use Rattle.ms_buddy.specs.Leaves.{free_of}
use Rattle.ms_buddy.proofs.searches.FoundLemmas.{alike}
use Rattle.ms_buddy.specs.Leaves.{span_at}
use Rattle.ms_buddy.proofs.searches.RowLemmas.{IsNext, fewer_after, fewer_halved, halved, next_of, row_end}
use Rattle.ms_buddy.proofs.part_walk.next_part.Given.{Over}
use Rattle.ms_buddy.proofs.part_walk.next_part.Goals as goal
use Rattle.ms_buddy.proofs.part_walk.next_part.Goals.{In-Some}

-- The part that is visited.
turn : (g : Over) (c : In-Some g)
    → IsNext 0 root_words c.pop.new.self.items c.in-Some.level c.loop-level.at (free_of c.args.table.now)
turn g c = next_of c.loop-level.levels.items c.pop.new.self.items c.in-Some.level c.loop-level.at
    (free_of c.args.table.now) c.in-Some.ensures.items c.loop-level.invariant.0

pub look-requires-clause-of_root : goal.look-requires-clause-of_root
look-requires-clause-of_root g c = (turn g (goal.at.look-requires-clause-of_root g c).In-Some).of_root

pub look-requires-clause-within : goal.look-requires-clause-within
look-requires-clause-within g c = (turn g (goal.at.look-requires-clause-within g c).In-Some).within

pub words_of-requires : goal.words_of-requires
words_of-requires g c = (turn g (goal.at.words_of-requires g c).In-Some).of_root.level_fits

pub overflow_add-at : goal.overflow_add-at
overflow_add-at g c =
    omega (arith, (turn g (goal.at.overflow_add-at g c).In-Some).of_root.in_root, c.words_of.ensures.size)

pub part-requires : goal.part-requires
part-requires g c = (turn g (goal.at.part-requires g c).In-Some).of_root.level_fits

pub returns-in-Free-clause-row : goal.returns-in-Free-clause-row
returns-in-Free-clause-row g c =
    rw c.words_of.ensures.size (turn g (goal.at.returns-in-Free-clause-row g c).In-Some).rest

pub words_of-requires-in-Lent : goal.words_of-requires-in-Lent
words_of-requires-in-Lent g c = (turn g (goal.at.words_of-requires-in-Lent g c).In-Some).of_root.level_fits

pub overflow_add-at-in-Lent : goal.overflow_add-at-in-Lent
overflow_add-at-in-Lent g c =
    omega (arith, (turn g (goal.at.overflow_add-at-in-Lent g c).In-Some).of_root.in_root, c.words_of-in-Lent.ensures.size)

pub loop-level-smaller-in-Lent : goal.loop-level-smaller-in-Lent
loop-level-smaller-in-Lent g c =
    rw c.in-Some.ensures.items (fewer_after c.pop.new.self.items c.in-Some.level)

pub loop-level-preserved-in-Lent : goal.loop-level-preserved-in-Lent
loop-level-preserved-in-Lent g c =
    rw c.words_of-in-Lent.ensures.size (
      (turn g (goal.at.loop-level-preserved-in-Lent g c).In-Some).rest,
      sym (rw c.in-Lent.is at c.look.ensures) ∙ c.loop-level.invariant.1,
    )

pub push-requires : goal.push-requires
push-requires g c =
    let next = turn g (goal.at.push-requires g c).In-Some in
    let split = rw c.in-Split.is at c.look.ensures in
    let room : length c.pop.new.self.items < 13 = omega (arith, next.low, split.0) in
    (omega arith, room)

pub push-requires-in-Split : goal.push-requires-in-Split
push-requires-in-Split g c =
    let next = turn g (goal.at.push-requires-in-Split g c).In-Some in
    let split = rw c.in-Split.is at c.look.ensures in
    let room : length c.push.new.self.items < 13 = omega (arith, next.low, split.0, c.push.ensures.len) in
    (omega arith, room)

pub loop-level-smaller : goal.loop-level-smaller
loop-level-smaller g c =
    let split = rw c.in-Split.is at c.look.ensures in
    rw (c.in-Some.ensures.items, c.push-in-Split.ensures.items, c.push.ensures.items)
    (fewer_halved c.pop.new.self.items c.in-Some.level split.0)

pub loop-level-preserved : goal.loop-level-preserved
loop-level-preserved g c =
    let split = rw c.in-Split.is at c.look.ensures in (
      rw (c.push-in-Split.ensures.items, c.push.ensures.items)
          (halved c.pop.new.self.items c.in-Some.level c.loop-level.at (free_of c.args.table.now)
          (turn g (goal.at.loop-level-preserved g c).In-Some) split.0 split.1),
      c.loop-level.invariant.1,
    )

pub returns-in-Free-clause-next : goal.returns-in-Free-clause-next
returns-in-Free-clause-next g c =
    let same = alike c.part.result (span_at c.loop-level.at c.in-Some.level) c.part.ensures.start c.part.ensures.level in
    sym c.loop-level.invariant.1 ∙ rw (same, c.words_of.ensures.size) (rw c.in-Free.is at c.look.ensures)

pub returns-clause-next : goal.returns-clause-next
returns-clause-next g c =
    let none = row_end c.loop-level.levels.items c.loop-level.at c.args.table.now c.in_default.ensures.variant.1
    c.loop-level.invariant.0 in
    (sym c.loop-level.invariant.1 ∙ none, none)

use Rattle.std.proofs.Common.{◌≡◌, ◌-◌, ◌++◌, ◌∙◌, List, ℕ, ap, arith, replicate, take_all}
use Rattle.std.specs.Prelude.{vec_len}
use Rattle.ms_arena.proofs.CountLemmas.{counted_all, counted_none}
use Rattle.ms_arena.proofs.words.pages.lengthen_counts.Goals as goal
use Rattle.ms_arena.proofs.words.pages.lengthen_counts.Goals.{In_ok-resize}

-- The counts that there were, and then as many of the one as are wanting.
longer : (c : In_ok-resize) → c.resize.new.self.items
    ≡ c.args.counts.now.items ++ replicate (c.args.groups - vec_len c.args.counts.now) c.args.count
longer c = c.in_ok-resize.ensures.items
    ∙ ap (λ (counts : List ℕ). counts ++ replicate (c.args.groups - vec_len c.args.counts.now) c.args.count)
    (take_all _ c.args.counts.now.items (omega (arith, c.if-groups-len.false, c.len.ensures, c.args.counts.now.ok)))

pub returns-clause-all : goal.returns-clause-all
returns-clause-all c = λ pages all are. rw (longer (goal.at.returns-clause-all c).In_ok-resize, all)
    (counted_all pages c.args.counts.now.items (c.args.groups - vec_len c.args.counts.now) are)

pub returns-clause-none : goal.returns-clause-none
returns-clause-none c = λ pages few are. rw (longer (goal.at.returns-clause-none c).In_ok-resize)
    (counted_none pages c.args.counts.now.items (c.args.groups - vec_len c.args.counts.now) c.args.count are few)

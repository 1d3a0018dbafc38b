use Rattle.std.proofs.Common.{◌/◌, ◌∙◌, arith}
use Rattle.std.proofs.lemmas.Bool.{eqb-true}
use Rattle.ms_arena.proofs.CountLemmas.{count_is, none_written}
use Rattle.ms_arena.proofs.words.pages.Pages.has_none_written.Goals as goal

pub returns : goal.returns
returns c = λ yes number low high. rw (← c.self.view_is)
    (none_written c.self.inside.pages.items c.self.inside.counts.items c.args.first c.args.past c.self.invariant.1
    (count_is c.self.inside.counts.items (c.args.first / 64) c.index.result.now
    (omega (arith, c.if-group-len.false, c.len.ensures, c.self.inside.counts.ok)) c.index.ensures
    ∙ eqb-true c.index.result.now 0 yes)
    (omega (arith, c.if-saturating_sub-group.false, c.saturating_sub.ensures)) number low high)

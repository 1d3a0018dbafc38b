use Rattle.std.proofs.Common.{◌∙◌, ap, ◌%◌, ◌+◌}
use Rattle.ms_arena.proofs.PagesLemmas.{write_leaves}
use Rattle.ms_arena.proofs.words.pages.Pages.write.Goals as goal

pub returns-clause-others : goal.returns-clause-others
returns-clause-others c = λ other differ.
    write_leaves _ c.touch.new.self _ _ c.args.at _ c.args.value other c.index.result.now c.self.invariant.0
    c.self.view_is
    c.touch.ensures.written c.index.ensures (ap (λ base. base + c.args.at % 512) c.base_of-base.ensures) differ
    ∙ c.touch.ensures.words other

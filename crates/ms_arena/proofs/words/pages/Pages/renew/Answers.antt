use Rattle.ms_arena.proofs.PageMakeLemmas.{renewed}
use Rattle.ms_arena.proofs.words.pages.Pages.renew.Goals as goal

pub returns-clause-words : goal.returns-clause-words
returns-clause-words c =
    renewed _ c.args.self.now _ _ c.args.number c.base_of-base.result c.index-page.result.now _ c.self.invariant.0
    c.self.view_is c.requires.there c.requires.placed c.requires.unwritten c.index-page.ensures c.base_of-base.ensures
    c.wipe.ensures.zero c.wipe.ensures.before c.wipe.ensures.after

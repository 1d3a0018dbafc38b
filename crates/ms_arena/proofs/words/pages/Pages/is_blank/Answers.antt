use Rattle.std.proofs.Common.{◌∙◌, sym}
use Rattle.std.specs.Prelude.{vec_len}
use Rattle.std.proofs.lemmas.Bool.{eqb-true}
use Rattle.ms_arena.proofs.PageMakeLemmas.{blank}
use Rattle.ms_arena.proofs.words.pages.Pages.is_blank.Goals as goal

pub returns : goal.returns
returns c = λ yes at. rw (← c.self.view_is)
    (blank _ _ _ c.self.invariant.0
    (sym c.self.inside.store.ok.0 ∙ eqb-true (vec_len c.self.inside.store) 0 (sym c.is_empty.ensures ∙ yes)) at)

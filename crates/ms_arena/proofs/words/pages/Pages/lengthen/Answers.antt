use Rattle.std.proofs.Common.{◌≡◌, ◌<◌, ◌≤◌, ◌-◌, ◌+◌, ◌++◌, ◌∙◌, ℕ}
use Rattle.std.proofs.Common.{List, length, replicate, sym, subst, ap, arith, take_all}
use Rattle.std.specs.Prelude.{vec_len}
use Rattle.ms_arena.specs.declared.words.pages.Page.{Page}
use Rattle.ms_arena.specs.Pages.{PagesView, no_page}
use Rattle.ms_arena.proofs.PagesLemmas.{longer}
use Rattle.ms_arena.proofs.CountLemmas.{counted_longer}
use Rattle.ms_arena.proofs.words.pages.Pages.lengthen.Goals as goal

pub invariant_of-self : goal.invariant_of-self
invariant_of-self c =
    let past : length c.self.inside.pages.items ≤ c.args.number =
    subst (λ (words : PagesView). length words.pages ≤ c.args.number) (sym c.self.view_is) c.requires.past in
    let within : c.args.number < c.self.inside.room =
    subst (λ (words : PagesView). c.args.number < words.room) (sym c.self.view_is) c.requires.within in
    let same : c.resize.new.self.items
    ≡ c.self.inside.pages.items ++ replicate (c.args.number + 1 - length c.self.inside.pages.items) no_page =
    c.in-Ok.ensures.items
    ∙ ap (λ (pages : List Page). pages ++ replicate (c.args.number + 1 - vec_len c.self.inside.pages) no_page)
    (take_all _ c.self.inside.pages.items (omega (arith, past)))
    ∙ ap (λ (n : ℕ). c.self.inside.pages.items ++ replicate (c.args.number + 1 - n) no_page)
    c.self.inside.pages.ok.0 in
    rw same (
      longer _ _ _ _ (c.args.number + 1 - length c.self.inside.pages.items) c.self.invariant.0
          (omega (arith, past, within)) (omega (arith, c.self.invariant.0.pages_room, c.in-Ok.ensures.capacity)),
      counted_longer _ _ (c.args.number + 1 - length c.self.inside.pages.items) c.self.invariant.1,
    )

use Rattle.std.proofs.Common.{◌≡◌, ◌<◌, length, sym, subst, arith}
use Rattle.ms_arena.specs.Pages.{PagesView, page_at}
use Rattle.ms_arena.proofs.PagesLemmas.{has_room}
use Rattle.ms_arena.proofs.PageMakeLemmas.{appended}
use Rattle.ms_arena.proofs.words.pages.Pages.append.Goals as goal

pub unreachable-requires : goal.unreachable-requires
unreachable-requires c =
    let room = has_room _ _ _ c.args.number c.self.invariant.0
    (subst (λ (words : PagesView). c.args.number < length words.pages) (sym c.self.view_is) c.requires.there)
    (subst (λ (words : PagesView). (page_at words.pages c.args.number).position ≡ 0) (sym c.self.view_is)
    c.requires.unstored) in
    omega (arith, room, c.in-Err.ensures.full, c.len-len.ensures, c.self.inside.store.ok.0)

pub invariant_of-self : goal.invariant_of-self
invariant_of-self c = (
  appended _ _ _ _ c.args.number _ c.resize.new.self.items c.self.invariant.0
      (subst (λ (words : PagesView). c.args.number < length words.pages) (sym c.self.view_is) c.requires.there)
      (subst (λ (words : PagesView). (page_at words.pages c.args.number).position ≡ 0) (sym c.self.view_is)
      c.requires.unstored)
      (omega (arith, c.len-len.ensures, c.self.inside.store.ok))
      (omega (arith, c.in-Ok.ensures.len, c.resize.new.self.ok, c.len-len.ensures, c.self.inside.store.ok))
      c.resize.ensures.capacity,
  c.count_up.ensures c.self.inside.pages.items _ c.self.invariant.1,
)

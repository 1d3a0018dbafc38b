use Rattle.std.proofs.Common.{◌≡◌, ◌/◌, ◌%◌, ◌≤◌, ◌<◌, ◌∙◌, ℕ, ap, arith, refl, sym}
use Rattle.ms_arena.specs.Pages.{word_at}
use Rattle.std.proofs.lemmas.Grind.{common_steps}
use Rattle.ms_arena.specs.declared.words.pages.Page.{Page}
use Rattle.ms_arena.proofs.PagesLemmas.{part_leaves, was_written}
use Rattle.ms_arena.proofs.PageMakeLemmas.{Lies, lies, marked}
use Rattle.ms_arena.proofs.words.pages.Pages.clear_in.Goals as goal
use Rattle.ms_arena.proofs.words.pages.Pages.clear_in.Goals.{Else-not-page, After-wipe}

-- A page that was written lies in the store.
page_lies : (c : Else-not-page)
    → let f = c.self.inside in
    Lies (record { pages = f.pages.items; store = f.store.items; room = f.room }) c.args.number c.index-page.result.now
page_lies c =
    lies _ c.args.self.now _ _ c.args.number c.index-page.result.now c.self.invariant.0 c.self.view_is
    c.requires.there c.index-page.ensures (was_written c.index-page.result.now.written c.if-not-page.false)

-- What a part of it that was wiped leaves.
left : (c : After-wipe) (at : ℕ)
    → (at / 512 ≡ c.args.number → c.saturating_sub-first.result ≤ at % 512 → at % 512 < c.min-last.result → ⊥)
    → let f = c.self.inside in
    word_at (record { pages = f.pages.items; store = c.wipe.new.store.items; room = f.room }) at ≡ word_at c.args.self.now at
left c =
    part_leaves _ c.args.self.now _ _ c.args.number c.base_of-base.result c.saturating_sub-first.result c.min-last.result
    c.index-page.result.now _ c.self.invariant.0 c.self.view_is c.requires.there c.index-page.ensures
    (was_written c.index-page.result.now.written c.if-not-page.false) c.base_of-base.ensures
    (omega (arith, c.min-last.ensures)) c.wipe.ensures.before c.wipe.ensures.after

pub returns-else-first-eq0-clause-others : goal.returns-else-first-eq0-clause-others
returns-else-first-eq0-clause-others c = λ at other.
    left (goal.at.returns-else-first-eq0-clause-others c).After-wipe at (λ same low high. other same)

pub returns-else-first-eq0-clause-before : goal.returns-else-first-eq0-clause-before
returns-else-first-eq0-clause-before c = λ at before.
    left (goal.at.returns-else-first-eq0-clause-before c).After-wipe at (λ same low high.
    absurd (omega (arith, before, same, low, c.saturating_sub-first.ensures)))

pub returns-else-first-eq0-clause-after : goal.returns-else-first-eq0-clause-after
returns-else-first-eq0-clause-after c = λ at after.
    left (goal.at.returns-else-first-eq0-clause-after c).After-wipe at (λ same low high.
    absurd (omega (arith, after, same, high, c.min-last.ensures)))

pub base_of-base-requires-clause-placed : goal.base_of-base-requires-clause-placed
base_of-base-requires-clause-placed c =
    (page_lies (goal.at.base_of-base-requires-clause-placed c).Else-not-page).some

pub base_of-base-requires-clause-fits : goal.base_of-base-requires-clause-fits
base_of-base-requires-clause-fits c =
    omega (arith, (page_lies (goal.at.base_of-base-requires-clause-fits c).Else-not-page).within, c.self.inside.store.ok)

pub overflow_add-base-else-first-eq0 : goal.overflow_add-base-else-first-eq0
overflow_add-base-else-first-eq0 c =
    omega (arith, (page_lies (goal.at.overflow_add-base-else-first-eq0 c).Else-not-page).some, (page_lies (goal.at.overflow_add-base-else-first-eq0 c).Else-not-page).within, c.self.inside.store.ok, c.base_of-base.ensures, c.min-last.ensures)

pub wipe-requires-clause-within : goal.wipe-requires-clause-within
wipe-requires-clause-within c =
    omega (arith, (page_lies (goal.at.wipe-requires-clause-within c).Else-not-page).some, (page_lies (goal.at.wipe-requires-clause-within c).Else-not-page).within, c.base_of-base.ensures, c.min-last.ensures)

pub invariant_of-self : goal.invariant_of-self
invariant_of-self c =
    let lies = page_lies (goal.at.invariant_of-self c).Else-not-page in (
      marked _ _ _ c.args.number _ c.self.invariant.0 lies.there (ap (λ (page : Page). page.position) (sym lies.is)) lies.some,
      c.count_down.ensures c.self.inside.pages.items _ c.self.invariant.1
          (ap (λ (page : Page). page.written) lies.is
          ∙ was_written c.index-page.result.now.written (goal.at.invariant_of-self c).Else-not-page.if-not-page.false) refl,
    )

pub returns-then-not-page-clause-zero : goal.returns-then-not-page-clause-zero
returns-then-not-page-clause-zero c = grind (arith, common_steps)

pub returns-else-first-eq0-clause-zero : goal.returns-else-first-eq0-clause-zero
returns-else-first-eq0-clause-zero c = grind (arith, common_steps)

-- Pages once one is made or has its room. For the calls of `pages` that make them.
use Rattle.std.proofs.Common.{◌≡◌, ℕ, ◌+◌, ◌*◌, ◌/◌, ◌%◌, ◌<◌, ◌≤◌, Bool, true, false, cond, List, [], ◌∷◌}
use Rattle.std.proofs.Common.{length, get_or, refl, sym}
use Rattle.std.proofs.Common.{ap, ◌∙◌, inl, inr, arith, get_or-set_other}
use Rattle.std.proofs.Common.{get_or-set_same, length-set, subst, zero, suc}
use Rattle.std.specs.Prelude.{nat_lt, slice_set}
use Rattle.std.specs.List.{count_by}
use Rattle.std.proofs.lemmas.Bool.{cases_eq, lt-ltb}
use Rattle.ms_arena.specs.declared.words.pages.Page.{Page}
use Rattle.ms_arena.specs.Pages.{PagesView, ArePages, word_at, word_in, page_at, base_of, is_stored, no_page}
use Rattle.ms_arena.proofs.PagesLemmas.{one_if_stored, counted, outside, page_is}

-- A page that was cleared may be zeroed and marked as written.
pub renewed : (words was : PagesView) (pages_capacity store_capacity number base : ℕ) (page : Page) (store : List ℕ)
    → ArePages words pages_capacity store_capacity → words ≡ was → number < length was.pages
    → 0 < (page_at was.pages number).position → (page_at was.pages number).written ≡ false
    → page ≡ get_or words.pages number page → base ≡ base_of page
    → ((k : ℕ) → base ≤ k → k < base + 512 → get_or store k 0 ≡ 0)
    → ((k : ℕ) → k < base → get_or store k 0 ≡ get_or words.store k 0)
    → ((k : ℕ) → base + 512 ≤ k → get_or store k 0 ≡ get_or words.store k 0) → (at : ℕ)
    → word_at (record words {
      pages = slice_set words.pages number (record { position = page.position; written = true });
      store = store;
    }) at ≡ word_at was at
renewed words was pages_capacity store_capacity number base page store are same there some clear page_found base_is
    zeros
    before after at =
    elim (cases_eq (at / 512) number) [
      | inl here ↦ ap (λ (page : Page). word_in store page (at % 512)) (fresh_here here)
          ∙ zeros (base_of page + at % 512) (omega (arith, base_is)) (omega (arith, base_is))
          ∙ sym (ap (λ (number : ℕ). word_in words.store (page_at words.pages number) (at % 512)) here
          ∙ ap (λ b. cond b (get_or words.store (base_of (page_at words.pages number) + at % 512) 0) 0) clear_here)
      | inr differ ↦ ap (λ (page : Page). word_in store page (at % 512)) (as_it_was differ)
          ∙ outside words pages_capacity store_capacity store number base (base + 512) are some_here
          (omega (arith, position))
          (omega (arith, position)) before after at (λ here low high. differ here)
    ]
    ∙ ap (λ (words : PagesView). word_at words at) same
  where
    fresh : Page
    fresh = record { position = page.position; written = true }

    within : number < length words.pages
    within = subst (λ (words : PagesView). number < length words.pages) (sym same) there

    some_here : 0 < (page_at words.pages number).position
    some_here = subst (λ (words : PagesView). 0 < (page_at words.pages number).position) (sym same) some

    clear_here : (page_at words.pages number).written ≡ false
    clear_here = subst (λ (words : PagesView). (page_at words.pages number).written ≡ false) (sym same) clear

    position : base ≡ base_of (page_at words.pages number)
    position = base_is ∙ ap (λ (page : Page). base_of page) (sym (page_is words.pages number page within page_found))

    fresh_here : at / 512 ≡ number → page_at (slice_set words.pages number fresh) (at / 512) ≡ fresh
    fresh_here here =
        ap (page_at (slice_set words.pages number fresh)) here ∙ get_or-set_same words.pages number fresh no_page within

    as_it_was : (at / 512 ≡ number → ⊥)
        → page_at (slice_set words.pages number fresh) (at / 512) ≡ page_at words.pages (at / 512)
    as_it_was differ = get_or-set_other words.pages number (at / 512) fresh no_page differ

-- Where nothing is stored all words are 0.
pub blank : (words : PagesView) (pages_capacity store_capacity : ℕ) → ArePages words pages_capacity store_capacity
    → length words.store ≡ 0 → (at : ℕ) → word_at words at ≡ 0
blank words pages_capacity store_capacity are empty at =
    elim (page_at words.pages (at / 512)).written as (λ b. (page_at words.pages (at / 512)).written ≡ b
    → cond b (get_or words.store (base_of (page_at words.pages (at / 512)) + at % 512) 0) 0 ≡ 0) [
      | true ↦ λ written. absurd
          (omega (arith, are.placed (at / 512) written, are.below (at / 512), are.stored, empty))
      | false ↦ λ written. refl
    ] refl

-- Where a page that was written is in the table, and lies in the store.
pub record Lies (words : PagesView) (number : ℕ) (page : Page) : Type 0 where
  pub there : number < length words.pages
  pub is : page_at words.pages number ≡ page
  pub some : 0 < page.position
  pub within : 512 * page.position ≤ length words.store

pub lies : (words was : PagesView) (pages_capacity store_capacity number : ℕ) (page : Page)
    → ArePages words pages_capacity store_capacity → words ≡ was → number < length was.pages
    → page ≡ get_or words.pages number page → page.written ≡ true → Lies words number page
lies words was pages_capacity store_capacity number page are same there page_found written = record {
  there = here;
  is = found;
  some = subst (λ (page : Page). 0 < page.position) found
      (are.placed number (ap (λ (page : Page). page.written) found ∙ written));
  within = omega (
    arith,
    are.stored,
    subst (λ (page : Page). page.position ≤ count_by is_stored words.pages) found (are.below number),
  );
}
  where
    here : number < length words.pages
    here = subst (λ (words : PagesView). number < length words.pages) (sym same) there

    found : page_at words.pages number ≡ page
    found = page_is words.pages number page here page_found

-- A page that is set: how many have a position, and which page is where.
counted_set : (pages : List Page) (number : ℕ) (page : Page) → number < length pages
    → count_by is_stored (slice_set pages number page) + one_if_stored (page_at pages number)
    ≡ count_by is_stored pages + one_if_stored page
counted_set [] number page there = absurd (omega arith)
counted_set (one ∷ more) zero page there = omega (arith, counted one more, counted page more)
counted_set (one ∷ more) (suc number) page there =
    omega (
      arith,
      counted one more,
      counted one (slice_set more number page),
      counted_set more number page (omega arith),
    )

-- A page with a position may be marked as written, or as not written.
pub marked : (words : PagesView) (pages_capacity store_capacity number : ℕ) (page : Page)
    → ArePages words pages_capacity store_capacity → number < length words.pages
    → page.position ≡ (page_at words.pages number).position → 0 < page.position
    → ArePages (record words { pages = slice_set words.pages number page }) pages_capacity store_capacity
marked words pages_capacity store_capacity number page are there stays some = record {
  stored = are.stored ∙ ap (λ (n : ℕ). 512 * n) (sym count);
  below = λ other. rw (positions other, count) (are.below other);
  own = λ first second. rw (positions first, positions second) (are.own first second);
  placed = λ other. elim (cases_eq other number) [
    | inl here ↦ λ written. rw (positions other, here, ← stays) some
    | inr differ ↦ λ written. rw (positions other) (are.placed other
        (sym (ap (λ (page : Page). page.written) (get_or-set_other words.pages number other page no_page differ))
        ∙ written))
  ];
  few = omega (arith, are.few, length-set words.pages number page);
  pages_room = are.pages_room;
  store_room = are.store_room;
}
  where
    count : count_by is_stored (slice_set words.pages number page) ≡ count_by is_stored words.pages
    count =
        let one_if : ℕ → ℕ = λ position. cond (nat_lt 0 position) 1 0 in
        omega (arith, counted_set words.pages number page there, ap one_if stays)

    positions : (other : ℕ) → (page_at (slice_set words.pages number page) other).position ≡ (page_at words.pages other).position
    positions other = elim (cases_eq other number) [
      | inl here ↦ rw (here, get_or-set_same words.pages number page no_page there) stays
      | inr differ ↦ ap (λ (page : Page). page.position) (get_or-set_other words.pages number other page no_page differ)
    ]

-- A page with no position may have the next one, where the store is longer by its words.
pub appended : (words : PagesView) (pages_capacity store_capacity capacity number : ℕ) (page : Page) (store : List ℕ)
    → ArePages words pages_capacity store_capacity → number < length words.pages
    → (page_at words.pages number).position ≡ 0 → page.position ≡ length words.store / 512 + 1
    → length store ≡ length words.store + 512 → store_capacity ≤ capacity
    → ArePages (record words { pages = slice_set words.pages number page; store = store }) pages_capacity capacity
appended words pages_capacity store_capacity capacity number page store are there none position filled more = record {
  stored = omega (arith, filled, are.stored, count);
  below = λ other. elim (cases_eq other number) [
    | inl here ↦ omega (arith, stored_here other here, next, count)
    | inr differ ↦ omega (arith, stored_there other differ, are.below other, count)
  ];
  own = λ first second some same. elim (cases_eq first number) [
    | inl here ↦ elim (cases_eq second number) [
      | inl too ↦ here ∙ sym too
      | inr differ ↦ absurd
          (omega (arith, same, stored_here first here, stored_there second differ, next, are.below second))
    ]
    | inr differ ↦ elim (cases_eq second number) [
      | inl here ↦ absurd
          (omega (arith, same, stored_here second here, stored_there first differ, next, are.below first))
      | inr too ↦ are.own first second (omega (arith, some, stored_there first differ))
          (sym (stored_there first differ) ∙ same ∙ stored_there second too)
    ]
  ];
  placed = λ other written. elim (cases_eq other number) [
    | inl here ↦ omega (arith, stored_here other here, position)
    | inr differ ↦ omega (
      arith,
      stored_there other differ,
      are.placed other
          (sym (ap (λ (page : Page). page.written) (get_or-set_other words.pages number other page no_page differ))
          ∙ written),
    )
  ];
  few = omega (arith, are.few, length-set words.pages number page);
  pages_room = are.pages_room;
  store_room = omega (arith, are.store_room, more);
}
  where
    next : page.position ≡ count_by is_stored words.pages + 1
    next = omega (arith, position, are.stored)

    count : count_by is_stored (slice_set words.pages number page) ≡ count_by is_stored words.pages + 1
    count =
        let one_if : ℕ → ℕ = λ position. cond (nat_lt 0 position) 1 0 in
        let if_stored : Bool → ℕ = λ b. cond b 1 0 in
        omega (
          arith,
          counted_set words.pages number page there,
          ap one_if none,
          ap if_stored (lt-ltb 0 page.position (omega (arith, position))),
        )

    stored_here : (other : ℕ) → other ≡ number → (page_at (slice_set words.pages number page) other).position ≡ page.position
    stored_here other here =
        ap (λ (k : ℕ). (page_at (slice_set words.pages number page) k).position) here
        ∙ ap (λ (page : Page). page.position) (get_or-set_same words.pages number page no_page there)

    stored_there : (other : ℕ) → (other ≡ number → ⊥)
        → (page_at (slice_set words.pages number page) other).position ≡ (page_at words.pages other).position
    stored_there other differ =
        ap (λ (page : Page). page.position) (get_or-set_other words.pages number other page no_page differ)

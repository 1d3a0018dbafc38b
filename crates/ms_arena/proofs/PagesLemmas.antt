-- Pages at positions of their own: what is written in one leaves the words of the others, and where a
-- page has no position there is room for one more. The functions of `pages` use these.
use Rattle.std.proofs.Common.{◌≡◌, ◌≢◌, ℕ, ◌+◌, ◌-◌, ◌*◌, ◌/◌, ◌%◌, ◌<◌, ◌≤◌, Bool, true, false, cond, List, [], ◌∷◌}
use Rattle.std.proofs.Common.{◌++◌, length, get_or, refl, sym}
use Rattle.std.proofs.Common.{ap, ◌∙◌, inl, inr, arith, get_or-set_other}
use Rattle.std.proofs.Common.{not, replicate, subst, zero, suc}
use Rattle.std.specs.Prelude.{nat_lt, slice_set}
use Rattle.std.specs.List.{count_by}
use Rattle.std.proofs.lemmas.Bool.{cases_lt, false≢true}
use Rattle.std.proofs.lemmas.List.{length-append, length-replicate, get_or_default, get_or_past}
use Rattle.std.proofs.lemmas.List.Sums.{sum_by-cons, sum_by-append, count_by-le-length}
use Rattle.ms_arena.specs.declared.words.pages.Page.{Page}
use Rattle.ms_arena.specs.Pages.{PagesView, ArePages, word_at, page_at, base_of, is_stored, no_page}

abbrev pub one_if_stored : Page → ℕ
one_if_stored page = cond (is_stored page) 1 0

pub counted : (page : Page) (more : List Page)
    → count_by is_stored (page ∷ more) ≡ one_if_stored page + count_by is_stored more
counted page more = sum_by-cons one_if_stored page more

-- A page of the table with no position: fewer pages than those of the table have one.
pub fewer : (pages : List Page) (number : ℕ) → number < length pages → (page_at pages number).position ≡ 0
    → count_by is_stored pages < length pages
fewer [] number there none = absurd (omega arith)
fewer (page ∷ more) zero there none =
    omega (
      arith,
      counted page more,
      count_by-le-length is_stored more,
      unstored page none,
    )
  where
    unstored : (page : Page) → page.position ≡ 0 → one_if_stored page ≡ 0
    unstored page none = let one_if : ℕ → ℕ = λ position. cond (nat_lt 0 position) 1 0 in ap one_if none
fewer (page ∷ more) (suc number) there none =
    omega (arith, counted page more, at_most page, fewer more number (omega arith) none)
  where
    at_most : (page : Page) → one_if_stored page ≤ 1
    at_most page = let one_if : Bool → ℕ = λ b. cond b 1 0 in
        elim (is_stored page) as (λ b. one_if b ≤ 1) [ true ↦ omega arith | false ↦ omega arith ]

-- So the store has room for its words.
pub has_room : (words : PagesView) (pages_capacity store_capacity number : ℕ)
    → ArePages words pages_capacity store_capacity → number < length words.pages
    → (page_at words.pages number).position ≡ 0 → length words.store + 512 ≤ store_capacity
has_room words pages_capacity store_capacity number are there none =
    omega (arith, fewer words.pages number there none, are.stored, are.few, are.store_room)

-- Pages with no position at the end of the table change nothing.
none_counted : (m : ℕ) → count_by is_stored (replicate m no_page) ≡ 0
none_counted zero = refl
none_counted (suc m) = omega (arith, counted no_page (replicate m no_page), none_counted m)

pub page_at_longer : (pages : List Page) (m number : ℕ)
    → page_at (pages ++ replicate m no_page) number ≡ page_at pages number
page_at_longer [] zero number = refl
page_at_longer [] (suc m) zero = refl
page_at_longer [] (suc m) (suc number) = page_at_longer [] m number
page_at_longer (page ∷ more) m zero = refl
page_at_longer (page ∷ more) m (suc number) = page_at_longer more m number

pub longer : (words : PagesView) (pages_capacity store_capacity capacity m : ℕ)
    → ArePages words pages_capacity store_capacity → length words.pages + m ≤ words.room → words.room ≤ capacity
    → ArePages (record words { pages = words.pages ++ replicate m no_page }) capacity store_capacity
longer words pages_capacity store_capacity capacity m are few room = record {
  stored = are.stored ∙ ap (λ (n : ℕ). 512 * n) (sym count);
  below = λ number. rw (page_at_longer words.pages m number, count) (are.below number);
  own = λ number other.
      rw (page_at_longer words.pages m number, page_at_longer words.pages m other) (are.own number other);
  placed = λ number. rw (page_at_longer words.pages m number) (are.placed number);
  few = omega (arith, few, length-append words.pages (replicate m no_page), length-replicate m no_page);
  pages_room = room;
  store_room = are.store_room;
}
  where
    count : count_by is_stored (words.pages ++ replicate m no_page) ≡ count_by is_stored words.pages
    count = omega (arith, sum_by-append one_if_stored words.pages (replicate m no_page), none_counted m)

-- A word of a position that lies between two of another's is of that position.
positions_near : (first second offset low high : ℕ) → offset < 512 → 0 < first → 0 < second → 512 * (second - 1) ≤ low
    → high ≤ 512 * (second - 1) + 512 → low ≤ 512 * (first - 1) + offset → 512 * (first - 1) + offset < high
    → first ≡ second
positions_near first second offset low high within some more from end past less = omega arith

-- A change of the store between two of a page's words leaves the words that do not lie there.
pub outside : (words : PagesView) (pages_capacity store_capacity : ℕ) (store : List ℕ) (number low high : ℕ)
    → ArePages words pages_capacity store_capacity → 0 < (page_at words.pages number).position
    → base_of (page_at words.pages number) ≤ low → high ≤ base_of (page_at words.pages number) + 512
    → ((k : ℕ) → k < low → get_or store k 0 ≡ get_or words.store k 0)
    → ((k : ℕ) → high ≤ k → get_or store k 0 ≡ get_or words.store k 0)
    → (at : ℕ) → (at / 512 ≡ number → low ≤ base_of (page_at words.pages number) + at % 512
    → base_of (page_at words.pages number) + at % 512 < high → ⊥)
    → word_at (record words { store = store }) at ≡ word_at words at
outside words pages_capacity store_capacity store number low high are some from end before after at apart =
    elim (page_at words.pages (at / 512)).written as (λ b. (page_at words.pages (at / 512)).written ≡ b
    → cond b (get_or store (base_of (page_at words.pages (at / 512)) + at % 512) 0) 0
    ≡ cond b (get_or words.store (base_of (page_at words.pages (at / 512)) + at % 512) 0) 0) [
      | true ↦ λ written. elim (cases_lt index low) [
        | inl less ↦ before index less
        | inr past ↦ elim (cases_lt index high) [
          | inl less ↦ absurd (met written past less)
          | inr over ↦ after index over
        ]
      ]
      | false ↦ λ written. refl
    ] refl
  where
    index : ℕ
    index = base_of (page_at words.pages (at / 512)) + at % 512

    met : (page_at words.pages (at / 512)).written ≡ true → low ≤ index → index < high → ⊥
    met written past less =
        let placed = are.placed (at / 512) written in
        let same : (page_at words.pages (at / 512)).position ≡ (page_at words.pages number).position =
        positions_near (page_at words.pages (at / 512)).position (page_at words.pages number).position (at % 512) low high
        (omega arith) placed some from end past less in
        apart (are.own (at / 512) number placed same) (omega (arith, same, past)) (omega (arith, same, less))

-- A page that was written is in the table, where it was read.
pub written_there : (pages : List Page) (number : ℕ) → (page_at pages number).written ≡ true → number < length pages
written_there pages number written = elim (cases_lt number (length pages)) [
  | inl less ↦ less
  | inr past ↦
      let none = ap (λ (page : Page). page.written) (get_or_past pages number no_page past) in
      absurd (false≢true (sym none ∙ written))
]

pub page_is : (pages : List Page) (number : ℕ) (page : Page) → number < length pages → page ≡ get_or pages number page
    → page_at pages number ≡ page
page_is pages number page there is = get_or_default pages number no_page page there ∙ sym is

-- A word that is written leaves the others.
pub write_leaves : (words was : PagesView) (pages_capacity store_capacity at index value other : ℕ) (page : Page)
    → ArePages words pages_capacity store_capacity → words ≡ was → (page_at was.pages (at / 512)).written ≡ true
    → page ≡ get_or words.pages (at / 512) page → index ≡ base_of page + at % 512 → other ≢ at
    → word_at (record words { store = slice_set words.store index value }) other ≡ word_at was other
write_leaves words was pages_capacity store_capacity at index value other page are same written page_found index_is
    differ =
    outside words pages_capacity store_capacity (slice_set words.store index value) (at / 512) index (index + 1) are
    (are.placed (at / 512) here) (omega (arith, position)) (omega (arith, position))
    (λ k less. get_or-set_other words.store index k value 0 (λ same. absurd (omega (arith, same, less))))
    (λ k more. get_or-set_other words.store index k value 0 (λ same. absurd (omega (arith, same, more))))
    other (λ same low high. differ (omega (arith, same, low, high, position)))
    ∙ ap (λ (words : PagesView). word_at words other) same
  where
    here : (page_at words.pages (at / 512)).written ≡ true
    here = subst (λ (words : PagesView). (page_at words.pages (at / 512)).written ≡ true) (sym same) written

    position : index ≡ base_of (page_at words.pages (at / 512)) + at % 512
    position = index_is ∙ ap (λ (page : Page). base_of page + at % 512)
        (sym (page_is words.pages (at / 512) page (written_there words.pages (at / 512) here) page_found))

-- A page of which it isn't true that it was not written.
pub was_written : (written : Bool) → not written ≡ false → written ≡ true
was_written true is = refl
was_written false is = absurd (false≢true (sym is))

-- A change of the store within a page that was written leaves the words elsewhere.
pub part_leaves : (words was : PagesView) (pages_capacity store_capacity number base first last : ℕ) (page : Page)
    (store : List ℕ) → ArePages words pages_capacity store_capacity → words ≡ was → number < length was.pages
    → page ≡ get_or words.pages number page → page.written ≡ true → base ≡ base_of page → last ≤ 512
    → ((k : ℕ) → k < base + first → get_or store k 0 ≡ get_or words.store k 0)
    → ((k : ℕ) → base + last ≤ k → get_or store k 0 ≡ get_or words.store k 0)
    → (at : ℕ) → (at / 512 ≡ number → first ≤ at % 512 → at % 512 < last → ⊥)
    → word_at (record words { store = store }) at ≡ word_at was at
part_leaves words was pages_capacity store_capacity number base first last page store are same there page_found written
    base_is short before after at apart =
    outside words pages_capacity store_capacity store number (base + first) (base + last) are some
    (omega (arith, position))
    (omega (arith, position, short)) before after at
    (λ here low high. apart here (omega (arith, position, low)) (omega (arith, position, high)))
    ∙ ap (λ (words : PagesView). word_at words at) same
  where
    is : page_at words.pages number ≡ page
    is = page_is words.pages number page
        (subst (λ (words : PagesView). number < length words.pages) (sym same) there) page_found

    position : base ≡ base_of (page_at words.pages number)
    position = base_is ∙ ap (λ (page : Page). base_of page) (sym is)

    some : 0 < (page_at words.pages number).position
    some = are.placed number (ap (λ (page : Page). page.written) is ∙ written)

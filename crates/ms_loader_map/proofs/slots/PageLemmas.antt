-- Slots by the page: what stands at a number where pages are added, walked and changed. The
-- functions of `slots` and `walks` use these, and `Loaders`.
use Rattle.std.proofs.Common.{◌≡◌, ℕ, zero, suc, ◌+◌, ◌-◌, ◌*◌, ◌/◌, ◌%◌, ◌<◌, ◌≤◌, cond, Option, None}
use Rattle.std.proofs.Common.{List, [], ◌∷◌, ◌++◌, length, refl, sym, ap, ◌∙◌, inl, inr, arith}
use Rattle.std.specs.Prelude.{nat_eq, slice_index_or, slice_set}
use Rattle.std.proofs.lemmas.Bool.{cases_eq, cases_lt, eq-eqb, ne_eqb}
use Rattle.std.proofs.lemmas.List.{get_or_default, get_or_past, get_or-set_other, get_or-set_same, length-set}
use Rattle.std.proofs.lemmas.Grind.{get_or-set_at}
use Rattle.ms_loader.specs.Loader.{LoaderView}
use Rattle.ms_loader_map.specs.Slots.{IsEmptyFrom, IsNext, ChangesAt, in_page, page_of, slot_at, filled_from, rest_of}
use Rattle.ms_loader_map.specs.Lent.{pages_with, page_with, with_loader}

-- An empty slot, or page, at the end changes nothing.
with_default : {X : Type 0} (xs : List X) (k : ℕ) (d : X) → slice_index_or (xs ++ d ∷ []) k d ≡ slice_index_or xs k d
with_default [] zero d = refl
with_default [] (suc k) d = refl
with_default (x ∷ xs) zero d = refl
with_default (x ∷ xs) (suc k) d = with_default xs k d

pub with_slot : {E : Type 0} (page : List (Option E)) (slot : ℕ)
    → in_page (page ++ None ∷ []) slot ≡ in_page page slot
with_slot page slot = with_default page slot None

pub with_page : {E : Type 0} (pages : List (List (Option E))) (added : List (Option E)) (number : ℕ) → added ≡ []
    → slot_at (pages ++ added ∷ []) number ≡ slot_at pages number
with_page pages added number none = ap (λ page. slot_at (pages ++ page ∷ []) number) none
    ∙ ap (λ page. in_page page (number % 256)) (with_default pages (number / 256) [])

-- A page in which the same stands at each slot changes nothing.
pub page_as_it_was : {E : Type 0} (pages : List (List (Option E))) (page : ℕ) (old new : List (Option E))
    → page < length pages → old ≡ slice_index_or pages page old
    → ((slot : ℕ) → in_page new slot ≡ in_page old slot) → (number : ℕ)
    → slot_at (slice_set pages page new) number ≡ slot_at pages number
page_as_it_was pages page old new there is same number = elim (cases_eq (number / 256) page) [
  | inl here ↦ ap (λ n. in_page (slice_index_or (slice_set pages page new) n []) (number % 256)) here
      ∙ ap (λ its. in_page its (number % 256)) (get_or-set_same pages page new [] there) ∙ same (number % 256)
      ∙ sym (ap (λ n. in_page (slice_index_or pages n []) (number % 256)) here
      ∙ ap (λ its. in_page its (number % 256)) (get_or_default pages page [] old there ∙ sym is))
  | inr differ ↦ ap (λ its. in_page its (number % 256)) (get_or-set_other pages page (number / 256) new [] differ)
]

-- Nothing stands past the last page.
pub past_pages : {E : Type 0} (pages : List (List (Option E))) (number : ℕ) → 256 * length pages ≤ number
    → slot_at pages number ≡ None
past_pages pages number past =
    ap (λ page. in_page page (number % 256)) (get_or_past pages (number / 256) [] (omega (arith, past)))

-- What is found first in a page, where nothing stood before it, is the next.
pub found_in_page : {E : Type 0} (pages : List (List (Option E))) (this : List (Option E))
    (from page slot found : ℕ) (e : E) → this ≡ slice_index_or pages page []
    → from ≤ 256 * page + slot → ((k : ℕ) → from ≤ k → k < 256 * page + slot → slot_at pages k ≡ None)
    → found < 256 → IsNext (in_page this) slot found e
    → IsNext (slot_at pages) from (page * 256 + found) e
found_in_page {E} pages this from page slot found e this_is low none_before small next = record {
  from_there = omega (arith, low, next.from_there);
  stands = in_this found small ∙ next.stands;
  none_before = λ k least less. elim (cases_lt k (256 * page + slot)) [
    | inl before ↦ none_before k least before
    | inr here ↦ ap (λ n. slot_at pages n) (omega (arith, here))
        ∙ in_this (k - page * 256) (omega (arith, here, less, small))
        ∙ next.none_before (k - page * 256) (omega (arith, here)) (omega (arith, here, less))
  ];
}
  where
    in_this : (slot : ℕ) → slot < 256 → slot_at pages (page * 256 + slot)
        ≡ in_page this slot
    in_this slot small =
        ap (λ n. in_page (slice_index_or pages n []) ((page * 256 + slot) % 256)) (omega (arith, small))
        ∙ ap (λ n. in_page (slice_index_or pages page []) n) (omega (arith, small))
        ∙ ap (λ page. in_page page slot) (sym this_is)

-- What a list has at each slot once it is set at one, or past its end to what stands there.
set_at : {X : Type 0} (xs : List X) (i : ℕ) (x d : X) (j : ℕ) → (length xs ≤ i → x ≡ d)
    → slice_index_or (slice_set xs i x) j d ≡ cond (nat_eq i j) x (slice_index_or xs j d)
set_at xs i x d j past = elim (cases_eq i j) [
  | inl same ↦ rw (eq-eqb i j same) (elim (cases_lt i (length xs)) [
    | inl less ↦ get_or-set_at xs i j x d (sym same) less
    | inr more ↦ get_or_past (slice_set xs i x) j d (omega (arith, length-set xs i x, more, same)) ∙ sym (past more)
  ])
  | inr differ ↦ rw (ne_eqb i j differ) (get_or-set_other xs i j x d (λ e. differ (sym e)))
]

-- A number's entry with another loader is that of its slot in its page.
pub filled_with : (pages : List (List (Option (ℕ × LoaderView)))) (number : ℕ) (loader : LoaderView)
    → ChangesAt (slot_at pages) number (with_loader (slot_at pages number) loader)
    (slot_at (pages_with pages number loader))
filled_with pages number loader other =
    ap (λ page. in_page page (other % 256)) (set_at pages (number / 256) with_it [] (other / 256) past_all)
    ∙ elim (cases_eq (number / 256) (other / 256)) [
      | inl same ↦ rw (eq-eqb (number / 256) (other / 256) same)
          (set_at this (number % 256) entry None (other % 256) past_page
          ∙ elim (cases_eq (number % 256) (other % 256)) [
            | inl as_well ↦ rw (eq-eqb (number % 256) (other % 256) as_well)
                (rw (eq-eqb number other (omega (arith, same, as_well))) refl)
            | inr differ ↦ rw (ne_eqb (number % 256) (other % 256) differ)
                (rw (ne_eqb number other (λ e. differ (ap (λ n. n % 256) e)))
                (ap (λ n. in_page (slice_index_or pages n []) (other % 256)) same))
          ])
      | inr differ ↦ rw (ne_eqb (number / 256) (other / 256) differ)
          (rw (ne_eqb number other (λ e. differ (ap (λ n. n / 256) e))) refl)
    ]
  where
    this : List (Option (ℕ × LoaderView))
    this = page_of pages number

    entry : Option (ℕ × LoaderView)
    entry = with_loader (in_page this (number % 256)) loader

    with_it : List (Option (ℕ × LoaderView))
    with_it = page_with this (number % 256) loader

    past_page : length this ≤ number % 256 → entry ≡ None
    past_page more = ap (λ e. with_loader e loader) (get_or_past this (number % 256) None more)

    past_all : length pages ≤ number / 256 → with_it ≡ []
    past_all more = ap (λ page. page_with page (number % 256) loader) (get_or_past pages (number / 256) [] more)

-- A walk's rest: what is found next, and then the rest from there on; nothing where nothing is
-- found.
skips : {E : Type 0} (at : ℕ → Option E) (from more count : ℕ) → ((k : ℕ) → from ≤ k → k < from + more → at k ≡ None)
    → filled_from at from (more + count) ≡ filled_from at (from + more) count
skips at from zero count none =
    let all : 0 + count ≡ count = omega arith in
    let here : from ≡ from + 0 = omega arith in
    ap (λ n. filled_from at from n) all ∙ ap (λ n. filled_from at n count) here
skips at from (suc more) count none =
    let first : suc more + count ≡ suc (more + count) = omega arith in
    let last : suc from + more ≡ from + suc more = omega arith in
    ap (λ n. filled_from at from n) first
    ∙ rw (none from (omega arith) (omega arith))
    (skips at (suc from) more count (λ k least less. none k (omega (arith, least)) (omega (arith, less))))
    ∙ ap (λ n. filled_from at n count) last

pub next_rest : {E : Type 0} (pages : List (List (Option E))) (from number : ℕ) (e : E)
    → IsNext (slot_at pages) from number e → rest_of pages from ≡ e ∷ rest_of pages (number + 1)
next_rest pages from number e next =
    let count : 256 * length pages - from ≡ (number - from) + suc (256 * length pages - (number + 1)) =
    omega (arith, next.from_there, within) in
    let at : from + (number - from) ≡ number = omega (arith, next.from_there) in
    let later : suc number ≡ number + 1 = omega arith in
    ap (λ n. filled_from (slot_at pages) from n) count
    ∙ skips (slot_at pages) from (number - from) (suc (256 * length pages - (number + 1)))
    (λ k least less. next.none_before k least (omega (arith, less, at)))
    ∙ ap (λ n. filled_from (slot_at pages) n (suc (256 * length pages - (number + 1)))) at
    ∙ rw next.stands (ap (λ n. e ∷ filled_from (slot_at pages) n (256 * length pages - (number + 1))) later)
  where
    within : number < 256 * length pages
    within = elim (cases_lt number (256 * length pages)) [
      | inl less ↦ less
      | inr past ↦ absurd (cc (past_pages pages number past, next.stands))
    ]

pub last_rest : {E : Type 0} (pages : List (List (Option E))) (from : ℕ) → IsEmptyFrom (slot_at pages) from
    → rest_of pages from ≡ []
last_rest pages from last =
    let count : 256 * length pages - from ≡ (256 * length pages - from) + 0 = omega arith in
    ap (λ n. filled_from (slot_at pages) from n) count
    ∙ skips (slot_at pages) from (256 * length pages - from) 0 (λ k least less. last k least)

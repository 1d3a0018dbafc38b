-- How many pages of a group are written, as a page is set and as pages with no position come at the
-- end. The functions of `pages` that count use these.
use Rattle.std.proofs.Common.{◌≡◌, ℕ, ◌+◌, ◌-◌, ◌*◌, ◌/◌, ◌%◌, ◌<◌, ◌≤◌, Bool, true, false, cond, List, [], ◌∷◌, ◌++◌, length}
use Rattle.std.proofs.Common.{get_or, replicate, refl, sym, ap, ◌∙◌, inl, inr, arith, zero, suc, subst}
use Rattle.std.proofs.Common.{get_or-set_same, get_or-set_other}
use Rattle.std.specs.Prelude.{slice_index_or, slice_set, take}
use Rattle.std.specs.List.{count_by}
use Rattle.std.proofs.lemmas.Bool.{cases_eq, cases_lt}
use Rattle.std.proofs.lemmas.List.{get_or_append_left, get_or_default, get_or_past}
use Rattle.std.proofs.lemmas.List.Sums.{sum_by-cons}
use Rattle.ms_arena.specs.declared.words.pages.Page.{Page}
use Rattle.ms_arena.specs.Pages.{AreCounted, Clears, HasNoneWritten, PagesView, base_of, is_written, no_page, page_at}
use Rattle.ms_arena.specs.Pages.{word_at, written_from}
use Rattle.ms_arena.proofs.PagesLemmas.{written_there}

abbrev one_if_written : Page → ℕ
one_if_written page = cond (is_written page) 1 0

at_most_one : (page : Page) → one_if_written page ≤ 1
at_most_one page = let one_if : Bool → ℕ = λ b. cond b 1 0 in
    elim (is_written page) as (λ b. one_if b ≤ 1) [ true ↦ omega arith | false ↦ omega arith ]

counted : (page : Page) (more : List Page)
    → count_by is_written (page ∷ more) ≡ one_if_written page + count_by is_written more
counted page more = sum_by-cons one_if_written page more

none_listed : (first m : ℕ) → written_from [] first m ≡ 0
none_listed zero zero = refl
none_listed zero (suc m) = refl
none_listed (suc first) zero = refl
none_listed (suc first) (suc m) = refl

none_blank : (k first m : ℕ) → written_from (replicate k no_page) first m ≡ 0
none_blank zero first m = none_listed first m
none_blank (suc k) zero zero = refl
none_blank (suc k) zero (suc m) = omega (arith, counted no_page (take m (replicate k no_page)), none_blank k zero m)
none_blank (suc k) (suc first) m = none_blank k first m

-- No more are written than there are, and none past the last.
at_most : (pages : List Page) (first m : ℕ) → written_from pages first m ≤ m
at_most [] first m = omega (arith, none_listed first m)
at_most (page ∷ more) zero zero = omega arith
at_most (page ∷ more) zero (suc m) = omega (arith, at_most_one page, counted page (take m more), at_most more zero m)
at_most (page ∷ more) (suc first) m = at_most more first m

none_past : (pages : List Page) (first m : ℕ) → length pages ≤ first → written_from pages first m ≡ 0
none_past [] first m past = none_listed first m
none_past (page ∷ more) zero m past = absurd (omega arith)
none_past (page ∷ more) (suc first) m past = none_past more first m (omega arith)

-- Pages with no position at the end change no count.
same_longer : (pages : List Page) (k first m : ℕ)
    → written_from (pages ++ replicate k no_page) first m ≡ written_from pages first m
same_longer [] k first m = none_blank k first m ∙ sym (none_listed first m)
same_longer (page ∷ more) k zero zero = refl
same_longer (page ∷ more) k zero (suc m) =
    omega (
      arith,
      counted page (take m (more ++ replicate k no_page)),
      counted page (take m more),
      same_longer more k zero m,
    )
same_longer (page ∷ more) k (suc first) m = same_longer more k first m

pub counted_longer : (pages : List Page) (counts : List ℕ) (k : ℕ) → AreCounted pages counts
    → AreCounted (pages ++ replicate k no_page) counts
counted_longer pages counts k are = λ group m is.
    omega (arith, same_longer pages k (64 * group) m, are group m is)

-- A page that is written is counted among those around it.
one_within : (pages : List Page) (first m number : ℕ) → first ≤ number → number < first + m
    → one_if_written (page_at pages number) ≤ written_from pages first m
one_within [] first m number low high = omega arith
one_within (page ∷ more) zero zero number low high = absurd (omega arith)
one_within (page ∷ more) zero (suc m) zero low high = omega (arith, counted page (take m more))
one_within (page ∷ more) zero (suc m) (suc number) low high =
    omega (arith, counted page (take m more), one_within more zero m number (omega arith) (omega arith))
one_within (page ∷ more) (suc first) m zero low high = absurd (omega arith)
one_within (page ∷ more) (suc first) m (suc number) low high = one_within more first m number (omega arith) (omega arith)

-- So where a count is 0 none of its group is written.
pub none_written : (pages : List Page) (counts : List ℕ) (first past : ℕ) → AreCounted pages counts
    → slice_index_or counts (first / 64) 64 ≡ 0 → (past - 1) / 64 ≤ first / 64 → HasNoneWritten pages first past
none_written pages counts first past are none near = λ number low high.
    let one_if : Bool → ℕ = λ b. cond b 1 0 in
    elim (is_written (page_at pages number)) as (λ b. one_if b ≤ 0 → b ≡ false) [
      | true ↦ λ less. absurd (omega (arith, less))
      | false ↦ λ less. refl
    ] (omega (
      arith,
      one_within pages (64 * (first / 64)) 64 number (omega (arith, low)) (omega (arith, low, high, near)),
      are (first / 64) 64 refl,
      none,
    ))

-- And its words are clear as they are.
unwritten : (words : PagesView) (at : ℕ) → (page_at words.pages (at / 512)).written ≡ false → word_at words at ≡ 0
unwritten words at clear =
    ap (λ b. cond b (get_or words.store (base_of (page_at words.pages (at / 512)) + at % 512) 0) 0) clear

pub clears_none : (words : PagesView) (from end first past : ℕ) → first ≡ from / 512
    → ((number : ℕ) → number < length words.pages → 512 * number < end → number < past)
    → HasNoneWritten words.pages first past → Clears words from end words
clears_none words from end first past first_is within none = record {
  zero = λ at low high. elim (cases_lt (at / 512) (length words.pages)) [
    | inl less ↦ unwritten words at
        (none (at / 512) (omega (arith, first_is, low)) (within (at / 512) less (omega (arith, high))))
    | inr over ↦ unwritten words at (ap (λ (page : Page). page.written) (get_or_past words.pages (at / 512) no_page over))
  ];
  before = λ at less. refl;
  after = λ at more. refl;
  room = refl;
}

-- A page that is set adds one at most, to those around it alone.
set_raises : (pages : List Page) (first m number : ℕ) (page : Page)
    → written_from (slice_set pages number page) first m ≤ written_from pages first m + 1
set_raises [] first m number page = omega arith
set_raises (one ∷ more) zero zero number page = omega arith
set_raises (one ∷ more) zero (suc m) zero page =
    omega (arith, at_most_one page, counted page (take m more), counted one (take m more))
set_raises (one ∷ more) zero (suc m) (suc number) page =
    omega (
      arith,
      counted one (take m (slice_set more number page)),
      counted one (take m more),
      set_raises more zero m number page,
    )
set_raises (one ∷ more) (suc first) m zero page = omega arith
set_raises (one ∷ more) (suc first) m (suc number) page = set_raises more first m number page

set_apart : (pages : List Page) (first m number : ℕ) (page : Page) → (first ≤ number → number < first + m → ⊥)
    → written_from (slice_set pages number page) first m ≡ written_from pages first m
set_apart [] first m number page apart = refl
set_apart (one ∷ more) zero zero number page apart = refl
set_apart (one ∷ more) zero (suc m) zero page apart = absurd (apart (omega arith) (omega arith))
set_apart (one ∷ more) zero (suc m) (suc number) page apart =
    omega (
      arith,
      counted one (take m (slice_set more number page)),
      counted one (take m more),
      set_apart more zero m number page (λ low high. apart (omega arith) (omega (arith, high))),
    )
set_apart (one ∷ more) (suc first) m zero page apart = refl
set_apart (one ∷ more) (suc first) m (suc number) page apart =
    set_apart more first m number page (λ low high. apart (omega (arith, low)) (omega (arith, high)))

-- One that was written and no longer is takes one away.
set_lowers : (pages : List Page) (first m number : ℕ) (page : Page) → first ≤ number → number < first + m
    → number < length pages → one_if_written (page_at pages number) ≡ 1 → one_if_written page ≡ 0
    → written_from (slice_set pages number page) first m + 1 ≡ written_from pages first m
set_lowers [] first m number page low high there was is = absurd (omega arith)
set_lowers (one ∷ more) zero zero number page low high there was is = absurd (omega arith)
set_lowers (one ∷ more) zero (suc m) zero page low high there was is =
    omega (arith, was, is, counted page (take m more), counted one (take m more))
set_lowers (one ∷ more) zero (suc m) (suc number) page low high there was is =
    omega (
      arith,
      counted one (take m (slice_set more number page)),
      counted one (take m more),
      set_lowers more zero m number page (omega arith) (omega arith) (omega arith) was is,
    )
set_lowers (one ∷ more) (suc first) m zero page low high there was is = absurd (omega arith)
set_lowers (one ∷ more) (suc first) m (suc number) page low high there was is =
    set_lowers more first m number page (omega arith) (omega arith) (omega arith) was is

-- Counts where a page is set: another group's stays, and the page's own is one that is enough.
with_count : (pages : List Page) (counts : List ℕ) (number : ℕ) (page : Page) (more : List ℕ) → AreCounted pages counts
    → ((m : ℕ) → m ≡ 64 → written_from (slice_set pages number page) (64 * (number / 64)) m
    ≤ slice_index_or more (number / 64) 64)
    → ((group : ℕ) → (group ≡ number / 64 → ⊥) → slice_index_or more group 64 ≡ slice_index_or counts group 64)
    → AreCounted (slice_set pages number page) more
with_count pages counts number page more are own others = λ group m is. elim (cases_eq group (number / 64)) [
  | inl same ↦ subst (λ (k : ℕ). written_from (slice_set pages number page) (64 * k) m ≤ slice_index_or more k 64)
      (sym same) (own m is)
  | inr differ ↦ omega (
    arith,
    set_apart pages (64 * group) m number page (λ low high. differ (omega (arith, low, high, is))),
    are group m is,
    others group differ,
  )
]

-- A count is that which was read.
pub count_is : (counts : List ℕ) (group count : ℕ) → group < length counts → count ≡ get_or counts group count
    → slice_index_or counts group 64 ≡ count
count_is counts group count there read = get_or_default counts group 64 count there ∙ sym read

-- A page becomes written: its count rises, or is 64 or more already.
pub counted_up : (pages : List Page) (counts : List ℕ) (number count : ℕ) (page : Page) → AreCounted pages counts
    → number / 64 < length counts → count ≡ get_or counts (number / 64) count
    → AreCounted (slice_set pages number page) (slice_set counts (number / 64) (count + 1))
counted_up pages counts number count page are there read =
    with_count pages counts number page (slice_set counts (number / 64) (count + 1)) are
    (λ m is. omega (
      arith,
      set_raises pages (64 * (number / 64)) m number page,
      are (number / 64) m is,
      count_is counts (number / 64) count there read,
      get_or-set_same counts (number / 64) (count + 1) 64 there,
    ))
    (λ group differ. get_or-set_other counts (number / 64) group (count + 1) 64 differ)

pub counted_full : (pages : List Page) (counts : List ℕ) (number : ℕ) (page : Page) → AreCounted pages counts
    → 64 ≤ slice_index_or counts (number / 64) 64 → AreCounted (slice_set pages number page) counts
counted_full pages counts number page are full =
    with_count pages counts number page counts are
    (λ m is. omega (arith, is, full, at_most (slice_set pages number page) (64 * (number / 64)) m)) (λ group differ. refl)

-- A page is no longer written: its count falls, or isn't known.
pub counted_down : (pages : List Page) (counts : List ℕ) (number count : ℕ) (page : Page) → AreCounted pages counts
    → number / 64 < length counts → count ≡ get_or counts (number / 64) count
    → (page_at pages number).written ≡ true → page.written ≡ false
    → AreCounted (slice_set pages number page) (slice_set counts (number / 64) (count - 1))
counted_down pages counts number count page are there read was is =
    let one_if : Bool → ℕ = λ b. cond b 1 0 in
    with_count pages counts number page (slice_set counts (number / 64) (count - 1)) are
    (λ m full. omega (
      arith,
      set_lowers pages (64 * (number / 64)) m number page (omega arith) (omega (arith, full))
          (written_there pages number was) (ap one_if was) (ap one_if is),
      are (number / 64) m full,
      count_is counts (number / 64) count there read,
      get_or-set_same counts (number / 64) (count - 1) 64 there,
    ))
    (λ group differ. get_or-set_other counts (number / 64) group (count - 1) 64 differ)

-- Of groups with no count nothing is said.
pub unknown : (counts : List ℕ) (group : ℕ) → length counts ≤ group → slice_index_or counts group 64 ≡ 64
unknown counts group past = get_or_past counts group 64 past

-- Counts that are made: of groups that may have all their pages written, or that have no pages.
pub counted_all : (pages : List Page) (counts : List ℕ) (k : ℕ) → AreCounted pages counts
    → AreCounted pages (counts ++ replicate k 64)
counted_all pages counts k are = λ group m is. elim (cases_lt group (length counts)) [
  | inl less ↦ omega (arith, are group m is, get_or_append_left counts (replicate k 64) 64 group less)
  | inr past ↦ omega (arith, is, at_most pages (64 * group) m, row counts k group past)
]
  where
    row : (counts : List ℕ) (k group : ℕ) → length counts ≤ group
        → slice_index_or (counts ++ replicate k 64) group 64 ≡ 64
    row [] zero group past = refl
    row [] (suc k) zero past = refl
    row [] (suc k) (suc group) past = row [] k group (omega arith)
    row (count ∷ counts) k zero past = absurd (omega arith)
    row (count ∷ counts) k (suc group) past = row counts k group (omega arith)

pub counted_none : (pages : List Page) (counts : List ℕ) (k value : ℕ) → AreCounted pages counts
    → length pages ≤ 64 * length counts → AreCounted pages (counts ++ replicate k value)
counted_none pages counts k value are few = λ group m is. elim (cases_lt group (length counts)) [
  | inl less ↦ omega (arith, are group m is, get_or_append_left counts (replicate k value) 64 group less)
  | inr past ↦ omega (arith, none_past pages (64 * group) m (omega (arith, few, past)))
]

-- Where there is no page, nothing is written.
pub counted_empty : (counts : List ℕ) → AreCounted [] counts
counted_empty counts = λ group m is. omega (arith, none_listed (64 * group) m)

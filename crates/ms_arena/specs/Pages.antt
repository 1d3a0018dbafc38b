-- A list of words of which most are 0, kept as pages of 512 words: each has its position in a store
-- from its first write on, and its words count as 0 until it is written and once it is cleared (our
-- choice).
use Rattle.std.specs.Prelude.{◌≡◌, ℕ, ◌+◌, ◌-◌, ◌*◌, ◌/◌, ◌%◌, ◌<◌, ◌≤◌, Bool, true, false, cond, List, length}
use Rattle.std.specs.Prelude.{drop, nat_lt, slice_index, slice_index_or, take}
use Rattle.std.specs.List.{count_by}
use Rattle.ms_arena.specs.declared.words.pages.Page.{Page}

-- The pages, by their number, the store, and how many pages there is room for.
pub record PagesView : Type 0 where
  pub pages : List Page
  pub store : List ℕ
  pub room : ℕ

-- A page that was never written.
abbrev pub no_page : Page
no_page = record { position = 0; written = false }

abbrev pub page_at : List Page → ℕ → Page
page_at pages number = slice_index_or pages number no_page

-- Where the page of a position begins in the store.
abbrev pub base_of : Page → ℕ
base_of page = 512 * (page.position - 1)

-- A word of a page, by its offset there, and a word by its number.
abbrev pub word_in : List ℕ → Page → ℕ → ℕ
word_in store page offset = cond page.written (slice_index store (base_of page + offset)) 0

abbrev pub word_at : PagesView → ℕ → ℕ
word_at words at = word_in words.store (page_at words.pages (at / 512)) (at % 512)

-- Whether a page has a position.
abbrev pub is_stored : Page → Bool
is_stored page = nat_lt 0 page.position

-- What is kept true: the store has the pages with a position and no others, each at its own, and there
-- is room in both for as many as said.
pub record ArePages (words : PagesView) (pages_capacity store_capacity : ℕ) : Type 0 where
  pub stored : length words.store ≡ 512 * count_by is_stored words.pages
  pub below : (number : ℕ) → (page_at words.pages number).position ≤ count_by is_stored words.pages
  pub own : (number other : ℕ) → 0 < (page_at words.pages number).position
      → (page_at words.pages number).position ≡ (page_at words.pages other).position → number ≡ other
  pub placed : (number : ℕ) → (page_at words.pages number).written ≡ true → 0 < (page_at words.pages number).position
  pub few : length words.pages ≤ words.room
  pub pages_room : words.room ≤ pages_capacity
  pub store_room : 512 * words.room ≤ store_capacity

-- A run of words is cleared, and the others stay.
pub record Clears (old : PagesView) (from end : ℕ) (new : PagesView) : Type 0 where
  pub zero : (at : ℕ) → from ≤ at → at < end → word_at new at ≡ 0
  pub before : (at : ℕ) → at < from → word_at new at ≡ word_at old at
  pub after : (at : ℕ) → end ≤ at → word_at new at ≡ word_at old at
  pub room : new.room ≡ old.room

-- Whether a page was written since it was last cleared.
abbrev pub is_written : Page → Bool
is_written page = page.written

-- How many of m pages from one on are written.
abbrev pub written_from : List Page → ℕ → ℕ → ℕ
written_from pages first m = count_by is_written (take m (drop first pages))

-- Of each group of 64 pages no more are written than its count says; of groups with no count
-- nothing is said.
abbrev pub AreCounted : List Page → List ℕ → Type 0
AreCounted pages counts = (group m : ℕ) → m ≡ 64 → written_from pages (64 * group) m ≤ slice_index_or counts group 64

-- None of the pages from one up to another is written.
abbrev pub HasNoneWritten : List Page → ℕ → ℕ → Type 0
HasNoneWritten pages first past = (number : ℕ) → first ≤ number → number < past → (page_at pages number).written ≡ false

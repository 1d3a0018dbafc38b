-- The words of an arena's blocks by their numbers in the space, kept stretch by stretch: each
-- stretch that a block reached into has a position in a list of words of which most are 0 (our
-- choice).
use Rattle.std.specs.Prelude.{◌≡◌, ◌≢◌, ℕ, ◌+◌, ◌-◌, ◌*◌, ◌/◌, ◌%◌, ◌^◌, ◌<◌, ◌≤◌, cond, nat_lt}
use Rattle.ms_arena.specs.Pages.{PagesView, word_at}
use Rattle.ms_arena.specs.Positions.{PositionsView, position_of}

-- The positions of stretches, the list, how many positions were given, and for how many more there is
-- room.
pub record WordsView : Type 0 where
  pub positions : PositionsView
  pub list : PagesView
  pub given : ℕ
  pub ready : ℕ

-- The position of a word's stretch, counted from 1; 0 where it has none.
abbrev pub position_at : WordsView → ℕ → ℕ
position_at words word = position_of words.positions (word / 2048)

-- A word of a position by its offset there, and a word by its number; it is 0 where its stretch has no
-- position.
abbrev pub value_in : PagesView → ℕ → ℕ → ℕ
value_in list position offset = cond (nat_lt 0 position) (word_at list (2048 * (position - 1) + offset)) 0

abbrev pub value_at : WordsView → ℕ → ℕ
value_at words word = value_in words.list (position_at words word) (word % 2048)

-- The word's stretch has a position.
abbrev pub IsThere : WordsView → ℕ → Type 0
IsThere words word = 0 < position_at words word

-- All words stay, and where they are.
pub record StayWords (old new : WordsView) : Type 0 where
  pub values : (word : ℕ) → value_at new word ≡ value_at old word
  pub positions : (word : ℕ) → position_at new word ≡ position_at old word

-- There is room for a run of n words, wherever it lies.
abbrev pub HasRoom : WordsView → ℕ → Type 0
HasRoom words n = n / 2048 + 2 ≤ words.ready

-- The words from a start up to an end are opened: each is there and 0, and the others stay.
pub record Opens (old : WordsView) (start end : ℕ) (new : WordsView) : Type 0 where
  pub zero : (word : ℕ) → start ≤ word → word < end → value_at new word ≡ 0
  pub here : (word : ℕ) → start ≤ word → word < end → IsThere new word
  pub there : (word : ℕ) → IsThere old word → IsThere new word
  pub before : (word : ℕ) → word < start → value_at new word ≡ value_at old word
  pub after : (word : ℕ) → end ≤ word → value_at new word ≡ value_at old word

-- So are those of them that lie in a stretch.
pub record OpensIn (old : WordsView) (stretch start end : ℕ) (new : WordsView) : Type 0 where
  pub zero : (word : ℕ) → word / 2048 ≡ stretch → start ≤ word → word < end → value_at new word ≡ 0
  pub here : (word : ℕ) → word / 2048 ≡ stretch → IsThere new word
  pub there : (word : ℕ) → IsThere old word → IsThere new word
  pub elsewhere : (word : ℕ) → word / 2048 ≢ stretch → value_at new word ≡ value_at old word
  pub before : (word : ℕ) → word < start → value_at new word ≡ value_at old word
  pub after : (word : ℕ) → end ≤ word → value_at new word ≡ value_at old word

-- A word is written, and the others stay.
pub record Writes (old : WordsView) (word value : ℕ) (new : WordsView) : Type 0 where
  pub written : value_at new word ≡ value
  pub others : (other : ℕ) → other ≢ word → value_at new other ≡ value_at old other
  pub positions : (other : ℕ) → position_at new other ≡ position_at old other

-- What is kept true: positions are those given, no two stretches have one, and the list has them all,
-- and both have room for as many more as said.
pub record AreWords (positions : PositionsView) (room given ready : ℕ) : Type 0 where
  pub below : (stretch : ℕ) → position_of positions stretch ≤ given
  pub own : (stretch other : ℕ) → 0 < position_of positions stretch → position_of positions stretch ≡ position_of positions other
      → stretch ≡ other
  pub list : 2048 * (given + ready) ≤ 512 * room
  pub fits : 512 * room < 2 ^ 63
  pub spare : ready ≤ positions.others.spare

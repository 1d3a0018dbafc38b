-- What is counted of chunks as some go and others come, and that there is room. The functions of
-- `lent` use these.
use Rattle.std.proofs.Common.{◌≡◌, ◌<◌, ◌≤◌, ℕ, zero, suc, ◌+◌, Bool, true, false, cond, List, [], ◌∷◌}
use Rattle.std.proofs.Common.{get_or, take, replicate, refl, sym, ap, ◌∙◌, arith, Some}
use Rattle.std.specs.Prelude.{◌==◌, slice_get}
use Rattle.std.proofs.lemmas.Bool.{eq-eqb}
use Rattle.ms_base.specs.declared.kind.Space.{Space}
use Rattle.ms_base.specs.declared.kind.Space.TheVariants.{NonClass, Class}
use Rattle.ms_base.specs.declared.span.Chunk.{Chunk}
use Rattle.ms_base.specs.Level.{size_of, level_count}
use Rattle.ms_base.specs.Spaces.{first_class_word}
use Rattle.ms_buddy.proofs.TreeHalvesLemmas.{size_of-some}
use Rattle.ms_pool.specs.declared.lent.Counted.{Counted}
use Rattle.ms_buddy.specs.Counts.{AreRaised}
use Rattle.ms_pool.specs.Counting.{AreCounted, HasLeast, HasRoomFor, HaveLeast, Moves, front_in, one_of}
use Rattle.ms_pool.specs.Counting.{counted_in, total, words_in}
use Rattle.ms_pool.proofs.returns.ClosingLemmas.{take_one_more}
use Rattle.ms_pool.proofs.counts.PoolCountLemmas.{none_or_one, one_if, total-append, total-cons, total-none, total-one}

-- A count of nothing.
abbrev no_counts : ℕ → List ℕ
no_counts n = replicate n 0

pub no_count : (n level none : ℕ) → none ≡ 0 → get_or (no_counts n) level 0 ≡ none
no_count zero level none e = sym e
no_count (suc n) zero none e = sym e
no_count (suc n) (suc level) none e = no_count n level none e

abbrev none_counted : Counted
none_counted = record { lent = replicate 13 0; capacity = 0; fronts = 0 }

none_are_counted : AreCounted [] none_counted
none_are_counted = record {
  full = refl;
  lent = λ level h. no_count level_count level (total (one_of level) []) (total-none (one_of level));
  capacity = sym (total-none words_in);
  fronts = sym (total-none front_in);
}

pub none_in_both : (space : Space)
    → AreCounted [] (counted_in space (record { space = none_counted; class_space = none_counted }))
none_in_both NonClass = none_are_counted
none_in_both Class = none_are_counted

-- A chunk has one of its level, and none of another.
pub one_of-own : (level : ℕ) (chunk : Chunk) → level ≡ chunk.level → one_of level chunk ≡ 1
one_of-own level chunk e =
    one_if (chunk.level == level) (one_of level chunk) (eq-eqb chunk.level level (sym e)) refl

-- One chunk more, and one less.
pub comes_one : (old new : Counted) (chunk : Chunk) → AreRaised old.lent (λ other. cond (chunk.level == other) 1 0) new.lent
    → new.capacity ≡ old.capacity + size_of chunk.level → new.fronts ≡ old.fronts + chunk.front
    → Moves old [] (chunk ∷ []) new
comes_one old new chunk raised words fronts = record {
  full = raised.full;
  lent = λ level h. omega (
    arith,
    raised.counts level h,
    total-none (one_of level),
    total-one (one_of level) chunk,
  );
  capacity = omega (arith, words, total-none words_in, total-one words_in chunk);
  fronts = omega (arith, fronts, total-none front_in, total-one front_in chunk);
}

pub goes_one : (old new : Counted) (chunk : Chunk) → AreRaised new.lent (λ other. cond (chunk.level == other) 1 0) old.lent
    → new.capacity + size_of chunk.level ≡ old.capacity → new.fronts + chunk.front ≡ old.fronts
    → Moves old (chunk ∷ []) [] new
goes_one old new chunk raised words fronts = record {
  full = sym raised.full;
  lent = λ level h. omega (
    arith,
    raised.counts level h,
    total-none (one_of level),
    total-one (one_of level) chunk,
  );
  capacity = omega (arith, words, total-none words_in, total-one words_in chunk);
  fronts = omega (arith, fronts, total-none front_in, total-one front_in chunk);
}

-- With a chunk less there is room for another still.
pub room_without : (old mid : Counted) (gone : List Chunk) (chunk : Chunk)
    → Moves old gone [] mid → HasRoomFor old chunk → HasRoomFor mid chunk
room_without old mid gone chunk goes room = record {
  low = room.low;
  lent = omega (arith, goes.lent chunk.level room.low, total-none (one_of chunk.level), room.lent);
  capacity = omega (arith, goes.capacity, total-none words_in, room.capacity);
  fronts = omega (arith, goes.fronts, total-none front_in, room.fronts);
}

-- The chunks of an account go one after the other.
pub none_gone : (old : Counted) → Moves old [] [] old
none_gone old = record { full = refl; lent = λ level h. refl; capacity = refl; fronts = refl }

total_more : (amount : Chunk → ℕ) (chunks : List Chunk) (index : ℕ) (chunk : Chunk) → slice_get chunks index ≡ Some chunk
    → total amount (take (index + 1) chunks) ≡ total amount (take index chunks) + amount chunk
total_more amount chunks index chunk found =
    ap (total amount) (take_one_more chunks index chunk found)
    ∙ total-append amount (take index chunks) (chunk ∷ [])
    ∙ ap (λ (n : ℕ). total amount (take index chunks) + n) (total-one amount chunk)

total_first : (amount : Chunk → ℕ) (chunks : List Chunk) (index : ℕ)
    → total amount (take index chunks) ≤ total amount chunks
total_first amount chunks zero = omega (arith, total-none amount)
total_first amount [] (suc index) = omega arith
total_first amount (c ∷ chunks) (suc index) = omega (
  arith,
  total-cons amount c chunks,
  total-cons amount c (take index chunks),
  total_first amount chunks index,
)

pub goes_next : (old mid new : Counted) (chunks : List Chunk) (index : ℕ) (chunk : Chunk)
    → slice_get chunks index ≡ Some chunk → Moves old (take index chunks) [] mid → Moves mid (chunk ∷ []) [] new
    → Moves old (take (index + 1) chunks) [] new
goes_next old mid new chunks index chunk found before goes = record {
  full = goes.full ∙ before.full;
  lent = λ level h. omega (
    arith,
    before.lent level h,
    goes.lent level h,
    total-none (one_of level),
    total-one (one_of level) chunk,
    total_more (one_of level) chunks index chunk found,
  );
  capacity = omega (
    arith,
    before.capacity,
    goes.capacity,
    total-none words_in,
    total-one words_in chunk,
    total_more words_in chunks index chunk found,
  );
  fronts = omega (
    arith,
    before.fronts,
    goes.fronts,
    total-none front_in,
    total-one front_in chunk,
    total_more front_in chunks index chunk found,
  );
}

pub least_next : (old mid : Counted) (chunks : List Chunk) (index : ℕ) (chunk : Chunk)
    → slice_get chunks index ≡ Some chunk → chunk.level < level_count → HaveLeast old chunks
    → Moves old (take index chunks) [] mid → HasLeast mid chunk
least_next old mid chunks index chunk found low least before = record {
  lent = omega (
    arith,
    before.lent chunk.level low,
    least.lent chunk.level low,
    total-none (one_of chunk.level),
    one_of-own chunk.level chunk refl,
    total_more (one_of chunk.level) chunks index chunk found,
    total_first (one_of chunk.level) chunks (index + 1),
  );
  capacity = omega (
    arith,
    before.capacity,
    least.capacity,
    total-none words_in,
    total_more words_in chunks index chunk found,
    total_first words_in chunks (index + 1),
  );
  fronts = omega (
    arith,
    before.fronts,
    least.fronts,
    total-none front_in,
    total_more front_in chunks index chunk found,
    total_first front_in chunks (index + 1),
  );
}

-- What is counted stands for other chunks once as many have gone and come.
pub moved : (old new : Counted) (gone come held after : List Chunk) → AreCounted held old → Moves old gone come new
    → ((amount : Chunk → ℕ) → total amount held + total amount come ≡ total amount after + total amount gone)
    → AreCounted after new
moved old new gone come held after counted moves same = record {
  full = moves.full ∙ counted.full;
  lent = λ level h. omega (arith, counted.lent level h, moves.lent level h, same (one_of level));
  capacity = omega (arith, counted.capacity, moves.capacity, same words_in);
  fronts = omega (arith, counted.fronts, moves.fronts, same front_in);
}

-- There is room for a chunk where those that are counted have few words.
ones_within : (level : ℕ) (chunks : List Chunk) → total (one_of level) chunks ≤ total words_in chunks
ones_within level [] = omega (arith, total-none (one_of level), total-none words_in)
ones_within level (c ∷ chunks) =
    omega (
      arith,
      total-cons (one_of level) c chunks,
      total-cons words_in c chunks,
      ones_within level chunks,
      size_of-some c.level,
      at_most (c.level == level),
    )
  where
    at_most : (b : Bool) → none_or_one b ≤ 1
    at_most true = omega arith
    at_most false = omega arith

pub room_for : (counted : Counted) (held : List Chunk) (chunk : Chunk) → AreCounted held counted
    → chunk.level < level_count
    → total words_in held ≤ first_class_word → total front_in held ≤ first_class_word → size_of chunk.level ≤ 524288
    → chunk.front ≤ size_of chunk.level → HasRoomFor counted chunk
room_for counted held chunk are low words fronts size front = record {
  low = low;
  lent = omega (arith, are.lent chunk.level low, ones_within chunk.level held, words);
  capacity = omega (arith, are.capacity, words, size);
  fronts = omega (arith, are.fronts, fronts, front, size);
}

-- What is counted has at least some of the chunks.
pub least_of : (counted : Counted) (held some others : List Chunk) → AreCounted held counted
    → ((amount : Chunk → ℕ) → total amount held ≡ total amount some + total amount others) → HaveLeast counted some
least_of counted held some others are same = record {
  lent = λ level h. omega (arith, are.lent level h, same (one_of level));
  capacity = omega (arith, are.capacity, same words_in);
  fronts = omega (arith, are.fronts, same front_in);
}

pub least_one : (counted : Counted) (chunk : Chunk) → chunk.level < level_count → HaveLeast counted (chunk ∷ [])
    → HasLeast counted chunk
least_one counted chunk low least = record {
  lent = omega (
    arith,
    least.lent chunk.level low,
    total-one (one_of chunk.level) chunk,
    one_of-own chunk.level chunk refl,
  );
  capacity = omega (arith, least.capacity, total-one words_in chunk);
  fronts = omega (arith, least.fronts, total-one front_in chunk);
}

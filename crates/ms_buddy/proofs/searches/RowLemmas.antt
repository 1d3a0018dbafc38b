-- The row of parts that a walk has still to visit: what a pop and a push do to it.
use Rattle.std.proofs.Common.{◌≡◌, ◌<◌, ◌≤◌, ℕ, ◌+◌, ◌-◌, ◌*◌, true, false, List, [], ◌∷◌, ◌++◌, length, map, refl, sym, subst, arith}
use Rattle.std.proofs.lemmas.Bool.{false≢true}
use Rattle.std.proofs.lemmas.List.{length_push}
use Rattle.std.proofs.lemmas.List.Elements.{All-head, All-tail}
use Rattle.std.specs.List.{All, AllByRecursion}
use Rattle.ms_base.specs.declared.span.Span.{Span}
use Rattle.ms_base.specs.Level.{highest_level, root_words, size_of}
use Rattle.ms_base.proofs.free.FreeLemmas.{IsFreeWithin, listed_are_free}
use Rattle.ms_base.proofs.free.HalvesLemmas.{words_over}
use Rattle.ms_buddy.specs.Leaves.{LentLeaf, chunk_of, free_of, from_on}
use Rattle.ms_buddy.specs.Row.{AreSmaller, AreWithin, IsRow, Meets}
use Rattle.ms_buddy.specs.Tree.{IsRootPart}
use Rattle.ms_buddy.proofs.TreeHalvesLemmas.{lower_part, size_of-halves, size_of-some, upper_part}
use Rattle.ms_buddy.proofs.WalkLemmas.{all_weaker}
use Rattle.ms_buddy.proofs.bits.FreeNumberLemmas.{root_part}
use Rattle.ms_buddy.proofs.searches.FromLemmas.{none_from_on}

-- What is known of the next part, and of those behind it.
pub record IsNext (number end : ℕ) (levels : List ℕ) (level at : ℕ) (free : List Span) : Type 0 where
  pub low : number + length levels ≤ level
  pub of_root : IsRootPart level at
  pub within : AreWithin level at free
  pub rest : IsRow number end levels (at + size_of level) free

pub popped : (number end : ℕ) (levels : List ℕ) (level at : ℕ) (free : List Span)
    → IsRow number end (levels ++ level ∷ []) at free → IsNext number end levels level at free
popped number end [] level at free row =
    let same : end - size_of level ≡ at = sym row.4 in record {
      low = omega (arith, row.0);
      of_root = subst (IsRootPart level) same row.2;
      within = subst (λ (n : ℕ). AreWithin level n free) same row.3;
      rest = omega (arith, row.1, same);
    }
popped number end (first ∷ levels) level at free row =
    let more = popped (number + 1) (end - size_of first) levels level at free row.4 in record {
      low = omega (arith, more.low);
      of_root = more.of_root;
      within = more.within;
      rest = (row.0, row.1, row.2, row.3, more.rest);
    }

pub pushed : (number end : ℕ) (levels : List ℕ) (level at : ℕ) (free : List Span) → IsNext number end levels level at free
    → IsRow number end (levels ++ level ∷ []) at free
pushed number end [] level at free next =
    let same : at ≡ end - size_of level = omega (arith, next.rest) in (
      omega (arith, next.low),
      omega (arith, next.rest),
      subst (IsRootPart level) same next.of_root,
      subst (λ (n : ℕ). AreWithin level n free) same next.within,
      same,
    )
pushed number end (first ∷ levels) level at free next =
    let rest = next.rest in (
      rest.0,
      rest.1,
      rest.2,
      rest.3,
      pushed (number + 1) (end - size_of first) levels level at free (record {
        low = omega (arith, next.low);
        of_root = next.of_root;
        within = next.within;
        rest = rest.4;
      }),
    )

-- The halves of a part that is split take its place.
pub halved : (levels : List ℕ) (level at : ℕ) (free : List Span) → IsNext 0 root_words levels level at free
    → level < highest_level → AreSmaller level at free
    → IsRow 0 root_words ((levels ++ (level + 1) ∷ []) ++ (level + 1) ∷ []) at free
halved levels level at free next low are =
    pushed 0 root_words (levels ++ (level + 1) ∷ []) (level + 1) at free (record {
      low = omega (arith, next.low, length_push levels (level + 1));
      of_root = lower_part level at next.of_root low;
      within = all_weaker (λ other. Meets level at other → level < other.level)
          (λ other. Meets (level + 1) at other → level + 1 ≤ other.level)
          (λ other less meets. omega (arith, less (omega (arith, meets.0, size_of-halves level low), meets.1))) free are;
      rest = pushed 0 root_words levels (level + 1) (at + size_of (level + 1)) free (record {
        low = omega (arith, next.low);
        of_root = upper_part level at (at + size_of (level + 1)) next.of_root low refl;
        within = all_weaker (λ other. Meets level at other → level < other.level)
            (λ other. Meets (level + 1) (at + size_of (level + 1)) other → level + 1 ≤ other.level)
            (λ other less meets. omega (arith, less (omega (arith, meets.0, size_of-halves level low), omega (arith, meets.1))))
            free are;
        rest = subst (λ (n : ℕ). IsRow 0 root_words levels n free) (omega (arith, size_of-halves level low)) next.rest;
      });
    })

-- The row of a walk that begins.
pub begun : (free : List Span) → IsRow 0 root_words (0 ∷ []) 0 free
begun free = (omega arith, omega arith, root_part, none_below free, refl)
  where
    none_below : (free : List Span) → AreWithin 0 0 free
    none_below [] = tt
    none_below (other ∷ free) = (λ meets. omega arith, none_below free)

-- How many parts are to be visited at most.
abbrev pub looks_left : List ℕ → ℕ
looks_left [] = 0
looks_left (level ∷ levels) = looks_left levels + (2 * size_of level - 1)

pub looks_left-push : (levels : List ℕ) (level : ℕ)
    → looks_left (levels ++ level ∷ []) ≡ looks_left levels + (2 * size_of level - 1)
looks_left-push [] level = refl
looks_left-push (first ∷ levels) level = omega (arith, looks_left-push levels level)

pub fewer_after : (levels : List ℕ) (level : ℕ) → looks_left levels < looks_left (levels ++ level ∷ [])
fewer_after levels level = omega (arith, looks_left-push levels level, size_of-some level)

pub fewer_halved : (levels : List ℕ) (level : ℕ) → level < highest_level
    → looks_left ((levels ++ (level + 1) ∷ []) ++ (level + 1) ∷ []) < looks_left (levels ++ level ∷ [])
fewer_halved levels level low = omega (
  arith,
  looks_left-push levels level,
  looks_left-push (levels ++ (level + 1) ∷ []) (level + 1),
  looks_left-push levels (level + 1),
  size_of-halves level low,
  size_of-some (level + 1),
)

-- The next part, by what a pop took off the row.
pub next_of : (levels rest : List ℕ) (level at : ℕ) (free : List Span) → levels ≡ rest ++ level ∷ []
    → IsRow 0 root_words levels at free → IsNext 0 root_words rest level at free
next_of levels rest level at free e row =
    popped 0 root_words rest level at free (subst (λ (ns : List ℕ). IsRow 0 root_words ns at free) e row)

-- No free leaf starts past the root.
below_root : (lent : List LentLeaf) → AllByRecursion (λ part. root_words ≤ part.start → ⊥) (free_of lent)
unfolding free_of
below_root lent = down (free_of lent) (listed_are_free (map chunk_of lent) highest_level 0 (omega arith) refl refl)
  where
    down : (parts : List Span) → All (IsFreeWithin (map chunk_of lent) 0 (0 + words_over highest_level)) parts
        → AllByRecursion (λ part. root_words ≤ part.start → ⊥) parts
    down [] all = tt
    down (part ∷ parts) all = (
      λ past. omega (
        arith,
        past,
        (All-head (IsFreeWithin (map chunk_of lent) 0 (0 + words_over highest_level)) part parts all).upto,
        size_of-some part.level,
      ),
      down parts (All-tail (IsFreeWithin (map chunk_of lent) 0 (0 + words_over highest_level)) part parts all),
    )

-- With no part left to visit no free leaf is left.
pub row_end : (levels : List ℕ) (at : ℕ) (lent : List LentLeaf) → (0 < length levels → false ≡ true)
    → IsRow 0 root_words levels at (free_of lent) → from_on at (free_of lent) ≡ []
row_end [] at lent none row = rw row (none_from_on root_words (free_of lent) (below_root lent))
row_end (level ∷ levels) at lent none row = absurd (false≢true (none (omega arith)))

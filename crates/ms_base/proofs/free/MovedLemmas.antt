-- The free parts of a root are those of its own chunks, taken as if the root began at word 0, moved
-- up to where it begins; chunks outside of it don't matter. A pool that keeps a tree for each root
-- uses these.
use Rattle.std.proofs.Common.{◌≡◌, ◌≤◌, ℕ, zero, suc, ◌+◌, ◌-◌, Bool, true, false, cond, ◌||◌, List, [], ◌∷◌, ◌++◌, map}
use Rattle.std.proofs.Common.{refl, sym, ap, ◌∙◌, arith}
use Rattle.std.proofs.Math.Bool.{or-false}
use Rattle.std.proofs.lemmas.Bool.Decides.{nat_tests}
use Rattle.std.proofs.lemmas.List.{map-append}
use Rattle.std.proofs.lemmas.List.Folds.{list_any-append}
use Rattle.ms_base.specs.declared.span.Chunk.{Chunk}
use Rattle.ms_base.specs.declared.span.Span.{Span}
use Rattle.ms_base.specs.Interval.{meet}
use Rattle.ms_base.specs.Level.{size_of, highest_level}
use Rattle.ms_base.specs.Held.{meets_chunk}
use Rattle.ms_base.specs.FreeParts.{free_within}
use Rattle.ms_base.proofs.free.HalvesLemmas.{words_over, size_of_halves}
use Rattle.ms_base.proofs.free.FreeLemmas.{part_over, meets_over}
use Rattle.ms_base.proofs.free.RoomLemmas.{clear_within}

-- A part and a chunk moved up by so many words.
abbrev pub raised_part : ℕ → Span → Span
raised_part words part = record part { start = part.start + words }

abbrev pub raised_chunk : ℕ → Chunk → Chunk
raised_chunk words chunk = record chunk { start = chunk.start + words }

-- The chunks meet the parts of a root as other chunks meet those of the root at word 0.
abbrev pub AgreeInRoot : List Chunk → List Chunk → ℕ → Type 0
AgreeInRoot held own root =
    (start level : ℕ) → start + size_of level ≤ size_of 0
    → meets_chunk held (start + root) level ≡ meets_chunk own start level

map_either : (root : ℕ) (b : Bool) (xs ys : List Span)
    → cond b (map (raised_part root) xs) (map (raised_part root) ys) ≡ map (raised_part root) (cond b xs ys)
map_either root true xs ys = refl
map_either root false xs ys = refl

moved_within : (held own : List Chunk) (root : ℕ) → AgreeInRoot held own root → (below start : ℕ)
    → below ≤ highest_level
    → start + words_over below ≤ size_of 0
    → free_within held below (start + root) ≡ map (raised_part root) (free_within own below start)
moved_within held own root agree zero start h fits =
    ap (λ b. cond b [] (raised_part root (part_over 0 start) ∷ [])) (agree start highest_level fits)
    ∙ map_either root (meets_over own 0 start) [] (part_over 0 start ∷ [])
moved_within held own root agree (suc below) start h fits =
    ap (λ b. cond b (free_within held below (start + root) ++ free_within held below (start + root + words_over below))
    (raised_part root (part_over (suc below) start) ∷ []))
    (agree start (highest_level - suc below) fits)
    ∙ ap (λ (middle : ℕ). cond meets (free_within held below (start + root) ++ free_within held below middle) itself)
    turned
    ∙ ap (λ lower. cond meets (lower ++ free_within held below (start + words_over below + root)) itself)
    (moved_within held own root agree below start (omega arith) (omega (arith, fits, size_of_halves below h)))
    ∙ ap (λ upper. cond meets (map (raised_part root) (free_within own below start) ++ upper) itself)
    (moved_within held own root agree below (start + words_over below) (omega arith)
    (omega (arith, fits, size_of_halves below h)))
    ∙ ap (λ both. cond meets both itself)
    (sym (map-append (raised_part root) (free_within own below start)
    (free_within own below (start + words_over below))))
    ∙ map_either root meets (free_within own below start ++ free_within own below (start + words_over below))
    (part_over (suc below) start ∷ [])
  where
    meets : Bool
    meets = meets_over own (suc below) start

    itself : List Span
    itself = raised_part root (part_over (suc below) start) ∷ []

    turned : start + root + words_over below ≡ start + words_over below + root
    turned = omega arith

-- So the root's free parts are those of the other chunks, moved up.
pub free_where_agree : (held own : List Chunk) (root : ℕ) → AgreeInRoot held own root
    → free_within held highest_level root ≡ map (raised_part root) (free_within own highest_level 0)
free_where_agree held own root agree =
    ap (λ (start : ℕ). free_within held highest_level start) from_none
    ∙ moved_within held own root agree highest_level 0 (omega arith) (omega arith)
  where
    from_none : root ≡ 0 + root
    from_none = omega arith

meets_raised : (c s t u root : ℕ) → meet (c + root) s (t + root) u ≡ meet c s t u
meets_raised c s t u root = grind (arith, nat_tests)

-- Its own chunks among others, where no other meets it.
raised_agree : (own : List Chunk) (root start level : ℕ)
    → meets_chunk (map (raised_chunk root) own) (start + root) level ≡ meets_chunk own start level
raised_agree [] root start level = refl
raised_agree (c ∷ own) root start level =
    ap (λ b. b || meets_chunk (map (raised_chunk root) own) (start + root) level)
    (meets_raised c.start (size_of c.level) start (size_of level) root)
    ∙ ap (λ b. meet c.start (size_of c.level) start (size_of level) || b) (raised_agree own root start level)

pub agree_among_others : (before own after : List Chunk) (root : ℕ) → meets_chunk before root 0 ≡ false
    → meets_chunk after root 0 ≡ false
    → AgreeInRoot (before ++ (map (raised_chunk root) own ++ after)) own root
agree_among_others before own after root first last start level fits =
    list_any-append test before (map (raised_chunk root) own ++ after)
    ∙ ap (λ b. meets_chunk before (start + root) level || b)
    (list_any-append test (map (raised_chunk root) own) after)
    ∙ ap (λ b. b
    || (meets_chunk (map (raised_chunk root) own) (start + root) level || meets_chunk after (start + root) level))
    (none before first)
    ∙ ap (λ b. meets_chunk (map (raised_chunk root) own) (start + root) level || b) (none after last)
    ∙ or-false (meets_chunk (map (raised_chunk root) own) (start + root) level) ∙ raised_agree own root start level
  where
    test : Chunk → Bool
    test chunk = meet chunk.start (size_of chunk.level) (start + root) (size_of level)

    none : (others : List Chunk) → meets_chunk others root 0 ≡ false → meets_chunk others (start + root) level ≡ false
    none others clear = clear_within others root 0 (start + root) level (omega arith) (omega (arith, fits)) clear

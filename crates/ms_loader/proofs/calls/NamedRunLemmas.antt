-- The named blocks of a loader by space, as runs and with their contents: what one more, one less
-- and a word that is written make of them.
use Rattle.std.proofs.Common.{◌≡◌, ◌<◌, ◌≤◌, ◌+◌, ◌⊎◌, ℕ, inl, inr, true, false, cond, Some, List, [], ◌∷◌, ◌++◌}
use Rattle.std.proofs.Common.{Bool, map, refl, sym, ap, ◌∙◌, subst, arith}
use Rattle.std.specs.Prelude.{slice_set}
use Rattle.std.specs.List.{AllByRecursion, filter}
use Rattle.std.specs.Map.{values_of}
use Rattle.std.proofs.lemmas.Bool.{both_ways}
use Rattle.std.proofs.lemmas.List.{map-append}
use Rattle.std.proofs.lemmas.List.Elements.{filter-append}
use Rattle.ms_base.specs.declared.kind.Space.{Space}
use Rattle.ms_base.specs.declared.kind.Space.TheVariants.{NonClass, Class}
use Rattle.ms_base.specs.declared.span.Block.{Block}
use Rattle.ms_base.specs.Live.{LiveBlock}
use Rattle.ms_base.specs.Live.{run_of, runs_in}
use Rattle.ms_base.specs.Names.{named, with_new, with_changed, without}
use Rattle.ms_base.specs.Spaces.{other_space, is_in, space_at}
use Rattle.ms_base.specs.Transition.{zeroed}
use Rattle.ms_base.proofs.arena.BlockLemmas.{in_its_space, not_in_other}
use Rattle.ms_arena.specs.Raw.{contents_at}
use Rattle.ms_arena.specs.Words.{WordsView, Opens, Writes, value_at}
use Rattle.ms_arena.proofs.HoldLemmas.{IsClear, clear_words}
use Rattle.ms_arena.proofs.ContentsLemmas.{contents_long, contents_set, contents_stay, contents_zero}
use Rattle.ms_loader.specs.LoaderInside.{WordsBy, live_at, blocks_of, named_runs}
use Rattle.ms_loader.proofs.MappedLemmas.{mapped-agree, new-mapped, changed_where, values-mapped}

-- A word lies in a space or in the other, and there alone.
pub record IsHere (space : Space) (word : ℕ) : Type 0 where
  pub at_is : space_at word ≡ space
  pub inside : is_in space word ≡ true

pub where_is : (space : Space) (word : ℕ) → IsHere space word ⊎ IsHere (other_space space) word
where_is space word = pick space (space_at word) refl
  where
    its : (s : Space) → space_at word ≡ s → IsHere s word
    its s e = record { at_is = e; inside = subst (λ (one : Space). is_in one word ≡ true) e (in_its_space word) }

    pick : (one s : Space) → space_at word ≡ s → IsHere one word ⊎ IsHere (other_space one) word
    pick NonClass NonClass e = inl (its NonClass e)
    pick NonClass Class e = inr (its Class e)
    pick Class NonClass e = inr (its NonClass e)
    pick Class Class e = inl (its Class e)

pub here : (space : Space) (word : ℕ) → is_in space word ≡ true → space_at word ≡ space
here space word h = elim (where_is space word) [
  | inl w ↦ w.at_is
  | inr w ↦ absurd (both_ways (is_in (other_space space) word) (not_in_other space word h) w.inside)
]

-- What is not in the class space is in the other.
pub not_class : (word : ℕ) → is_in Class word ≡ false → is_in NonClass word ≡ true
not_class word e = elim (where_is NonClass word) [
  | inl w ↦ w.inside
  | inr w ↦ absurd (both_ways (is_in Class word) e w.inside)
]

-- Where a named block lies.
abbrev pub run_of_block : Block → ℕ × ℕ
run_of_block block = (block.start, block.words)

-- The runs of named blocks before, at and after a name.
abbrev in_space : Space → ℕ × ℕ → Bool
in_space space run = is_in space run.0

pub runs_joined : (space : Space) (b a : List (ℕ × Block))
    → named_runs space (b ++ a) ≡ named_runs space b ++ named_runs space a
runs_joined space b a =
    ap (λ (l : List Block). filter (in_space space) (map run_of_block l)) (map-append _ b a)
    ∙ ap (filter (in_space space)) (map-append run_of_block (values_of b) (values_of a))
    ∙ filter-append (in_space space) (map run_of_block (values_of b)) (map run_of_block (values_of a))

pub runs_here : (space : Space) (b : List (ℕ × Block)) (name : ℕ) (block : Block) (a : List (ℕ × Block))
    → is_in space block.start ≡ true
    → named_runs space (b ++ (name, block) ∷ a) ≡ named_runs space b ++ run_of_block block ∷ named_runs space a
runs_here space b name block a inside = runs_joined space b ((name, block) ∷ a)
    ∙ ap (λ t. named_runs space b ++ cond t (run_of_block block ∷ named_runs space a) (named_runs space a)) inside

pub runs_there : (space : Space) (b : List (ℕ × Block)) (name : ℕ) (block : Block) (a : List (ℕ × Block))
    → is_in space block.start ≡ false
    → named_runs space (b ++ (name, block) ∷ a) ≡ named_runs space (b ++ a)
runs_there space b name block a outside = runs_joined space b ((name, block) ∷ a)
    ∙ ap (λ t. named_runs space b ++ cond t (run_of_block block ∷ named_runs space a) (named_runs space a)) outside
    ∙ sym (runs_joined space b a)

-- What holds of the runs of a space holds of the blocks.
pub of_blocks : (P : ℕ × ℕ → Type 0) (space : Space) (names : List (ℕ × Block))
    → AllByRecursion P (named_runs space names)
    → AllByRecursion (λ (block : Block). is_in space block.start ≡ true → P (run_of_block block)) (values_of names)
of_blocks P space [] all = tt
of_blocks P space (e ∷ es) all =
    elim (is_in space e.1.start) as (λ t. is_in space e.1.start ≡ t
    → AllByRecursion P (cond t (run_of_block e.1 ∷ named_runs space es) (named_runs space es))
    → (is_in space e.1.start ≡ true → P (run_of_block e.1))
    × AllByRecursion (λ (block : Block). is_in space block.start ≡ true → P (run_of_block block)) (values_of es)) [
      | true ↦ λ e all. ((λ h. all.0), of_blocks P space es all.1)
      | false ↦ λ past all. ((λ h. absurd (both_ways (is_in space e.1.start) past h)), of_blocks P space es all)
    ] refl all

-- A loader's blocks lie where its names say.
pub lies_there : (words : WordsBy) (block : Block) → run_of (live_at words block) ≡ run_of_block block
lies_there words block =
    ap (λ (n : ℕ). (block.start, n)) (contents_long (value_at (words (space_at block.start))) (run_of_block block))

pub runs_are : (words : WordsBy) (names : List (ℕ × Block)) (space : Space)
    → runs_in space (blocks_of words names) ≡ named_runs space names
runs_are words names space =
    ap (λ (l : List LiveBlock). filter (in_space space) (map run_of l)) (values-mapped (live_at words) names)
    ∙ ap (filter (in_space space)) (each (values_of names))
  where
    each : (blocks : List Block) → map run_of (map (live_at words) blocks) ≡ map run_of_block blocks
    each [] = refl
    each (block ∷ blocks) =
        ap (λ (run : ℕ × ℕ). run ∷ map run_of (map (live_at words) blocks)) (lies_there words block)
        ∙ ap (λ (l : List (ℕ × ℕ)). run_of_block block ∷ l) (each blocks)

-- A block's contents in its space.
pub contents_here : (words : WordsBy) (block : Block) (space : Space) → is_in space block.start ≡ true
    → live_at words block ≡ record { start = block.start; contents = contents_at (words space) (run_of_block block) }
contents_here words block space inside =
    ap (λ (s : Space). let its : LiveBlock = record {
      start = block.start;
      contents = contents_at (words s) (run_of_block block);
    } in its) (here space block.start inside)

-- A change of the words of a space that leaves those of each block of it but one.
module _ (space : Space) (was is : WordsBy) (there : is (other_space space) ≡ was (other_space space)) where
  same_block : (block : Block)
      → (is_in space block.start ≡ true → contents_at (is space) (run_of_block block)
      ≡ contents_at (was space) (run_of_block block)) → live_at is block ≡ live_at was block
  same_block block agree =
      ap (λ (contents : List ℕ). let its : LiveBlock = record { start = block.start; contents = contents } in its)
      (elim (where_is space block.start) [
        | inl w ↦ ap (λ (s : Space). contents_at (is s) (run_of_block block)) w.at_is ∙ agree w.inside
            ∙ ap (λ (s : Space). contents_at (was s) (run_of_block block)) (sym w.at_is)
        | inr w ↦ ap (λ (s : Space). contents_at (is s) (run_of_block block)) w.at_is
            ∙ ap (λ (words : WordsView). contents_at words (run_of_block block)) there
            ∙ ap (λ (s : Space). contents_at (was s) (run_of_block block)) (sym w.at_is)
      ])

  -- All blocks, where no word changes.
  pub blocks_stay : (names : List (ℕ × Block))
      → ((word : ℕ) → value_at (is space) word ≡ value_at (was space) word)
      → blocks_of is names ≡ blocks_of was names
  blocks_stay names same = mapped-agree (live_at is) (live_at was) names (each (values_of names))
    where
      each : (blocks : List Block) → AllByRecursion (λ (block : Block). live_at is block ≡ live_at was block) blocks
      each [] = tt
      each (block ∷ blocks) = (
        same_block block (λ inside. contents_stay (value_at (was space)) (value_at (is space)) (run_of_block block)
            (λ word low high. same word)),
        each blocks,
      )

  -- The blocks that lie clear of a run, where no word outside of it changes.
  each_same : (run : ℕ × ℕ) → 0 < run.1
      → ((word : ℕ) → (word < run.0) ⊎ (run.0 + run.1 ≤ word) → value_at (is space) word ≡ value_at (was space) word)
      → (blocks : List Block)
      → AllByRecursion (λ (block : Block). is_in space block.start ≡ true → IsClear run (run_of_block block)) blocks
      → AllByRecursion (λ (block : Block). live_at is block ≡ live_at was block) blocks
  each_same run some outside [] all = tt
  each_same run some outside (block ∷ blocks) all = (
    same_block block (λ inside. contents_stay (value_at (was space)) (value_at (is space)) (run_of_block block)
        (λ word low high. outside word (clear_words run (run_of_block block) word (all.0 inside) low high some))),
    each_same run some outside blocks all.1,
  )

  -- A block made.
  pub made_blocks : (names : List (ℕ × Block)) (name : ℕ) (block : Block) → is_in space block.start ≡ true
      → 0 < block.words → Opens (was space) block.start (block.start + block.words) (is space)
      → AllByRecursion (IsClear (run_of_block block)) (named_runs space names)
      → blocks_of is (with_new names name block) ≡ with_new (blocks_of was names) name (zeroed block.start block.words)
  made_blocks names name block inside some opens clear =
      new-mapped (live_at is) names name block
      ∙ ap (λ (l : List (ℕ × LiveBlock)). with_new l name (live_at is block))
      (mapped-agree (live_at is) (live_at was) names
      (each_same (run_of_block block) some outside (values_of names)
      (of_blocks (IsClear (run_of_block block)) space names clear)))
      ∙ ap (with_new (blocks_of was names) name) (contents_here is block space inside
      ∙ ap (λ (contents : List ℕ). let its : LiveBlock = record { start = block.start; contents = contents } in its)
      (contents_zero (value_at (is space)) (run_of_block block) opens.zero))
    where
      outside : (word : ℕ) → (word < block.start) ⊎ (block.start + block.words ≤ word)
          → value_at (is space) word ≡ value_at (was space) word
      outside word (inl low) = opens.before word low
      outside word (inr high) = opens.after word high

  -- A word of a block written.
  pub written_blocks : (names : List (ℕ × Block)) (name : ℕ) (block : Block) (index value : ℕ)
      → named names name ≡ Some block → is_in space block.start ≡ true → index < block.words
      → Writes (was space) (block.start + index) value (is space)
      → AllByRecursion (IsClear (run_of_block block)) (named_runs space (without names name))
      → blocks_of is names ≡ with_changed (blocks_of was names) name
      (record { start = block.start; contents = slice_set (contents_at (was space) (run_of_block block)) index value })
  written_blocks names name block index value found inside within writes clear =
      changed_where (live_at was) (live_at is) names name block _ found
      (contents_here is block space inside
      ∙ ap (λ (contents : List ℕ). let its : LiveBlock = record { start = block.start; contents = contents } in its)
      (contents_set (value_at (was space)) (value_at (is space)) (run_of_block block) index value within writes.written
      writes.others))
      (each_same (run_of_block block) (omega (arith, within)) outside (values_of (without names name))
      (of_blocks (IsClear (run_of_block block)) space (without names name) clear))
    where
      outside : (word : ℕ) → (word < block.start) ⊎ (block.start + block.words ≤ word)
          → value_at (is space) word ≡ value_at (was space) word
      outside word (inl low) = writes.others word (λ same. omega (arith, same, low))
      outside word (inr high) = writes.others word (λ same. omega (arith, same, high, within))

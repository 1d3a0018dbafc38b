-- The runs of blocks, all of them and those of a space; and a loader's arenas with another one in a
-- space.
use Rattle.std.proofs.Common.{◌≡◌, ℕ, Bool, true, false, cond, inl, inr, arith, List, [], ◌∷◌, ◌++◌, map, refl, ap, ◌∙◌}
use Rattle.std.specs.Prelude.{nat_le, nat_lt}
use Rattle.std.specs.List.{filter}
use Rattle.std.proofs.lemmas.Bool.{cases_lt, lt-ltb, le-ltb, le-leb}
use Rattle.std.proofs.lemmas.Bool.Decides.{nat_tests}
use Rattle.std.proofs.lemmas.List.Elements.{filter-append}
use Rattle.std.specs.Map.{values_of}
use Rattle.std.proofs.lemmas.List.{map-append}
use Rattle.ms_base.specs.Live.{LiveBlock}
use Rattle.ms_base.specs.declared.kind.Space.{Space}
use Rattle.ms_base.specs.declared.kind.Space.TheVariants.{NonClass, Class}
use Rattle.ms_base.specs.Spaces.{other_space, first_class_word, is_in, space_at}
use Rattle.ms_base.specs.Live.{run_of, runs_of, runs_in}
use Rattle.ms_base.specs.State.{ArenaState, LoaderState, arena_of, with_arena}
use Rattle.ms_base.proofs.entries.EntryLemmas.{values_split, values_joined}

-- The runs of blocks before, at and after a name.
pub runs_split : (before after : List (ℕ × LiveBlock)) (name : ℕ) (block : LiveBlock)
    → runs_of (before ++ (name, block) ∷ after) ≡ runs_of before ++ run_of block ∷ runs_of after
runs_split before after name block = ap (map run_of) (values_split before after name block)
    ∙ map-append run_of (values_of before) (block ∷ values_of after)

pub runs_joined : (before after : List (ℕ × LiveBlock)) → runs_of (before ++ after) ≡ runs_of before ++ runs_of after
runs_joined before after =
    ap (map run_of) (values_joined before after) ∙ map-append run_of (values_of before) (values_of after)

-- Those of a space: a part of the runs on each side of a block, and the block where it lies there.
abbrev pub is_run_in : Space → ℕ × ℕ → Bool
is_run_in space run = is_in space run.0

abbrev pub run_in : Space → LiveBlock → List (ℕ × ℕ)
run_in space block = filter (is_run_in space) (run_of block ∷ [])

pub runs_in_split : (space : Space) (before after : List (ℕ × LiveBlock)) (name : ℕ) (block : LiveBlock)
    → runs_in space (before ++ (name, block) ∷ after)
    ≡ runs_in space before ++ (run_in space block ++ runs_in space after)
runs_in_split space before after name block =
    ap (filter (is_run_in space)) (runs_split before after name block)
    ∙ filter-append (is_run_in space) (runs_of before) (run_of block ∷ runs_of after)
    ∙ ap (λ l. runs_in space before ++ l) (filter-append (is_run_in space) (run_of block ∷ []) (runs_of after))

pub runs_in_joined : (space : Space) (before after : List (ℕ × LiveBlock))
    → runs_in space (before ++ after) ≡ runs_in space before ++ runs_in space after
runs_in_joined space before after = ap (filter (is_run_in space)) (runs_joined before after)
    ∙ filter-append (is_run_in space) (runs_of before) (runs_of after)

pub run_in_here : (space : Space) (block : LiveBlock) → is_in space block.start ≡ true
    → run_in space block ≡ run_of block ∷ []
run_in_here space block e = ap (λ b. cond b (run_of block ∷ []) []) e

-- A word lies in its own space, and not in the other.
pub in_its_space : (word : ℕ) → is_in (space_at word) word ≡ true
in_its_space word = elim (cases_lt word first_class_word) [
  | inl below ↦ let e = lt-ltb word first_class_word below in rw e e
  | inr above ↦ let e = le-ltb word first_class_word above in rw e (le-leb first_class_word word above)
]

pub not_in_other : (space : Space) (word : ℕ) → is_in space word ≡ true → is_in (other_space space) word ≡ false
not_in_other NonClass word e = apart word first_class_word e
  where
    apart : (word first : ℕ) → nat_lt word first ≡ true → nat_le first word ≡ false
    apart word first e = grind (arith, nat_tests)
not_in_other Class word e = apart word first_class_word e
  where
    apart : (word first : ℕ) → nat_le first word ≡ true → nat_lt word first ≡ false
    apart word first e = grind (arith, nat_tests)

-- The arenas of a loader with another one in a space.
pub arena_there : (space : Space) (loader : LoaderState) (arena : ArenaState)
    → arena_of space (with_arena space loader arena) ≡ arena
arena_there NonClass loader arena = refl
arena_there Class loader arena = refl

pub arena_elsewhere : (space : Space) (loader : LoaderState) (arena : ArenaState)
    → arena_of (other_space space) (with_arena space loader arena) ≡ arena_of (other_space space) loader
arena_elsewhere NonClass loader arena = refl
arena_elsewhere Class loader arena = refl

-- What the fields of a loader stand for, and what holds of them.
use Rattle.std.specs.Prelude.{◌≡◌, ℕ, List, map}
use Rattle.std.specs.Map.{values_of}
use Rattle.std.specs.List.{filter}
use Rattle.ms_base.specs.declared.kind.Space.{Space}
use Rattle.ms_base.specs.declared.kind.Space.TheVariants.{NonClass, Class}
use Rattle.ms_base.specs.declared.kind.Kind.{Kind}
use Rattle.ms_base.specs.declared.span.Block.{Block}
use Rattle.ms_base.specs.Live.{LiveBlock}
use Rattle.ms_base.specs.Spaces.{by_space, is_in, space_at}
use Rattle.ms_base.specs.Names.{AreNamed}
use Rattle.ms_arena.specs.Raw.{RawArenaView, Holds, contents_at}
use Rattle.ms_arena.specs.Words.{WordsView}
use Rattle.ms_loader.specs.Loader.{LoaderView}
use Rattle.ms_loader.specs.declared.loader.Loader.TheInside.{Inside}

-- The words of an arena in each space.
abbrev pub WordsBy : Type 0
WordsBy = Space → WordsView

-- A named block with its contents, which are words of the arena of its space.
abbrev pub live_at : WordsBy → Block → LiveBlock
live_at words block =
    record { start = block.start; contents = contents_at (words (space_at block.start)) (block.start, block.words) }

-- The named blocks with their contents.
abbrev pub blocks_of : WordsBy → List (ℕ × Block) → List (ℕ × LiveBlock)
blocks_of words names = map (λ (entry : ℕ × Block). (entry.0, live_at words entry.1)) names

-- The words of the named blocks of a space.
abbrev pub named_runs : Space → List (ℕ × Block) → List (ℕ × ℕ)
named_runs space names =
    filter (λ (run : ℕ × ℕ). is_in space run.0) (map (λ (block : Block). (block.start, block.words)) (values_of names))

-- The words of a loader's arenas.
abbrev pub words_in : RawArenaView → RawArenaView → WordsBy
words_in arena class_arena space = (by_space space arena class_arena).words

-- The loader that the fields stand for.
abbrev pub view_of : Inside → LoaderView
view_of a = record {
  owner = a.arena.owner;
  class_owner = a.class_arena.owner;
  state = record {
    kind = a.arena.kind;
    arena = a.arena.books;
    class_arena = a.class_arena.books;
    blocks = blocks_of (words_in a.arena a.class_arena) a.names.entries;
  };
}

-- An arena of a loader lies in its space, follows a kind, and holds the named blocks of the space.
pub record IsArena (space : Space) (kind : Kind) (names : List (ℕ × Block)) (arena : RawArenaView) : Type 0 where
  pub space_is : arena.space ≡ space
  pub kind_is : arena.kind ≡ kind
  pub holds : Holds arena (named_runs space names)

-- There is an arena in each space, and names differ.
pub record IsLoader (a : Inside) : Type 0 where
  pub arena : IsArena NonClass a.arena.kind a.names.entries a.arena
  pub class_arena : IsArena Class a.arena.kind a.names.entries a.class_arena
  pub names : AreNamed a.names.entries

-- What is true of every loader follows from what holds of its fields.
use Rattle.std.proofs.Common.{◌≡◌, refl, subst}
use Rattle.ms_base.specs.declared.kind.Space.{Space}
use Rattle.ms_base.specs.declared.kind.Space.TheVariants.{NonClass, Class}
use Rattle.ms_base.specs.Spaces.{by_space}
use Rattle.ms_base.specs.State.{arena_of}
use Rattle.ms_pool.specs.Account.{AreChunks}
use Rattle.ms_arena.specs.Raw.{RawArenaView, raw_account}
use Rattle.ms_loader.specs.Loader.{IsSoundView, account_in}
use Rattle.ms_loader.specs.LoaderInside.{WordsBy, live_at, words_in, IsLoader, IsArena, view_of}
use Rattle.ms_loader.specs.declared.loader.Loader.TheInside.{Inside}
use Rattle.ms_loader.proofs.MappedLemmas.{rises-mapped}
use Rattle.ms_loader.proofs.calls.NamedRunLemmas.{runs_are}

-- The arena of a space, and the words of both.
abbrev pub arena_in : Space → Inside → RawArenaView
arena_in space a = by_space space a.arena a.class_arena

abbrev pub words_at : Inside → WordsBy
words_at a = words_in a.arena a.class_arena

pub is_arena : (a : Inside) → IsLoader a → (space : Space)
    → IsArena space a.arena.kind a.names.entries (arena_in space a)
is_arena a its NonClass = its.arena
is_arena a its Class = its.class_arena

pub books_of : (a : Inside) (space : Space) → arena_of space (view_of a).state ≡ (arena_in space a).books
books_of a NonClass = refl
books_of a Class = refl

pub view_is_sound : (a : Inside) → IsLoader a → IsSoundView (view_of a)
view_is_sound a its = record {
  sound = record {
    arenas = λ space. rw (books_of a space, runs_are (words_at a) a.names.entries space)
        (is_arena a its space).holds.sound;
    names = rises-mapped (live_at (words_at a)) a.names.entries its.names;
  };
  chunks = λ space. rw (books_of a space)
      (subst (λ (one : Space). AreChunks one (arena_in space a).books.chunks) (is_arena a its space).space_is
      (is_arena a its space).holds.chunks);
}

-- The account of an arena is the loader's in its space.
pub own_account : (a : Inside) → IsLoader a → raw_account a.arena ≡ account_in NonClass (view_of a)
own_account a its =
    λ i. record { owner = a.arena.owner; space = its.arena.space_is i; chunks = a.arena.books.chunks }

pub own_class_account : (a : Inside) → IsLoader a → raw_account a.class_arena ≡ account_in Class (view_of a)
own_class_account a its =
    λ i. record { owner = a.class_arena.owner; space = its.class_arena.space_is i; chunks = a.class_arena.books.chunks }

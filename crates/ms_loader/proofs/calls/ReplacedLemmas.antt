-- A loader of which one arena and the names are replaced.
use Rattle.std.proofs.Common.{◌≡◌, ℕ, Result, Ok, Err, List, refl, sym, ap, ◌∙◌, subst}
use Rattle.std.proofs.Common.{IfOk, IfErr}
use Rattle.ms_base.specs.declared.kind.Kind.{Kind}
use Rattle.ms_base.specs.declared.kind.Space.{Space}
use Rattle.ms_base.specs.declared.kind.Space.TheVariants.{NonClass, Class}
use Rattle.ms_base.specs.declared.span.Block.{Block}
use Rattle.ms_base.specs.Live.{LiveBlock}
use Rattle.ms_base.specs.Spaces.{by_space, other_space}
use Rattle.ms_base.specs.Names.{AreNamed}
use Rattle.ms_base.specs.State.{LoaderState, arena_of, with_arena}
use Rattle.ms_arena.specs.Raw.{RawArenaView, Holds}
use Rattle.ms_arena.specs.Words.{WordsView, value_at}
use Rattle.ms_loader.specs.Loader.{LoaderView, with_state}
use Rattle.ms_loader.specs.Naming.{BlockNames}
use Rattle.ms_loader.specs.LoaderInside.{blocks_of, named_runs, IsLoader, view_of}
use Rattle.ms_loader.specs.declared.loader.Loader.TheInside.{Inside}
use Rattle.ms_loader.proofs.calls.NamedRunLemmas.{blocks_stay}
use Rattle.ms_loader.proofs.calls.ViewLemmas.{arena_in, words_at}

-- What follows from an answer.
pub ok_then : {A E : Type 0} (P Q : A → Type 0) (answer : Result A E) → ((a : A) → P a → Q a) → IfOk answer P
    → IfOk answer Q
ok_then P Q (Ok a) each its = each a its
ok_then P Q (Err e) each its = tt

pub err_then : {A E : Type 0} (P Q : E → Type 0) (answer : Result A E) → ((e : E) → P e → Q e) → IfErr answer P
    → IfErr answer Q
err_then P Q (Ok a) each its = tt
err_then P Q (Err e) each its = each e its

-- The loader with another arena in a space, and other names.
abbrev pub with_arena_at : Space → Inside → RawArenaView → BlockNames → Inside
with_arena_at space a arena names =
    record a { arena = by_space space arena a.arena; class_arena = by_space space a.class_arena arena; names = names }

pub words_there : (space : Space) (a : Inside) (arena : RawArenaView) (names : BlockNames)
    → words_at (with_arena_at space a arena names) (other_space space) ≡ words_at a (other_space space)
words_there NonClass a arena names = refl
words_there Class a arena names = refl

pub words_now : (space : Space) (a : Inside) (arena : RawArenaView) (names : BlockNames)
    → words_at (with_arena_at space a arena names) space ≡ arena.words
words_now NonClass a arena names = refl
words_now Class a arena names = refl

pub words_here : (space : Space) (a : Inside) → words_at a space ≡ (arena_in space a).words
words_here NonClass a = refl
words_here Class a = refl

pub blocks_same : (space : Space) (a : Inside) (arena : RawArenaView) (names : BlockNames) (entries : List (ℕ × Block))
    → arena.words ≡ (arena_in space a).words
    → blocks_of (words_at (with_arena_at space a arena names)) entries ≡ blocks_of (words_at a) entries
blocks_same space a arena names entries e =
    blocks_stay space (words_at a) (words_at (with_arena_at space a arena names)) (words_there space a arena names)
    entries
    (λ word. ap (λ (words : WordsView). value_at words word)
    (words_now space a arena names ∙ e ∙ sym (words_here space a)))

pub replaced : (space : Space) (a : Inside) (arena : RawArenaView) (names : BlockNames) → IsLoader a
    → arena.space ≡ (arena_in space a).space → arena.kind ≡ (arena_in space a).kind
    → AreNamed names.entries → Holds arena (named_runs space names.entries)
    → named_runs (other_space space) names.entries ≡ named_runs (other_space space) a.names.entries
    → IsLoader (with_arena_at space a arena names)
replaced NonClass a arena names its space kind rises holds others = record {
  arena = record { space_is = space ∙ its.arena.space_is; kind_is = refl; holds = holds };
  class_arena = record {
    space_is = its.class_arena.space_is;
    kind_is = its.class_arena.kind_is ∙ sym kind;
    holds = subst (Holds a.class_arena) (sym others) its.class_arena.holds;
  };
  names = rises;
}
replaced Class a arena names its space kind rises holds others = record {
  arena = record {
    space_is = its.arena.space_is;
    kind_is = refl;
    holds = subst (Holds a.arena) (sym others) its.arena.holds;
  };
  class_arena = record {
    space_is = space ∙ its.class_arena.space_is;
    kind_is = kind ∙ its.class_arena.kind_is;
    holds = holds;
  };
  names = rises;
}

-- A loader as it was, but for the arena of a space and its blocks.
pub changed_view : (space : Space) (a : Inside) (arena : RawArenaView) (names : BlockNames)
    (blocks : List (ℕ × LiveBlock)) → arena.owner ≡ (arena_in space a).owner
    → arena.kind ≡ (arena_in space a).kind → blocks_of (words_at (with_arena_at space a arena names)) names.entries
    ≡ blocks
    → view_of (with_arena_at space a arena names)
    ≡ with_state (view_of a) (with_arena space (record (view_of a).state { blocks = blocks }) arena.books)
changed_view NonClass a arena names blocks owner kind same =
    ap (λ (o : ℕ). view o arena.kind (blocks_of (words_at (with_arena_at NonClass a arena names)) names.entries))
    owner
    ∙ ap (λ (k : Kind). view a.arena.owner k
    (blocks_of (words_at (with_arena_at NonClass a arena names)) names.entries)) kind
    ∙ ap (view a.arena.owner a.arena.kind) same
  where
    view : ℕ → Kind → List (ℕ × LiveBlock) → LoaderView
    view owner kind blocks = record {
      owner = owner;
      class_owner = a.class_arena.owner;
      state = record { kind = kind; arena = arena.books; class_arena = a.class_arena.books; blocks = blocks };
    }
changed_view Class a arena names blocks owner kind same =
    ap (λ (o : ℕ). view o (blocks_of (words_at (with_arena_at Class a arena names)) names.entries)) owner
    ∙ ap (view a.class_arena.owner) same
  where
    view : ℕ → List (ℕ × LiveBlock) → LoaderView
    view owner blocks = record {
      owner = a.arena.owner;
      class_owner = owner;
      state = record { kind = a.arena.kind; arena = a.arena.books; class_arena = arena.books; blocks = blocks };
    }

pub owners_stay : (new old : LoaderView) (state : LoaderState) → new ≡ with_state old state → new ≡ with_state old new.state
owners_stay new old state is = is ∙ ap (with_state old) (sym (ap (λ (v : LoaderView). v.state) is))

pub same_arena : (space : Space) (loader : LoaderState) → with_arena space loader (arena_of space loader) ≡ loader
same_arena NonClass loader = refl
same_arena Class loader = refl

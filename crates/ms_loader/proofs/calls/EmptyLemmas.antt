-- A loader with no name, whose arenas are new: it is the new one, and they hold nothing.
-- `Loader::new` and `Loader::renew` use these.
use Rattle.std.proofs.Common.{◌≡◌, ℕ, List, [], ◌∷◌, ◌++◌, false, inl, inr, refl, ◌∙◌, ap, sym, subst, arith, rules}
use Rattle.std.specs.List.{list_all, list_any, zip}
use Rattle.std.proofs.lemmas.Bool.{and_left, both_ways}
use Rattle.std.proofs.lemmas.List.Elements.{All-from_recursion}
use Rattle.ms_base.specs.declared.kind.Kind.{Kind}
use Rattle.ms_base.specs.declared.kind.Space.{Space}
use Rattle.ms_base.specs.declared.kind.Space.TheVariants.{NonClass, Class}
use Rattle.ms_base.specs.declared.span.Block.{Block}
use Rattle.ms_base.specs.declared.span.Chunk.{Chunk}
use Rattle.ms_base.specs.State.{ArenaState}
use Rattle.ms_base.specs.Good.{IsSound, is_in_use}
use Rattle.ms_base.specs.Interval.{lies_in}
use Rattle.ms_base.specs.Names.{AreNamed}
use Rattle.ms_base.proofs.machine.GoodLemmas.{empty_is_sound}
use Rattle.ms_pool.specs.Account.{AccountState, AreChunks}
use Rattle.ms_arena.specs.Raw.{RawArenaView, IsNewRaw, Holds, RunIsThere}
use Rattle.ms_loader.specs.Loader.{new_loader}
use Rattle.ms_loader.specs.LoaderInside.{IsArena, IsLoader, blocks_of, named_runs, view_of, words_in}
use Rattle.ms_loader.specs.Naming.{BlockNames}
use Rattle.ms_loader.proofs.calls.NamedRunLemmas.{runs_here, where_is}

-- Nothing is lent where no chunk is.
pub nothing_lent : (space : Space) → AreChunks space []
nothing_lent space = search rules

-- An arena with nothing is sound, and holds no block.
pub nothing_held : (account : AccountState) (kind : Kind) (raw : RawArenaView) → IsNewRaw account kind raw → Holds raw []
nothing_held account kind raw new = record {
  chunks = subst (λ (books : ArenaState). AreChunks raw.space books.chunks) (sym new.books) (nothing_lent raw.space);
  sound = subst (λ (books : ArenaState). IsSound books []) (sym new.books) empty_is_sound;
  counted = new.count;
  summed = new.total;
  there = All-from_recursion (RunIsThere raw.words) [] tt;
}

its_arena : (space : Space) (account : AccountState) (kind is : Kind) (raw : RawArenaView) (names : List (ℕ × Block))
    → account.space ≡ space → kind ≡ is → names ≡ [] → IsNewRaw account kind raw → IsArena space is names raw
its_arena space account kind is raw names space_is kind_is none new = record {
  space_is = new.space ∙ space_is;
  kind_is = new.kind_is ∙ kind_is;
  holds = subst (λ (l : List (ℕ × Block)). Holds raw (named_runs space l)) (sym none) (nothing_held account kind raw new);
}

module _ (account class_account : AccountState) (kind : Kind) (arena class_arena : RawArenaView) (names : BlockNames)
    (is : IsNewRaw account kind arena) (class_is : IsNewRaw class_account kind class_arena) (none : names.entries ≡ [])
  where
    -- What its fields stand for is a new loader.
    pub new_is : view_of (record { arena = arena; class_arena = class_arena; names = names })
        ≡ new_loader account class_account kind
    new_is = λ i. record {
      owner = is.owner i;
      class_owner = class_is.owner i;
      state = record {
        kind = is.kind_is i;
        arena = is.books i;
        class_arena = class_is.books i;
        blocks = blocks_of (words_in arena class_arena) (none i);
      };
    }

    -- And its fields are a loader's.
    pub new_holds : account.space ≡ NonClass → class_account.space ≡ Class
        → IsLoader (record { arena = arena; class_arena = class_arena; names = names })
    new_holds space class_space = record {
      arena = its_arena NonClass account kind arena.kind arena names.entries space (sym is.kind_is) none is;
      class_arena =
          its_arena Class class_account kind arena.kind class_arena names.entries class_space (sym is.kind_is) none
          class_is;
      names = subst AreNamed (sym none) (λ k h. absurd (omega arith));
    }

-- An arena that holds no chunk has no live block.
nothing_live : (raw : RawArenaView) (runs : List (ℕ × ℕ)) → Holds raw runs → raw.books.chunks ≡ [] → runs ≡ []
nothing_live raw [] holds none = refl
nothing_live raw (run ∷ runs) holds none =
    absurd (both_ways (list_all (is_in_use raw.books) ((run ∷ runs) ++ raw.books.kept))
    (and_left (is_in_use raw.books run) (list_all (is_in_use raw.books) (runs ++ raw.books.kept)) nowhere)
    holds.sound.inside)
  where
    nowhere : is_in_use raw.books run ≡ false
    nowhere =
        ap (λ (chunks : List Chunk). list_any (λ (used : Chunk × ℕ). lies_in run (used.0.start, used.1))
        (zip chunks raw.books.tops)) none

-- So where neither arena holds one, no block has a name.
pub no_name : (arena class_arena : RawArenaView) (names : List (ℕ × Block)) → Holds arena (named_runs NonClass names)
    → Holds class_arena (named_runs Class names) → arena.books.chunks ≡ [] → class_arena.books.chunks ≡ [] → names ≡ []
no_name arena class_arena [] holds class_holds none class_none = refl
no_name arena class_arena (entry ∷ names) holds class_holds none class_none =
    absurd (elim (where_is NonClass entry.1.start) [
      | inl w ↦
          no_cons (sym (runs_here NonClass [] entry.0 entry.1 names w.inside) ∙ nothing_live arena _ holds none)
      | inr w ↦
          no_cons (sym (runs_here Class [] entry.0 entry.1 names w.inside) ∙ nothing_live class_arena _ class_holds class_none)
    ])
  where
    no_cons : {run : ℕ × ℕ} {runs : List (ℕ × ℕ)} → run ∷ runs ≡ [] → ⊥
    no_cons e = absurd (cc)

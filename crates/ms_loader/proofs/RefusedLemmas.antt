-- Why no block gets a name, from what the arena or the table tells. `allocate_in` and those that it
-- calls use this, and the loader's `allocate`.
use Rattle.std.proofs.Common.{◌≡◌, ℕ, None, Result, Ok, Err, List, inl, inr}
use Rattle.std.specs.Prelude.{IfErr, IsErrAnd}
use Rattle.std.proofs.lemmas.Result.{err_from_is_err_and}
use Rattle.ms_base.specs.declared.span.Block.{Block}
use Rattle.ms_base.specs.declared.refusal.Refusal.{Refusal}
use Rattle.ms_base.specs.declared.refusal.Refusal.TheVariants.{BlockExists}
use Rattle.ms_base.specs.Names.{named}
use Rattle.ms_base.specs.Hashed.{by_name}
use Rattle.ms_arena.specs.Arena.{PlaceRefused, AllocRefused}
use Rattle.ms_loader.specs.Naming.{EnterRefused, NamedRefused}
use Rattle.ms_loader.specs.Loader.{BlockRefused}
use Rattle.ms_loader.specs.LoaderInside.{view_of}
use Rattle.ms_loader.specs.Table.{TableView, entries_of, in_row, no_block}
use Rattle.ms_loader.specs.declared.loader.Loader.TheInside.{Inside}
use Rattle.ms_loader.proofs.BesideLemmas.{cause_there, has_there}
use Rattle.ms_loader.proofs.calls.LoaderAllocLemmas.{name_is_refused}

-- A new name for which the arena has no chunk, or that finds no room, is not entered.
pub new_refused : (names : List (ℕ × Block)) (name words : ℕ) (refusal : Refusal) → named names name ≡ None
    → PlaceRefused words refusal → EnterRefused names name words refusal
new_refused names name words BlockExists unused its = absurd its
new_refused names name words _ unused its = (unused, its)

-- Under a new name the arena refuses a block, and the refusal is handed on.
not_given : (names : List (ℕ × Block)) (name words : ℕ) (refusal : Refusal) → named names name ≡ None
    → AllocRefused words refusal → NamedRefused names name words refusal
not_given names name words refusal unused (inl its) = inl (new_refused names name words refusal unused its)
not_given names name words refusal unused (inr its) = inr its.1

pub arena_refused : (names : List (ℕ × Block)) (name words : ℕ) (refusal : Refusal) (answer : Result Block Refusal)
    → named names name ≡ None → IsErrAnd answer (λ told. told ≡ refusal) → AllocRefused words refusal
    → IfErr answer (NamedRefused names name words)
arena_refused names name words refusal answer unused told its =
    let is = err_from_is_err_and answer told in
    rw (is.1, is.2) (not_given names name words refusal unused its)

-- What is refused beside the row is refused among all names.
pub beside_refused : (table : TableView) (name words : ℕ) (answer : Result Block Refusal)
    → in_row table.first table.row name ≡ no_block
    → IfErr answer (NamedRefused (by_name table.others) name words)
    → IfErr answer (NamedRefused (by_name (entries_of table)) name words)
beside_refused table name words (Ok block) none its = tt
beside_refused table name words (Err refusal) none (inl its) =
    inl (cause_there (by_name (entries_of table)) (by_name table.others) name words refusal (has_there table name none) its)
beside_refused table name words (Err refusal) none (inr its) = inr its

-- What is refused under a name of the loader's is refused by the loader.
pub block_refused : (a : Inside) (name words : ℕ) (answer : Result Block Refusal)
    → IfErr answer (NamedRefused a.names.entries name words) → IfErr answer (BlockRefused (view_of a) name words)
block_refused a name words (Ok block) its = tt
block_refused a name words (Err refusal) (inl its) = inl (name_is_refused a name words refusal its)
block_refused a name words (Err refusal) (inr its) = inr its

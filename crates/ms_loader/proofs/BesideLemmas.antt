-- An allocation under a name beside the row is one under a name of the table. `allocate_in` uses
-- this.
use Rattle.std.proofs.Common.{◌≡◌, ℕ, cond, Some, Result, Ok, Err, List, sym, ap, ◌∙◌, inl, inr}
use Rattle.std.specs.Prelude.{nat_eq}
use Rattle.std.specs.Map.{lookup}
use Rattle.std.proofs.lemmas.Bool.{cases_eq, eq-eqb, ne_eqb}
use Rattle.ms_base.specs.declared.policy.Policy.{Policy}
use Rattle.ms_base.specs.declared.span.Block.{Block}
use Rattle.ms_base.specs.declared.refusal.Refusal.{Refusal}
use Rattle.ms_base.specs.declared.refusal.Refusal.TheVariants.{BlockExists}
use Rattle.ms_base.specs.Hashed.{by_name}
use Rattle.ms_base.specs.Names.{named, with_new}
use Rattle.ms_base.proofs.entries.HashedLemmas.{named_by_name}
use Rattle.ms_base.proofs.entries.LookupLemmas.{named_new_same, named_new_other}
use Rattle.ms_arena.specs.Alloc.{TakeRelation, GrowRelation}
use Rattle.ms_arena.specs.Raw.{RawArenaView}
use Rattle.ms_loader.specs.Naming.{AllocatesNamed, EnterRefused, names_after}
use Rattle.ms_loader.specs.Table.{TableView, NamesAnew, block_of, entries_of, in_row, no_block, unless_none}
use Rattle.ms_loader.proofs.TableLemmas.{named_of, new_entries, stay_entries}

-- The table with these others.
abbrev pub with_others : TableView → List (ℕ × Block) → TableView
with_others table others = record { first = table.first; row = table.row; others = others }

-- The name has among all what it has among the others.
pub has_there : (table : TableView) (name : ℕ) → in_row table.first table.row name ≡ no_block
    → named (by_name (entries_of table)) name ≡ named (by_name table.others) name
has_there table name none =
    named_of table name ∙ ap (λ b. unless_none b (lookup (nat_eq name) table.others)) none
    ∙ sym (named_by_name table.others name)

pub cause_there : (names others : List (ℕ × Block)) (name words : ℕ) (refusal : Refusal)
    → named names name ≡ named others name → EnterRefused others name words refusal
    → EnterRefused names name words refusal
cause_there names others name words BlockExists same cause = (cause.0, same ∙ cause.1)
cause_there names others name words _ same cause = (same ∙ cause.0, cause.1)

stay_there : (table : TableView) (others : List (ℕ × Block)) → by_name others ≡ by_name table.others
    → by_name (entries_of (with_others table others)) ≡ by_name (entries_of table)
stay_there table others same = stay_entries table (with_others table others)
    (λ name. ap (λ found. unless_none (in_row table.first table.row name) found)
    (sym (named_by_name others name) ∙ ap (λ es. named es name) same ∙ named_by_name table.others name))

comes_there : (table : TableView) (others : List (ℕ × Block)) (name : ℕ) (block : Block)
    → in_row table.first table.row name ≡ no_block → by_name others ≡ with_new (by_name table.others) name block
    → NamesAnew table name (Some block) (with_others table others)
comes_there table others name block none comes other = elim (cases_eq name other) [
  | inl same ↦
      ap (λ b. unless_none b (lookup (nat_eq other) others))
      (ap (in_row table.first table.row) (sym same) ∙ none)
      ∙ sym (named_by_name others other) ∙ ap (λ es. named es other) comes
      ∙ ap (named (with_new (by_name table.others) name block)) (sym same)
      ∙ named_new_same (by_name table.others) name block
      ∙ sym (ap (λ b. cond b (Some block) (block_of table other)) (eq-eqb name other same))
  | inr differ ↦
      ap (λ found. unless_none (in_row table.first table.row other) found)
      (sym (named_by_name others other) ∙ ap (λ es. named es other) comes
      ∙ named_new_other (by_name table.others) name block other differ ∙ named_by_name table.others other)
      ∙ sym (ap (λ b. cond b (Some block) (block_of table other)) (ne_eqb name other differ))
]

after_there : (table : TableView) (others : List (ℕ × Block)) (name : ℕ) (answer : Result Block Refusal)
    → in_row table.first table.row name ≡ no_block → by_name others ≡ names_after (by_name table.others) name answer
    → by_name (entries_of (with_others table others)) ≡ names_after (by_name (entries_of table)) name answer
after_there table others name (Ok block) none are =
    new_entries table (with_others table others) name block (comes_there table others name block none are)
after_there table others name (Err refusal) none are = stay_there table others are

pub beside : {S : Type 0} (grew : GrowRelation S) (took : TakeRelation S) (policy : Policy) (table : TableView)
    (others : List (ℕ × Block)) (was : RawArenaView) (name words : ℕ) (before : S) (answer : Result Block Refusal)
    (is : RawArenaView) (after : S) → in_row table.first table.row name ≡ no_block
    → AllocatesNamed grew took policy (by_name table.others) was name words before answer (by_name others) is after
    → AllocatesNamed grew took policy (by_name (entries_of table)) was name words before answer
    (by_name (entries_of (with_others table others))) is after
beside grew took policy table others was name words before answer is after none (inl r) = inl (record {
  refusal = r.refusal;
  answer_is = r.answer_is;
  cause = cause_there (by_name (entries_of table)) (by_name table.others) name words r.refusal
      (has_there table name none) r.cause;
  names_stay = stay_there table others r.names_stay;
  arena = r.arena;
  source = r.source;
})
beside grew took policy table others was name words before answer is after none (inr r) = inr (record {
  unused = has_there table name none ∙ r.unused;
  names_are = after_there table others name answer none r.names_are;
  allocates = r.allocates;
  gains = r.gains;
  unchanged = r.unchanged;
})

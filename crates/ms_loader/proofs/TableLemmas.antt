-- Names in two parts are one list in rising order, and a change of either part is one of that list.
use Rattle.std.proofs.Common.{◌≡◌, ◌+◌, ◌-◌, ◌<◌, ◌≤◌, ◌++◌, ℕ, cond, Option, Some, None, List, [], ◌∷◌, refl, sym, ap, true, false}
use Rattle.std.proofs.Common.{◌∙◌, arith, zero, suc, length}
use Rattle.std.specs.Prelude.{nat_eq, nat_lt}
use Rattle.std.specs.Map.{lookup}
use Rattle.std.proofs.lemmas.Bool.{ne_eqb, eq-eqb, le-ltb, lt-ltb, ltb-true, ltb-false}
use Rattle.std.proofs.lemmas.List.{get_or_past}
use Rattle.std.proofs.lemmas.Map.Entries.{lookup_head, lookup_tail}
use Rattle.ms_base.specs.declared.span.Block.{Block}
use Rattle.ms_base.specs.Hashed.{by_name}
use Rattle.ms_base.specs.Names.{named, with_new, without}
use Rattle.ms_base.proofs.entries.HashedLemmas.{by_name_is, named_by_name, new_by_name, without_by_name, rises_by_name}
use Rattle.ms_loader.specs.Table.{TableView, NamesAnew, StayNamed, block_of, entries_of, listed, at_slot, no_block}
use Rattle.ms_loader.specs.Table.{in_row}
use Rattle.ms_loader.specs.Table.{unless_none}

-- A name that counts up to none of a list is looked up past it.
lookup_past : (row : List Block) (others : List (ℕ × Block)) (from name : ℕ) → name < from
    → lookup (nat_eq name) (listed from row ++ others) ≡ lookup (nat_eq name) others
lookup_past [] others from name before = refl
lookup_past (block ∷ more) others from name before =
    elim (nat_eq block.words 0) as (λ t.
    lookup (nat_eq name) (cond t (listed (from + 1) more) ((from, block) ∷ listed (from + 1) more) ++ others)
    ≡ lookup (nat_eq name) others) [
      | true ↦ lookup_past more others (from + 1) name (omega (arith, before))
      | false ↦ lookup_tail (nat_eq name) (from, block) (listed (from + 1) more ++ others)
          (ne_eqb name from (λ same. absurd (omega (arith, before, same))))
          ∙ lookup_past more others (from + 1) name (omega (arith, before))
    ]

-- What has a name is at its slot of the list, or else past it.
lookup_listed : (row : List Block) (others : List (ℕ × Block)) (from at name : ℕ) → name ≡ from + at
    → lookup (nat_eq name) (listed from row ++ others) ≡ unless_none (at_slot row at) (lookup (nat_eq name) others)
lookup_listed [] others from at name is = refl
lookup_listed (block ∷ more) others from zero name is =
    elim (nat_eq block.words 0) as (λ t.
    lookup (nat_eq name) (cond t (listed (from + 1) more) ((from, block) ∷ listed (from + 1) more) ++ others)
    ≡ cond t (lookup (nat_eq name) others) (Some block)) [
      | true ↦ lookup_past more others (from + 1) name (omega (arith, is))
      | false ↦ lookup_head (nat_eq name) (from, block) (listed (from + 1) more ++ others)
          (eq-eqb name from (omega (arith, is)))
    ]
lookup_listed (block ∷ more) others from (suc at) name is =
    elim (nat_eq block.words 0) as (λ t.
    lookup (nat_eq name) (cond t (listed (from + 1) more) ((from, block) ∷ listed (from + 1) more) ++ others)
    ≡ unless_none (at_slot more at) (lookup (nat_eq name) others)) [
      | true ↦ lookup_listed more others (from + 1) at name (omega (arith, is))
      | false ↦ lookup_tail (nat_eq name) (from, block) (listed (from + 1) more ++ others)
          (ne_eqb name from (λ same. absurd (omega (arith, is, same))))
          ∙ lookup_listed more others (from + 1) at name (omega (arith, is))
    ]

pub lookup_entries : (table : TableView) (name : ℕ) → lookup (nat_eq name) (entries_of table) ≡ block_of table name
lookup_entries table name = elim (nat_lt name table.first) as (λ b. nat_lt name table.first ≡ b
    → lookup (nat_eq name) (entries_of table)
    ≡ unless_none (cond b no_block (at_slot table.row (name - table.first))) (lookup (nat_eq name) table.others)) [
      | true ↦ λ before. lookup_past table.row table.others table.first name (ltb-true name table.first before)
      | false ↦ λ within. lookup_listed table.row table.others table.first (name - table.first) name
          (omega (arith, ltb-false name table.first within))
    ] refl

-- Which block has a name, in the list in rising order.
pub named_of : (table : TableView) (name : ℕ) → named (by_name (entries_of table)) name ≡ block_of table name
named_of table name = named_by_name (entries_of table) name ∙ lookup_entries table name

-- Tables in which all names have the same blocks are one list.
pub stay_entries : (old new : TableView) → StayNamed old new → by_name (entries_of new) ≡ by_name (entries_of old)
stay_entries old new stay =
    by_name_is (entries_of new) (by_name (entries_of old)) (rises_by_name (entries_of old))
    (λ name. lookup_entries new name ∙ stay name ∙ sym (named_of old name))

-- A table in which no name has a block.
pub no_entries : (table : TableView) → ((name : ℕ) → block_of table name ≡ None) → by_name (entries_of table) ≡ []
no_entries table none =
    by_name_is (entries_of table) [] (rises_by_name {X = Block} []) (λ name. lookup_entries table name ∙ none name)

-- A name that comes, and one that goes.
sets : (old new : TableView) (name : ℕ) (block : Option Block) → NamesAnew old name block new → (other : ℕ)
    → lookup (nat_eq other) (entries_of new) ≡ cond (nat_eq name other) block (lookup (nat_eq other) (entries_of old))
sets old new name block anew other =
    lookup_entries new other ∙ anew other
    ∙ ap (λ found. cond (nat_eq name other) block found) (sym (lookup_entries old other))

pub new_entries : (old new : TableView) (name : ℕ) (block : Block) → NamesAnew old name (Some block) new
    → by_name (entries_of new) ≡ with_new (by_name (entries_of old)) name block
new_entries old new name block anew =
    new_by_name (entries_of old) (entries_of new) name block (sets old new name (Some block) anew)

pub without_entries : (old new : TableView) (name : ℕ) → NamesAnew old name None new
    → by_name (entries_of new) ≡ without (by_name (entries_of old)) name
without_entries old new name anew =
    without_by_name (entries_of old) (entries_of new) name (sets old new name None anew)

-- The block of a name by its slot, and of a name that has none.
pub at_its_slot : (first : ℕ) (row : List Block) (slot name : ℕ) → name ≡ first + slot
    → in_row first row name ≡ at_slot row slot
at_its_slot first row slot name is =
    ap (λ b. cond b no_block (at_slot row (name - first))) (le-ltb name first (omega (arith, is)))
    ∙ ap (at_slot row) (omega (arith, is))

pub before_row : (first : ℕ) (row : List Block) (name : ℕ) → name < first → in_row first row name ≡ no_block
before_row first row name before = ap (λ b. cond b no_block (at_slot row (name - first))) (lt-ltb name first before)

pub past_row : (first : ℕ) (row : List Block) (name : ℕ) → first + length row ≤ name → in_row first row name ≡ no_block
past_row first row name past =
    at_its_slot first row (name - first) name (omega (arith, past))
    ∙ get_or_past row (name - first) no_block (omega (arith, past))

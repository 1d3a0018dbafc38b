-- A block by where it lies: an entry of a hash map that has it gives its name, and the name that
-- stands for it is a live block's there. `Table::name_of`, `Loader::name_of` and
-- `System::free_block` use these.
use Rattle.std.proofs.Common.{◌≡◌, ◌||◌, ◌&&◌, ℕ, ◌==◌, true, false, Some, None, Option, List, [], ◌∷◌, refl, sym, ap}
use Rattle.std.proofs.Common.{◌∙◌, subst, inl, inr, option_map, cond}
use Rattle.std.proofs.lemmas.Option.{same_Some}
use Rattle.std.specs.Prelude.{nat_eq, IfSome, IfNone}
use Rattle.std.specs.List.{AllByRecursion, IsDistinct, list_any}
use Rattle.std.specs.Map.{keys_of, lookup}
use Rattle.std.proofs.lemmas.Bool.{and_parts, and_from, or_cases, eqb-true, eq-eqb, ne_eqb, both_ways, cases_eq, false≢true}
use Rattle.std.proofs.lemmas.Map.Entries.{lookup_head, lookup_tail}
use Rattle.std.proofs.lemmas.Map.Keys.{IsDistinct-head, IsDistinct-tail}
use Rattle.ms_base.specs.declared.span.Block.{Block}
use Rattle.ms_base.specs.Live.{LiveBlock}
use Rattle.ms_base.specs.declared.refusal.Refusal.{Refusal}
use Rattle.ms_base.specs.declared.refusal.Refusal.TheVariants.{NoLoader, NoBlock}
use Rattle.ms_base.specs.Live.{run_of}
use Rattle.ms_base.specs.Names.{named}
use Rattle.ms_base.specs.State.{LoaderState, Machine}
use Rattle.ms_base.specs.Transition.{HasLoader, BlockCause}
use Rattle.ms_loader.specs.Finding.{names_block, HasRun}
use Rattle.ms_loader.specs.Table.{TableView, block_of, in_row}
use Rattle.ms_loader.specs.LoaderInside.{live_at, IsLoader, view_of}
use Rattle.ms_loader.specs.declared.loader.Loader.TheInside.{Inside}
use Rattle.ms_loader.proofs.MappedLemmas.{found-mapped, named-mapped}
use Rattle.ms_loader.proofs.calls.NamedRunLemmas.{lies_there}
use Rattle.ms_loader.proofs.calls.ViewLemmas.{words_at}

-- Blocks that start at one word are one.
same_block : (x y : Block) → x.start ≡ y.start → x.words ≡ y.words → x ≡ y
same_block x y e f =
    ap (λ (n : ℕ). let made : Block = record { start = n; words = x.words } in made) e
    ∙ ap (λ (n : ℕ). let made : Block = record { start = y.start; words = n } in made) f

-- Whether an entry has the name and the block.
its_parts : (name : ℕ) (block : Block) (e : ℕ × Block) → names_block name block e ≡ true
    → (e.0 ≡ name) × (e.1 ≡ block)
its_parts name block e h =
    let both = and_parts (e.0 == name) ((e.1.start == block.start) && (e.1.words == block.words)) h in
    let inner = and_parts (e.1.start == block.start) (e.1.words == block.words) both.1 in (
      eqb-true e.0 name both.0,
      same_block e.1 block (eqb-true e.1.start block.start inner.0) (eqb-true e.1.words block.words inner.1),
    )

its_whole : (name : ℕ) (block : Block) (e : ℕ × Block) → e.0 ≡ name → e.1 ≡ block → names_block name block e ≡ true
its_whole name block e same its =
    and_from (e.0 == name) ((e.1.start == block.start) && (e.1.words == block.words)) (eq-eqb e.0 name same)
    (and_from (e.1.start == block.start) (e.1.words == block.words)
    (eq-eqb e.1.start block.start (ap (λ (b : Block). b.start) its))
    (eq-eqb e.1.words block.words (ap (λ (b : Block). b.words) its)))

-- No entry has a name that no key is.
none_has : (name : ℕ) (block : Block) (es : List (ℕ × Block)) → AllByRecursion (λ k. nat_eq name k ≡ false) (keys_of es)
    → list_any (names_block name block) es ≡ false
none_has name block [] others = refl
none_has name block (e ∷ es) others =
    elim (names_block name block e) as (λ t. names_block name block e ≡ t
    → (t || list_any (names_block name block) es) ≡ false) [
      | true ↦ λ h. absurd (both_ways (nat_eq name e.0) others.0
          (eq-eqb name e.0 (sym (its_parts name block e h).0)))
      | false ↦ λ h. none_has name block es others.1
    ] refl

pub entry_is : (name : ℕ) (block : Block) (es : List (ℕ × Block)) → IsDistinct nat_eq (keys_of es)
    → list_any (names_block name block) es ≡ true → lookup (nat_eq name) es ≡ Some block
entry_is name block [] distinct h = absurd (cc)
entry_is name block (e ∷ es) distinct h =
    elim (or_cases (names_block name block e) (list_any (names_block name block) es) h) [
      | inl here ↦ let its = its_parts name block e here in
          lookup_head (nat_eq name) e es (eq-eqb name e.0 (sym its.0)) ∙ ap (λ (b : Block). Some b) its.1
      | inr later ↦ elim (cases_eq name e.0) [
        | inl same ↦ absurd (both_ways (list_any (names_block name block) es)
            (none_has name block es (subst (λ (n : ℕ). AllByRecursion (λ k. nat_eq n k ≡ false) (keys_of es)) (sym same)
            (IsDistinct-head nat_eq e.0 (keys_of es) distinct))) later)
        | inr differ ↦ lookup_tail (nat_eq name) e es (ne_eqb name e.0 differ)
            ∙ entry_is name block es (IsDistinct-tail nat_eq e.0 (keys_of es) distinct) later
      ]
    ]

has_entry : (name : ℕ) (block : Block) (es : List (ℕ × Block)) → lookup (nat_eq name) es ≡ Some block
    → list_any (names_block name block) es ≡ true
has_entry name block [] found = absurd (cc)
has_entry name block (e ∷ es) found = elim (cases_eq name e.0) [
  | inl same ↦
      let head : Some e.1 ≡ Some block = sym (lookup_head (nat_eq name) e es (eq-eqb name e.0 same)) ∙ found in
      let its : e.1 ≡ block = cc in
      rw (its_whole name block e (sym same) its) refl
  | inr differ ↦
      let rest = has_entry name block es (sym (lookup_tail (nat_eq name) e es (ne_eqb name e.0 differ)) ∙ found) in
      elim (names_block name block e) as (λ t. (t || list_any (names_block name block) es) ≡ true) [
        | true ↦ refl
        | false ↦ rest
      ]
]

-- A name that has no block in the row, and has it among the others.
pub found_among : (table : TableView) (block : Block) (result : Option ℕ)
    → IfSome result (λ name. nat_eq (in_row table.first table.row name).words 0 ≡ true)
    → IfSome result (λ name. lookup (nat_eq name) table.others ≡ Some block)
    → IfSome result (λ name. block_of table name ≡ Some block)
found_among table block None lacks has = tt
found_among table block (Some name) lacks has =
    ap (λ t. cond t (lookup (nat_eq name) table.others) (Some (in_row table.first table.row name))) lacks ∙ has

-- No name has the block, where none of the list has it, and no entry whose name has none there.
pub none_has_it : (table : TableView) (block : Block)
    → ((name : ℕ) → in_row table.first table.row name ≡ block → nat_eq block.words 0 ≡ true)
    → ((name : ℕ) → nat_eq (in_row table.first table.row name).words 0 ≡ true
    → list_any (names_block name block) table.others ≡ false)
    → (name : ℕ) → block_of table name ≡ Some block → ⊥
none_has_it table block row others name found =
    elim (nat_eq (in_row table.first table.row name).words 0) as (λ t. nat_eq (in_row table.first table.row name).words 0 ≡ t
    → cond t (lookup (nat_eq name) table.others) (Some (in_row table.first table.row name)) ≡ Some block → ⊥) [
      | true ↦ λ is e. both_ways (list_any (names_block name block) table.others) (others name is)
          (has_entry name block table.others e)
      | false ↦ λ is e.
          let same : in_row table.first table.row name ≡ block = same_Some (in_row table.first table.row name) block e in
          false≢true (sym is ∙ ap (λ (b : Block). nat_eq b.words 0) same ∙ row name same)
    ] refl found

-- A named block lies where its name says.
pub run_named : (a : Inside) (name : ℕ) (block : Block) → IsLoader a → named a.names.entries name ≡ Some block
    → HasRun (view_of a).state name block
run_named a name block its found = record {
  found = live_at (words_at a) block;
  has = found-mapped (live_at (words_at a)) a.names.entries name block found;
  lies = lies_there (words_at a) block;
}

pub named_run : (a : Inside) (name : ℕ) (block : Block) → IsLoader a → HasRun (view_of a).state name block
    → named a.names.entries name ≡ Some block
named_run a name block its run =
    elim (named a.names.entries name) as (λ o. named a.names.entries name ≡ o → o ≡ Some block) [
      | None ↦ λ e. absurd (let none = as_mapped e in cc (none, run.has))
      | Some other ↦ λ e.
          let as_it : Some (live_at (words_at a) other) ≡ Some run.found = sym (as_mapped e) ∙ run.has in
          let live : live_at (words_at a) other ≡ run.found = cc in
          let lies = sym (lies_there (words_at a) other) ∙ ap run_of live ∙ run.lies in
          ap (λ (b : Block). Some b) (same_block other block (ap (λ (r : ℕ × ℕ). r.0) lies) (ap (λ (r : ℕ × ℕ). r.1) lies))
    ] refl
  where
    as_mapped : {o : Option Block} → named a.names.entries name ≡ o
        → named (view_of a).state.blocks name ≡ option_map (live_at (words_at a)) o
    as_mapped e =
        named-mapped (live_at (words_at a)) a.names.entries name ∙ ap (option_map (live_at (words_at a))) e

-- A live block of a loader is freed by its name, and not refused.
pub live_is_freed : (m : Machine) (name number : ℕ) (loader : LoaderState) (found : LiveBlock) (refusal : Refusal)
    → HasLoader m name loader → named loader.blocks number ≡ Some found → BlockCause m name number refusal → ⊥
live_is_freed m name number loader found NoLoader has block lacks = cc (has, lacks)
live_is_freed m name number loader found NoBlock has block lacks =
    let same : Some lacks.loader ≡ Some loader = sym lacks.loader_is ∙ has in
    let its : lacks.loader ≡ loader = cc in
    let none = subst (λ (l : LoaderState). named l.blocks number ≡ None) its lacks.unused in
    cc (none, block)
live_is_freed m name number loader found _ has block lacks = lacks

-- What follows from an answer.
pub some_then : {A : Type 0} (P Q : A → Type 0) (answer : Option A) → ((a : A) → P a → Q a) → IfSome answer P
    → IfSome answer Q
some_then P Q (Some a) each its = each a its
some_then P Q None each its = tt

pub none_then : {A : Type 0} (P Q : Type 0) (answer : Option A) → (P → Q) → IfNone answer P → IfNone answer Q
none_then P Q (Some a) each its = tt
none_then P Q None each its = each its

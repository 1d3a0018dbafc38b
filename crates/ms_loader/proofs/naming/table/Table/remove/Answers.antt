use Rattle.std.proofs.Common.{rules, ◌≡◌, ◌∙◌, ◌++◌, ℕ, List, cond, None, false, length, take, drop, ap, sym}
use Rattle.std.specs.Prelude.{nat_eq}
use Rattle.std.specs.Map.{lookup}
use Rattle.ms_base.specs.declared.span.Block.{Block}
use Rattle.ms_loader.specs.Table.{block_in, in_row}
use Rattle.ms_loader.proofs.SlideLemmas.{fits_again, goes, none_left}
use Rattle.ms_loader.proofs.naming.table.Table.remove.Goals as goal
use Rattle.ms_loader.proofs.naming.table.Table.remove.Goals.{then-not-is_empty, else-not-is_empty}

pub invariant_of-self-then-not-is_empty : goal.invariant_of-self-then-not-is_empty
invariant_of-self-then-not-is_empty c =
    fits_again c.self.inside.first c.self.inside.row.len c.set_block.new.row c.self.inside.row.items
    (c.set_block.ensures.stays ∙ ap length c.deref_mut.ensures.value) c.self.inside.row.ok.0 c.self.invariant

pub invariant_of-self-else-not-is_empty : goal.invariant_of-self-else-not-is_empty
invariant_of-self-else-not-is_empty c =
    fits_again c.self.inside.first c.self.inside.row.len c.set_block.new.row c.self.inside.row.items
    (c.set_block.ensures.stays ∙ ap length c.deref_mut.ensures.value) c.self.inside.row.ok.0 c.self.invariant

pub returns-clause-names : goal.returns-clause-names
returns-clause-names c =
    let some : nat_eq (in_row c.self.inside.first c.self.inside.row.items c.args.name).words 0 ≡ false =
    sym (ap (λ (b : Block). nat_eq b.words 0) (c.block_at-small.ensures
    ∙ ap (λ (row : List Block). in_row c.self.inside.first row c.args.name) c.deref.ensures.value))
    ∙ sym c.is_none.ensures ∙ c.if-is_none.false in
    let went : (now : List (ℕ × Block)) → ((other : ℕ) → lookup (nat_eq other) now
    ≡ cond (nat_eq c.args.name other) None (lookup (nat_eq other) c.self.inside.others.entries)) → (other : ℕ)
    → block_in c.self.inside.first (take c.self.inside.row.len (c.set_block.new.row
    ++ drop (length c.set_block.new.row) c.self.inside.row.items)) now other
    ≡ cond (nat_eq c.args.name other) None
    (block_in c.self.inside.first c.self.inside.row.items c.self.inside.others.entries other) =
    λ now. goes c.self.inside.first c.self.inside.row.len c.args.name c.set_block.new.row c.deref_mut.result.now
    c.self.inside.row.items _ c.set_block.result now c.self.inside.others.entries c.deref_mut.ensures.value
    c.set_block.ensures.stays c.self.inside.row.ok.0 (search rules) some c.set_block.ensures.set
    c.set_block.ensures.none in
    elim c.if-not-is_empty.branch [
      | then-not-is_empty w ↦ rw (w.self-is, ← c.self.view_is) (went _ w.remove-then-not-is_empty.ensures.updates.0)
      | else-not-is_empty w ↦ rw (w.self-is, ← c.self.view_is)
          (went _ (none_left c.args.name c.self.inside.others.entries (c.is_empty.ensures.0 w.if-not-is_empty.false)))
    ]

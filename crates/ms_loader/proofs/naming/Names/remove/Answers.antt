use Rattle.std.proofs.Common.{◌≡◌, ◌∙◌, sym, ap, ℕ, Option, Some, None, cond, inl, inr}
use Rattle.std.specs.Prelude.{IfNone}
use Rattle.std.proofs.lemmas.Bool.{cases_eq, eq-eqb, ne_eqb}
use Rattle.ms_base.specs.declared.span.Block.{Block}
use Rattle.ms_base.specs.Hashed.{by_name}
use Rattle.ms_loader.specs.Table.{TableView, NamesAnew, StayNamed, block_of, entries_of}
use Rattle.ms_loader.proofs.TableLemmas.{named_of, stay_entries, without_entries}
use Rattle.ms_loader.proofs.naming.Names.remove.Goals as goal

pub returns-clause-block : goal.returns-clause-block
returns-clause-block c =
    rw (← c.self.view_is) (c.remove.ensures.block ∙ sym (named_of c.self.inside.table c.args.name))

pub returns-clause-entries : goal.returns-clause-entries
returns-clause-entries c = rw (← c.self.view_is)
    (without_entries c.self.inside.table c.remove.new.self c.args.name c.remove.ensures.names)

-- Where the name had no block all names have what they had.
stays : (old new : TableView) (name : ℕ) → block_of old name ≡ None → NamesAnew old name None new → StayNamed old new
stays old new name none anew other = elim (cases_eq name other) [
  | inl same ↦ anew other ∙ ap (λ b. cond b None (block_of old other)) (eq-eqb name other same)
      ∙ sym none ∙ ap (block_of old) same
  | inr differ ↦ anew other ∙ ap (λ b. cond b None (block_of old other)) (ne_eqb name other differ)
]

unchanged : (old new : TableView) (name : ℕ) (found : Option Block) → found ≡ block_of old name
    → NamesAnew old name None new → IfNone found (by_name (entries_of new) ≡ by_name (entries_of old))
unchanged old new name None is anew = stay_entries old new (stays old new name (sym is) anew)
unchanged old new name (Some block) is anew = tt

pub returns-clause-unchanged : goal.returns-clause-unchanged
returns-clause-unchanged c = rw (← c.self.view_is)
    (unchanged c.self.inside.table c.remove.new.self c.args.name c.remove.result c.remove.ensures.block c.remove.ensures.names)

use Rattle.std.proofs.Common.{rules, inl}
use Rattle.ms_base.specs.Hashed.{by_name}
use Rattle.ms_loader.specs.Table.{entries_of}
use Rattle.ms_loader.proofs.RefusedLemmas.{arena_refused}
use Rattle.ms_loader.proofs.TableLemmas.{named_of, new_entries}
use Rattle.ms_loader.proofs.naming.allocate_in_row.Goals as goal

pub returns-then-is_some-clause-allocates : goal.returns-then-is_some-clause-allocates
returns-then-is_some-clause-allocates g c =
    let named = named_of c.args.table.now c.args.name in
    search rules

pub returns-in_err-block-clause-allocates : goal.returns-in_err-block-clause-allocates
returns-in_err-block-clause-allocates g c =
    let named = named_of c.args.table.now c.args.name in
    search rules

pub returns-clause-allocates : goal.returns-clause-allocates
returns-clause-allocates g c =
    let named = named_of c.args.table.now c.args.name in
    let new = new_entries c.args.table.now c.put.new.self c.args.name c.in_ok-block.block c.put.ensures in
    search rules

pub returns-then-is_some-clause-refused : goal.returns-then-is_some-clause-refused
returns-then-is_some-clause-refused g c =
    let named = named_of c.args.table.now c.args.name in
    inl (search rules)

pub returns-in_err-block-clause-refused : goal.returns-in_err-block-clause-refused
returns-in_err-block-clause-refused g c =
    let named = named_of c.args.table.now c.args.name in
    arena_refused (by_name (entries_of c.args.table.now)) c.args.name c.args.words _ c.from_residual.result
    (search rules) c.from_residual.ensures.1 c.in_err-block.ensures.refused

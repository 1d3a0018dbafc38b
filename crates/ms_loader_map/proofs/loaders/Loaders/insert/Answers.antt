use Rattle.std.proofs.Common.{sym, ◌∙◌}
use Rattle.ms_base.specs.Names.{named}
use Rattle.ms_loader_map.proofs.NamedLemmas.{found, unused_name}
use Rattle.ms_loader_map.proofs.loaders.Loaders.insert.Goals as goal

-- The name is used where one has it, and else it is free.
pub returns-then-contains-clause-refused : goal.returns-then-contains-clause-refused
returns-then-contains-clause-refused c =
    found (named c.args.self.now c.args.name) (sym c.contains.ensures ∙ c.if-contains.true)

pub add-requires : goal.add-requires
add-requires c = record {
  unused = unused_name c.args.self.now c.args.name c.contains.result c.contains.ensures c.if-contains.false;
}

pub returns-in-Ok-clause-fresh : goal.returns-in-Ok-clause-fresh
returns-in-Ok-clause-fresh c =
    unused_name c.args.self.now c.args.name c.contains.result c.contains.ensures c.if-contains.false

pub returns-in-Err-clause-refused : goal.returns-in-Err-clause-refused
returns-in-Err-clause-refused c =
    unused_name c.args.self.now c.args.name c.contains.result c.contains.ensures c.if-contains.false

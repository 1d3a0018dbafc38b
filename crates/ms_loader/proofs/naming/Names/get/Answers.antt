use Rattle.std.proofs.Common.{◌∙◌, sym, subst}
use Rattle.ms_base.specs.Names.{AreNamed}
use Rattle.ms_base.proofs.entries.HashedLemmas.{rises_by_name}
use Rattle.ms_loader.specs.Naming.{BlockNames}
use Rattle.ms_loader.specs.Table.{entries_of}
use Rattle.ms_loader.proofs.TableLemmas.{named_of}
use Rattle.ms_loader.proofs.naming.Names.get.Goals as goal

pub returns-clause-block : goal.returns-clause-block
returns-clause-block c = rw (← c.self.view_is) (c.get.ensures ∙ sym (named_of c.self.inside.table c.args.name))

pub returns-clause-names : goal.returns-clause-names
returns-clause-names c =
    subst (λ (names : BlockNames). AreNamed names.entries) c.self.view_is
    (rises_by_name (entries_of c.self.inside.table))

-- A request's line does nothing to names.
use Rattle.std.proofs.Common.{◌≡◌, ◌-◌, Some, rules}
use Rattle.std.specs.Prelude.{slice_get}
use Rattle.jvm_log.specs.declared.held.Entry.TheVariants.{Asked}
use Rattle.jvm_log.proofs.HeldLemmas.{acts_asked}
use Rattle.jvm_log.proofs.held.Held.put_at.Goals as goal

pub returns-in-Some-clause-names : goal.returns-in-Some-clause-names
returns-in-Some-clause-names c =
    let asked : slice_get c.args.self.now.entries.items (c.args.number - c.args.self.now.first) ≡ Some Asked = search rules in
    acts_asked c.args.self.now.entries.items (c.args.number - c.args.self.now.first) c.args.line asked

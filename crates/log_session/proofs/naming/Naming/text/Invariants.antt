-- The lines of the loaders passed so far.
use Rattle.std.proofs.Common.{◌≡◌, take}
use Rattle.log_session.specs.Naming.{names_text}
use Rattle.log_session.proofs.naming.Naming.text.Given as goal

abbrev pub invariant-loop-birth : goal.invariant-loop-birth
invariant-loop-birth l = l.text.items ≡ names_text l.self.texts.entries 0 (take l.birth l.self.numbers.items)

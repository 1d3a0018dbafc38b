-- What was passed so far was nothing.
use Rattle.std.proofs.Common.{◌≡◌, ◌+◌, [], List, length}
use Rattle.jvm_log.specs.declared.held.Entry.{Entry}
use Rattle.jvm_log.specs.Held.{Goes, waiting}
use Rattle.jvm_log.proofs.held.Held.next.Given as goal

abbrev pub invariant-loop-passed : goal.invariant-loop-passed
invariant-loop-passed l = record {
  passed : (gone : List Entry) × Goes gone l.fn.self l.self × (waiting gone ≡ []);
  count : length l.self.entries.items + l._passed ≡ length l.fn.self.entries.items;
}

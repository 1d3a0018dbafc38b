use Rattle.std.proofs.Common.{◌≡◌, ◌≤◌, ◌<◌, ◌+◌, ℕ, sym, ◌∙◌, arith}
use Rattle.std.specs.Prelude.{nat_lt, nat_le}
use Rattle.std.proofs.lemmas.Bool.Decides.{nat_tests}
use Rattle.ms_commit.specs.NumberSet.{is_in_range}
use Rattle.ms_commit.proofs.KeepingLemmas.{reserved_past}
use Rattle.ms_commit.proofs.nodes.Nodes.is_reserved.Goals as goal

from_first : (first count slot : ℕ) → first ≤ slot → nat_lt slot (first + count) ≡ is_in_range first count slot
from_first first count slot from = grind (arith, nat_tests)

before_first : (first count slot : ℕ) → slot < first → nat_le first slot ≡ is_in_range first count slot
before_first first count slot before = grind (arith, nat_tests)

pub returns-then-slot-ge-SLOTS : goal.returns-then-slot-ge-SLOTS
returns-then-slot-ge-SLOTS c =
    from_first 64 c.self.inside.class_slots c.args.slot c.if-slot-ge-SLOTS.true
    ∙ reserved_past c.self.inside c.args.self.now c.args.slot c.self.view_is
    (sym c.contains.ensures ∙ c.if-contains.false)

pub returns-else-slot-ge-SLOTS : goal.returns-else-slot-ge-SLOTS
returns-else-slot-ge-SLOTS c =
    before_first 64 c.self.inside.class_slots c.args.slot c.if-slot-ge-SLOTS.false
    ∙ reserved_past c.self.inside c.args.self.now c.args.slot c.self.view_is
    (sym c.contains.ensures ∙ c.if-contains.false)

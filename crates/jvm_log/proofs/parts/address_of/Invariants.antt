-- The digits that are left, after those that were read, make the number of all.
use Rattle.std.proofs.Common.{◌≡◌, drop}
use Rattle.jvm_log.specs.Parts.{value_after}
use Rattle.jvm_log.proofs.parts.address_of.Given as goal

abbrev pub invariant-loop-byte : goal.invariant-loop-byte
invariant-loop-byte l = value_after l.address (drop l.byte-index l.digits) ≡ value_after 0 l.digits

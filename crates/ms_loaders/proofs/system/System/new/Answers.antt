use Rattle.std.proofs.Common.{rules, ap, sym}
use Rattle.ms_pool.specs.Ledger.{Ledger}
use Rattle.ms_loaders.specs.System.{machine_of}
use Rattle.ms_loaders.proofs.system.System.new.Goals as goal

pub invariant_of-result : goal.invariant_of-result
invariant_of-result c = record {
  together = search rules;
  policy_is = sym (ap (λ (ledger : Ledger). ledger.limits.policy) c.in_ok-pool.ensures);
}

pub returns : goal.returns
returns c = λ i. machine_of (c.in_ok-pool.ensures i) (c.new-2.ensures i)

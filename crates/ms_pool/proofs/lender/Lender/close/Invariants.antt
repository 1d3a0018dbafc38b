use Rattle.std.proofs.Common.{◌≡◌, take}
use Rattle.ms_pool.specs.Keeping.{IsKept, ledger_of}
use Rattle.ms_pool.proofs.returns.ClosedStepLemmas.{without_chunks}
use Rattle.ms_pool.proofs.lender.Lender.close.Given as goal

-- The first chunks are taken back.
abbrev pub invariant-loop-index : goal.invariant-loop-index
invariant-loop-index l = record {
  kept : IsKept l.self;
  lent : l.self.lent ≡ l.fn.self.lent;
  closed : ledger_of l.self ≡ without_chunks (take l.index l.account.chunks) (ledger_of l.fn.self);
}

use Rattle.std.proofs.Common.{ℕ, List, sym, ap, ap₂, subst, ◌∙◌, arith}
use Rattle.ms_pool.specs.declared.lender.Lender.{Lender}
use Rattle.ms_base.specs.declared.span.Chunk.{Chunk}
use Rattle.ms_pool.specs.Account.{AccountState}
use Rattle.ms_pool.specs.Keeping.{IsCounted, IsKept, ledger_of}
use Rattle.ms_pool.specs.Ledger.{with_opened}
use Rattle.ms_pool.proofs.ledger.KeepsLemmas.{kept_where_opened}
use Rattle.ms_pool.proofs.lender.Lender.next_account.Goals.{in-NonClass, in-Class}
use Rattle.ms_pool.proofs.lender.Lender.next_account.Goals as goal

-- One account more is open in the space.
pub returns-clause-opened : goal.returns-clause-opened
returns-clause-opened c = elim c.match-space.branch [
  | in-NonClass w ↦ ap ledger_of w.self-is ∙ sym (ap (with_opened (ledger_of c.args.self.now)) w.in-NonClass.is)
  | in-Class w ↦ ap ledger_of w.self-is ∙ sym (ap (with_opened (ledger_of c.args.self.now)) w.in-Class.is)
]

pub returns-clause-kept : goal.returns-clause-kept
returns-clause-kept c = elim c.match-space.branch [
  | in-NonClass w ↦ subst IsKept (sym w.self-is)
      (kept_where_opened c.args.self.now _ _ c.requires.kept c.requires.left (omega arith))
  | in-Class w ↦ subst IsKept (sym w.self-is)
      (kept_where_opened c.args.self.now _ _ c.requires.kept c.requires.left (omega arith))
]

pub returns-clause-counted : goal.returns-clause-counted
returns-clause-counted c = elim c.match-space.branch [
  | in-NonClass w ↦ subst IsCounted (sym w.self-is) c.requires.counted
  | in-Class w ↦ subst IsCounted (sym w.self-is) c.requires.counted
]

pub returns-clause-account : goal.returns-clause-account
returns-clause-account c =
    let account : ℕ → List Chunk → AccountState =
    λ owner chunks. record { owner = owner; space = c.args.space; chunks = chunks } in
    elim c.match-space.branch [
      | in-NonClass w ↦ ap₂ account (ap (λ (lender : Lender). lender.given) w.self-is) c.take.ensures
      | in-Class w ↦ ap₂ account (ap (λ (lender : Lender). lender.given) w.self-is) c.take.ensures
    ]

use Rattle.std.proofs.Common.{rules, refl, sym, ap, arith}
use Rattle.ms_base.proofs.free.HalvesLemmas.{size_falls}
use Rattle.ms_pool.specs.Lending.{span_of}
use Rattle.ms_pool.specs.Ledger.{state_in}
use Rattle.ms_pool.specs.Keeping.{ledger_of}
use Rattle.ms_pool.proofs.ledger.KeepsLemmas.{kept_however_told}
use Rattle.ms_pool.proofs.loans.TakingLemmas.{IsPickedThere, TakesThere, adds_there, picked_there, taken_commit}
use Rattle.ms_pool.proofs.loans.TakingLemmas.{taken_reserve, takes_there}
use Rattle.ms_pool.proofs.lender.Lender.take.Goals as goal
use Rattle.ms_pool.proofs.lender.Lender.take.Goals.{After-chunk_at-chunk, In_default-commit_limit}

-- The chunk is as the search found it.
picked : (c : After-chunk_at-chunk)
    → IsPickedThere c.args.self.now c.account.inside.space c.args.wanted c.args.most c.args.words
    c.chunk_at-chunk.result
picked c =
    picked_there c.args.self.now c.account.inside.space c.args.wanted c.args.most c.args.words c.in-Some.span
    c.chunk_at-chunk.result c.requires.ready.kept
    (record { may = c.requires.asks; real = c.pick.ensures.level })
    c.in-Some.ensures.picked c.in-Some.ensures.slot c.chunk_at-chunk.ensures

-- Within the limit, all is well with it once it is lent.
takes : (c : In_default-commit_limit)
    → IsPickedThere c.args.self.now c.account.inside.space c.args.wanted c.args.most c.args.words
    c.chunk_at-chunk.result
    → let f = c.account.inside in
    TakesThere c.args.self.now (record { owner = f.owner; space = f.space; chunks = f.chunks.items }) c.args.wanted
    c.args.most c.args.words c.chunk_at-chunk.result
takes c at_ =
    takes_there c.args.self.now _ _ c.args.wanted c.args.most c.args.words c.chunk_at-chunk.result c.requires.ready.kept at_
    c.account.view_is c.requires.served c.account.invariant c.in-Some.ensures.room
    (rw c.missing-need.ensures at c.in_default-commit_limit.ensures.within)

-- A refusal and its tally change nothing that is kept.
pub reserve_limit-requires : goal.reserve_limit-requires
reserve_limit-requires c = kept_however_told c.args.self.now _ c.requires.ready.kept

pub returns-in_default-clause-ready : goal.returns-in_default-clause-ready
returns-in_default-clause-ready c = record {
  kept = kept_however_told c.args.self.now _ c.requires.ready.kept;
  counted = c.requires.ready.counted;
}

pub returns-in-Some-commit_limit-clause-ready : goal.returns-in-Some-commit_limit-clause-ready
returns-in-Some-commit_limit-clause-ready c = record {
  kept = kept_however_told c.args.self.now _ c.requires.ready.kept;
  counted = c.requires.ready.counted;
}

pub returns-in_default-clause-took : goal.returns-in_default-clause-took
returns-in_default-clause-took c =
    rw (← c.account.view_is, c.reserve_limit.ensures) (
      taken_reserve (state_in c.account.inside.space (ledger_of c.args.self.now)) c.args.wanted c.args.most c.args.words
          c.in_default.ensures.full,
      refl,
    )

pub chunk_at-chunk-requires : goal.chunk_at-chunk-requires
chunk_at-chunk-requires c =
    omega (arith, c.requires.asks.fits, size_falls 0 c.args.most (omega arith))

pub missing-need-requires : goal.missing-need-requires
missing-need-requires c =
    let at_ = picked (goal.at.missing-need-requires c).After-chunk_at-chunk in
    record { kept = c.requires.ready.kept; some = at_.well.some; inside = at_.well.inside; fits = at_.well.fits }

pub returns-in-Some-commit_limit-clause-took : goal.returns-in-Some-commit_limit-clause-took
returns-in-Some-commit_limit-clause-took c =
    let at_ = picked (goal.at.returns-in-Some-commit_limit-clause-took c).After-chunk_at-chunk in
    rw (← c.account.view_is, c.in-Some-commit_limit.ensures.refusal, c.missing-need.ensures) (
      taken_commit c.account.inside.space c.args.self.now c.args.wanted c.args.most c.args.words c.chunk_at-chunk.result
          c.requires.ready.kept at_.asks.may.levels at_.asks.real at_.asks.may.some at_.asks.may.fits at_.is
          c.in-Some.ensures.room (rw c.missing-need.ensures at c.in-Some-commit_limit.ensures.met),
      refl,
    )

pub returns-then-is_err-clause-took : goal.returns-then-is_err-clause-took
returns-then-is_err-clause-took c =
    let at_ = goal.at.returns-then-is_err-clause-took c in let well =
    takes at_.In_default-commit_limit (picked at_.After-chunk_at-chunk) in
    rw (← c.account.view_is) ((c.chunk_at-chunk.result, well.ok), refl)

pub lend-requires : goal.lend-requires
lend-requires c =
    let at_ = goal.at.lend-requires c in let well =
    takes at_.In_default-commit_limit (picked at_.After-chunk_at-chunk) in
    record {
      kept = c.requires.ready.kept;
      counted = c.requires.ready.counted;
      may = well.may;
      need = c.missing-need.ensures;
    }

pub returns-then-not-lend-clause-took : goal.returns-then-not-lend-clause-took
returns-then-not-lend-clause-took c =
    let at_ = goal.at.returns-then-not-lend-clause-took c in let well =
    takes at_.In_default-commit_limit (picked at_.After-chunk_at-chunk) in
    rw (← c.account.view_is) ((c.chunk_at-chunk.result, well.ok), c.if-not-lend.ensures.unchanged refl)

pub invariant_of-account-2 : goal.invariant_of-account-2
invariant_of-account-2 c =
    let at_ = goal.at.invariant_of-account-2 c in let well =
    takes at_.In_default-commit_limit (picked at_.After-chunk_at-chunk) in
    rw (c.push_reserved.ensures.items, c.reserve.ensures.items) well.good.chunks

pub returns-clause-added : goal.returns-clause-added
returns-clause-added c =
    let at_ = goal.at.returns-clause-added c in let well =
    takes at_.In_default-commit_limit (picked at_.After-chunk_at-chunk) in
    rw (← c.account.view_is, c.push_reserved.ensures.items, c.reserve.ensures.items)
    (adds_there c.args.self.now _ c.args.wanted c.args.most c.args.words c.in-Some.span c.chunk_at-chunk.result
    c.chunk_at-chunk.ensures well)

pub returns-clause-took : goal.returns-clause-took
returns-clause-took c =
    let at_ = goal.at.returns-clause-took c in let well =
    takes at_.In_default-commit_limit (picked at_.After-chunk_at-chunk) in
    rw (← c.account.view_is) (record {
      chunk = c.chunk_at-chunk.result;
      picked = well.ok;
      answer = sym (ap span_of c.chunk_at-chunk.ensures);
      after = c.if-not-lend.ensures.lent refl;
    })

pub returns-clause-ready : goal.returns-clause-ready
returns-clause-ready c = record { kept = c.lend.ensures.kept; counted = c.lend.ensures.counted }

pub returns-clause-chunks : goal.returns-clause-chunks
returns-clause-chunks c = (search rules, invariant_of-account-2 c, c.pick.ensures.level)

use Rattle.std.proofs.Common.{rules, [], ◌∷◌, refl, sym, subst, ◌∙◌, arith}
use Rattle.ms_pool.specs.declared.lent.Lent.{Lent}
use Rattle.ms_pool.specs.Counting.{HasLeast, HasRoomFor, MovesIn, counted_in}
use Rattle.ms_pool.specs.Ledger.{state_in}
use Rattle.ms_pool.specs.Keeping.{ledger_of}
use Rattle.ms_pool.proofs.counts.CountedLemmas.{grown_is_counted, least_there, room_there}
use Rattle.ms_pool.proofs.loans.ShownLemmas.{kept_however_counted}
use Rattle.ms_pool.proofs.growths.GrowingLemmas.{past_space, stays_as_it_was}
use Rattle.ms_pool.proofs.growths.ReachLemmas.{grown_no_room, grown_stays}
use Rattle.ms_pool.proofs.growths.ReplacingLemmas.{GrowsThere, IsFoundAt, found_there, grew_there, grows_there}
use Rattle.ms_pool.proofs.growths.ReplacingLemmas.{grown_where_found, reached_there, rises_there, stays_there}
use Rattle.ms_pool.proofs.ledger.KeepsLemmas.{kept_however_told}
use Rattle.ms_pool.proofs.lender.Lender.grow.Goals as goal
use Rattle.ms_pool.proofs.lender.Lender.grow.Goals.{After-index, In_default-commit_limit}

-- The chunk is the account's, at its index.
found : (c : After-index)
    → let f = c.account.inside in
    IsFoundAt c.args.self.now (record { owner = f.owner; space = f.space; chunks = f.chunks.items }) c.args.start
    c.index_of-index.result c.index.result.now
found c =
    found_there c.args.self.now _ _ c.args.start _ c.index.result.now _ c.requires.ready.kept c.account.view_is
    c.requires.served c.account.invariant c.deref.ensures.value c.index_of-index.ensures.there
    c.index_of-index.ensures.starts c.index.ensures

-- Within the limit, all is well with the greater one.
grown : (c : In_default-commit_limit)
    → let f = c.account.inside in
    IsFoundAt c.args.self.now (record { owner = f.owner; space = f.space; chunks = f.chunks.items }) c.args.start
    c.index_of-index.result c.index.result.now
    → GrowsThere c.args.self.now (record { owner = f.owner; space = f.space; chunks = f.chunks.items })
    c.index_of-index.result c.index.result.now c.in-Some.greater c.args.total c.args.may_enlarge
grown c at_ =
    grows_there c.args.self.now _ _ _ _ c.in-Some.greater c.args.total c.args.may_enlarge c.requires.ready.kept at_
    c.if-total-chunk.false (sym c.reaching.ensures ∙ c.in-Some.is)
    (rw c.missing-need.ensures at c.in_default-commit_limit.ensures.within)

pub returns-then-total-chunk-clause-grown : goal.returns-then-total-chunk-clause-grown
returns-then-total-chunk-clause-grown c =
    let at_ = found (goal.at.returns-then-total-chunk-clause-grown c).After-index in
    rw (← c.account.view_is, c.span_of.ensures)
    (stays_there c.args.self.now _ _ _ _ c.args.total c.args.may_enlarge c.requires.ready.kept at_ c.if-total-chunk.true)

pub returns-then-total-chunk-clause-grew : goal.returns-then-total-chunk-clause-grew
returns-then-total-chunk-clause-grew c =
    let at_ = found (goal.at.returns-then-total-chunk-clause-grew c).After-index in
    rw (← c.account.view_is) (grew_there c.args.self.now _ _ _ _ c.args.total c.args.may_enlarge _ _ at_ (
      c.index.result.now,
      grown_stays (state_in c.account.inside.space (ledger_of c.args.self.now)) c.index.result.now
          c.args.total c.args.may_enlarge c.if-total-chunk.true,
      c.span_of.ensures,
      stays_as_it_was (ledger_of c.args.self.now) c.account.inside.owner c.index.result.now c.requires.ready.kept.sound
          at_.own.loan,
    ))

pub reaching-requires : goal.reaching-requires
reaching-requires c =
    let at_ = found (goal.at.reaching-requires c).After-index in
    record { kept = c.requires.ready.kept; own = at_.own.there }

pub returns-in_default-clause-ready : goal.returns-in_default-clause-ready
returns-in_default-clause-ready c = record {
  kept = kept_however_told c.args.self.now _ c.requires.ready.kept;
  counted = c.requires.ready.counted;
}

pub returns-in-Some-commit_limit-clause-ready : goal.returns-in-Some-commit_limit-clause-ready
returns-in-Some-commit_limit-clause-ready c = record {
  kept = kept_however_told c.args.self.now _ c.requires.ready.kept;
  counted = c.requires.ready.counted;
}

pub returns-in_default-clause-grew : goal.returns-in_default-clause-grew
returns-in_default-clause-grew c =
    let at_ = found (goal.at.returns-in_default-clause-grew c).After-index in
    rw (← c.account.view_is) (grew_there c.args.self.now _ _ _ _ c.args.total c.args.may_enlarge _ _ at_ (
      grown_no_room (state_in c.account.inside.space (ledger_of c.args.self.now)) c.index.result.now c.args.total
          c.args.may_enlarge c.if-total-chunk.false (sym c.reaching.ensures ∙ c.in_default.is),
      refl,
    ))

pub missing-need-requires : goal.missing-need-requires
missing-need-requires c =
    let at_ = found (goal.at.missing-need-requires c).After-index in
    let there =
    reached_there c.args.self.now _ _ _ _ c.in-Some.greater c.args.total c.args.may_enlarge c.requires.ready.kept at_
    c.if-total-chunk.false (sym c.reaching.ensures ∙ c.in-Some.is) in
    record { kept = c.requires.ready.kept; some = there.well.some; inside = there.fits.inside; fits = there.fits.fits }

pub returns-in-Some-commit_limit-clause-grew : goal.returns-in-Some-commit_limit-clause-grew
returns-in-Some-commit_limit-clause-grew c =
    let at_ = found (goal.at.returns-in-Some-commit_limit-clause-grew c).After-index in
    rw (← c.account.view_is, c.in-Some-commit_limit.ensures.refusal, c.missing-need.ensures)
    (grew_there c.args.self.now _ _ _ _ c.args.total c.args.may_enlarge _ _ at_ (
      past_space c.account.inside.space c.args.self.now c.index.result.now c.in-Some.greater c.args.total
          c.args.may_enlarge c.requires.ready.kept c.if-total-chunk.false (sym c.reaching.ensures ∙ c.in-Some.is)
          (rw c.missing-need.ensures at c.in-Some-commit_limit.ensures.met),
      refl,
    ))

pub replace-requires : goal.replace-requires
replace-requires c =
    let points = goal.at.replace-requires c in let at_ = found points.After-index in let grows =
    grown points.In_default-commit_limit at_ in
    record { kept = c.requires.ready.kept; own = at_.own.there; may = grows.may; need = c.missing-need.ensures }

pub invariant_of-account : goal.invariant_of-account
invariant_of-account c =
    let points = goal.at.invariant_of-account c in let at_ = found points.After-index in let grows =
    grown points.In_default-commit_limit at_ in
    grows.good.chunks

pub returns-clause-grown : goal.returns-clause-grown
returns-clause-grown c =
    let points = goal.at.returns-clause-grown c in let at_ = found points.After-index in let grows =
    grown points.In_default-commit_limit at_ in
    rw (← c.account.view_is, c.span_of-span.ensures)
    (rises_there c.args.self.now _ _ _ _ _ c.args.total c.args.may_enlarge at_ grows)

pub returns-clause-grew : goal.returns-clause-grew
returns-clause-grew c =
    let points = goal.at.returns-clause-grew c in let at_ = found points.After-index in let grows =
    grown points.In_default-commit_limit at_ in
    rw (← c.account.view_is) (grew_there c.args.self.now _ _ _ _ c.args.total c.args.may_enlarge _ _ at_
    (c.in-Some.greater, grows.answered, c.span_of-span.ensures, c.replace.ensures.grown))

pub replace-requires-2 : goal.replace-requires-2
replace-requires-2 c =
    let points = goal.at.replace-requires-2 c in let at_ = found points.After-index in let grows =
    grown points.In_default-commit_limit at_ in
    let space = c.account.inside.space in
    record {
      least = subst (λ (lent : Lent). HasLeast (counted_in space lent) c.index.result.now) (sym c.replace.ensures.lent)
          (least_there _ c.index.result.now c.in-Some.greater c.args.self.now.lent (ledger_of c.args.self.now)
          c.requires.ready.counted (omega (arith, at_.own.placed.0))
          (grown_where_found c.args.self.now _ _ _ _ _ _ _ c.requires.ready.kept at_ grows));
      room = subst (λ (lent : Lent). HasRoomFor (counted_in space lent) c.in-Some.greater) (sym c.replace.ensures.lent)
          (room_there space c.args.self.now c.in-Some.greater c.requires.ready.kept c.requires.ready.counted grows.may.placed
          grows.may.within);
    }

pub returns-clause-ready : goal.returns-clause-ready
returns-clause-ready c =
    let points = goal.at.returns-clause-ready c in let at_ = found points.After-index in let grows =
    grown points.In_default-commit_limit at_ in record {
      kept = kept_however_counted c.replace.new.self c.replace-2.new.self c.replace.ensures.kept;
      counted = grown_is_counted _ c.index.result.now c.in-Some.greater c.args.self.now.lent c.replace-2.new.self
          (ledger_of c.args.self.now) _ c.requires.ready.counted
          (subst (λ (lent : Lent). MovesIn c.account.inside.space lent (c.index.result.now ∷ []) (c.in-Some.greater ∷ [])
          c.replace-2.new.self) c.replace.ensures.lent c.replace-2.ensures) c.replace.ensures.grown
          (grown_where_found c.args.self.now _ _ _ _ _ _ _ c.requires.ready.kept at_ grows);
    }

pub returns-clause-unchanged : goal.returns-clause-unchanged
returns-clause-unchanged c = tt

pub returns-clause-chunks : goal.returns-clause-chunks
returns-clause-chunks c = (search rules, invariant_of-account c)

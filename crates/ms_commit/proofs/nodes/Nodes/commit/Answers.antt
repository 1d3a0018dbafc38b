use Rattle.std.proofs.Common.{refl, arith}
use Rattle.std.proofs.lemmas.Bool.{false≢true}
use Rattle.ms_commit.proofs.KeepingLemmas.{range_is_kept, need_passes, need_fits, commit_limit_is, kept_with}
use Rattle.ms_commit.proofs.nodes.Nodes.commit.Goals as goal

pub missing-need-requires : goal.missing-need-requires
missing-need-requires c =
    (range_is_kept _ _ _ _ c.self.invariant c.self.view_is c.requires (omega arith)).1

pub returns-then-need-self-clause-commit_limit : goal.returns-then-need-self-clause-commit_limit
returns-then-need-self-clause-commit_limit c =
    let passed = need_passes c.self.inside c.args.self.now c.args.first c.args.count c.missing-need.result
    c.self.invariant c.self.view_is c.missing-need.ensures c.if-need-self.true in
    (λ _. passed, λ _. refl)

pub returns-then-need-self-clause-numbers : goal.returns-then-need-self-clause-numbers
returns-then-need-self-clause-numbers c =
    commit_limit_is c.self.inside c.args.self.now c.args.first c.args.count c.missing-need.result c.self.invariant
    c.self.view_is c.missing-need.ensures

pub insert_range-requires : goal.insert_range-requires
insert_range-requires c =
    (omega arith, range_is_kept _ _ _ _ c.self.invariant c.self.view_is c.requires (omega arith))

pub invariant_of-self : goal.invariant_of-self
invariant_of-self c =
    let after = c.insert_range.ensures in
    kept_with c.self.inside c.args.self.now c.insert_range.new.self c.args.first c.args.count c.missing-need.result
    c.self.invariant c.self.view_is c.requires c.missing-need.ensures c.if-need-self.false
    after.added after.set.rising after.counted

pub returns-clause-granted : goal.returns-clause-granted
returns-clause-granted c =
    need_fits c.self.inside c.args.self.now c.args.first c.args.count c.missing-need.result c.self.invariant
    c.self.view_is c.missing-need.ensures c.if-need-self.false

pub returns-clause-commit_limit : goal.returns-clause-commit_limit
returns-clause-commit_limit c =
    (λ e. absurd (false≢true e), λ passed. absurd (omega (arith, returns-clause-granted c, passed)))

pub returns-clause-sound : goal.returns-clause-sound
returns-clause-sound c = (invariant_of-self c).sound

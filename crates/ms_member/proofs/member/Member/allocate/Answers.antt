use Rattle.std.proofs.Common.{sym, refl, subst, Some}
use Rattle.ms_member.specs.Member.{MemberState, AnswersAlloc}
use Rattle.ms_member.proofs.SeatedLemmas.{over_answers}
use Rattle.ms_member.proofs.member.Member.allocate.Goals as goal

-- what the loader answered over the pool
pub returns : goal.returns
returns c =
    let old : MemberState = record {
      seat = c.self.inside.seat;
      held = c.self.inside.held;
      spare = c.self.inside.spare.items;
      loader = c.self.inside.loader;
      arenas = c.self.inside.arenas;
    } in
    let new : MemberState = record {
      seat = c.self.inside.seat;
      held = Some c.allocate_over-held.result.0;
      spare = c.self.inside.spare.items;
      loader = c.allocate_over-held.new.loader;
      arenas = c.self.inside.arenas;
    } in
    subst (λ (m : MemberState). AnswersAlloc c.args.space c.args.block c.args.words m
    (Some c.allocate_over-held.result.1) new) c.self.view_is
    (over_answers c.args.space c.args.block c.args.words old new c.in-Some.held c.allocate_over-held.result.0
    c.allocate_over-held.result.1 c.allocate_over-held.new.loader (sym c.in-Some.ensures.value) refl
    c.allocate_over-held.ensures.answers)

use Rattle.std.proofs.Common.{Option, sym, subst}
use Rattle.ms_base.specs.declared.step.Reply.{Reply}
use Rattle.ms_member.specs.Taking.{AnswersOwn}
use Rattle.ms_member.proofs.TakingLemmas.{own_answers}
use Rattle.ms_member.proofs.member.taking.place_own.Goals as goal

-- what the arena answered is told
pub returns : goal.returns
returns c =
    subst (λ (reply : Option Reply). AnswersOwn c.args.space c.args.words c.args.arenas.now reply c.place_hosted.new.hosted)
    (sym c.placed_reply.ensures)
    (own_answers c.args.space c.args.words c.args.arenas.now c.place_hosted.new.hosted c.place_hosted.result c.place_hosted.ensures.placed
    c.place_hosted.ensures.refused c.place_hosted.ensures.unchanged)

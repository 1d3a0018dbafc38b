use Rattle.std.proofs.Common.{Option, sym, subst}
use Rattle.ms_base.specs.declared.step.Reply.{Reply}
use Rattle.ms_member.specs.Member.{AnswersAlone}
use Rattle.ms_member.proofs.AloneLemmas.{answers_alone}
use Rattle.ms_member.proofs.member.loading.place.Goals as goal

-- what the loader answered is told
pub returns : goal.returns
returns c =
    subst (λ (reply : Option Reply). AnswersAlone c.args.space c.args.block c.args.words c.args.loader.now reply
    c.allocate.new.self) (sym c.alone_reply.ensures)
    (answers_alone c.args.space _ c.args.loader.now c.allocate.new.self c.args.block c.args.words c.one-source.result
    c.allocate.new.source c.allocate.result c.allocate.ensures.allocates c.allocate.ensures.unchanged)

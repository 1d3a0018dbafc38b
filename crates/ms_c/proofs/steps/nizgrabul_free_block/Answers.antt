use Rattle.std.proofs.Common.{◌≡◌, ◌⊎◌, ℕ, Result, Ok, Err, Some, inl, inr, sym, subst, ap, ◌∙◌, OnOk, OnErr, IfErr}
use Rattle.ms_base.specs.declared.refusal.Refusal.{Refusal}
use Rattle.ms_base.specs.declared.span.Block.{Block}
use Rattle.ms_base.specs.State.{Machine}
use Rattle.ms_loaders.specs.Freeing.{FreesThere, LacksThere}
use Rattle.ms_c.specs.declared.answer.Answer.{Answer}
use Rattle.ms_c.specs.Answers.{numbers, refused_as}
use Rattle.ms_c.specs.Freeing.{FreesBlock, FreesIt, LacksIt}
use Rattle.ms_c.specs.Holding.{Held}
use Rattle.ms_c.proofs.steps.nizgrabul_free_block.Goals as goal

-- what was done is told, or why it was not
told_so : (old now : Machine) (loader : ℕ) (block : Block) (done : Result Unit Refusal) (answer : Answer) (after : Held)
    → after ≡ Some now → OnOk done (FreesThere old loader block now) → IfErr done (LacksThere old loader block)
    → OnErr done (now ≡ old) → OnOk done (answer ≡ numbers 0 0 0 0) → IfErr done (λ refusal. answer ≡ refused_as refusal)
    → FreesIt old loader block answer after ⊎ LacksIt old loader block answer after
told_so old now loader block (Ok _) answer after is freed refused same done said =
    inl (record { now = now; after_is = is; answer_is = done; freed = freed })
told_so old now loader block (Err refusal) answer after is freed refused same done said =
    inr (record { refusal = refusal; after_is = is ∙ ap (λ (m : Machine). Some m) same; answer_is = said; cause = refused })

pub returns-in-Some : goal.returns-in-Some
returns-in-Some c =
    subst (λ (h : Held). FreesBlock h c.args.loader c.args.start c.args.words c.done_answer.result c.put.new.self.slot.held)
    (sym c.in-Some.ensures.some) (subst (λ (m : Machine).
    FreesBlock (Some m) c.args.loader c.args.start c.args.words c.done_answer.result c.put.new.self.slot.held)
    c.deref_mut.ensures.value (told_so _ c.free_block-answer.new.self c.args.loader _ c.free_block-answer.result
    c.done_answer.result c.put.new.self.slot.held c.put.ensures c.free_block-answer.ensures.freed
    c.free_block-answer.ensures.refused c.free_block-answer.ensures.unchanged c.done_answer.ensures.done
    c.done_answer.ensures.refused))

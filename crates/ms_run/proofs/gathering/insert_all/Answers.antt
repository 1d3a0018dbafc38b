use Rattle.std.proofs.Common.{ap, length, arith, subst, sym, refl}
use Rattle.ms_base.specs.Names.{AreNamed}
use Rattle.ms_base.proofs.entries.NameLemmas.{rises_with_new}
use Rattle.ms_run.specs.Joined.{IsJoined}
use Rattle.ms_run.proofs.sharing.GatherLemmas.{Loaders, joined_none, joined_more, rest_named, others_more, only_want}
use Rattle.ms_run.proofs.sharing.GatherLemmas.{may_be_told}
use Rattle.ms_run.proofs.gathering.insert_all.Goals as goal

pub loop-name-init : goal.loop-name-init
loop-name-init c = ((λ new joined. joined), c.requires.part_named, c.requires.others, c.requires.named)

pub loop-name-smaller : goal.loop-name-smaller
loop-name-smaller c = omega (arith, ap length c.in-Some.ensures.first)

pub loop-name-preserved : goal.loop-name-preserved
loop-name-preserved c =
    let was = c.loop-name.invariant in let first = c.in-Some.ensures.first in let made = c.in_default-put_loader.ensures in (
      (λ new joined. was.0 new
          (joined_more c.loop-name.whole _ _ _ new c.in-Some.name c.in-Some.loader first was.1 made.fresh made.inserted
          joined)),
      rest_named _ _ c.in-Some.name c.in-Some.loader first was.1,
      others_more c.loop-name.whole _ _ _ c.in-Some.name c.in-Some.loader first was.1 made.inserted was.2,
      subst AreNamed (sym made.inserted) (rises_with_new c.loop-name.whole c.in-Some.name c.in-Some.loader was.3),
    )

pub fault_of-requires : goal.fault_of-requires
fault_of-requires c =
    may_be_told c.in-Err.refusal
    (only_want c.loop-name.whole _ _ c.in-Some.name c.in-Some.loader c.in-Err.refusal c.in-Some.ensures.first
    c.loop-name.invariant.2 c.in-Err.ensures.refused)

pub returns-in-Err-clause-wanting : goal.returns-in-Err-clause-wanting
returns-in-Err-clause-wanting c =
    c.fault_of.ensures
    (only_want c.loop-name.whole _ _ c.in-Some.name c.in-Some.loader c.in-Err.refusal c.in-Some.ensures.first
    c.loop-name.invariant.2 c.in-Err.ensures.refused)

pub returns-clause-joined : goal.returns-clause-joined
returns-clause-joined c =
    let none = c.in_default.ensures.none in
    c.loop-name.invariant.0 c.loop-name.whole
    (subst (λ (part : Loaders). IsJoined c.loop-name.whole part c.loop-name.whole) (sym (none refl).0)
    (joined_none c.loop-name.whole))

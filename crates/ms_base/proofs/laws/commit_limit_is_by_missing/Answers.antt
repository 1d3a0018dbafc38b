use Rattle.ms_base.proofs.granules.MissingLemmas.{limit_by_missing, need_by_missing}
use Rattle.ms_base.proofs.laws.commit_limit_is_by_missing.Goals as goal

pub returns : goal.returns
returns c = λ pool p m words sound h k some fits room. record {
  met = limit_by_missing pool p m words sound h k some fits room;
  need = λ met. need_by_missing pool p m words sound h k some fits met;
}

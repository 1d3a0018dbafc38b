use Rattle.ms_loader.proofs.calls.EmptyLemmas.{new_is, new_holds}
use Rattle.ms_loader.proofs.loader.Loader.new.Goals as goal

pub invariant_of-result : goal.invariant_of-result
invariant_of-result c =
    new_holds c.args.account c.args.class_account c.args.kind c.new.result c.new-2.result c.new-3.result c.new.ensures
    c.new-2.ensures c.new-3.ensures.empty c.requires.space c.requires.class_space

pub returns-clause-made : goal.returns-clause-made
returns-clause-made c =
    new_is c.args.account c.args.class_account c.args.kind c.new.result c.new-2.result c.new-3.result c.new.ensures
    c.new-2.ensures c.new-3.ensures.empty

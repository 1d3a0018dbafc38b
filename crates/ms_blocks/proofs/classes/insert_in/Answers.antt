use Rattle.std.proofs.Common.{◌∙◌, ◌*◌, ◌%◌, ◌^◌, ap, arith, bit_or, sym}
use Rattle.std.proofs.lemmas.Option.{slice_get-get_or}
use Rattle.ms_blocks.specs.Classes.{class_of}
use Rattle.ms_blocks.proofs.ClassChangeLemmas.{InsertsAmong, inserts_among}
use Rattle.ms_blocks.proofs.classes.insert_in.Given.{Over}
use Rattle.ms_blocks.proofs.classes.insert_in.Goals as goal
use Rattle.ms_blocks.proofs.classes.insert_in.Goals.{After-insert}

made : (g : Over) (c : After-insert g)
    → InsertsAmong c.args.trees.now (bit_or c.args.some.now (1 * 2 ^ c.class_of-class.result % 2 ^ 64))
    c.class_of-class.result c.insert.new.tree c.args.spare.value.block
made g c =
    inserts_among c.args.trees.now c.args.some.now c.class_of-class.result _ c.insert.new.tree
    c.args.spare.value.block c.requires.trees c.requires.ranked
    (ap (λ fork. class_of fork.block.words) (sym c.deref.ensures) ∙ sym c.class_of-class.ensures.class)
    (slice_get-get_or c.args.trees.now c.class_of-class.result _
    (omega (arith, c.class_of-class.ensures.within, c.requires.trees.there))) c.insert.ensures

pub returns-clause-trees : goal.returns-clause-trees
returns-clause-trees g c = (made g c).classes

pub returns-clause-blocks : goal.returns-clause-blocks
returns-clause-blocks g c = (made g c).blocks

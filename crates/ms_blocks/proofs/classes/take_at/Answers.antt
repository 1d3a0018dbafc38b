use Rattle.std.proofs.Common.{◌<◌, ◌∙◌, Some, ap, arith, get_or-set_same, length, sym}
use Rattle.std.proofs.lemmas.Option.{slice_get-get_or}
use Rattle.ms_blocks.specs.Tree.{blocks_of}
use Rattle.ms_blocks.specs.declared.tree.Tree.{Tree}
use Rattle.ms_blocks.proofs.ClassLemmas.{ranked_at}
use Rattle.ms_blocks.proofs.ClassChangeLemmas.{TakesFit, none_here, one_where_some, takes_fit, tells_whether}
use Rattle.ms_blocks.proofs.ClassBitLemmas.{bit_few}
use Rattle.ms_blocks.proofs.classes.take_at.Given.{Over}
use Rattle.ms_blocks.proofs.classes.take_at.Goals as goal
use Rattle.ms_blocks.proofs.classes.take_at.Goals.{After-noted_anew}

pub returns-in_default-clause-none : goal.returns-in_default-clause-none
returns-in_default-clause-none g c =
    none_here c.args.trees.now c.args.class c.args.words _ c.requires.trees.1
    (slice_get-get_or c.args.trees.now c.args.class _ (omega (arith, c.requires.before.0, c.requires.trees.0.there)))
    c.in_default.ensures.found

pub noted_anew-requires-clause-one : goal.noted_anew-requires-clause-one
noted_anew-requires-clause-one g c =
    let there = slice_get-get_or c.args.trees.now c.args.class _
    (omega (arith, c.requires.before.0, c.requires.trees.0.there)) in
    one_where_some _ c.args.words _ c.in-Some.found.value.block (c.requires.trees.0.tells c.args.class _ there)
    (bit_few c.args.some.now c.args.class)
    (c.in-Some.ensures.found (ranked_at c.args.trees.now c.args.class _ c.requires.trees.1 there))

made : (g : Over) (c : After-noted_anew g)
    → TakesFit c.args.trees.now c.noted_anew.result c.args.class c.args.words c.take_fit.new.tree
    (Some c.in-Some.found.value.block)
made g c =
    let position = c.args.class in
    let rest = c.take_fit.new.tree in
    let within : position < length c.args.trees.now = omega (arith, c.requires.before.0, c.requires.trees.0.there) in
    let here = ap (λ (t : Tree _). blocks_of t)
    (get_or-set_same c.args.trees.now position rest c.index-trees-class-2.result within) in
    takes_fit c.args.trees.now c.args.some.now c.noted_anew.result position c.args.words _ rest _
    c.requires.trees.0 c.requires.trees.1 c.requires.before.1 (slice_get-get_or c.args.trees.now position _ within)
    c.in-Some.ensures.found c.in-Some.ensures.left c.noted_anew.ensures.others
    (tells_whether c.is_empty.result _ (blocks_of rest) c.noted_anew.ensures.here
    (λ empty. sym here ∙ c.is_empty.ensures.none empty) (λ full none. c.is_empty.ensures.some full (here ∙ none)))

pub returns-clause-trees : goal.returns-clause-trees
returns-clause-trees g c = (made g c).classes

pub returns-clause-found : goal.returns-clause-found
returns-clause-found g c = (made g c).among.found

pub returns-clause-left : goal.returns-clause-left
returns-clause-left g c = (made g c).among.left

use Rattle.std.proofs.Common.{◌≡◌, ◌<◌, ◌/◌, ◌%◌, [], List, length, set, sym, ap, ◌∙◌, arith}
use Rattle.std.proofs.lemmas.List.{get_or_read}
use Rattle.std.proofs.lemmas.List.Elements.{recursion_from_All}
use Rattle.ms_base.specs.Level.{root_words}
use Rattle.ms_buddy.specs.Leaves.{LentLeaf, AreLeaves, leaf_of, span_at, with_leaf}
use Rattle.ms_pool.specs.Ledger.{Loan, with_loan}
use Rattle.ms_pool.specs.Keeping.{loans_from}
use Rattle.ms_pool.proofs.loans.CarvedPartLemmas.{leaf_is_loan, loans_with_leaf, offset_is_whole, where_ok}
use Rattle.ms_pool.proofs.trees.carve_leaf.Goals as goal

pub carve-requires-clause-aligned : goal.carve-requires-clause-aligned
carve-requires-clause-aligned c = offset_is_whole c.args.chunk.now.start c.args.chunk.now.level c.requires.may.placed

pub returns-clause-lent : goal.returns-clause-lent
returns-clause-lent c = λ ok.
    let trees = c.args.trees.now.items in
    let chunk = c.args.chunk.now in
    let root = chunk.start / root_words in
    let within : root < length trees = omega (arith, c.requires.may.there) in
    let leaf : LentLeaf = leaf_of (span_at (chunk.start % root_words) chunk.level) c.args.owner chunk.front in
    let lent : c.carve.new.self ≡ with_leaf leaf c.index_mut-tree.result.now =
    where_ok c.carve.result _ (sym c.is_ok.ensures.value ∙ ok) c.carve.ensures.lent in
    ap (λ (t : List LentLeaf). loans_from 0 (set trees root t))
    (lent ∙ ap (with_leaf leaf)
    (get_or_read trees root c.index_mut-tree.result.now within c.index_mut-tree.ensures.value []))
    ∙ loans_with_leaf trees root leaf within (recursion_from_All AreLeaves trees c.requires.leaves) (omega arith)
    ∙ ap (λ (loan : Loan). with_loan loan (loans_from 0 trees)) (leaf_is_loan c.args.owner chunk)

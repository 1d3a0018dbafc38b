use Rattle.std.proofs.Common.{◌≡◌, ◌&&◌, ◌||◌, ◌==◌, ℕ, true, List, ◌∷◌, refl, sym, ap, ◌∙◌}
use Rattle.std.specs.List.{list_any}
use Rattle.std.proofs.lemmas.Bool.{and_from, eq-eqb}
use Rattle.ms_base.specs.declared.span.Block.{Block}
use Rattle.ms_loader.specs.Finding.{names_block}
use Rattle.ms_loader.proofs.calls.FindingLemmas.{entry_is}
use Rattle.ms_loader.proofs.naming.finding.name_among.Goals as goal

-- The first entry has the block.
its_here : (name : ℕ) (block other : Block) (es : List (ℕ × Block)) → other.start ≡ block.start
    → other.words ≡ block.words → list_any (names_block name block) ((name, other) ∷ es) ≡ true
its_here name block other es starts words = ap (λ b. b || list_any (names_block name block) es)
    (and_from (name == name) ((other.start == block.start) && (other.words == block.words)) (eq-eqb name name refl)
    (and_from (other.start == block.start) (other.words == block.words) (eq-eqb other.start block.start starts)
    (eq-eqb other.words block.words words)))

pub returns-then-lacks-clause-named : goal.returns-then-lacks-clause-named
returns-then-lacks-clause-named c =
    entry_is c.in-Some.name.now c.args.block c.args.others.now.entries c.iter-name-items.ensures.unique
    (sym (c.loop-name.invariant c.in-Some.name.now (sym c.lacks.ensures ∙ c.if-lacks.true))
    ∙ ap (list_any (names_block c.in-Some.name.now c.args.block)) c.in-Some.ensures.steps
    ∙ its_here c.in-Some.name.now c.args.block c.in-Some.small.now c.next.new.self
    (rw c.block-other.ensures at c.if-other-block.true) (rw c.block-other.ensures at c.if-other-block-2.true))

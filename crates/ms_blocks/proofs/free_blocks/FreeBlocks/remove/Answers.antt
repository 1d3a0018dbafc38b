use Rattle.std.proofs.Common.{List, ap, arith, subst, sym, ◌∙◌}
use Rattle.ms_base.specs.declared.span.Block.{Block}
use Rattle.ms_blocks.specs.FreeBlocks.{KeptBlocks, LieFrom, by_start, run_of}
use Rattle.ms_blocks.specs.Store.{blocks_in}
use Rattle.ms_blocks.proofs.BestFitLemmas.{best_fit-found, best_fit-none}
use Rattle.ms_blocks.proofs.TendedLemmas.{Misses, Takes, misses, none_kept, takes}
use Rattle.ms_blocks.proofs.free_blocks.FreeBlocks.remove.Given.{Over}
use Rattle.ms_blocks.proofs.free_blocks.FreeBlocks.remove.Goals as goal
use Rattle.ms_blocks.proofs.free_blocks.FreeBlocks.remove.Goals.{In-Some, In_default}

-- What the removal makes of the fields, without a fit and with one.
missed : (g : Over) (c : In_default g) → Misses c.self.inside c.args.words (blocks_in c.take.new.store)
missed g c =
    misses c.self.inside c.args.words (blocks_in c.take.new.store) c.self.invariant.blocks
    c.in_default.ensures.found c.in_default.ensures.left

taken : (g : Over) (c : In-Some g) → Takes c.self.inside c.args.words c.in-Some.block (blocks_in c.take.new.store)
taken g c =
    takes c.self.inside c.args.words c.in-Some.block (blocks_in c.take.new.store) c.self.invariant.blocks
    c.in-Some.ensures.found c.in-Some.ensures.left (omega arith)

pub invariant_of-self : goal.invariant_of-self
invariant_of-self g c = record {
  blocks = rw c.saturating_sub-self-inside.ensures (missed g (goal.at.invariant_of-self g c).In_default).tended;
  store = c.take.ensures.store;
  room = c.in_default.ensures.same c.self.inside.room c.self.invariant.room;
  fits = c.self.invariant.fits;
}

pub returns-in_default-clause-none : goal.returns-in_default-clause-none
returns-in_default-clause-none g c =
    rw (← c.self.view_is) (missed g (goal.at.returns-in_default-clause-none g c).In_default).none

pub returns-in_default-clause-unchanged : goal.returns-in_default-clause-unchanged
returns-in_default-clause-unchanged g c =
    ap (λ (blocks : List Block). let seen : KeptBlocks =
    record { kept = by_start blocks; room = c.self.inside.room } in seen)
    (sym (missed g (goal.at.returns-in_default-clause-unchanged g c).In_default).same) ∙ c.self.view_is

pub invariant_of-self-2 : goal.invariant_of-self-2
invariant_of-self-2 g c =
    let made = taken g (goal.at.invariant_of-self-2 g c).In-Some in
    record {
      blocks = made.tended;
      store = c.take.ensures.store;
      room = c.in-Some.ensures.room c.self.inside.room c.self.invariant.room;
      fits = omega (arith, c.self.invariant.fits, made.counted);
    }

pub returns-clause-best : goal.returns-clause-best
returns-clause-best g c = rw (← c.self.view_is) (taken g (goal.at.returns-clause-best g c).In-Some).best

pub returns-clause-taken : goal.returns-clause-taken
returns-clause-taken g c = rw (← c.self.view_is) (taken g (goal.at.returns-clause-taken g c).In-Some).runs

pub returns-clause-back : goal.returns-clause-back
returns-clause-back g c = (taken g (goal.at.returns-clause-back g c).In-Some).back

pub returns-then-self-words-clause-none : goal.returns-then-self-words-clause-none
returns-then-self-words-clause-none g c =
    rw (← c.self.view_is) (none_kept c.self.inside c.args.words c.self.invariant.blocks c.if-self-words.true)

pub returns-then-self-words-clause-answer : goal.returns-then-self-words-clause-answer
returns-then-self-words-clause-answer g c =
    sym (best_fit-none c.args.self.now.kept c.args.words (returns-then-self-words-clause-none g c))

pub returns-in_default-clause-answer : goal.returns-in_default-clause-answer
returns-in_default-clause-answer g c =
    sym (best_fit-none c.args.self.now.kept c.args.words (returns-in_default-clause-none g c))

pub returns-clause-answer : goal.returns-clause-answer
returns-clause-answer g c =
    let laid = subst (λ (blocks : KeptBlocks). LieFrom 0 blocks.kept) c.self.view_is c.self.invariant.blocks.laid in
    sym (best_fit-found 0 c.args.self.now.kept c.args.words (run_of c.in-Some.block) laid (returns-clause-best g c))

use Rattle.std.proofs.Common.{◌≡◌, ◌∙◌, ℕ, false, arith, ap, subst, sym}
use Rattle.std.proofs.lemmas.List.Sums.{sum_by_push}
use Rattle.ms_base.specs.Interval.{meets_any}
use Rattle.ms_base.specs.Names.{with_new}
use Rattle.ms_blocks.specs.FreeBlocks.{run_of}
use Rattle.ms_arena.specs.Kept.{KeptView}
use Rattle.ms_arena.proofs.KeptLemmas.{may_push, with_all-push}
use Rattle.ms_arena.proofs.kept.Kept.add.Goals as goal

pub invariant_of-self : goal.invariant_of-self
invariant_of-self c = rw c.push_reserved.ensures.items (record {
  may = may_push c.self.inside.ordered.kept c.self.inside.came.items (run_of c.args.block) c.self.invariant.may (record {
    some = c.requires.words;
    apart = subst (λ (kept : KeptView). meets_any (run_of c.args.block) kept.kept ≡ false) (sym c.self.view_is)
        c.requires.apart;
  });
  summed = omega (
    arith,
    c.self.invariant.summed,
    sum_by_push (λ (run : ℕ × ℕ). run.1) c.self.inside.came.items (run_of c.args.block),
  );
})

pub returns-clause-kept : goal.returns-clause-kept
returns-clause-kept c = rw c.push_reserved.ensures.items
    (with_all-push c.self.inside.ordered.kept c.self.inside.came.items (run_of c.args.block))
    ∙ ap (λ (kept : KeptView). with_new kept.kept c.args.block.start c.args.block.words) c.self.view_is

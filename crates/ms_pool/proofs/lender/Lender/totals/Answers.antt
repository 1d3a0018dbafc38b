use Rattle.std.proofs.Common.{ℕ, List, length, sym, ap, subst, ◌∙◌}
use Rattle.ms_base.specs.declared.kind.Space.{Space}
use Rattle.ms_commit.specs.Nodes.{slots_of}
use Rattle.std.proofs.lemmas.List.FromFn.{length-range_with_len}
use Rattle.ms_base.specs.declared.span.Chunk.{Chunk}
use Rattle.ms_pool.specs.declared.lent.Counted.{Counted}
use Rattle.ms_pool.specs.Counting.{AreCounted}
use Rattle.ms_pool.specs.Ledger.{held_in, opened_in}
use Rattle.ms_pool.specs.Keeping.{ledger_of}
use Rattle.ms_pool.proofs.counts.CountedLemmas.{capacity_is, fronts_are, lent_are_by_level}
use Rattle.ms_pool.proofs.counts.PoolSumsLemmas.{sums_are}
use Rattle.ms_pool.proofs.lender.Lender.totals.Goals.{in-NonClass, in-Class}
use Rattle.ms_pool.proofs.lender.Lender.totals.Goals as goal

pub returns : goal.returns
returns c =
    let held : List Chunk = held_in c.args.space (ledger_of c.args.self.now) in
    let counted : Counted = c.counted-counted.result in
    let are : AreCounted held counted = subst (AreCounted held) (sym c.counted-counted.ensures) (c.requires.counted c.args.space) in
    elim c.match-space.branch [
      | in-NonClass w ↦ sums_are c.args.space c.args.self.now c.match-space.nodes.0 c.committed_in-granules.result
          c.counted-counted.result.capacity c.counted-counted.result.fronts c.match-space.nodes.1
          c.counted-counted.result.lent c.free_in-free_counted.result.free
          (ap (λ (both : ℕ × ℕ). both.0) w.nodes-is ∙ w.reserved.ensures.count
          ∙ ap (λ (space : Space). length (slots_of space c.args.self.now.nodes)) (sym w.in-NonClass.is))
          c.committed_in-granules.ensures (lent_are_by_level held counted are) c.free_in-free_counted.ensures
          (capacity_is held counted are) (fronts_are held counted are)
          (ap (λ (both : ℕ × ℕ). both.1) w.nodes-is ∙ ap (opened_in (ledger_of c.args.self.now)) (sym w.in-NonClass.is))
      | in-Class w ↦ sums_are c.args.space c.args.self.now c.match-space.nodes.0 c.committed_in-granules.result
          c.counted-counted.result.capacity c.counted-counted.result.fronts c.match-space.nodes.1
          c.counted-counted.result.lent c.free_in-free_counted.result.free
          (ap (λ (both : ℕ × ℕ). both.0) w.nodes-is ∙ w.class_slots.ensures
          ∙ sym (length-range_with_len 64 c.args.self.now.nodes.class_slots)
          ∙ ap (λ (space : Space). length (slots_of space c.args.self.now.nodes)) (sym w.in-Class.is))
          c.committed_in-granules.ensures (lent_are_by_level held counted are) c.free_in-free_counted.ensures
          (capacity_is held counted are) (fronts_are held counted are)
          (ap (λ (both : ℕ × ℕ). both.1) w.nodes-is ∙ ap (opened_in (ledger_of c.args.self.now)) (sym w.in-Class.is))
    ]

use Rattle.std.proofs.Common.{◌≤◌, ℕ, ◌-◌, ◌*◌, sym, refl, ap, ◌∙◌, arith}
use Rattle.std.proofs.lemmas.Bool.{lt-leb}
use Rattle.std.specs.Prelude.{nat_le}
use Rattle.ms_base.specs.Level.{size_of, highest_level}
use Rattle.ms_base.proofs.free.HalvesLemmas.{size_falls}
use Rattle.ms_pool.specs.Growing.{has_room}
use Rattle.ms_pool.specs.Ledger.{state_in}
use Rattle.ms_pool.specs.Keeping.{ledger_of}
use Rattle.ms_buddy.proofs.changes.LeaderLemmas.{parent_size}
use Rattle.ms_pool.proofs.growths.ReachLemmas.{first_false, parent_is, reached_front, reached_none, reached_parent}
use Rattle.ms_pool.proofs.growths.ReachLemmas.{second_false, third_false}
use Rattle.ms_pool.proofs.lender.Lender.reaching.Goals.{else-total-size-2-via-then-total-size-2+then-may_enlarge+else-may_become_parent}
use Rattle.ms_pool.proofs.lender.Lender.reaching.Goals.{else-total-size-2-via-then-total-size-2+else-may_enlarge}
use Rattle.ms_pool.proofs.lender.Lender.reaching.Goals.{else-total-size-2-via-else-total-size-2}
use Rattle.ms_pool.proofs.lender.Lender.reaching.Goals as goal

pub returns-then-total-size : goal.returns-then-total-size
returns-then-total-size c =
    reached_front (state_in c.args.space (ledger_of c.args.self.now)) c.args.chunk.now c.chunk_at.result c.args.total
    c.args.may_enlarge
    (omega (arith, c.if-total-size.true, c.words-size.ensures.size)) c.chunk_at.ensures

pub chunk_at-requires-then-may_become_parent : goal.chunk_at-requires-then-may_become_parent
chunk_at-requires-then-may_become_parent c =
    let some = c.if-may_become_parent.ensures.no_root refl in
    let low : c.args.chunk.now.level ≤ highest_level = omega (arith, c.number.ensures.same, c.number.ensures.below) in
    omega (
      arith,
      c.if-total-size-2.true,
      c.words-size.ensures.size,
      parent_size c.args.chunk.now.level some low,
      size_falls 0 (c.args.chunk.now.level - 1) (omega arith),
    )

pub returns-then-may_become_parent : goal.returns-then-may_become_parent
returns-then-may_become_parent c =
    reached_parent (state_in c.args.space (ledger_of c.args.self.now)) c.args.chunk.now
    c.chunk_at-then-may_become_parent.result c.args.total c.args.may_enlarge
    (omega (arith, c.if-total-size.false, c.words-size.ensures.size))
    (omega (arith, c.if-total-size-2.true, c.words-size.ensures.size)) c.if-may_enlarge.true
    (sym (c.if-may_become_parent.ensures.room))
    (parent_is c.args.self.now.policy c.args.chunk.now.start c.args.chunk.now.level c.new-level.result c.args.total
    c.chunk_at-then-may_become_parent.result c.chunk_at-then-may_become_parent.ensures
    (c.new-level.ensures ∙ ap (λ (n : ℕ). n - 1) c.number.ensures.same))

pub returns : goal.returns
returns c =
    let pool = state_in c.args.space (ledger_of c.args.self.now) in
    let chunk = c.args.chunk.now in
    reached_none pool chunk c.args.total c.args.may_enlarge
    (omega (arith, c.if-total-size.false, c.words-size.ensures.size)) (elim c.else-total-size-2.branch [
      | else-total-size-2-via-then-total-size-2+then-may_enlarge+else-may_become_parent w ↦
          third_false (nat_le c.args.total (2 * size_of chunk.level)) c.args.may_enlarge (has_room pool chunk)
          (sym w.may_become_parent.ensures.room ∙ w.if-may_become_parent.false)
      | else-total-size-2-via-then-total-size-2+else-may_enlarge w ↦
          second_false (nat_le c.args.total (2 * size_of chunk.level)) c.args.may_enlarge
          (has_room pool chunk) w.if-may_enlarge.false
      | else-total-size-2-via-else-total-size-2 w ↦
          first_false (nat_le c.args.total (2 * size_of chunk.level)) c.args.may_enlarge (has_room pool chunk)
          (lt-leb c.args.total (2 * size_of chunk.level)
          (omega (arith, w.if-total-size-2.false, c.words-size.ensures.size)))
    ])

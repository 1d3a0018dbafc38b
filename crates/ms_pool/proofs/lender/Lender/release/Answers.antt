use Rattle.std.proofs.Common.{sym, ap, subst, ◌∙◌, arith, inl, inr, refl}
use Rattle.ms_commit.specs.Nodes.{NodesState, AreSound}
use Rattle.ms_pool.specs.Keeping.{ledger_of, loans_from}
use Rattle.ms_pool.proofs.returns.ReleasedPartLemmas.{starts_by}
use Rattle.ms_pool.proofs.returns.ReleaseLemmas.{released_is_sound}
use Rattle.ms_pool.proofs.returns.UncommitLemmas.{sound_without_range}
use Rattle.ms_pool.proofs.returns.PutBackLemmas.{keeps_where, leaves_where, released_where_all_stay, released_where_some_leave}
use Rattle.ms_pool.proofs.returns.PutBackLemmas.{seen}
use Rattle.ms_pool.proofs.lender.Lender.release.Goals.{else-ne-via-then-ne+else-granule-size, else-ne-via-else-ne}
use Rattle.ms_pool.proofs.lender.Lender.release.Goals as goal
use Rattle.ms_pool.proofs.loans.ShownLemmas.{kept_where_shown}

pub overflow_add-part : goal.overflow_add-part
overflow_add-part c = omega (
  arith,
  starts_by _ c.args.chunk.start c.put_back-part.result c.put_back-part.ensures.free,
  c.put_back-part.ensures.there,
  c.requires.kept.trees,
  c.requires.kept.nodes.class_slots,
)

pub uncommit-requires : goal.uncommit-requires
uncommit-requires c =
    rw (c.granule-granule.ensures, c.words-size.ensures.size)
    (released_where_some_leave c.args.self.now c.put_back-part.new.trees.items c.args.chunk c.put_back-part.result
    c.requires.kept c.requires.lent c.put_back-part.ensures
    (leaves_where c.args.self.now.policy (sym c.ne.ensures ∙ c.if-ne.true))
    (omega (arith, c.granule-granule.ensures, c.words-size.ensures.size, c.if-granule-size.true))).reserved

pub returns-then-granule-size-clause-released : goal.returns-then-granule-size-clause-released
returns-then-granule-size-clause-released c =
    let lender = c.args.self.now in
    ap (λ (nodes : NodesState). seen (ledger_of lender) (loans_from 0 c.put_back-part.new.trees.items) nodes)
    (rw (c.granule-granule.ensures, c.words-size.ensures.size) at c.uncommit.ensures)
    ∙ (released_where_some_leave lender c.put_back-part.new.trees.items c.args.chunk c.put_back-part.result
    c.requires.kept c.requires.lent c.put_back-part.ensures
    (leaves_where lender.policy (sym c.ne.ensures ∙ c.if-ne.true))
    (omega (arith, c.granule-granule.ensures, c.words-size.ensures.size, c.if-granule-size.true))).released

pub returns-then-granule-size-clause-kept : goal.returns-then-granule-size-clause-kept
returns-then-granule-size-clause-kept c =
    kept_where_shown c.args.self.now c.uncommit.new.self c.put_back-part.new.trees _ c.requires.kept
    c.put_back-part.ensures.count c.put_back-part.ensures.leaves
    (subst AreSound (sym c.uncommit.ensures) (sound_without_range c.args.self.now.nodes _ _ c.requires.kept.nodes))
    (record {
      after = returns-then-granule-size-clause-released c;
      class_slots_are = ap (λ (nodes : NodesState). nodes.class_slots) c.uncommit.ensures;
      limits =
          ap (λ (nodes : NodesState). nodes.limits) c.uncommit.ensures;
    })
    (released_is_sound (ledger_of c.args.self.now) c.args.chunk c.requires.kept.sound)

pub returns-else-ne-clause-released : goal.returns-else-ne-clause-released
returns-else-ne-clause-released c =
    let lender = c.args.self.now in
    released_where_all_stay lender c.put_back-part.new.trees.items c.args.chunk c.put_back-part.result c.requires.kept
    c.requires.lent c.put_back-part.ensures
    (elim c.else-ne.branch [
      | else-ne-via-then-ne+else-granule-size w ↦ inr (
        leaves_where lender.policy (sym c.ne.ensures ∙ w.if-ne.true),
        omega (arith, c.granule-granule.ensures, c.words-size.ensures.size, w.if-granule-size.false),
      )
      | else-ne-via-else-ne w ↦ inl (keeps_where lender.policy (sym c.ne.ensures ∙ w.if-ne.false))
    ])

pub returns-else-ne-clause-kept : goal.returns-else-ne-clause-kept
returns-else-ne-clause-kept c =
    kept_where_shown c.args.self.now c.args.self.now.nodes c.put_back-part.new.trees _ c.requires.kept
    c.put_back-part.ensures.count c.put_back-part.ensures.leaves c.requires.kept.nodes
    (record { after = returns-else-ne-clause-released c; class_slots_are = refl; limits = refl })
    (released_is_sound (ledger_of c.args.self.now) c.args.chunk c.requires.kept.sound)

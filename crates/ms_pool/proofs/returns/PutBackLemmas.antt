-- The pool where its trees have taken a chunk back, and the nodes uncommit what no front meets any
-- more: it is the model's. The proof of `release` uses them.
use Rattle.std.proofs.Common.{◌≡◌, ◌<◌, ◌≤◌, ℕ, ◌*◌, ◌/◌, true, false, not, ◌⊎◌, List, refl, sym, ap, ◌∙◌, arith}
use Rattle.std.proofs.lemmas.List.Elements.{recursion_from_All}
use denote.Enum.Bare.{sameb}
use Rattle.ms_base.specs.declared.kind.Space.{Space}
use Rattle.ms_base.specs.declared.kind.Space.TheVariants.{NonClass, Class}
use Rattle.ms_base.specs.declared.policy.Policy.{Policy}
use Rattle.ms_base.specs.declared.policy.Policy.TheVariants.{Balanced, Aggressive, None as Never}
use Rattle.ms_base.specs.contracts.policy.Policy.{the_type}
use Rattle.ms_base.specs.declared.span.Chunk.{Chunk}
use Rattle.ms_base.specs.declared.span.Span.{Span}
use Rattle.ms_base.specs.Level.{size_of, root_words}
use Rattle.ms_base.specs.Policy.{granule_of, keeps}
use Rattle.ms_base.proofs.free.MovedLemmas.{raised_part}
use Rattle.ms_commit.specs.Nodes.{NodesState, AreInReserved, granules_in, without_granules}
use Rattle.ms_buddy.specs.Leaves.{LentLeaf, AreLeaves}
use Rattle.ms_pool.specs.declared.lender.Lender.{Lender}
use Rattle.ms_pool.specs.Ledger.{Loan, Ledger}
use Rattle.ms_pool.specs.Releasing.{is_lent_in, with_released, without_loan, TakesBack}
use Rattle.ms_pool.specs.Keeping.{IsKept, ledger_of, loans_from}
use Rattle.ms_pool.proofs.searches.SlotLoopLemmas.{committed_is}
use Rattle.ms_pool.proofs.returns.ReleasedGranuleLemmas.{first_of, count_of}
use Rattle.ms_pool.proofs.returns.ReleaseLemmas.{IsBack, IsOfSpace, all_stay, granules_after, is_back, of_space}
use Rattle.ms_pool.proofs.returns.UncommitLemmas.{granules_leave, is_range}

-- Which policies keep.
pub leaves_where : (policy : Policy) → not (sameb the_type policy Never) ≡ true → keeps policy ≡ false
leaves_where Balanced e = refl
leaves_where Aggressive e = refl
leaves_where Never e = absurd (cc)

pub keeps_where : (policy : Policy) → not (sameb the_type policy Never) ≡ false → keeps policy ≡ true
keeps_where Balanced e = absurd (cc)
keeps_where Aggressive e = absurd (cc)
keeps_where Never e = refl

-- The part, by its span in the pool.
abbrev pub part_in_pool : Chunk → Span → Span
part_in_pool chunk part = raised_part (chunk.start / root_words * root_words) part

back : (lender : Lender) (trees : List (List LentLeaf)) (chunk : Chunk) (part : Span) (of : IsOfSpace chunk.start)
    → IsKept lender
    → is_lent_in (loans_from 0 lender.trees.items) chunk ≡ true → TakesBack lender.trees.items chunk part trees
    → IsBack (ledger_of lender) of.space chunk (part_in_pool chunk part)
back lender trees chunk part of kept lent put =
    is_back (ledger_of lender) trees chunk part of.space kept.sound lent of.here of.there put.loans
    (recursion_from_All AreLeaves trees put.leaves)
    (omega (arith, put.there, put.count)) put.free

-- The pool with other loans and nodes.
abbrev pub seen : Ledger → List Loan → NodesState → Ledger
seen old loans nodes = record old {
  loans = loans;
  slots = nodes.slots;
  committed = granules_in NonClass nodes;
  class_committed = granules_in Class nodes;
  limits = record old.limits {
    nodes = nodes.limits.nodes;
    granules = nodes.limits.granules;
    class_nodes = nodes.class_slots;
  };
}

same_seen : (lender : Lender) (chunk : Chunk) (loans : List Loan) (granules : List ℕ)
    → loans ≡ without_loan chunk (loans_from 0 lender.trees.items)
    → ((one : Space) → granules_in one (record lender.nodes { granules = granules })
    ≡ granules_after (ledger_of lender) chunk one)
    → seen (ledger_of lender) loans (record lender.nodes { granules = granules })
    ≡ with_released (ledger_of lender) chunk
same_seen lender chunk loans granules e f =
    ap (λ (l : List Loan). seen (ledger_of lender) l nodes) e
    ∙ ap (λ (own : List ℕ). made own (granules_in Class nodes)) (f NonClass)
    ∙ ap (λ (own : List ℕ). made (granules_after (ledger_of lender) chunk NonClass) own) (f Class)
  where
    nodes : NodesState
    nodes = record lender.nodes { granules = granules }

    made : List ℕ → List ℕ → Ledger
    made committed class_committed = record (ledger_of lender) {
      loans = without_loan chunk (loans_from 0 lender.trees.items);
      committed = committed;
      class_committed = class_committed;
    }

-- All granules stay.
pub released_where_all_stay : (lender : Lender) (trees : List (List LentLeaf)) (chunk : Chunk) (part : Span)
    → IsKept lender
    → is_lent_in (loans_from 0 lender.trees.items) chunk ≡ true → TakesBack lender.trees.items chunk part trees
    → (keeps lender.policy ≡ true) ⊎ ((keeps lender.policy ≡ false) × (size_of part.level < granule_of lender.policy))
    → seen (ledger_of lender) (loans_from 0 trees) lender.nodes ≡ with_released (ledger_of lender) chunk
released_where_all_stay lender trees chunk part kept lent put small =
    same_seen lender chunk (loans_from 0 trees) lender.nodes.granules put.loans
    (λ one. sym (committed_is one lender)
    ∙ all_stay (ledger_of lender) of.space chunk (part_in_pool chunk part) kept.sound
    (back lender trees chunk part of kept lent put) small one)
  where
    of : IsOfSpace chunk.start
    of = of_space chunk.start

-- The granules of the part leave.
pub record LeaveThere (lender : Lender) (trees : List (List LentLeaf)) (chunk : Chunk) (part : Span) : Type 0 where
  pub reserved : AreInReserved lender.nodes (first_of lender.policy (part_in_pool chunk part))
      (count_of lender.policy (part_in_pool chunk part))
  pub released : seen (ledger_of lender) (loans_from 0 trees)
      (without_granules lender.nodes (first_of lender.policy (part_in_pool chunk part))
      (count_of lender.policy (part_in_pool chunk part)))
      ≡ with_released (ledger_of lender) chunk

pub released_where_some_leave : (lender : Lender) (trees : List (List LentLeaf)) (chunk : Chunk) (part : Span)
    → IsKept lender
    → is_lent_in (loans_from 0 lender.trees.items) chunk ≡ true → TakesBack lender.trees.items chunk part trees
    → keeps lender.policy ≡ false → granule_of lender.policy ≤ size_of part.level
    → LeaveThere lender trees chunk part
released_where_some_leave lender trees chunk part kept lent put leaves large = record {
  reserved = (is_range lender of.space chunk (part_in_pool chunk part) kept its of.here large).reserved;
  released = same_seen lender chunk (loans_from 0 trees)
      (without_granules lender.nodes (first_of lender.policy (part_in_pool chunk part))
      (count_of lender.policy (part_in_pool chunk part))).granules put.loans
      (granules_leave lender of.space chunk (part_in_pool chunk part) kept its of.here leaves large);
}
  where
    of : IsOfSpace chunk.start
    of = of_space chunk.start

    its : IsBack (ledger_of lender) of.space chunk (part_in_pool chunk part)
    its = back lender trees chunk part of kept lent put

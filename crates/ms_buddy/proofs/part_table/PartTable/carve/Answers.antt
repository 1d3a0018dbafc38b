-- The bits tell the free leaf in which the part lies, and it is lent there.
use Rattle.std.proofs.Common.{◌≡◌, ◌<◌, ℕ, true, false, Ok, Err, IsTrue, length, refl, sym, ap, ◌∙◌, arith, ltb-true}
use Rattle.std.proofs.Common.{lt-ltb}
use Rattle.std.specs.Prelude.{nat_lt, Result}
use Rattle.std.specs.List.{list_any}
use Rattle.ms_base.specs.declared.refusal.Refusal.{Refusal}
use Rattle.ms_base.specs.declared.refusal.Refusal.TheVariants.{NoRoom, OutOfMemory}
use Rattle.ms_buddy.specs.Counts.{holder_of}
use Rattle.ms_buddy.specs.Entries.{lent_from}
use Rattle.ms_buddy.specs.Leaves.{fits_in, free_of, is_same, leaf_of, span_at, with_leaf}
use Rattle.ms_buddy.proofs.CallLemmas.{IsAsked, fits_there, holder_listed}
use Rattle.ms_buddy.proofs.LentPartLemmas.{front_fits}
use Rattle.ms_buddy.proofs.LendLemmas.{Lends, asked, err_holds}
use Rattle.ms_buddy.proofs.CallLemmas.{none_fits, not_whole}
use Rattle.ms_buddy.proofs.LendLemmas.{kept_then, lent_then, node_then, ok_holds, parts_then}
use Rattle.ms_buddy.proofs.LendLemmas.{entry_then}
use Rattle.ms_buddy.proofs.changes.CarvedLemmas.{clash}
use Rattle.ms_buddy.proofs.FreeLeafLemmas.{free_of-kept}
use Rattle.ms_buddy.proofs.bits.FreeNumberLemmas.{tree_may_part}
use Rattle.ms_buddy.proofs.counts.TreeCountLemmas.{room_to_part, some_to_part}
use Rattle.ms_buddy.proofs.KeptTreeLemmas.{kept_leaves}
use Rattle.ms_buddy.proofs.part_table.PartTable.carve.Given.{Over}
use Rattle.ms_buddy.proofs.part_table.PartTable.carve.Goals as goal
use Rattle.ms_buddy.proofs.part_table.PartTable.carve.Goals.{After-holder, In_default, In-Some, Else-is_err}

other_refusal : (result : Result (Unit {0}) Refusal) (level : ℕ) → result ≡ Err OutOfMemory → result ≡ Err (NoRoom level) → ⊥
other_refusal result level e f = absurd (cc)

not_refused : (result : Result (Unit {0}) Refusal) (level : ℕ) → result ≡ Ok tt → result ≡ Err (NoRoom level) → ⊥
not_refused result level e f = absurd (cc)

-- What is asked of the part.
part_asked : (g : Over) (c : After-holder g)
    → IsAsked c.self.invariant.node c.self.inside.free.words (span_at c.args.at c.args.level)
part_asked g c =
    asked _ _ _ _ _ c.self.invariant (span_at c.args.at c.args.level) c.requires.in_root
    (omega (arith, c.number-lent.ensures.same, c.number-lent.ensures.below)) c.requires.aligned

-- The part lies in no free leaf.
misses : (g : Over) (c : In_default g) → fits_in (span_at c.args.at c.args.level) (free_of c.args.self.now) ≡ false
misses g c =
    let kept = c.self.invariant in
    let part = span_at c.args.at c.args.level in
    sym (ap (fits_in part) (free_of-kept _ _ _ _ _ kept ∙ ap free_of c.self.view_is))
    ∙ none_fits kept.node _ part (part_asked g c.before)
    (λ holder h. c.in_default.ensures.none holder (omega (arith, h, c.number-lent.ensures.same)))

-- The part lies in a free leaf, that of the level found.
lends : (g : Over) (c : In-Some g)
    → Lends (lent_from 0 c.self.inside.entries) (length c.self.inside.entries) c.self.inside.counts c.self.inside.free.words
    c.self.inside.free.filled (span_at c.args.at c.args.level) c.args.owner c.args.front c.in-Some.free
lends g c =
    let kept = c.self.invariant in
    let part = span_at c.args.at c.args.level in
    let is = part_asked g c.before in record {
      kept = kept;
      is = is;
      some = c.requires.front.0;
      within = c.requires.front.1;
      order = omega (arith, c.in-Some.ensures.low, c.number-lent.ensures.same);
      any = holder_listed kept.node _ part c.in-Some.free is.root
          (omega (arith, c.in-Some.ensures.low, c.number-lent.ensures.below)) c.in-Some.ensures.set;
    }

fits : (g : Over) (c : In-Some g) → fits_in (span_at c.args.at c.args.level) (free_of c.args.self.now) ≡ true
fits g c =
    let l = lends g c in
    let part = span_at c.args.at c.args.level in
    sym (ap (fits_in part) (free_of-kept _ _ _ _ _ l.kept ∙ ap free_of c.self.view_is))
    ∙ fits_there l.kept.node _ part c.in-Some.free l.is l.order l.any

-- Where there is memory, the other entries are there where the root is split.
made : (g : Over) (c : Else-is_err g) → c.in-Some.free < c.args.level → length c.make.new.self ≡ 4096
made g c deep =
    ok_holds c.make.result (IsTrue (nat_lt c.in-Some.free c.number-lent.result) → length c.make.new.self ≡ 4096)
    (sym c.if-is_err.ensures.value) c.make.ensures.all
    (lt-ltb c.in-Some.free c.number-lent.result (omega (arith, deep, c.number-lent.ensures.same)))

pub returns-in_default-clause-no_room : goal.returns-in_default-clause-no_room
returns-in_default-clause-no_room g c =
    (λ e. misses g (goal.at.returns-in_default-clause-no_room g c).In_default, λ e. refl)

pub returns-in_default-clause-refusal : goal.returns-in_default-clause-refusal
returns-in_default-clause-refusal g c =
    (refl, misses g (goal.at.returns-in_default-clause-refusal g c).In_default)

pub returns-then-is_err-clause-no_room : goal.returns-then-is_err-clause-no_room
returns-then-is_err-clause-no_room g c = (
  λ e. absurd (other_refusal _ c.args.level refl e),
  λ e. absurd (clash _ (fits g (goal.at.returns-then-is_err-clause-no_room g c).In-Some) e),
)

pub returns-then-is_err-clause-refusal : goal.returns-then-is_err-clause-refusal
returns-then-is_err-clause-refusal g c =
    let part = span_at c.args.at c.args.level in
    let l = lends g (goal.at.returns-then-is_err-clause-refusal g c).In-Some in
    let deep : c.in-Some.free < c.args.level =
    omega (
      arith,
      c.number-lent.ensures.same,
      ltb-true c.in-Some.free c.number-lent.result
          (err_holds c.make.result (IsTrue (nat_lt c.in-Some.free c.number-lent.result)) (sym c.if-is_err.ensures.value)
          c.make.ensures.refused),
    ) in (
      fits g (goal.at.returns-then-is_err-clause-refusal g c).In-Some,
      sym (ap (list_any (is_same part)) (free_of-kept _ _ _ _ _ l.kept ∙ ap free_of c.self.view_is))
          ∙ not_whole l.kept.node _ part c.in-Some.free l.is deep l.any,
    )

pub of-requires : goal.of-requires
of-requires g c = front_fits c.args.level _ c.requires.front.0 (omega (arith, c.requires.front.1))

pub put-requires-clause-within : goal.put-requires-clause-within
put-requires-clause-within g c =
    entry_then _ _ _ _ _ _ _ _ _ (lends g (goal.at.put-requires-clause-within g c).In-Some) _
    (made g (goal.at.put-requires-clause-within g c).Else-is_err) c.make.ensures.stay c.make.ensures.more

pub part_counts-requires-clause-some : goal.part_counts-requires-clause-some
part_counts-requires-clause-some g c =
    let part = span_at c.args.at c.args.level in
    let l = lends g (goal.at.part_counts-requires-clause-some g c).In-Some in
    some_to_part _ _ _ (holder_of c.in-Some.free part) part l.kept.tree.counted (parts_then _ _ _ _ _ _ _ _ _ l)

pub part_counts-requires-clause-room : goal.part_counts-requires-clause-room
part_counts-requires-clause-room g c =
    room_to_part _ c.self.invariant.node c.self.invariant.tree.tree c.self.invariant.tree.counted

pub part-requires-clause-bits : goal.part-requires-clause-bits
part-requires-clause-bits g c =
    let part = span_at c.args.at c.args.level in
    let l = lends g (goal.at.part-requires-clause-bits g c).In-Some in
    let then = node_then _ _ _ _ _ _ _ _ _ l in
    rw c.number-lent.ensures.same
    (tree_may_part _ l.kept.node then.after c.in-Some.free part then.tree l.kept.tree.marked c.requires.in_root
    (parts_then _ _ _ _ _ _ _ _ _ l))

pub invariant_of-self-2 : goal.invariant_of-self-2
invariant_of-self-2 g c =
    let part = span_at c.args.at c.args.level in
    let l = lends g (goal.at.invariant_of-self-2 g c).In-Some in
    let room = (goal.at.invariant_of-self-2 g c).Else-is_err in
    rw (c.put.ensures, c.of.ensures)
    (kept_then _ _ _ _ _ part c.args.owner c.args.front c.in-Some.free l c.make.new.self _ _ _ _ c.make.ensures.lent
    (made g room) c.make.ensures.stay c.make.ensures.more refl refl refl
    (rw c.number-lent.ensures.same at c.part_counts.ensures) (rw c.number-lent.ensures.same at c.part.ensures.bits)
    (c.part.ensures.filled l.kept.tree.told))

pub returns-clause-lent : goal.returns-clause-lent
returns-clause-lent g c =
    let part = span_at c.args.at c.args.level in
    let l = lends g (goal.at.returns-clause-lent g c).In-Some in
    rw (c.put.ensures, c.of.ensures)
    (lent_then _ _ _ _ _ part c.args.owner c.args.front c.in-Some.free l c.make.new.self _ c.make.ensures.lent
    (made g (goal.at.returns-clause-lent g c).Else-is_err) c.make.ensures.stay c.make.ensures.more refl refl refl
    ∙ ap (with_leaf (leaf_of part c.args.owner c.args.front)) c.self.view_is)

pub returns-clause-no_room : goal.returns-clause-no_room
returns-clause-no_room g c = (
  λ e. absurd (not_refused _ c.args.level refl e),
  λ e. absurd (clash _ (fits g (goal.at.returns-clause-no_room g c).In-Some) e),
)

pub returns-clause-leaves : goal.returns-clause-leaves
returns-clause-leaves g c = kept_leaves _ _ _ _ _ (invariant_of-self-2 g c)

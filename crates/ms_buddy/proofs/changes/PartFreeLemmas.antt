-- A part is lent in a free leaf, which becomes a split on each level above the part's.
use Rattle.std.proofs.Common.{◌≡◌, ◌<◌, ◌≤◌, ℕ, zero, suc, ◌+◌, false, [], ◌∷◌, refl, sym, ap, subst, ◌∙◌, inl, inr, arith}
use Rattle.std.proofs.lemmas.Bool.{cases_lt}
use Rattle.std.proofs.lemmas.List.{append-nil}
use Rattle.ms_base.specs.declared.span.Span.{Span}
use Rattle.ms_base.specs.Level.{size_of, highest_level}
use Rattle.ms_buddy.specs.Counts.{IsParted}
use Rattle.ms_buddy.specs.Leaves.{IsFront, leaf_of, span_at}
use Rattle.ms_buddy.specs.Tree.{Node, Free, Lent, Split, IsTree, MayBeLent, free_in, is_free, lent_in}
use Rattle.ms_buddy.proofs.changes.CarveLemmas.{lower_may, upper_may}
use Rattle.ms_buddy.proofs.counts.CountLemmas.{lower_half_parted, upper_half_parted, whole_parted}

-- A free leaf became this node, in which that part alone is lent.
pub record IsPartedFor (level start : ℕ) (part : Span) (owner front : ℕ) (node : Node) : Type 0 where
  pub tree : IsTree level node
  pub split : is_free node ≡ false
  pub lent : lent_in level start node ≡ leaf_of part owner front ∷ []
  pub parted : IsParted (span_at start level ∷ []) (span_at start level) part (free_in level start node)

-- The part is the leaf itself.
whole_for : (part : Span) (level start owner front : ℕ) → MayBeLent level start part front → level ≡ part.level
    → IsPartedFor level start part owner front (Lent owner front)
whole_for part level start owner front may same = record {
  tree = subst (λ (n : ℕ). IsFront (size_of n) front) (sym same) may.fits;
  split = refl;
  lent = rw (starts, same) refl;
  parted = whole_parted (span_at start level) part may.of_root.level_fits (sym same);
}
  where
    starts : start ≡ part.start
    starts = omega (arith, may.inside.from, may.inside.to, ap size_of same)

lower_for : (part : Span) (level start owner front : ℕ) (lower : Node) → level < highest_level → level < part.level
    → part.start < start + size_of (level + 1) → IsPartedFor (level + 1) start part owner front lower
    → IsPartedFor level start part owner front (Split lower Free)
lower_for part level start owner front lower low deep below half = record {
  tree = (low, rw half.split refl, half.tree, tt);
  split = refl;
  lent = append-nil (lent_in (level + 1) start lower) ∙ half.lent;
  parted = lower_half_parted part level start _ deep below half.parted;
}

upper_for : (part : Span) (level start owner front : ℕ) (upper : Node) → level < highest_level → level < part.level
    → start + size_of (level + 1) ≤ part.start
    → IsPartedFor (level + 1) (start + size_of (level + 1)) part owner front upper
    → IsPartedFor level start part owner front (Split Free upper)
upper_for part level start owner front upper low deep above half = record {
  tree = (low, half.split, tt, half.tree);
  split = refl;
  lent = half.lent;
  parted = upper_half_parted part level start _ deep above half.parted;
}

-- So many levels above the part's.
pub parted_for : (times level start : ℕ) (part : Span) (owner front : ℕ) → level + times ≡ part.level
    → MayBeLent level start part front → (node : Node) × IsPartedFor level start part owner front node
parted_for zero level start part owner front e may =
    (Lent owner front, whole_for part level start owner front may (omega (arith, e)))
parted_for (suc times) level start part owner front e may =
    let deep : level < part.level = omega (arith, e) in
    let low : level < highest_level = omega (arith, e, may.is_part.0) in
    elim (cases_lt part.start (start + size_of (level + 1))) [
      | inl below ↦
          let half = parted_for times (level + 1) start part owner front (omega (arith, e))
          (lower_may part level start _ front may deep refl below) in
          (Split half.0 Free, lower_for part level start owner front half.0 low deep below half.1)
      | inr above ↦
          let half = parted_for times (level + 1) (start + size_of (level + 1)) part owner front (omega (arith, e))
          (upper_may part level start _ front may deep refl above) in
          (Split Free half.0, upper_for part level start owner front half.0 low deep above half.1)
    ]

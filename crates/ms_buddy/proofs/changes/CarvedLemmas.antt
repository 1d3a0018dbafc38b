-- A part that lies in a free leaf is lent: the node that results. For carving.
use Rattle.std.proofs.Common.{◌≡◌, ◌<◌, ◌≤◌, ℕ, ◌+◌, ◌-◌, Bool, true, false, [], ◌∷◌, refl, sym, ap, subst, ◌∙◌, inl, inr, arith}
use Rattle.std.specs.Prelude.{◌⊎◌, ◌==◌, ◌&&◌, ◌||◌}
use Rattle.std.proofs.lemmas.Bool.{cases_lt}
use Rattle.std.proofs.lemmas.Bool.Decides.{nat_tests}
use Rattle.ms_base.specs.declared.span.Span.{Span}
use Rattle.ms_base.specs.Level.{size_of}
use Rattle.ms_buddy.specs.Counts.{IsParted, holder_of}
use Rattle.ms_buddy.specs.Leaves.{fits_in, is_lent, leaf_of, span_at, with_leaf}
use Rattle.ms_buddy.specs.Tree.{Node, Free, Lent, Split, IsSplit, IsTree, MayBeLent, free_in, is_free, lent_in}
use Rattle.ms_buddy.proofs.SplitLemmas.{at_split}
use Rattle.ms_buddy.proofs.changes.CarveLemmas.{held_by_node, lower_added, lower_fits, lower_may, upper_added, upper_fits, upper_may}
use Rattle.ms_buddy.proofs.changes.CarveLemmas.{whole_fits_not}
use Rattle.ms_buddy.proofs.changes.EnlargeLemmas.{split_not_lent}
use Rattle.ms_buddy.proofs.counts.CountLemmas.{lower_parted_at, upper_parted_at}
use Rattle.ms_buddy.proofs.changes.PartFreeLemmas.{parted_for}

-- What results, and the level of the leaf that the part lay in.
pub record Carved (level start : ℕ) (part : Span) (owner front : ℕ) (before : Node) : Type 0 where
  pub after : Node
  pub free : ℕ
  pub tree : IsTree level after
  pub split : is_free after ≡ false
  pub lent : lent_in level start after ≡ with_leaf (leaf_of part owner front) (lent_in level start before)
  pub parted : IsParted (free_in level start before) (holder_of free part) part (free_in level start after)
  pub was : IsSplit after → IsSplit before ⊎ (free < part.level)

pub clash : (b : Bool) → b ≡ true → b ≡ false → ⊥
clash b e f = absurd (cc)

pub and_false : (b : Bool) → (b && false) ≡ false
and_false true = refl
and_false false = refl

itself : (a b : ℕ) → (((a == a) && (b == b)) || false) ≡ true
itself a b = grind (arith, nat_tests)

-- A node in which one leaf is lent is split only where the leaf is of a lower level.
split_deep : (level start : ℕ) (node : Node) (part : Span) (owner front : ℕ)
    → lent_in level start node ≡ leaf_of part owner front ∷ [] → level ≤ part.level → IsSplit node → level < part.level
split_deep level start Free part owner front lent least split = absurd split
split_deep level start (Lent other most) part owner front lent least split = absurd split
split_deep level start (Split lower upper) part owner front lent least split = elim (cases_lt level part.level) [
  | inl deep ↦ deep
  | inr past ↦ absurd (clash _ (ap (λ leaves. is_lent leaves part) lent ∙ itself part.start part.level)
      (split_not_lent part level start (Split lower upper) lower upper refl (omega (arith, past, least))))
]

pub carved : (level start : ℕ) (node : Node) (part : Span) (owner front : ℕ) → IsTree level node
    → MayBeLent level start part front → fits_in part (free_in level start node) ≡ true
    → Carved level start part owner front node
carved level start Free part owner front tree may fits =
    let for = parted_for (part.level - level) level start part owner front (omega (arith, may.inside.low)) may in record {
      after = for.0;
      free = level;
      tree = for.1.tree;
      split = for.1.split;
      lent = for.1.lent;
      parted = subst (λ (leaf : Span). IsParted (span_at start level ∷ []) leaf part (free_in level start for.0))
          (sym (held_by_node part level start front may)) for.1.parted;
      was = λ split. inr (split_deep level start for.0 part owner front for.1.lent may.inside.low split);
    }
carved level start (Lent other most) part owner front tree may fits = absurd (cc)
carved level start (Split lower upper) part owner front tree may fits =
    let s = at_split level start lower upper tree in
    elim (cases_lt level part.level) [
      | inr past ↦ absurd (clash _ fits (whole_fits_not part level start _ lower upper s.halves s.low may.inside
          (omega (arith, past, may.inside.low))))
      | inl deep ↦ elim (cases_lt part.start (start + size_of (level + 1))) [
        | inl below ↦
            let half = carved (level + 1) start lower part owner front tree.2
            (lower_may part level start _ front may deep refl below)
            (sym (lower_fits part level start _ lower upper s.halves below) ∙ fits) in record {
              after = Split half.after upper;
              free = half.free;
              tree = (s.low, ap (λ b. b && is_free upper) half.split, half.tree, tree.3);
              split = refl;
              lent = lower_added (leaf_of part owner front) level start _ lower upper half.after s.halves below half.lent;
              parted = lower_parted_at level start lower half.after upper (holder_of half.free part) part half.parted;
              was = λ split. inl tt;
            }
        | inr above ↦
            let half = carved (level + 1) (start + size_of (level + 1)) upper part owner front tree.3
            (upper_may part level start _ front may deep refl above)
            (sym (upper_fits part level start _ lower upper s.halves above) ∙ fits) in record {
              after = Split lower half.after;
              free = half.free;
              tree = (s.low, ap (λ b. is_free lower && b) half.split ∙ and_false (is_free lower), tree.2, half.tree);
              split = refl;
              lent = upper_added (leaf_of part owner front) level start _ lower upper half.after s.halves above half.lent;
              parted = upper_parted_at level start _ lower upper half.after (holder_of half.free part) part refl half.parted;
              was = λ split. inl tt;
            }
      ]
    ]

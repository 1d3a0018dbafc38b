-- The committed granules of a space, counted by those that are missing in its slots.
use Rattle.std.proofs.Common.{◌≡◌, ℕ, ◌+◌, ◌*◌, ◌/◌, Bool, true, false, not, ◌&&◌, length, refl, sym, ap, ◌∙◌, arith}
use Rattle.std.proofs.Common.{◌<◌, ◌≤◌, ◌-◌}
use Rattle.std.specs.Prelude.{nat_lt, nat_le}
use Rattle.std.specs.List.{filter, range_with_len}
use Rattle.std.proofs.lemmas.Bool.Decides.{nat_tests}
use Rattle.std.proofs.Math.Bool.{and_comm}
use Rattle.std.proofs.Math.Nat.{add-mul, div-lt_iff_lt-mul}
use Rattle.std.proofs.lemmas.List.Filters.{length-filter_both}
use Rattle.std.proofs.lemmas.List.FromFn.{length-range_with_len}
use Rattle.std.proofs.lemmas.List.Kept.{IsStrictlyIncreasing-filter}
use Rattle.std.proofs.lemmas.Map.Keys.{sorted_from_strictly_increasing}
use Rattle.ms_base.specs.declared.kind.Space.{Space}
use Rattle.ms_base.specs.declared.kind.Space.TheVariants.{NonClass, Class}
use Rattle.ms_base.specs.Spaces.{by_space, first_class_slot}
use Rattle.ms_base.specs.Committed.{is_among}
use Rattle.ms_commit.specs.NumberSet.{count_missing, is_in_range}
use Rattle.ms_commit.specs.Nodes.{NodesState, AreSound, granules_in, is_granule_of, node_granules}
use Rattle.ms_commit.proofs.RangeLemmas.{is_among-filter, is_among-range}
use Rattle.ms_commit.proofs.SameLemmas.{same_sets}
use Rattle.ms_commit.proofs.SetLemmas.{IsStrictlyIncreasing-range}
use Rattle.ms_commit.proofs.SpaceLemmas.{reserved_in, some_granules}

-- A range has just the committed granules of a space.
abbrev IsRangeOf : Space → NodesState → ℕ → ℕ → Type 0
IsRangeOf space nodes first count =
    (k : ℕ) → is_among nodes.granules k ≡ true
    → is_in_range first count k ≡ is_granule_of space (node_granules nodes) k

range_counted : (space : Space) (nodes : NodesState) (first count : ℕ) → AreSound nodes
    → IsRangeOf space nodes first count
    → count_missing nodes.granules first count + length (granules_in space nodes) ≡ count
range_counted space nodes first count sound its =
    omega (
      arith,
      ap length same,
      length-range_with_len first count,
      length-filter_both (is_among nodes.granules) (λ number. not (is_among nodes.granules number)) (λ number. refl)
          (range_with_len first count),
    )
  where
    side : (k : ℕ) (b : Bool) → is_among nodes.granules k ≡ b
        → (b && is_in_range first count k) ≡ (is_granule_of space (node_granules nodes) k && b)
    side k true member = its k member ∙ sym (and_comm (is_granule_of space (node_granules nodes) k) true)
    side k false e = sym (and_comm (is_granule_of space (node_granules nodes) k) false)

    same : filter (is_among nodes.granules) (range_with_len first count) ≡ granules_in space nodes
    same = same_sets (filter (is_among nodes.granules) (range_with_len first count)) (granules_in space nodes)
        (sorted_from_strictly_increasing (filter (is_among nodes.granules) (range_with_len first count))
        (IsStrictlyIncreasing-filter (is_among nodes.granules) (range_with_len first count)
        (IsStrictlyIncreasing-range first count)))
        (sorted_from_strictly_increasing (granules_in space nodes)
        (IsStrictlyIncreasing-filter (is_granule_of space (node_granules nodes)) nodes.granules sound.granules))
        (λ k. is_among-filter (is_among nodes.granules) (range_with_len first count) k
        ∙ ap (λ b. is_among nodes.granules k && b) (is_among-range first count k)
        ∙ side k (is_among nodes.granules k) refl
        ∙ sym (is_among-filter (is_granule_of space (node_granules nodes)) nodes.granules k))

-- The slots of each space are such a range.
is_range : (space : Space) (nodes : NodesState) (first count : ℕ) → AreSound nodes
    → first ≡ by_space space 0 first_class_slot * node_granules nodes
    → count ≡ by_space space first_class_slot nodes.class_slots * node_granules nodes
    → IsRangeOf space nodes first count
is_range NonClass nodes first count sound e f k member =
    lower first count (first_class_slot * node_granules nodes) k (e ∙ none (node_granules nodes)) f
  where
    none : (n : ℕ) → 0 * n ≡ 0
    none n = omega arith

    lower : (first count end k : ℕ) → first ≡ 0 → count ≡ end → is_in_range first count k ≡ nat_lt k end
    lower first count end k e f = grind (arith, nat_tests)
is_range Class nodes first count sound e f k member =
    upper first count k (λ from. past (from_test k from))
    ∙ ap (λ (n : ℕ). nat_le n k) e
  where
    upper : (first count k : ℕ) → (nat_le first k ≡ true → k < first + count)
        → is_in_range first count k ≡ nat_le first k
    upper first count k under = by_test (nat_le first k) refl
      where
        by_test : (b : Bool) → nat_le first k ≡ b → (b && nat_lt k (first + count)) ≡ b
        by_test false e = refl
        by_test true e = below (under e)
          where
            below : k < first + count → nat_lt k (first + count) ≡ true
            below h = grind (arith, nat_tests)

    from_test : (k : ℕ) → nat_le first k ≡ true → is_granule_of Class (node_granules nodes) k ≡ true
    from_test k h = sym (ap (λ (n : ℕ). nat_le n k) e) ∙ h

    slot : ℕ
    slot = k / node_granules nodes

    low_slot : (a n s : ℕ) → is_in_range a n s ≡ true → s < a + n
    low_slot a n s h = grind (arith, nat_tests)

    past : is_granule_of Class (node_granules nodes) k ≡ true → k < first + count
    past inside =
        let within = low_slot first_class_slot nodes.class_slots slot
        (sym (is_among-range first_class_slot nodes.class_slots slot)
        ∙ sym (reserved_in nodes Class k sound inside) ∙ sound.inside k member) in
        omega (
          arith,
          e,
          f,
          add-mul first_class_slot nodes.class_slots (node_granules nodes),
          (div-lt_iff_lt-mul (some_granules nodes sound)).0 within,
        )

-- So many granules of a space's slots are not missing.
pub record IsCountedIn (space : Space) (nodes : NodesState) (count missing : ℕ) : Type 0 where
  pub fits : missing ≤ count
  pub rest : count - missing ≡ length (granules_in space nodes)

pub counted_in : (space : Space) (nodes : NodesState) (first slots granule missing : ℕ) → AreSound nodes
    → first ≡ by_space space 0 first_class_slot → slots ≡ by_space space first_class_slot nodes.class_slots
    → granule ≡ nodes.limits.granule
    → missing ≡ count_missing nodes.granules (first * (1048576 / granule)) (slots * (1048576 / granule))
    → IsCountedIn space nodes (slots * (1048576 / granule)) missing
counted_in space nodes first slots granule missing sound e f g told =
    record { fits = omega (arith, told, counted); rest = omega (arith, told, counted) }
  where
    counted : count_missing nodes.granules (first * (1048576 / granule)) (slots * (1048576 / granule))
        + length (granules_in space nodes) ≡ slots * (1048576 / granule)
    counted = range_counted space nodes (first * (1048576 / granule)) (slots * (1048576 / granule)) sound
        (is_range space nodes (first * (1048576 / granule)) (slots * (1048576 / granule)) sound
        (ap (λ (n : ℕ). n * (1048576 / granule)) e
        ∙ ap (λ (size : ℕ). by_space space 0 first_class_slot * (1048576 / size)) g)
        (ap (λ (n : ℕ). n * (1048576 / granule)) f
        ∙ ap (λ (size : ℕ). by_space space first_class_slot nodes.class_slots * (1048576 / size)) g))

-- How many slots lie between a space's first and the one past its last.
pub slots_between : (space : Space) (class_slots first end : ℕ) → first ≡ by_space space 0 first_class_slot
    → end ≡ by_space space first_class_slot (first_class_slot + class_slots)
    → end - first ≡ by_space space first_class_slot class_slots
slots_between NonClass class_slots first end e f = omega (arith, e, f)
slots_between Class class_slots first end e f = omega (arith, e, f)

-- Peaks over one state, and over one more. `peaks` uses these, and metarun's `SessionLemmas`.
use Rattle.std.proofs.Common.{◌≡◌, ◌≤◌, ◌<◌, ◌+◌, ℕ, List, [], ◌∷◌, ◌⊎◌, inl, inr, refl, sym, ap, ◌∙◌}
use Rattle.std.proofs.Common.{arith, length, subst}
use Rattle.std.specs.Prelude.{max}
use Rattle.std.specs.List.{Contains}
use Rattle.std.proofs.Math.Nat.{le-max_left, le-max_right, max-eq_left, max-eq_right}
use Rattle.std.proofs.lemmas.Bool.{cases_lt}
use Rattle.std.proofs.lemmas.List.Elements.{All-cons, All-nil, Contains-append_left, Contains-append_right}
use Rattle.std.proofs.lemmas.List.Elements.{Contains-push}
use Rattle.std.proofs.lemmas.List.FromFn.{length-range_with_len}
use Rattle.ms_base.specs.State.{Machine}
use Rattle.ms_pool.specs.LimitCounts.{limit_counts}
use Rattle.ms_pool.specs.declared.pool.counts.LimitCounts.{LimitCounts}
use Rattle.ms_answers.specs.declared.peaks.Peaks.{Peaks}
use Rattle.ms_base.specs.Laws.Peak.{granules_of_both}
use Rattle.ms_run.specs.Metering.{used_words_of}
use Rattle.ms_run.specs.Peaks.{ArePeaks, IsPeak, loaders_of, nodes_of_both, usage_of}

-- What the one state has is its peak.
peak_of_one : (amount : Machine → ℕ) (m : Machine) → IsPeak amount (m ∷ []) (amount m)
peak_of_one amount m = record {
  reached = (m, Contains-push [] m, refl);
  not_passed =
      All-cons (λ state. amount state ≤ amount m) m [] (omega arith) (All-nil (λ state. amount state ≤ amount m));
}

pub peaks_of_one : (m : Machine) → ArePeaks (m ∷ []) (usage_of m)
peaks_of_one m = record {
  granules = peak_of_one granules_of_both m;
  nodes = peak_of_one nodes_of_both m;
  used = peak_of_one used_words_of m;
  loaders = peak_of_one loaders_of m;
}

-- With one state more it is the greater of both numbers.
raised_peak : (amount : Machine → ℕ) (states : List Machine) (m : Machine) (old : ℕ) → IsPeak amount states old
    → IsPeak amount (m ∷ states) (max old (amount m))
raised_peak amount states m old its = record {
  reached = by_size (cases_lt old (amount m));
  not_passed =
      All-cons (λ state. amount state ≤ max old (amount m)) m states (le-max_right old (amount m))
      (λ k d within. omega (arith, its.not_passed k d within, le-max_left old (amount m)));
}
  where
    by_size : (old < amount m) ⊎ (amount m ≤ old)
        → (state : Machine) × Contains (m ∷ states) state × (amount state ≡ max old (amount m))
    by_size (inl less) = (
      m,
      Contains-append_left (m ∷ []) states m (Contains-push [] m),
      sym (max-eq_right (omega (arith, less))),
    )
    by_size (inr more) = (
      its.reached.0,
      Contains-append_right (m ∷ []) states its.reached.0 its.reached.1,
      its.reached.2 ∙ sym (max-eq_left more),
    )

pub raised_peaks : (states : List Machine) (m : Machine) (old now new : Peaks) → ArePeaks states old → now ≡ usage_of m
    → new.granules ≡ max old.granules now.granules → new.nodes ≡ max old.nodes now.nodes
    → new.used ≡ max old.used now.used → new.loaders ≡ max old.loaders now.loaders → ArePeaks (m ∷ states) new
raised_peaks states m old now new its is granules nodes used loaders = record {
  granules =
      subst (IsPeak granules_of_both (m ∷ states)) (sym (granules ∙ ap (λ (p : Peaks). max old.granules p.granules) is))
      (raised_peak granules_of_both states m old.granules its.granules);
  nodes =
      subst (IsPeak nodes_of_both (m ∷ states)) (sym (nodes ∙ ap (λ (p : Peaks). max old.nodes p.nodes) is))
      (raised_peak nodes_of_both states m old.nodes its.nodes);
  used =
      subst (IsPeak used_words_of (m ∷ states)) (sym (used ∙ ap (λ (p : Peaks). max old.used p.used) is))
      (raised_peak used_words_of states m old.used its.used);
  loaders =
      subst (IsPeak loaders_of (m ∷ states)) (sym (loaders ∙ ap (λ (p : Peaks). max old.loaders p.loaders) is))
      (raised_peak loaders_of states m old.loaders its.loaders);
}

-- Peaks of four numbers.
abbrev pub peaks_with : ℕ → ℕ → ℕ → ℕ → Peaks
peaks_with granules nodes used loaders = record {
  granules = granules;
  nodes = nodes;
  used = used;
  loaders = loaders;
}

-- All states that were passed have peaks.
pub any_peaks : (state : Machine) (before : List Machine) → (peaks : Peaks) × ArePeaks (state ∷ before) peaks
any_peaks state [] = (usage_of state, peaks_of_one state)
any_peaks state (last ∷ before) =
    let so_far = any_peaks last before in
    let its = so_far.0 in (
      peaks_with (max its.granules (granules_of_both state)) (max its.nodes (nodes_of_both state))
          (max its.used (used_words_of state)) (max its.loaders (loaders_of state)),
      raised_peaks (last ∷ before) state its (usage_of state) _ so_far.1 refl refl refl refl refl,
    )

-- What a machine has, by its counts.
pub usage_is : (m : Machine) (counts : LimitCounts) (nodes class_nodes used loaders : ℕ)
    → counts ≡ limit_counts m.slots m.committed m.class_committed m.limits → nodes ≡ counts.nodes
    → class_nodes ≡ counts.class_nodes → used ≡ used_words_of m → loaders ≡ length m.loaders
    → peaks_with counts.granules (nodes + class_nodes) used loaders ≡ usage_of m
usage_is m counts nodes class_nodes used loaders is nodes_is class_is used_are loaders_are =
    let both : nodes + class_nodes ≡ nodes_of_both m = omega (
      arith,
      nodes_is ∙ ap (λ (c : LimitCounts). c.nodes) is,
      class_is ∙ ap (λ (c : LimitCounts). c.class_nodes) is,
      length-range_with_len 64 m.limits.class_nodes,
    ) in
    ap (λ (g : ℕ). peaks_with g (nodes + class_nodes) used loaders) (ap (λ (c : LimitCounts). c.granules) is)
    ∙ ap (λ (n : ℕ). peaks_with (granules_of_both m) n used loaders) both
    ∙ ap (λ (u : ℕ). peaks_with (granules_of_both m) (nodes_of_both m) u loaders) used_are
    ∙ ap (peaks_with (granules_of_both m) (nodes_of_both m) (used_words_of m)) loaders_are

-- Under policy none what is committed stays so. The law on that policy uses this.
use Rattle.std.proofs.Common.{◌≡◌, Bool, true, false, ◌&&◌, ◌||◌, refl, sym, ◌∙◌}
use Rattle.std.specs.List.{flat_map}
use Rattle.std.proofs.lemmas.Bool.{or_left, and_from}
use Rattle.std.proofs.lemmas.List.Elements.{filter_agree}
use Rattle.ms_base.specs.Policy.{keeps}
use Rattle.ms_base.specs.Committed.{is_committed, is_committed_now, granules_of}
use Rattle.ms_base.specs.State.{PoolState}
use Rattle.ms_base.specs.PoolSteps.Pick.{granule_in, has_committed}
use Rattle.ms_base.specs.Good.{IsSoundPool}
use Rattle.ms_base.specs.Laws.{UncommitsNothing}
use Rattle.ms_base.proofs.granules.GranuleCountLemmas.{meets_front}
use Rattle.ms_base.proofs.granules.GranuleLemmas.{kept_by, committed_where_front}

-- A granule that was committed is so with any fronts; one that wasn't meets no front.
same_kept : (b among fewer all : Bool) → b ≡ true → (fewer ≡ true → all ≡ true) → (all ≡ true → among ≡ true)
    → ((b && among) || fewer) ≡ ((b && among) || all)
same_kept true true fewer all e f g = refl
same_kept true false true all e f g = let wrong = g (f refl) in absurd (cc)
same_kept true false false true e f g = let wrong = g refl in absurd (cc)
same_kept true false false false e f g = refl
same_kept false among fewer all e f g = absurd (cc)

pub uncommits_nothing : (pool : PoolState) → IsSoundPool pool → keeps pool.limits.policy ≡ true → UncommitsNothing pool
uncommits_nothing pool sound keeping = record {
  given_back = λ fewer among.
      filter_agree (is_committed_now pool.limits.policy pool.committed fewer)
      (is_committed_now pool.limits.policy pool.committed pool.held)
      (λ k. same_kept (keeps pool.limits.policy) (has_committed pool k) (is_committed (granule_in pool) fewer k)
      (is_committed (granule_in pool) pool.held k) keeping
      (among (λ chunk. meets_front (granule_in pool) chunk k)) (committed_where_front pool k sound))
      (flat_map (granules_of (granule_in pool)) pool.slots)
      ∙ sym sound.committed;
  purged = λ slots k listed there.
      kept_by (is_committed_now pool.limits.policy pool.committed pool.held)
      (flat_map (granules_of (granule_in pool)) slots) k
      (or_left (keeps pool.limits.policy && has_committed pool k) (is_committed (granule_in pool) pool.held k)
      (and_from (keeps pool.limits.policy) (has_committed pool k) keeping there)) listed;
}

-- With nothing held each root of a reserved slot is one free part, and no granule is committed
-- under the policies balanced and aggressive. The law on nothing held uses these.
use Rattle.std.proofs.Common.{◌≡◌, ℕ, false, ◌&&◌, ◌||◌, List, [], ◌∷◌, refl, ap, ◌∙◌}
use Rattle.std.specs.List.{filter, flat_map}
use Rattle.std.proofs.lemmas.List.Elements.{filter_agree}
use Rattle.ms_base.specs.declared.policy.Policy.{Policy}
use Rattle.ms_base.specs.Policy.{granule_of, keeps}
use Rattle.ms_base.specs.Laws.{roots_of}
use Rattle.ms_base.specs.FreeParts.{free_parts}
use Rattle.ms_base.specs.Committed.{is_among, is_committed_now, committed_with, granules_of}

-- Whatever slots are reserved, their roots are the free parts.
pub roots_are_free : (slots : List ℕ) → free_parts [] slots ≡ flat_map roots_of slots
roots_are_free slots = refl

-- A filter that nothing passes leaves nothing.
pub filter-none : {X : Type 0} (xs : List X) → filter (λ (x : X). false) xs ≡ []
filter-none [] = refl
filter-none (x ∷ xs) = filter-none xs

pub nothing_is_committed : (policy : Policy) (before slots : List ℕ) → keeps policy ≡ false
    → committed_with policy before [] slots ≡ []
nothing_is_committed policy before slots reclaims =
    filter_agree (is_committed_now policy before []) (λ number. false)
    (λ number. ap (λ b. (b && is_among before number) || false) reclaims) numbers
    ∙ filter-none numbers
  where
    numbers : List ℕ
    numbers = flat_map (granules_of (granule_of policy)) slots

-- Worked examples: levels, growth, fronts, parts.
use Rattle.std.proofs.Common.{◌≡◌, ◌*◌, true, false, [], ◌∷◌, map, refl}
use Rattle.std.specs.List.{range_with_len}
use Rattle.ms_base.specs.declared.kind.Kind.TheVariants.{Standard, Boot, Reflection, Hidden}
use Rattle.ms_base.specs.declared.kind.Space.TheVariants.{NonClass, Class}
use Rattle.ms_base.specs.declared.policy.Policy.TheVariants.{Balanced, Aggressive, None as Never}
use Rattle.ms_base.specs.declared.sizes.TheConstants.{ROOT_WORDS, NODE_WORDS, SLOTS, CLASS_SLOTS}
use Rattle.ms_base.specs.Policy.{granule_of, slot_granules}
use Rattle.ms_base.specs.Spaces.{space_at, class_slots, most_slots, first_class_slot}
use Rattle.ms_base.specs.Level.{root_words, size_of, level_that_holds}
use Rattle.ms_base.specs.Growth.{growth_level}
use Rattle.ms_base.specs.Front.{front_for, granules_for}
use Rattle.ms_base.specs.Part.{is_leader, buddy_start, parent_start, node_words}
use Rattle.ms_base.specs.Interval.{are_apart}

-- The constants of the code are those of the definitions.
constants : ROOT_WORDS ∷ NODE_WORDS ∷ SLOTS ∷ CLASS_SLOTS ∷ SLOTS ∷ []
    ≡ root_words ∷ node_words ∷ most_slots NonClass ∷ most_slots Class ∷ first_class_slot ∷ []
constants = refl

-- A root is a chunk of level 0, and a node two roots.
roots_and_nodes : root_words ∷ node_words ∷ [] ≡ size_of 0 ∷ 2 * size_of 0 ∷ []
roots_and_nodes = refl

sizes : map size_of (0 ∷ 1 ∷ 2 ∷ 3 ∷ 4 ∷ 5 ∷ 6 ∷ 7 ∷ 8 ∷ 9 ∷ 10 ∷ 11 ∷ 12 ∷ [])
    ≡ 524288 ∷ 262144 ∷ 131072 ∷ 65536 ∷ 32768 ∷ 16384 ∷ 8192 ∷ 4096 ∷ 2048 ∷ 1024 ∷ 512 ∷ 256 ∷ 128 ∷ []
sizes = refl

levels : map level_that_holds (1 ∷ 128 ∷ 129 ∷ 4096 ∷ 8193 ∷ 262144 ∷ 262145 ∷ 524288 ∷ [])
    ≡ 12 ∷ 12 ∷ 11 ∷ 7 ∷ 5 ∷ 1 ∷ 0 ∷ 0 ∷ []
levels = refl

standard_growth : map (growth_level Standard NonClass) (range_with_len 0 7) ≡ 10 ∷ 10 ∷ 10 ∷ 9 ∷ 8 ∷ 8 ∷ 8 ∷ []
standard_growth = refl

boot_growth : map (growth_level Boot NonClass) (range_with_len 0 3) ≡ 0 ∷ 2 ∷ 2 ∷ []
boot_growth = refl

reflection_growth : map (growth_level Reflection NonClass) (range_with_len 0 3) ≡ 11 ∷ 12 ∷ 12 ∷ []
reflection_growth = refl

hidden_growth : map (growth_level Hidden NonClass) (range_with_len 0 2) ≡ 12 ∷ 12 ∷ []
hidden_growth = refl

-- The tables of the class space.
standard_class_growth : map (growth_level Standard Class) (range_with_len 0 7) ≡ 11 ∷ 11 ∷ 10 ∷ 9 ∷ 8 ∷ 8 ∷ 8 ∷ []
standard_class_growth = refl

boot_class_growth : map (growth_level Boot Class) (range_with_len 0 3) ≡ 2 ∷ 4 ∷ 4 ∷ []
boot_class_growth = refl

reflection_class_growth : map (growth_level Reflection Class) (range_with_len 0 2) ≡ 12 ∷ 12 ∷ []
reflection_class_growth = refl

hidden_class_growth : map (growth_level Hidden Class) (range_with_len 0 2) ≡ 12 ∷ 12 ∷ []
hidden_class_growth = refl

-- The class space begins with slot 64, at word 67108864.
spaces : map space_at (0 ∷ 67108863 ∷ 67108864 ∷ 83886079 ∷ []) ≡ NonClass ∷ NonClass ∷ Class ∷ Class ∷ []
spaces = refl

slots_of_class_space : class_slots 3 ≡ 64 ∷ 65 ∷ 66 ∷ []
slots_of_class_space = refl

-- A chunk of at least a granule has whole granules as its front, a smaller one all its words.
fronts : map (λ level. front_for Balanced (size_of level) 10) (0 ∷ 6 ∷ 7 ∷ 12 ∷ []) ≡ 8192 ∷ 8192 ∷ 4096 ∷ 128 ∷ []
fronts = refl

-- Policy aggressive has granules of 2048 words: chunks of level 8 have one, those of 4096 words
-- two.
fronts_of_small_granules : map (λ level. front_for Aggressive (size_of level) 10) (0 ∷ 6 ∷ 7 ∷ 8 ∷ 9 ∷ 12 ∷ [])
    ≡ 2048 ∷ 2048 ∷ 2048 ∷ 2048 ∷ 1024 ∷ 128 ∷ []
fronts_of_small_granules = refl

both_granules : front_for Aggressive 4096 2049 ≡ 4096
both_granules = refl

-- Under policy none a chunk is committed whole.
whole_fronts : map (λ level. front_for Never (size_of level) 10) (0 ∷ 6 ∷ 7 ∷ 12 ∷ []) ≡ 524288 ∷ 8192 ∷ 4096 ∷ 128 ∷ []
whole_fronts = refl

granules_of_policies : map granule_of (Balanced ∷ Aggressive ∷ Never ∷ []) ≡ 8192 ∷ 2048 ∷ 8192 ∷ []
granules_of_policies = refl

granules_of_slots : map slot_granules (8192 ∷ 2048 ∷ []) ≡ 128 ∷ 512 ∷ []
granules_of_slots = refl

granules : map (granules_for 8192) (1 ∷ 8192 ∷ 8193 ∷ []) ≡ 1 ∷ 1 ∷ 2 ∷ []
granules = refl

-- The two halves of a part of 1024 words, and their parent.
leaders : map (λ start. is_leader start 10) (0 ∷ 512 ∷ 1024 ∷ []) ≡ true ∷ false ∷ true ∷ []
leaders = refl

buddies : map (λ start. buddy_start start 10) (0 ∷ 512 ∷ 1536 ∷ []) ≡ 512 ∷ 0 ∷ 1024 ∷ []
buddies = refl

parents : map (λ start. parent_start start 10) (0 ∷ 512 ∷ 1536 ∷ []) ≡ 0 ∷ 0 ∷ 1024 ∷ []
parents = refl

-- Neighbours share no word.
neighbours : are_apart ((0, 10) ∷ (20, 4) ∷ (10, 10) ∷ []) ≡ true
neighbours = refl

overlapping : are_apart ((0, 10) ∷ (20, 4) ∷ (9, 2) ∷ []) ≡ false
overlapping = refl

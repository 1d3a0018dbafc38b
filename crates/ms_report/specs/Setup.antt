-- The settings of a run as text: the part Settings of a full report (this project's choice).
use Rattle.std.specs.Prelude.{ℕ, List, [], ◌∷◌, ◌++◌, codes}
use Rattle.ms_base.specs.declared.policy.Policy.{Policy}
use Rattle.ms_base.specs.declared.policy.Policy.TheVariants.{Balanced, Aggressive, None as Never}
use Rattle.ms_base.specs.declared.settings.Settings.{Settings}
use Rattle.ms_base.specs.Policy.{granule_of}
use Rattle.ms_report.specs.Layout.{left_in, right_in, number_lines}

-- The word of a policy, as the option `--policy` has it.
abbrev pub policy_text : Policy → List ℕ
policy_text Balanced = codes "balanced"
policy_text Aggressive = codes "aggressive"
policy_text Never = codes "none"

-- The line of the policy: its label, and the word where other lines have their number.
abbrev pub policy_line : Policy → List ℕ
policy_line policy = codes "  " ++ left_in 12 (codes "policy") ++ right_in 12 (policy_text policy) ++ codes "\n"

-- The numbers with their labels: the words of a granule, the limits, the nodes of the class space,
-- the workers.
abbrev pub setting_rows : Settings → List (List ℕ × ℕ)
setting_rows settings =
    (codes "granule", granule_of settings.policy)
    ∷ (codes "max granules", settings.max_granules)
    ∷ (codes "nodes", settings.nodes)
    ∷ (codes "class nodes", settings.class_nodes)
    ∷ (codes "workers", settings.workers)
    ∷ []

-- The policy comes first.
abbrev pub settings_part : Settings → List ℕ
settings_part settings = codes "Settings\n" ++ policy_line settings.policy ++ number_lines (setting_rows settings)

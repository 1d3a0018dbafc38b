-- What a limit of granules takes part in: a law over runs of the machine, the contract of a
-- function of `laws`.
use Rattle.std.specs.Prelude.{◌≡◌, ℕ, ◌+◌, ◌≤◌, Bool, true, false, List, [], ◌∷◌, length, IsTrue}
use Rattle.ms_base.specs.declared.step.Step.{Step}
use Rattle.ms_base.specs.declared.step.Reply.{Reply}
use Rattle.ms_base.specs.declared.step.Reply.TheVariants.{Refused}
use Rattle.ms_base.specs.declared.refusal.Refusal.TheVariants.{CommitLimit}
use Rattle.ms_base.specs.State.{Machine}
use Rattle.ms_base.specs.Transition.{Transition}
use Rattle.ms_base.specs.Run.{Run}

-- How many granules a machine has committed, in both spaces together.
abbrev pub granules_of_both : Machine → ℕ
granules_of_both m = length m.committed + length m.class_committed

-- The machine under another limit of granules.
abbrev pub under_limit : ℕ → Machine → Machine
under_limit granules m = record m { limits = record m.limits { granules = granules } }

-- The reply tells of no commit limit.
abbrev pub is_within_limit : Reply → Bool
is_within_limit (Refused (CommitLimit committed limit need)) = false
is_within_limit reply = true

-- A run in which no reply tells of the commit limit, and no state has more than so many granules
-- committed: a run with no greater peak.
abbrev pub RunsBelow : ℕ → Machine → List Step → List Reply → Machine → Type 0
RunsBelow peak old [] [] new = (new ≡ old) × (granules_of_both old ≤ peak)
RunsBelow peak old (step ∷ steps) (reply ∷ replies) new =
    (mid : Machine) × (granules_of_both old ≤ peak) × IsTrue (is_within_limit reply)
    × Transition old step reply mid × RunsBelow peak mid steps replies new
RunsBelow peak old [] (reply ∷ replies) new = ⊥
RunsBelow peak old (step ∷ steps) [] new = ⊥

-- Under every limit of so many granules or more the same requests may be answered the same, by
-- states that differ in the limit alone: the peak tells a limit that suffices.
abbrev pub PeakSuffices : Type 0
PeakSuffices =
    (old new : Machine) (peak limit : ℕ) (steps : List Step) (replies : List Reply)
    → RunsBelow peak old steps replies new → peak ≤ limit
    → Run (under_limit limit old) steps replies (under_limit limit new)

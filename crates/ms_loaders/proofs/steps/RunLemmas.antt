-- A run of the machine goes on by a step; for System::run.
use Rattle.std.proofs.Common.{List, [], ◌∷◌, ◌++◌, refl, subst}
use Rattle.ms_base.specs.declared.step.Step.{Step}
use Rattle.ms_base.specs.declared.step.Reply.{Reply}
use Rattle.ms_base.specs.State.{Machine}
use Rattle.ms_base.specs.Transition.{Transition}
use Rattle.ms_base.specs.Run.{Run}

pub run_on : (steps : List Step) (replies : List Reply) (old mid new : Machine) (step : Step) (reply : Reply)
    → Run old steps replies mid → Transition mid step reply new
    → Run old (steps ++ step ∷ []) (replies ++ reply ∷ []) new
run_on [] [] old mid new step reply run next = (new, subst (λ m. Transition m step reply new) run next, refl)
run_on [] (r ∷ replies) old mid new step reply run next = absurd run
run_on (s ∷ steps) [] old mid new step reply run next = absurd run
run_on (s ∷ steps) (r ∷ replies) old mid new step reply run next =
    (run.0, run.1, run_on steps replies run.0 mid new step reply run.2 next)

-- What each loader is told by itself: its own requests, with the replies to them.
use Rattle.std.specs.Prelude.{◌≡◌, ℕ, Bool, List, Option, Some, None, map}
use Rattle.std.specs.List.{All, filter}
use Rattle.ms_base.specs.declared.step.Step.{Step}
use Rattle.ms_base.specs.declared.step.Step.TheVariants.{Purge}
use Rattle.ms_base.specs.declared.step.Reply.{Reply}
use Rattle.ms_base.specs.declared.step.Reply.TheVariants.{Ok as Done}
use Rattle.ms_base.specs.Names.{named}
use Rattle.ms_base.specs.Request.{loader_of, is_name}
use Rattle.ms_base.specs.State.{LoaderState}
use Rattle.ms_base.specs.Run.Alone.{OwnLoader, OwnReplies}

-- A request and its reply.
abbrev pub Said : Type 0
Said = Step × Reply

-- Those that name one loader, in their order.
abbrev pub own_said : ℕ → List Said → List Said
own_said name said = filter (λ (s : Said). is_name name (loader_of s.0)) said

-- What a loader's own requests can know of it.
abbrev pub own_of : Option LoaderState → Option OwnLoader
own_of None = None
own_of (Some loader) = Some (record { kind = loader.kind; blocks = loader.blocks })

abbrev pub own_in : List (ℕ × LoaderState) → ℕ → Option OwnLoader
own_in loaders name = own_of (named loaders name)

-- The replies follow from the requests, which are all of one loader, and from which of them were
-- refused for want.
abbrev pub OwnRun : Option OwnLoader → List Said → Option OwnLoader → Type 0
OwnRun before said after =
    (refused : List Bool)
    × OwnReplies before (map (λ (s : Said). s.0) said) refused (map (λ (s : Said). s.1) said) after

-- Each purge is done.
abbrev pub ArePurged : List Said → Type 0
ArePurged said = All (λ (s : Said). s.0 ≡ Purge → s.1 ≡ Done) said

-- The serial order of a spread: its steps in the order in which they count as done.
use Rattle.std.specs.Prelude.{Bool, true, false, ◌||◌, ◌&&◌, ◌==◌, List, [], ◌∷◌, map, length, Option, Some, None}
use Rattle.std.specs.Prelude.{if◌then◌else◌}
use Rattle.std.specs.List.{list_any, flat_map}
use Rattle.ms_base.specs.declared.step.Step.{Step}
use Rattle.ms_base.specs.declared.step.Reply.{Reply}
use Rattle.ms_base.specs.Run.Event.{Event, opening, taking, growing, closing, acting, Answer, lent}
use Rattle.ms_base.specs.Run.Spread.{SpreadStep, Moment}

-- Kinds of events: a growth that is asked for, a chunk that is, an opening, a closing, and a local
-- event.
abbrev pub is_growing : Event × Answer → Bool
is_growing (growing space name start total enlarges, answer) = true
is_growing _ = false

abbrev pub is_taking : Event × Answer → Bool
is_taking (taking space name p m words, answer) = true
is_taking _ = false

abbrev pub is_opening : Event × Answer → Bool
is_opening (opening name kind, answer) = true
is_opening _ = false

abbrev pub is_closing : Event × Answer → Bool
is_closing (closing name, answer) = true
is_closing _ = false

abbrev pub is_acting : Event × Answer → Bool
is_acting (acting step, answer) = true
is_acting _ = false

-- A growth or a chunk that is had.
abbrev pub is_lent : Answer → Bool
is_lent (lent chunk) = true
is_lent _ = false

abbrev pub is_accepted : Event × Answer → Bool
is_accepted event = (is_growing event || is_taking event) && is_lent event.1

-- Of a step's events, the one at its position: its accepted growth or chunk, else the first of its
-- taking, its opening, its closing and its only event, else its local event.
abbrev pub is_position : List (Event × Answer) → Event × Answer → Bool
is_position events event =
    if list_any is_accepted events then is_accepted event
    else if list_any is_taking events then is_taking event
    else if list_any is_opening events then is_opening event
    else if list_any is_closing events then is_closing event
    else ((length events == 1) || is_acting event)

-- The step that counts as done at a moment, with its reply, if one does.
abbrev pub done_by : Option SpreadStep → Event × Answer → List (Step × Reply)
done_by None event = []
done_by (Some spread) event = if is_position spread.events event then (spread.step, spread.reply) ∷ [] else []

abbrev pub done_at : Moment → List (Step × Reply)
done_at moment = done_by moment.of (moment.event, moment.answer)

-- The steps with their replies, in the order of their positions.
abbrev pub serial : List Moment → List (Step × Reply)
serial moments = flat_map done_at moments

abbrev pub steps_of : List (Step × Reply) → List Step
steps_of done = map (λ (one : Step × Reply). one.0) done

abbrev pub replies_of : List (Step × Reply) → List Reply
replies_of done = map (λ (one : Step × Reply). one.1) done

-- The workers that have lines in a phase, each with a share of its own; for turn.rt.
use Rattle.std.proofs.Common.{◌≡◌, ◌≤◌, ◌<◌, ◌+◌, ◌||◌, ℕ, zero, suc, Bool, true, false, cond, Option, Some, None}
use Rattle.std.proofs.Common.{List, [], ◌∷◌, ◌++◌, length, slice_get, take, get_or, refl, sym, ap, ◌∙◌, subst, arith, eq-eqb}
use Rattle.std.proofs.Common.{length-append, get_or-set_same, ◌⊎◌, inl, inr}
use Rattle.std.specs.Prelude.{◌==◌, nat_eq, slice_index_or, slice_set}
use Rattle.std.specs.Cmp.{nat_eq_equiv}
use Rattle.std.specs.List.{All, IsDistinct, list_any}
use Rattle.std.proofs.lemmas.Bool.{eqb-true, or_left, or_right, both_ways}
use Rattle.std.proofs.lemmas.Bool.Decides.{nat_tests}
use Rattle.std.proofs.lemmas.List.{get_or-set_other, length-set, take_all, take_more}
use Rattle.std.proofs.lemmas.List.Elements.{All-push}
use Rattle.std.proofs.lemmas.List.Folds.{list_any-append}
use Rattle.std.proofs.lemmas.Map.Keys.{IsDistinct-push}
use Rattle.std.proofs.lemmas.Map.Steps.{length-le_from_distinct_below}
use Rattle.std.proofs.lemmas.Nat.{mod_below}
use Rattle.ms_base.specs.declared.step.Step.{Step}
use Rattle.ms_base.specs.Committed.{is_among}
use Rattle.ms_base.specs.Request.{loader_of}
use Rattle.ms_trace.specs.declared.trace.Command.TheVariants.{Step as Asks}
use Rattle.ms_trace.specs.declared.trace.Line.{Line}
use Rattle.ms_trace.specs.Steps.{step_of}
use Rattle.ms_run.specs.Turn.{AddsWorker, HaveOwnShares, HasOwnShare, TurnState, position_in, worker_by, worker_in}

-- A worker with a share is the one at the position that it has.
abbrev pub AreAtPositions : List ℕ → List ℕ → Type 0
AreAtPositions active positions =
    (worker : ℕ) → is_among active worker ≡ true → slice_get active (slice_index_or positions worker 0) ≡ Some worker

-- The worker of a step has a share.
abbrev pub HasShare : (Option ℕ → ℕ) → List ℕ → Option Step → Type 0
HasShare worker active None = Unit {0}
HasShare worker active (Some step) = is_among active (worker (loader_of step)) ≡ true

-- The workers of some lines have been found: each is there once, is one of so many, and has its
-- position.
pub record AreFound (first : List ℕ) (phase workers : ℕ) (lines : List Line) (active positions : List ℕ) : Type 0 where
  pub have : All (λ (line : Line). HasShare (worker_by first phase workers) active (step_of line.command)) lines
  pub placed : AreAtPositions active positions
  pub distinct : IsDistinct nat_eq active
  pub below : (worker : ℕ) → is_among active worker ≡ true → worker < workers
  pub few : length active ≤ workers
  pub eight : length positions ≡ 8

-- What is among numbers by either way of asking.
any_among : (numbers : List ℕ) (number : ℕ) → list_any (nat_eq number) numbers ≡ is_among numbers number
any_among [] number = refl
any_among (x ∷ numbers) number =
    let turned : (number == x) ≡ (x == number) = grind (arith, nat_tests) in
    ap (λ b. b || list_any (nat_eq number) numbers) turned ∙ ap (λ b. (x == number) || b) (any_among numbers number)

among_more : (numbers : List ℕ) (more number : ℕ)
    → is_among (numbers ++ more ∷ []) number ≡ (is_among numbers number || ((more == number) || false))
among_more numbers more number = list_any-append (λ n. n == number) numbers (more ∷ [])

-- In a list with one more at its end what was there is where it was, and the last is behind it.
get_kept : (numbers : List ℕ) (more at number : ℕ) → slice_get numbers at ≡ Some number
    → slice_get (numbers ++ more ∷ []) at ≡ Some number
get_kept [] more at number found = absurd (cc)
get_kept (x ∷ numbers) more zero number found = found
get_kept (x ∷ numbers) more (suc at) number found = get_kept numbers more at number found

get_last : (numbers : List ℕ) (more : ℕ) → slice_get (numbers ++ more ∷ []) (length numbers) ≡ Some more
get_last [] more = refl
get_last (x ∷ numbers) more = get_last numbers more

get_within : (numbers : List ℕ) (at number : ℕ) → slice_get numbers at ≡ Some number
    → (at < length numbers) × (slice_index_or numbers at 0 ≡ number)
get_within [] at number found = absurd (cc)
get_within (x ∷ numbers) zero number found = (omega arith, (let same : x ≡ number = cc in same))
get_within (x ∷ numbers) (suc at) number found =
    let rest = get_within numbers at number found in (omega (arith, rest.0), rest.1)

-- A worker is one of so many.
pub worker_below : (first : List ℕ) (phase workers : ℕ) (name : Option ℕ) → 1 ≤ workers
    → worker_by first phase workers name < workers
worker_below first phase workers None some = some
worker_below first phase workers (Some name) some = mod_below (slice_index_or first name 0 + phase) workers some

-- As many workers with a share as there are workers are all of them.
all_there : (active : List ℕ) (workers worker : ℕ) → IsDistinct nat_eq active
    → ((other : ℕ) → is_among active other ≡ true → other < workers) → length active ≡ workers → worker < workers
    → is_among active worker ≡ true
all_there active workers worker distinct below full less =
    elim (is_among active worker) as (λ b. is_among active worker ≡ b → b ≡ true) [
      | true ↦ λ there. refl
      | false ↦ λ away. absurd (omega (
        arith,
        full,
        length-le_from_distinct_below (active ++ worker ∷ []) workers
            (IsDistinct-push nat_eq_equiv active worker distinct (any_among active worker ∙ away))
            (λ other is. one_below other (sym (any_among (active ++ worker ∷ []) other) ∙ is)),
        length-append active (worker ∷ []),
      ))
    ] refl
  where
    one_below : (other : ℕ) → is_among (active ++ worker ∷ []) other ≡ true → other < workers
    one_below other is =
        elim (is_among active other) as (λ b. is_among active other ≡ b → other < workers) [
          | true ↦ λ there. below other there
          | false ↦ λ away.
              let same : (worker == other) ≡ true = last_is (worker == other) (sym (ap (λ b. b || ((worker == other) || false)) away)
              ∙ sym (among_more active worker other) ∙ is) in
              subst (λ (n : ℕ). n < workers) (eqb-true worker other same) less
        ] refl
      where
        last_is : (b : Bool) → (b || false) ≡ true → b ≡ true
        last_is true is = refl
        last_is false is = is

module _ (first : List ℕ) (phase workers : ℕ) where
  -- No line, and no worker yet.
  pub none_found : (positions : List ℕ) → length positions ≡ 8 → AreFound first phase workers [] [] positions
  unfolding IsDistinct
  none_found positions eight = record {
    have = λ k d less. absurd (omega (arith, less));
    placed = λ worker is. absurd (cc);
    distinct = tt;
    below = λ worker is. absurd (cc);
    few = omega arith;
    eight = eight;
  }

  module _ (lines : List Line) (active positions : List ℕ) (its : AreFound first phase workers lines active positions) where
    has_more : (more : ℕ) (step : Option Step) → HasShare (worker_by first phase workers) active step
        → HasShare (worker_by first phase workers) (active ++ more ∷ []) step
    has_more more None has = tt
    has_more more (Some step) has =
        among_more active more (worker_by first phase workers (loader_of step))
        ∙ or_left (is_among active (worker_by first phase workers (loader_of step))) _ has

    -- A worker that is new comes to its position.
    new_found : (worker : ℕ) (new_active new_positions : List ℕ) → is_among active worker ≡ false → worker < workers
        → workers ≤ 8 → length active < workers → new_active ≡ active ++ worker ∷ []
        → new_positions ≡ slice_set positions worker (length active)
        → AreFound first phase workers lines new_active new_positions
    new_found worker new_active new_positions away less eight room active_is positions_is = rw (active_is, positions_is) (record {
      have = λ k d within. has_more worker _ (its.have k d within);
      placed = λ other is. by_case other (other_case other is);
      distinct = IsDistinct-push nat_eq_equiv active worker its.distinct (any_among active worker ∙ away);
      below = λ other is. case_below other (other_case other is);
      few = omega (arith, room, length-append active (worker ∷ []));
      eight = length-set positions worker (length active) ∙ its.eight;
    })
      where
        other_case : (other : ℕ) → is_among (active ++ worker ∷ []) other ≡ true
            → (is_among active other ≡ true) ⊎ (other ≡ worker)
        other_case other is =
            elim (is_among active other) as (λ b. is_among active other ≡ b → (b ≡ true) ⊎ (other ≡ worker)) [
              | true ↦ λ there. inl refl
              | false ↦ λ gone. inr (last_is (sym (ap (λ b. b || ((worker == other) || false)) gone)
                  ∙ sym (among_more active worker other) ∙ is))
            ] refl
          where
            last_is : ((worker == other) || false) ≡ true → other ≡ worker
            last_is told = elim (worker == other) as (λ b. (worker == other) ≡ b → (b || false) ≡ true → other ≡ worker) [
              | true ↦ λ same e. sym (eqb-true worker other same)
              | false ↦ λ differ e. absurd (cc)
            ] refl told

        by_case : (other : ℕ) → (is_among active other ≡ true) ⊎ (other ≡ worker)
            → slice_get (active ++ worker ∷ []) (slice_index_or (slice_set positions worker (length active)) other 0) ≡ Some other
        by_case other (inl there) =
            ap (slice_get (active ++ worker ∷ []))
            (get_or-set_other positions worker other (length active) 0
            (λ same. both_ways (is_among active worker) away (ap (is_among active) (sym same) ∙ there)))
            ∙ get_kept active worker (slice_index_or positions other 0) other (its.placed other there)
        by_case other (inr same) =
            ap (λ (n : ℕ). slice_get (active ++ worker ∷ []) (slice_index_or (slice_set positions worker (length active)) n 0)) same
            ∙ ap (slice_get (active ++ worker ∷ []))
            (get_or-set_same positions worker (length active) 0 (omega (arith, less, eight, its.eight)))
            ∙ get_last active worker ∙ ap (λ (n : ℕ). Some n) (sym same)

        case_below : (other : ℕ) → (is_among active other ≡ true) ⊎ (other ≡ worker) → other < workers
        case_below other (inl there) = its.below other there
        case_below other (inr same) = subst (λ (n : ℕ). n < workers) (sym same) less

    -- A worker comes, where it isn't there yet.
    pub found_added : (worker : ℕ) (new_active new_positions : List ℕ) → AddsWorker active positions worker new_active new_positions
        → worker < workers → workers ≤ 8 → length active < workers
        → AreFound first phase workers lines new_active new_positions × (is_among new_active worker ≡ true)
    found_added worker new_active new_positions adds less eight room =
        elim (is_among active worker) as (λ b. is_among active worker ≡ b
        → new_active ≡ cond b active (active ++ worker ∷ []) → new_positions ≡ cond b positions (slice_set positions worker (length active))
        → AreFound first phase workers lines new_active new_positions × (is_among new_active worker ≡ true)) [
          | true ↦ λ there active_is positions_is. (
            rw (active_is, positions_is) its,
            ap (λ (l : List ℕ). is_among l worker) active_is ∙ there,
          )
          | false ↦ λ away active_is positions_is. (
            new_found worker new_active new_positions away less eight room active_is positions_is,
            ap (λ (l : List ℕ). is_among l worker) active_is ∙ among_more active worker worker
                ∙ or_right (is_among active worker) ((worker == worker) || false)
                (or_left (worker == worker) false (eq-eqb worker worker refl)),
          )
        ] refl adds.active_is adds.positions_is

    -- The worker of one line more is there.
    pub found_more : (line : Line) → HasShare (worker_by first phase workers) active (step_of line.command)
        → AreFound first phase workers (lines ++ line ∷ []) active positions
    found_more line has = record {
      have = All-push (λ (l : Line). HasShare (worker_by first phase workers) active (step_of l.command)) lines line its.have has;
      placed = its.placed;
      distinct = its.distinct;
      below = its.below;
      few = its.few;
      eight = its.eight;
    }

-- A line more of the trace.
pub found_next : (first : List ℕ) (phase workers : ℕ) (lines : List Line) (at : ℕ) (line : Line) (active positions : List ℕ)
    → at < length lines → AreFound first phase workers (take at lines ++ get_or lines at line ∷ []) active positions
    → AreFound first phase workers (take (at + 1) lines) active positions
found_next first phase workers lines at line active positions less its = rw (take_more lines at line less) its

-- A worker with a share has the share that its position tells.
shared_at : (turn : TurnState) (name : Option ℕ) → AreAtPositions turn.active turn.positions
    → is_among turn.active (worker_in turn name) ≡ true
    → slice_index_or turn.active (position_in turn name) 0 ≡ worker_in turn name
shared_at turn name placed there =
    let at = slice_index_or turn.positions (worker_in turn name) 0 in
    let found = get_within turn.active at (worker_in turn name) (placed (worker_in turn name) there) in
    let same : position_in turn name ≡ at = omega (arith, found.0) in
    ap (λ (n : ℕ). slice_index_or turn.active n 0) same ∙ found.1

shared_if : (turn : TurnState) (step : Option Step) → AreAtPositions turn.active turn.positions
    → HasShare (worker_in turn) turn.active step → HasOwnShare turn step
shared_if turn None placed has = tt
shared_if turn (Some step) placed has = shared_at turn (loader_of step) placed has

-- So all lines have a share of their own worker once their workers have been found.
pub found_all : (first : List ℕ) (phase workers : ℕ) (lines : List Line) (at : ℕ) (active positions : List ℕ)
    → AreFound first phase workers (take at lines) active positions → length lines ≤ at
    → HaveOwnShares (record { first = first; phase = phase; workers = workers; active = active; positions = positions }) lines
found_all first phase workers lines at active positions its ends = λ k d within.
    shared_if (record { first = first; phase = phase; workers = workers; active = active; positions = positions })
    (step_of (get_or lines k d).command) its.placed
    (subst (λ (l : List Line). All (λ (line : Line). HasShare (worker_by first phase workers) active (step_of line.command)) l)
    (take_all at lines ends) its.have k d within)

-- And once all workers have.
pub found_full : (first : List ℕ) (phase workers : ℕ) (lines some_lines : List Line) (active positions : List ℕ) → 1 ≤ workers
    → AreFound first phase workers some_lines active positions → length active ≡ workers
    → HaveOwnShares (record { first = first; phase = phase; workers = workers; active = active; positions = positions }) lines
found_full first phase workers lines some_lines active positions some its full = λ k d within.
    shared_if (record { first = first; phase = phase; workers = workers; active = active; positions = positions })
    (step_of (get_or lines k d).command) its.placed (has (step_of (get_or lines k d).command))
  where
    has : (step : Option Step) → HasShare (worker_by first phase workers) active step
    has None = tt
    has (Some step) = all_there active workers (worker_by first phase workers (loader_of step)) its.distinct its.below full
        (worker_below first phase workers (loader_of step) some)

-- Before the first line, after one that asks a step, and after one that asks none.
pub found_first : (first : List ℕ) (phase workers : ℕ) (lines : List Line) (active positions : List ℕ) → active ≡ []
    → length positions ≡ 8 → AreFound first phase workers (take 0 lines) active positions
found_first first phase workers lines active positions none eight = rw none (none_found first phase workers positions eight)

pub found_step : (first : List ℕ) (phase workers : ℕ) (lines : List Line) (at : ℕ) (line other : Line) (step : Step)
    (name : Option ℕ) (worker : ℕ) (active positions new_active new_positions : List ℕ) → 1 ≤ workers → workers ≤ 8
    → at < length lines → length active < workers → AreFound first phase workers (take at lines) active positions
    → line ≡ get_or lines at other → line.command ≡ Asks step → name ≡ loader_of step
    → worker ≡ worker_by first phase workers name → AddsWorker active positions worker new_active new_positions
    → AreFound first phase workers (take (at + 1) lines) new_active new_positions
found_step first phase workers lines at line other step name worker active positions new_active new_positions some few less room its
    line_is asks name_is worker_is adds =
    let whose : worker ≡ worker_by first phase workers (loader_of step) =
    worker_is ∙ ap (worker_by first phase workers) name_is in
    let added = found_added first phase workers (take at lines) active positions its worker new_active new_positions adds
    (subst (λ (n : ℕ). n < workers) (sym whose) (worker_below first phase workers (loader_of step) some)) few room in
    found_next first phase workers lines at other new_active new_positions less
    (subst (λ (l : Line). AreFound first phase workers (take at lines ++ l ∷ []) new_active new_positions) line_is
    (found_more first phase workers (take at lines) new_active new_positions added.0 line
    (subst (HasShare (worker_by first phase workers) new_active) (sym (ap step_of asks))
    (subst (λ (n : ℕ). is_among new_active n ≡ true) whose added.1))))

pub found_past : (first : List ℕ) (phase workers : ℕ) (lines : List Line) (at : ℕ) (line other : Line)
    (active positions : List ℕ) → at < length lines → AreFound first phase workers (take at lines) active positions
    → line ≡ get_or lines at other → step_of line.command ≡ None
    → AreFound first phase workers (take (at + 1) lines) active positions
found_past first phase workers lines at line other active positions less its line_is none =
    found_next first phase workers lines at other active positions less
    (subst (λ (l : Line). AreFound first phase workers (take at lines ++ l ∷ []) active positions) line_is
    (found_more first phase workers (take at lines) active positions its line
    (subst (HasShare (worker_by first phase workers) active) (sym none) tt)))

-- Where no line asks a step, worker 0 gets the one share.
pub found_alone : (first : List ℕ) (phase workers : ℕ) (lines : List Line) (at : ℕ)
    (active positions new_active new_positions : List ℕ) → 1 ≤ workers → workers ≤ 8 → length lines ≤ at → active ≡ []
    → AreFound first phase workers (take at lines) active positions → AddsWorker active positions 0 new_active new_positions
    → HaveOwnShares (record { first = first; phase = phase; workers = workers; active = new_active; positions = new_positions }) lines
found_alone first phase workers lines at active positions new_active new_positions some few ends none its adds =
    found_all first phase workers lines at new_active new_positions
    (found_added first phase workers (take at lines) active positions its 0 new_active new_positions adds some few
    (let size : length active ≡ 0 = ap length none in omega (arith, size, some))).0 ends

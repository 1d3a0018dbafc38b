-- Workers' steps over one history have one order: a proof for any shared state, any worker's state
-- and any steps (`Weaving` in the specs).
use Rattle.std.proofs.Common.{◌≡◌, ◌≢◌, ℕ, zero, suc, ◌<◌, ◌≤◌, ◌==◌, inl, inr, cond, List, [], ◌∷◌, ◌++◌}
use Rattle.std.proofs.Common.{length, get_or, set, length-set, get_or-set_same, eq-eqb, ne_eqb, refl, sym, ap, ◌∙◌, subst, arith}
use Rattle.std.proofs.lemmas.List.{get_or-set_other}
use mathlib.Core.Logic.{dite}
use native.Mathlib.Decide.{ℕ_discrete, dec_lt}
use Rattle.ms_shared.specs.Weaving.{Chain, without_numbers, of, AreBelow, IsStill, AreStill, Spread, events_of, said_of}
use Rattle.ms_shared.specs.Weaving.{Works, Steps, Runs, AreOf, IsOrdered}

-- A step without an event, an event of which the machine sees nothing, and a step at its position.
pub data Moment (P S : Type 0) : Type 0 where
  own : S → Moment P S
  still : P × P → Moment P S
  position : S → P × P → Moment P S

abbrev pub events_at : {P S : Type 0} → List (Moment P S) → List (P × P)
events_at [] = []
events_at (own s ∷ ms) = events_at ms
events_at (still e ∷ ms) = e ∷ events_at ms
events_at (position s e ∷ ms) = e ∷ events_at ms

abbrev pub said_at : {P S : Type 0} → List (Moment P S) → List S
said_at [] = []
said_at (own s ∷ ms) = s ∷ said_at ms
said_at (still e ∷ ms) = said_at ms
said_at (position s e ∷ ms) = s ∷ said_at ms

module _ {P V L S : Type 0} (seen : P → V) (step : V → L → S → V → L → Type 0) (none : L) where
  abbrev pub Moves : L → List (Moment P S) → L → Type 0
  Moves held [] after = after ≡ held
  Moves held (own s ∷ ms) after =
      (mid : L) × ((pool : V) → step pool held s pool mid) × Moves mid ms after
  Moves held (still e ∷ ms) after = IsStill seen e × Moves held ms after
  Moves held (position s e ∷ ms) after =
      (mid : L) × step (seen e.0) held s (seen e.1) mid × Moves mid ms after

  -- Moments of a list of acts.
  pub record Tells (held : L) (acts : List (S × List (P × P))) (after : L) : Type 0 where
    pub moments : List (Moment P S)
    pub moves : Moves held moments after
    pub events : events_at moments ≡ events_of acts
    pub said : said_at moments ≡ said_of acts

  -- Events of which the machine sees nothing come first.
  stills_first : (es : List (P × P)) (held : L) (acts : List (S × List (P × P))) (after : L) → AreStill seen es
      → (rest : Tells held acts after) → (ms : List (Moment P S)) × Moves held ms after × (events_at ms ≡ es ++ events_of acts)
      × (said_at ms ≡ said_of acts)
  stills_first [] held acts after are rest = (rest.moments, rest.moves, rest.events, rest.said)
  stills_first (e ∷ es) held acts after are rest =
      let more = stills_first es held acts after are.1 rest in
      (still e ∷ more.0, (are.0, more.1), ap (λ (l : List (P × P)). e ∷ l) more.2, more.3)

  -- One act, and the rest.
  act_first : (s : S) (es : List (P × P)) (held mid : L) (acts : List (S × List (P × P))) (after : L)
      → Spread seen (λ old new. step old held s new mid) es → (rest : Tells mid acts after)
      → (ms : List (Moment P S)) × Moves held ms after × (events_at ms ≡ es ++ events_of acts)
      × (said_at ms ≡ s ∷ said_of acts)
  act_first s [] held mid acts after one rest = (
    own s ∷ rest.moments,
    (mid, one, rest.moves),
    rest.events,
    ap (λ (l : List S). s ∷ l) rest.said,
  )
  act_first s (e ∷ es) held mid acts after (inl here) rest =
      let more = stills_first es mid acts after here.1 rest in (
        position s e ∷ more.0,
        (mid, here.0, more.1),
        ap (λ (l : List (P × P)). e ∷ l) more.2,
        ap (λ (l : List S). s ∷ l) more.3,
      )
  act_first s (e ∷ es) held mid acts after (inr there) rest =
      let more = act_first s es held mid acts after there.1 rest in
      (still e ∷ more.0, (there.0, more.1), ap (λ (l : List (P × P)). e ∷ l) more.2, more.3)

  pub tells : (held : L) (acts : List (S × List (P × P))) (after : L) → Works seen step held acts after → Tells held acts after
  tells held [] after works = record { moments = []; moves = works; events = refl; said = refl }
  tells held (act ∷ acts) after works =
      let more = act_first act.0 act.1 held works.0 acts after works.1 (tells works.0 acts after works.2) in
      record { moments = more.0; moves = more.1; events = more.2; said = more.3 }

  -- What every worker has still to do.
  abbrev Plan : Type 0
  Plan = ℕ → List (Moment P S)

  -- One worker's moments are others.
  abbrev put : Plan → ℕ → List (Moment P S) → Plan
  put plan t ms k = cond (k == t) ms (plan k)

  put_here : (plan : Plan) (t : ℕ) (ms : List (Moment P S)) → put plan t ms t ≡ ms
  put_here plan t ms = rw (eq-eqb t t refl) refl

  put_else : (plan : Plan) (t : ℕ) (ms : List (Moment P S)) (k : ℕ) → k ≢ t → put plan t ms k ≡ plan k
  put_else plan t ms k differs = rw (ne_eqb k t differs) refl

  -- Each worker's moments lead from its loaders to what they are at the end, by its own events.
  record Goes (log : List (ℕ × (P × P))) (before after : List L) (plan : Plan) : Type 0 where
    pub count : length after ≡ length before
    pub moves : (k : ℕ) → k < length before → Moves (get_or before k none) (plan k) (get_or after k none)
    pub events : (k : ℕ) → k < length before → events_at (plan k) ≡ of k log

  record Weaves (old : V × List L) (plan : Plan) (new : V × List L) : Type 0 where
    pub order : List (ℕ × S)
    pub runs : Runs step none old order new
    pub keeps : (k : ℕ) → k < length old.1 → of k order ≡ said_at (plan k)

  -- A history of which another worker's part stays.
  abbrev Leaves : ℕ → List (ℕ × (P × P)) → List (ℕ × (P × P)) → Type 0
  Leaves t log log' = (k : ℕ) → k ≢ t → of k log' ≡ of k log

  -- After one moment of a worker.
  goes_on : (t : ℕ) (log log' : List (ℕ × (P × P))) (before before' after : List L) (plan : Plan) (ms : List (Moment P S))
      → Goes log before after plan → length before' ≡ length before
      → ((k : ℕ) → k ≢ t → get_or before' k none ≡ get_or before k none)
      → Moves (get_or before' t none) ms (get_or after t none) → events_at ms ≡ of t log' → Leaves t log log'
      → Goes log' before' after (put plan t ms)
  goes_on t log log' before before' after plan ms goes count teams moves events leaves = record {
    count = goes.count ∙ sym count;
    moves = λ k less. dite (ℕ_discrete k t)
        (λ e. subst (λ (n : ℕ). Moves (get_or before' n none) (put plan t ms n) (get_or after n none)) (sym e)
        (subst (λ (l : List (Moment P S)). Moves (get_or before' t none) l (get_or after t none)) (sym (put_here plan t ms)) moves))
        (λ n. subst (λ (l : List (Moment P S)). Moves (get_or before' k none) l (get_or after k none)) (sym (put_else plan t ms k n))
        (subst (λ (h : L). Moves h (plan k) (get_or after k none)) (sym (teams k n))
        (goes.moves k (subst (λ (n : ℕ). k < n) count less))));
    events = λ k less. dite (ℕ_discrete k t)
        (λ e. subst (λ (n : ℕ). events_at (put plan t ms n) ≡ of n log') (sym e) (ap events_at (put_here plan t ms) ∙ events))
        (λ n. ap events_at (put_else plan t ms k n) ∙ goes.events k (subst (λ (n : ℕ). k < n) count less)
        ∙ sym (leaves k n));
  }

  -- A step comes first, and the others follow.
  said_first : (k t : ℕ) (s : S) (order : List (ℕ × S)) (said said' : List S) → said ≡ s ∷ said'
      → of k order ≡ said' → k ≡ t → of k ((t, s) ∷ order) ≡ said
  said_first k t s order said said' is rest e = rw (eq-eqb t k (sym e)) (ap (λ (l : List S). s ∷ l) rest ∙ sym is)

  said_else : (k t : ℕ) (s : S) (order : List (ℕ × S)) → k ≢ t
      → of k ((t, s) ∷ order) ≡ of k order
  said_else k t s order differs = rw (ne_eqb t k (λ e. differs (sym e))) refl

  step_first : (old mid new : V × List L) (t : ℕ) (s : S) (ms : List (Moment P S)) (plan : Plan) → Steps step none old t s mid
      → said_at (plan t) ≡ s ∷ said_at ms → length mid.1 ≡ length old.1 → Weaves mid (put plan t ms) new
      → Weaves old plan new
  step_first old mid new t s ms plan step is count rest = record {
    order = (t, s) ∷ rest.order;
    runs = (mid, step, rest.runs);
    keeps = λ k less. dite (ℕ_discrete k t)
        (λ e. said_first k t s rest.order (said_at (plan k)) (said_at ms) (ap (λ n. said_at (plan n)) e ∙ is)
        (rest.keeps k (subst (λ (n : ℕ). k < n) (sym count) less)
        ∙ ap (λ n. said_at (put plan t ms n)) e ∙ ap said_at (put_here plan t ms)) e)
        (λ n. said_else k t s rest.order n
        ∙ rest.keeps k (subst (λ (n : ℕ). k < n) (sym count) less) ∙ ap said_at (put_else plan t ms k n));
  }

  -- An event of which the machine sees nothing drops out.
  still_first : (old new : V × List L) (t : ℕ) (ms : List (Moment P S)) (plan : Plan) → said_at (plan t) ≡ said_at ms
      → Weaves old (put plan t ms) new → Weaves old plan new
  still_first old new t ms plan same rest = record {
    order = rest.order;
    runs = rest.runs;
    keeps = λ k less. rest.keeps k less ∙ dite (ℕ_discrete k t)
        (λ e. ap (λ n. said_at (put plan t ms n)) e ∙ ap said_at (put_here plan t ms) ∙ sym same
        ∙ sym (ap (λ n. said_at (plan n)) e))
        (λ n. ap said_at (put_else plan t ms k n));
  }

  -- The machine after a worker's step.
  abbrev stepped : List L → ℕ → L → List L
  stepped teams t held = set teams t held

  goes_stepped : (t : ℕ) (log log' : List (ℕ × (P × P))) (teams after : List L) (held : L) (plan : Plan)
      (ms : List (Moment P S)) → t < length teams → Goes log teams after plan → Moves held ms (get_or after t none)
      → events_at ms ≡ of t log' → Leaves t log log' → Goes log' (stepped teams t held) after (put plan t ms)
  goes_stepped t log log' teams after held plan ms less goes moves events leaves =
      goes_on t log log' teams (set teams t held) after plan ms goes (length-set teams t held)
      (λ k n. get_or-set_other teams t k held none n)
      (subst (λ (h : L). Moves h ms (get_or after t none)) (sym (get_or-set_same teams t held none less)) moves)
      events leaves

  empty_apart : (e : P × P) (es : List (P × P)) → [] ≡ e ∷ es → ⊥
  empty_apart e es is = let one : ◌≡◌ {A = ℕ} 0 (suc (length es)) = ap (λ (l : List (P × P)). length l) is in absurd (omega arith)

  abbrev first_event : P × P → List (P × P) → P × P
  first_event d [] = d
  first_event d (e ∷ es) = e

  abbrev later_events : List (P × P) → List (P × P)
  later_events [] = []
  later_events (e ∷ es) = es

  of_own : (t : ℕ) (e : P × P) (log : List (ℕ × (P × P))) → of t ((t, e) ∷ log) ≡ e ∷ of t log
  of_own t e log = rw (eq-eqb t t refl) refl

  of_else : (t : ℕ) (e : P × P) (log : List (ℕ × (P × P))) → Leaves t ((t, e) ∷ log) log
  of_else t e log k differs = rw (ne_eqb t k (λ is. differs (sym is))) refl

  -- What is to be shown of a history, from any pool and loaders on.
  abbrev Woven : List (ℕ × (P × P)) → Type 0
  Woven log = (view : V) (old new : P) (teams after : List L) (plan : Plan) → view ≡ seen old
      → Chain old (without_numbers log) new → AreBelow (length teams) log → Goes log teams after plan
      → Weaves (view, teams) plan (seen new, after)

  -- The first event of a history: the moments of its worker up to the event come first.
  to_event : (t : ℕ) (e : P × P) (log : List (ℕ × (P × P))) → Woven log → (ms : List (Moment P S)) (view : V) (old new : P)
      (teams after : List L) (plan : Plan) → plan t ≡ ms → t < length teams → view ≡ seen old
      → Chain old (e ∷ without_numbers log) new → AreBelow (length teams) log → Goes ((t, e) ∷ log) teams after plan
      → Weaves (view, teams) plan (seen new, after)
  to_event t e log rest [] view old new teams after plan is less sees chain below goes =
      absurd (empty_apart e (of t log) (sym (ap events_at is) ∙ goes.events t less ∙ of_own t e log))
  to_event t e log rest (own s ∷ ms) view old new teams after plan is less sees chain below goes =
      let moves = subst (λ (l : List (Moment P S)). Moves (get_or teams t none) l (get_or after t none)) is (goes.moves t less) in
      let count = length-set teams t moves.0 in
      step_first _ (view, stepped teams t moves.0) _ t s ms plan
      (record { after = moves.0; there = less; step_is = moves.1 view; teams = refl }) (ap said_at is) count
      (to_event t e log rest ms view old new (stepped teams t moves.0) after (put plan t ms) (put_here plan t ms)
      (subst (λ (n : ℕ). t < n) (sym count) less) sees chain (subst (λ (n : ℕ). AreBelow n log) (sym count) below)
      (goes_stepped t ((t, e) ∷ log) ((t, e) ∷ log) teams after moves.0 plan ms less goes moves.2
      (sym (ap events_at is) ∙ goes.events t less) (λ k n. refl)))
  to_event t e log rest (position s f ∷ ms) view old new teams after plan is less sees chain below goes =
      let moves = subst (λ (l : List (Moment P S)). Moves (get_or teams t none) l (get_or after t none)) is (goes.moves t less) in
      let events : f ∷ events_at ms ≡ e ∷ of t log = sym (ap events_at is) ∙ goes.events t less ∙ of_own t e log in
      let same : f ≡ e = ap (first_event f) events in
      let count = length-set teams t moves.0 in
      step_first _ (seen e.1, stepped teams t moves.0) _ t s ms plan
      (record {
        after = moves.0;
        there = less;
        step_is = subst (λ (p : V). step p (get_or teams t none) s (seen e.1) moves.0)
            (ap seen chain.0 ∙ sym sees)
            (subst (λ (x : P × P). step (seen x.0) (get_or teams t none) s (seen x.1) moves.0) same moves.1);
        teams = refl;
      }) (ap said_at is) count
      (rest (seen e.1) e.1 new (stepped teams t moves.0) after (put plan t ms) refl chain.1
      (subst (λ (n : ℕ). AreBelow n log) (sym count) below)
      (goes_stepped t ((t, e) ∷ log) log teams after moves.0 plan ms less goes moves.2 (ap later_events events)
      (of_else t e log)))
  to_event t e log rest (still f ∷ ms) view old new teams after plan is less sees chain below goes =
      let moves = subst (λ (l : List (Moment P S)). Moves (get_or teams t none) l (get_or after t none)) is (goes.moves t less) in
      let events : f ∷ events_at ms ≡ e ∷ of t log = sym (ap events_at is) ∙ goes.events t less ∙ of_own t e log in
      let same : f ≡ e = ap (first_event f) events in
      let stays : seen e.1 ≡ seen old = subst (λ (x : P × P). seen x.1 ≡ seen x.0) same moves.0 ∙ ap seen chain.0 in
      still_first _ _ t ms plan (ap said_at is)
      (rest view e.1 new teams after (put plan t ms) (sees ∙ sym stays) chain.1 below
      (goes_on t ((t, e) ∷ log) log teams teams after plan ms goes refl (λ k n. refl) moves.1 (ap later_events events)
      (of_else t e log)))

  -- Lists of one length with the same elements.
  same_list : (xs ys : List L) → length ys ≡ length xs
      → ((k : ℕ) → k < length xs → get_or ys k none ≡ get_or xs k none) → ys ≡ xs
  same_list [] [] count same = refl
  same_list [] (y ∷ ys) count same = absurd (omega arith)
  same_list (x ∷ xs) [] count same = absurd (omega arith)
  same_list (x ∷ xs) (y ∷ ys) count same =
      ap (λ (h : L). h ∷ ys) (same 0 (omega arith))
      ∙ ap (λ (l : List L). x ∷ l) (same_list xs ys (omega arith) (λ k less. same (suc k) (omega arith)))

  -- With no event left, what remains are steps without one: of the first n workers, one after
  -- another.
  abbrev Ends : ℕ → Type 0
  Ends n = (view : V) (new : P) (teams after : List L) (plan : Plan) → view ≡ seen new
      → Goes [] teams after plan → n ≤ length teams → ((k : ℕ) → n ≤ k → k < length teams → plan k ≡ [])
      → Weaves (view, teams) plan (seen new, after)

  end_one : (n : ℕ) → Ends n → (ms : List (Moment P S)) (view : V) (new : P) (teams after : List L) (plan : Plan)
      → plan n ≡ ms → view ≡ seen new → Goes [] teams after plan → n < length teams
      → ((k : ℕ) → suc n ≤ k → k < length teams → plan k ≡ [])
      → Weaves (view, teams) plan (seen new, after)
  end_one n rest [] view new teams after plan is sees goes less idle =
      rest view new teams after plan sees goes (omega arith)
      (λ k more below. dite (ℕ_discrete k n) (λ e. ap plan e ∙ is) (λ d. idle k (omega arith) below))
  end_one n rest (own s ∷ ms) view new teams after plan is sees goes less idle =
      let moves = subst (λ (l : List (Moment P S)). Moves (get_or teams n none) l (get_or after n none)) is (goes.moves n less) in
      let count = length-set teams n moves.0 in
      step_first _ (view, stepped teams n moves.0) _ n s ms plan
      (record { after = moves.0; there = less; step_is = moves.1 view; teams = refl }) (ap said_at is) count
      (end_one n rest ms view new (stepped teams n moves.0) after (put plan n ms) (put_here plan n ms) sees
      (goes_stepped n [] [] teams after moves.0 plan ms less goes moves.2
      (sym (ap events_at is) ∙ goes.events n less) (λ k d. refl))
      (subst (λ (m : ℕ). n < m) (sym count) less)
      (λ k more below. put_else plan n ms k (λ e. absurd (omega arith))
      ∙ idle k more (subst (λ (m : ℕ). k < m) count below)))
  end_one n rest (still f ∷ ms) view new teams after plan is sees goes less idle =
      absurd (empty_apart f (events_at ms) (sym (goes.events n less) ∙ ap events_at is))
  end_one n rest (position s f ∷ ms) view new teams after plan is sees goes less idle =
      absurd (empty_apart f (events_at ms) (sym (goes.events n less) ∙ ap events_at is))

  abbrev with_teams : List L → V → V × List L
  with_teams l p = (p, l)

  abbrev with_view : V → List L → V × List L
  with_view p l = (p, l)

  end_all : (n : ℕ) → Ends n
  end_all zero view new teams after plan sees goes within idle = record {
    order = [];
    runs = same_machine;
    keeps = λ k less. sym (ap said_at (idle k (omega arith) less));
  }
    where
      teams_are : after ≡ teams
      teams_are = same_list teams after goes.count
          (λ k less. subst (λ (l : List (Moment P S)). Moves (get_or teams k none) l (get_or after k none))
          (idle k (omega arith) less) (goes.moves k less))

      same_machine : ◌≡◌ {A = V × List L} (seen new, after) (view, teams)
      same_machine = ap (with_teams after) (sym sees) ∙ ap (with_view view) teams_are
  end_all (suc n) view new teams after plan sees goes within idle =
      end_one n (end_all n) (plan n) view new teams after plan refl sees goes (omega arith) idle

  weave : (log : List (ℕ × (P × P))) → Woven log
  weave [] view old new teams after plan sees chain below goes =
      end_all (length teams) view new teams after plan (sees ∙ ap seen (sym chain)) goes (omega arith)
      (λ k more less. absurd (omega arith))
  weave (entry ∷ log) view old new teams after plan sees chain below goes =
      to_event entry.0 entry.1 log (weave log) (plan entry.0) view old new teams after plan refl below.0 sees chain below.1
      goes

  -- The moments of each worker: none where there is no such worker.
  plan_of : (log : List (ℕ × (P × P))) (before after : List L) (acts : ℕ → List (S × List (P × P))) → AreOf seen step none log before after acts
      → (plan : Plan) × Goes log before after plan × ((k : ℕ) → k < length before → said_at (plan k) ≡ said_of (acts k))
  plan_of log before after acts are = (plan, goes, said)
    where
      told : (k : ℕ) (less : Dec (k < length before)) → List (Moment P S)
      told k (yes less) = (tells (get_or before k none) (acts k) (get_or after k none) (are.works k less)).moments
      told k (no more) = []

      plan : Plan
      plan k = told k (dec_lt k (length before))

      moves_at : (k : ℕ) (d : Dec (k < length before)) → k < length before
          → Moves (get_or before k none) (told k d) (get_or after k none)
      moves_at k (yes less) below = (tells (get_or before k none) (acts k) (get_or after k none) (are.works k less)).moves
      moves_at k (no more) below = absurd (more below)

      events_are : (k : ℕ) (d : Dec (k < length before)) → k < length before → events_at (told k d) ≡ of k log
      events_are k (yes less) below =
          (tells (get_or before k none) (acts k) (get_or after k none) (are.works k less)).events ∙ are.events k less
      events_are k (no more) below = absurd (more below)

      said_are : (k : ℕ) (d : Dec (k < length before)) → k < length before → said_at (told k d) ≡ said_of (acts k)
      said_are k (yes less) below = (tells (get_or before k none) (acts k) (get_or after k none) (are.works k less)).said
      said_are k (no more) below = absurd (more below)

      goes : Goes log before after plan
      goes = record {
        count = are.count;
        moves = λ k less. moves_at k (dec_lt k (length before)) less;
        events = λ k less. events_are k (dec_lt k (length before)) less;
      }

      said : (k : ℕ) → k < length before → said_at (plan k) ≡ said_of (acts k)
      said k less = said_are k (dec_lt k (length before)) less

  pub weaves : (old new : P) (before after : List L) (log : List (ℕ × (P × P))) (acts : ℕ → List (S × List (P × P)))
      → Chain old (without_numbers log) new → AreBelow (length before) log
      → AreOf seen step none log before after acts → IsOrdered seen step none old new before after acts
  weaves old new before after log acts chain below are =
      let plan = plan_of log before after acts are in
      let woven = weave log (seen old) old new before after plan.0 refl chain below plan.1 in record {
        order = woven.order;
        runs = woven.runs;
        keeps = λ k less. woven.keeps k less ∙ plan.2 k less;
      }

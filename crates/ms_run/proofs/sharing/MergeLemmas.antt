-- Replies taken share by share, in the order of the lines: of each share so many are taken as it
-- has tasks among the lines so far. Used by `merge`.
use Rattle.std.proofs.Common.{◌≡◌, ◌<◌, ◌≤◌, ◌+◌, ◌==◌, ℕ, Bool, true, false, cond, Some, None, List, [], ◌∷◌, ◌++◌}
use Rattle.std.proofs.Common.{map, length, refl, sym, ap, ◌∙◌, subst, arith, slice_get, slice_set, get_or, take, drop}
use Rattle.std.proofs.Common.{replicate, append-nil, append_assoc}
use Rattle.std.specs.List.{filter}
use Rattle.std.proofs.Math.Seq.{get_or-append_seam}
use Rattle.std.proofs.lemmas.Bool.{eqb-true, eqb-false}
use Rattle.std.proofs.lemmas.List.{take_more, take_all, length-append, length-map, length-set}
use Rattle.std.proofs.lemmas.List.{get_or-set_same, get_or-set_other, get_or-replicate}
use Rattle.std.proofs.lemmas.List.Elements.{filter-append}
use Rattle.std.proofs.lemmas.Option.{same_Some, slice_get_within}
use Rattle.std.proofs.lemmas.Slice.Zip.{length-zip}
use Rattle.ms_base.specs.declared.step.Step.{Step}
use Rattle.ms_base.specs.declared.step.Reply.{Reply}
use Rattle.ms_base.specs.Request.{loader_of}
use Rattle.ms_trace.specs.declared.trace.Line.{Line}
use Rattle.ms_trace.specs.Steps.{step_of}
use Rattle.ms_answers.specs.declared.replies.Answer.{Answer}
use Rattle.ms_base.specs.Run.Own.{Said}
use Rattle.ms_run.specs.Replay.{AreSaid}
use Rattle.ms_run.specs.declared.share.Task.{Task}
use Rattle.ms_run.specs.declared.share.Share.{Share}
use Rattle.ms_run.specs.Shares.{said_in, Position, tasks_at, tasks_in, AreAnswered, AreMerged}
use Rattle.ms_run.proofs.sharing.TaskLemmas.{all_there, at_next, said_append, said_more, task_in}

-- The lines up to a position are merged.
pub record SoFar (position : Position) (lines : List Line) (shares : List Share) (before : List Answer) (at : ℕ)
    (answers : List Answer) (taken : List ℕ) : Type 0 where
  pub added : List Answer
  pub said : List Said
  pub is : answers ≡ before ++ added
  pub said_are : AreSaid (take at lines) added said
  pub long : length taken ≡ length shares
  pub counts : (k d : ℕ) → k < length shares → get_or taken k d ≡ length (tasks_at position k (take at lines))
  pub told : (k : ℕ) (share : Share) → slice_get shares k ≡ Some share
      → filter (λ (s : Said). position (loader_of s.0) == k) said
      ≡ take (length (tasks_at position k (take at lines))) (said_in (tasks_in lines share) share.replies.items)

pub starts : (position : Position) (lines : List Line) (shares : List Share) (before : List Answer) (count : ℕ)
    (taken : List ℕ)
    → taken ≡ replicate count 0 → length taken ≡ count → count ≡ length shares
    → SoFar position lines shares before 0 before taken
starts position lines shares before count taken zeros long all = record {
  added = [];
  said = [];
  is = sym (append-nil before);
  said_are = tt;
  long = long ∙ all;
  counts = λ k d within. ap (λ (l : List ℕ). get_or l k d) zeros
      ∙ get_or-replicate count k 0 d (omega (arith, within, all));
  told = λ k share found. refl;
}

-- The next line: its step, the position of its share, and what stands there.
pub record Next (position : Position) (lines : List Line) (shares : List Share) (at : ℕ) (taken : List ℕ) (line : Line)
    (step : Step) (there : ℕ) (share : Share) (next : ℕ) : Type 0 where
  pub more : take (at + 1) lines ≡ take at lines ++ line ∷ []
  pub asks : step_of line.command ≡ Some step
  pub goes : there ≡ position (loader_of step)
  pub found : slice_get shares there ≡ Some share
  pub is_next : next ≡ get_or taken there next

pub next_line : (position : Position) (lines : List Line) (shares : List Share) (at : ℕ) (taken : List ℕ) (line : Line)
    (there : ℕ) (share : Share) (next : ℕ) → line ≡ get_or lines at line
    → (asked : (step : Step) × (step_of (get_or lines at line).command ≡ Some step))
    → ((step : Step) → step_of line.command ≡ Some step → there ≡ position (loader_of step))
    → at < length lines
    → slice_get shares there ≡ Some share → next ≡ get_or taken there next
    → Next position lines shares at taken line asked.0 there share next
next_line position lines shares at taken line there share next is asked goes within found is_next =
    let asks = ap (λ (l : Line). step_of l.command) is ∙ asked.1 in
    record {
      more = take_more lines at line within ∙ ap (λ (l : Line). take at lines ++ l ∷ []) (sym is);
      asks = asks;
      goes = goes asked.0 asks;
      found = found;
      is_next = is_next;
    }

-- Its task is the next of its share, and there is a reply to it.
pub record HasReply (lines : List Line) (share : Share) (next : ℕ) (task : Task) : Type 0 where
  pub in_tasks : next < length (tasks_in lines share)
  pub in_replies : next < length share.replies.items
  pub task_is : get_or (tasks_in lines share) next task ≡ task

pub has_reply : (position : Position) (lines : List Line) (shares : List Share) (before : List Answer) (at : ℕ)
    (answers : List Answer) (taken : List ℕ)
    (line : Line) (step : Step) (there : ℕ) (share : Share) (next : ℕ)
    → AreAnswered position shares lines → SoFar position lines shares before at answers taken
    → Next position lines shares at taken line step there share next
    → HasReply lines share next (task_in line step)
has_reply position lines shares before at answers taken line step there share next answered so_far goes_on =
    record { in_tasks = in_tasks; in_replies = in_replies; task_is = task_is }
  where
    firsts : List Task
    firsts = tasks_at position (position (loader_of step)) (take at lines)

    later : List Task
    later = tasks_at position (position (loader_of step)) (drop (at + 1) lines)

    count : next ≡ length firsts
    count = goes_on.is_next ∙ so_far.counts there next (slice_get_within shares there share goes_on.found)
        ∙ ap (λ (k : ℕ). length (tasks_at position k (take at lines))) goes_on.goes

    tasks : tasks_in lines share ≡ firsts ++ task_in line step ∷ later
    tasks = (answered there share goes_on.found).0 ∙ ap (λ (k : ℕ). tasks_at position k lines) goes_on.goes
        ∙ all_there position lines at line step goes_on.more goes_on.asks

    in_tasks : next < length (tasks_in lines share)
    in_tasks = omega (arith, count, ap length tasks, length-append firsts (task_in line step ∷ later))

    in_replies : next < length share.replies.items
    in_replies = omega (arith, in_tasks, (answered there share goes_on.found).1, share.replies.ok.0)

    task_is : get_or (tasks_in lines share) next (task_in line step) ≡ task_in line step
    task_is = ap (λ (n : ℕ). get_or (tasks_in lines share) n (task_in line step)) count
        ∙ ap (λ (l : List Task). get_or l (length firsts) (task_in line step)) tasks
        ∙ get_or-append_seam firsts (task_in line step) later (task_in line step)

-- What was said of a share grows as its tasks do, and the count of its replies.
grows : (b : Bool) (told : List Said) (s : Said) (firsts : List Task) (task : Task) (whole : List Said)
    → told ≡ take (length firsts) whole
    → (b ≡ true → take (length firsts + 1) whole ≡ take (length firsts) whole ++ s ∷ [])
    → told ++ cond b (s ∷ []) [] ≡ take (length (firsts ++ cond b (task ∷ []) [])) whole
grows true told s firsts task whole is more =
    ap (λ (l : List Said). l ++ s ∷ []) is ∙ sym (more refl)
    ∙ ap (λ (n : ℕ). take n whole) (sym (length-append firsts (task ∷ [])))
grows false told s firsts task whole is more =
    append-nil told ∙ is ∙ ap (λ (l : List Task). take (length l) whole) (sym (append-nil firsts))

counted : (b : Bool) (count : ℕ) (firsts : List Task) (task : Task) → (b ≡ true → count ≡ length firsts + 1)
    → (b ≡ false → count ≡ length firsts)
    → count ≡ length (firsts ++ cond b (task ∷ []) [])
counted true count firsts task one same = one refl ∙ sym (length-append firsts (task ∷ []))
counted false count firsts task one same = same refl ∙ ap length (sym (append-nil firsts))

-- With its reply the next line is merged.
pub merges_next : (position : Position) (lines : List Line) (shares : List Share) (before : List Answer) (at : ℕ)
    (answers : List Answer) (taken : List ℕ)
    (line : Line) (step : Step) (there : ℕ) (share : Share) (next : ℕ) (reply : Reply)
    → AreAnswered position shares lines → SoFar position lines shares before at answers taken
    → Next position lines shares at taken line step there share next
    → reply ≡ get_or share.replies.items next reply
    → SoFar position lines shares before (at + 1)
    (answers ++ record { line = line.number; reply = reply; report = None } ∷ []) (slice_set taken there (next + 1))
merges_next position lines shares before at answers taken line step there share next reply answered so_far goes_on
    reply_is =
    record {
      added = so_far.added ++ answer ∷ [];
      said = so_far.said ++ (step, reply) ∷ [];
      is = ap (λ (l : List Answer). l ++ answer ∷ []) so_far.is ∙ append_assoc before so_far.added (answer ∷ []);
      said_are =
          rw goes_on.more
          (said_append (take at lines) (line ∷ []) so_far.added (answer ∷ []) so_far.said ((step, reply) ∷ [])
          so_far.said_are (goes_on.asks, refl, refl, refl, tt));
      long = length-set taken there (next + 1) ∙ so_far.long;
      counts = counts;
      told = told;
    }
  where
    answer : Answer
    answer = record { line = line.number; reply = reply; report = None }

    firsts : ℕ → List Task
    firsts k = tasks_at position k (take at lines)

    within : there < length taken
    within = omega (arith, slice_get_within shares there share goes_on.found, so_far.long)

    here : (k : ℕ) → (position (loader_of step) == k) ≡ true → there ≡ k
    here k e = goes_on.goes ∙ eqb-true (position (loader_of step)) k e

    next_is : next ≡ length (firsts there)
    next_is = goes_on.is_next ∙ so_far.counts there next (slice_get_within shares there share goes_on.found)

    more : (k : ℕ)
        → tasks_at position k (take (at + 1) lines)
        ≡ firsts k ++ cond (position (loader_of step) == k) (task_in line step ∷ []) []
    more k = at_next position k lines at line step goes_on.more goes_on.asks

    counts : (k d : ℕ) → k < length shares
        → get_or (slice_set taken there (next + 1)) k d ≡ length (tasks_at position k (take (at + 1) lines))
    counts k d inside =
        counted (position (loader_of step) == k) (get_or (slice_set taken there (next + 1)) k d) (firsts k)
        (task_in line step)
        (λ e. ap (λ (j : ℕ). get_or (slice_set taken there (next + 1)) j d) (sym (here k e))
        ∙ get_or-set_same taken there (next + 1) d within
        ∙ ap (λ (n : ℕ). n + 1) next_is ∙ ap (λ (j : ℕ). length (firsts j) + 1) (here k e))
        (λ e. get_or-set_other taken there k (next + 1) d
        (λ same. eqb-false (position (loader_of step)) k e (sym goes_on.goes ∙ sym same)) ∙ so_far.counts k d inside)
        ∙ ap length (sym (more k))

    one_more : (k : ℕ) (other : Share) → slice_get shares k ≡ Some other → (position (loader_of step) == k) ≡ true
        → take (length (firsts k) + 1) (said_in (tasks_in lines other) other.replies.items)
        ≡ take (length (firsts k)) (said_in (tasks_in lines other) other.replies.items) ++ (step, reply) ∷ []
    one_more k other found e =
        let same : share ≡ other = same_Some share other (sym goes_on.found ∙ ap (slice_get shares) (here k e) ∙ found)
        in
        let has =
        has_reply position lines shares before at answers taken line step there share next answered so_far goes_on in
        let said_so =
        said_more (tasks_in lines share) share.replies.items next (task_in line step) reply has.in_tasks has.in_replies
        has.task_is reply_is in
        let count : next ≡ length (firsts k) = next_is ∙ ap (λ (j : ℕ). length (firsts j)) (here k e) in
        subst (λ (n : ℕ). take (n + 1) (said_in (tasks_in lines other) other.replies.items)
        ≡ take n (said_in (tasks_in lines other) other.replies.items) ++ (step, reply) ∷ []) count
        (subst (λ (s : Share). take (next + 1) (said_in (tasks_in lines s) s.replies.items)
        ≡ take next (said_in (tasks_in lines s) s.replies.items) ++ (step, reply) ∷ []) same said_so)

    told : (k : ℕ) (other : Share) → slice_get shares k ≡ Some other
        → filter (λ (s : Said). position (loader_of s.0) == k) (so_far.said ++ (step, reply) ∷ [])
        ≡ take (length (tasks_at position k (take (at + 1) lines))) (said_in (tasks_in lines other) other.replies.items)
    told k other found =
        filter-append (λ (s : Said). position (loader_of s.0) == k) so_far.said ((step, reply) ∷ [])
        ∙ grows (position (loader_of step) == k) (filter (λ (s : Said). position (loader_of s.0) == k) so_far.said)
        (step, reply) (firsts k) (task_in line step)
        (said_in (tasks_in lines other) other.replies.items) (so_far.told k other found) (one_more k other found)
        ∙ ap (λ (l : List Task). take (length l) (said_in (tasks_in lines other) other.replies.items)) (sym (more k))

-- Once all lines are merged, all that was said in the shares is.
pub all_merged : (position : Position) (lines : List Line) (shares : List Share) (before : List Answer) (at : ℕ)
    (answers : List Answer) (taken : List ℕ)
    → AreAnswered position shares lines → SoFar position lines shares before at answers taken → length lines ≤ at
    → (added : List Answer) × (said : List Said) × (answers ≡ before ++ added) × AreSaid lines added said
    × AreMerged position shares lines said
all_merged position lines shares before at answers taken answered so_far ends = (
  so_far.added,
  so_far.said,
  so_far.is,
  subst (λ (l : List Line). AreSaid l so_far.added so_far.said) whole so_far.said_are,
  merged,
)
  where
    whole : take at lines ≡ lines
    whole = take_all at lines ends

    short : (tasks : List Task) (replies : List Reply) → length (said_in tasks replies) ≤ length tasks
    short tasks replies =
        omega (arith, length-zip (map (λ (t : Task). t.step) tasks) replies, length-map tasks (λ (t : Task). t.step))

    merged : AreMerged position shares lines so_far.said
    merged k share found =
        let its = answered k share found in
        let count = ap (λ (l : List Line). length (tasks_at position k l)) whole ∙ ap length (sym its.0) in
        so_far.told k share found ∙ ap (λ (n : ℕ). take n (said_in (tasks_in lines share) share.replies.items)) count
        ∙ take_all (length (tasks_in lines share)) (said_in (tasks_in lines share) share.replies.items)
        (short (tasks_in lines share) share.replies.items)

-- Shares that were worked: what of each is as it was, and what was said in each of a loader. For
-- `run_phase`.
use Rattle.std.proofs.Common.{◌≡◌, ◌≢◌, ◌<◌, ◌==◌, ℕ, zero, suc, Bool, true, false, cond, Some, None, Option, List, []}
use Rattle.std.proofs.Common.{◌∷◌, map, length, refl, sym, ap, ◌∙◌, subst, arith, slice_get, get_or, inl, inr}
use Rattle.std.specs.List.{All, AllByRecursion, filter}
use Rattle.std.proofs.lemmas.Bool.{eqb-true, false_from_ne_true}
use Rattle.std.proofs.lemmas.Option.{slice_get-get_or, slice_get_within, get_or_from_slice_get}
use Rattle.ms_base.specs.declared.step.Step.TheVariants.{Purge}
use Rattle.ms_base.specs.declared.step.Reply.{Reply}
use Rattle.ms_base.specs.declared.step.Reply.TheVariants.{Ok as Done}
use Rattle.ms_base.specs.Names.{named}
use Rattle.ms_base.specs.Request.{loader_of, is_name}
use Rattle.ms_trace.specs.declared.trace.Line.{Line}
use Rattle.ms_loader.specs.Loader.{LoaderView}
use Rattle.ms_shared.specs.SeatView.{LockState, SeatState}
use Rattle.ms_run.specs.Joined.{seat_of}
use Rattle.ms_base.specs.Run.Own.{Said, own_said}
use Rattle.ms_base.proofs.own.OwnRunLemmas.{names_or_not}
use Rattle.ms_run.specs.Acts.{Act, Works, said_of}
use Rattle.std.specs.Prelude.{slice_index_or}
use Rattle.ms_run.specs.declared.share.Task.{Task}
use Rattle.ms_run.specs.declared.share.Share.{Share}
use Rattle.ms_run.specs.Shares.{AllWorked, AreApart, HaveTasks, IsMannedShare, IsReady, IsWorked, Position, said_in, tasks_of}
use Rattle.ms_run.specs.Shares.{AreAnswered}

-- The share that became one that is worked.
pub record WorkedFrom (lines : List Line) (shares : List Share) (at : ℕ) (done : Share) : Type 0 where
  pub share : Share
  pub is : slice_get shares at ≡ Some share
  pub worked : IsWorked lines share done

pub worked_from : (lines : List Line) (shares others : List Share) (at : ℕ) (done : Share)
    → AllWorked lines shares others → slice_get others at ≡ Some done
    → WorkedFrom lines shares at done
worked_from lines [] [] at done all found = absurd (cc)
worked_from lines [] (other ∷ others) at done all found = absurd all
worked_from lines (share ∷ shares) [] at done all found = absurd all
worked_from lines (share ∷ shares) (other ∷ others) zero done all found =
    let same : other ≡ done =
    cc in record { share = share; is = refl; worked = subst (λ (d : Share). IsWorked lines share d) same all.0 }
worked_from lines (share ∷ shares) (other ∷ others) (suc at) done all found =
    let rest = worked_from lines shares others at done all.1 found in
    record { share = rest.share; is = rest.is; worked = rest.worked }

pub same_count : (lines : List Line) (shares others : List Share) → AllWorked lines shares others
    → length others ≡ length shares
same_count lines [] [] all = refl
same_count lines [] (other ∷ others) all = absurd all
same_count lines (share ∷ shares) [] all = absurd all
same_count lines (share ∷ shares) (other ∷ others) all =
    ap (λ (n : ℕ). suc n) (same_count lines shares others all.1)

-- What holds of each position's share holds of each.
each_position : (P : Share → Type 0) (shares : List Share)
    → ((at : ℕ) (share : Share) → slice_get shares at ≡ Some share → P share) → All P shares
each_position P shares holds = λ k d within. holds k (get_or shares k d) (slice_get-get_or shares k d within)

pub at_position : (P : Share → Type 0) (shares : List Share) (at : ℕ) (share : Share) → All P shares
    → slice_get shares at ≡ Some share → P share
at_position P shares at share all found =
    subst P (get_or_from_slice_get shares at share share found) (all at share (slice_get_within shares at share found))

-- Worked shares stand over the lock that they stood over, and serve their loaders.
pub own_seats : (shared : LockState) (lines : List Line) (shares others : List Share) → All (IsReady shared) shares
    → AllWorked lines shares others
    → All (λ (share : Share). share.seat.id ≡ shared.id) others
own_seats shared lines shares others ready all =
    each_position (λ (share : Share). share.seat.id ≡ shared.id) others
    (λ at done found. let from = worked_from lines shares others at done all found in
    from.worked.id ∙ (at_position (IsReady shared) shares at from.share ready from.is).own)

pub all_manned : (lines : List Line) (shares others : List Share) → AllWorked lines shares others
    → All IsMannedShare others
all_manned lines shares others all =
    each_position IsMannedShare others
    (λ at done found. (worked_from lines shares others at done all found).worked.manned)

-- Each has its tasks still, and a reply to each.
pub all_answered : (position : Position) (shares others : List Share) (lines : List Line) → HaveTasks position shares lines
    → AllWorked lines shares others
    → AreAnswered position others lines
all_answered position shares others lines tasks all = λ at done found.
    let from = worked_from lines shares others at done all found in (
      from.worked.tasks ∙ tasks at from.share from.is,
      from.worked.replies ∙ ap length (sym from.worked.tasks),
    )

-- In another share nothing is said of it.
other_name : (position : Position) (at name : ℕ) → position (Some name) ≢ at → (wanted : Option ℕ) → (position wanted == at) ≡ true
    → is_name name wanted ≡ false
other_name position at name away None here = refl
other_name position at name away (Some other) here = false_from_ne_true (other == name)
    (λ e. away (ap (λ (n : ℕ). position (Some n)) (sym (eqb-true other name e)) ∙ eqb-true (position (Some other)) at here))

first_unsaid : (name : ℕ) (task : Task) (tasks : List Task) → is_name name (loader_of task.step) ≡ false
    → ((replies : List Reply) → own_said name (said_in tasks replies) ≡ []) → (replies : List Reply)
    → own_said name (said_in (task ∷ tasks) replies) ≡ []
first_unsaid name task tasks other rest [] = refl
first_unsaid name task tasks other rest (reply ∷ replies) = rw other (rest replies)

nothing_said : (position : Position) (at name : ℕ) → position (Some name) ≢ at → (tasks : List Task) (replies : List Reply)
    → own_said name (said_in (filter (λ (task : Task). position (loader_of task.step) == at) tasks) replies) ≡ []
nothing_said position at name away [] replies = refl
nothing_said position at name away (task ∷ tasks) replies =
    elim (position (loader_of task.step) == at) as (λ b. (position (loader_of task.step) == at) ≡ b
    → own_said name
    (said_in (cond b (task ∷ filter (λ (t : Task). position (loader_of t.step) == at) tasks)
    (filter (λ (t : Task). position (loader_of t.step) == at) tasks)) replies) ≡ []) [
      | true ↦ λ here. first_unsaid name task _ (other_name position at name away (loader_of task.step) here)
          (nothing_said position at name away tasks) replies
      | false ↦ λ past. nothing_said position at name away tasks replies
    ] refl

-- Acts of which none names a loader leave it.
works_others : (name : ℕ) (old : List (ℕ × LoaderView)) (acts : List Act) (new : List (ℕ × LoaderView))
    → Works old acts new → own_said name (said_of acts) ≡ [] → named new name ≡ named old name
works_others name old [] new works none = ap (λ (l : List (ℕ × LoaderView)). named l name) works
works_others name old (act ∷ acts) new (mid, one, works) none = elim (names_or_not name (loader_of act.0.0)) [
  | inl its ↦ absurd (cc)
  | inr other ↦
      works_others name mid acts new works
      (sym (ap (λ (b : Bool). cond b (act.0 ∷ own_said name (said_of acts)) (own_said name (said_of acts))) other.1) ∙ none)
      ∙ one.loaders.others name other.0
]

-- A loader isn't begun in a share that its lines don't go to.
pub still_apart : (position : Position) (shares others : List Share) (lines : List Line) → AreApart position shares
    → HaveTasks position shares lines
    → AllWorked lines shares others → AreApart position others
still_apart position shares others lines apart tasks all = λ at done name found away.
    let from = worked_from lines shares others at done all found in
    let acted = from.worked.acted in
    let nothing =
    subst (λ (l : List Task). own_said name (said_in l done.replies.items) ≡ []) (sym (tasks at from.share from.is))
    (nothing_said position at name away (tasks_of lines) done.replies.items) in
    works_others name from.share.loaders acted.acts done.loaders acted.works (ap (own_said name) acted.said_are ∙ nothing)
    ∙ apart at from.share name from.is away

-- There is a share at a position within.
pub share_at : (shares : List Share) (at : ℕ) → at < length shares → (share : Share) × (slice_get shares at ≡ Some share)
share_at [] at within = absurd (omega (arith, within))
share_at (share ∷ shares) zero within = (share, refl)
share_at (share ∷ shares) (suc at) within = share_at shares at (omega (arith, within))

-- Purges that are done where they went are done.
abbrev pub IsDoneIfPurge : Said → Type 0
IsDoneIfPurge s = s.0 ≡ Purge → s.1 ≡ Done

pub purged_all : (wider : Said → Bool) → ((s : Said) → s.0 ≡ Purge → wider s ≡ true) → (said : List Said)
    → AllByRecursion IsDoneIfPurge (filter wider said) → AllByRecursion IsDoneIfPurge said
purged_all wider lets [] all = tt
purged_all wider lets (s ∷ said) all =
    elim (wider s) as (λ b. wider s ≡ b
    → AllByRecursion IsDoneIfPurge (cond b (s ∷ filter wider said) (filter wider said))
    → AllByRecursion IsDoneIfPurge (s ∷ said)) [
      | true ↦ λ goes all. (all.0, purged_all wider lets said all.1)
      | false ↦ λ stays all. ((λ e. let yes = lets s e in absurd (cc)), purged_all wider lets said all)
    ] refl all

-- What holds of all seats holds of the one at a position.
pub seat_at : (P : SeatState → Type 0) (shares : List Share) (at : ℕ) (share : Share)
    → AllByRecursion P (map seat_of shares) → slice_get shares at ≡ Some share → P share.seat
seat_at P [] at share all found = absurd (cc)
seat_at P (x ∷ shares) zero share all found = let same : x ≡ share = cc in
    subst (λ (s : Share). P s.seat) same all.0
seat_at P (x ∷ shares) (suc at) share all found = seat_at P shares at share all.1 found

abbrev pub team_of : Share → List (ℕ × LoaderView)
team_of share = share.loaders

pub loaders_at : (shares : List Share) (at : ℕ) (share : Share) → slice_get shares at ≡ Some share
    → slice_index_or (map team_of shares) at [] ≡ share.loaders
loaders_at [] at share found = absurd (cc)
loaders_at (x ∷ shares) zero share found = let same : x ≡ share = cc in ap team_of same
loaders_at (x ∷ shares) (suc at) share found = loaders_at shares at share found

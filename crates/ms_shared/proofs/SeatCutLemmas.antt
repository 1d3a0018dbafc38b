-- Cutting and joining seats keep the rule of the lock, and it holds of a new lock. For `new`,
-- `hand` and `into_pool`.
use Rattle.std.proofs.Common.{◌≡◌, ℕ, ◌+◌, ◌-◌, ◌%◌, ◌^◌, ◌<◌, [], ◌∷◌, ◌++◌, set, sym, refl, ap, ◌∙◌, arith, zero-add, Some, None}
use Rattle.std.proofs.lemmas.List.{append-nil}
use mathlib.Core.Option.{some, some-ne-none}
use lib.ListN.{get_elem?}
use Rattle.atomic_table.specs.Table.{Splits, Joins, opening}
use Rattle.atomic_table.proofs.Lists.{set_else}
use Rattle.std.proofs.Math.Nat.{mod-eq_of_lt}
use Rattle.ms_base.specs.declared.kind.Space.{Space}
use Rattle.ms_base.specs.declared.kind.Space.TheVariants.{NonClass, Class}
use Rattle.ms_base.specs.State.{Limits}
use Rattle.ms_pool.specs.Tallies.{Tallies, AreTallies, no_tallies}
use Rattle.ms_pool.specs.Ledger.{Ledger, opened_in}
use Rattle.ms_shared.specs.declared.lock_rule.SeatView.{SeatView}
use Rattle.ms_shared.specs.declared.lock_rule.LockView.{LockView}
use Rattle.ms_shared.specs.Entries.{times, AreRecords}
use Rattle.ms_shared.specs.SeatView.{TallyKind, commit_of_take, reserve_of_take, commit_of_grow, room_of_grow}
use Rattle.ms_shared.specs.SeatView.{ids_of_open, tally_of, tallies_of_both, opened_by, knows_limits, knows_all}
use Rattle.ms_shared.specs.SeatView.{knows_both}
use Rattle.ms_shared.specs.LockRule.{IsLocked, Fits, IsIdle, has_pool, count_some, first_view, blank, both, nothing}
use Rattle.ms_shared.specs.LockRule.{no_limits, own_seat, other_seats}
use Rattle.ms_shared.proofs.TotalLemmas.{total_cut, total_joined}
use Rattle.ms_shared.proofs.RecordLemmas.{times-append, records_append, times_fresh, fresh_records, once_given-none}
use Rattle.ms_shared.proofs.StrandLemmas.{front_later}
use Rattle.ms_shared.proofs.LoggedLemmas.{each_set, each_snoc, logged_cut, logged_joined, logged_first}
use Rattle.ms_shared.proofs.LockLemmas.{HasOnly, some_apart}

-- A view cut in two: between them they have all of it.
pub record Cuts (view left right : LockView) : Type 0 where
  pub parts : left.parts + right.parts ≡ view.parts
  pub some_left : 0 < left.parts
  pub some_right : 0 < right.parts
  pub strands : left.strands ++ right.strands ≡ view.strands
  pub times : (owner : ℕ) → times owner left.knows.served + times owner right.knows.served
      ≡ times owner view.knows.served
  pub records : (pool : Ledger) → AreRecords pool view.knows.served
      → AreRecords pool left.knows.served × AreRecords pool right.knows.served
  pub opened : (space : Space) → opened_by left.knows space + opened_by right.knows space ≡ opened_by view.knows space
  pub tallies : (kind : TallyKind) → tally_of kind left.knows.tallies + tally_of kind right.knows.tallies
      ≡ tally_of kind view.knows.tallies
  pub limits_left : left.knows.limits ≡ view.knows.limits
  pub limits_right : right.knows.limits ≡ view.knows.limits
  pub taken_left : left.taken ≡ view.taken
  pub taken_right : right.taken ≡ None

pub cut : (made : ℕ) (first : Ledger) (id : ℕ) (view left right : LockView) → Cuts view left right
    → Splits (IsLocked made first) id view left right
cut made first id view left right cuts state rule at =
    let fits = rule.fits id view at in let some_left = cuts.some_left in let some_right = cuts.some_right in let parts =
    cuts.parts in
    let live : 0 < view.parts = omega arith in let records = cuts.records rule.pool fits.served in
    let left_has : has_pool left ≡ has_pool view = ap count_some cuts.taken_left in let right_has : has_pool right ≡ 0 =
    ap count_some cuts.taken_right in
    let left_fits : Fits rule.pool left =
    record {
      served = records.0;
      limits = λ l. cuts.limits_left ∙ fits.limits live;
      idle = λ z. absurd (omega arith);
    } in
    let right_fits : Fits rule.pool right =
    record {
      served = records.1;
      limits = λ l. cuts.limits_right ∙ fits.limits live;
      idle = λ z. absurd (omega arith);
    } in
    record {
      pool = rule.pool;
      history = logged_cut made first rule.pool state.views id view left right cuts.strands at rule.history;
      word = rule.word;
      bit = rule.bit;
      home = rule.home;
      lock = total_cut has_pool state.views id view left right (omega arith) at ∙ rule.lock;
      free = rule.free;
      out = λ seat w taken t q. each_snoc (HasOnly rule.pool) (set state.views id left) right
          (λ y r. absurd (some_apart y (sym cuts.taken_right ∙ r)))
          (each_set (HasOnly rule.pool) state.views id left (λ y r. rule.out id view y at (sym cuts.taken_left ∙ r))
          (λ other x r differs y q'. rule.out other x y r q')) seat w t taken q;
      fits = each_snoc (Fits rule.pool) (set state.views id left) right right_fits
          (each_set (Fits rule.pool) state.views id left left_fits (λ other x r differs. rule.fits other x r));
      once = λ owner. total_cut (λ (v : LockView). times owner v.knows.served) state.views id view left right
          (cuts.times owner) at ∙ rule.once owner;
      opened = λ space. total_cut (λ (v : LockView). opened_by v.knows space) state.views id view left right
          (cuts.opened space) at ∙ rule.opened space;
      tallies = λ kind. rule.tallies kind
          ∙ ap (λ n. n % 2 ^ 64)
          (sym (total_cut (λ (v : LockView). tally_of kind v.knows.tallies) state.views id view left right
          (cuts.tallies kind) at));
      limits_are = rule.limits_are;
      parts = total_cut (λ (v : LockView). v.parts) state.views id view left right cuts.parts at ∙ rule.parts;
    }

pub tally_of_both : (kind : TallyKind) (tallies others : Tallies)
    → tally_of kind (tallies_of_both tallies others) ≡ tally_of kind tallies + tally_of kind others
tally_of_both commit_of_take tallies others = refl
tally_of_both reserve_of_take tallies others = refl
tally_of_both commit_of_grow tallies others = refl
tally_of_both room_of_grow tallies others = refl
tally_of_both ids_of_open tallies others = refl

pub no_tally : (kind : TallyKind) → tally_of kind no_tallies ≡ 0
no_tally commit_of_take = refl
no_tally reserve_of_take = refl
no_tally commit_of_grow = refl
no_tally room_of_grow = refl
no_tally ids_of_open = refl

pub opened_by_both : (space : Space) (view other : SeatView)
    → opened_by (knows_both view other) space ≡ opened_by view space + opened_by other space
opened_by_both NonClass view other = refl
opened_by_both Class view other = refl

pub none_opened : (space : Space) (limits : Limits) → opened_by (knows_limits limits) space ≡ 0
none_opened NonClass limits = refl
none_opened Class limits = refl

nothing_is_idle : IsIdle nothing
nothing_is_idle =
    record {
      strands = refl;
      served = refl;
      opened = λ space. none_opened space no_limits;
      tallies = no_tally;
      taken = refl;
    }

pub join : (made : ℕ) (first : Ledger) (id other : ℕ) (view w : LockView) → 0 < view.parts → view.taken ≡ None
    → w.taken ≡ None
    → Joins (IsLocked made first) id view other w (both view w) nothing
join made first id other view w live view_free w_free state rule at apart at' =
    let new = both view w in let views = set state.views id new in
    let fits = rule.fits id view at in
    let fits' : Fits rule.pool w = rule.fits other w (sym (set_else state.views id other new apart) ∙ at') in
    let none_before : has_pool view ≡ 0 = ap count_some view_free in let none_other : has_pool w ≡ 0 =
    ap count_some w_free in let none_now : has_pool new ≡ 0 = ap count_some view_free in
    let new_fits : Fits rule.pool new = record {
      served = records_append rule.pool view.knows.served w.knows.served fits.served fits'.served;
      limits = λ l. fits.limits live;
      idle = λ z. absurd (omega arith);
    } in record {
      pool = rule.pool;
      history = logged_joined made first rule.pool state.views id other view w new nothing refl refl at apart at' rule.history;
      word = rule.word;
      bit = rule.bit;
      home = rule.home;
      lock = total_joined has_pool state.views id other view w new nothing (omega arith) at at' ∙ rule.lock;
      free = rule.free;
      out = λ seat x taken t q. each_set (HasOnly rule.pool) views other nothing (λ y r. absurd (some_apart y r))
          (λ index z r differs. each_set (HasOnly rule.pool) state.views id new
          (λ y q'. absurd (some_apart y (sym view_free ∙ q')))
          (λ index' z' r' differs' y q'. rule.out index' z' y r' q') index z r) seat x t taken q;
      fits = each_set (Fits rule.pool) views other nothing
          (record { served = tt; limits = λ l. absurd (omega arith); idle = λ z. nothing_is_idle })
          (λ index z r differs. each_set (Fits rule.pool) state.views id new new_fits
          (λ index' z' r' differs'. rule.fits index' z' r') index z r);
      once = λ owner. total_joined (λ (v : LockView). times owner v.knows.served) state.views id other view w new
          nothing
          (let sum = times-append owner view.knows.served w.knows.served in omega arith) at at' ∙ rule.once owner;
      opened = λ space. total_joined (λ (v : LockView). opened_by v.knows space) state.views id other view w new nothing
          (let sum = opened_by_both space view.knows w.knows in let zero_rest = none_opened space no_limits in
          omega arith) at at' ∙ rule.opened space;
      tallies =
          λ kind. rule.tallies kind
          ∙ ap (λ n. n % 2 ^ 64)
          (sym (total_joined (λ (v : LockView). tally_of kind v.knows.tallies) state.views id other view w new nothing
          (let sum = tally_of_both kind view.knows.tallies w.knows.tallies in let zero_rest = no_tally kind in
          omega arith) at at'));
      limits_are = rule.limits_are;
      parts = total_joined (λ (v : LockView). v.parts) state.views id other view w new nothing (omega arith) at at'
          ∙ rule.parts;
    }

-- Parts that know nothing are cut off, and the others keep all that the view knows.
pub cuts_blank : (view : LockView) (left right : ℕ) → left + right ≡ view.parts → 0 < left → 0 < right
    → Cuts view (record view { parts = left }) (blank right view.knows.limits)
cuts_blank view left right parts some_left some_right = record {
  parts = parts;
  some_left = some_left;
  some_right = some_right;
  strands = append-nil view.strands;
  times = λ owner. omega arith;
  records = λ pool all. (all, tt);
  opened = λ space. let zero_rest = none_opened space view.knows.limits in omega arith;
  tallies = λ kind. let zero_rest = no_tally kind in omega arith;
  limits_left = refl;
  limits_right = refl;
  taken_left = refl;
  taken_right = refl;
}

-- The first number is cut off with all that the view knows, and the others stay together.
pub cuts_seats : (view : LockView) → 2 < view.parts → Cuts view (own_seat view) (other_seats view)
cuts_seats view more =
    let rest = cuts_blank view 2 (view.parts - 2) (omega arith) (omega arith) (omega arith) in record {
      parts = rest.parts;
      some_left = rest.some_left;
      some_right = rest.some_right;
      strands = front_later view.strands;
      times = rest.times;
      records = rest.records;
      opened = rest.opened;
      tallies = rest.tallies;
      limits_left = rest.limits_left;
      limits_right = rest.limits_right;
      taken_left = rest.taken_left;
      taken_right = rest.taken_right;
    }

not_there : (seat : ℕ) (view : LockView) → get_elem? {A = LockView} [] seat ≡ some view → ⊥
not_there seat view at = some-ne-none view (sym at)

tally_fits : (kind : TallyKind) (tallies : Tallies) → AreTallies tallies → tally_of kind tallies < 2 ^ 64
tally_fits commit_of_take tallies fit = fit.take_commit
tally_fits reserve_of_take tallies fit = fit.take_reserve
tally_fits commit_of_grow tallies fit = fit.grow_commit
tally_fits room_of_grow tallies fit = fit.grow_room
tally_fits ids_of_open tallies fit = fit.open_ids

alone_is_sum : (n : ℕ) → n < 2 ^ 64 → n ≡ (0 + n) % 2 ^ 64
alone_is_sum n less = sym (mod-eq_of_lt less) ∙ ap (λ (x : ℕ). x % 2 ^ 64) (sym (zero-add n))

all_opened : (space : Space) (pool : Ledger) → opened_by (knows_all pool) space ≡ opened_in pool space
all_opened NonClass pool = refl
all_opened Class pool = refl

-- The rule holds of a new lock.
pub begins : (made : ℕ) (pool : Ledger) → 0 < made → AreTallies pool.tallies
    → IsLocked made pool (opening (0 ∷ []) (Some pool ∷ []) (first_view made pool))
begins made pool some_seat fit =
    let view = first_view made pool in record {
      pool = pool;
      history = logged_first made pool;
      word = refl;
      bit = omega arith;
      home = refl;
      lock = refl;
      free = λ e. refl;
      out = λ seat w taken t q. each_snoc (HasOnly pool) [] view (λ y r. absurd (some_apart y r))
          (λ other x r. absurd (not_there other x r)) seat w t taken q;
      fits = each_snoc (Fits pool) [] view
          (record {
            served = fresh_records pool 0 pool.given (omega arith);
            limits = λ l. refl;
            idle = λ z. absurd (omega arith);
          })
          (λ other x r. absurd (not_there other x r));
      once = λ owner.
          (let fresh_are = times_fresh pool owner 0 pool.given in let zero_first = once_given-none owner in
          let same = ap (λ n. Rattle.ms_shared.specs.Entries.once_given owner n) (zero-add pool.given) in omega arith);
      opened = λ space. zero-add _ ∙ all_opened space pool;
      tallies = λ kind. alone_is_sum (tally_of kind pool.tallies) (tally_fits kind pool.tallies fit);
      limits_are = refl;
      parts = omega arith;
    }

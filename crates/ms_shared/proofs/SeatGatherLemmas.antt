-- All seats of a lock made one, and the pool that is then in its slot. For `into_pool`.
use Rattle.std.proofs.Common.{◌≡◌, ℕ, ◌+◌, ◌*◌, ◌%◌, ◌^◌, ◌<◌, ◌≤◌, ◌==◌, List, [], ◌∷◌, ◌++◌, length, slice_index, sym, ap, ◌∙◌}
use Rattle.std.proofs.Common.{subst, arith, Option, Some, None}
use Rattle.std.specs.List.{All, sum_by}
use Rattle.std.proofs.lemmas.List.{length-append}
use Rattle.std.proofs.lemmas.List.Elements.{All-nil}
use mathlib.Core.Option.{some, some-injective}
use lib.ListN.{get_elem?}
use Rattle.atomic_table.specs.Table.{Final, Seen}
use Rattle.ms_base.specs.declared.kind.Space.{Space}
use Rattle.ms_pool.specs.Ledger.{Ledger, opened_in}
use Rattle.ms_shared.specs.declared.lock_rule.SeatView.{SeatView}
use Rattle.ms_shared.specs.declared.lock_rule.LockView.{LockView}
use Rattle.ms_shared.specs.Entries.{times, one_if, once_given, AreRecords}
use Rattle.ms_shared.specs.History.{Logged, Chain, events_in, events_of, AreBelow, AreStrands, strands_with}
use Rattle.ms_shared.specs.SeatView.{TallyKind, tally_of, opened_by, knows_both, SeatState, Gathers, IsHistory}
use Rattle.ms_shared.specs.LockRule.{IsLocked, IsIdle, has_pool, count_some, both, some_pool}
use Rattle.ms_shared.proofs.TotalLemmas.{alone, total_popped, none_left, all_pushed}
use Rattle.ms_shared.proofs.RecordLemmas.{times-append, records_front, records_back}
use Rattle.ms_shared.proofs.StrandLemmas.{with_append, strands_front, strands_back}
use Rattle.ms_shared.proofs.SeatCutLemmas.{tally_of_both, opened_by_both}

-- A pool of which one view knows all.
pub record IsAllOf (made : ℕ) (first pool : Ledger) (view : LockView) : Type 0 where
  pub log : List Logged
  pub chain : Chain first (events_in log) pool
  pub numbered : AreBelow made log
  pub own : AreStrands made log view.strands
  pub each_once : (n : ℕ) → n < made → strands_with n view.strands ≡ 1
  pub served : AreRecords pool view.knows.served
  pub once : (owner : ℕ) → times owner view.knows.served ≡ once_given owner pool.given
  pub opened : (space : Space) → opened_in pool space ≡ opened_by view.knows space
  pub tallies : (kind : TallyKind) → tally_of kind pool.tallies ≡ tally_of kind view.knows.tallies % 2 ^ 64
  pub limits_are : pool.limits ≡ first.limits

module _ (made : ℕ) (first : Ledger) where
  settles : (id : ℕ) (view : LockView) (words : List ℕ) (slots : List (Option Ledger)) → view.parts ≡ made * 2
      → view.taken ≡ None
      → Final (Seen (IsLocked made first) id view) words slots
      → (pool : Ledger) × (get_elem? slots 0 ≡ some (Some pool)) × IsAllOf made first pool view
  settles id view words slots all free final =
      let state = final.0 in let rule = final.1.0 in let at = final.1.1 in let made_is = rule.parts in
      let only =
      λ (f : LockView → ℕ) (idle : (w : LockView) → IsIdle w → f w ≡ 0). alone f (λ (w : LockView). w.parts)
      state.views id view
      (λ other w t z. idle w ((rule.fits other w t).idle z)) at (made_is ∙ sym all) in
      let no_lock : sum_by has_pool state.views ≡ has_pool view = only has_pool (λ w idle. ap count_some idle.taken) in
      let word : slice_index state.words 0 ≡ 0 = sym rule.lock ∙ no_lock ∙ ap count_some free in (
        rule.pool,
        final.4 0 (Some rule.pool) (rule.free word),
        record {
          log = rule.history.log;
          chain = rule.history.chain;
          numbered = rule.history.numbered;
          own = rule.history.own id view at;
          each_once = λ n less. sym
              (only (λ (w : LockView). strands_with n w.strands) (λ w idle. ap (strands_with n) idle.strands))
              ∙ rule.history.once n less;
          served = (rule.fits id view at).served;
          once = λ owner. sym
              (only (λ (w : LockView). times owner w.knows.served) (λ w idle. ap (times owner) idle.served))
              ∙ rule.once owner;
          opened = λ space. sym (rule.opened space)
              ∙ only (λ (w : LockView). opened_by w.knows space) (λ w idle. idle.opened space);
          tallies =
              λ kind. rule.tallies kind
              ∙ ap (λ n. n % 2 ^ 64)
              (only (λ (w : LockView). tally_of kind w.knows.tallies) (λ w idle. idle.tallies kind));
          limits_are = rule.limits_are;
        },
      )

  -- What the slot has at the end.
  pub slot_has : (id : ℕ) (view : LockView) (words : List ℕ) (slots : List (Option Ledger)) (slot : Option Ledger)
      → view.parts ≡ made * 2 → view.taken ≡ None
      → Final (Seen (IsLocked made first) id view) words slots → get_elem? slots 0 ≡ some slot
      → (pool : Ledger) × (slot ≡ Some pool) × IsAllOf made first pool view
  slot_has id view words slots slot all free final at =
      let t = settles id view words slots all free final in (t.0, some-injective slot (Some t.0) (sym at ∙ t.1), t.2)

pub same_pool : (made : ℕ) (first : Ledger) (view : LockView) (pool other : Ledger) (slot : Option Ledger) → slot ≡ Some pool
    → slot ≡ Some other → IsAllOf made first pool view
    → IsAllOf made first other view
same_pool made first view pool other slot is is' all =
    subst (λ (p : Ledger). IsAllOf made first p view) (ap some_pool (sym is ∙ is')) all

-- A number that two seats in one have as much of as both.
abbrev pub IsAdditive : (SeatView → ℕ) → Type 0
IsAdditive measure = (view other : SeatView) → measure (knows_both view other) ≡ measure view + measure other

abbrev pub sum_of : (SeatView → ℕ) → List SeatState → ℕ
sum_of measure seats = sum_by (λ (seat : SeatState). measure seat.knows) seats

abbrev pub AllRecords : Ledger → List SeatState → Type 0
AllRecords pool seats = All (λ (seat : SeatState). AreRecords pool seat.knows.served) seats

-- Each seat has just its own events; and how many seats have a number.
abbrev pub HasOwn : List Logged → SeatState → Type 0
HasOwn log seat = seat.events ≡ events_of seat.number log

abbrev pub seats_with : ℕ → List SeatState → ℕ
seats_with n seats = sum_by (λ (seat : SeatState). one_if (seat.number == n)) seats

-- Some of all seats have become one, and the rest are left.
pub record IsGathering (made : ℕ) (all rest : List SeatState) (whole : LockView) : Type 0 where
  pub live : 2 ≤ whole.parts
  pub free : whole.taken ≡ None
  pub parts : whole.parts + length rest * 2 ≡ made * 2
  pub sums : (measure : SeatView → ℕ) → IsAdditive measure
      → measure whole.knows + sum_of measure rest ≡ sum_of measure all
  pub records : (pool : Ledger) → AreRecords pool whole.knows.served → AllRecords pool rest → AllRecords pool all
  pub own : (log : List Logged) → AreStrands made log whole.strands → All (HasOwn log) rest → All (HasOwn log) all
  pub numbers : (n : ℕ) → strands_with n whole.strands + seats_with n rest ≡ seats_with n all

all_more : (pool : Ledger) (old rest : List SeatState) (last : SeatState) → old ≡ rest ++ last ∷ []
    → AreRecords pool last.knows.served → AllRecords pool rest
    → AllRecords pool old
all_more pool old rest last is here others =
    all_pushed (λ (seat : SeatState). AreRecords pool seat.knows.served) rest old last is others here

pub gather_begins : (made : ℕ) (all rest : List SeatState) (last : SeatState) (whole : LockView)
    → all ≡ rest ++ last ∷ [] → length all ≡ made
    → whole.knows ≡ last.knows → whole.strands ≡ (last.number, last.events) ∷ []
    → whole.parts ≡ 2 → whole.taken ≡ None → IsGathering made all rest whole
gather_begins made all rest last whole is count knows strands parts free = record {
  live = omega arith;
  free = free;
  parts = omega (arith, ap length is, length-append rest (last ∷ []));
  sums = λ measure additive. let sum = total_popped (λ (seat : SeatState). measure seat.knows) all rest last is in
      let same = ap measure knows in omega arith;
  records =
      λ pool own others. all_more pool all rest last is
      (subst (λ (view : SeatView). AreRecords pool view.served) knows own) others;
  own = λ log are others. all_pushed (HasOwn log) rest all last is others (subst (AreStrands made log) strands are).1;
  numbers = λ n. let sum = total_popped (λ (seat : SeatState). one_if (seat.number == n)) all rest last is in
      let same : strands_with n whole.strands ≡ one_if (last.number == n) + 0 = ap (strands_with n) strands in omega arith;
}

pub gather_more : (made : ℕ) (all old rest : List SeatState) (seat : SeatState) (whole w new : LockView)
    → IsGathering made all old whole
    → old ≡ rest ++ seat ∷ [] → w.knows ≡ seat.knows → w.strands ≡ (seat.number, seat.events) ∷ [] → w.parts ≡ 2
    → new ≡ both whole w → IsGathering made all rest new
gather_more made all old rest seat whole w new so_far is knows strands parts joined =
    let live = so_far.live in let was = so_far.parts in let now : new.parts ≡ whole.parts + w.parts =
    ap (λ (v : LockView). v.parts) joined in record {
      live = omega arith;
      free = ap (λ (v : LockView). v.taken) joined ∙ so_far.free;
      parts = omega (arith, ap length is, length-append rest (seat ∷ []));
      sums = λ measure additive.
          let sum = total_popped (λ (s : SeatState). measure s.knows) old rest seat is in let same = ap measure knows in
          let sum_was = so_far.sums measure additive in let two = additive whole.knows w.knows in
          let view : measure new.knows ≡ measure (knows_both whole.knows w.knows) =
          ap (λ (v : LockView). measure v.knows) joined in omega arith;
      records = λ pool own others.
          let two : AreRecords pool (whole.knows.served ++ w.knows.served) =
          subst (λ (v : LockView). AreRecords pool v.knows.served) joined own in
          so_far.records pool (records_front pool whole.knows.served w.knows.served two)
          (all_more pool old rest seat is
          (subst (λ (view : SeatView). AreRecords pool view.served) knows
          (records_back pool whole.knows.served w.knows.served two)) others);
      own = λ log are others.
          let two : AreStrands made log (whole.strands ++ w.strands) =
          subst (λ (v : LockView). AreStrands made log v.strands) joined are in
          so_far.own log (strands_front made log whole.strands w.strands two)
          (all_pushed (HasOwn log) rest old seat is others
          (subst (AreStrands made log) strands (strands_back made log whole.strands w.strands two)).1);
      numbers = λ n.
          let sum = total_popped (λ (s : SeatState). one_if (s.number == n)) old rest seat is in
          let same : strands_with n w.strands ≡ one_if (seat.number == n) + 0 = ap (strands_with n) strands in
          let two = with_append n whole.strands w.strands in let was = so_far.numbers n in
          let view : strands_with n new.strands ≡ strands_with n (whole.strands ++ w.strands) =
          ap (λ (v : LockView). strands_with n v.strands) joined in omega arith;
    }

pub gather_ends : (made : ℕ) (first : Ledger) (all : List SeatState) (whole : LockView) (pool : Ledger)
    → IsGathering made all [] whole
    → IsAllOf made first pool whole → Gathers all pool
gather_ends made first all whole pool so_far settled = record {
  served = so_far.records pool settled.served (All-nil (λ (seat : SeatState). AreRecords pool seat.knows.served));
  once = λ owner.
      let sum =
      so_far.sums (λ (view : SeatView). times owner view.served)
      (λ view other. times-append owner view.served other.served) in
      let is = settled.once owner in omega arith;
  opened = λ space. let sum =
      so_far.sums (λ (view : SeatView). opened_by view space) (λ view other. opened_by_both space view other) in
      let is = settled.opened space in omega arith;
  tallies = λ kind.
      let sum =
      so_far.sums (λ (view : SeatView). tally_of kind view.tallies)
      (λ view other. tally_of_both kind view.tallies other.tallies) in
      let same : tally_of kind whole.knows.tallies ≡ sum_of (λ (view : SeatView). tally_of kind view.tallies) all =
      omega arith in
      settled.tallies kind ∙ ap (λ n. n % 2 ^ 64) same;
}

-- The history of all seats.
pub gather_history : (made : ℕ) (first : Ledger) (all : List SeatState) (whole : LockView) (pool : Ledger)
    → length all ≡ made → IsGathering made all [] whole → IsAllOf made first pool whole → IsHistory first all pool
gather_history made first all whole pool count so_far settled = record {
  log = settled.log;
  chain = settled.chain;
  numbered = subst (λ n. AreBelow n settled.log) (sym count) settled.numbered;
  own = so_far.own settled.log settled.own (All-nil (HasOwn settled.log));
  once = λ n less. let one = settled.each_once n (omega arith) in let sum = so_far.numbers n in omega arith;
}

-- No seat is left.
pub record IsGathered (made : ℕ) (all : List SeatState) (whole : LockView) : Type 0 where
  pub parts : whole.parts ≡ made * 2
  pub free : whole.taken ≡ None
  pub seats : IsGathering made all [] whole

pub gather_done : (made : ℕ) (all rest : List SeatState) (whole : LockView) {n : ℕ} → IsGathering made all rest whole
    → n ≡ length rest → n ≡ 0
    → IsGathered made all whole
gather_done made all rest whole so_far count none =
    let empty = none_left rest _ count none in let parts = so_far.parts in record {
      parts = omega (arith, ap length empty);
      free = so_far.free;
      seats = subst (λ (left : List SeatState). IsGathering made all left whole) empty so_far;
    }

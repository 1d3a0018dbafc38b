-- Shares made of the positions, while the first seat has the loaders that are to come. For `deal_to`.
use Rattle.std.proofs.Common.{◌≡◌, ◌≢◌, ◌≤◌, ◌<◌, ◌+◌, ℕ, zero, suc, Some}
use Rattle.std.proofs.Common.{None, List, [], ◌∷◌, ◌++◌, length, refl, sym, ap, ◌∙◌, subst, ◌⊎◌, inl, inr, ⊎_elim}
use Rattle.std.proofs.Common.{arith, drop, get_or, slice_get, vec_len, vec_capacity}
use Rattle.std.specs.List.{All, AllByRecursion}
use Rattle.std.proofs.lemmas.Bool.{cases_lt}
use Rattle.std.proofs.lemmas.List.{length-append}
use Rattle.std.proofs.lemmas.List.Elements.{recursion_from_All, All-from_recursion}
use mathlib.Core.Logic.{dite}
use native.Mathlib.Decide.{ℕ_discrete}
use Rattle.ms_base.specs.Names.{named}
use Rattle.ms_trace.specs.declared.trace.Line.{Line}
use Rattle.ms_shared.specs.Entries.{fresh}
use Rattle.ms_shared.specs.SeatView.{SeatState, LockState}
use Rattle.ms_run.specs.declared.share.Share.{Share}
use Rattle.ms_run.specs.Manned.{IsManned}
use Rattle.ms_run.specs.Shares.{Position, IsReady, tasks_at, tasks_in, AreDealt, AreWithin}
use Rattle.ms_run.specs.Dealing.{Loaded, AreCrews, AreHandedAt, AreSeats, IsSameSeat, AreSpare, IsShareAt}
use Rattle.ms_run.specs.Dealing.{AreSharesFrom, AreDealtTo}

-- Shares are made of the positions from 1 on, while the first seat has the loaders of position 0 and of
-- all that are to come.
pub record IsDealing (position : Position) (shared : LockState) (count : ℕ) (lines : List Line) (loaders : Loaded)
    (first : SeatState) (left : Loaded) (rest : List SeatState) (shares : List Share) : Type 0 where
  pub own : first.id ≡ shared.id
  pub number : first.number ≡ 0
  pub fresh : first.events ≡ []
  pub spare : AreSpare (suc (length shares)) rest
  pub manned : IsManned first.knows left
  pub free : All (λ (seat : SeatState). (seat.id ≡ shared.id) × IsManned seat.knows []) rest
  pub count_is : length shares + length rest + 1 ≡ count
  pub each : AreSharesFrom position shared lines loaders 1 shares
  pub gone : (name : ℕ) → 1 ≤ position (Some name) → position (Some name) ≤ length shares → named left name ≡ None
  pub there : (name : ℕ) → (position (Some name) ≡ 0) ⊎ (length shares < position (Some name))
      → named left name ≡ named loaders name

shares_more : (position : Position) (shared : LockState) (lines : List Line) (loaders : Loaded) (at : ℕ) (shares : List Share)
    (share : Share)
    → AreSharesFrom position shared lines loaders at shares
    → IsShareAt position shared lines loaders (at + length shares) share
    → AreSharesFrom position shared lines loaders at (shares ++ share ∷ [])
shares_more position shared lines loaders at [] share all more =
    let same : at + 0 ≡ at = omega arith in
    (subst (λ (n : ℕ). IsShareAt position shared lines loaders n share) same more, tt)
shares_more position shared lines loaders at (x ∷ shares) share all more =
    let same : at + suc (length shares) ≡ suc at + length shares = omega arith in (
      all.0,
      shares_more position shared lines loaders (suc at) shares share all.1
          (subst (λ (n : ℕ). IsShareAt position shared lines loaders n share) same more),
    )

-- The share of a position that was made of its seat and loaders.
pub record IsMade (position : Position) (lines : List Line) (at : ℕ) (seat : SeatState) (loaders : Loaded)
    (share : Share) : Type 0 where
  pub seat_is : share.seat ≡ seat
  pub loaders_are : share.loaders ≡ loaders
  pub tasks : tasks_in lines share ≡ tasks_at position at lines
  pub room : vec_len share.indices ≤ vec_capacity share.replies
  pub none : share.replies.items ≡ []

is_ready : (position : Position) (shared : LockState) (lines : List Line) (at : ℕ) (seat : SeatState) (loaders : Loaded)
    (share : Share) → IsMade position lines at seat loaders share
    → seat.id ≡ shared.id → seat.events ≡ [] → IsManned seat.knows loaders → IsReady shared share
is_ready position shared lines at seat loaders share made own fresh manned = record {
  own = ap (λ (s : SeatState). s.id) made.seat_is ∙ own;
  fresh = ap (λ (s : SeatState). s.events) made.seat_is ∙ fresh;
  manned = rw (ap (λ (s : SeatState). s.knows) made.seat_is, made.loaders_are) manned;
  room = made.room;
  none = made.none;
}

pub same_then : (old mid new : SeatState) → IsSameSeat old mid → IsSameSeat mid new → IsSameSeat old new
same_then old mid new first second =
    record { number = second.number ∙ first.number; events = second.events ∙ first.events }

pub dealing_on : (position : Position) (shared : LockState) (count : ℕ) (lines : List Line) (loaders : Loaded)
    (first first' : SeatState) (left left' : Loaded)
    (seat : SeatState) (others : Loaded) (next : SeatState) (rest : List SeatState) (shares shares' : List Share)
    (share : Share) (at : ℕ)
    → IsDealing position shared count lines loaders first left (next ∷ rest) shares → at ≡ length shares + 1
    → AreCrews shared first' left' seat others → IsSameSeat first first' → IsSameSeat next seat → AreHandedAt position at left left' others
    → IsMade position lines at seat others share → shares' ≡ shares ++ share ∷ []
    → IsDealing position shared count lines loaders first' left' rest shares'
dealing_on position shared count lines loaders first first' left left' seat others next rest shares shares' share at its
    at_is crews same same' handed made added = record {
      own = crews.own;
      number = same.number ∙ its.number;
      fresh = same.events ∙ its.fresh;
      spare = subst (λ (n : ℕ). AreSpare (suc n) rest) more its.spare.2;
      manned = crews.beside.manned;
      free = All-from_recursion (λ (s : SeatState). (s.id ≡ shared.id) × IsManned s.knows []) rest
          (recursion_from_All (λ (s : SeatState). (s.id ≡ shared.id) × IsManned s.knows []) (next ∷ rest) its.free).1;
      count_is = omega (arith, its.count_is, long);
      each = subst (AreSharesFrom position shared lines loaders 1) (sym added)
          (shares_more position shared lines loaders 1 shares share its.each
          (subst (λ (n : ℕ). IsShareAt position shared lines loaders n share) there_is is_there));
      gone = λ name low up. dite (ℕ_discrete (position (Some name)) at) (λ is. (handed.here name is).1)
          (λ differs. (handed.apart name differs).1 ∙ its.gone name low (below name up differs));
      there = λ name cases. (handed.apart name (elsewhere name cases)).1
          ∙ its.there name (⊎_elim (λ none. inl none) (λ above. inr (omega (arith, above, long))) cases);
    }
  where
    long : length shares' ≡ length shares + 1
    long = ap length added ∙ length-append shares (share ∷ [])

    more : suc (length shares) ≡ length shares'
    more = omega (arith, long)

    there_is : at ≡ 1 + length shares
    there_is = omega (arith, at_is)

    below : (name : ℕ) → position (Some name) ≤ length shares' → position (Some name) ≢ at → position (Some name) ≤ length shares
    below name up differs = ⊎_elim (λ over. absurd (differs (omega (arith, up, long, at_is, over)))) (λ y. y)
        (cases_lt (length shares) (position (Some name)))

    elsewhere : (name : ℕ) → (position (Some name) ≡ 0) ⊎ (length shares' < position (Some name)) → position (Some name) ≢ at
    elsewhere name (inl none) is = omega (arith, none, is, at_is)
    elsewhere name (inr above) is = omega (arith, above, is, at_is, long)

    is_there : IsShareAt position shared lines loaders at share
    is_there = record {
      ready = is_ready position shared lines at seat others share made crews.to_own (same'.events ∙ its.spare.1)
          crews.beside.to_manned;
      number = ap (λ (s : SeatState). s.number) made.seat_is ∙ same'.number ∙ its.spare.0 ∙ omega (arith, at_is);
      apart = λ name differs. ap (λ (l : Loaded). named l name) made.loaders_are ∙ (handed.apart name differs).0;
      here = λ name is. ap (λ (l : Loaded). named l name) made.loaders_are ∙ (handed.here name is).0
          ∙ its.there name (inr (omega (arith, is, at_is)));
      tasks = made.tasks;
    }

pub dealing_ends : (position : Position) (shared : LockState) (count : ℕ) (lines : List Line) (loaders : Loaded)
    (first : SeatState) (left : Loaded) (rest : List SeatState)
    (shares shares' : List Share) (share : Share) → rest ≡ []
    → IsDealing position shared count lines loaders first left rest shares → IsMade position lines 0 first left share
    → shares' ≡ share ∷ shares → AreDealtTo position shared count lines loaders shares'
dealing_ends position shared count lines loaders first left rest shares shares' share nothing its made added =
    rw added (record {
      count_is = omega (arith, its.count_is, ap length nothing);
      each = λ within. (
        record {
          ready = is_ready position shared lines 0 first left share made its.own its.fresh its.manned;
          number = ap (λ (s : SeatState). s.number) made.seat_is ∙ its.number;
          apart = λ name differs. ap (λ (l : Loaded). named l name) made.loaders_are
              ∙ its.gone name (some (position (Some name)) differs)
              (omega (arith, within name, its.count_is, ap length nothing));
          here = λ name is. ap (λ (l : Loaded). named l name) made.loaders_are ∙ its.there name (inl is);
          tasks = made.tasks;
        },
        its.each,
      );
    })
  where
    some : (n : ℕ) → n ≢ 0 → 1 ≤ n
    some zero differs = absurd (differs refl)
    some (suc n) differs = omega arith

pub dealing_starts : (position : Position) (shared : LockState) (count : ℕ) (lines : List Line) (loaders : Loaded)
    (seats : List SeatState)
    (first : SeatState) (rest : List SeatState) (shares : List Share) → AreSeats shared seats loaders
    → first ≡ get_or seats 0 first → rest ≡ drop 1 seats → length seats ≡ count → shares ≡ []
    → IsDealing position shared count lines loaders first loaders rest shares
dealing_starts position shared count lines loaders seats first rest shares its first_is rest_are count_is nothing =
    rw nothing (record {
      own = ap (λ (s : SeatState). s.id) same.0 ∙ its.own;
      number = ap (λ (s : SeatState). s.number) same.0 ∙ its.spare.0;
      fresh = ap (λ (s : SeatState). s.events) same.0 ∙ its.spare.1;
      spare = subst (AreSpare 1) (sym same.1) its.spare.2;
      manned = subst (λ (s : SeatState). IsManned s.knows loaders) (sym same.0) its.manned;
      free = subst (λ (l : List SeatState). All (λ (s : SeatState). (s.id ≡ shared.id) × IsManned s.knows []) l)
          (sym same.1) its.free;
      count_is = omega (arith, ap length its.are, ap length same.1, count_is);
      each = tt;
      gone = λ name low up. absurd (omega (arith, low, up));
      there = λ name cases. refl;
    })
  where
    same : (first ≡ its.first) × (rest ≡ its.others)
    same = (
      first_is ∙ ap (λ (l : List SeatState). get_or l 0 first) its.are,
      rest_are
          ∙ ap (λ (l : List SeatState). drop 1 l) its.are,
    )

-- The share at each position.
share_at : (position : Position) (shared : LockState) (lines : List Line) (loaders : Loaded) (from : ℕ) (shares : List Share)
    (at : ℕ) (share : Share)
    → AreSharesFrom position shared lines loaders from shares → slice_get shares at ≡ Some share
    → IsShareAt position shared lines loaders (from + at) share
share_at position shared lines loaders from [] at share all found = absurd (cc)
share_at position shared lines loaders from (x ∷ shares) zero share all found =
    let same : from ≡ from + 0 = omega arith in
    let is : x ≡ share = cc in
    subst (λ (n : ℕ). IsShareAt position shared lines loaders n share) same
    (subst (IsShareAt position shared lines loaders from) is all.0)
share_at position shared lines loaders from (x ∷ shares) (suc at) share all found =
    let same : suc from + at ≡ from + suc at = omega arith in
    subst (λ (n : ℕ). IsShareAt position shared lines loaders n share) same
    (share_at position shared lines loaders (suc from) shares at share all.1 found)

all_ready : (position : Position) (shared : LockState) (lines : List Line) (loaders : Loaded) (from : ℕ) (shares : List Share)
    → AreSharesFrom position shared lines loaders from shares → AllByRecursion (IsReady shared) shares
all_ready position shared lines loaders from [] all = tt
all_ready position shared lines loaders from (x ∷ shares) all =
    (all.0.ready, all_ready position shared lines loaders (suc from) shares all.1)

pub are_dealt : (position : Position) (shared : LockState) (count : ℕ) (lines : List Line) (loaders : Loaded)
    (shares : List Share)
    → AreDealtTo position shared count lines loaders shares → AreWithin position count → shared.seats ≡ count
    → AreDealt position shared shares lines loaders
are_dealt position shared count lines loaders shares its within seats = record {
  ready = All-from_recursion (IsReady shared) shares (all_ready position shared lines loaders 0 shares all);
  count = seats ∙ sym its.count_is;
  within = λ name. omega (arith, within name, its.count_is);
  apart = λ at share name found. (one at share found).apart name;
  here = λ at share name found. (one at share found).here name;
  tasks = λ at share found. (one at share found).tasks;
  numbers = λ at share found. (one at share found).number;
}
  where
    all : AreSharesFrom position shared lines loaders 0 shares
    all = its.each (λ name. within (Some name))

    one : (at : ℕ) (share : Share) → slice_get shares at ≡ Some share → IsShareAt position shared lines loaders at share
    one at share found = let same : 0 + at ≡ at = omega arith in
        subst (λ (n : ℕ). IsShareAt position shared lines loaders n share) same
        (share_at position shared lines loaders 0 shares at share all found)

-- The next seat is of the lock and serves nothing.
pub next_free : (position : Position) (shared : LockState) (count : ℕ) (lines : List Line) (loaders : Loaded)
    (first : SeatState) (left : Loaded)
    (next : SeatState) (rest others : List SeatState) (shares : List Share) → rest ≡ next ∷ others
    → IsDealing position shared count lines loaders first left rest shares
    → (next.id ≡ shared.id) × IsManned next.knows []
next_free position shared count lines loaders first left next rest others shares are its =
    (recursion_from_All (λ (s : SeatState). (s.id ≡ shared.id) × IsManned s.knows []) (next ∷ others)
    (subst (λ (l : List SeatState). All (λ (s : SeatState). (s.id ≡ shared.id) × IsManned s.knows []) l) are
    its.free)).0

-- An account handed on: the seats are cut and joined, and each knows what it is to. For `hand`.
use Rattle.std.proofs.Common.{◌≡◌, ◌≢◌, inl, inr, ⊎_elim, ℕ, ◌+◌, ◌<◌, ◌==◌, Bool, true, false, not, cond, List, []}
use Rattle.std.proofs.Common.{◌∷◌, ◌++◌, refl, sym, ap, ◌∙◌, arith, eq-eqb, ne_eqb}
use Rattle.std.proofs.lemmas.List.{append-nil}
use Rattle.atomic_table.specs.Seated.{TableId}
use Rattle.ms_base.specs.declared.kind.Space.{Space}
use Rattle.ms_base.specs.declared.kind.Space.TheVariants.{NonClass, Class}
use Rattle.ms_base.specs.declared.span.Chunk.{Chunk}
use Rattle.ms_base.specs.State.{Limits}
use Rattle.ms_pool.specs.Account.{AccountState}
use Rattle.ms_pool.specs.Tallies.{Tallies, no_tallies}
use Rattle.ms_shared.specs.declared.lock_rule.SeatView.{SeatView}
use Rattle.ms_shared.specs.declared.lock_rule.LockView.{LockView}
use Rattle.ms_shared.specs.Entries.{Entry, Has, only, all_but}
use Rattle.ms_shared.specs.SeatView.{ServesBy, HandsOn, opened_by, tallies_of_both, knows_limits, knows_both}
use Rattle.ms_shared.specs.SeatView.{without_account, account_alone, with_account, seat_with, seat_of}
use Rattle.ms_shared.specs.LockRule.{Sat, both, view_without, note_of, less_part, spare_part}
use Rattle.ms_shared.proofs.SeatCutLemmas.{Cuts, no_tally}
use Rattle.ms_shared.proofs.RecordLemmas.{times_cut, records_cut, has_left, has_right}
use Rattle.ms_shared.specs.History.{first_strand}
use Rattle.ms_shared.proofs.SeatDealLemmas.{seen_as}

opened_cut : (owner : ℕ) (space one : Space) (view : SeatView) → 0 < opened_by view space
    → opened_by (without_account owner space view) one + opened_by (account_alone owner space view) one
    ≡ opened_by view one
opened_cut owner NonClass NonClass view some = omega arith
opened_cut owner NonClass Class view some = omega arith
opened_cut owner Class NonClass view some = omega arith
opened_cut owner Class Class view some = omega arith

-- An account is cut off.
pub cuts_account : (owner : ℕ) (space : Space) (view : LockView) → 1 < view.parts → 0 < opened_by view.knows space
    → Cuts view (view_without owner space view) (note_of owner space view)
cuts_account owner space view more some = record {
  parts = omega arith;
  some_left = omega arith;
  some_right = omega arith;
  strands = append-nil view.strands;
  times = λ other. times_cut owner other view.knows.served;
  records = λ pool all. records_cut pool owner view.knows.served all;
  opened = λ one. opened_cut owner space one view.knows some;
  tallies = λ kind. let none = no_tally kind in omega arith;
  limits_left = refl;
  limits_right = refl;
  taken_left = refl;
  taken_right = refl;
}

and_none : (n : ℕ) → n + 0 ≡ n
and_none n = omega arith

tallies_and_none : (tallies : Tallies) → tallies_of_both tallies no_tallies ≡ tallies
tallies_and_none tallies = λ i. record {
  take_commit = and_none tallies.take_commit i;
  take_reserve = and_none tallies.take_reserve i;
  grow_commit = and_none tallies.grow_commit i;
  grow_room = and_none tallies.grow_room i;
  open_ids = and_none tallies.open_ids i;
}

both_and_none : (view : SeatView) (limits : Limits) → knows_both view (knows_limits limits) ≡ view
both_and_none view limits = λ i. record {
  served = append-nil view.served i;
  opened = and_none view.opened i;
  class_opened = and_none view.class_opened i;
  tallies = tallies_and_none view.tallies i;
  limits = view.limits;
}

both_and_account : (owner : ℕ) (space : Space) (from view : SeatView)
    → knows_both view (account_alone owner space from) ≡ with_account owner space from view
both_and_account owner NonClass from view = λ i. record {
  served = view.served ++ only owner from.served;
  opened = view.opened + 1;
  class_opened = and_none view.class_opened i;
  tallies = tallies_and_none view.tallies i;
  limits = view.limits;
}
both_and_account owner Class from view = λ i. record {
  served = view.served ++ only owner from.served;
  opened = and_none view.opened i;
  class_opened = view.class_opened + 1;
  tallies = tallies_and_none view.tallies i;
  limits = view.limits;
}

-- What callers see of the seats.
pub from_is : (id id' : TableId) (me : Sat) (from to : LockView) (owner : ℕ) (space : Space) → id' ≡ id
    → me ≡ (both (view_without owner space from) (spare_part to), [])
    → seat_of id' me.0 ≡ seat_with id (first_strand from.strands) (without_account owner space from.knows)
from_is id id' me from to owner space same is =
    seen_as id id' (first_strand from.strands) (without_account owner space from.knows) me.0 same
    (ap (λ (m : Sat). first_strand m.0.strands) is ∙ ap first_strand (append-nil from.strands))
    (ap (λ (m : Sat). m.0.knows) is ∙ both_and_none (without_account owner space from.knows) to.knows.limits)

pub to_is : (id id' : TableId) (me : Sat) (from to : LockView) (owner : ℕ) (space : Space) → id' ≡ id
    → me ≡ (less_part (both to (note_of owner space from)), [])
    → seat_of id' me.0 ≡ seat_with id (first_strand to.strands) (with_account owner space from.knows to.knows)
to_is id id' me from to owner space same is =
    seen_as id id' (first_strand to.strands) (with_account owner space from.knows to.knows) me.0 same
    (ap (λ (m : Sat). first_strand m.0.strands) is ∙ ap first_strand (append-nil to.strands))
    (ap (λ (m : Sat). m.0.knows) is ∙ both_and_account owner space from.knows to.knows)

has_only : (owner : ℕ) (xs : List Entry) (chunks : List Chunk) → Has xs owner chunks → Has (only owner xs) owner chunks
has_only owner [] chunks here = absurd here
has_only owner (x ∷ xs) chunks here =
    ⊎_elim
    (λ is. let same : x.0 ≡ owner = ap (λ (entry : Entry). entry.0) is in rw (eq-eqb x.0 owner same) (inl is))
    (λ there. step (x.0 == owner) (has_only owner xs chunks there)) here
  where
    step : (b : Bool) → Has (only owner xs) owner chunks → Has (cond b (x ∷ only owner xs) (only owner xs)) owner chunks
    step true rest = inr rest
    step false rest = rest

has_all_but : (owner other : ℕ) → other ≢ owner → (xs : List Entry) (chunks : List Chunk) → Has xs other chunks
    → Has (all_but owner xs) other chunks
has_all_but owner other differs [] chunks here = absurd here
has_all_but owner other differs (x ∷ xs) chunks here =
    ⊎_elim
    (λ is.
    let same : x.0 ≡ other = ap (λ (entry : Entry). entry.0) is in
    rw (ne_eqb x.0 owner (λ q. differs (sym same ∙ q))) (inl is))
    (λ there. step (x.0 == owner) (has_all_but owner other differs xs chunks there)) here
  where
    step : (b : Bool) → Has (all_but owner xs) other chunks
        → Has (cond (not b) (x ∷ all_but owner xs) (all_but owner xs)) other chunks
    step true rest = rest
    step false rest = inr rest

-- The account is the other seat's from then on, and no other account changes its seat.
pub handed_serves : (from to : SeatView) (account : AccountState) → ServesBy from account
    → ServesBy (with_account account.owner account.space from to) account
handed_serves from to account serves = record {
  chunks = serves.chunks;
  entry = has_right to.served (only account.owner from.served) account.owner serves.chunks
      (has_only account.owner from.served serves.chunks serves.entry);
  same = serves.same;
}

pub left_serves : (from : SeatView) (owner : ℕ) (space : Space) (other : AccountState) → other.owner ≢ owner
    → ServesBy from other
    → ServesBy (without_account owner space from) other
left_serves from owner space other differs serves = record {
  chunks = serves.chunks;
  entry = has_all_but owner other.owner differs from.served serves.chunks serves.entry;
  same = serves.same;
}

pub taker_serves : (from to : SeatView) (owner : ℕ) (space : Space) (other : AccountState) → ServesBy to other
    → ServesBy (with_account owner space from to) other
taker_serves from to owner space other serves = record {
  chunks = serves.chunks;
  entry = has_left to.served (only owner from.served) other.owner serves.chunks serves.entry;
  same = serves.same;
}

taker_counts : (from to : SeatView) (owner : ℕ) (space : Space)
    → opened_by (with_account owner space from to) space ≡ opened_by to space + 1
taker_counts from to owner NonClass = refl
taker_counts from to owner Class = refl

left_counts : (from : SeatView) (owner : ℕ) (space : Space) → 0 < opened_by from space
    → opened_by (without_account owner space from) space + 1 ≡ opened_by from space
left_counts from owner NonClass some = omega arith
left_counts from owner Class some = omega arith

pub hands_on : (from to left taker : SeatView) (account : AccountState)
    → left ≡ without_account account.owner account.space from
    → taker ≡ with_account account.owner account.space from to → ServesBy from account
    → 0 < opened_by from account.space
    → HandsOn from to account left taker
hands_on from to left taker account left_is taker_is serves some = rw (left_is, taker_is) (record {
  served = handed_serves from to account serves;
  others = λ other differs its. left_serves from account.owner account.space other differs its;
  to_others = λ other its. taker_serves from to account.owner account.space other its;
  counted = taker_counts from to account.owner account.space;
  from_counted = left_counts from account.owner account.space some;
})

-- What the seats are, once one has joined a part and the other has lost one.
pub gives : (left part given : Sat) (kept spare : LockView) → given ≡ (both left.0 part.0, left.1) → left.0 ≡ kept
    → part.0 ≡ spare → left.1 ≡ [] → given ≡ (both kept spare, [])
gives left part given kept spare is left_is part_is none = is ∙ (λ i. (both (left_is i) (part_is i), none i))

pub takes : (old note joined taker : Sat) (noted : LockView) → taker ≡ (less_part joined.0, joined.1)
    → joined ≡ (both old.0 note.0, old.1) → note.0 ≡ noted → old.1 ≡ []
    → taker ≡ (less_part (both old.0 noted), [])
takes old note joined taker noted is joined_is note_is none =
    is ∙ ap (λ (m : Sat). (less_part m.0, m.1)) joined_is ∙ (λ i. (less_part (both old.0 (note_is i)), none i))

-- What each call on the pool changes is what the seat that has it may change: records of owners
-- that it serves, counts that it has, and tallies by one. For the calls over the lock.
use Rattle.std.proofs.Common.{◌≡◌, ◌≢◌, ℕ, ◌+◌, ◌<◌, ◌≤◌, ◌⊎◌, inl, inr, Bool, refl, sym, ap, subst, arith, eq-eqb}
use Rattle.std.proofs.Common.{ne_eqb}
use Rattle.std.specs.Prelude.{Result, Ok, Err}
use Rattle.ms_base.specs.declared.kind.Space.{Space}
use Rattle.ms_base.specs.declared.kind.Space.TheVariants.{NonClass, Class}
use Rattle.ms_base.specs.declared.span.Chunk.{Chunk}
use Rattle.ms_base.specs.declared.span.Span.{Span}
use Rattle.ms_base.specs.declared.refusal.Refusal.{Refusal}
use Rattle.ms_base.specs.declared.refusal.Refusal.TheVariants.{CommitLimit, ReserveLimit, OutOfMemory, NoRoom}
use Rattle.ms_pool.specs.Account.{AccountState}
use Rattle.ms_pool.specs.Tallies.{Tallies, one_more}
use Rattle.ms_pool.specs.Ledger.{Ledger, opened_in, with_opened}
use Rattle.ms_pool.specs.Calls.{Opened, OpenedBoth, ClosedBoth, Purged, Took, GrewFrom, Grew, Closed}
use Rattle.ms_pool.proofs.ledger.KeepsLemmas.{Keeps}
use Rattle.ms_pool.proofs.ledger.ClosedLemmas.{KeepsAll, opened_keeps, both_opened_keeps, purged_keeps, ClosesWell}
use Rattle.ms_pool.proofs.ledger.ClosedLemmas.{ClosesBothWell}
use Rattle.ms_shared.specs.declared.lock_rule.SeatView.{SeatView}
use Rattle.ms_shared.specs.Entries.{times}
use Rattle.ms_shared.specs.SeatView.{TallyKind, commit_of_take, reserve_of_take, commit_of_grow, room_of_grow}
use Rattle.ms_shared.specs.SeatView.{ids_of_open, tally_of, raise, raised_with, tallies_after, opened_by}
use Rattle.ms_shared.specs.LockRule.{Moves}

-- No tally changes, or the one of a kind is raised.
pub raised_kind : (kind one : TallyKind) (tallies : Tallies)
    → (tally_of one (raise kind tallies) ≡ tally_of one tallies)
    ⊎ (tally_of one (raise kind tallies) ≡ one_more (tally_of one tallies))
raised_kind commit_of_take commit_of_take tallies = inr refl
raised_kind reserve_of_take reserve_of_take tallies = inr refl
raised_kind commit_of_grow commit_of_grow tallies = inr refl
raised_kind room_of_grow room_of_grow tallies = inr refl
raised_kind ids_of_open ids_of_open tallies = inr refl
raised_kind _ _ tallies = inl refl

-- Each tally stays or is raised by one.
abbrev pub Rise : Ledger → Ledger → Type 0
Rise old new = (kind : TallyKind)
    → (tally_of kind new.tallies ≡ tally_of kind old.tallies)
    ⊎ (tally_of kind new.tallies ≡ one_more (tally_of kind old.tallies))

pub same_rise : (old new : Ledger) → new.tallies ≡ old.tallies → Rise old new
same_rise old new same kind = inl (ap (tally_of kind) same)

pub raised_rise : (raised : TallyKind) (old new : Ledger) → new.tallies ≡ raise raised old.tallies → Rise old new
raised_rise raised old new is =
    subst (λ (t : Tallies). (kind : TallyKind)
    → (tally_of kind t ≡ tally_of kind old.tallies) ⊎ (tally_of kind t ≡ one_more (tally_of kind old.tallies)))
    (sym is) (λ kind. raised_kind raised kind old.tallies)

-- What a seat's tallies become where the pool's stay, and where one of them is raised.
not_raised : (before tally : ℕ) → raised_with before before tally ≡ tally
not_raised before tally = rw (eq-eqb before before refl) refl

is_raised : (before tally : ℕ) → raised_with before (one_more before) tally ≡ one_more tally
is_raised before tally = rw (ne_eqb (one_more before) before (λ same. absurd (never before same))) refl
  where
    never : (n : ℕ) → one_more n ≡ n → ⊥
    never n same = omega arith

pub tallies_stay : (before tallies : Tallies) → tallies_after before before tallies ≡ tallies
tallies_stay before tallies = λ i. record {
  take_commit = not_raised before.take_commit tallies.take_commit i;
  take_reserve = not_raised before.take_reserve tallies.take_reserve i;
  grow_commit = not_raised before.grow_commit tallies.grow_commit i;
  grow_room = not_raised before.grow_room tallies.grow_room i;
  open_ids = not_raised before.open_ids tallies.open_ids i;
}

pub tallies_rise : (kind : TallyKind) (before tallies : Tallies)
    → tallies_after before (raise kind before) tallies ≡ raise kind tallies
tallies_rise commit_of_take before tallies =
    λ i. record (tallies_stay before tallies i) { take_commit = is_raised before.take_commit tallies.take_commit i }
tallies_rise reserve_of_take before tallies =
    λ i. record (tallies_stay before tallies i) { take_reserve = is_raised before.take_reserve tallies.take_reserve i }
tallies_rise commit_of_grow before tallies =
    λ i. record (tallies_stay before tallies i) { grow_commit = is_raised before.grow_commit tallies.grow_commit i }
tallies_rise room_of_grow before tallies =
    λ i. record (tallies_stay before tallies i) { grow_room = is_raised before.grow_room tallies.grow_room i }
tallies_rise ids_of_open before tallies =
    λ i. record (tallies_stay before tallies i) { open_ids = is_raised before.open_ids tallies.open_ids i }

-- A call that changes the records of one owner alone.
pub kept_moves : (view : SeatView) (owner : ℕ) (old new : Ledger) → 0 < times owner view.served → Keeps owner old new
    → Rise old new → Moves view old new
kept_moves view owner old new own keeps rise = let given = keeps.given in record {
  given = omega arith;
  others = λ other none. keeps.others other
      (λ same. let some : 0 < times other view.served = subst (λ (o : ℕ). 0 < times o view.served) (sym same) own in
      absurd (omega arith));
  counted = λ space. let same : opened_in new space ≡ opened_in old space =
      ap (λ (f : Space → ℕ). f space) keeps.opened in omega arith;
  limits = keeps.limits;
  tallies = rise;
}

-- A call that changes no owner's records.
pub all_moves : (view : SeatView) (old new : Ledger) → KeepsAll old new → old.given ≤ new.given
    → ((space : Space) → opened_in old space ≤ opened_in new space)
    → new.limits ≡ old.limits → Rise old new → Moves view old new
all_moves view old new keeps given counted limits rise = record {
  given = given;
  others = λ owner none. keeps owner;
  counted = λ space. let more = counted space in omega arith;
  limits = limits;
  tallies = rise;
}

-- Take.
pub take_tallies : (old : Ledger) (account : AccountState) (wanted most words : ℕ) (result : Result Span Refusal)
    (new : Ledger)
    → Took old account wanted most words result new → Rise old new
take_tallies old account wanted most words (Ok span) new lends =
    same_rise old new (ap (λ (l : Ledger). l.tallies) lends.after)
take_tallies old account wanted most words (Err (CommitLimit committed limit need)) new refused =
    raised_rise commit_of_take old new (ap (λ (l : Ledger). l.tallies) refused.1)
take_tallies old account wanted most words (Err (ReserveLimit nodes limit)) new refused =
    raised_rise reserve_of_take old new (ap (λ (l : Ledger). l.tallies) refused.1)
take_tallies old account wanted most words (Err OutOfMemory) new refused =
    same_rise old new (ap (λ (l : Ledger). l.tallies) refused.1)
take_tallies old account wanted most words (Err _) new refused = absurd refused

-- Grow.
grow_tallies : (old : Ledger) (account : AccountState) (chunk : Chunk) (total : ℕ) (may_enlarge : Bool)
    (result : Result Span Refusal) (new : Ledger)
    → GrewFrom old account chunk total may_enlarge result new → Rise old new
grow_tallies old account chunk total may_enlarge (Ok span) new grown =
    same_rise old new (ap (λ (l : Ledger). l.tallies) grown.3)
grow_tallies old account chunk total may_enlarge (Err (CommitLimit committed limit need)) new refused =
    raised_rise commit_of_grow old new (ap (λ (l : Ledger). l.tallies) refused.1)
grow_tallies old account chunk total may_enlarge (Err (NoRoom level)) new refused =
    raised_rise room_of_grow old new (ap (λ (l : Ledger). l.tallies) refused.1)
grow_tallies old account chunk total may_enlarge (Err _) new refused = absurd refused

pub grew_tallies : (old : Ledger) (account : AccountState) (start total : ℕ) (may_enlarge : Bool)
    (result : Result Span Refusal) (new : Ledger)
    → Grew old account start total may_enlarge result new → Rise old new
grew_tallies old account start total may_enlarge result new grew =
    grow_tallies old account grew.chunk total may_enlarge result new grew.after

-- Open.
opened_more : (space one : Space) (old : Ledger) → opened_in old one ≤ opened_in (with_opened old space) one
opened_more NonClass NonClass old = omega arith
opened_more NonClass Class old = omega arith
opened_more Class NonClass old = omega arith
opened_more Class Class old = omega arith

pub open_moves : (view : SeatView) (old : Ledger) (space : Space) (result : Result AccountState Refusal) (new : Ledger)
    → Opened old space result new → Moves view old new
open_moves view old space (Ok account) new opened =
    let given : new.given ≡ old.given + 1 = ap (λ (l : Ledger). l.given) opened.1 in
    all_moves view old new (opened_keeps old space (Ok account) new opened) (omega arith)
    (λ one. subst (λ (l : Ledger). opened_in old one ≤ opened_in l one) (sym opened.1) (opened_more space one old))
    (ap (λ (l : Ledger). l.limits) opened.1) (same_rise old new (ap (λ (l : Ledger). l.tallies) opened.1))
open_moves view old space (Err refusal) new refused =
    let given : new.given ≡ old.given = ap (λ (l : Ledger). l.given) refused.2 in
    all_moves view old new (opened_keeps old space (Err refusal) new refused) (omega arith)
    (λ one. let same : opened_in new one ≡ opened_in old one = ap (λ (l : Ledger). opened_in l one) refused.2 in
    omega arith)
    (ap (λ (l : Ledger). l.limits) refused.2)
    (raised_rise ids_of_open old new (ap (λ (l : Ledger). l.tallies) refused.2))

-- Close.
one_less : (view : SeatView) (old new : Ledger) (space one : Space) → 0 < opened_by view space
    → opened_in new space + 1 ≡ opened_in old space
    → ((other : Space) → other ≢ space → opened_in new other ≡ opened_in old other)
    → opened_in old one ≤ opened_by view one + opened_in new one
one_less view old new NonClass NonClass some counted elsewhere = omega arith
one_less view old new NonClass Class some counted elsewhere = let same = elsewhere Class (λ q. absurd (cc)) in
    omega arith
one_less view old new Class NonClass some counted elsewhere = let same = elsewhere NonClass (λ q. absurd (cc)) in
    omega arith
one_less view old new Class Class some counted elsewhere = omega arith

pub close_moves : (view : SeatView) (old : Ledger) (account : AccountState) (new : Ledger)
    → 0 < times account.owner view.served → 0 < opened_by view account.space
    → ClosesWell old account new → Closed old account new → Moves view old new
close_moves view old account new own some well closed = let given = well.given in record {
  given = omega arith;
  others = λ other none. well.chunks other
      (λ same. let mine : 0 < times other view.served = subst (λ (o : ℕ). 0 < times o view.served) (sym same) own in
      absurd (omega arith));
  counted = λ space. one_less view old new account.space space some well.counted well.elsewhere;
  limits = well.limits;
  tallies = same_rise old new (ap (λ (l : Ledger). l.tallies) closed);
}

-- Open both.
pub open_both_moves : (view : SeatView) (old : Ledger) (result : Result (AccountState × AccountState) Refusal)
    (new : Ledger) → OpenedBoth old result new → Moves view old new
open_both_moves view old (Ok accounts) new opened =
    let given : new.given ≡ old.given + 1 + 1 = ap (λ (l : Ledger). l.given) opened.1 in
    all_moves view old new (both_opened_keeps old (Ok accounts) new opened) (omega arith)
    (λ one. subst (λ (l : Ledger). opened_in old one ≤ opened_in l one) (sym opened.1)
    (let first = opened_more NonClass one old in let second = opened_more Class one (with_opened old NonClass) in
    omega arith))
    (ap (λ (l : Ledger). l.limits) opened.1) (same_rise old new (ap (λ (l : Ledger). l.tallies) opened.1))
open_both_moves view old (Err refusal) new refused =
    let given : new.given ≡ old.given = ap (λ (l : Ledger). l.given) refused.2 in
    all_moves view old new (both_opened_keeps old (Err refusal) new refused) (omega arith)
    (λ one. let same : opened_in new one ≡ opened_in old one = ap (λ (l : Ledger). opened_in l one) refused.2 in
    omega arith)
    (ap (λ (l : Ledger). l.limits) refused.2)
    (raised_rise ids_of_open old new (ap (λ (l : Ledger). l.tallies) refused.2))

-- Close both.
pub close_both_moves : (view : SeatView) (old : Ledger) (account class_account : AccountState) (new : Ledger)
    → 0 < times account.owner view.served
    → 0 < times class_account.owner view.served
    → ((space : Space) → 0 < opened_by view space) → ClosesBothWell old account class_account new
    → ClosedBoth old account class_account new → Moves view old new
close_both_moves view old account class_account new own class_own some well closed = let given = well.given in record {
  given = omega arith;
  others = λ other none. well.chunks other
      (λ same. let mine : 0 < times other view.served = subst (λ (o : ℕ). 0 < times o view.served) (sym same) own in
      absurd (omega arith))
      (λ same. let mine : 0 < times other view.served = subst (λ (o : ℕ). 0 < times o view.served) (sym same) class_own
      in absurd (omega arith));
  counted = counted;
  limits = well.limits;
  tallies = same_rise old new (ap (λ (l : Ledger). l.tallies) closed);
}
  where
    counted : (space : Space) → opened_in old space ≤ opened_by view space + opened_in new space
    counted NonClass = let less = well.counted in let one = some NonClass in omega arith
    counted Class = let less = well.class_counted in let one = some Class in omega arith

-- Purge.
pub purge_moves : (view : SeatView) (old : Ledger) (gone : ℕ) (new : Ledger) → Purged old gone new → Moves view old new
purge_moves view old gone new purged =
    let given : new.given ≡ old.given = ap (λ (l : Ledger). l.given) purged.1 in
    all_moves view old new (purged_keeps old gone new purged) (omega arith)
    (λ one. let same : opened_in new one ≡ opened_in old one = ap (λ (l : Ledger). opened_in l one) purged.1 in
    omega arith)
    (ap (λ (l : Ledger). l.limits) purged.1) (same_rise old new (ap (λ (l : Ledger). l.tallies) purged.1))

-- Nothing changes.
pub same_moves : (view : SeatView) (pool : Ledger) → Moves view pool pool
same_moves view pool =
    all_moves view pool pool (λ owner. refl) (omega arith) (λ space. omega arith) refl (same_rise pool pool refl)

-- Closing accounts: the ledger stays sound, the closed ones have nothing, and all others are served
-- still.
use Rattle.std.proofs.Common.{◌≡◌, ◌≢◌, ◌≤◌, ◌<◌, ◌+◌, ◌-◌, ℕ, List, [], refl, sym, ◌∙◌, subst, arith}
use Rattle.std.specs.List.Sorted.{IsPermutation}
use Rattle.std.proofs.lemmas.List.Sorted.{IsPermutation-refl}
use Rattle.ms_base.specs.declared.kind.Space.{Space}
use Rattle.ms_base.specs.declared.kind.Space.TheVariants.{NonClass, Class}
use Rattle.ms_base.specs.declared.span.Chunk.{Chunk}
use Rattle.ms_base.specs.Spaces.{by_space}
use Rattle.ms_pool.specs.Account.{AccountState}
use Rattle.ms_pool.specs.Ledger.{Loan, Ledger, IsSoundLedger, Serves, chunks_of, opened_in, others_than, recommitted}
use Rattle.ms_pool.specs.Ledger.{with_closed, with_both_closed}
use Rattle.ms_pool.specs.Calls.{new_account}
use Rattle.ms_pool.proofs.ledger.SoundLemmas.{ledger_is_sound}
use Rattle.ms_pool.proofs.ledger.FewerLemmas.{AreFewer, all_are_fewer, filtered_are_fewer, none_left, none_still}
use Rattle.ms_pool.proofs.ledger.FewerLemmas.{others_stay}

-- With fewer loans and no more accounts the ledger is sound.
pub sound_with_fewer : (old : Ledger) (loans : List Loan) (opened class_opened : ℕ) → IsSoundLedger old
    → AreFewer old loans
    → opened + class_opened ≤ old.given
    → IsSoundLedger (recommitted (record old { loans = loans; opened = opened; class_opened = class_opened }))
sound_with_fewer old loans opened class_opened sound fewer few = ledger_is_sound old mid sound refl
    (record { order = fewer.order; owners = fewer.owners; given = sound.given; opened = few })
    (λ space.
    record {
      held = fewer.held space;
      slots = (sound.spaces space).slots;
      below = (sound.spaces space).below;
      reserved = (sound.spaces space).reserved;
    })
    (omega (arith, fewer.few NonClass, fewer.few Class, (sound.spaces NonClass).granules))
  where
    mid : Ledger
    mid = record old { loans = loans; opened = opened; class_opened = class_opened }

-- One account.
pub closed_is_sound : (old : Ledger) (account : AccountState) → IsSoundLedger old
    → IsSoundLedger (with_closed old account)
closed_is_sound old account sound =
    sound_with_fewer old (others_than account.owner old.loans) (by_space account.space (old.opened - 1) old.opened)
    (by_space account.space old.class_opened (old.class_opened - 1))
    sound (filtered_are_fewer old _ old.loans (all_are_fewer old sound)) (less account.space)
  where
    less : (space : Space)
        → by_space space (old.opened - 1) old.opened + by_space space old.class_opened (old.class_opened - 1)
        ≤ old.given
    less NonClass = omega (arith, sound.opened)
    less Class = omega (arith, sound.opened)

pub closed_has_nothing : (old : Ledger) (account : AccountState) → Serves old account
    → Serves (with_closed old account) (new_account account.owner account.space)
closed_has_nothing old account served = record {
  some = served.some;
  given = served.given;
  chunks = subst (λ (l : List Chunk). IsPermutation l []) (sym (none_left account.owner old.loans))
      (IsPermutation-refl []);
}

pub closed_keeps_others : (old : Ledger) (account : AccountState) (other : ℕ) → other ≢ account.owner
    → chunks_of (with_closed old account) other ≡ chunks_of old other
closed_keeps_others old account other differs = others_stay other account.owner old.loans differs

pub closed_serves_others : (old : Ledger) (account other : AccountState) → other.owner ≢ account.owner
    → Serves old other
    → Serves (with_closed old account) other
closed_serves_others old account other differs served = record {
  some = served.some;
  given = served.given;
  chunks = subst (λ (l : List Chunk). IsPermutation l other.chunks)
      (sym (closed_keeps_others old account other.owner differs)) served.chunks;
}

-- One account less is counted.
pub closed_counts : (old : Ledger) (account : AccountState) → 0 < opened_in old account.space
    → opened_in (with_closed old account) account.space + 1 ≡ opened_in old account.space
closed_counts old account some = go account.space some
  where
    go : (space : Space) → 0 < by_space space old.opened old.class_opened
        → by_space space (by_space space (old.opened - 1) old.opened)
        (by_space space old.class_opened (old.class_opened - 1)) + 1 ≡ by_space space old.opened old.class_opened
    go NonClass some = omega arith
    go Class some = omega arith

pub closed_counts_elsewhere : (old : Ledger) (account : AccountState) (space : Space) → space ≢ account.space
    → opened_in (with_closed old account) space ≡ opened_in old space
closed_counts_elsewhere old account space differs = go account.space space differs
  where
    go : (here one : Space) → one ≢ here
        → by_space one (by_space here (old.opened - 1) old.opened)
        (by_space here old.class_opened (old.class_opened - 1)) ≡ by_space one old.opened old.class_opened
    go NonClass NonClass differs = absurd (differs refl)
    go NonClass Class differs = refl
    go Class NonClass differs = refl
    go Class Class differs = absurd (differs refl)

-- Both accounts of a loader.
pub both_closed_is_sound : (old : Ledger) (account class_account : AccountState) → IsSoundLedger old
    → IsSoundLedger (with_both_closed old account class_account)
both_closed_is_sound old account class_account sound =
    sound_with_fewer old (others_than class_account.owner (others_than account.owner old.loans)) (old.opened - 1)
    (old.class_opened - 1) sound
    (filtered_are_fewer old _ (others_than account.owner old.loans)
    (filtered_are_fewer old _ old.loans (all_are_fewer old sound))) (omega (arith, sound.opened))

pub both_closed_keeps_others : (old : Ledger) (account class_account : AccountState) (other : ℕ) → other ≢ account.owner
    → other ≢ class_account.owner
    → chunks_of (with_both_closed old account class_account) other ≡ chunks_of old other
both_closed_keeps_others old account class_account other differs too =
    others_stay other class_account.owner (others_than account.owner old.loans) too
    ∙ others_stay other account.owner old.loans differs

pub both_closed_serves_others : (old : Ledger) (account class_account other : AccountState)
    → other.owner ≢ account.owner
    → other.owner ≢ class_account.owner → Serves old other
    → Serves (with_both_closed old account class_account) other
both_closed_serves_others old account class_account other differs too served = record {
  some = served.some;
  given = served.given;
  chunks = subst (λ (l : List Chunk). IsPermutation l other.chunks)
      (sym (both_closed_keeps_others old account class_account other.owner differs too)) served.chunks;
}

pub both_closed_have_nothing : (old : Ledger) (account class_account : AccountState) → Serves old account
    → Serves old class_account
    → Serves (with_both_closed old account class_account) (new_account account.owner account.space)
    × Serves (with_both_closed old account class_account) (new_account class_account.owner class_account.space)
both_closed_have_nothing old account class_account served too = (
  record {
    some = served.some;
    given = served.given;
    chunks = empty
        (none_still account.owner _ (others_than account.owner old.loans) (none_left account.owner old.loans));
  },
  record {
    some = too.some;
    given = too.given;
    chunks = empty (none_left class_account.owner (others_than account.owner old.loans));
  },
)
  where
    empty : {l : List Chunk} → l ≡ [] → IsPermutation l []
    empty none = subst (λ (l : List Chunk). IsPermutation l []) (sym none) (IsPermutation-refl [])

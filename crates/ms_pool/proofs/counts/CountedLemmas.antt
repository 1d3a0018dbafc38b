-- The chunks of each space stay counted: as one is lent, grows, an account is closed, or nothing
-- changes. The calls of the lender use these.
use Rattle.std.proofs.Common.{◌≡◌, ◌<◌, ◌≤◌, ◌+◌, ℕ, Bool, true, false, cond, not, List, [], ◌∷◌, ◌++◌, map, refl, sym, ap}
use Rattle.std.proofs.Common.{◌∙◌, subst, arith}
use Rattle.std.specs.Prelude.{◌==◌}
use Rattle.std.specs.List.{AllByRecursion, count_by, filter}
use Rattle.std.proofs.lemmas.Bool.{lt-ltb, le-leb}
use Rattle.std.proofs.lemmas.List.Elements.{recursion_from_All}
use Rattle.std.proofs.lemmas.List.FromFn.{fill_by_all}
use Rattle.std.proofs.lemmas.List.Sorted.{sum_by-IsPermutation}
use Rattle.ms_base.specs.declared.kind.Space.{Space}
use Rattle.ms_base.specs.declared.kind.Space.TheVariants.{NonClass, Class}
use Rattle.ms_base.specs.declared.span.Chunk.{Chunk}
use Rattle.ms_base.specs.Level.{size_of, level_count}
use Rattle.ms_base.specs.Part.{IsPart}
use Rattle.ms_base.specs.Front.{HasFront}
use Rattle.ms_base.specs.Spaces.{is_in, other_space, first_class_word}
use Rattle.ms_base.specs.Totals.{all_levels, capacity_of, fronts_of}
use Rattle.ms_base.proofs.arena.BlockLemmas.{not_in_other}
use Rattle.ms_base.proofs.free.HalvesLemmas.{size_falls}
use Rattle.ms_base.proofs.machine.SumLemmas.{capacity_within, fronts_within}
use Rattle.ms_commit.specs.Nodes.{slots_of}
use Rattle.ms_pool.specs.declared.lender.Lender.{Lender}
use Rattle.ms_pool.specs.declared.lent.Counted.{Counted}
use Rattle.ms_pool.specs.declared.lent.Lent.{Lent}
use Rattle.ms_pool.specs.Account.{AccountState, AreChunks}
use Rattle.ms_pool.specs.Ledger.{Ledger, Loan, Serves, held_in, is_owned_by, others_than, with_closed}
use Rattle.ms_pool.specs.Ledger.{with_grown, with_lent, with_loan}
use Rattle.ms_pool.specs.Keeping.{IsCounted, IsKept, IsRunOf, ledger_of, loans_from}
use Rattle.ms_pool.specs.Counting.{AreCounted, HasLeast, HasRoomFor, HaveLeast, MovesIn, counted_in}
use Rattle.ms_pool.specs.Counting.{total, words_in, front_in}
use Rattle.ms_pool.proofs.counts.FreeCountLemmas.{few_slots}
use Rattle.ms_pool.proofs.counts.LentCountLemmas.{least_of, least_one, moved, room_for}
use Rattle.ms_pool.proofs.counts.PoolCountLemmas.{total-append, total-none}
use Rattle.ms_pool.proofs.ledger.AccountLemmas.{LiesIn, own_lie_in}
use Rattle.ms_pool.proofs.ledger.GrowLemmas.{GrownThere}
use Rattle.ms_pool.proofs.ledger.HeldLoanLemmas.{own_sum}
use Rattle.ms_pool.proofs.ledger.LoanLemmas.{chunks_in, chunks_in-with, chunks_in-with_elsewhere, owned_by}

-- Both spaces.
both_spaces : (P : Space → Type 0) (space : Space) → P space → P (other_space space) → (one : Space) → P one
both_spaces P NonClass own other NonClass = own
both_spaces P NonClass own other Class = other
both_spaces P Class own other NonClass = other
both_spaces P Class own other Class = own

-- Trees and counts that stay.
pub counted_on : (old new : Lender) → new.trees.items ≡ old.trees.items → new.lent ≡ old.lent → IsCounted old
    → IsCounted new
counted_on old new trees lent counted space =
    subst (λ (l : Lent). AreCounted (held_in space (ledger_of new)) (counted_in space l)) (sym lent)
    (subst (λ items. AreCounted (chunks_in space (loans_from 0 items)) (counted_in space old.lent)) (sym trees)
    (counted space))

-- Chunks go and come in a space, as they do among what is held.
pub counted_then : (space : Space) (gone come : List Chunk) (old new : Lent) (was now : Ledger)
    → ((one : Space) → AreCounted (held_in one was) (counted_in one old)) → MovesIn space old gone come new
    → ((amount : Chunk → ℕ) → total amount (held_in space was) + total amount come
    ≡ total amount (held_in space now) + total amount gone)
    → held_in (other_space space) now ≡ held_in (other_space space) was
    → (one : Space) → AreCounted (held_in one now) (counted_in one new)
counted_then space gone come old new was now counted moves same elsewhere =
    both_spaces (λ (one : Space). AreCounted (held_in one now) (counted_in one new)) space
    (moved (counted_in space old) (counted_in space new) gone come (held_in space was) (held_in space now)
    (counted space) moves.own same)
    (subst (λ (c : Counted). AreCounted (held_in (other_space space) now) c) (sym moves.other)
    (subst (λ (held : List Chunk). AreCounted held (counted_in (other_space space) old)) (sym elsewhere)
    (counted (other_space space))))

-- What is held fits.
total_words : (space : Space) (lender : Lender) → IsKept lender
    → total words_in (held_in space (ledger_of lender)) ≤ first_class_word
unfolding total
total_words space lender kept = omega (
  arith,
  few_slots space lender kept,
  capacity_within lender.policy (slots_of space lender.nodes) (held_in space (ledger_of lender))
      (kept.sound.spaces space).held,
)

total_fronts : (space : Space) (lender : Lender) → IsKept lender
    → total front_in (held_in space (ledger_of lender)) ≤ first_class_word
unfolding total
total_fronts space lender kept = omega (
  arith,
  total_words space lender kept,
  fronts_within lender.policy (held_in space (ledger_of lender))
      (recursion_from_All (HasFront lender.policy) (held_in space (ledger_of lender))
      (kept.sound.spaces space).held.fronts),
)

pub room_there : (space : Space) (lender : Lender) (chunk : Chunk) → IsKept lender → IsCounted lender
    → IsPart chunk.start chunk.level → chunk.front ≤ size_of chunk.level
    → HasRoomFor (counted_in space lender.lent) chunk
room_there space lender chunk kept counted placed within =
    room_for (counted_in space lender.lent) (held_in space (ledger_of lender)) chunk (counted space)
    (omega (arith, placed.0)) (total_words space lender kept) (total_fronts space lender kept)
    (size_falls 0 chunk.level (omega arith)) within

-- A run of a space starts there.
pub run_starts_in : (space : Space) (start words : ℕ) → 1 ≤ words → IsRunOf space start words
    → is_in space start ≡ true
run_starts_in NonClass start words some inside = lt-ltb start first_class_word (omega (arith, some, inside))
run_starts_in Class start words some inside = le-leb first_class_word start inside

-- A chunk is lent.
total_lent : (amount : Chunk → ℕ) (space : Space) (loan : Loan) (loans : List Loan)
    → is_in space loan.chunk.start ≡ true
    → total amount (chunks_in space loans) + total amount (loan.chunk ∷ [])
    ≡ total amount (chunks_in space (with_loan loan loans)) + total amount []
unfolding total
total_lent amount space loan loans here = omega (
  arith,
  sum_by-IsPermutation amount (loan.chunk ∷ chunks_in space loans) (chunks_in space (with_loan loan loans))
      (chunks_in-with space loan loans here),
  total-append amount (loan.chunk ∷ []) (chunks_in space loans),
)

pub lent_is_counted : (space : Space) (owner : ℕ) (chunk : Chunk) (old new : Lent) (was now : Ledger)
    → ((one : Space) → AreCounted (held_in one was) (counted_in one old)) → MovesIn space old [] (chunk ∷ []) new
    → now ≡ with_lent was space owner chunk → is_in space chunk.start ≡ true
    → (one : Space) → AreCounted (held_in one now) (counted_in one new)
lent_is_counted space owner chunk old new was now counted moves is here =
    counted_then space [] (chunk ∷ []) old new was now counted moves
    (λ amount. total_lent amount space loan was.loans here
    ∙ ap (λ (l : Ledger). total amount (held_in space l) + total amount []) (sym is))
    (ap (held_in (other_space space)) is
    ∙ chunks_in-with_elsewhere (other_space space) loan was.loans (not_in_other space chunk.start here))
  where
    loan : Loan
    loan = record { owner = owner; chunk = chunk }

-- A chunk grows.
total_middle : (amount : Chunk → ℕ) (b : List Chunk) (was is : Chunk) (a : List Chunk)
    → total amount (b ++ was ∷ a) + total amount (is ∷ []) ≡ total amount (b ++ is ∷ a) + total amount (was ∷ [])
total_middle amount b was is a = omega (
  arith,
  total-append amount b (was ∷ a),
  total-append amount b (is ∷ a),
  total-append amount (was ∷ []) a,
  total-append amount (is ∷ []) a,
)

pub grown_is_counted : (account : AccountState) (chunk greater : Chunk) (old new : Lent) (was now : Ledger)
    → ((one : Space) → AreCounted (held_in one was) (counted_in one old))
    → MovesIn account.space old (chunk ∷ []) (greater ∷ []) new → now ≡ with_grown was greater
    → GrownThere was account chunk greater
    → (one : Space) → AreCounted (held_in one now) (counted_in one new)
grown_is_counted account chunk greater old new was now counted moves is at_ =
    counted_then account.space (chunk ∷ []) (greater ∷ []) old new was now counted moves
    (λ amount. ap (λ (l : List Chunk). total amount l + total amount (greater ∷ [])) at_.held
    ∙ total_middle amount at_.before chunk greater at_.after
    ∙ ap (λ (l : List Chunk). total amount l + total amount (chunk ∷ []))
    (sym (ap (held_in account.space) is ∙ at_.grown)))
    (ap (held_in (other_space account.space)) is ∙ at_.elsewhere)

pub least_there : (account : AccountState) (chunk greater : Chunk) (lent : Lent) (was : Ledger)
    → ((one : Space) → AreCounted (held_in one was) (counted_in one lent)) → chunk.level < level_count
    → GrownThere was account chunk greater → HasLeast (counted_in account.space lent) chunk
least_there account chunk greater lent was counted low at_ =
    least_one (counted_in account.space lent) chunk low
    (least_of (counted_in account.space lent) (held_in account.space was) (chunk ∷ []) (at_.before ++ at_.after)
    (counted account.space) (λ amount. ap (total amount) at_.held ∙ parted amount at_.before at_.after))
  where
    parted : (amount : Chunk → ℕ) (b a : List Chunk)
        → total amount (b ++ chunk ∷ a) ≡ total amount (chunk ∷ []) + total amount (b ++ a)
    parted amount b a = omega (
      arith,
      total-append amount b (chunk ∷ a),
      total-append amount (chunk ∷ []) a,
      total-append amount b a,
    )

-- An account is closed.
own_total : (amount : Chunk → ℕ) (ledger : Ledger) (account : AccountState) → Serves ledger account
    → AreChunks account.space account.chunks
    → total amount (held_in account.space ledger)
    ≡ total amount account.chunks + total amount (chunks_in account.space (others_than account.owner ledger.loans))
unfolding total
own_total amount ledger account served chunks = own_sum ledger account amount served chunks

stay_elsewhere : (space other : Space) (owner : ℕ) (loans : List Loan)
    → ((start : ℕ) → is_in space start ≡ true → is_in other start ≡ false)
    → AllByRecursion (LiesIn space) (owned_by owner loans)
    → chunks_in other (others_than owner loans) ≡ chunks_in other loans
stay_elsewhere space other owner [] out lie = refl
stay_elsewhere space other owner (loan ∷ loans) out lie =
    go (loan.owner == owner) lie (stay_elsewhere space other owner loans out)
  where
    own : List Loan
    own = filter (is_owned_by owner) loans

    rest : List Loan
    rest = others_than owner loans

    chunk : Chunk
    chunk = loan.chunk

    go : (b : Bool) → AllByRecursion (LiesIn space) (map (λ (one : Loan). one.chunk) (cond b (loan ∷ own) own))
        → (AllByRecursion (LiesIn space) (owned_by owner loans) → chunks_in other rest ≡ chunks_in other loans)
        → chunks_in other (cond (not b) (loan ∷ rest) rest)
        ≡ cond (is_in other chunk.start) (chunk ∷ chunks_in other loans) (chunks_in other loans)
    go true lie same = same lie.1
        ∙ sym (ap (λ (t : Bool). cond t (chunk ∷ chunks_in other loans) (chunks_in other loans))
        (out chunk.start lie.0))
    go false lie same = ap (λ (l : List Chunk). cond (is_in other chunk.start) (chunk ∷ l) l) (same lie)

pub closed_is_counted : (account : AccountState) (old new : Lent) (was now : Ledger)
    → ((one : Space) → AreCounted (held_in one was) (counted_in one old))
    → MovesIn account.space old account.chunks [] new → now ≡ with_closed was account → Serves was account
    → AreChunks account.space account.chunks
    → (one : Space) → AreCounted (held_in one now) (counted_in one new)
closed_is_counted account old new was now counted moves is served chunks =
    counted_then account.space account.chunks [] old new was now counted moves
    (λ amount. omega (
      arith,
      own_total amount was account served chunks,
      total-none amount,
      ap (λ (l : Ledger). total amount (held_in account.space l)) is,
    ))
    (ap (held_in (other_space account.space)) is
    ∙ stay_elsewhere account.space (other_space account.space) account.owner was.loans
    (λ start here. not_in_other account.space start here) (own_lie_in was account served chunks))

pub least_of_own : (account : AccountState) (lent : Lent) (was : Ledger)
    → ((one : Space) → AreCounted (held_in one was) (counted_in one lent)) → Serves was account
    → AreChunks account.space account.chunks → HaveLeast (counted_in account.space lent) account.chunks
least_of_own account lent was counted served chunks =
    least_of (counted_in account.space lent) (held_in account.space was) account.chunks
    (chunks_in account.space (others_than account.owner was.loans)) (counted account.space)
    (λ amount. own_total amount was account served chunks)

-- What was counted, as the model tells it.
pub lent_are_by_level : (chunks : List Chunk) (counted : Counted) → AreCounted chunks counted
    → counted.lent ≡ map (λ level. count_by (λ (chunk : Chunk). chunk.level == level) chunks) all_levels
unfolding total
lent_are_by_level chunks counted are =
    fill_by_all (λ level. count_by (λ (chunk : Chunk). chunk.level == level) chunks) counted.lent
    level_count 0 are.full are.lent

pub capacity_is : (chunks : List Chunk) (counted : Counted) → AreCounted chunks counted
    → counted.capacity ≡ capacity_of chunks
unfolding total
capacity_is chunks counted are = are.capacity

pub fronts_are : (chunks : List Chunk) (counted : Counted) → AreCounted chunks counted
    → counted.fronts ≡ fronts_of chunks
unfolding total
fronts_are chunks counted are = are.fronts

-- What a request for a chunk is answered, from what the code has found out.
use Rattle.std.proofs.Common.{◌≡◌, ◌<◌, ◌≤◌, ℕ, ◌+◌, Bool, true, false, length, sym, ap, subst, ◌∙◌, arith, le-ltb}
use Rattle.std.proofs.Common.{lt-ltb}
use Rattle.std.specs.Prelude.{◌^◌, ◌*◌, Ok, Err, Result, if◌then◌else◌}
use Rattle.ms_base.specs.declared.kind.Space.{Space}
use Rattle.ms_base.specs.declared.kind.Space.TheVariants.{NonClass, Class}
use Rattle.ms_base.specs.declared.refusal.Refusal.{Refusal}
use Rattle.ms_base.specs.declared.refusal.Refusal.TheVariants.{CommitLimit, ReserveLimit}
use Rattle.ms_base.specs.declared.span.Chunk.{Chunk}
use Rattle.ms_base.specs.declared.span.Span.{Span}
use Rattle.ms_base.specs.Level.{size_of, highest_level}
use Rattle.ms_base.specs.Part.{IsPart, slot_of}
use Rattle.ms_base.specs.Front.{HasFront, front_for}
use Rattle.ms_base.specs.PoolSteps.Pick.{chunk_picked, picked}
use Rattle.ms_base.specs.PoolSteps.Causes.{committed_count, granules_missing, granules_needed, meets_commit_limit}
use Rattle.ms_base.specs.PoolSteps.Causes.{meets_reserve_limit, node_limit}
use Rattle.ms_base.specs.PoolSteps.{taken}
use Rattle.ms_base.specs.State.{PoolState}
use Rattle.ms_base.proofs.free.HalvesLemmas.{size_falls}
use Rattle.ms_base.proofs.free.PickLemmas.{picked_serves}
use Rattle.ms_base.proofs.granules.FrontLemmas.{has_front_for}
use Rattle.ms_base.proofs.granules.GranuleLemmas.{ends_in_node}
use Rattle.ms_base.proofs.granules.MissingLemmas.{limit_by_missing, need_by_missing}
use Rattle.ms_base.proofs.granules.EnoughLemmas.{picked_is_part}
use Rattle.ms_commit.proofs.SpaceLemmas.{are_of_two_spaces}
use Rattle.ms_pool.specs.declared.lender.Lender.{Lender}
use Rattle.ms_pool.specs.Ledger.{state_in, Serves}
use Rattle.ms_pool.specs.Keeping.{IsKept, IsOpen, IsRunOf, ledger_of}
use Rattle.ms_pool.specs.Searching.{is_full, lacking, part_picked}
use Rattle.ms_pool.proofs.loans.OpenLemmas.{IsSlotThere, open_is_low, open_is_of_space}
use Rattle.ms_pool.specs.Lending.{chunk_at, Adds, span_of}
use Rattle.ms_pool.specs.Account.{AccountState, AreChunks}
use Rattle.ms_pool.specs.Placing.{MayBeLent}
use Rattle.ms_pool.proofs.ledger.TakeLemmas.{TakenWell, taken_well, with_chunk}
use Rattle.ms_pool.proofs.ledger.TookLemmas.{MayAsk}

-- The chunk at the part that is picked.
pub chunk_is : (pool : PoolState) (p m words : ℕ) (span : Span) → span ≡ part_picked pool p m words
    → record { start = span.start; level = span.level; front = front_for pool.limits.policy (size_of span.level) words }
    ≡ chunk_picked pool p m words
unfolding part_picked
chunk_is pool p m words span is = ap at_part is
  where
    at_part : Span → Chunk
    at_part one =
        record { start = one.start; level = one.level; front = front_for pool.limits.policy (size_of one.level) words }

-- It is a part with a front, within the words of its space.
pub record IsWellPicked (space : Space) (chunk : Chunk) : Type 0 where
  pub placed : IsPart chunk.start chunk.level
  pub some : 1 ≤ chunk.front
  pub within : chunk.front ≤ size_of chunk.level
  pub inside : IsRunOf space chunk.start chunk.front
  pub fits : chunk.start + chunk.front < 2 ^ 63

pub run_of_open : (space : Space) (start front : ℕ) → start + front ≤ slot_of start * 1048576 + 1048576 → (lower : ℕ)
    → IsSlotThere space (slot_of start) → IsRunOf space start front
run_of_open NonClass start front ends lower there = omega (arith, ends, there)
run_of_open Class start front ends lower there = omega (arith, there)

pub is_well_picked : (space : Space) (lender : Lender) (p m words : ℕ) (chunk : Chunk)
    → IsKept lender → p ≤ m → m ≤ highest_level
    → 1 ≤ words → words ≤ size_of m
    → chunk ≡ chunk_picked (state_in space (ledger_of lender)) p m words
    → IsOpen space lender.nodes (slot_of chunk.start) → IsWellPicked space chunk
is_well_picked space lender p m words chunk kept h k some fits is open_ =
    let pool = state_in space (ledger_of lender) in
    let part : IsPart chunk.start chunk.level =
    subst (λ (c : Chunk). IsPart c.start c.level) (sym is) (picked_is_part pool p m words h k) in
    let front =
    subst (λ (c : Chunk). HasFront lender.policy c) (sym is)
    (has_front_for lender.policy (picked pool p m words).start (picked pool p m words).level words some
    (omega (arith, fits, size_falls (picked pool p m words).level m (picked_serves pool p m words h).1))) in
    record {
      placed = part;
      some = front.some;
      within = front.within;
      inside = run_of_open space chunk.start chunk.front
          (omega (arith, front.within, ends_in_node chunk.start chunk.level part)) 0
          (open_is_of_space space lender.nodes (slot_of chunk.start) kept.nodes kept.sound.nodes.1 open_);
      fits = omega (
        arith,
        front.within,
        ends_in_node chunk.start chunk.level part,
        kept.nodes.class_slots,
        open_is_low space lender.nodes (slot_of chunk.start) kept.nodes kept.sound.nodes.1 open_,
      );
    }

-- All committed granules, as the space sees them.
pub all_committed : (space : Space) (lender : Lender) → IsKept lender
    → length lender.nodes.granules ≡ committed_count (state_in space (ledger_of lender))
all_committed NonClass lender kept = sym ((are_of_two_spaces lender.nodes kept.nodes).counted NonClass)
all_committed Class lender kept = sym ((are_of_two_spaces lender.nodes kept.nodes).counted Class)

-- The reserve limit is met.
pub taken_reserve : (pool : PoolState) (p m words : ℕ) → is_full pool m ≡ true
    → taken pool p m words ≡ Err (ReserveLimit (length pool.slots) (node_limit pool))
unfolding is_full
taken_reserve pool p m words full = ap answer full
  where
    answer : Bool → Result Chunk Refusal
    answer b = if b then Err (ReserveLimit (length pool.slots) (node_limit pool))
        else if meets_commit_limit pool p m words then Err
        (CommitLimit (committed_count pool) pool.limits.granules (granules_needed pool p m words))
        else Ok (chunk_picked pool p m words)

without_reserve : (pool : PoolState) (p m words : ℕ) → meets_reserve_limit pool m ≡ false
    → taken pool p m words
    ≡ (if meets_commit_limit pool p m words then Err
    (CommitLimit (committed_count pool) pool.limits.granules (granules_needed pool p m words)) else Ok
    (chunk_picked pool p m words))
without_reserve pool p m words room = ap answer room
  where
    answer : Bool → Result Chunk Refusal
    answer b = if b then Err (ReserveLimit (length pool.slots) (node_limit pool))
        else if meets_commit_limit pool p m words then Err
        (CommitLimit (committed_count pool) pool.limits.granules (granules_needed pool p m words))
        else Ok (chunk_picked pool p m words)

-- The commit limit is met.
pub taken_commit : (space : Space) (lender : Lender) (p m words : ℕ) (chunk : Chunk) → IsKept lender
    → p ≤ m → m ≤ highest_level
    → 1 ≤ words → words ≤ size_of m
    → chunk ≡ chunk_picked (state_in space (ledger_of lender)) p m words
    → is_full (state_in space (ledger_of lender)) m ≡ false
    → lender.nodes.limits.granules < length lender.nodes.granules + lacking (state_in space (ledger_of lender)) chunk
    → taken (state_in space (ledger_of lender)) p m words
    ≡ Err (CommitLimit (length lender.nodes.granules) lender.nodes.limits.granules
    (lacking (state_in space (ledger_of lender)) chunk))
unfolding is_full lacking
taken_commit space lender p m words chunk kept h k some fits is room past =
    without_reserve pool p m words room
    ∙ ap (λ b. if b then Err (CommitLimit (committed_count pool) pool.limits.granules (granules_needed pool p m words))
    else Ok (chunk_picked pool p m words)) met
    ∙ ap (λ (n : ℕ). full n pool.limits.granules (granules_needed pool p m words))
    (sym (all_committed space lender kept))
    ∙ ap (λ (n : ℕ). full (length lender.nodes.granules) pool.limits.granules n)
    (need_by_missing pool p m words (kept.sound.spaces space) h k some fits met ∙ ap (granules_missing pool) (sym is))
  where
    pool : PoolState
    pool = state_in space (ledger_of lender)

    full : ℕ → ℕ → ℕ → Result Chunk Refusal
    full committed limit need = Err (CommitLimit committed limit need)

    met : meets_commit_limit pool p m words ≡ true
    met = limit_by_missing pool p m words (kept.sound.spaces space) h k some fits room
        ∙ lt-ltb pool.limits.granules (committed_count pool + granules_missing pool (chunk_picked pool p m words))
        (omega (arith, past, all_committed space lender kept, ap (granules_missing pool) is))

-- The chunk is lent.
pub taken_ok : (space : Space) (lender : Lender) (p m words : ℕ) (chunk : Chunk) → IsKept lender
    → p ≤ m → m ≤ highest_level
    → 1 ≤ words → words ≤ size_of m
    → chunk ≡ chunk_picked (state_in space (ledger_of lender)) p m words
    → is_full (state_in space (ledger_of lender)) m ≡ false
    → length lender.nodes.granules + lacking (state_in space (ledger_of lender)) chunk ≤ lender.nodes.limits.granules
    → taken (state_in space (ledger_of lender)) p m words ≡ Ok chunk
unfolding is_full lacking
taken_ok space lender p m words chunk kept h k some fits is room within =
    without_reserve pool p m words room
    ∙ ap (λ b. if b then Err (CommitLimit (committed_count pool) pool.limits.granules (granules_needed pool p m words))
    else Ok (chunk_picked pool p m words)) met
    ∙ ap ok (sym is)
  where
    pool : PoolState
    pool = state_in space (ledger_of lender)

    ok : Chunk → Result Chunk Refusal
    ok one = Ok one

    met : meets_commit_limit pool p m words ≡ false
    met = limit_by_missing pool p m words (kept.sound.spaces space) h k some fits room
        ∙ le-ltb pool.limits.granules (committed_count pool + granules_missing pool (chunk_picked pool p m words))
        (omega (arith, within, all_committed space lender kept, ap (granules_missing pool) is))

-- What `take` knows once a part is picked: its chunk is the model's, and is well picked.
pub record IsPickedThere (lender : Lender) (space : Space) (wanted most words : ℕ) (chunk : Chunk) : Type 0 where
  pub asks : MayAsk wanted most words
  pub is : chunk ≡ chunk_picked (state_in space (ledger_of lender)) wanted most words
  pub slot : IsOpen space lender.nodes (slot_of chunk.start)
  pub well : IsWellPicked space chunk

pub picked_there : (lender : Lender) (space : Space) (wanted most words : ℕ) (span : Span) (chunk : Chunk)
    → IsKept lender → MayAsk wanted most words
    → span ≡ part_picked (state_in space (ledger_of lender)) wanted most words
    → IsOpen space lender.nodes (slot_of span.start)
    → chunk ≡ chunk_at lender.policy span words → IsPickedThere lender space wanted most words chunk
picked_there lender space wanted most words span chunk kept asks picked open_ made = record {
  asks = asks;
  is = is;
  slot = slot;
  well = is_well_picked space lender wanted most words chunk kept asks.may.levels asks.real asks.may.some asks.may.fits
      is slot;
}
  where
    is : chunk ≡ chunk_picked (state_in space (ledger_of lender)) wanted most words
    is = made ∙ chunk_is (state_in space (ledger_of lender)) wanted most words span picked

    slot : IsOpen space lender.nodes (slot_of chunk.start)
    slot = subst (λ (one : Chunk). IsOpen space lender.nodes (slot_of one.start)) (sym made) open_

-- The limit is kept: the chunk is lent, and all is well with it.
pub record TakesThere (lender : Lender) (account : AccountState) (wanted most words : ℕ) (chunk : Chunk) : Type 0 where
  pub ok : taken (state_in account.space (ledger_of lender)) wanted most words ≡ Ok chunk
  pub good : TakenWell (ledger_of lender) account wanted most words chunk
  pub may : MayBeLent lender account.space account.owner chunk

pub takes_there : (lender : Lender) (account now : AccountState) (wanted most words : ℕ) (chunk : Chunk) → IsKept lender
    → IsPickedThere lender account.space wanted most words chunk
    → account ≡ now → Serves (ledger_of lender) now → AreChunks account.space account.chunks
    → is_full (state_in account.space (ledger_of lender)) most ≡ false
    → length lender.nodes.granules + lacking (state_in account.space (ledger_of lender)) chunk
    ≤ lender.nodes.limits.granules
    → TakesThere lender account wanted most words chunk
takes_there lender account now wanted most words chunk kept at_ same served chunks room within = record {
  ok = ok;
  good = good;
  may = record {
    placed = at_.well.placed;
    some = at_.well.some;
    within = at_.well.within;
    inside = at_.well.inside;
    slot = at_.slot;
    limit = within;
    sound = good.sound;
  };
}
  where
    ok : taken (state_in account.space (ledger_of lender)) wanted most words ≡ Ok chunk
    ok = taken_ok account.space lender wanted most words chunk kept at_.asks.may.levels at_.asks.real at_.asks.may.some
        at_.asks.may.fits at_.is room within

    good : TakenWell (ledger_of lender) account wanted most words chunk
    good = taken_well (ledger_of lender) account wanted most words chunk kept.sound
        (subst (Serves (ledger_of lender)) (sym same) served) chunks
        at_.asks.may.levels at_.asks.real at_.asks.may.some at_.asks.may.fits ok

pub adds_there : (lender : Lender) (account : AccountState) (wanted most words : ℕ) (span : Span) (chunk : Chunk)
    → chunk ≡ chunk_at lender.policy span words
    → TakesThere lender account wanted most words chunk
    → Adds lender.policy wanted most words account span (with_chunk account chunk)
adds_there lender account wanted most words span chunk made takes =
    subst (λ (one : Span). Adds lender.policy wanted most words account one (with_chunk account chunk))
    (ap span_of made) takes.good.adds

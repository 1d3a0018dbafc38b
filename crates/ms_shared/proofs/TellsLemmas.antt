-- What a refusal of `take` or `grow` over the lock tells, by the pool's own causes.
use Rattle.std.proofs.Common.{◌≡◌, ◌+◌, ◌<◌, ◌≤◌, ◌*◌, ◌⊎◌, inl, inr, ℕ, Bool, true, false, ◌&&◌, not, refl, sym, ap}
use Rattle.std.proofs.Common.{◌∙◌, subst, arith, nat_lt, nat_le}
use Rattle.std.specs.Prelude.{Result, Ok, Err, ◌==◌, if◌then◌else◌, length}
use Rattle.std.proofs.lemmas.Bool.{and_parts, ltb-true, leb-false, eqb-true}
use Rattle.ms_base.specs.declared.span.Chunk.{Chunk}
use Rattle.ms_base.specs.declared.span.Span.{Span}
use Rattle.ms_base.specs.declared.refusal.Refusal.{Refusal}
use Rattle.ms_base.specs.declared.refusal.Refusal.TheVariants.{CommitLimit, ReserveLimit, NoRoom}
use Rattle.ms_base.specs.State.{PoolState, Limits}
use Rattle.ms_base.specs.Spaces.{by_space}
use Rattle.ms_base.specs.Level.{size_of}
use Rattle.ms_base.specs.Policy.{keeps}
use Rattle.ms_base.specs.Front.{granules_for}
use Rattle.ms_base.specs.PoolSteps.Causes.{has_room, committed_count, node_limit, granules_needed, granules_missing, needs_none}
use Rattle.ms_base.specs.PoolSteps.Causes.{meets_reserve_limit, meets_commit_limit}
use Rattle.ms_base.specs.PoolSteps.Pick.{chunk_picked, granule_in}
use Rattle.ms_base.specs.PoolSteps.{taken, grown, within_limit, with_front, parent_with_front, may_become_parent}
use Rattle.ms_pool.specs.Account.{AccountState}
use Rattle.ms_pool.specs.Ledger.{Ledger, IsSoundLedger, state_in}
use Rattle.ms_pool.specs.Calls.{Took, Grew}
use Rattle.ms_shared.specs.LockCalls.{TakeTells, GrowTells, NeedsBy, Needs}

commit_is : (full over : Bool) (nodes bound a b d committed limit need : ℕ) (chunk : Chunk)
    → (if full then Err (ReserveLimit nodes bound) else if over then Err (CommitLimit a b d) else Ok chunk)
    ≡ Err (CommitLimit committed limit need)
    → (over ≡ true) × (committed ≡ a) × (limit ≡ b) × (need ≡ d)
commit_is true over nodes bound a b d committed limit need chunk is = cc
commit_is false true nodes bound a b d committed limit need chunk is = (refl, cc, cc, cc)
commit_is false false nodes bound a b d committed limit need chunk is = cc

-- What is needed is enough for the words, or by policy none what is missing, which is some.
needs_by : (keeping : Bool) (missing enough committed limit need : ℕ) → need ≡ (if keeping then missing else enough)
    → committed ≤ limit → limit < committed + need
    → NeedsBy keeping enough need
needs_by true missing enough committed limit need is within past = omega arith
needs_by false missing enough committed limit need is within past = is

pub commit_tells : (pool : PoolState) (p m words committed limit need : ℕ)
    → taken pool p m words ≡ Err (CommitLimit committed limit need)
    → committed_count pool ≤ pool.limits.granules
    → (limit ≡ pool.limits.granules) × (limit < committed + need) × Needs pool.limits.policy words need
commit_tells pool p m words committed limit need is within =
    let parts =
    commit_is (meets_reserve_limit pool m) (meets_commit_limit pool p m words) (length pool.slots) (node_limit pool)
    (committed_count pool) pool.limits.granules (granules_needed pool p m words) committed limit need
    (chunk_picked pool p m words) is in
    let over =
    (and_parts (not (meets_reserve_limit pool m) && not (needs_none pool m words))
    (nat_lt pool.limits.granules (committed_count pool + granules_needed pool p m words)) parts.0).1 in
    let past = ltb-true pool.limits.granules (committed_count pool + granules_needed pool p m words) over in
    let same = parts.1 in let bound = parts.2 in let lacks = parts.3 in
    let passes : limit < committed + need = omega arith in (
      parts.2,
      passes,
      needs_by (keeps pool.limits.policy) (granules_missing pool (chunk_picked pool p m words))
          (granules_for (granule_in pool) words) committed limit need lacks (omega arith) passes,
    )

reserve_is : (full over : Bool) (nodes bound a b d told limit : ℕ) (chunk : Chunk)
    → (if full then Err (ReserveLimit nodes bound) else if over then Err (CommitLimit a b d) else Ok chunk)
    ≡ Err (ReserveLimit told limit)
    → (full ≡ true) × (told ≡ nodes) × (limit ≡ bound)
reserve_is true over nodes bound a b d told limit chunk is = (refl, cc, cc)
reserve_is false true nodes bound a b d told limit chunk is = cc
reserve_is false false nodes bound a b d told limit chunk is = cc

pub reserve_tells : (pool : PoolState) (p m words nodes limit : ℕ)
    → taken pool p m words ≡ Err (ReserveLimit nodes limit)
    → (nodes ≡ limit) × (limit ≡ node_limit pool)
reserve_tells pool p m words nodes limit is =
    let parts =
    reserve_is (meets_reserve_limit pool m) (meets_commit_limit pool p m words) (length pool.slots)
    (node_limit pool)
    (committed_count pool) pool.limits.granules (granules_needed pool p m words) nodes limit
    (chunk_picked pool p m words) is in
    let full = (and_parts (not (has_room pool m)) (length pool.slots == node_limit pool) parts.0).1 in
    (parts.1 ∙ eqb-true (length pool.slots) (node_limit pool) full ∙ sym parts.2, parts.2)

pub take_tells : (before : Ledger) (limits : Limits) (account : AccountState) (wanted most words : ℕ)
    (result : Result Span Refusal) (later : Ledger)
    → before.limits ≡ limits → IsSoundLedger before → Took before account wanted most words result later
    → TakeTells limits account.space words result
take_tells before limits account wanted most words (Ok span) later same sound took = tt
take_tells before limits account wanted most words (Err (CommitLimit committed limit need)) later same sound refused =
    let tells =
    commit_tells (state_in account.space before) wanted most words committed limit need refused.0
    (sound.spaces account.space).granules in (
      tells.0 ∙ ap (λ (l : Limits). l.granules) same,
      tells.1,
      subst (λ (l : Limits). Needs l.policy words need) same tells.2,
    )
take_tells before limits account wanted most words (Err (ReserveLimit nodes limit)) later same sound refused =
    let tells = reserve_tells (state_in account.space before) wanted most words nodes limit refused.0 in
    (tells.0, tells.1 ∙ ap (λ (l : Limits). by_space account.space l.nodes l.class_nodes) same)
take_tells before limits account wanted most words (Err _) later same sound refused = tt

-- What a refused growth tells.
limit_is : (fits : Bool) (a b d committed limit need : ℕ) (chunk : Chunk)
    → (if fits then Ok chunk else Err (CommitLimit a b d)) ≡ Err (CommitLimit committed limit need)
    → (fits ≡ false) × (committed ≡ a) × (limit ≡ b) × (need ≡ d)
limit_is true a b d committed limit need chunk is = cc
limit_is false a b d committed limit need chunk is = (refl, cc, cc, cc)

within_tells : (pool : PoolState) (chunk : Chunk) (committed limit need : ℕ)
    → within_limit pool chunk ≡ Err (CommitLimit committed limit need)
    → (limit ≡ pool.limits.granules) × (limit < committed + need)
within_tells pool chunk committed limit need is =
    let parts =
    limit_is (nat_le (committed_count pool + granules_missing pool chunk) pool.limits.granules)
    (committed_count pool) pool.limits.granules
    (granules_missing pool chunk) committed limit need chunk is in
    let past = leb-false (committed_count pool + granules_missing pool chunk) pool.limits.granules parts.0 in
    let same = parts.1 in let bound = parts.2 in let lacks = parts.3 in (parts.2, omega arith)

-- The answers to a growth, by cases on what is asked.
abbrev grown_by : (reached fits enlarges : Bool) (first second : Result Chunk Refusal) (level : ℕ) (chunk : Chunk)
    → Result Chunk Refusal
grown_by reached fits enlarges first second level chunk =
    if reached then Ok chunk else if fits then first else if enlarges then second else Err (NoRoom level)

limit_from : (reached fits enlarges : Bool) (first second : Result Chunk Refusal) (level : ℕ) (chunk : Chunk)
    (committed limit need : ℕ)
    → grown_by reached fits enlarges first second level chunk ≡ Err (CommitLimit committed limit need)
    → (first ≡ Err (CommitLimit committed limit need)) ⊎ (second ≡ Err (CommitLimit committed limit need))
limit_from true fits enlarges first second level chunk committed limit need is = absurd (cc)
limit_from false true enlarges first second level chunk committed limit need is = inl is
limit_from false false true first second level chunk committed limit need is = inr is
limit_from false false false first second level chunk committed limit need is = cc

no_room_within : (fits : Bool) (a b d level : ℕ) (chunk : Chunk)
    → (if fits then Ok chunk else Err (CommitLimit a b d)) ≡ Err (NoRoom level) → ⊥
no_room_within true a b d level chunk is = cc
no_room_within false a b d level chunk is = cc

no_room_from : (reached fits enlarges : Bool) (first second : Result Chunk Refusal) (told level : ℕ) (chunk : Chunk)
    → (first ≡ Err (NoRoom level) → ⊥) → (second ≡ Err (NoRoom level) → ⊥)
    → grown_by reached fits enlarges first second told chunk ≡ Err (NoRoom level) → (fits ≡ false) × (level ≡ told)
no_room_from true fits enlarges first second told level chunk never nor is = cc
no_room_from false true enlarges first second told level chunk never nor is = absurd (never is)
no_room_from false false true first second told level chunk never nor is = absurd (nor is)
no_room_from false false false first second told level chunk never nor is = (refl, cc)

grow_limit : (pool : PoolState) (chunk : Chunk) (total : ℕ) (may_enlarge : Bool) (committed limit need : ℕ)
    → grown pool chunk total may_enlarge ≡ Err (CommitLimit committed limit need)
    → (limit ≡ pool.limits.granules) × (limit < committed + need)
grow_limit pool chunk total may_enlarge committed limit need is =
    elim (limit_from (nat_le total chunk.front) (nat_le total (size_of chunk.level))
    (nat_le total (2 * size_of chunk.level) && may_enlarge && may_become_parent pool chunk)
    (within_limit pool (with_front pool chunk total)) (within_limit pool (parent_with_front pool chunk total))
    chunk.level chunk committed limit need is) [
      | inl is ↦ within_tells pool (with_front pool chunk total) committed limit need is
      | inr is ↦ within_tells pool (parent_with_front pool chunk total) committed limit need is
    ]

grow_room : (pool : PoolState) (chunk : Chunk) (total : ℕ) (may_enlarge : Bool) (level : ℕ)
    → grown pool chunk total may_enlarge ≡ Err (NoRoom level) → (level ≡ chunk.level) × (size_of chunk.level < total)
grow_room pool chunk total may_enlarge level is =
    let parts =
    no_room_from (nat_le total chunk.front) (nat_le total (size_of chunk.level))
    (nat_le total (2 * size_of chunk.level) && may_enlarge && may_become_parent pool chunk)
    (within_limit pool (with_front pool chunk total)) (within_limit pool (parent_with_front pool chunk total))
    chunk.level level chunk
    (no_room_within
    (nat_le (committed_count pool + granules_missing pool (with_front pool chunk total)) pool.limits.granules)
    (committed_count pool) pool.limits.granules
    (granules_missing pool (with_front pool chunk total)) level (with_front pool chunk total))
    (no_room_within
    (nat_le (committed_count pool + granules_missing pool (parent_with_front pool chunk total))
    pool.limits.granules) (committed_count pool) pool.limits.granules
    (granules_missing pool (parent_with_front pool chunk total)) level (parent_with_front pool chunk total)) is in
    let past = leb-false total (size_of chunk.level) parts.0 in (parts.1, omega arith)

pub grow_tells : (before : Ledger) (limits : Limits) (account : AccountState) (start total : ℕ) (may_enlarge : Bool)
    (result : Result Span Refusal) (later : Ledger)
    → before.limits ≡ limits → Grew before account start total may_enlarge result later
    → GrowTells limits account start total result
grow_tells before limits account start total may_enlarge (Ok span) later same grew = tt
grow_tells before limits account start total may_enlarge (Err (CommitLimit committed limit need)) later same grew =
    let tells =
    grow_limit (state_in account.space before) grew.chunk total may_enlarge committed limit need grew.after.0 in
    (tells.0 ∙ ap (λ (l : Limits). l.granules) same, tells.1)
grow_tells before limits account start total may_enlarge (Err (NoRoom level)) later same grew =
    let tells = grow_room (state_in account.space before) grew.chunk total may_enlarge level grew.after.0 in
    record {
      index = grew.index;
      chunk = grew.chunk;
      found = grew.found;
      starts = grew.starts;
      level_is = tells.0;
      past = tells.1;
    }
grow_tells before limits account start total may_enlarge (Err _) later same grew = tt

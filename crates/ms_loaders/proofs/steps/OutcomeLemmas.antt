-- What an allocation asked of the pool, by what it answers: nothing, a greater chunk or another
-- one; or a refusal, and why.
use Rattle.std.proofs.Common.{◌≡◌, ◌+◌, ◌-◌, ℕ, zero, suc, ◌⊎◌, Bool, true, false, not, ◌&&◌, Option, Some, None}
use Rattle.std.proofs.Common.{Result, Ok, Err, List, [], ◌∷◌, ◌++◌, length, map, refl, sym, ap, ◌∙◌, subst, arith}
use Rattle.std.proofs.Common.{if◌then◌else◌}
use Rattle.std.specs.Prelude.{⊤, nat_le, ◌*◌, ◌≤◌, slice_get, slice_set}
use Rattle.std.proofs.lemmas.Bool.{and_parts, or_parts, both_ways, lt-ltb, and_from, not-true}
use Rattle.std.proofs.lemmas.Nat.{pow_pos}
use Rattle.ms_base.specs.declared.kind.Space.{Space}
use Rattle.ms_base.specs.declared.span.Chunk.{Chunk}
use Rattle.ms_base.specs.declared.span.Span.{Span}
use Rattle.ms_base.specs.declared.span.Block.{Block}
use Rattle.ms_base.specs.declared.refusal.Refusal.{Refusal}
use Rattle.ms_base.specs.declared.refusal.Refusal.TheVariants.{CommitLimit, ReserveLimit, OutOfMemory, NoRoom}
use Rattle.ms_base.specs.Interval.{meet, meets_any, are_apart}
use Rattle.ms_base.specs.Level.{size_of, level_that_holds}
use Rattle.ms_base.specs.Held.{words_of}
use Rattle.ms_base.specs.Live.{block_words}
use Rattle.ms_base.specs.State.{ArenaState, PoolState}
use Rattle.ms_base.specs.Place.{placed, placed_in, place_at_top, best_fit, current, current_top, last_index, with_top}
use Rattle.ms_base.specs.Place.{with_used, retired_chunk}
use Rattle.ms_base.specs.Asks.{wanted_level}
use Rattle.ms_base.specs.PoolSteps.Causes.{meets_reserve_limit, meets_commit_limit, committed_count, node_limit, granules_needed}
use Rattle.ms_base.specs.PoolSteps.Causes.{granules_missing}
use Rattle.ms_base.specs.PoolSteps.Pick.{chunk_picked}
use Rattle.ms_base.specs.PoolSteps.{taken, grown, within_limit, with_front, parent_with_front, may_become_parent}
use Rattle.ms_pool.specs.Lending.{span_of, chunk_at, reaching, parent_of}
use Rattle.ms_pool.specs.Tallies.{Tallies}
use Rattle.ms_pool.specs.Ledger.{Ledger, state_in, with_lent, with_grown}
use Rattle.ms_pool.specs.Account.{AccountState}
use Rattle.ms_pool.specs.Calls.{tallied, Lends, Took, Grew}
use Rattle.ms_pool.proofs.ledger.GrewLemmas.{grow_refused_raises}
use Rattle.ms_arena.specs.Arena.{ArenaView, IsAskable, PlaceRefused}
use Rattle.ms_arena.specs.Alloc.{TakeRelation, GrowRelation}

-- The pool is as it was, tallies aside.
pub record SameBut (old new : Ledger) : Type 0 where
  pub tallies : Tallies
  pub is : new ≡ tallied old tallies

-- Why the pool lends no chunk.
abbrev pub TakeCause : PoolState → ℕ → ℕ → ℕ → Refusal → Type 0
TakeCause pool p m words (CommitLimit committed limit need) =
    taken pool p m words ≡ Err (CommitLimit committed limit need)
TakeCause pool p m words (ReserveLimit nodes limit) = taken pool p m words ≡ Err (ReserveLimit nodes limit)
TakeCause pool p m words OutOfMemory = ⊤
TakeCause pool p m words _ = ⊥

-- What a chunk that is lent, or that grows, makes of the pool, tallies aside.
abbrev pub TookAtAll : TakeRelation Ledger
TookAtAll old account wanted most words (Ok span) new = Lends old account wanted most words span new
TookAtAll old account wanted most words (Err refusal) new =
    TakeCause (state_in account.space old) wanted most words refusal × SameBut old new

abbrev pub GrewAtAll : GrowRelation Ledger
GrewAtAll old account start total may_enlarge (Ok span) new = Grew old account start total may_enlarge (Ok span) new
GrewAtAll old account start total may_enlarge (Err refusal) new = SameBut old new

-- So it is of the pool's own calls.
pub took_at_all : (old : Ledger) (account : AccountState) (wanted most words : ℕ) (answer : Result Span Refusal)
    (new : Ledger) → Took old account wanted most words answer new
    → TookAtAll old account wanted most words answer new
took_at_all old account wanted most words (Ok span) new lends = lends
took_at_all old account wanted most words (Err (CommitLimit committed limit need)) new refused =
    (refused.0, record { tallies = _; is = refused.1 })
took_at_all old account wanted most words (Err (ReserveLimit nodes limit)) new refused =
    (refused.0, record { tallies = _; is = refused.1 })
took_at_all old account wanted most words (Err OutOfMemory) new refused =
    (tt, record { tallies = old.tallies; is = refused.1 })
took_at_all old account wanted most words (Err _) new refused = absurd refused

pub grew_at_all : (old : Ledger) (account : AccountState) (start total : ℕ) (may_enlarge : Bool)
    (answer : Result Span Refusal) (new : Ledger) → Grew old account start total may_enlarge answer new
    → GrewAtAll old account start total may_enlarge answer new
grew_at_all old account start total may_enlarge (Ok span) new grew = grew
grew_at_all old account start total may_enlarge (Err refusal) new grew =
    let raises = grow_refused_raises old account grew.chunk total may_enlarge refusal new grew.after in
    record { tallies = raises.tallies; is = raises.is }

-- The current chunk grew.
pub record GrownBy (space : Space) (old new : Ledger) (before after : ArenaState) : Type 0 where
  pub chunk : Chunk
  pub greater : Chunk
  pub total : ℕ
  pub may : Bool
  pub at_it : current before ≡ Some chunk
  pub grows : grown (state_in space old) chunk total may ≡ Ok greater
  pub chunks : after.chunks ≡ slice_set before.chunks (last_index before) greater
  pub ledger : new ≡ with_grown old greater

-- Another chunk was lent.
pub record LentBy (space : Space) (owner n : ℕ) (old new : Ledger) (before after : ArenaState) : Type 0 where
  pub chunk : Chunk
  pub p : ℕ
  pub m : ℕ
  pub picks : taken (state_in space old) p m n ≡ Ok chunk
  pub chunks : after.chunks ≡ before.chunks ++ chunk ∷ []
  pub tallies : Tallies
  pub ledger : new ≡ with_lent (tallied old tallies) space owner chunk

-- A block was made.
pub record IsMade (was : ArenaView) (words : ℕ) (old : Ledger) (block : Block) (is : ArenaView)
    (new : Ledger) : Type 0 where
  pub askable : IsAskable words
  pub words_are : block.words ≡ block_words words
  pub how : ((is.books.chunks ≡ was.books.chunks) × (new ≡ old)) ⊎ GrownBy was.space old new was.books is.books
      ⊎ LentBy was.space was.owner (block_words words) old new was.books is.books

-- No block was made.
pub record IsNotMade (was : ArenaView) (words : ℕ) (old : Ledger) (refusal : Refusal) (new : Ledger) : Type 0 where
  pub ledger : SameBut old new
  pub cause : PlaceRefused words refusal
      ⊎ (IsAskable words
      × TakeCause (state_in was.space old) (wanted_level was.kind was.space was.books (block_words words))
      (level_that_holds (block_words words)) (block_words words) refusal)

abbrev pub Outcome : ArenaView → ℕ → Ledger → Result Block Refusal → ArenaView → Ledger → Type 0
Outcome was words old (Ok block) is new = IsMade was words old block is new
Outcome was words old (Err refusal) is new = IsNotMade was words old refusal new

-- The chunk that is lent has a front for the words.
abbrev lent : Chunk → Result Chunk Refusal
lent chunk = Ok chunk

same_chunk : (a b : Chunk) → lent a ≡ lent b → b ≡ a
same_chunk a b e = cc

pub picked_is : (pool : PoolState) (p m words : ℕ) (chunk : Chunk) → taken pool p m words ≡ Ok chunk
    → chunk ≡ chunk_picked pool p m words
picked_is pool p m words chunk is = go (meets_reserve_limit pool m) (meets_commit_limit pool p m words) is
  where
    go : (a b : Bool)
        → (if a then Err (ReserveLimit (length pool.slots) (node_limit pool)) else if b then Err
        (CommitLimit (committed_count pool) pool.limits.granules (granules_needed pool p m words)) else Ok
        (chunk_picked pool p m words)) ≡ Ok chunk
        → chunk ≡ chunk_picked pool p m words
    go true b e = absurd (cc)
    go false true e = absurd (cc)
    go false false e = same_chunk (chunk_picked pool p m words) chunk e

pub front_is : (pool : PoolState) (p m words : ℕ) (chunk : Chunk) → taken pool p m words ≡ Ok chunk
    → chunk_at pool.limits.policy (span_of chunk) words ≡ chunk
front_is pool p m words chunk is =
    let its = picked_is pool p m words chunk is in
    subst (λ (c : Chunk). chunk_at pool.limits.policy (span_of c) words ≡ c) (sym its) refl

-- The chunk that is grown reaches the words.
pub grown_is : (pool : PoolState) (chunk greater : Chunk) (total : ℕ) (may : Bool)
    → grown pool chunk total may ≡ Ok greater → greater ≡ reaching pool.limits.policy chunk total
grown_is pool chunk greater total may is =
    go (nat_le total chunk.front) (nat_le total (size_of chunk.level))
    (nat_le total (2 * size_of chunk.level) && may && may_become_parent pool chunk) is
  where
    limited : (one : Chunk) → within_limit pool one ≡ Ok greater → greater ≡ one
    limited one e = pick (nat_le (committed_count pool + granules_missing pool one) pool.limits.granules) e
      where
        pick : (b : Bool)
            → (if b then Ok one else Err
            (CommitLimit (committed_count pool) pool.limits.granules (granules_missing pool one))) ≡ Ok greater
            → greater ≡ one
        pick true e = same_chunk one greater e
        pick false e = absurd (cc)

    go : (a b c : Bool)
        → (if a then Ok chunk else if b then within_limit pool (with_front pool chunk total) else if c then within_limit
        pool (parent_with_front pool chunk total) else Err (NoRoom chunk.level)) ≡ Ok greater
        → greater
        ≡ (if a then chunk else if b then chunk_at pool.limits.policy (span_of chunk) total else chunk_at
        pool.limits.policy (parent_of chunk) total)
    go true b c e = same_chunk chunk greater e
    go false true c e = limited (with_front pool chunk total) e
    go false false true e = limited (parent_with_front pool chunk total) e
    go false false false e = absurd (cc)

-- Of chunks that are apart, those that start at one word are one.
not_met : (run : ℕ × ℕ) (chunks : List Chunk) (index : ℕ) (chunk : Chunk) → slice_get chunks index ≡ Some chunk
    → meets_any run (map words_of chunks) ≡ false
    → meet run.0 run.1 chunk.start (size_of chunk.level) ≡ false
not_met run [] index chunk found clear = absurd (cc)
not_met run (c ∷ chunks) zero chunk found clear =
    let its : c ≡ chunk = cc in
    subst (λ (one : Chunk). meet run.0 run.1 one.start (size_of one.level) ≡ false) its
    (or_parts (meet run.0 run.1 c.start (size_of c.level)) (meets_any run (map words_of chunks)) clear).0
not_met run (c ∷ chunks) (suc index) chunk found clear =
    not_met run chunks index chunk found
    (or_parts (meet run.0 run.1 c.start (size_of c.level)) (meets_any run (map words_of chunks)) clear).1

starts_meet : (a b m n : ℕ) → a ≡ b → 1 ≤ m → 1 ≤ n → meet a m b n ≡ true
starts_meet a b m n same some more =
    and_from _ _ (lt-ltb a (b + n) (omega (arith, same, more))) (lt-ltb b (a + m) (omega (arith, same, some)))

pub one_there : (chunks : List Chunk) (i j : ℕ) (a b : Chunk) → are_apart (map words_of chunks) ≡ true
    → slice_get chunks i ≡ Some a → slice_get chunks j ≡ Some b
    → a.start ≡ b.start → a ≡ b
one_there [] i j a b apart at_i at_j same = absurd (cc)
one_there (c ∷ chunks) zero zero a b apart at_i at_j same = cc
one_there (c ∷ chunks) zero (suc j) a b apart at_i at_j same =
    let both = and_parts (not (meets_any (words_of c) (map words_of chunks))) (are_apart (map words_of chunks)) apart in
    let its : c ≡ a = cc in
    absurd (both_ways _ (not_met (words_of c) chunks j b at_j (not-true _ both.0))
    (starts_meet c.start b.start (size_of c.level) (size_of b.level) (ap (λ (one : Chunk). one.start) its ∙ same)
    (pow_pos (19 - c.level)) (pow_pos (19 - b.level))))
one_there (c ∷ chunks) (suc i) zero a b apart at_i at_j same =
    let both = and_parts (not (meets_any (words_of c) (map words_of chunks))) (are_apart (map words_of chunks)) apart in
    let its : c ≡ b = cc in
    absurd (both_ways _ (not_met (words_of c) chunks i a at_i (not-true _ both.0))
    (starts_meet c.start a.start (size_of c.level) (size_of a.level) (ap (λ (one : Chunk). one.start) its ∙ sym same)
    (pow_pos (19 - c.level)) (pow_pos (19 - a.level))))
one_there (c ∷ chunks) (suc i) (suc j) a b apart at_i at_j same =
    one_there chunks i j a b
    (and_parts (not (meets_any (words_of c) (map words_of chunks))) (are_apart (map words_of chunks)) apart).1 at_i
    at_j same

pub retired_chunks : (arena : ArenaState) (o : Option Chunk) → (retired_chunk arena o).chunks ≡ arena.chunks
retired_chunks arena None = refl
retired_chunks arena (Some chunk) = refl

-- A placed block changes no chunk.
pub placed_chunks : (arena : ArenaState) (n : ℕ) (index : ℕ × ArenaState) → placed arena n ≡ Some index
    → index.1.chunks ≡ arena.chunks
placed_chunks arena n index is = go (best_fit arena.kept n) is
  where
    at_top : (o : Option Chunk) → place_at_top arena o n ≡ Some index → index.1.chunks ≡ arena.chunks
    at_top None e = absurd (cc)
    at_top (Some chunk) e = pick (nat_le (current_top arena + n) chunk.front) e
      where
        pick : (b : Bool)
            → (if b then Some (chunk.start + current_top arena, with_top arena (current_top arena + n)) else None)
            ≡ Some index → index.1.chunks ≡ arena.chunks
        pick true e = let its : (chunk.start + current_top arena, with_top arena (current_top arena + n)) ≡ index =
            cc in sym (ap (λ (one : ℕ × ArenaState). one.1.chunks) its)
        pick false e = absurd (cc)

    go : (o : Option (ℕ × ℕ)) → placed_in arena o n ≡ Some index → index.1.chunks ≡ arena.chunks
    go (Some run) e = let its : (run.0, with_used arena run n) ≡ index =
        cc in sym (ap (λ (one : ℕ × ArenaState). one.1.chunks) its)
    go None e = at_top (current arena) e

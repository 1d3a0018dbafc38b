-- What `Books::take` and `Books::grow` make of an allocation as a whole. `start_in_taken`,
-- `start_in_chunk` and `Arena::alloc` use it.
use Rattle.std.proofs.Common.{◌≡◌, ℕ, Bool, Result, Ok, Err, List, refl, ap, ◌∙◌, subst, arith}
use Rattle.std.specs.Result.{IfOk, IfErr}
use Rattle.ms_base.specs.declared.policy.Policy.{Policy}
use Rattle.ms_base.specs.declared.kind.Kind.{Kind}
use Rattle.ms_base.specs.declared.span.Block.{Block}
use Rattle.ms_base.specs.declared.span.Chunk.{Chunk}
use Rattle.ms_base.specs.declared.refusal.Refusal.{Refusal}
use Rattle.ms_base.specs.Level.{level_that_holds}
use Rattle.ms_base.specs.State.{ArenaState}
use Rattle.ms_base.specs.Asks.{wanted_level}
use Rattle.ms_pool.specs.Account.{AreChunks}
use Rattle.ms_arena.specs.Arena.{block_at, with_books, with_zeros}
use Rattle.ms_arena.specs.Alloc.{GrowRelation, TakeRelation, TakesNew}
use Rattle.ms_arena.specs.Books.{AwaitsBlock, BooksView, HasGrown, HasTaken, Leaves, account_in, arena_over, answer_at}
use Rattle.ms_arena.specs.Books.{arena_then}

-- A chunk was taken, or refused.
pub takes_from : {S : Type 0} (took : TakeRelation S) (policy : Policy) (old : BooksView) (kind : Kind)
    (live : List (ℕ × List ℕ)) (wanted most n : ℕ) (before : S) (result : Result ℕ Refusal) (new : ArenaState)
    (after : S)
    → wanted ≡ wanted_level kind old.space old.state n → most ≡ level_that_holds n
    → IfOk result (λ start. HasTaken took policy old wanted most n before start new after)
    → IfErr result (λ refusal. took before (account_in old) wanted most n (Err refusal) after)
    → TakesNew took policy (arena_over old kind live) n before (answer_at result n)
    (arena_then (arena_over old kind live) new result n) after
takes_from took policy old kind live wanted most n before (Ok start) new after wants holds taken refused = record {
  lent = Ok taken.span;
  asked = subst (λ (l : ℕ). took before (account_in old) l (level_that_holds n) n (Ok taken.span) after) wants
      (subst (λ (l : ℕ). took before (account_in old) wanted l n (Ok taken.span) after) holds taken.asked);
  follows = (
    ap (λ (s : ℕ). let answer : Result Block Refusal = Ok (block_at s n) in answer) taken.starts,
    ap (λ (s : ℕ). with_zeros (with_books (arena_over old kind live) new) s n) taken.starts
        ∙ ap (λ (s : ArenaState). with_zeros (with_books (arena_over old kind live) s) taken.span.start n) taken.state,
  );
}
takes_from took policy old kind live wanted most n before (Err refusal) new after wants holds taken refused = record {
  lent = Err refusal;
  asked = subst (λ (l : ℕ). took before (account_in old) l (level_that_holds n) n (Err refusal) after) wants
      (subst (λ (l : ℕ). took before (account_in old) wanted l n (Err refusal) after) holds refused);
  follows = (refl, refl);
}

-- Books whose current chunk grew leave what a placement does.
pub grown_leaves : {S : Type 0} (grew : GrowRelation S) (policy : Policy) (old : BooksView) (chunk : Chunk) (total : ℕ)
    (may : Bool) (before : S) (new : BooksView) (after : S) (n start : ℕ)
    → HasGrown grew policy old chunk total may before new after → AwaitsBlock old.state new.state start n
    → AreChunks new.space new.state.chunks → Leaves old n (Ok start) new
grown_leaves grew policy old chunk total may before new after n start grown awaits chunks = record {
  awaits = awaits;
  chunks = chunks;
  room = omega (arith, ap (λ (books : BooksView). books.room) grown.state);
  owner = ap (λ (books : BooksView). books.owner) grown.state;
  space = ap (λ (books : BooksView). books.space) grown.state;
  unchanged = tt;
}

-- Books stay books where a chunk is taken and the former one retires. For `Books::take`.
use Rattle.std.proofs.Common.{◌≡◌, ◌≤◌, ◌+◌, ◌-◌, ℕ, Option, Some, None, List, [], ◌∷◌, ◌++◌}
use Rattle.std.proofs.Common.{length, refl, sym, ap, ◌∙◌, subst, arith, length-append, sum}
use Rattle.std.specs.Prelude.{slice_index}
use Rattle.std.specs.Option.{option_map, IfSome}
use Rattle.std.proofs.lemmas.List.Sums.{sum_by_push}
use Rattle.ms_base.specs.declared.kind.Space.{Space}
use Rattle.ms_base.specs.declared.policy.Policy.{Policy}
use Rattle.ms_base.specs.declared.span.Chunk.{Chunk}
use Rattle.ms_base.specs.declared.span.Span.{Span}
use Rattle.ms_base.specs.Level.{size_of}
use Rattle.ms_base.specs.State.{ArenaState}
use Rattle.ms_base.specs.Place.{current, current_top, last_index, tops_with, with_rest, with_top, with_chunk}
use Rattle.ms_base.specs.Place.{with_taken, retired, retired_chunk}
use Rattle.ms_base.proofs.arena.RaisedLemmas.{index_within}
use Rattle.ms_base.proofs.arena.TopLemmas.{tops_pushed}
use Rattle.ms_base.proofs.granules.FrontLemmas.{front_reaches}
use Rattle.ms_base.proofs.free.HalvesLemmas.{size_falls}
use Rattle.ms_blocks.specs.FreeBlocks.{MayBeKept}
use Rattle.ms_pool.specs.Account.{AccountState, AreChunks}
use Rattle.ms_pool.specs.Lending.{Adds, chunk_at}
use Rattle.ms_arena.specs.Books.{BooksView, AreBooks, Awaits, AwaitsBlock, MayRetire}
use Rattle.ms_arena.specs.Books.{tops_retired, kept_retired}
use Rattle.ms_arena.proofs.ChunkLemmas.{bounded_at}
use Rattle.ms_arena.proofs.AwaitLemmas.{awaits_in_taken, rest_awaits}
use Rattle.ms_arena.proofs.BookLemmas.{current_bounded, awaits_block, length_raised}

-- The current chunk and its top, if there is one.
pub record IsFormer (state : ArenaState) (former : Option (Chunk × ℕ)) : Type 0 where
  pub found : option_map (λ (at : Chunk × ℕ). at.0) former ≡ current state
  pub top : IfSome former (λ (at : Chunk × ℕ). at.1 ≡ current_top state)

pub former_of : (books now : BooksView) (former : Option (Chunk × ℕ)) → books ≡ now
    → option_map (λ (at : Chunk × ℕ). at.0) former ≡ current now.state
    → IfSome former (λ (at : Chunk × ℕ). at.1 ≡ current_top now.state) → IsFormer books.state former
former_of books now former same found top =
    subst (λ (b : BooksView). IsFormer b.state former) (sym same) (record { found = found; top = top })

-- The current chunk may retire, and what the arena is then.
pub may_retire : (space : Space) (state : ArenaState) (counted : ℕ) (former : Option (Chunk × ℕ))
    → AreBooks space state counted
    → IsFormer state former → MayRetire state.tops state.kept former
may_retire space state counted None books was = tt
may_retire space state counted (Some at) books was =
    let its = sym was.found in
    let top = was.top in
    let bounds = bounded_at space state.chunks (last_index state) at.0 books.chunks its in
    record {
      last = omega (arith, books.each, index_within state.chunks (last_index state) at.0 its);
      top_is = ap (λ (n : ℕ). slice_index state.tops (n - 1)) books.each ∙ sym top;
      bounds = current_bounded space state counted at.1 at.0 books its top;
      size = bounds.size;
      rest = λ some. subst (λ (t : ℕ). MayBeKept state.kept (at.0.start + t, at.0.front - t)) (sym top) (record {
        some = omega (arith, some, top);
        apart = (rest_awaits space state [] at.0 books.chunks its (omega (arith, some, top)) books.sound).clear;
      });
    }

retired_is : (state : ArenaState) (former : Option (Chunk × ℕ)) → length state.tops ≡ length state.chunks
    → option_map (λ (at : Chunk × ℕ). at.0) former ≡ current state → IfSome former (λ at. at.1 ≡ current_top state)
    → ◌≡◌ {A = ArenaState}
    (record { chunks = state.chunks; tops = tops_retired state.tops former; kept = kept_retired state.kept former })
    (retired state)
retired_is state None each found top = ap (retired_chunk state) found
retired_is state (Some at) each found top =
    ap (λ (n : ℕ).
    let s : ArenaState =
    record {
      chunks = state.chunks;
      tops = tops_with state.tops (n - 1) at.0.front;
      kept = with_rest state.kept (at.0.start + at.1) (at.0.front - at.1);
    } in s) each
    ∙ ap (λ (t : ℕ).
    let s : ArenaState =
    record {
      chunks = state.chunks;
      tops = tops_with state.tops (last_index state) at.0.front;
      kept = with_rest state.kept (at.0.start + t) (at.0.front - t);
    } in s) top
    ∙ ap (retired_chunk state) found

length_retired : (tops : List ℕ) (kept : List (ℕ × ℕ)) (former : Option (Chunk × ℕ)) → MayRetire tops kept former
    → length (tops_retired tops former) ≡ length tops
length_retired tops kept None may = refl
length_retired tops kept (Some at) may = length_raised tops (length tops - 1) at.0.front (omega (arith, may.last))

-- The books once a chunk was taken.
pub record Taken (policy : Policy) (state new : ArenaState) (span : Span) (n : ℕ) : Type 0 where
  pub state_is : new ≡ with_taken state (chunk_at policy span n) n
  pub each : length new.tops ≡ length new.chunks
  pub awaits : AwaitsBlock state new span.start n

pub taken_books : (policy : Policy) (space : Space) (state : ArenaState) (counted wanted most n : ℕ)
    (former : Option (Chunk × ℕ)) (old : AccountState) (span : Span) (new : AccountState) (tops tops' : List ℕ)
    (kept : List (ℕ × ℕ))
    → AreBooks space state counted → IsFormer state former → old.chunks ≡ state.chunks → old.space ≡ space
    → Adds policy wanted most n old span new → AreChunks new.space new.chunks → 2 ≤ n → n ≤ size_of most
    → tops ≡ tops_retired state.tops former → tops' ≡ tops ++ n ∷ [] → kept ≡ kept_retired state.kept former
    → Taken policy state (record { chunks = new.chunks; tops = tops'; kept = kept }) span n
taken_books policy space state counted wanted most n former old span new tops tops' kept books was_current chunks spaces
    adds are long fits retires pushed keeps = record {
      state_is = same;
      each = omega (
        arith,
        ap length pushed,
        length-append tops (n ∷ []),
        ap length retires,
        length_retired state.tops state.kept former (may_retire space state counted former books was_current),
        books.each,
        ap length new_chunks,
        length-append state.chunks (chunk ∷ []),
      );
      awaits = awaits_block space state (record { chunks = new.chunks; tops = tops'; kept = kept }) span.start n
          books.sound inside (λ live sound. subst (λ (s : ArenaState). Awaits s live (span.start, n)) (sym same)
          (awaits_in_taken space state live chunk n books.chunks (subst (AreChunks space) new_chunks inside) long reach
          sound));
    }
  where
    inside : AreChunks space new.chunks
    inside = subst (λ (one : Space). AreChunks one new.chunks)
        (ap (λ (a : AccountState). a.space) adds.after ∙ spaces) are

    chunk : Chunk
    chunk = chunk_at policy span n

    new_chunks : new.chunks ≡ state.chunks ++ chunk ∷ []
    new_chunks = ap (λ (a : AccountState). a.chunks) adds.after ∙ ap (λ (l : List Chunk). l ++ chunk ∷ []) chunks

    reach : n ≤ chunk.front
    reach = front_reaches policy span.level n
        (omega (
          arith,
          fits,
          size_falls span.level most (omega (arith, adds.at_most)),
        ))

    was : ◌≡◌ {A = ArenaState} (record { chunks = state.chunks; tops = tops; kept = kept }) (retired state)
    was = ap (λ (l : List ℕ). let s : ArenaState = record { chunks = state.chunks; tops = l; kept = kept } in s) retires
        ∙ ap (λ (l : List (ℕ × ℕ)).
        let s : ArenaState = record { chunks = state.chunks; tops = tops_retired state.tops former; kept = l } in s)
        keeps
        ∙ retired_is state former books.each was_current.found was_current.top

    index : last_index (record { chunks = state.chunks ++ chunk ∷ []; tops = tops; kept = kept }) ≡ length tops
    index = omega (
      arith,
      length-append state.chunks (chunk ∷ []),
      ap length retires,
      length_retired state.tops state.kept former (may_retire space state counted former books was_current),
      books.each,
    )

    pushed_is : tops'
        ≡ tops_with tops (last_index (record { chunks = state.chunks ++ chunk ∷ []; tops = tops; kept = kept })) n
    pushed_is = pushed ∙ sym (tops_pushed tops n) ∙ ap (λ (p : ℕ). tops_with tops p n) (sym index)

    same : ◌≡◌ {A = ArenaState} (record { chunks = new.chunks; tops = tops'; kept = kept }) (with_taken state chunk n)
    same = ap (λ (l : List Chunk). let s : ArenaState = record { chunks = l; tops = tops'; kept = kept } in s)
        new_chunks
        ∙ ap (λ (l : List ℕ). let s : ArenaState = record { chunks = state.chunks ++ chunk ∷ []; tops = l; kept = kept }
        in s) pushed_is
        ∙ ap (λ (s : ArenaState). with_top (with_chunk s chunk) n) was

pub books_taken : (policy : Policy) (space : Space) (state new : ArenaState) (counted before now n : ℕ) (span : Span)
    (tops : List ℕ) → AreBooks space state counted
    → (other : Space) → AreChunks other new.chunks → Taken policy state new span n → new.tops ≡ tops ++ n ∷ []
    → before ≡ sum tops → now ≡ before + n
    → AreBooks other new now
books_taken policy space state new counted before now n span tops books other are taken pushed summed more = record {
  chunks = are;
  each = taken.each;
  used = omega (arith, ap sum pushed, sum_by_push (λ (t : ℕ). t) tops n, summed, more);
  sound = (taken.awaits.each [] books.sound).sound;
}

-- What a raw arena's calls do is what a bare one's are said to do; and a block that may be live may be
-- freed.
use Rattle.std.proofs.Common.{◌≡◌, ◌≤◌, ◌<◌, ℕ, true, false, Option, Some, None, Result, Ok, Err, List, [], ◌∷◌, ◌++◌}
use Rattle.std.proofs.Common.{length, refl, sym, ap, ◌∙◌, subst, arith, IfOk, IfSome, IfNone, OnErr, length-append}
use Rattle.std.proofs.lemmas.Bool.{or_parts}
use Rattle.std.proofs.lemmas.Bool.Decides.{nat_tests}
use Rattle.std.proofs.lemmas.List.Folds.{list_any-append}
use Rattle.ms_base.specs.declared.kind.Kind.{Kind}
use Rattle.ms_base.specs.declared.kind.Space.{Space}
use Rattle.ms_base.specs.declared.span.Block.{Block}
use Rattle.ms_base.specs.declared.refusal.Refusal.{Refusal}
use Rattle.ms_base.specs.Interval.{meet, meets_any}
use Rattle.ms_base.specs.Names.{named, without}
use Rattle.ms_base.specs.State.{ArenaState}
use Rattle.ms_base.specs.Good.{IsSound}
use Rattle.ms_base.proofs.arena.KeptLemmas.{IsTakenOut, sound_with_live, sound_with_kept, live_taken_out}
use Rattle.ms_base.proofs.entries.EntryLemmas.{Split, split_at, Gap, gap_at}
use Rattle.ms_pool.specs.Account.{AccountState}
use Rattle.ms_arena.specs.Arena.{Places}
use Rattle.ms_arena.specs.Books.{Awaits}
use Rattle.ms_arena.specs.Raw.{RawArenaView, Gains, FreesRun, IsNewRaw, IsSameRaw, live_with}
use Rattle.ms_member.specs.declared.member.bare.BareArenas.{BareArenas}
use Rattle.ms_member.specs.Bare.{BareView, bare_of, arena_with, new_bare, MayHave, MayHaveBlock, GainsLive, FreesLive}
use Rattle.ms_member.specs.Hosted.{bare_in, with_bare, PlacesBare}

-- One that has nothing yet.
pub new_shows : (account : AccountState) (kind : Kind) (raw : RawArenaView) → account.chunks ≡ [] → IsNewRaw account kind raw
    → bare_of raw ≡ new_bare account kind
new_shows account kind raw none its =
    rw (its.owner, its.space, its.kind_is, its.count, its.books, none) refl

-- No live block starts where one comes.
meets_itself : (a m n : ℕ) → 2 ≤ m → 2 ≤ n → meet a m a n ≡ true
meets_itself a m n h k = grind (arith, nat_tests)

none_there : (old new : ArenaState) (start n : ℕ) (runs : List (ℕ × ℕ)) → IsSound old runs → Awaits new runs (start, n)
    → named runs start ≡ None
none_there old new start n runs sound awaits = none (named runs start) refl
  where
    clear : (b a : List (ℕ × ℕ)) (m : ℕ) → meets_any (start, n) (b ++ (start, m) ∷ a) ≡ false → meet start n start m ≡ false
    clear b a m h =
        let both = or_parts (meets_any (start, n) b) (meets_any (start, n) ((start, m) ∷ a))
        (sym (list_any-append (λ (r : ℕ × ℕ). meet start n r.0 r.1) b ((start, m) ∷ a)) ∙ h) in
        (or_parts (meet start n start m) (meets_any (start, n) a) both.1).0

    of_runs : meets_any (start, n) runs ≡ false
    of_runs = (or_parts (meets_any (start, n) runs) (meets_any (start, n) new.kept)
        (sym (list_any-append (λ (r : ℕ × ℕ). meet start n r.0 r.1) runs new.kept) ∙ awaits.clear)).0

    none : (found : Option ℕ) → named runs start ≡ found → named runs start ≡ None
    none None is = is
    none (Some m) is =
        let split = split_at runs start m is in
        let out = live_taken_out old split.before (start, m) split.after (subst (IsSound old) split.is sound) in
        let apart = clear split.before split.after m (sym (ap (meets_any (start, n)) split.is) ∙ of_runs) in
        let meets = meets_itself start n m awaits.long out.fits.long in absurd (cc (apart, meets))

-- A block comes.
pub gains_live : (old new : RawArenaView) (block : Block) → Gains old block new
    → GainsLive (bare_of old) block (bare_of new)
gains_live old new block gains runs may = record {
  sound = subst (IsSound new.books) (sym (gap.made block.words))
      (sound_with_live new.books gap.before run gap.after (record {
        clear = awaits.clear;
        used = awaits.used;
        long = awaits.long;
      }) awaits.sound);
  counted = omega (
    arith,
    gains.count,
    may.counted,
    ap length gap.is,
    ap length (gap.made block.words),
    length-append gap.before gap.after,
    length-append gap.before (run ∷ gap.after),
  );
}
  where
    run : ℕ × ℕ
    run = (block.start, block.words)

    gap : Gap runs block.start
    gap = gap_at runs block.start
        (none_there old.books new.books block.start block.words runs may.sound (gains.awaits.each runs may.sound))

    awaits : Awaits new.books (gap.before ++ gap.after) run
    awaits = subst (λ (l : List (ℕ × ℕ)). Awaits new.books l run) gap.is (gains.awaits.each runs may.sound)

-- What its calls answer.
pub gains_placed : (old new : RawArenaView) (answer : Result (Option Block) Refusal)
    → IfOk answer (λ found. IfSome found (λ block. Gains old block new))
    → IfOk answer (λ found. IfSome found (λ block. GainsLive (bare_of old) block (bare_of new)))
gains_placed old new (Ok (Some block)) gains = gains_live old new block gains
gains_placed old new (Ok None) gains = tt
gains_placed old new (Err refusal) gains = tt

pub gains_asked : (old new : RawArenaView) (answer : Result Block Refusal) → IfOk answer (λ block. Gains old block new)
    → IfOk answer (λ block. GainsLive (bare_of old) block (bare_of new))
gains_asked old new (Ok block) gains = gains_live old new block gains
gains_asked old new (Err refusal) gains = tt

pub none_placed : (old new : RawArenaView) (answer : Result (Option Block) Refusal)
    → IfOk answer (λ found. IfNone found (IsSameRaw old new))
    → IfOk answer (λ found. IfNone found (bare_of new ≡ bare_of old))
none_placed old new (Ok None) same = ap bare_of same.rest
none_placed old new (Ok (Some block)) same = tt
none_placed old new (Err refusal) same = tt

pub stays_bare : {X : Type 0} (old new : RawArenaView) (answer : Result X Refusal) → OnErr answer (IsSameRaw old new)
    → OnErr answer (bare_of new ≡ bare_of old)
stays_bare old new (Err refusal) same = ap bare_of same.rest
stays_bare old new (Ok x) same = tt

-- What bare arenas place.
pub placed_bare : (space : Space) (words : ℕ) (old : BareArenas) (is : BareView) (answer : Result (Option Block) Refusal)
    → ((live : List (ℕ × List ℕ)) → IfOk answer
    (λ found. Places (arena_with (bare_in space old) live) words found (arena_with is (live_with live found))))
    → IfOk answer (λ found. IfSome found (λ block. GainsLive (bare_in space old) block is))
    → IfOk answer (λ found. IfNone found (is ≡ bare_in space old))
    → IfOk answer (λ found. PlacesBare space words old found (with_bare space old is))
placed_bare space words old is (Ok found) places gains none =
    record { is = is; placing = places; gains = gains; none = none; new_is = refl }
placed_bare space words old is (Err refusal) places gains none = tt

-- One goes that may be live.
sound_alone : (arena : ArenaState) (runs : List (ℕ × ℕ)) → IsSound arena runs → IsSound arena []
sound_alone arena [] sound = sound
sound_alone arena (run ∷ runs) sound = sound_alone arena runs (live_taken_out arena [] run runs sound).sound

pub record MayFree (raw : RawArenaView) (block : Block) : Type 0 where
  pub some : 0 < raw.count
  pub awaits : Awaits raw.books [] (block.start, block.words)

pub may_free : (raw : RawArenaView) (block : Block) → MayHaveBlock (bare_of raw) block → MayFree raw block
may_free raw block its = record {
  some = omega (arith, its.may.counted, ap length split.is, length-append split.before (run ∷ split.after));
  awaits = record {
    sound = sound_alone raw.books (split.before ++ split.after) out.sound;
    clear = (or_parts (meets_any run (split.before ++ split.after)) (meets_any run raw.books.kept)
        (sym (list_any-append (λ (r : ℕ × ℕ). meet block.start block.words r.0 r.1) (split.before ++ split.after)
        raw.books.kept)
        ∙ out.fits.clear)).1;
    used = out.fits.used;
    long = out.fits.long;
  };
}
  where
    run : ℕ × ℕ
    run = (block.start, block.words)

    split : Split its.runs block.start block.words
    split = split_at its.runs block.start block.words its.found

    out : IsTakenOut raw.books (split.before ++ split.after) run
    out = live_taken_out raw.books split.before run split.after (subst (IsSound raw.books) split.is its.may.sound)

pub frees_live : (old new : RawArenaView) (block : Block) → FreesRun old block new
    → FreesLive (bare_of old) block (bare_of new)
frees_live old new block frees = record { after = ap bare_of frees; others = others }
  where
    others : (runs : List (ℕ × ℕ)) → MayHave (bare_of old) runs → named runs block.start ≡ Some block.words
        → MayHave (bare_of new) (without runs block.start)
    others runs may found = record {
      sound = subst (λ (books : ArenaState). IsSound books (without runs block.start))
          (sym (ap (λ (raw : RawArenaView). raw.books) frees))
          (subst (IsSound (record old.books { kept = _ })) (sym split.gone)
          (sound_with_kept old.books (split.before ++ split.after) run out.fits out.sound));
      counted = omega (
        arith,
        ap (λ (raw : RawArenaView). raw.count) frees,
        may.counted,
        ap length split.is,
        ap length split.gone,
        length-append split.before split.after,
        length-append split.before (run ∷ split.after),
      );
    }
      where
        run : ℕ × ℕ
        run = (block.start, block.words)

        split : Split runs block.start block.words
        split = split_at runs block.start block.words found

        out : IsTakenOut old.books (split.before ++ split.after) run
        out = live_taken_out old.books split.before run split.after (subst (IsSound old.books) split.is may.sound)

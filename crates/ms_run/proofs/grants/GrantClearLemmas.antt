-- A block that was made over the lock meets none of its loader's, in either space. For the lemmas
-- of `answer`.
use Rattle.std.proofs.Common.{◌≡◌, ◌+◌, ◌≤◌, ℕ, Bool, true, false, cond, Some, None, Result, Ok, Err, List}
use Rattle.std.proofs.Common.{[], ◌∷◌, ◌++◌, refl, sym, ap, ◌∙◌, inl, inr, arith}
use Rattle.std.specs.Prelude.{nat_le, nat_lt}
use Rattle.std.specs.List.{AllByRecursion, filter, list_any, list_all, zip}
use Rattle.std.proofs.lemmas.Bool.{and_parts, and_from, or_parts, or_from, or_cases, leb-true, le-leb}
use Rattle.std.proofs.lemmas.Bool.Decides.{nat_tests}
use Rattle.std.proofs.lemmas.List.{append_assoc, length-replicate}
use Rattle.std.proofs.lemmas.List.Folds.{list_any-append, list_all-append}
use Rattle.std.proofs.lemmas.List.Elements.{recursion_from_All}
use Rattle.ms_base.specs.declared.kind.Space.{Space}
use Rattle.ms_base.specs.declared.kind.Space.TheVariants.{NonClass, Class}
use Rattle.ms_base.specs.declared.policy.Policy.{Policy}
use Rattle.ms_base.specs.declared.span.Chunk.{Chunk}
use Rattle.ms_base.specs.declared.span.Block.{Block}
use Rattle.ms_base.specs.Live.{LiveBlock}
use Rattle.ms_base.specs.declared.refusal.Refusal.{Refusal}
use Rattle.ms_base.specs.Interval.{meet, meets_any, lies_in}
use Rattle.ms_base.specs.Level.{size_of}
use Rattle.ms_base.specs.Part.{IsPart, slot_of}
use Rattle.ms_base.specs.Spaces.{IsSlotOf, is_in, first_class_word}
use Rattle.ms_base.specs.Names.{named, with_new}
use Rattle.ms_base.specs.Live.{block_words, run_of, runs_of, runs_in}
use Rattle.ms_base.specs.State.{arena_of}
use Rattle.ms_base.specs.Transition.{zeroed}
use Rattle.ms_base.specs.Run.Alone.{AddsOwnBlock}
use Rattle.ms_base.proofs.entries.EntryLemmas.{Gap, gap_at}
use Rattle.ms_base.proofs.runs.ApartLemmas.{list_all-rest_of}
use Rattle.ms_base.proofs.arena.BlockLemmas.{is_run_in, run_in, runs_in_split, runs_in_joined, run_in_here}
use Rattle.ms_base.proofs.machine.BlocksApartLemmas.{middle_is_clear}
use Rattle.ms_base.proofs.granules.GranuleLemmas.{ends_in_node}
use Rattle.ms_arena.specs.Arena.{IsAskable}
use Rattle.ms_loader.specs.Loader.{LoaderView, IsSoundView, AllocatesBlock}
use Rattle.ms_shared.specs.SeatView.{SeatState}
use Rattle.ms_shared.specs.LockCalls.{TookOver, GrewOver}
use Rattle.ms_run.proofs.grants.GrantToldLemmas.{own_part, tells}

-- Live blocks outside the class space end below it.
abbrev ends_below : ℕ × ℕ → Bool
ends_below run = nat_le (run.0 + run.1) first_class_word

used_below : (chunks : List Chunk) (tops : List ℕ) (run : ℕ × ℕ)
    → AllByRecursion (λ (chunk : Chunk). IsPart chunk.start chunk.level) chunks
    → AllByRecursion (λ (chunk : Chunk). IsSlotOf NonClass (slot_of chunk.start)) chunks
    → AllByRecursion (λ (chunk : Chunk). (1 ≤ chunk.front) × (chunk.front ≤ size_of chunk.level)) chunks
    → list_all (λ (used : Chunk × ℕ). nat_le used.1 used.0.front) (zip chunks tops) ≡ true
    → list_any (λ (used : Chunk × ℕ). lies_in run (used.0.start, used.1)) (zip chunks tops) ≡ true
    → ends_below run ≡ true
used_below [] tops run parts slots fronts within used = absurd (cc)
used_below (c ∷ chunks) [] run parts slots fronts within used = absurd (cc)
used_below (c ∷ chunks) (t ∷ tops) run parts slots fronts within used =
    let both =
    and_parts (nat_le t c.front) (list_all (λ (one : Chunk × ℕ). nat_le one.1 one.0.front) (zip chunks tops)) within
    in
    elim (or_cases (lies_in run (c.start, t))
    (list_any (λ (one : Chunk × ℕ). lies_in run (one.0.start, one.1)) (zip chunks tops)) used) [
      | inl here ↦
          let ends = and_parts (nat_le c.start run.0) (nat_le (run.0 + run.1) (c.start + t)) here in
          le-leb (run.0 + run.1) first_class_word
          (omega (
            arith,
            leb-true (run.0 + run.1) (c.start + t) ends.1,
            leb-true t c.front both.0,
            fronts.0.1,
            ends_in_node c.start c.level parts.0,
            slots.0,
          ))
      | inr later ↦ used_below chunks tops run parts.1 slots.1 fronts.1 both.1 later
    ]

all_below : (v : LoaderView) (runs : List (ℕ × ℕ)) → IsSoundView v
    → list_all
    (λ (run : ℕ × ℕ). list_any (λ (used : Chunk × ℕ). lies_in run (used.0.start, used.1))
    (zip v.state.arena.chunks v.state.arena.tops)) runs ≡ true
    → list_all ends_below runs ≡ true
all_below v [] sound used = refl
all_below v (run ∷ runs) sound used =
    let chunks = v.state.arena.chunks in
    let in_use =
    λ (one : ℕ × ℕ). list_any (λ (used : Chunk × ℕ). lies_in one (used.0.start, used.1))
    (zip chunks v.state.arena.tops) in
    let both = and_parts (in_use run) (list_all in_use runs) used in
    and_from (ends_below run) (list_all ends_below runs)
    (used_below chunks v.state.arena.tops run (recursion_from_All _ chunks (sound.chunks NonClass).parts)
    (recursion_from_All _ chunks (sound.chunks NonClass).inside)
    (recursion_from_All _ chunks (sound.chunks NonClass).fronts) (sound.sound.arenas NonClass).tops both.0)
    (all_below v runs sound both.1)

blocks_below : (v : LoaderView) → IsSoundView v → list_all ends_below (runs_in NonClass v.state.blocks) ≡ true
blocks_below v sound =
    let in_use =
    λ (one : ℕ × ℕ). list_any (λ (used : Chunk × ℕ). lies_in one (used.0.start, used.1))
    (zip v.state.arena.chunks v.state.arena.tops) in
    all_below v (runs_in NonClass v.state.blocks) sound
    (and_parts (list_all in_use (runs_in NonClass v.state.blocks)) (list_all in_use v.state.arena.kept)
    (sym (list_all-append in_use (runs_in NonClass v.state.blocks) v.state.arena.kept)
    ∙ (sound.sound.arenas NonClass).inside)).0

-- A run that meets none of the runs of its space meets none of the other's.
clear_low : (run : ℕ × ℕ) (runs : List (ℕ × ℕ)) → ends_below run ≡ true
    → meets_any run (filter (is_run_in NonClass) runs) ≡ false → meets_any run runs ≡ false
clear_low run [] low clear = refl
clear_low run (r ∷ runs) low clear =
    let met = meet run.0 run.1 r.0 r.1 in
    let rest = filter (is_run_in NonClass) runs in
    elim (nat_lt r.0 first_class_word) as (λ b. nat_lt r.0 first_class_word ≡ b
    → meets_any run (cond b (r ∷ rest) rest) ≡ false → meets_any run (r ∷ runs) ≡ false) [
      | true ↦ λ here clear. let both = or_parts met (meets_any run rest) clear in
          or_from met (meets_any run runs) both.0 (clear_low run runs low both.1)
      | false ↦ λ past clear. or_from met (meets_any run runs) (beyond run.0 run.1 r.0 r.1 first_class_word low past)
          (clear_low run runs low clear)
    ] refl clear
  where
    beyond : (a m b n first : ℕ) → nat_le (a + m) first ≡ true → nat_lt b first ≡ false → meet a m b n ≡ false
    beyond a m b n first low past = grind (arith, nat_tests)

clear_high : (run : ℕ × ℕ) (runs : List (ℕ × ℕ)) → is_in Class run.0 ≡ true
    → list_all ends_below (filter (is_run_in NonClass) runs) ≡ true
    → meets_any run (filter (is_run_in Class) runs) ≡ false → meets_any run runs ≡ false
clear_high run [] high lows clear = refl
clear_high run (r ∷ runs) high lows clear =
    let met = meet run.0 run.1 r.0 r.1 in
    let rest = filter (is_run_in NonClass) runs in
    let own = filter (is_run_in Class) runs in
    elim (nat_lt r.0 first_class_word) as (λ b. nat_lt r.0 first_class_word ≡ b
    → list_all ends_below (cond b (r ∷ rest) rest) ≡ true
    → meets_any run (cond (nat_le first_class_word r.0) (r ∷ own) own) ≡ false → meets_any run (r ∷ runs) ≡ false) [
      | true ↦ λ here lows clear.
          let both = and_parts (ends_below r) (list_all ends_below rest) lows in
          or_from met (meets_any run runs) (beyond run.0 run.1 r.0 r.1 first_class_word high both.0)
          (clear_high run runs high both.1 (rw (not_class r.0 first_class_word here) at clear))
      | false ↦ λ past lows clear.
          let both = or_parts met (meets_any run own) (rw (in_class r.0 first_class_word past) at clear) in
          or_from met (meets_any run runs) both.0 (clear_high run runs high lows both.1)
    ] refl lows clear
  where
    beyond : (a m b n first : ℕ) → nat_le first a ≡ true → nat_le (b + n) first ≡ true → meet a m b n ≡ false
    beyond a m b n first high low = grind (arith, nat_tests)

    not_class : (b first : ℕ) → nat_lt b first ≡ true → nat_le first b ≡ false
    not_class b first here = grind (arith, nat_tests)

    in_class : (b first : ℕ) → nat_lt b first ≡ false → nat_le first b ≡ true
    in_class b first past = grind (arith, nat_tests)

-- The new block meets none that was there.
at_run : (test : ℕ × ℕ → Bool) (b : List (ℕ × ℕ)) (run : ℕ × ℕ) (a : List (ℕ × ℕ)) → list_all test (b ++ run ∷ a) ≡ true
    → test run ≡ true
at_run test b run a all =
    (and_parts (test run) (list_all test a)
    (and_parts (list_all test b) (list_all test (run ∷ a)) (sym (list_all-append test b (run ∷ a)) ∙ all)).1).0

module _ (was is : LoaderView) (block : ℕ) (fresh : LiveBlock) (unused : named was.state.blocks block ≡ None)
    (sound : IsSoundView is)
    (now : is.state.blocks ≡ with_new was.state.blocks block fresh) where
  gap : Gap was.state.blocks block
  gap = gap_at was.state.blocks block unused

  runs_now : (space : Space)
      → runs_in space is.state.blocks ≡ runs_in space gap.before ++ (run_in space fresh ++ runs_in space gap.after)
  runs_now space = ap (runs_in space) (now ∙ gap.made fresh) ∙ runs_in_split space gap.before gap.after block fresh

  runs_then : (space : Space) → runs_in space was.state.blocks ≡ runs_in space gap.before ++ runs_in space gap.after
  runs_then space = ap (runs_in space) gap.is ∙ runs_in_joined space gap.before gap.after

  runs_here : (space : Space) → is_in space fresh.start ≡ true
      → runs_in space is.state.blocks ≡ runs_in space gap.before ++ run_of fresh ∷ runs_in space gap.after
  runs_here space here =
      runs_now space
      ∙ ap (λ (l : List (ℕ × ℕ)). runs_in space gap.before ++ (l ++ runs_in space gap.after))
      (run_in_here space fresh here)

  own_clear : (space : Space) → is_in space fresh.start ≡ true
      → meets_any (run_of fresh) (runs_in space was.state.blocks) ≡ false
  own_clear space here = ap (meets_any (run_of fresh)) (runs_then space)
      ∙ (or_parts (meets_any (run_of fresh) (b ++ a)) (meets_any (run_of fresh) kept)
      (sym (list_any-append (λ (run : ℕ × ℕ). meet (run_of fresh).0 (run_of fresh).1 run.0 run.1) (b ++ a) kept)
      ∙ ap (meets_any (run_of fresh)) (append_assoc b a kept) ∙ clear)).0
    where
      b : List (ℕ × ℕ)
      b = runs_in space gap.before

      a : List (ℕ × ℕ)
      a = runs_in space gap.after

      kept : List (ℕ × ℕ)
      kept = (arena_of space is.state).kept

      clear : meets_any (run_of fresh) (b ++ (a ++ kept)) ≡ false
      clear = middle_is_clear b (run_of fresh) (a ++ kept)
          (rw (ap (λ (l : List (ℕ × ℕ)). l ++ kept) (runs_here space here)
          ∙ append_assoc b (run_of fresh ∷ a) kept) at (sound.sound.arenas space).apart)

  all_clear : (space : Space) → is_in space fresh.start ≡ true
      → meets_any (run_of fresh) (runs_of was.state.blocks) ≡ false
  all_clear NonClass here = clear_low (run_of fresh) (runs_of was.state.blocks)
      (at_run ends_below (runs_in NonClass gap.before) (run_of fresh) (runs_in NonClass gap.after)
      (ap (list_all ends_below) (sym (runs_here NonClass here)) ∙ blocks_below is sound))
      (own_clear NonClass here)
  all_clear Class here = clear_high (run_of fresh) (runs_of was.state.blocks) here
      (ap (list_all ends_below) (runs_then NonClass)
      ∙ list_all-rest_of ends_below (runs_in NonClass gap.before) (run_in NonClass fresh) (runs_in NonClass gap.after)
      (ap (list_all ends_below) (sym (runs_now NonClass)) ∙ blocks_below is sound))
      (own_clear Class here)

-- So a block that was made is one that the loader's own lines allow.
abbrev made_block : Block → Result Block Refusal
made_block made = Ok made

pub is_added : (space : Space) (policy : Policy) (old new : SeatState) (was is : LoaderView) (block words : ℕ)
    (made : Block)
    → AllocatesBlock GrewOver TookOver policy space was block words old (Ok made) is new → IsSoundView is
    → AddsOwnBlock (own_part was) space block words made.start (Some (own_part is))
is_added space policy old new was is block words made (inl refused) sound =
    absurd (let e : made_block made ≡ Err refused.refusal = refused.answer_is in cc)
is_added space policy old new was is block words made (inr asks) sound = (
  (asks.unused, how.0.some, how.0.fits),
  asks.follows.0,
  ap (λ (n : ℕ). meets_any (made.start, n) (runs_of was.state.blocks)) (sym (length-replicate (block_words words) 0))
      ∙ all_clear was is block (zeroed made.start (block_words words)) asks.unused sound blocks space asks.follows.0,
  ap (λ (v : LoaderView). Some (own_part v)) asks.follows.1
      ∙ ap (λ (n : ℕ). Some (record (own_part was) { blocks = with_new was.state.blocks block (zeroed made.start n) }))
      how.1,
)
  where
    how : IsAskable words × (made.words ≡ block_words words)
    how = tells policy asks.was words old (Ok made) asks.is new asks.allocates

    blocks : is.state.blocks ≡ with_new was.state.blocks block (zeroed made.start (block_words words))
    blocks = ap (λ (v : LoaderView). v.state.blocks) asks.follows.1
        ∙ ap (λ (n : ℕ). with_new was.state.blocks block (zeroed made.start n)) how.1

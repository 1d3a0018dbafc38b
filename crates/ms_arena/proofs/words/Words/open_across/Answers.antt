use Rattle.std.proofs.Common.{◌/◌, ◌∙◌, ◌<◌, ◌+◌, ℕ, arith, inl, inr, subst, sym}
use Rattle.std.proofs.lemmas.Bool.{cases_eq}
use Rattle.ms_arena.specs.Positions.{position_of}
use Rattle.ms_arena.specs.Words.{WordsView}
use Rattle.ms_arena.proofs.PositionLemmas.{word_in_stretch}
use Rattle.ms_arena.proofs.words.Words.open_across.Goals as goal
use Rattle.ms_arena.proofs.words.Words.open_across.Goals.{then-has_none, else-has_none+else-loop-stretch-test}

pub loop-stretch-preserved : goal.loop-stretch-preserved
loop-stretch-preserved c =
    let so_far = c.loop-stretch.invariant in
    let opens = c.open_in.ensures.opens in
    let stretch = c.loop-stretch.stretch in
    record {
      zero = λ word low high below. elim (cases_eq (word / 2048) stretch) [
        | inl same ↦ opens.zero word same low high
        | inr differ ↦ opens.elsewhere word differ ∙ so_far.zero word low high (omega (arith, below, differ))
      ];
      here = λ word low high below. elim (cases_eq (word / 2048) stretch) [
        | inl same ↦ opens.here word same
        | inr differ ↦ opens.there word (so_far.here word low high (omega (arith, below, differ)))
      ];
      there = λ word there. opens.there word (so_far.there word there);
      before = λ word low. opens.before word low ∙ so_far.before word low;
      after = λ word high. opens.after word high ∙ so_far.after word high;
      room = omega (arith, so_far.room, c.open_in.ensures.room, c.loop-stretch.auto.stretch);
    }

pub note-requires-clause-positions : goal.note-requires-clause-positions
note-requires-clause-positions c = λ stretch low high.
    let has = word_in_stretch c.args.start (c.args.start + c.args.n) stretch (omega (arith, c.requires.some)) low
    (omega (arith, high, c.div_ceil-past.ensures)) in
    let placed : 0 < position_of c.if-has_none.self.positions stretch =
    elim c.if-has_none.branch [
      | then-has_none w ↦ subst (λ (words : WordsView). 0 < position_of words.positions stretch) (sym w.self-is)
          (subst (λ (n : ℕ). 0 < position_of w.give.new.self.positions n) has.lies
          (w.give.ensures.here has.word (omega (arith, has.lies, low)) (omega (arith, has.lies, high))))
      | else-has_none+else-loop-stretch-test w ↦ subst (λ (words : WordsView). 0 < position_of words.positions stretch) (sym w.self-is)
          (subst (λ (n : ℕ). 0 < position_of w.loop-stretch.self.positions n) has.lies
          (w.loop-stretch.invariant.here has.word has.low has.high (omega (arith, has.lies, high, w.loop-stretch-test.false))))
    ] in
    subst (λ (words : WordsView). 0 < position_of words.positions stretch) (sym c.self-2.view_is) placed

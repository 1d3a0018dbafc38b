-- A worked example: the moments of HistoryExamples follow one another, each event as it may happen,
-- and are a spread.
use Rattle.std.proofs.Common.{◌≡◌, ℕ, zero, suc, true, false, [], ◌∷◌, Some, refl, ap, ◌∙◌, inl, inr, arith}
use Rattle.std.specs.Prelude.{◌==◌}
use Rattle.std.proofs.lemmas.List.Elements.{All-from_recursion}
use Rattle.ms_base.specs.declared.kind.Kind.TheVariants.{Standard}
use Rattle.ms_base.specs.declared.kind.Space.{Space}
use Rattle.ms_base.specs.declared.kind.Space.TheVariants.{NonClass, Class}
use Rattle.ms_base.specs.declared.step.Step.TheVariants.{Alloc, Calloc}
use Rattle.ms_base.specs.declared.step.Reply.TheVariants.{At, Refused}
use Rattle.ms_base.specs.declared.refusal.Refusal.TheVariants.{CommitLimit}
use Rattle.ms_base.specs.Names.{named}
use Rattle.ms_base.specs.State.{arena_of, empty_loader}
use Rattle.ms_base.specs.Live.{runs_in}
use Rattle.ms_base.specs.Good.{IsSound}
use Rattle.ms_base.specs.Run.Event.{opening, taking, growing, purging, telling, acting, accepted, lent, counted, told}
use Rattle.ms_base.specs.Run.Event.{replied, refused, Happens, loader_of_event}
use Rattle.ms_base.specs.Run.Spread.{Moment, Follow, IsWhole, IsByItself, IsAskedFor, words_asked, AreWhole}
use Rattle.ms_base.specs.Run.Spread.{IsSpread, not_asked, parts_by}
use Rattle.ms_base.proofs.examples.StepExamples.{chunk, with_one_block}
use Rattle.ms_base.proofs.examples.StepExamples.{none_rise, one_rises}
use Rattle.ms_base.proofs.examples.SpreadExamples.{arena_with}
use Rattle.ms_base.proofs.examples.FollowExamples.{is_sound, some_name}
use Rattle.ms_base.proofs.examples.HistoryExamples.{names_rise, begun, class_block, made, next_block, too_much}
use Rattle.ms_base.proofs.examples.HistoryExamples.{grown_one, with_next_block, with_class_chunk, with_class_block}
use Rattle.ms_base.proofs.examples.HistoryExamples.{opened, lent_in_class, grown_then, purged_then, placed_in_class}
use Rattle.ms_base.proofs.examples.HistoryExamples.{at_the_end, sums, moments}

-- Each event as it may happen.
is_opened : Happens begun (opening 2 Standard) accepted opened
is_opened = record { numbers = omega arith; made = record { unused = refl; after = refl } }

is_lent_in_class : Happens opened (taking Class 2 11 12 10) (lent (chunk 67108864 11 256)) lent_in_class
is_lent_in_class = record {
  loader = empty_loader Standard;
  has = refl;
  askable = record { order = omega arith; least = omega arith; some = omega arith; fits = omega arith };
  answer = refl;
  inside = refl;
  after = refl;
}

is_grown : Happens lent_in_class (growing NonClass 1 0 515 true) (lent (chunk 0 9 1024)) grown_then
is_grown = record {
  loader = with_one_block;
  index = 0;
  was = chunk 0 10 512;
  asked = record { has = refl; found = refl; starts = refl };
  answer = refl;
  after = refl;
}

is_purged : Happens grown_then purging (counted 1) purged_then
is_purged = record { nodes_are = refl; after = refl }

class_arenas : (space : Space) → IsSound (arena_of space with_class_block) (runs_in space with_class_block.blocks)
class_arenas NonClass =
    record { apart = refl; long = refl; inside = refl; few = omega arith; tops = refl; kept = none_rise }
class_arenas Class =
    record { apart = refl; long = refl; inside = refl; few = omega arith; tops = refl; kept = none_rise }

is_placed_in_class : Happens purged_then (acting (Calloc 2 1 10)) (replied (At 67108864)) placed_in_class
is_placed_in_class = (
  record {
    some = omega arith;
    fits = omega arith;
    before = with_class_chunk;
    with_it = with_class_block;
    has = refl;
    adds = record {
      arena = arena_with (chunk 67108864 11 256 ∷ []) (10 ∷ []);
      unused = refl;
      inside = refl;
      chunks = refl;
      after = refl;
    };
    after = refl;
  },
  λ name loader its has.
      let mine : some_name 2 ≡ some_name name = its in
      let one : 2 ≡ name = cc in
      is_sound with_class_block (record { arenas = class_arenas; names = one_rises 1 }) loader
      (ap (named placed_in_class.loaders) one ∙ has),
)

is_refused : Happens placed_in_class (taking NonClass 2 5 5 9000) (refused (CommitLimit 2 2 2)) placed_in_class
is_refused = record {
  loader = with_class_block;
  has = refl;
  askable = record { order = omega arith; least = omega arith; some = omega arith; fits = omega arith };
  cause = inl refl;
  after = refl;
}

is_told : Happens placed_in_class (telling NonClass) (told sums) placed_in_class
is_told = record { sums_are = refl; after = refl }

next_arenas : (space : Space) → IsSound (arena_of space with_next_block) (runs_in space with_next_block.blocks)
next_arenas NonClass =
    record { apart = refl; long = refl; inside = refl; few = omega arith; tops = refl; kept = none_rise }
next_arenas Class =
    record { apart = refl; long = refl; inside = refl; few = omega arith; tops = refl; kept = none_rise }

is_placed : Happens placed_in_class (acting (Alloc 1 2 505)) (replied (At 10)) at_the_end
is_placed = (
  record {
    some = omega arith;
    fits = omega arith;
    before = grown_one;
    with_it = with_next_block;
    has = refl;
    adds = record {
      arena = arena_with (chunk 0 9 1024 ∷ []) (515 ∷ []);
      unused = refl;
      inside = refl;
      chunks = refl;
      after = refl;
    };
    after = refl;
  },
  λ name loader its has.
      let mine : some_name 1 ≡ some_name name = its in
      let one : 1 ≡ name = cc in
      is_sound with_next_block (record { arenas = next_arenas; names = names_rise }) loader
      (ap (named at_the_end.loaders) one ∙ has),
)

is_passed_on : Happens at_the_end (acting (Alloc 2 2 9000)) (replied (Refused (CommitLimit 2 2 2))) at_the_end
is_passed_on = (
  record {
    lacks = record { loader = with_class_block; loader_is = refl; unused = refl };
    some = omega arith;
    fits = omega arith;
  },
  refl,
)

-- So they are moments of one history.
follow : Follow begun moments at_the_end
follow = (
  refl,
  is_opened,
  (
    refl,
    is_lent_in_class,
    (
      refl,
      is_grown,
      (
        refl,
        is_purged,
        (
          refl,
          is_placed_in_class,
          (refl, is_refused, (refl, is_told, (refl, is_placed, (refl, is_passed_on, refl)))),
        ),
      ),
    ),
  ),
)

-- Each step is whole.
class_block_is_whole : IsWhole class_block
class_block_is_whole = inr (record {
  asked = [];
  rest = class_block.events;
  no_span = not_asked;
  goes_on =
      inl (record {
        p = 11;
        m = 12;
        words = 10;
        chunk = chunk 67108864 11 256;
        at = 67108864;
        served = refl;
        events_are = refl;
      });
  events_are = refl;
})

next_block_is_whole : IsWhole next_block
next_block_is_whole =
    inl (record {
      start = 0;
      total = 515;
      enlarges = true;
      chunk = chunk 0 9 1024;
      at = 10;
      served = refl;
      events_are = refl;
    })

too_much_is_whole : IsWhole too_much
too_much_is_whole = inr (record {
  asked = [];
  rest = too_much.events;
  no_span = not_asked;
  goes_on =
      inr (inl (record { p = 5; m = 5; words = 9000; refusal = CommitLimit 2 2 2; passed = refl; events_are = refl }));
  events_are = refl;
})

-- And they are a spread: each loader's events are whole steps, the purge is one by itself, the
-- totals are nobody's, and the pool is asked as arenas do.
only_known : (name : ℕ) → AreWhole (parts_by name moments)
only_known zero = record { steps = []; whole = All-from_recursion IsWhole [] tt; parts_are = refl }
only_known (suc zero) =
    record {
      steps = next_block ∷ [];
      whole = All-from_recursion IsWhole (next_block ∷ []) (next_block_is_whole, tt);
      parts_are = refl;
    }
only_known (suc (suc zero)) =
    record {
      steps = made ∷ class_block ∷ too_much ∷ [];
      whole = All-from_recursion IsWhole (made ∷ class_block ∷ too_much ∷ [])
          (refl, (class_block_is_whole, (too_much_is_whole, tt)));
      parts_are = refl;
    }
only_known (suc (suc (suc name))) =
    record { steps = []; whole = All-from_recursion IsWhole [] tt; parts_are = rw (first name, second name) refl }
  where
    first : (n : ℕ) → (1 == suc (suc (suc n))) ≡ false
    first n = grind arith

    second : (n : ℕ) → (2 == suc (suc (suc n))) ≡ false
    second n = grind arith

class_chunk_is_asked_for : IsAskedFor opened (taking Class 2 11 12 10) (words_asked (Some class_block))
class_chunk_is_asked_for =
    record { loader = empty_loader Standard; has = refl; wanted = refl; most_is = refl; words_are = refl }

growth_is_asked_for : IsAskedFor lent_in_class (growing NonClass 1 0 515 true) (words_asked (Some next_block))
growth_is_asked_for = record {
  loader = with_one_block;
  chunk = chunk 0 10 512;
  has = refl;
  current_is = refl;
  start_is = refl;
  total_is = refl;
  enlarges_is = refl;
}

chunk_is_asked_for : IsAskedFor placed_in_class (taking NonClass 2 5 5 9000) (words_asked (Some too_much))
chunk_is_asked_for = record { loader = with_class_block; has = refl; wanted = refl; most_is = refl; words_are = refl }

is_spread : IsSpread moments
is_spread = record {
  each = only_known;
  others = All-from_recursion
      (λ (moment : Moment). IsByItself (moment.event, moment.answer) (loader_of_event moment.event) moment.of) moments (
        tt,
        (
          tt,
          (
            tt,
            (
              (record { nodes = 1; done = refl; events_are = refl }, refl, refl),
              (tt, (tt, ((NonClass, refl), (tt, (tt, tt))))),
            ),
          ),
        ),
      );
  asked = All-from_recursion (λ (moment : Moment). IsAskedFor moment.before moment.event (words_asked moment.of))
      moments (
        tt,
        (
          class_chunk_is_asked_for,
          (growth_is_asked_for, (tt, (tt, (chunk_is_asked_for, (tt, (tt, (tt, tt))))))),
        ),
      );
}

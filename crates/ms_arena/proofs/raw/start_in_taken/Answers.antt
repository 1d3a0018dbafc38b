use Rattle.std.proofs.Common.{◌≡◌, ◌≤◌, ℕ, ◌∙◌, ap, sym, subst, arith, rules, min}
use Rattle.ms_base.specs.Level.{size_of, level_that_holds}
use Rattle.ms_base.proofs.free.LevelLemmas.{level_is_greatest}
use Rattle.ms_arena.proofs.AllocLemmas.{takes_from}
use Rattle.ms_arena.proofs.raw.start_in_taken.Goals as goal

pub take-requires : goal.take-requires
take-requires g c =
    let greatest = level_is_greatest c.args.n c.requires.may.fits in
    record {
      served = search rules;
      levels = search rules;
      may = record {
        some = c.requires.may.some;
        fits = subst (λ (level : ℕ). c.args.n ≤ size_of level) (sym c.in-Some.ensures.level)
            ((greatest.holds (level_that_holds c.args.n) greatest.below).1 (omega arith));
        room = c.requires.may.room;
        spare_tops = c.requires.may.spare_tops;
      };
    }

pub returns-clause-takes : goal.returns-clause-takes
returns-clause-takes g c = λ kind next_is live.
    let least : c.min.result ≡ min c.in-Some.most c.args.next = search rules in
    takes_from _ _ c.args.books.now kind live _ _ c.args.n c.args.source.now c.take.result _ _
    (least ∙ ap (λ (level : ℕ). min level c.args.next) c.in-Some.ensures.level
    ∙ ap (λ (level : ℕ). min (level_that_holds c.args.n) level) next_is)
    c.in-Some.ensures.level c.take.ensures.taken c.take.ensures.refused

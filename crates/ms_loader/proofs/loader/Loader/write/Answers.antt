use Rattle.std.proofs.Common.{◌+◌, sym, ◌∙◌, arith}
use Rattle.ms_base.specs.declared.kind.Space.TheVariants.{NonClass, Class}
use Rattle.ms_loader.specs.LoaderInside.{live_at, view_of}
use Rattle.ms_loader.proofs.MappedLemmas.{missing-mapped}
use Rattle.ms_loader.proofs.calls.ViewLemmas.{view_is_sound, words_at}
use Rattle.ms_loader.proofs.calls.NamedRunLemmas.{not_class}
use Rattle.ms_loader.proofs.calls.LoaderLemmas.{IsDone, ends_somewhere, its_run, past_somewhere}
use Rattle.ms_loader.proofs.calls.ReplacedLemmas.{with_arena_at}
use Rattle.ms_loader.proofs.calls.LoaderLemmas.{word_is_written}
use Rattle.ms_loader.specs.Loader.{WritesWord}
use Rattle.ms_loader.proofs.loader.Loader.write.Goals as goal
use Rattle.ms_loader.proofs.loader.Loader.write.Goals.{After-write, After-write-else-is_class}

pub returns-in_default-clause-refused : goal.returns-in_default-clause-refused
returns-in_default-clause-refused c =
    rw (← c.self.view_is)
    (missing-mapped (live_at (words_at c.self.inside)) c.self.inside.names.entries c.args.name
    (sym c.in_default.ensures.block))

pub returns-in_default-clause-sound : goal.returns-in_default-clause-sound
returns-in_default-clause-sound c = rw (← c.self.view_is) (view_is_sound c.self.inside c.self.invariant)

pub returns-then-index-block-clause-refused : goal.returns-then-index-block-clause-refused
returns-then-index-block-clause-refused c =
    rw (← c.self.view_is)
    (past_somewhere c.self.inside c.self.invariant c.args.name c.in-Some.block c.args.index
    (sym c.in-Some.ensures.block) c.if-index-block.true)

pub returns-then-index-block-clause-sound : goal.returns-then-index-block-clause-sound
returns-then-index-block-clause-sound c =
    rw (← c.self.view_is) (view_is_sound c.self.inside c.self.invariant)

pub overflow_add-word : goal.overflow_add-word
overflow_add-word c =
    omega (
      arith,
      c.if-index-block.false,
      ends_somewhere c.self.inside c.self.invariant c.args.name c.in-Some.block (sym c.in-Some.ensures.block),
    )

pub write-requires : goal.write-requires
write-requires c =
    (its_run c.self.inside c.self.invariant Class c.args.name c.in-Some.block (sym c.in-Some.ensures.block)
    (sym c.is_class.ensures ∙ c.if-is_class.true)).each (c.in-Some.block.start + c.args.index) (omega arith)
    (omega (arith, c.if-index-block.false))

pub write-requires-else-is_class : goal.write-requires-else-is_class
write-requires-else-is_class c =
    (its_run c.self.inside c.self.invariant NonClass c.args.name c.in-Some.block (sym c.in-Some.ensures.block)
    (not_class c.in-Some.block.start (sym c.is_class.ensures ∙ c.if-is_class.false))).each
    (c.in-Some.block.start + c.args.index) (omega arith) (omega (arith, c.if-index-block.false))

-- The loader after it.
in_class : (c : After-write) → IsDone c.self.inside (WritesWord (view_of c.self.inside).state c.args.name c.args.index c.args.value)
    (with_arena_at Class c.self.inside c.write.new.self c.self.inside.names)
in_class c =
    word_is_written c.self.inside c.self.invariant Class c.args.name c.in-Some.block (sym c.in-Some.ensures.block)
    (sym c.is_class.ensures ∙ c.if-is_class.true) c.args.index c.args.value c.write.new.self
    (omega (arith, c.if-index-block.false)) c.write.ensures.words c.write.ensures.others

elsewhere : (c : After-write-else-is_class) → IsDone c.self.inside (WritesWord (view_of c.self.inside).state c.args.name c.args.index c.args.value)
    (with_arena_at NonClass c.self.inside c.write-else-is_class.new.self c.self.inside.names)
elsewhere c =
    word_is_written c.self.inside c.self.invariant NonClass c.args.name c.in-Some.block (sym c.in-Some.ensures.block)
    (not_class c.in-Some.block.start (sym c.is_class.ensures ∙ c.if-is_class.false)) c.args.index c.args.value
    c.write-else-is_class.new.self (omega (arith, c.if-index-block.false)) c.write-else-is_class.ensures.words
    c.write-else-is_class.ensures.others

pub invariant_of-self : goal.invariant_of-self
invariant_of-self c =
    (in_class (goal.at.invariant_of-self c).After-write).loader

pub returns-then-is_class-clause-written : goal.returns-then-is_class-clause-written
returns-then-is_class-clause-written c = rw (← c.self.view_is)
    (in_class (goal.at.returns-then-is_class-clause-written c).After-write).done

pub returns-then-is_class-clause-sound : goal.returns-then-is_class-clause-sound
returns-then-is_class-clause-sound c =
    (view_is_sound _ (in_class (goal.at.returns-then-is_class-clause-sound c).After-write).loader)

pub invariant_of-self-else-is_class : goal.invariant_of-self-else-is_class
invariant_of-self-else-is_class c =
    (elsewhere (goal.at.invariant_of-self-else-is_class c).After-write-else-is_class).loader

pub returns-else-is_class-clause-written : goal.returns-else-is_class-clause-written
returns-else-is_class-clause-written c = rw (← c.self.view_is)
    (elsewhere (goal.at.returns-else-is_class-clause-written c).After-write-else-is_class).done

pub returns-else-is_class-clause-sound : goal.returns-else-is_class-clause-sound
returns-else-is_class-clause-sound c =
    (view_is_sound _ (elsewhere (goal.at.returns-else-is_class-clause-sound c).After-write-else-is_class).loader)

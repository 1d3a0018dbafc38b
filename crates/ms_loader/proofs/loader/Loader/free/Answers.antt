use Rattle.std.proofs.Common.{sym, ◌∙◌}
use Rattle.ms_base.specs.declared.kind.Space.TheVariants.{NonClass, Class}
use Rattle.ms_loader.specs.LoaderInside.{live_at, view_of}
use Rattle.ms_loader.proofs.MappedLemmas.{missing-mapped}
use Rattle.ms_loader.proofs.calls.ViewLemmas.{view_is_sound, words_at}
use Rattle.ms_loader.proofs.calls.NamedRunLemmas.{not_class}
use Rattle.ms_loader.proofs.calls.LoaderLemmas.{IsDone, block_is_freed, block_may_go}
use Rattle.ms_loader.proofs.calls.ReplacedLemmas.{with_arena_at}
use Rattle.ms_loader.specs.Loader.{FreesBlock}
use Rattle.ms_loader.proofs.loader.Loader.free.Goals as goal
use Rattle.ms_loader.proofs.loader.Loader.free.Goals.{After-free, After-free-else-is_class}

pub returns-in_default-clause-refused : goal.returns-in_default-clause-refused
returns-in_default-clause-refused c =
    rw (← c.self.view_is)
    (missing-mapped (live_at (words_at c.self.inside)) c.self.inside.names.entries c.args.name
    (sym c.in_default.ensures.block))

pub returns-in_default-clause-sound : goal.returns-in_default-clause-sound
returns-in_default-clause-sound c = rw c.in_default.ensures.unchanged (view_is_sound c.self.inside c.self.invariant)

pub free-requires-clause-some : goal.free-requires-clause-some
free-requires-clause-some c =
    (block_may_go c.self.inside c.self.invariant Class c.args.name c.in-Some.block (sym c.in-Some.ensures.block)
    (sym c.is_class.ensures ∙ c.if-is_class.true)).some

pub free-requires-clause-awaits : goal.free-requires-clause-awaits
free-requires-clause-awaits c =
    (block_may_go c.self.inside c.self.invariant Class c.args.name c.in-Some.block (sym c.in-Some.ensures.block)
    (sym c.is_class.ensures ∙ c.if-is_class.true)).awaits

pub free-requires-else-is_class-clause-some : goal.free-requires-else-is_class-clause-some
free-requires-else-is_class-clause-some c =
    (block_may_go c.self.inside c.self.invariant NonClass c.args.name c.in-Some.block (sym c.in-Some.ensures.block)
    (not_class c.in-Some.block.start (sym c.is_class.ensures ∙ c.if-is_class.false))).some

pub free-requires-else-is_class-clause-awaits : goal.free-requires-else-is_class-clause-awaits
free-requires-else-is_class-clause-awaits c =
    (block_may_go c.self.inside c.self.invariant NonClass c.args.name c.in-Some.block (sym c.in-Some.ensures.block)
    (not_class c.in-Some.block.start (sym c.is_class.ensures ∙ c.if-is_class.false))).awaits

-- The loader after it.
in_class : (c : After-free) → IsDone c.self.inside (FreesBlock (view_of c.self.inside).state c.args.name)
    (with_arena_at Class c.self.inside c.free.new.self c.remove.new.self)
in_class c =
    block_is_freed c.self.inside c.self.invariant Class c.args.name c.in-Some.block (sym c.in-Some.ensures.block)
    (sym c.is_class.ensures ∙ c.if-is_class.true) c.free.new.self c.remove.new.self c.remove.ensures.entries
    c.free.ensures

elsewhere : (c : After-free-else-is_class)
    → IsDone c.self.inside (FreesBlock (view_of c.self.inside).state c.args.name)
    (with_arena_at NonClass c.self.inside c.free-else-is_class.new.self c.remove.new.self)
elsewhere c =
    block_is_freed c.self.inside c.self.invariant NonClass c.args.name c.in-Some.block (sym c.in-Some.ensures.block)
    (not_class c.in-Some.block.start (sym c.is_class.ensures ∙ c.if-is_class.false)) c.free-else-is_class.new.self
    c.remove.new.self c.remove.ensures.entries c.free-else-is_class.ensures

pub invariant_of-self-then-is_class : goal.invariant_of-self-then-is_class
invariant_of-self-then-is_class c = (in_class (goal.at.invariant_of-self-then-is_class c).After-free).loader

pub returns-then-is_class-clause-freed : goal.returns-then-is_class-clause-freed
returns-then-is_class-clause-freed c = rw (← c.self.view_is)
    (in_class (goal.at.returns-then-is_class-clause-freed c).After-free).done

pub returns-then-is_class-clause-sound : goal.returns-then-is_class-clause-sound
returns-then-is_class-clause-sound c =
    view_is_sound _ (in_class (goal.at.returns-then-is_class-clause-sound c).After-free).loader

pub invariant_of-self-else-is_class : goal.invariant_of-self-else-is_class
invariant_of-self-else-is_class c =
    (elsewhere (goal.at.invariant_of-self-else-is_class c).After-free-else-is_class).loader

pub returns-else-is_class-clause-freed : goal.returns-else-is_class-clause-freed
returns-else-is_class-clause-freed c = rw (← c.self.view_is)
    (elsewhere (goal.at.returns-else-is_class-clause-freed c).After-free-else-is_class).done

pub returns-else-is_class-clause-sound : goal.returns-else-is_class-clause-sound
returns-else-is_class-clause-sound c =
    view_is_sound _ (elsewhere (goal.at.returns-else-is_class-clause-sound c).After-free-else-is_class).loader

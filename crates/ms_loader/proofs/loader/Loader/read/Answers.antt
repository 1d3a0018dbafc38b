use Rattle.std.proofs.Common.{sym, ◌∙◌, arith}
use Rattle.ms_base.specs.declared.kind.Space.TheVariants.{NonClass, Class}
use Rattle.ms_loader.specs.LoaderInside.{live_at}
use Rattle.ms_loader.proofs.MappedLemmas.{missing-mapped}
use Rattle.ms_loader.proofs.calls.NamedRunLemmas.{not_class}
use Rattle.ms_loader.proofs.calls.ViewLemmas.{words_at}
use Rattle.ms_loader.proofs.calls.LoaderLemmas.{ends_somewhere, past_somewhere, word_is_read}
use Rattle.ms_loader.proofs.loader.Loader.read.Goals as goal

pub returns-in_default-clause-refused : goal.returns-in_default-clause-refused
returns-in_default-clause-refused c =
    rw (← c.self.view_is)
    (missing-mapped (live_at (words_at c.self.inside)) c.self.inside.names.entries c.args.name
    (sym c.in_default.ensures.block))

pub returns-then-index-block-clause-refused : goal.returns-then-index-block-clause-refused
returns-then-index-block-clause-refused c =
    rw (← c.self.view_is)
    (past_somewhere c.self.inside c.self.invariant c.args.name c.in-Some.block c.args.index
    (sym c.in-Some.ensures.block) c.if-index-block.true)

pub overflow_add-word : goal.overflow_add-word
overflow_add-word c =
    omega (
      arith,
      c.if-index-block.false,
      ends_somewhere c.self.inside c.self.invariant c.args.name c.in-Some.block (sym c.in-Some.ensures.block),
    )

pub returns-then-is_class-clause-value : goal.returns-then-is_class-clause-value
returns-then-is_class-clause-value c = rw (← c.self.view_is)
    (word_is_read c.self.inside c.self.invariant Class c.args.name c.in-Some.block (sym c.in-Some.ensures.block)
    (sym c.is_class.ensures ∙ c.if-is_class.true) c.args.index c.read.result
    (omega (arith, c.if-index-block.false)) c.read.ensures)

pub returns-else-is_class-clause-value : goal.returns-else-is_class-clause-value
returns-else-is_class-clause-value c = rw (← c.self.view_is)
    (word_is_read c.self.inside c.self.invariant NonClass c.args.name c.in-Some.block (sym c.in-Some.ensures.block)
    (not_class c.in-Some.block.start (sym c.is_class.ensures ∙ c.if-is_class.false)) c.args.index
    c.read-else-is_class.result (omega (arith, c.if-index-block.false)) c.read-else-is_class.ensures)

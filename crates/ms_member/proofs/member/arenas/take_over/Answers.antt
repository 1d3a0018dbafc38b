use Rattle.std.proofs.Common.{sym, subst, refl}
use Rattle.ms_base.specs.declared.kind.Space.{Space}
use Rattle.ms_base.specs.declared.kind.Space.TheVariants.{NonClass, Class}
use Rattle.ms_shared.specs.LockCalls.{TookHeld, GrewHeld}
use Rattle.ms_member.specs.Arenas.{TakesOver, with_arena}
use Rattle.ms_member.proofs.ArenasLemmas.{keeps_allocated, serves_taken}
use Rattle.ms_member.proofs.member.arenas.take_over.Goals as goal

-- the seat serves both arenas still
pub returns-in-NonClass-clause-serves : goal.returns-in-NonClass-clause-serves
returns-in-NonClass-clause-serves c =
    let made = c.ask_pool.ensures in
    serves_taken NonClass c.args.held.seat.knows c.ask_pool.result.0.seat.knows c.args.arenas.now c.ask_pool.new.arena
    c.requires.serves
    (keeps_allocated GrewHeld TookHeld _ c.args.arenas.now.arena c.args.words c.args.held c.ask_pool.result.1
    c.ask_pool.new.arena c.ask_pool.result.0 made.allocates) made.serves made.others made.counted

pub returns-in-Class-clause-serves : goal.returns-in-Class-clause-serves
returns-in-Class-clause-serves c =
    let made = c.ask_pool-in-Class.ensures in
    serves_taken Class c.args.held.seat.knows c.ask_pool-in-Class.result.0.seat.knows c.args.arenas.now
    c.ask_pool-in-Class.new.arena c.requires.serves
    (keeps_allocated GrewHeld TookHeld _ c.args.arenas.now.class_arena c.args.words c.args.held
    c.ask_pool-in-Class.result.1 c.ask_pool-in-Class.new.arena c.ask_pool-in-Class.result.0 made.allocates) made.serves
    made.others made.counted

-- what the arena of the space answered
pub returns-in-NonClass-clause-takes : goal.returns-in-NonClass-clause-takes
returns-in-NonClass-clause-takes c =
    subst (λ (s : Space). TakesOver s c.args.words c.args.held c.args.arenas.now c.ask_pool.result.1
    (with_arena NonClass c.args.arenas.now c.ask_pool.new.arena) c.ask_pool.result.0) (sym c.in-NonClass.is)
    (record { is = c.ask_pool.new.arena; allocates = c.ask_pool.ensures.allocates; new_is = refl })

pub returns-in-Class-clause-takes : goal.returns-in-Class-clause-takes
returns-in-Class-clause-takes c =
    subst (λ (s : Space). TakesOver s c.args.words c.args.held c.args.arenas.now c.ask_pool-in-Class.result.1
    (with_arena Class c.args.arenas.now c.ask_pool-in-Class.new.arena) c.ask_pool-in-Class.result.0) (sym c.in-Class.is)
    (record { is = c.ask_pool-in-Class.new.arena; allocates = c.ask_pool-in-Class.ensures.allocates; new_is = refl })

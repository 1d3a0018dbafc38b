use Rattle.std.proofs.Common.{sym, subst, refl, []}
use Rattle.ms_base.specs.declared.kind.Space.{Space}
use Rattle.ms_base.specs.declared.kind.Space.TheVariants.{NonClass, Class}
use Rattle.ms_arena.specs.Raw.{live_then}
use Rattle.ms_shared.specs.LockCalls.{TookHeld, GrewHeld}
use Rattle.ms_member.specs.declared.member.hosted.Hosted.TheVariants.{Bare}
use Rattle.ms_member.specs.Bare.{arena_with}
use Rattle.ms_member.specs.Hosted.{TakesBare, with_bare, shown}
use Rattle.ms_member.proofs.ArenasLemmas.{keeps_allocated, serves_taken}
use Rattle.ms_member.proofs.member.hosted.take_bare.Goals as goal

-- the seat serves both arenas still
pub returns-in-NonClass-clause-serves : goal.returns-in-NonClass-clause-serves
returns-in-NonClass-clause-serves c =
    let made = c.ask_pool.ensures in let answer = c.ask_pool.result in let is = c.ask_pool.new.self in
    serves_taken NonClass c.args.held.seat.knows answer.0.seat.knows (shown (Bare c.args.arenas.now)) (arena_with is [])
    c.requires.serves
    (keeps_allocated GrewHeld TookHeld _ (arena_with c.args.arenas.now.arena []) c.args.words c.args.held answer.1
    (arena_with is (live_then [] answer.1)) answer.0 (made.asks.allocates [])) made.serves made.others made.counted

pub returns-in-Class-clause-serves : goal.returns-in-Class-clause-serves
returns-in-Class-clause-serves c =
    let made = c.ask_pool-in-Class.ensures in let answer = c.ask_pool-in-Class.result in let is = c.ask_pool-in-Class.new.self in
    serves_taken Class c.args.held.seat.knows answer.0.seat.knows (shown (Bare c.args.arenas.now)) (arena_with is [])
    c.requires.serves
    (keeps_allocated GrewHeld TookHeld _ (arena_with c.args.arenas.now.class_arena []) c.args.words c.args.held answer.1
    (arena_with is (live_then [] answer.1)) answer.0 (made.asks.allocates [])) made.serves made.others made.counted

-- what the arena of the space answered
pub returns-in-NonClass-clause-takes : goal.returns-in-NonClass-clause-takes
returns-in-NonClass-clause-takes c =
    subst (λ (s : Space). TakesBare s c.args.words c.args.held c.args.arenas.now c.ask_pool.result.1
    (with_bare NonClass c.args.arenas.now c.ask_pool.new.self) c.ask_pool.result.0) (sym c.in-NonClass.is)
    (record { is = c.ask_pool.new.self; asks = c.ask_pool.ensures.asks; new_is = refl })

pub returns-in-Class-clause-takes : goal.returns-in-Class-clause-takes
returns-in-Class-clause-takes c =
    subst (λ (s : Space). TakesBare s c.args.words c.args.held c.args.arenas.now c.ask_pool-in-Class.result.1
    (with_bare Class c.args.arenas.now c.ask_pool-in-Class.new.self) c.ask_pool-in-Class.result.0) (sym c.in-Class.is)
    (record { is = c.ask_pool-in-Class.new.self; asks = c.ask_pool-in-Class.ensures.asks; new_is = refl })

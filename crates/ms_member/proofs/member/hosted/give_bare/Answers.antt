use Rattle.std.proofs.Common.{sym, subst, refl}
use Rattle.ms_base.specs.declared.kind.Space.{Space}
use Rattle.ms_base.specs.declared.kind.Space.TheVariants.{NonClass, Class}
use Rattle.ms_member.specs.Bare.{MayHaveBlock}
use Rattle.ms_member.specs.Hosted.{GivesBare, bare_in, with_bare}
use Rattle.ms_member.proofs.member.hosted.give_bare.Goals as goal

-- the block may be one of the arena's of the space
pub give-requires : goal.give-requires
give-requires c = subst (λ (s : Space). MayHaveBlock (bare_in s c.args.arenas.now) c.args.block) c.in-NonClass.is c.requires

pub give-requires-in-Class : goal.give-requires-in-Class
give-requires-in-Class c = subst (λ (s : Space). MayHaveBlock (bare_in s c.args.arenas.now) c.args.block) c.in-Class.is c.requires

pub returns-in-NonClass : goal.returns-in-NonClass
returns-in-NonClass c =
    subst (λ (s : Space). GivesBare s c.args.arenas.now c.args.block (with_bare NonClass c.args.arenas.now c.give.new.self))
    (sym c.in-NonClass.is) (record { is = c.give.new.self; frees = c.give.ensures; new_is = refl })

pub returns-in-Class : goal.returns-in-Class
returns-in-Class c =
    subst (λ (s : Space). GivesBare s c.args.arenas.now c.args.block (with_bare Class c.args.arenas.now c.give-in-Class.new.self))
    (sym c.in-Class.is) (record { is = c.give-in-Class.new.self; frees = c.give-in-Class.ensures; new_is = refl })

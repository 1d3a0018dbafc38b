use Rattle.std.proofs.Common.{sym, subst, IfOk}
use Rattle.ms_base.specs.declared.kind.Space.{Space}
use Rattle.ms_base.specs.declared.kind.Space.TheVariants.{NonClass, Class}
use Rattle.ms_member.specs.Hosted.{PlacesBare, with_bare}
use Rattle.ms_member.proofs.BareLemmas.{placed_bare}
use Rattle.ms_member.proofs.member.hosted.place_bare.Goals as goal

-- what the arena of the space placed
pub returns-in-NonClass-clause-placed : goal.returns-in-NonClass-clause-placed
returns-in-NonClass-clause-placed c =
    let old = c.args.arenas.now in let made = c.place in
    subst (λ (s : Space). IfOk made.result (λ found. PlacesBare s c.args.words old found (with_bare NonClass old made.new.self)))
    (sym c.in-NonClass.is)
    (placed_bare NonClass c.args.words old made.new.self made.result made.ensures.placed made.ensures.gains made.ensures.none)

pub returns-in-Class-clause-placed : goal.returns-in-Class-clause-placed
returns-in-Class-clause-placed c =
    let old = c.args.arenas.now in let made = c.place-in-Class in
    subst (λ (s : Space). IfOk made.result (λ found. PlacesBare s c.args.words old found (with_bare Class old made.new.self)))
    (sym c.in-Class.is)
    (placed_bare Class c.args.words old made.new.self made.result made.ensures.placed made.ensures.gains made.ensures.none)

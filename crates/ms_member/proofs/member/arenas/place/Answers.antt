use Rattle.std.proofs.Common.{sym, subst, IfOk}
use Rattle.ms_base.specs.declared.kind.Space.{Space}
use Rattle.ms_base.specs.declared.kind.Space.TheVariants.{NonClass, Class}
use Rattle.ms_member.specs.Arenas.{PlacesOwn, with_arena}
use Rattle.ms_member.proofs.ArenasLemmas.{placed_so}
use Rattle.ms_member.proofs.member.arenas.place.Goals as goal

-- what the arena of the space placed
pub returns-in-NonClass-clause-placed : goal.returns-in-NonClass-clause-placed
returns-in-NonClass-clause-placed c =
    let old = c.args.arenas.now in let is = c.place.new.self in
    subst (λ (s : Space). IfOk c.place.result (λ found. PlacesOwn s c.args.words old found (with_arena NonClass old is)))
    (sym c.in-NonClass.is) (placed_so NonClass old is c.args.words c.place.result c.place.ensures.placed)

pub returns-in-Class-clause-placed : goal.returns-in-Class-clause-placed
returns-in-Class-clause-placed c =
    let old = c.args.arenas.now in let is = c.place-in-Class.new.self in
    subst (λ (s : Space). IfOk c.place-in-Class.result (λ found. PlacesOwn s c.args.words old found (with_arena Class old is)))
    (sym c.in-Class.is) (placed_so Class old is c.args.words c.place-in-Class.result c.place-in-Class.ensures.placed)

-- Long lines are read part by part: what each part gives makes the event. Used by the functions of
-- `reading` whose chains are too long for a search.
use Rattle.std.proofs.Common.{◌≡◌, ℕ, List, Option, Some, codes, refl, sym}
use Rattle.ms_base.specs.declared.kind.Kind.{Kind}
use Rattle.jvm_log.specs.declared.event.Event.TheVariants.{ClassAdded, Committed, LoaderBorn}
use Rattle.jvm_log.specs.Parts.{address_after, after, number_after, only, past}
use Rattle.jvm_log.specs.Reading.{bearing, class_line, committed_line, kind_in, sizes}

pub bearing_read : (loader arena class_arena : ℕ) (saying first second one other last : List ℕ)
    → one ≡ codes " : born (nonclass arena: " → other ≡ codes ", class arena: " → last ≡ codes "."
    → Some (arena, first) ≡ address_after one saying → Some (class_arena, second) ≡ address_after other first
    → Some tt ≡ only last second → Some (LoaderBorn loader arena class_arena) ≡ bearing loader saying
unfolding bearing
bearing_read loader arena class_arena saying first second one other last p q r e f g =
    let e' = rw p at e in
    let f' = rw q at f in
    let g' = rw r at g in
    rw (sym e') (rw (sym f') (rw (sym g') refl))

pub committed_read : (node base words : ℕ) (message first second third one other next last : List ℕ)
    → one ≡ codes "VsListNode @" → other ≡ codes " base " → next ≡ codes " : ... committed " → last ≡ codes " additional words."
    → Some (node, first) ≡ address_after one message → Some (base, second) ≡ address_after other first
    → Some (words, third) ≡ number_after next second → Some tt ≡ only last third → Some (Committed words) ≡ committed_line message
unfolding committed_line
committed_read node base words message first second third one other next last p q r s e f g h =
    let e' = rw p at e in
    let f' = rw q at f in
    let g' = rw r at g in
    let h' = rw s at h in
    rw (sym e') (rw (sym f') (rw (sym g') (rw (sym h') refl)))

pub class_read : (address pointer : ℕ) (kind : Kind) (message first second third fourth owner one other next last : List ℕ)
    → one ≡ codes "Adding k: " → other ≡ codes " " → next ≡ codes "to loader data: " → last ≡ codes " "
    → Some (address, first) ≡ address_after one message → Some second ≡ after other first → Some third ≡ past 32 second
    → Some (pointer, fourth) ≡ address_after next third → Some owner ≡ after last fourth → kind ≡ kind_in owner
    → Some (ClassAdded address kind) ≡ class_line message
unfolding class_line
class_read address pointer kind message first second third fourth owner one other next last p q r s e f g h i j =
    let e' = rw p at e in
    let f' = rw q at f in
    let h' = rw r at h in
    let i' = rw s at i in
    rw j (rw (sym e') (rw (sym f') (rw (sym g) (rw (sym h') (rw (sym i') refl)))))

pub sizes_read : (used committed unused : ℕ) (found : Option (Unit {0})) (text first second third one other next last : List ℕ)
    → one ≡ codes "), used: " → other ≡ codes ", committed: " → next ≡ codes ", committed-free: " → last ≡ codes "."
    → Some (used, first) ≡ number_after one text → Some (committed, second) ≡ number_after other first
    → Some (unused, third) ≡ number_after next second → found ≡ only last third → found ≡ sizes text
unfolding sizes
sizes_read used committed unused found text first second third one other next last p q r s e f g h =
    let e' = rw p at e in
    let f' = rw q at f in
    let g' = rw r at g in
    let h' = rw s at h in
    rw (sym e') (rw (sym f') (rw (sym g') h'))

-- An empty slot is a null pointer beside the allocator, and owns no more than that.
use Rattle.ms_c.proofs.Walking.{List, [], ◌∷◌, ◌++◌, refl, proved_at, handle_tells, id⊢, emp, ftrue, tables, Val, vint}
use Rattle.ms_c.proofs.Walking.{vstruct, vcons, vnil, WpFn, ‵, raw, ◌⊛◌, prop, ◌$◌, ◌∵◌, !, qed, done, move, drop, use1}
use Rattle.ms_c.proofs.Walking.{split, join, fsplit, fjoin, fpack, feq_i, regoal, suffices, agg, enter, lit, no_more}
use Rattle.ms_c.proofs.Walking.{and_then, returns, alloc_all, pass_all, free_all, look_at, get, sets, yes, Valss, owns}
use Rattle.ms_c.proofs.Walking.{null_ptr, ptr_val, types_at, nothing, shape, within, Stays, walk_of, says, stay_dropped}
use Rattle.ms_c.proofs.Walking.{ends_at}
use mir.Syntax.{w64}
use lib.Dec.{lit<}
use denote.Struct.Owning.{to}
use Rattle.std_alloc.proofs.ResultValues.{and_tt}
use denote.Triple.Walked.{Goes-dropped}
use Rattle.std.proofs.Common.{None}
use Rattle.ms_c.proofs.AsSeat.{E, FromHeap}
use Rattle.ms_c.specs.contracts.seat_slot.SeatSlot as slot
use Rattle.ms_c.specs.contracts.seat_slot.SeatSlot.empty as f
use Rattle.ms_c.proofs.seat_slot.SeatSlot.empty.Statement.{statement}
use Rattle.ms_c.proofs.seat_slot.SeatSlot.empty.Code as code

abbrev stayed : Stays f.ended.signature.params f.ended.kept
stayed = (stay_dropped FromHeap yes, tt)

pub empty_spec : {M : Type 1} → statement M
empty_spec 𝓤 𝓛 𝓜 𝓡 wired =
    let clauses = f.clauses 𝓛 𝓜.mem 𝓡.returns in
    let 𝓣 = tables 𝓤 𝓛.H 𝓜 𝓡 𝓡.env in
    proved_at 𝓛 f.ended stayed clauses 𝓜 𝓡 (Goes-dropped 𝓛 0 FromHeap yes (λ κs x rest. refl), tt)
    f.Key.name code.function (code.unfolded 𝓤 𝓛.H 𝓜 𝓡 wired) (λ y are.
    let a = y.0.3.0 in
    let made : slot.the_row.Denot = record { at = null_ptr; alloc = a; held = None } in
    qed 𝓛 ((‵ ftrue ⊛ ‵ (owns (types_at f.ended.signature.params y.0.0) y.0.3 y.0.4)) ∷ raw (emp 𝓤) ∷ []) ∵
    split ! $ drop ! $ fsplit ! $ move ! (1 ∷ []) $ drop ! $ move ! (1 ∷ []) $ drop ! $
    handle_tells E.al ! a y.0.4.0 (λ h us_are fits.
    let w : Val = vstruct (vcons (vint w64 0) (vcons h vnil)) in
    regoal ! (λ (vs : List Val). prop (WpFn 𝓤 𝓛.H 𝓣.C 𝓣.Λ code.function vs ((walk_of 𝓛 f.ended stayed clauses).post y))) (λ i. us_are i ++ []) refl $
    enter ! _ _ _ _ _ $ alloc_all ! (λ l. pass_all ! refl (fits, tt) $
    sets ! (agg ! (and_then ! (lit ! tt) (and_then ! (get ! refl) (no_more !)))) refl
    (and_tt _ fits.0, (record { fits = lit< tt }, (fits.1, tt))) $
    returns ! (look_at ! 0 refl) $ free_all ! refl $
    -- [the allocator]
    nothing ! $ move ! (1 ∷ 0 ∷ []) $ fjoin ! $
    feq_i ! (List Val) (vint w64 0 ∷ []) (ptr_val null_ptr ∷ []) refl $ fjoin ! $
    feq_i ! (List Val) (w ∷ []) (w ∷ []) refl $ fjoin ! $
    fpack ! (Valss (shape slot.the_type).fields) (within (shape slot.the_type) (to slot.the_type made) (w ∷ []))
    (vint w64 0 ∷ [], (h ∷ [], tt)) $
    nothing ! $ move ! (1 ∷ 0 ∷ []) $ fjoin ! $ use1 𝓛 (‵ (slot.the_row.own_val made (w ∷ []))) (id⊢ 𝓤 _) $
    suffices ! _ (ends_at 𝓛 f.ended stayed clauses y w made (tt, tt) (tt, tt)) $ says ! refl $
    nothing ! $ nothing ! $ fjoin ! $ join ! $ nothing ! $ join ! $ done !)))

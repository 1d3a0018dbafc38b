-- Pointer and allocator go from the parts into the slot, and what they own goes with them.
use Rattle.ms_c.proofs.Walking.{List, [], ◌∷◌, ◌++◌, refl, proved_at, D, word, box_typed, box_out, box_in, id⊢, emp}
use Rattle.ms_c.proofs.Walking.{ftrue, tables, Val, WpFn, ‵, raw, ◌⊛◌, prop, ◌$◌, ◌∵◌, !, qed, done, move, drop, use1}
use Rattle.ms_c.proofs.Walking.{split, join, fsplit, fjoin, regoal, suffices, whole, sub, agg, enter, of_opd, stop, fld}
use Rattle.ms_c.proofs.Walking.{no_more, and_then, returns, alloc_all, pass_all, free_all, look_at, get, get_in, sets}
use Rattle.ms_c.proofs.Walking.{yes, owns, types_at, nothing, Stays, walk_of, says, stay_dropped, ends_at}
use denote.Triple.Walked.{Goes-dropped}
use Rattle.std.proofs.Common.{Some}
use Rattle.ms_c.proofs.AsSeat.{E, FromParts}
use Rattle.ms_c.specs.contracts.seat_slot.SeatSlot as slot
use Rattle.ms_c.specs.contracts.seat_slot.SeatSlot.of_parts as f
use Rattle.ms_c.proofs.seat_slot.SeatSlot.of_parts.Statement.{statement}
use Rattle.ms_c.proofs.seat_slot.SeatSlot.of_parts.Code as code

abbrev stayed : Stays f.ended.signature.params f.ended.kept
stayed = (stay_dropped FromParts yes, tt)

pub of_parts_spec : {M : Type 1} → statement M
of_parts_spec 𝓤 𝓛 𝓜 𝓡 wired =
    let clauses = f.clauses 𝓛 𝓜.mem 𝓡.returns in
    let 𝓣 = tables 𝓤 𝓛.H 𝓜 𝓡 𝓡.env in
    proved_at 𝓛 f.ended stayed clauses 𝓜 𝓡 (Goes-dropped 𝓛 0 FromParts yes (λ κs x rest. refl), tt)
    f.Key.name code.function (code.unfolded 𝓤 𝓛.H 𝓜 𝓡 wired) (λ y are.
    let parts = y.0.3.0 in
    let box : D E = record { ptr = parts.at; alloc = parts.alloc; value = parts.value } in
    let filled : slot.the_row.Denot = record { at = parts.at; alloc = parts.alloc; held = Some parts.value } in
    qed 𝓛 ((‵ ftrue ⊛ ‵ (owns (types_at f.ended.signature.params y.0.0) y.0.3 y.0.4)) ∷ raw (emp 𝓤) ∷ []) ∵
    split ! $ drop ! $ fsplit ! $ move ! (1 ∷ []) $ drop ! $ move ! (1 ∷ []) $ drop ! $
    box_out E ! box y.0.4.0 (λ b o h at_b us_are fits. box_in E ! box b o parts.value at_b refl $
    use1 𝓛 (‵ (slot.the_row.own_val filled (word E h b o ∷ []))) (id⊢ 𝓤 _) $
    regoal ! (λ (vs : List Val). prop (WpFn 𝓤 𝓛.H 𝓣.C 𝓣.Λ code.function vs ((walk_of 𝓛 f.ended stayed clauses).post y))) (λ i. us_are i ++ []) refl $
    enter ! _ _ _ _ _ $ alloc_all ! (λ l. pass_all ! refl (box_typed E h b o fits, tt) $
    sets ! (of_opd ! (get_in ! (fld ! refl (stop !)) (sub ! 0 refl (whole !)))) refl (tt, tt) $
    sets ! (of_opd ! (get_in ! (fld ! refl (stop !)) (sub ! 1 refl (whole !)))) refl fits $
    sets ! (of_opd ! (get ! refl)) refl (tt, tt) $
    sets ! (agg ! (and_then ! (get ! refl) (and_then ! (get ! refl) (no_more !)))) refl (box_typed E h b o fits) $
    returns ! (look_at ! 0 refl) $ free_all ! refl $
    suffices ! _ (ends_at 𝓛 f.ended stayed clauses y (word E h b o) filled (tt, tt) (tt, tt)) $ says ! refl $
    nothing ! $ nothing ! $ fjoin ! $ join ! $ nothing ! $ join ! $ done !)))

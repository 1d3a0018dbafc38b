-- The parts own what the box owned, so `from_raw` may have them.
use Rattle.ms_c.proofs.Walking.{◌≡◌, List, [], ◌∷◌, ◌++◌, refl, sym, ap, subst, proved_at, Goes-blank, Bx, D, R, P, B}
use Rattle.ms_c.proofs.Walking.{word, box_ty, box_typed, box_out, box_in, id⊢, ftrue, flft, ◌⊑◌, fact, tables, inst_fn}
use Rattle.ms_c.proofs.Walking.{a_type, dcons, dnil, Val, vptr, has_ty, WT, WpFn, Item, ‵, raw, ◌⊛◌, some, later, prop}
use Rattle.ms_c.proofs.Walking.{at_ret, ◌$◌, ◌∵◌, !, qed, done, move, drop, use1, split, split3, join, fsplit, fjoin}
use Rattle.ms_c.proofs.Walking.{fjoin3, feq_i, pick, await, rewrite, regoal, suffices, group, whole, sub, enter, of_opd}
use Rattle.ms_c.proofs.Walking.{stop, fld, no_more, and_then, first, blocks, exec, returns, alloc_all, pass_all}
use Rattle.ms_c.proofs.Walking.{free_all, look_at, get, get_in, sets, lands_last, env, no, bounded, owns, block_ptr}
use Rattle.ms_c.proofs.Walking.{plain, types_at, nothing, only, heard, calls_at_last, Lasts, lasts, triple_of, framed}
use Rattle.ms_c.proofs.Walking.{Stays, walk_of, says, stay_dropped, ends_at}
use lib.Dec.{T}
use Rattle.std_alloc.proofs.VecSteps.Shapes.{after}
use Rattle.std_alloc.specs.contracts.boxed.Box.from_raw as made
use Rattle.std_alloc.proofs.boxed.Box.from_raw.Met.{met}
use Rattle.ms_c.specs.contracts.parts.Parts as parts
use Rattle.ms_c.specs.contracts.parts.Parts.into_box as f
use Rattle.ms_c.proofs.parts.Parts.into_box.Statement.{statement}
use Rattle.ms_c.proofs.parts.Parts.into_box.Code as code

pub into_box_spec : {M : Type 1} → statement M
into_box_spec 𝓤 𝓛 𝓜 𝓡 wired X Z LX LZ g d dx dd allocator glue glued =
    let E : Bx = record { row = X; laws = LX; al = record { row = Z; laws = LZ; g = g; d = d; drops = dd } } in
    let taken = plain (λ _. parts.the_row (R E) (P E) g) in
    let ended = f.ended X Z g d dx dd in
    let clauses = f.clauses X Z g d dx dd 𝓛 𝓜.mem 𝓡.returns in
    let stayed : Stays ended.signature.params ended.kept = (stay_dropped taken no, tt) in
    let at_types = bounded (a_type ∷ a_type ∷ []) (X, (Z, tt)) (dcons d (dcons dx (dcons dd dnil))) in
    let fn = inst_fn at_types code.function in
    let 𝓣 = tables 𝓤 𝓛.H 𝓜 𝓡 𝓡.env in
    proved_at 𝓛 ended stayed clauses 𝓜 𝓡 (Goes-blank 𝓛 2 taken no (λ κs x rest. tt), tt)
    (f.Key.name at_types) fn (code.unfolded 𝓤 𝓛.H 𝓜 𝓡 wired (X, (Z, tt)) d dx dd) (λ y are.
    let κs = y.0.0 in let qs = y.0.1 in let self = y.0.3.0 in let us = y.0.4.0 in
    let post = (walk_of 𝓛 ended stayed clauses).post y in
    let tokens : Item 𝓤 = ‵ (flft κs.0 qs.0) ⊛ ‵ (flft κs.1.0 qs.1.0) ⊛ ‵ ftrue in
    let in_x : Item 𝓤 = raw (fact 𝓤 (κs.0 ⊑ X.lives)) in
    let in_z : Item 𝓤 = raw (fact 𝓤 (κs.1.0 ⊑ Z.lives)) in
    let box : D E = record { ptr = self.at; alloc = self.alloc; value = self.value } in
    qed 𝓛 ((tokens ⊛ ‵ (owns (types_at ended.signature.params κs) y.0.3 y.0.4)) ∷ (in_x ⊛ in_z ⊛ ‵ ftrue) ∷ []) ∵
    split ! $ move ! (1 ∷ []) $ fsplit ! $
    box_out E ! box us (λ b o h at_b us_are fits.
    -- [the value; its block's token; the allocator; nothing; the tokens; what outlives]
    fjoin ! $ move ! (4 ∷ []) $ split3 ! $ move ! (2 ∷ []) $ drop ! $ group ! 3 $
    feq_i ! (List Val) (vptr b o ∷ []) (vptr b o ∷ []) refl $ move ! (2 ∷ 0 ∷ 3 ∷ []) $ fjoin3 ! $ move ! (2 ∷ 0 ∷ []) $ join ! $ join ! $
    let G = triple_of 𝓛 (made.signature X Z g d dd) (made.spec X Z g d dd 𝓛 𝓜.mem 𝓡.returns) in
    let z : G.Ghost = ((κs, qs, tt, (self.alloc, (block_ptr b o, tt)), (h ∷ [], (vptr b o ∷ [], tt))), self.value) in
    use1 𝓛 (raw (G.pre z)) (id⊢ 𝓤 _) $
    let given = word E h b o in
    regoal ! (λ (vs : List Val). prop (WpFn 𝓤 𝓛.H 𝓣.C 𝓣.Λ fn vs post)) (λ i. us_are i ++ []) refl $
    enter ! _ _ _ _ _ $ alloc_all ! (λ l. pass_all ! refl (box_typed E h b o fits, tt) $
    sets ! (of_opd ! (get_in ! (fld ! refl (stop !)) (sub ! 0 refl (whole !)))) refl (tt, tt) $
    sets ! (of_opd ! (get_in ! (fld ! refl (stop !)) (sub ! 1 refl (whole !)))) refl fits $
    first ! $ blocks ! $ sets ! (of_opd ! (get ! refl)) refl fits $
    calls_at_last ! (framed 𝓤 𝓛.H 𝓜 𝓣) G (met 𝓤 𝓛 𝓜 𝓡 (code.calls-std_alloc::boxed::Box::from_raw 𝓡.env wired) X Z LX LZ g d dd allocator glued) z
    (and_then ! (get ! refl) (and_then ! (get ! refl) (no_more !))) (λ v.
    use1 𝓛 (later (some (λ (r : D E). (tokens ⊛ ‵ ((B E).own_val r (v ∷ []))) ⊛
    some (λ (ws : Lasts (made.ended X Z g d dd) κs z.0.3). ‵ (lasts (made.ended X Z g d dd) κs z.0.3 ws) ⊛
    (raw (fact 𝓤 (r.value ≡ self.value)) ⊛ raw (fact 𝓤 (r.alloc ≡ self.alloc))))))) (id⊢ 𝓤 _) $
    await ! tt $ pick ! (λ r. split ! $ move ! (1 ∷ []) $ pick ! (λ ws. split3 ! $ drop ! $ heard ! _ (λ same. drop ! $
    split ! $ move ! (1 ∷ []) $
    box_out E ! r (v ∷ []) (λ b' o' h' at_b' v_is fits'. box_in E ! r b' o' r.value at_b' refl $
    rewrite ! 0 (λ (vs : List Val). ‵ ((B E).own_val r vs)) (sym v_is) refl $
    let typed : T (has_ty (box_ty E) v) × WT v =
    subst (λ (u : Val). T (has_ty (box_ty E) u) × WT u) (sym (ap only v_is)) (box_typed E h' b' o' fits') in
    lands_last ! refl typed $ exec ! 𝓣.C 𝓣.Λ (env fn.locals l) (after 3 fn.body) (at_ret _ post) $
    sets ! (of_opd ! (get ! refl)) refl typed $ returns ! (look_at ! 0 refl) $ free_all ! refl $
    suffices ! _ (ends_at 𝓛 ended stayed clauses y v r ((tt, (tt, tt)), tt) (tt, tt)) $ says ! same $
    nothing ! $ nothing ! $ fjoin ! $ join ! $ move ! (1 ∷ 0 ∷ []) $ join ! $ done !))))))))

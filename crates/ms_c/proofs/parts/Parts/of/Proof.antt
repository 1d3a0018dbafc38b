-- What `into_raw_with_allocator` hands out is what the parts own.
use Rattle.ms_c.proofs.Walking.{◌≡◌, List, [], ◌∷◌, ◌++◌, refl, ap, ◌∙◌, proved_at, Goes-blank, handle_tells, token}
use Rattle.ms_c.proofs.Walking.{box_owns, Bx, D, τ, R, P, B, word, box_typed, box_out, box_in, id⊢, fst∗, never, ftrue}
use Rattle.ms_c.proofs.Walking.{flft, ◌⊑◌, fact, tables, inst_fn, bare, a_type, dcons, dnil, Val, vstruct, of_list}
use Rattle.ms_c.proofs.Walking.{WpFn, sem, Item, ‵, raw, ◌⊛◌, some, later, prop, ◌$◌, ◌∵◌, !, qed, done, move, drop}
use Rattle.ms_c.proofs.Walking.{use1, split, split3, join, fsplit, fjoin, fpick, feq_l, pick, await, rewrite, regoal}
use Rattle.ms_c.proofs.Walking.{suffices, whole, sub, agg, enter, of_opd, stop, fld, no_more, and_then, returns}
use Rattle.ms_c.proofs.Walking.{alloc_all, pass_all, free_all, look_at, get, get_in, sets, lands_as, no, bounded, owns}
use Rattle.ms_c.proofs.Walking.{Ptr, RawPtr, block_ptr, null_ptr, ptr_val, in_a_block, plain, types_at, nothing, heard}
use Rattle.ms_c.proofs.Walking.{only, Tuple, calls_at, Lasts, lasts, triple_of, framed, Stays, walk_of, says}
use Rattle.ms_c.proofs.Walking.{stay_dropped, ends_at}
use Rattle.std_alloc.specs.contracts.boxed.Box.into_raw_with_allocator as opened
use Rattle.std_alloc.proofs.boxed.Box.into_raw_with_allocator.Met.{met}
use Rattle.ms_c.specs.contracts.parts.Parts as parts
use Rattle.ms_c.specs.contracts.parts.Parts.of as f
use Rattle.ms_c.proofs.parts.Parts.of.Statement.{statement}
use Rattle.ms_c.proofs.parts.Parts.of.Code as code

pub of_spec : {M : Type 1} → statement M
of_spec 𝓤 𝓛 𝓜 𝓡 wired X Z LX LZ g d dx dd allocator glue glued =
    let E : Bx = record { row = X; laws = LX; al = record { row = Z; laws = LZ; g = g; d = d; drops = dd } } in
    let taken = plain (λ _. B E) in
    let To = parts.the_row (R E) (P E) g in
    let ended = f.ended X Z g d dx dd in
    let clauses = f.clauses X Z g d dx dd 𝓛 𝓜.mem 𝓡.returns in
    let stayed : Stays ended.signature.params ended.kept = (stay_dropped taken no, tt) in
    let at_types = bounded (a_type ∷ a_type ∷ []) (X, (Z, tt)) (dcons d (dcons dx (dcons dd dnil))) in
    let fn = inst_fn at_types code.function in
    let 𝓣 = tables 𝓤 𝓛.H 𝓜 𝓡 𝓡.env in
    proved_at 𝓛 ended stayed clauses 𝓜 𝓡 (Goes-blank 𝓛 2 taken no (λ κs x rest. tt), tt)
    (f.Key.name at_types) fn (code.unfolded 𝓤 𝓛.H 𝓜 𝓡 wired (X, (Z, tt)) d dx dd) (λ y are.
    let κs = y.0.0 in let qs = y.0.1 in let box = y.0.3.0 in let us = y.0.4.0 in
    let post = (walk_of 𝓛 ended stayed clauses).post y in
    let tokens : Item 𝓤 = ‵ (flft κs.0 qs.0) ⊛ ‵ (flft κs.1.0 qs.1.0) ⊛ ‵ ftrue in
    let outlive : Item 𝓤 = raw (fact 𝓤 (κs.0 ⊑ X.lives)) ⊛ raw (fact 𝓤 (κs.1.0 ⊑ Z.lives)) ⊛ ‵ ftrue in
    qed 𝓛 ((tokens ⊛ ‵ (owns (types_at ended.signature.params κs) y.0.3 y.0.4)) ∷ outlive ∷ []) ∵
    split ! $ move ! (1 ∷ []) $ fsplit ! $
    box_out E ! box us (λ b o h at_b us_are fits. box_in E ! box b o box.value at_b refl $
    let given = word E h b o in
    let G = triple_of 𝓛 (opened.signature X Z g d dd dx) (opened.spec X Z g d dd dx 𝓛 𝓜.mem 𝓡.returns) in
    let z : G.Ghost = ((κs, qs, tt, (box, tt), (given ∷ [], tt)), tt) in
    fjoin ! $ move ! (1 ∷ 0 ∷ []) $ join ! $ join ! $ use1 𝓛 (raw (G.pre z)) (id⊢ 𝓤 _) $
    regoal ! (λ (vs : List Val). prop (WpFn 𝓤 𝓛.H 𝓣.C 𝓣.Λ fn vs post)) (λ i. us_are i ++ []) refl $
    enter ! _ _ _ _ _ $ alloc_all ! (λ l. pass_all ! refl (box_typed E h b o fits, tt) $
    sets ! (of_opd ! (get ! refl)) refl (box_typed E h b o fits) $
    calls_at ! (framed 𝓤 𝓛.H 𝓜 𝓣) G
    (met 𝓤 𝓛 𝓜 𝓡 (code.calls-std_alloc::boxed::Box::into_raw_with_allocator 𝓡.env wired) X Z LX LZ g d dd dx allocator
    glued glue) z
    (and_then ! (get ! refl) (no_more !)) (λ v.
    use1 𝓛 (later (some (λ (r : Ptr × Z.Denot). (tokens ⊛ ‵ ((Tuple (RawPtr ∷ P E ∷ [])).own_val r (v ∷ []))) ⊛
    some (λ (ws : Lasts (opened.ended X Z g d dd dx) κs z.0.3). ‵ (lasts (opened.ended X Z g d dd dx) κs z.0.3 ws) ⊛
    (raw (fact 𝓤 (r.1 ≡ box.alloc)) ⊛ ‵ (box_owns (token E.al box.alloc) (R E) r.0 box.value)))))) (id⊢ 𝓤 _) $
    await ! tt $ pick ! (λ r. split ! $ move ! (1 ∷ []) $ pick ! (λ ws. split3 ! $ drop ! $ heard ! _ (λ same.
    in_a_block ! r.0 (λ p. box_owns (token E.al box.alloc) (R E) p box.value)
    (fst∗ 𝓤 (never 𝓤) (sem 𝓛 (token E.al box.alloc (bare (τ E)) null_ptr))) (λ b' o' at_b'.
    -- [what the box owned; the tokens with the pair; the locals]
    move ! (1 ∷ []) $ split ! $ move ! (1 ∷ []) $
    fpick ! (λ words. fsplit ! $ feq_l ! (λ v_is. fsplit ! $ feq_l ! (λ first_is. fsplit ! $
    rewrite ! 0 (λ (a : Z.Denot). ‵ (Z.own_val a words.1.0)) same refl $
    handle_tells E.al ! box.alloc words.1.0 (λ h' second_is fits'.
    let typed = box_typed E h' b' o' fits' in
    lands_as ! (ap only (v_is
    ∙ (λ i. vstruct (of_list ((first_is ∙ ap (λ (p : Ptr). ptr_val p ∷ []) at_b') i ++ (second_is i ++ []))) ∷ []))) refl
    typed $
    sets ! (of_opd ! (get_in ! (fld ! refl (stop !)) (sub ! 0 refl (whole !)))) refl (tt, tt) $
    sets ! (of_opd ! (get_in ! (fld ! refl (stop !)) (sub ! 1 refl (whole !)))) refl fits' $
    sets ! (of_opd ! (get ! refl)) refl fits' $
    sets ! (agg ! (and_then ! (get ! refl) (and_then ! (get ! refl) (no_more !)))) refl typed $
    returns ! (look_at ! 0 refl) $ free_all ! refl $
    -- [the allocator; nothing; the tokens; what the box owned]
    let again : D E = record { ptr = block_ptr b' o'; alloc = box.alloc; value = box.value } in
    let parted : To.Denot = record { at = block_ptr b' o'; alloc = box.alloc; value = box.value } in
    move ! (3 ∷ []) $ fsplit ! $ box_in E ! again b' o' box.value refl refl $
    use1 𝓛 (‵ (To.own_val parted (word E h' b' o' ∷ []))) (id⊢ 𝓤 _) $ move ! (1 ∷ []) $ drop ! $
    suffices ! _ (ends_at 𝓛 ended stayed clauses y (word E h' b' o') parted ((tt, (tt, tt)), tt) (tt, tt)) $ says ! refl $
    nothing ! $ nothing ! $ fjoin ! $ join ! $ move ! (1 ∷ 0 ∷ []) $ join ! $ done !))))))))))))

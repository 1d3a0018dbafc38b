-- Pieces that are appended one after the other, from the last back to the first. Used by `state` and
-- `document`.
use Rattle.std.proofs.Common.{◌≡◌, ◌<◌, ◌+◌, ℕ, Bool, true, drop, get_or, length, map, List, [], ◌∷◌, ◌++◌, refl, sym, ap, ◌∙◌, append_assoc, append-nil}
use Rattle.std.proofs.Common.{Result, Ok, Err, OnOk, is_ok, if◌then◌else◌, codes, false}
use Rattle.std.specs.Prelude.{◌==◌}
use Rattle.std.proofs.lemmas.List.{drop_more}
use Rattle.json.specs.Print.{quoted}
use Rattle.serde_json.specs.Data.{Data}
use Rattle.serde_json.specs.Written.{comma_if, compact_text, members_text}
use Rattle.ms_answers.specs.Details.{loader_in}
use Rattle.ms_answers.specs.declared.details.LoaderDetails.{LoaderDetails}
use Rattle.ms_report.proofs.TextLemmas.{adds_two, adds_then}
use Rattle.ms_json.specs.Names.{name_data, name_rows}
use Rattle.ms_json.specs.Rows.{Row, elements_run, labelled, list_of, rows_then}
use Rattle.ms_json.specs.Sums.{loader_data}
use Rattle.ms_json.specs.declared.naming.Named.{Named}
use Rattle.ms_json.proofs.WritingLemmas.{adds_as}

-- The last piece, by a call that may fail.
pub last_text : {X E : Type 0} (result : Result X E) (mid new a : List ℕ)
    → new ≡ (if is_ok result then mid ++ a else mid) → OnOk result (new ≡ mid ++ a)
last_text (Ok done) mid new a adds = adds
last_text (Err error) mid new a adds = tt

-- A member, before what comes after it.
regroup_label : (c q v rest : List ℕ)
    → ((c ++ (q ++ 58 ∷ [])) ++ v) ++ rest ≡ c ++ (q ++ 58 ∷ (v ++ rest))
regroup_label c q v rest =
    append_assoc (c ++ (q ++ 58 ∷ [])) v rest
    ∙ append_assoc c (q ++ 58 ∷ []) (v ++ rest)
    ∙ ap (λ (text : List ℕ). c ++ text) (append_assoc q (58 ∷ []) (v ++ rest))

pub adds_member : {X E : Type 0} (result : Result X E) (old t1 t2 new c q v rest : List ℕ)
    → t1 ≡ old ++ (c ++ (q ++ 58 ∷ [])) → t2 ≡ t1 ++ v → OnOk result (new ≡ t2 ++ rest)
    → OnOk result (new ≡ old ++ (c ++ (q ++ 58 ∷ (v ++ rest))))
adds_member result old t1 t2 new c q v rest label value more =
    adds_as result old new (((c ++ (q ++ 58 ∷ [])) ++ v) ++ rest) (c ++ (q ++ 58 ∷ (v ++ rest)))
    (regroup_label c q v rest)
    (adds_then result old t2 new ((c ++ (q ++ 58 ∷ [])) ++ v) rest
    (adds_two old t1 t2 (c ++ (q ++ 58 ∷ [])) v label value) more)

-- The last member of some.
pub adds_last : {X E : Type 0} (result : Result X E) (old t1 new c q v : List ℕ)
    → t1 ≡ old ++ (c ++ (q ++ 58 ∷ [])) → OnOk result (new ≡ t1 ++ v)
    → OnOk result (new ≡ old ++ (c ++ (q ++ 58 ∷ (v ++ []))))
adds_last result old t1 new c q v label value =
    adds_as result old new ((c ++ (q ++ 58 ∷ [])) ++ v) (c ++ (q ++ 58 ∷ (v ++ [])))
    (sym (append-nil ((c ++ (q ++ 58 ∷ [])) ++ v)) ∙ regroup_label c q v [])
    (adds_then result old t1 new (c ++ (q ++ 58 ∷ [])) v label value)

-- Members, then an end, then a text.
pub rows_before : (rows : List Row) (end text : List ℕ) → rows_then rows end ++ text ≡ rows_then rows (end ++ text)
rows_before [] end text = refl
rows_before (row ∷ rows) end text =
    ap (λ (all : List ℕ). 44 ∷ all)
    (append_assoc (quoted row.0) (58 ∷ (compact_text row.1 ++ rows_then rows end)) text
    ∙ ap (λ (all : List ℕ). quoted row.0 ++ 58 ∷ all)
    (append_assoc (compact_text row.1) (rows_then rows end) text
    ∙ ap (λ (all : List ℕ). compact_text row.1 ++ all) (rows_before rows end text)))

-- The members of an object, of which some come first.
pub members_then : (rows more : List Row)
    → members_text true (labelled (rows ++ more)) ≡ rows_then rows (members_text true (labelled more))
members_then [] more = refl
members_then (row ∷ rows) more =
    ap (λ (all : List ℕ). 44 ∷ (quoted row.0 ++ 58 ∷ (compact_text row.1 ++ all))) (members_then rows more)

pub members_last : (rows : List Row) → members_text true (labelled rows) ≡ rows_then rows (125 ∷ [])
members_last [] = refl
members_last (row ∷ rows) =
    ap (λ (all : List ℕ). 44 ∷ (quoted row.0 ++ 58 ∷ (compact_text row.1 ++ all))) (members_last rows)

-- The member of names that there are.
pub adds_rows : {X E : Type 0} (result : Result X E) (old new : List ℕ) (names : List Named) → (length names == 0) ≡ false
    → OnOk result (new ≡ old ++ (44 ∷ (quoted (codes "names") ++ 58 ∷ (compact_text (list_of (map name_data names)) ++ []))))
    → OnOk result (new ≡ old ++ rows_then (name_rows names) [])
adds_rows result old new [] some adds = absurd (cc)
adds_rows result old new (named ∷ more) some adds = adds

-- The next element of an array, and then the later ones.
regroup_next : (old c t r : List ℕ) → old ++ ((c ++ t) ++ r) ≡ ((old ++ c) ++ t) ++ r
regroup_next old c t r =
    sym (append_assoc old (c ++ t) r) ∙ ap (λ (text : List ℕ). text ++ r) (sym (append_assoc old c t))

pub elements_more : {X : Type 0} (data_of : X → Data) (whole old mid new : List ℕ) (later : Bool) (xs : List X) (at : ℕ) (other x : X)
    → at < length xs → x ≡ get_or xs at other → whole ≡ old ++ elements_run later (map data_of (drop at xs))
    → mid ≡ old ++ comma_if later → new ≡ mid ++ compact_text (data_of x)
    → whole ≡ new ++ elements_run true (map data_of (drop (at + 1) xs))
elements_more {X} data_of whole old mid new later xs at other x more is so_far comma adds =
    let rest : List ℕ = elements_run true (map data_of (drop (at + 1) xs)) in
    let told : List ℕ = compact_text (data_of x) in
    so_far ∙ ap (λ (l : List X). old ++ elements_run later (map data_of l)) (drop_more xs at other more)
    ∙ ap (λ (d : X). old ++ ((comma_if later ++ compact_text (data_of d)) ++ rest)) (sym is)
    ∙ regroup_next old (comma_if later) told rest
    ∙ ap (λ (text : List ℕ). (text ++ told) ++ rest) (sym comma)
    ∙ ap (λ (text : List ℕ). text ++ rest) (sym adds)

-- The next loader.
pub loaders_more : (whole old mid new : List ℕ) (later : Bool) (loaders : List LoaderDetails) (at : ℕ)
    (other loader : LoaderDetails) → at < length loaders → loader ≡ get_or loaders at other
    → whole ≡ old ++ elements_run later (map loader_data (map loader_in (drop at loaders)))
    → mid ≡ old ++ comma_if later → new ≡ mid ++ compact_text (loader_data (loader_in loader))
    → whole ≡ new ++ elements_run true (map loader_data (map loader_in (drop (at + 1) loaders)))
loaders_more whole old mid new later loaders at other loader more is so_far comma adds =
    let rest : List ℕ = elements_run true (map loader_data (map loader_in (drop (at + 1) loaders))) in
    let told : List ℕ = compact_text (loader_data (loader_in loader)) in
    so_far
    ∙ ap (λ (l : List LoaderDetails). old ++ elements_run later (map loader_data (map loader_in l)))
    (drop_more loaders at other more)
    ∙ ap (λ (d : LoaderDetails). old ++ ((comma_if later ++ compact_text (loader_data (loader_in d))) ++ rest)) (sym is)
    ∙ regroup_next old (comma_if later) told rest
    ∙ ap (λ (text : List ℕ). (text ++ told) ++ rest) (sym comma)
    ∙ ap (λ (text : List ℕ). text ++ rest) (sym adds)

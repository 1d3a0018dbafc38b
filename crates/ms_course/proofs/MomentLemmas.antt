-- What a column shows of moments and of one more. `FallingLemmas` uses these.
use Rattle.std.proofs.Common.{◌≡◌, ◌+◌, ◌==◌, ℕ, Bool, List, [], ◌∷◌, ◌++◌, length, refl, sym, ap, ◌∙◌}
use Rattle.std.proofs.Common.{arith, length-append}
use Rattle.std.proofs.Math.Dec.{eqb-suc-zero}
use Rattle.std.specs.Prelude.{max, cond, Some, if◌then◌else◌}
use Rattle.std.proofs.lemmas.List.Sums.{sum_by-append, sum_by-cons}
use Rattle.ms_course.specs.declared.standing.Extent.{Extent}
use Rattle.ms_course.specs.declared.moment.Deed.{Deed}
use Rattle.ms_course.specs.declared.moment.Moment.{Moment}
use Rattle.ms_course.specs.Course.{column_in, deed_in, first_asked, first_reply, counted, first_line, greater_extent, greater_standing, is_refused, last_line}
use Rattle.ms_course.specs.Course.{most, most_of, most_words, purges, reports, unloads, with_moment}

-- The most of an amount, with one moment more.
pub most_push : (amount : Moment → ℕ) (moments : List Moment) (moment : Moment)
    → most amount (moments ++ moment ∷ []) ≡ max (most amount moments) (amount moment)
most_push amount [] moment = omega arith
most_push amount (first ∷ moments) moment = omega (arith, most_push amount moments moment)

-- The numbers of moments, of those of a sort, and of their lines.
length_push : (moments : List Moment) (moment : Moment) → length (moments ++ moment ∷ []) ≡ length moments + 1
length_push moments moment = length-append moments (moment ∷ [])

counted_push : (sort : Deed → Bool) (moments : List Moment) (moment : Moment)
    → counted sort (moments ++ moment ∷ []) ≡ counted sort moments + cond (sort (deed_in moment)) 1 0
counted_push sort moments moment =
    sum_by-append (λ (m : Moment). cond (sort (deed_in m)) 1 0) moments (moment ∷ [])
    ∙ ap (λ n. counted sort moments + n)
    (sum_by-cons (λ (m : Moment). cond (sort (deed_in m)) 1 0) moment [] ∙ omega arith)

pub first_push : (moments : List Moment) (moment : Moment)
    → first_line (moments ++ moment ∷ []) ≡ (if length moments == 0 then moment.line else first_line moments)
first_push [] moment = refl
first_push (first ∷ moments) moment =
    ap (λ (b : Bool). if b then moment.line else first.line) (sym (eqb-suc-zero (length moments)))

last_push : (moments : List Moment) (moment : Moment) → last_line (moments ++ moment ∷ []) ≡ moment.line
last_push [] moment = refl
last_push (first ∷ []) moment = refl
last_push (first ∷ next ∷ moments) moment = last_push (next ∷ moments) moment

asked_push : (moments : List Moment) (moment : Moment)
    → first_asked (moments ++ moment ∷ []) ≡ (if length moments == 0 then Some moment.asked else first_asked moments)
asked_push [] moment = refl
asked_push (first ∷ moments) moment =
    ap (λ (b : Bool). if b then Some moment.asked else Some first.asked) (sym (eqb-suc-zero (length moments)))

reply_push : (moments : List Moment) (moment : Moment)
    → first_reply (moments ++ moment ∷ []) ≡ (if length moments == 0 then Some moment.reply else first_reply moments)
reply_push [] moment = refl
reply_push (first ∷ moments) moment =
    ap (λ (b : Bool). if b then Some moment.reply else Some first.reply) (sym (eqb-suc-zero (length moments)))

-- The most of each, and a column, with one moment more.
words_push : (extent : Moment → Extent) (moments : List Moment) (moment : Moment)
    → most_words extent (moments ++ moment ∷ []) ≡ greater_extent (most_words extent moments) (extent moment)
words_push extent moments moment = λ i. record {
  reserved = most_push (λ m. (extent m).reserved) moments moment i;
  committed = most_push (λ m. (extent m).committed) moments moment i;
  used = most_push (λ m. (extent m).used) moments moment i;
  live = most_push (λ m. (extent m).live) moments moment i;
}

most_of_push : (moments : List Moment) (moment : Moment)
    → most_of (moments ++ moment ∷ []) ≡ greater_standing (most_of moments) moment.standing
most_of_push moments moment = λ i. record {
  both = words_push (λ m. m.standing.both) moments moment i;
  class_space = words_push (λ m. m.standing.class_space) moments moment i;
  loaders = most_push (λ m. m.standing.loaders) moments moment i;
}

pub column_push : (moments : List Moment) (moment : Moment)
    → column_in (moments ++ moment ∷ []) ≡ with_moment (column_in moments) moment
column_push moments moment = λ i. record {
  lines = length_push moments moment i;
  first_line = first_push moments moment i;
  last_line = last_push moments moment i;
  most = most_of_push moments moment i;
  unloads = counted_push unloads moments moment i;
  purges = counted_push purges moments moment i;
  refusals = counted_push is_refused moments moment i;
  reports = counted_push reports moments moment i;
  asked = asked_push moments moment i;
  reply = reply_push moments moment i;
}

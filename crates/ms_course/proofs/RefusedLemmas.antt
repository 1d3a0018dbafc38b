-- Refused lines, with one moment more. `Refusals.note` uses these.
use Rattle.std.proofs.Common.{◌≡◌, ◌≢◌, ◌+◌, ◌<◌, ◌≤◌, ◌==◌, ◌⊎◌, inl, inr, ℕ, Bool, true, false, List, [], ◌∷◌, ◌++◌}
use Rattle.std.proofs.Common.{length, refl, sym, ap, ◌∙◌, arith, get_or, add-zero}
use Rattle.std.specs.Prelude.{cond, Option, Some, None, slice_get, slice_set, if◌then◌else◌}
use Rattle.std.specs.List.{All, count_by, filter}
use Rattle.std.proofs.Math.Dec.{eqb}
use Rattle.std.proofs.lemmas.Bool.Decides.{eqb_tells}
use Rattle.std.proofs.lemmas.Grind.{get_or-set_at}
use Rattle.std.proofs.lemmas.List.{append-nil, get_or-set_other, length-set}
use Rattle.std.proofs.lemmas.List.Elements.{All-set, filter-append}
use Rattle.std.proofs.lemmas.List.Sums.{length-filter, sum_by-append, sum_by-cons}
use Rattle.std.proofs.lemmas.Option.{slice_get-get_or, get_or_from_slice_get}
use Rattle.ms_course.specs.declared.moment.Moment.{Moment}
use Rattle.ms_course.specs.declared.reason.Reason.{Reason}
use Rattle.ms_course.specs.declared.refusals.Refused.{Refused}
use Rattle.ms_course.specs.Course.{first_line}
use Rattle.ms_course.specs.Gathering.{Counts, IsCounted, is_number, is_refused_for, number_of, reason_of, refused_for, refused_with}
use Rattle.ms_course.proofs.MomentLemmas.{first_push}

-- One moment, filtered, and counted.
here_filtered : (p : Moment → Bool) (moment : Moment) (b : Bool) → p moment ≡ b
    → filter p (moment ∷ []) ≡ cond b (moment ∷ []) []
here_filtered p moment b is = ap (λ (b : Bool). cond b (moment ∷ []) []) is

filter_push : (p : Moment → Bool) (moments : List Moment) (moment : Moment) (b : Bool) → p moment ≡ b
    → filter p (moments ++ moment ∷ []) ≡ filter p moments ++ cond b (moment ∷ []) []
filter_push p moments moment b is =
    filter-append p moments (moment ∷ [])
    ∙ ap (λ (others : List Moment). filter p moments ++ others) (here_filtered p moment b is)

count_push : (p : Moment → Bool) (moments : List Moment) (moment : Moment) (b : Bool) → p moment ≡ b
    → count_by p (moments ++ moment ∷ []) ≡ count_by p moments + cond b 1 0
count_push p moments moment b is =
    sum_by-append (λ (m : Moment). cond (p m) 1 0) moments (moment ∷ [])
    ∙ ap (λ n. count_by p moments + n)
    (sum_by-cons (λ (m : Moment). cond (p m) 1 0) moment [] ∙ ap (λ (b : Bool). cond b 1 0 + 0) is ∙ omega arith)

-- A line that was refused for the reason is one more, any other is none.
refused_push : (number : ℕ) (moments : List Moment) (moment : Moment) → is_refused_for number moment ≡ true
    → refused_for number (moments ++ moment ∷ []) ≡ refused_with (refused_for number moments) moment.line
refused_push number moments moment is = λ i. record {
  lines = count_push (is_refused_for number) moments moment true is i;
  first_line =
      (ap first_line (filter_push (is_refused_for number) moments moment true is)
      ∙ first_push (filter (is_refused_for number) moments) moment
      ∙ ap (λ (n : ℕ).
      if n == 0 then moment.line else first_line (filter (is_refused_for number) moments))
      (length-filter (is_refused_for number) moments)) i;
}

kept_push : (number : ℕ) (moments : List Moment) (moment : Moment) → is_refused_for number moment ≡ false
    → refused_for number (moments ++ moment ∷ []) ≡ refused_for number moments
kept_push number moments moment is = λ i. record {
  lines = (count_push (is_refused_for number) moments moment false is ∙ add-zero (count_by (is_refused_for number) moments)) i;
  first_line =
      ap first_line (filter_push (is_refused_for number) moments moment false is
      ∙ append-nil (filter (is_refused_for number) moments)) i;
}

-- A line that wasn't refused changes no count.
pub counts_kept : (refusals : List Refused) (moments : List Moment) (moment : Moment)
    → reason_of moment.asked moment.reply ≡ None → Counts refusals moments
    → Counts refusals (moments ++ moment ∷ [])
counts_kept refusals moments moment none its = record {
  count = its.count;
  each = λ number below.
      its.each number below
      ∙ ap Some (sym (kept_push number moments moment (ap (is_number number) none)));
}

-- One that was changes that of its reason.
pub counts_next : (refusals : List Refused) (index : ℕ) (new d : Refused) (why : Reason) (moments : List Moment)
    (moment : Moment) → reason_of moment.asked moment.reply ≡ Some why → index ≡ number_of why → index < 12
    → new ≡ refused_with (get_or refusals index d) moment.line → Counts refusals moments
    → Counts (slice_set refusals index new) (moments ++ moment ∷ [])
counts_next refusals index new d why moments moment is at_index within new_is its = record {
  count = length-set refusals index new ∙ its.count;
  each = λ number below. each number below (eqb_tells number index);
}
  where
    test : (number : ℕ) → is_refused_for number moment ≡ (index == number)
    test number = ap (is_number number) is ∙ ap (λ (n : ℕ). n == number) (sym at_index)

    now : (number : ℕ) → number < 12
        → slice_get (slice_set refusals index new) number ≡ Some (get_or (slice_set refusals index new) number new)
    now number below =
        slice_get-get_or (slice_set refusals index new) number new
        (omega (arith, below, length-set refusals index new, its.count))

    was : (number : ℕ) (d : Refused) → number < 12 → get_or refusals number d ≡ refused_for number moments
    was number d below = get_or_from_slice_get refusals number (refused_for number moments) d (its.each number below)

    same_index : (number : ℕ) → number ≡ index → (index == number) ≡ true
    same_index number same = grind (arith, same)

    other_index : (number : ℕ) → number ≢ index → (index == number) ≡ false
    other_index number other = grind (arith, other)

    each : (number : ℕ) → number < 12
        → ((eqb number index ≡ true) × (number ≡ index)) ⊎ ((eqb number index ≡ false) × (number ≢ index))
        → slice_get (slice_set refusals index new) number ≡ Some (refused_for number (moments ++ moment ∷ []))
    each number below (inl same) =
        now number below
        ∙ ap Some (get_or-set_at refusals index number new new same.1 (omega (arith, within, its.count))
        ∙ new_is
        ∙ ap (λ (old : Refused). refused_with old moment.line) (was index d within)
        ∙ ap (λ (n : ℕ). refused_with (refused_for n moments) moment.line) (sym same.1)
        ∙ sym (refused_push number moments moment (test number ∙ same_index number same.1)))
    each number below (inr other) =
        now number below
        ∙ ap Some (get_or-set_other refusals index number new new other.1 ∙ was number new below
        ∙ sym (kept_push number moments moment (test number ∙ other_index number other.1)))

-- Few of so many are few of one more.
pub counted_more : (most : ℕ) (refusals : List Refused) → IsCounted most refusals → IsCounted (most + 1) refusals
counted_more most refusals few = λ k d within. omega (arith, few k d within)

pub counted_next : (most index : ℕ) (refusals : List Refused) (new : Refused) → IsCounted most refusals
    → new.lines ≤ most + 1 → IsCounted (most + 1) (slice_set refusals index new)
counted_next most index refusals new few small =
    All-set (λ (refused : Refused). refused.lines ≤ most + 1) refusals index new small
    (counted_more most refusals few)

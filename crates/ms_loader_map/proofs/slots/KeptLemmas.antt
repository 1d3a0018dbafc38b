-- What is kept true of loaders at their numbers, after each change. The functions of `Loaders` use
-- these.
use Rattle.std.proofs.Common.{◌≡◌, ℕ, ◌+◌, ◌-◌, ◌<◌, ◌≤◌, cond, Option, Some, None, List, [], ◌∷◌, length}
use Rattle.std.proofs.Common.{refl, sym, ap, ◌∙◌, inl, inr, arith, true, false, IfSome, subst}
use Rattle.std.specs.Prelude.{nat_eq}
use Rattle.std.specs.Ordering.{nat_cmp}
use Rattle.std.specs.BTreeMap.{is_at}
use Rattle.std.proofs.lemmas.Map.{length-set_value}
use Rattle.std.proofs.lemmas.Bool.{cases_eq, cases_lt}
use Rattle.ms_base.specs.Names.{named}
use Rattle.ms_loader_map.specs.Slots.{AreKept, AreAtNames, IsEmptyFrom, IsNext, ChangesAt, slot_at, rest_of, value_of}
use Rattle.ms_loader_map.proofs.slots.ChangeLemmas.{changed_rest, few_rest, first_rest, gone_rest, here, named_rest}
use Rattle.ms_loader_map.proofs.slots.ChangeLemmas.{new_rest, one_less, one_more, same_rest, stay_at_names, there}
use Rattle.ms_loader_map.proofs.slots.PageLemmas.{last_rest}

abbrev Pages : Type 0 → Type 0
Pages X = List (List (Option (ℕ × X)))

module _ {X : Type 0} where
  -- Nothing stands below the first still, where what changed is no lower, or nothing.
  below : (old new : Pages X) (first name : ℕ) (entry : Option (ℕ × X))
      → ChangesAt (slot_at old) name entry (slot_at new)
      → ((k : ℕ) → k < first → slot_at old k ≡ None) → (lower : ℕ) → lower ≤ first → lower ≤ name
      → (k : ℕ) → k < lower → slot_at new k ≡ None
  below old new first name entry at_names none lower first_least name_least k less =
      there (slot_at old) (slot_at new) name entry at_names k (λ same. absurd (omega (arith, same, less, name_least)))
      ∙ none k (omega (arith, less, first_least))

  pub kept_new : (old new : Pages X) (first count name lower : ℕ) (value : X) → AreKept old first count
      → ChangesAt (slot_at old) name (Some (name, value)) (slot_at new) → length new ≤ 256
      → named (rest_of old 0) name ≡ None → lower ≤ first → lower ≤ name → AreKept new lower (count + 1)
  kept_new old new first count name lower value were at_names few none first_least name_least = record {
    at_names = stay_at_names (slot_at old) (slot_at new) name (Some (name, value)) at_names were.at_names refl;
    none_below = below old new first name (Some (name, value)) at_names were.none_below lower first_least name_least;
    small = omega (arith, more, few, few_rest new);
    counted = more;
  }
    where
      more : count + 1 ≡ length (rest_of new 0)
      more = omega (
        arith,
        were.counted,
        one_more (rest_of old 0) name value none,
        ap length (new_rest old new name value were.at_names at_names),
      )

  none_lower : (old new : Pages X) (first name : ℕ) → ChangesAt (slot_at old) name None (slot_at new)
      → ((k : ℕ) → k < first → slot_at old k ≡ None) → (k : ℕ) → k < first → slot_at new k ≡ None
  none_lower old new first name at_names none k less = elim (cases_eq name k) [
    | inl same ↦ at_names k ∙ gone same
    | inr differ ↦ there (slot_at old) (slot_at new) name None at_names k differ ∙ none k less
  ]
    where
      gone : name ≡ k → cond (nat_eq name k) None (slot_at old k) ≡ None
      gone same = rw (none k less)
          (elim (nat_eq name k) as (λ b. cond {A = Option (ℕ × X)} b None None ≡ None) [ true ↦ refl | false ↦ refl ])

  -- Where something stands there is one at least.
  pub some_kept : (pages : Pages X) (first count name : ℕ) (e : ℕ × X) → AreKept pages first count
      → slot_at pages name ≡ Some e → 1 ≤ count
  some_kept pages first count name e kept found = omega (
    arith,
    kept.counted,
    one_less (rest_of pages 0) name e.1 (named_rest pages name kept.at_names ∙ ap value_of found),
  )

  pub kept_gone : (old new : Pages X) (first lower count name : ℕ) (e : ℕ × X) → AreKept old first count
      → ChangesAt (slot_at old) name None (slot_at new) → slot_at old name ≡ Some e
      → ((k : ℕ) → k < lower → slot_at old k ≡ None) → AreKept new lower (count - 1)
  kept_gone old new first lower count name e were at_names found none = record {
    at_names = stay_at_names (slot_at old) (slot_at new) name None at_names were.at_names tt;
    none_below = none_lower old new lower name at_names none;
    small = omega (arith, were.small);
    counted = omega (
      arith,
      were.counted,
      one_less (rest_of old 0) name e.1 (named_rest old name were.at_names ∙ ap value_of found),
      ap length (gone_rest old new name were.at_names at_names),
    );
  }

  -- Where nothing stood nothing goes.
  pub nothing_gone : (old new : ℕ → Option (ℕ × X)) (name : ℕ) → ChangesAt old name None new → old name ≡ None
      → (number : ℕ) → new number ≡ old number
  nothing_gone old new name at_names none number = elim (cases_eq name number) [
    | inl same ↦ here old new name None at_names number same ∙ sym (ap old (sym same) ∙ none)
    | inr differ ↦ there old new name None at_names number differ
  ]

  -- The next from the first on is the first of all.
  first_next : (pages : Pages X) (first count number : ℕ) (e : ℕ × X) → AreKept pages first count
      → IsNext (slot_at pages) first number e → IsNext (slot_at pages) 0 number e
  first_next pages first count number e kept next = record {
    from_there = omega arith;
    stands = next.stands;
    none_before = λ k least less. elim (cases_lt k first) [
      | inl before ↦ kept.none_below k before
      | inr later ↦ next.none_before k later less
    ];
  }

  pub own_name : (at : ℕ → Option (ℕ × X)) (number : ℕ) (e : ℕ × X) → AreAtNames at → at number ≡ Some e → e.0 ≡ number
  own_name at number e at_names found = subst (λ o. IfSome o (λ e. e.0 ≡ number)) found (at_names number)

  -- It is taken out: what is kept then, and that the others are left.
  pub kept_first : (old new : Pages X) (first count number name : ℕ) (e : ℕ × X) → AreKept old first count
      → IsNext (slot_at old) first number e → name ≡ e.0 → ChangesAt (slot_at old) name None (slot_at new)
      → AreKept new name (count - 1)
  kept_first old new first count number name e kept next same at_names =
      kept_gone old new first name count name e kept at_names (ap (slot_at old) is ∙ next.stands)
      (λ k less. (first_next old first count number e kept next).none_before k (omega arith) (omega (arith, less, is)))
    where
      is : name ≡ number
      is = same ∙ own_name (slot_at old) number e kept.at_names next.stands

  pub first_taken : (old new : Pages X) (first count number name : ℕ) (e taken : ℕ × X) → AreKept old first count
      → IsNext (slot_at old) first number e → name ≡ e.0 → ChangesAt (slot_at old) name None (slot_at new)
      → Some taken ≡ slot_at old name → rest_of old 0 ≡ taken ∷ rest_of new 0
  first_taken old new first count number name e taken kept next same at_names found =
      first_rest old new number e kept.at_names (first_next old first count number e kept next)
      (subst (λ n. ChangesAt (slot_at old) n None (slot_at new)) same at_names)
      ∙ ap (λ x. x ∷ rest_of new 0) e_is
    where
      is : name ≡ number
      is = same ∙ own_name (slot_at old) number e kept.at_names next.stands

      some : Some e ≡ Some taken
      some = sym (found ∙ ap (slot_at old) is ∙ next.stands)

      e_is : e ≡ taken
      e_is = cc some

  pub nothing_kept : (pages : Pages X) (first count : ℕ) → AreKept pages first count
      → IsEmptyFrom (slot_at pages) first → rest_of pages 0 ≡ []
  nothing_kept pages first count kept last = last_rest pages 0 (λ k least. elim (cases_lt k first) [
    | inl before ↦ kept.none_below k before
    | inr later ↦ last k later
  ])

  pub kept_changed : (old new : Pages X) (first count name : ℕ) (was value : X) → AreKept old first count
      → ChangesAt (slot_at old) name (Some (name, value)) (slot_at new)
      → slot_at old name ≡ Some (name, was) → AreKept new first count
  kept_changed old new first count name was value were at_names found = record {
    at_names = stay_at_names (slot_at old) (slot_at new) name (Some (name, value)) at_names were.at_names refl;
    none_below = λ k less. there (slot_at old) (slot_at new) name (Some (name, value)) at_names k
        (λ same. absurd (cc (found, ap (slot_at old) same ∙ were.none_below k less))) ∙ were.none_below k less;
    small = omega (arith, were.small);
    counted = were.counted ∙ sym (ap length (changed_rest old new name was value were.at_names at_names has)
        ∙ length-set_value (is_at (nat_cmp name)) (rest_of old 0) value);
  }
    where
      has : named (rest_of old 0) name ≡ Some was
      has = named_rest old name were.at_names ∙ ap value_of found

  pub kept_same : (old new : Pages X) (first count : ℕ) → AreKept old first count
      → ((number : ℕ) → slot_at new number ≡ slot_at old number) → AreKept new first count
  kept_same old new first count were same = record {
    at_names = are;
    none_below = λ k less. same k ∙ were.none_below k less;
    small = omega (arith, were.small);
    counted = were.counted ∙ sym (ap length (same_rest old new were.at_names are same));
  }
    where
      are : AreAtNames (slot_at new)
      are number = rw (same number) (were.at_names number)

-- The words in use of loaders that are handed on and dealt to shares, and the seats of the meter
-- that the shares get. For `hand_on`, `hand_all` and `deal_to`.
use Rattle.std.proofs.Common.{◌≡◌, ◌+◌, ◌<◌, ℕ, Some, None, List, [], ◌∷◌, ◌++◌, map, length, refl, sym, ap, ◌∙◌, arith}
use Rattle.std.proofs.Common.{get_or, drop}
use Rattle.std.specs.List.{sum_by}
use Rattle.std.specs.Map.{values_of}
use Rattle.std.proofs.lemmas.List.{append_assoc, append-nil, map-append, nil_from_length}
use Rattle.std.proofs.lemmas.List.Sums.{sum_by-append, sum_by-cons, sum_by_push}
use Rattle.ms_base.specs.Names.{named, with_new, without}
use Rattle.ms_base.proofs.entries.EntryLemmas.{split_at, gap_at, values_split, values_joined}
use Rattle.ms_loader.specs.Loader.{LoaderView}
use Rattle.ms_loader_map.specs.Used.{used_by, used_in}
use Rattle.ms_shared.specs.MeterRule.{MeterSeatState}
use Rattle.ms_shared.specs.SeatView.{SeatState}
use Rattle.ms_run.specs.declared.share.Share.{Share}
use Rattle.ms_run.specs.Dealing.{Loaded}
use Rattle.ms_run.specs.Metering.{meter_of, used_over}

abbrev uses : LoaderView → ℕ
uses loader = used_by loader.state

-- One loader among the others.
used_joined : (before after : Loaded) → used_in (before ++ after) ≡ used_in before + used_in after
used_joined before after =
    ap (sum_by uses) (values_joined before after) ∙ sum_by-append uses (values_of before) (values_of after)

used_split : (before after : Loaded) (name : ℕ) (loader : LoaderView)
    → used_in (before ++ (name, loader) ∷ after) ≡ used_in (before ++ after) + used_by loader.state
used_split before after name loader = omega (
  arith,
  ap (sum_by uses) (values_split before after name loader),
  sum_by-append uses (values_of before) (loader ∷ values_of after),
  sum_by-cons uses loader (values_of after),
  used_joined before after,
)

used_taken : (loaders : Loaded) (name : ℕ) (loader : LoaderView) → named loaders name ≡ Some loader
    → used_in loaders ≡ used_in (without loaders name) + used_by loader.state
used_taken loaders name loader found =
    let split = split_at loaders name loader found in
    ap used_in split.is ∙ used_split split.before split.after name loader
    ∙ ap (λ (l : Loaded). used_in l + used_by loader.state) (sym split.gone)

used_added : (loaders : Loaded) (name : ℕ) (loader : LoaderView) → named loaders name ≡ None
    → used_in (with_new loaders name loader) ≡ used_in loaders + used_by loader.state
used_added loaders name loader none =
    let gap = gap_at loaders name none in
    ap used_in (gap.made loader) ∙ used_split gap.before gap.after name loader
    ∙ ap (λ (l : Loaded). used_in l + used_by loader.state) (sym gap.is)

-- A loader that goes over takes its words in use along.
pub used_handed : (loaders others after others' : Loaded) (name : ℕ) (loader : LoaderView)
    → named loaders name ≡ Some loader → after ≡ without loaders name
    → named others name ≡ None → others' ≡ with_new others name loader
    → used_in after + used_in others' ≡ used_in loaders + used_in others
used_handed loaders others after others' name loader found left fresh come = omega (
  arith,
  ap used_in left,
  ap used_in come,
  used_taken loaders name loader found,
  used_added others name loader fresh,
)

-- A list's first element, and the rest.
first_and_rest : {X : Type 0} (xs rest : List X) (x : X) → 0 < length xs → x ≡ get_or xs 0 x → rest ≡ drop 1 xs
    → xs ≡ x ∷ rest
first_and_rest [] rest x some first rest_are = absurd (omega (arith, some))
first_and_rest {X} (y ∷ xs) rest x some first rest_are =
    ap (λ (z : X). z ∷ xs) (sym first) ∙ ap (λ (l : List X). x ∷ l) (sym rest_are)

-- While shares are made: the loaders that are left and those dealt have in use what all had, and
-- the meter's seats that are left, one for each share to come, follow those dealt.
pub record IsShared (loaders : Loaded) (given : List MeterSeatState) (left : Loaded) (meters : List MeterSeatState)
    (seats : List SeatState) (shares : List Share) : Type 0 where
  pub used : used_in left + used_over shares ≡ used_in loaders
  pub meters_are : map meter_of shares ++ meters ≡ given
  pub count : length meters ≡ length seats

abbrev used_of_share : Share → ℕ
used_of_share share = used_in share.loaders

pub shared_starts : (loaders : Loaded) (given meters : List MeterSeatState) (seats : List SeatState)
    (shares : List Share) → shares ≡ [] → meters ≡ given → length meters ≡ length seats
    → IsShared loaders given loaders meters seats shares
shared_starts loaders given meters seats shares nothing are count = rw nothing (record {
  used = omega arith;
  meters_are = are;
  count = count;
})

pub shared_on : (loaders left left' others : Loaded) (given meters meters' : List MeterSeatState)
    (meter : MeterSeatState) (seat : SeatState) (seats : List SeatState)
    (shares shares' : List Share) (share : Share) → IsShared loaders given left meters (seat ∷ seats) shares
    → used_in left' + used_in others ≡ used_in left
    → meter ≡ get_or meters 0 meter → meters' ≡ drop 1 meters → share.loaders ≡ others → share.meter ≡ meter
    → shares' ≡ shares ++ share ∷ []
    → IsShared loaders given left' meters' seats shares'
shared_on loaders left left' others given meters meters' meter seat seats shares shares' share its stay first rest has
    takes added = record {
      used = omega (arith, its.used, stay, ap used_over added, sum_by_push used_of_share shares share, ap used_in has);
      meters_are = ap (λ (l : List Share). map meter_of l ++ meters') added
          ∙ ap (λ (l : List MeterSeatState). l ++ meters') (map-append meter_of shares (share ∷ []))
          ∙ append_assoc (map meter_of shares) (share.meter ∷ []) meters'
          ∙ ap (λ (m : MeterSeatState). map meter_of shares ++ m ∷ meters') takes
          ∙ ap (λ (l : List MeterSeatState). map meter_of shares ++ l) (sym are) ∙ its.meters_are;
      count = omega (arith, its.count, ap length are);
    }
  where
    are : meters ≡ meter ∷ meters'
    are = first_and_rest meters meters' meter (omega (arith, its.count)) first rest

pub used_ends : (loaders left : Loaded) (given meters : List MeterSeatState) (seats : List SeatState)
    (shares shares' : List Share) (share : Share)
    → IsShared loaders given left meters seats shares → share.loaders ≡ left → shares' ≡ share ∷ shares
    → used_over shares' ≡ used_in loaders
used_ends loaders left given meters seats shares shares' share its has added =
    omega (arith, ap used_over added, sum_by-cons used_of_share share shares, ap used_in has, its.used)

pub meters_end : (loaders left : Loaded) (all meters : List MeterSeatState) (first : MeterSeatState)
    (seats : List SeatState) (shares shares' : List Share) (share : Share)
    → IsShared loaders (drop 1 all) left meters seats shares → seats ≡ [] → 0 < length all → first ≡ get_or all 0 first
    → share.meter ≡ first → shares' ≡ share ∷ shares
    → map meter_of shares' ≡ all
meters_end loaders left all meters first seats shares shares' share its nothing some is takes added =
    ap (map meter_of) added ∙ ap (λ (m : MeterSeatState). m ∷ map meter_of shares) takes
    ∙ ap (λ (l : List MeterSeatState). first ∷ l) rest
    ∙ sym (first_and_rest all (drop 1 all) first some is refl)
  where
    rest : map meter_of shares ≡ drop 1 all
    rest = sym (append-nil (map meter_of shares))
        ∙ ap (λ (l : List MeterSeatState). map meter_of shares ++ l)
        (sym (nil_from_length meters (its.count ∙ ap length nothing))) ∙ its.meters_are

-- A walk over the shares that takes both seats and the loaders out of each. For `take_apart`.
use Rattle.std.proofs.Common.{◌≡◌, List, [], ◌∷◌, ◌++◌, map, refl, sym, ap, ◌∙◌, subst, append-nil}
use Rattle.std.proofs.lemmas.List.{append_assoc}
use Rattle.ms_shared.specs.SeatView.{SeatState}
use Rattle.ms_shared.specs.MeterRule.{MeterSeatState}
use Rattle.ms_run.specs.declared.share.Share.{Share}
use Rattle.ms_run.specs.Joined.{IsJoined, AreJoined, seat_of}
use Rattle.ms_run.specs.Metering.{meter_of}
use Rattle.ms_run.proofs.sharing.GatherLemmas.{Loaders}

-- What is taken so far, and the shares that are left.
pub record AreTaken (seats : List SeatState) (meters : List MeterSeatState) (loaders : Loaders)
    (left all : List Share) : Type 0 where
  pub seats_are : seats ++ map seat_of left ≡ map seat_of all
  pub meters_are : meters ++ map meter_of left ≡ map meter_of all
  pub joined : (new : Loaders) → AreJoined loaders left new → AreJoined [] all new

pub taken_none : (seats : List SeatState) (meters : List MeterSeatState) (loaders : Loaders) (left all : List Share)
    → seats ≡ [] → meters ≡ [] → loaders ≡ [] → left ≡ all
    → AreTaken seats meters loaders left all
taken_none seats meters loaders left all none no_meter empty same = record {
  seats_are = ap (λ (l : List SeatState). l ++ map seat_of left) none ∙ ap (map seat_of) same;
  meters_are = ap (λ (l : List MeterSeatState). l ++ map meter_of left) no_meter ∙ ap (map meter_of) same;
  joined = λ new its. subst (λ (l : List Share). AreJoined [] l new) same
      (subst (λ (l : Loaders). AreJoined l left new) empty its);
}

-- What is pushed comes before what is left.
pushed_before : {X : Type 0} (f : Share → X) (so_far so_far' : List X) (left left' : List Share) (share : Share)
    → left ≡ share ∷ left' → so_far' ≡ so_far ++ f share ∷ []
    → so_far' ++ map f left' ≡ so_far ++ map f left
pushed_before {X} f so_far so_far' left left' share next pushed =
    ap (λ (l : List X). l ++ map f left') pushed ∙ append_assoc so_far (f share ∷ []) (map f left')
    ∙ ap (λ (l : List Share). so_far ++ map f l) (sym next)

pub taken_more : (seats seats' : List SeatState) (meters meters' : List MeterSeatState) (loaders loaders' : Loaders)
    (left left' all : List Share) (share : Share)
    → AreTaken seats meters loaders left all → left ≡ share ∷ left' → seats' ≡ seats ++ share.seat ∷ []
    → meters' ≡ meters ++ share.meter ∷ []
    → IsJoined loaders share.loaders loaders' → AreTaken seats' meters' loaders' left' all
taken_more seats seats' meters meters' loaders loaders' left left' all share so_far next pushed metered joined =
    record {
      seats_are = pushed_before seat_of seats seats' left left' share next pushed ∙ so_far.seats_are;
      meters_are = pushed_before meter_of meters meters' left left' share next metered ∙ so_far.meters_are;
      joined = λ new its. so_far.joined new
          (subst (λ (l : List Share). AreJoined loaders l new) (sym next) (loaders', joined, its));
    }

all_mapped : {X : Type 0} (f : Share → X) (so_far : List X) (left all : List Share) → left ≡ []
    → so_far ++ map f left ≡ map f all → so_far ≡ map f all
all_mapped {X} f so_far left all none are =
    sym (append-nil so_far) ∙ ap (λ (l : List Share). so_far ++ map f l) (sym none) ∙ are

pub all_taken : (seats : List SeatState) (meters : List MeterSeatState) (loaders : Loaders) (left all : List Share)
    → AreTaken seats meters loaders left all → left ≡ []
    → (seats ≡ map seat_of all) × AreJoined [] all loaders × (meters ≡ map meter_of all)
all_taken seats meters loaders left all so_far none = (
  all_mapped seat_of seats left all none so_far.seats_are,
  so_far.joined loaders (subst (λ (l : List Share). AreJoined loaders l loaders) (sym none) refl),
  all_mapped meter_of meters left all none so_far.meters_are,
)

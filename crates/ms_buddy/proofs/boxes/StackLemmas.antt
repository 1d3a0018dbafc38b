-- The stack of the walk over the free leaves: what a pop and a push do to it. For the iterator.
use Rattle.std.proofs.Common.{◌≡◌, ◌<◌, ◌≤◌, ℕ, ◌+◌, true, false, List, [], ◌∷◌, ◌++◌, length, Option, Some, None}
use Rattle.std.proofs.Common.{refl, sym, ap, subst, ◌∙◌, arith, append_assoc}
use Rattle.std.proofs.lemmas.Bool.{false≢true}
use Rattle.std.proofs.lemmas.List.{append-nil, length_push}
use Rattle.ms_base.specs.declared.span.Span.{Span}
use Rattle.ms_buddy.specs.declared.node_walk.Visit.{Visit}
use Rattle.ms_buddy.specs.Boxes.{shape_of}
use Rattle.ms_buddy.specs.Tree.{Node, Free, Lent, Split, IsRootPart, IsTree, free_in, free_in_halves}
use Rattle.ms_buddy.specs.Walk.{IsStack, left_of}
use Rattle.ms_buddy.proofs.TreeHalvesLemmas.{lower_part, upper_part}
use Rattle.ms_buddy.proofs.SplitLemmas.{AtSplit}

-- How many nodes a node has, itself among them.
abbrev pub nodes_in : Node → ℕ
nodes_in Free = 1
nodes_in (Lent owner front) = 1
nodes_in (Split lower upper) = nodes_in lower + nodes_in upper + 1

-- How many nodes are to be visited.
abbrev pub nodes_left : {A : Type 0} → List (Option (Visit A)) → ℕ
nodes_left [] = 0
nodes_left (None ∷ visits) = nodes_left visits
nodes_left (Some visit ∷ visits) = nodes_left visits + nodes_in (shape_of visit.node.now)

pub nodes_in-some : (node : Node) → 0 < nodes_in node
nodes_in-some Free = omega arith
nodes_in-some (Lent owner front) = omega arith
nodes_in-some (Split lower upper) = omega arith

pub nodes_left-push : {A : Type 0} (visits : List (Option (Visit A))) (visit : Visit A) → nodes_left (visits ++ Some visit ∷ []) ≡ nodes_left visits + nodes_in (shape_of visit.node.now)
nodes_left-push [] visit = refl
nodes_left-push (None ∷ visits) visit = nodes_left-push visits visit
nodes_left-push (Some other ∷ visits) visit = omega (arith, nodes_left-push visits visit)

pub left_of-push : {A : Type 0} (visits : List (Option (Visit A))) (visit : Visit A) → left_of (visits ++ Some visit ∷ []) ≡ free_in visit.level visit.start (shape_of visit.node.now) ++ left_of visits
left_of-push [] visit = sym (append-nil (free_in visit.level visit.start (shape_of visit.node.now)))
left_of-push (None ∷ visits) visit = left_of-push visits visit
left_of-push (Some other ∷ visits) visit =
    ap (λ (parts : List Span). parts ++ free_in other.level other.start (shape_of other.node.now)) (left_of-push visits visit)
    ∙ append_assoc (free_in visit.level visit.start (shape_of visit.node.now)) (left_of visits) (free_in other.level other.start (shape_of other.node.now))

-- What is known of the visit on top of a stack, and of those below it.
pub record IsTop {A : Type 0} (number : ℕ) (visits : List (Option (Visit A))) (visit : Visit A) : Type 0 where
  pub below : IsStack number visits
  pub low : number + length visits ≤ visit.level
  pub of_root : IsRootPart visit.level visit.start
  pub tree : IsTree visit.level (shape_of visit.node.now)

pub popped : {A : Type 0} (number : ℕ) (visits : List (Option (Visit A))) (visit : Visit A) → IsStack number (visits ++ Some visit ∷ []) → IsTop number visits visit
popped number [] visit stack = record { below = tt; low = omega (arith, stack.0); of_root = stack.1; tree = stack.2 }
popped number (None ∷ visits) visit stack = absurd stack
popped number (Some other ∷ visits) visit stack =
    let rest = popped (number + 1) visits visit stack.3 in
    record { below = (stack.0, stack.1, stack.2, rest.below); low = omega (arith, rest.low); of_root = rest.of_root; tree = rest.tree }

pub pushed : {A : Type 0} (number : ℕ) (visits : List (Option (Visit A))) (visit : Visit A) → IsStack number visits → number + length visits ≤ visit.level
    → IsRootPart visit.level visit.start → IsTree visit.level (shape_of visit.node.now) → IsStack number (visits ++ Some visit ∷ [])
pushed number [] visit stack low of_root tree = (omega arith, of_root, tree, tt)
pushed number (None ∷ visits) visit stack low of_root tree = absurd stack
pushed number (Some other ∷ visits) visit stack low of_root tree =
    (stack.0, stack.1, stack.2, pushed (number + 1) visits visit stack.3 (omega arith) of_root tree)

pub no_gap : {A : Type 0} (number : ℕ) (visits : List (Option (Visit A))) → IsStack number (visits ++ None ∷ []) → ⊥
no_gap number [] stack = stack
no_gap number (None ∷ visits) stack = stack
no_gap number (Some other ∷ visits) stack = no_gap (number + 1) visits stack.3

-- A turn of the walk: the top of the stack is taken off.
pub record IsTurn {A : Type 0} (visits rest : List (Option (Visit A))) (visit : Visit A) : Type 0 where
  pub top : IsTop 0 rest visit
  pub left : left_of visits ≡ free_in visit.level visit.start (shape_of visit.node.now) ++ left_of rest
  pub nodes : nodes_left visits ≡ nodes_left rest + nodes_in (shape_of visit.node.now)

pub at_turn : {A : Type 0} (visits rest : List (Option (Visit A))) (taken : Option (Visit A)) (visit : Visit A) → visits ≡ rest ++ taken ∷ [] → taken ≡ Some visit
    → IsStack 0 visits → IsTurn visits rest visit
at_turn visits rest taken visit e f stack = record {
  top = popped 0 rest visit (subst (λ (xs : List (Option (Visit _))). IsStack 0 xs) whole stack);
  left = ap left_of whole ∙ left_of-push rest visit;
  nodes = ap nodes_left whole ∙ nodes_left-push rest visit;
}
  where
    whole : visits ≡ rest ++ Some visit ∷ []
    whole = e ∙ ap (λ (x : Option (Visit _)). rest ++ x ∷ []) f

-- After a turn the same is left, and fewer nodes are to be visited.
pub record IsOneOn {A : Type 0} (visits now : List (Option (Visit A))) : Type 0 where
  pub stack : IsStack 0 now
  pub left : left_of now ≡ left_of visits
  pub fewer : nodes_left now < nodes_left visits

-- A lent leaf is passed over.
pub past_lent : {A : Type 0} (visits rest : List (Option (Visit A))) (visit : Visit A) (owner front : ℕ) → IsTurn visits rest visit → (shape_of visit.node.now) ≡ Lent owner front → IsOneOn visits rest
past_lent visits rest visit owner front turn e = record {
  stack = turn.top.below;
  left = sym (turn.left ∙ ap (λ (node : Node). free_in visit.level visit.start node ++ left_of rest) e);
  fewer = omega (arith, turn.nodes, nodes_in-some (shape_of visit.node.now));
}

-- The halves of a split are put aside, the lower one on top.
pub past_split : {A : Type 0} (visits rest one now : List (Option (Visit A))) (visit low high : Visit A) (half : ℕ) → IsTurn visits rest visit
    → AtSplit visit.level visit.start half (shape_of visit.node.now) (shape_of low.node.now) (shape_of high.node.now) → nodes_in (shape_of visit.node.now) ≡ nodes_in (shape_of low.node.now) + nodes_in (shape_of high.node.now) + 1
    → low.level ≡ visit.level + 1 → low.start ≡ visit.start → high.level ≡ visit.level + 1 → high.start ≡ visit.start + half
    → one ≡ rest ++ Some high ∷ [] → now ≡ one ++ Some low ∷ [] → IsOneOn visits now
past_split visits rest one now visit low high half turn s nodes low_level low_start high_level high_start e f = record {
  stack = subst (λ (xs : List (Option (Visit _))). IsStack 0 xs) (sym whole)
      (pushed 0 (rest ++ Some high ∷ []) low
      (pushed 0 rest high turn.top.below (omega (arith, turn.top.low, high_level))
      (rw high_level (upper_part visit.level visit.start high.start turn.top.of_root s.low (high_start ∙ ap (λ (n : ℕ). visit.start + n) s.halves.size)))
      (rw high_level s.halves.high_tree))
      (omega (arith, turn.top.low, low_level, length_push rest (Some high)))
      (rw (low_level, low_start) (lower_part visit.level visit.start turn.top.of_root s.low))
      (rw low_level s.halves.low_tree));
  left = ap left_of whole ∙ left_of-push (rest ++ Some high ∷ []) low ∙ ap (λ (parts : List Span). free_in low.level low.start (shape_of low.node.now) ++ parts) (left_of-push rest high)
      ∙ sym (append_assoc (free_in low.level low.start (shape_of low.node.now)) (free_in high.level high.start (shape_of high.node.now)) (left_of rest))
      ∙ ap (λ (parts : List Span). parts ++ left_of rest) (halves ∙ sym s.free) ∙ sym turn.left;
  fewer = omega (arith, turn.nodes, nodes, ap nodes_left whole, nodes_left-push (rest ++ Some high ∷ []) low, nodes_left-push rest high);
}
  where
    whole : now ≡ (rest ++ Some high ∷ []) ++ Some low ∷ []
    whole = f ∙ ap (λ (xs : List (Option (Visit _))). xs ++ Some low ∷ []) e

    halves : free_in low.level low.start (shape_of low.node.now) ++ free_in high.level high.start (shape_of high.node.now) ≡ free_in_halves visit.level visit.start (shape_of low.node.now) (shape_of high.node.now)
    halves = rw (low_level, low_start, high_level, high_start, s.halves.size) refl

-- An entry that is in use has a visit.
pub gap_absurd : {A : Type 0} (visits rest : List (Option (Visit A))) (taken : Option (Visit A)) → visits ≡ rest ++ taken ∷ [] → taken ≡ None → IsStack 0 visits → ⊥
gap_absurd visits rest taken e f stack =
    no_gap 0 rest (subst (λ (xs : List (Option (Visit _))). IsStack 0 xs) (e ∙ ap (λ (x : Option (Visit _)). rest ++ x ∷ []) f) stack)

-- With no visit left no free leaf is left.
pub at_end : {A : Type 0} (visits rest : List (Option (Visit A))) → (0 < length visits → false ≡ true) → visits ≡ rest ++ [] → (left_of visits ≡ []) × (left_of rest ≡ [])
at_end [] [] h e = (refl, refl)
at_end [] (visit ∷ rest) h e = absurd (cc)
at_end (visit ∷ visits) rest h e = absurd (false≢true (h (omega arith)))

-- A free leaf on top is the next one.
pub whole_next : {A : Type 0} (visits rest : List (Option (Visit A))) (visit : Visit A) (part : Span) → IsTurn visits rest visit → (shape_of visit.node.now) ≡ Free
    → part.start ≡ visit.start → part.level ≡ visit.level → left_of visits ≡ part ∷ left_of rest
whole_next visits rest visit part turn e f h =
    turn.left ∙ ap (λ (node : Node). free_in visit.level visit.start node ++ left_of rest) e ∙ rw (← f, ← h) refl

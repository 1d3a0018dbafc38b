-- Sums over chunks and counts of parts, in parts.
use Rattle.std.proofs.Common.{◌≡◌, ◌<◌, ◌≤◌, ℕ, ◌+◌, ◌^◌, Bool, true, false, cond, List, [], ◌∷◌, ◌++◌}
use Rattle.std.proofs.Common.{map, get_or, refl, sym, ap, ◌∙◌, inl, inr, arith}
use Rattle.std.specs.Prelude.{◌==◌, nat_lt}
use Rattle.std.proofs.lemmas.Bool.{cases_eq}
use Rattle.std.proofs.lemmas.Bool.Decides.{nat_tests}
use Rattle.std.proofs.lemmas.List.Sums.{sum_by-append, sum_by-cons}
use Rattle.ms_base.specs.declared.span.Chunk.{Chunk}
use Rattle.ms_base.specs.declared.span.Span.{Span}
use Rattle.ms_base.proofs.free.MovedLemmas.{raised_part}
use Rattle.ms_base.specs.Level.{level_count}
use Rattle.ms_buddy.specs.Counts.{AreRaised, count_at_level}
use Rattle.ms_pool.specs.Counting.{total}

pub total-none : (amount : Chunk → ℕ) → total amount [] ≡ 0
unfolding total
total-none amount = refl

pub total-one : (amount : Chunk → ℕ) (chunk : Chunk) → total amount (chunk ∷ []) ≡ amount chunk
unfolding total
total-one amount chunk = omega arith

pub total-append : (amount : Chunk → ℕ) (xs ys : List Chunk)
    → total amount (xs ++ ys) ≡ total amount xs + total amount ys
unfolding total
total-append amount xs ys = sum_by-append amount xs ys

pub total-cons : (amount : Chunk → ℕ) (chunk : Chunk) (chunks : List Chunk)
    → total amount (chunk ∷ chunks) ≡ amount chunk + total amount chunks
unfolding total
total-cons amount chunk chunks = sum_by-cons amount chunk chunks

-- The same of parts.
pub parts_of-none : (level : ℕ) → count_at_level level [] ≡ 0
unfolding count_at_level
parts_of-none level = refl

pub parts_of-append : (level : ℕ) (xs ys : List Span)
    → count_at_level level (xs ++ ys) ≡ count_at_level level xs + count_at_level level ys
unfolding count_at_level
parts_of-append level xs ys = sum_by-append (λ (part : Span). cond (part.level == level) 1 0) xs ys

pub parts_of-cons : (level : ℕ) (part : Span) (parts : List Span)
    → count_at_level level (part ∷ parts) ≡ cond (part.level == level) 1 0 + count_at_level level parts
unfolding count_at_level
parts_of-cons level part parts = sum_by-cons (λ (part : Span). cond (part.level == level) 1 0) part parts

pub parts_of-raised : (level words : ℕ) (parts : List Span)
    → count_at_level level (map (raised_part words) parts) ≡ count_at_level level parts
parts_of-raised level words [] = refl
parts_of-raised level words (p ∷ parts) =
    parts_of-cons level (raised_part words p) (map (raised_part words) parts)
    ∙ ap (λ (n : ℕ). cond (p.level == level) 1 0 + n) (parts_of-raised level words parts)
    ∙ sym (parts_of-cons level p parts)

abbrev pub none_or_one : Bool → ℕ
none_or_one b = cond b 1 0

pub one_if : (b : Bool) (n : ℕ) → b ≡ true → n ≡ none_or_one b → n ≡ 1
one_if true n e same = same
one_if false n e same = absurd (cc)

-- Level by level.
none_below : (level more : ℕ) → cond (nat_lt level 0) more 0 ≡ 0
none_below level more = grind (arith, nat_tests)

pub raised_to_first : (counts : List ℕ) (more : ℕ → ℕ)
    → AreRaised counts (λ level. cond (nat_lt level 0) (more level) 0) counts
raised_to_first counts more =
    record { full = refl; counts = λ level h. omega (arith, none_below level (more level)) }

same_there : (level other : ℕ) (more : ℕ → ℕ)
    → cond (level == other) (more level) 0 ≡ cond (level == other) (more other) 0
same_there level other more = elim (cases_eq level other) [
  | inl same ↦ ap (λ (n : ℕ). cond (level == other) (more n) 0) same
  | inr apart ↦ nowhere level other (more level) (more other) apart
]
  where
    nowhere : (a b x y : ℕ) → (a ≡ b → ⊥) → cond (a == b) x 0 ≡ cond (a == b) y 0
    nowhere a b x y h = grind (arith, nat_tests)

pub raised_to_next : (old now new : List ℕ) (more : ℕ → ℕ) (level : ℕ)
    → AreRaised old (λ other. cond (nat_lt other level) (more other) 0) now
    → AreRaised now (λ other. cond (level == other) (more level) 0) new
    → AreRaised old (λ other. cond (nat_lt other (level + 1)) (more other) 0) new
raised_to_next old now new more level so_far raised = record {
  full = raised.full ∙ so_far.full;
  counts = λ other h. omega (
    arith,
    so_far.counts other h,
    raised.counts other h,
    same_there level other more,
    one_more level other (more other),
  );
}
  where
    one_more : (level other more : ℕ)
        → cond (nat_lt other (level + 1)) more 0 ≡ cond (nat_lt other level) more 0 + cond (level == other) more 0
    one_more level other more = grind (arith, nat_tests)

pub raised_to_last : (old new : List ℕ) (more : ℕ → ℕ) (level : ℕ) → level_count ≤ level
    → AreRaised old (λ other. cond (nat_lt other level) (more other) 0) new → AreRaised old more new
raised_to_last old new more level past raised = record {
  full = raised.full;
  counts = λ other h. omega (arith, raised.counts other h, all_below other level (more other) h past);
}
  where
    all_below : (other level more : ℕ) → other < level_count → level_count ≤ level
        → cond (nat_lt other level) more 0 ≡ more
    all_below other level more h k = grind (arith, nat_tests)

pub room_at : (old now : List ℕ) (more : ℕ → ℕ) (level : ℕ) → level < level_count
    → AreRaised old (λ other. cond (nat_lt other level) (more other) 0) now
    → get_or old level 0 + more level < 2 ^ 32 → get_or now level 0 + more level < 2 ^ 32
room_at old now more level h raised room =
    omega (arith, raised.counts level h, room, none_here level (more level))
  where
    none_here : (level more : ℕ) → cond (nat_lt level level) more 0 ≡ 0
    none_here level more = grind (arith, nat_tests)

-- Held chunks where some are given back, one is added, or slots come and go.
use Rattle.std.proofs.Common.{◌≡◌, ℕ, true, false, List, [], ◌∷◌, ◌++◌, map, refl, ◌∙◌}
use Rattle.std.specs.List.{list_all}
use Rattle.std.proofs.lemmas.Bool.{or_parts}
use Rattle.std.proofs.lemmas.List.{map-append}
use Rattle.ms_base.specs.declared.policy.Policy.{Policy}
use Rattle.ms_base.specs.declared.span.Chunk.{Chunk}
use Rattle.ms_base.specs.Interval.{meet, meets_any}
use Rattle.ms_base.specs.Level.{size_of}
use Rattle.ms_base.specs.Part.{IsPart, slot_of, is_reserved}
use Rattle.ms_base.specs.Front.{HasFront}
use Rattle.ms_base.specs.Held.{AreHeld, words_of, meets_chunk}
use Rattle.ms_base.proofs.runs.ApartLemmas.{All-rest_of, list_all-rest_of, apart-rest_of, All-with, list_all-with}
use Rattle.ms_base.proofs.runs.ApartLemmas.{apart-with, meet_turned}

abbrev pub IsPlaced : Chunk → Type 0
IsPlaced chunk = IsPart chunk.start chunk.level

-- Chunks that are given back leave the others held.
pub held_rest : (policy : Policy) (slots : List ℕ) (b mid a : List Chunk) → AreHeld policy slots (b ++ (mid ++ a))
    → AreHeld policy slots (b ++ a)
held_rest policy slots b mid a h = record {
  parts = All-rest_of IsPlaced b mid a h.parts;
  fronts = All-rest_of (HasFront policy) b mid a h.fronts;
  reserved = list_all-rest_of _ b mid a h.reserved;
  apart = rw (map-append words_of b a) (apart-rest_of (map words_of b) (map words_of mid) (map words_of a)
      (rw (map-append words_of b (mid ++ a), map-append words_of mid a) at h.apart));
}

-- A part that meets no chunk meets none of their runs.
meets_none : (chunk : Chunk) (held : List Chunk) → meets_chunk held chunk.start chunk.level ≡ false
    → meets_any (words_of chunk) (map words_of held) ≡ false
meets_none chunk [] h = refl
meets_none chunk (c ∷ held) h =
    let both =
    or_parts (meet c.start (size_of c.level) chunk.start (size_of chunk.level))
    (meets_chunk held chunk.start chunk.level) h in
    rw (meet_turned chunk.start (size_of chunk.level) c.start (size_of c.level) ∙ both.0) (meets_none chunk held both.1)

-- A chunk that meets none is held with the others.
pub held_with : (policy : Policy) (slots : List ℕ) (b : List Chunk) (chunk : Chunk) (a : List Chunk)
    → IsPart chunk.start chunk.level → HasFront policy chunk → is_reserved slots (slot_of chunk.start) ≡ true
    → meets_chunk (b ++ a) chunk.start chunk.level ≡ false → AreHeld policy slots (b ++ a)
    → AreHeld policy slots (b ++ chunk ∷ a)
held_with policy slots b chunk a part front reserved clear h = record {
  parts = All-with IsPlaced b chunk a part h.parts;
  fronts = All-with (HasFront policy) b chunk a front h.fronts;
  reserved = list_all-with _ b chunk a reserved h.reserved;
  apart = rw (map-append words_of b (chunk ∷ a)) (apart-with (map words_of b) (words_of chunk) (map words_of a)
      (rw (map-append words_of b a) at (meets_none chunk (b ++ a) clear)) (rw (map-append words_of b a) at h.apart));
}

-- Held chunks stay so in slots that have theirs.
pub held_in : (policy : Policy) (slots others : List ℕ) (held : List Chunk)
    → list_all (λ (chunk : Chunk). is_reserved others (slot_of chunk.start)) held ≡ true → AreHeld policy slots held
    → AreHeld policy others held
held_in policy slots others held reserved h =
    record { parts = h.parts; fronts = h.fronts; reserved = reserved; apart = h.apart }

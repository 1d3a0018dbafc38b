-- The numbers that a run can make, in the lines of a report: for `laws`.
use Rattle.std.proofs.Common.{◌≡◌, ◌≤◌, ◌<◌, ◌*◌, ◌^◌, ℕ, List, [], ◌∷◌, length, codes, arith}
use Rattle.std.specs.List.{All}
use Rattle.std.proofs.lemmas.List.Elements.{All-from_recursion}
use Rattle.std.proofs.lemmas.List.Sums.{count_by-le-length, sum_by-cons}
use Rattle.ms_base.specs.declared.policy.Policy.{Policy}
use Rattle.ms_base.specs.declared.policy.Policy.TheVariants.{Balanced, Aggressive, None as Never}
use Rattle.ms_base.specs.declared.kind.Space.{Space}
use Rattle.ms_base.specs.declared.kind.Space.TheVariants.{NonClass, Class}
use Rattle.ms_base.specs.declared.span.Chunk.{Chunk}
use Rattle.ms_base.specs.declared.step.Reply.{Reply}
use Rattle.ms_base.specs.Good.{IsGood}
use Rattle.ms_base.specs.Level.{size_of}
use Rattle.ms_base.specs.Policy.{granule_of}
use Rattle.ms_base.specs.Spaces.{most_slots}
use Rattle.ms_base.specs.State.{Machine, committed_in, pool_of}
use Rattle.ms_base.specs.Totals.{capacity_of, space_sums}
use Rattle.ms_base.proofs.free.HalvesLemmas.{size_some}
use Rattle.ms_base.proofs.granules.FrontSumLemmas.{sums_are_bounded}
use Rattle.ms_report.specs.Layout.{number_line, space_rows}
use Rattle.ms_report.specs.Refused.{is_refused_as, refused_as, refused_rows, refusals_of}
use Rattle.ms_report.proofs.PaddingLemmas.{number_line_length}

-- A line of the length that all such lines have.
abbrev IsInLine : List ℕ × ℕ → Type 0
IsInLine row = length (number_line row.0 row.1) ≡ 27

-- No more replies are refused by a name than there are.
refused_line : (name : List ℕ) (replies : List Reply) → length replies < 10 ^ 12 → length name ≤ 12
    → IsInLine (name, refused_as name replies)
refused_line name replies few short =
    number_line_length name (refused_as name replies) short
    (omega (arith, few, count_by-le-length (is_refused_as name) replies))

pub refused_lines : (replies : List Reply) → length replies < 10 ^ 12
    → All IsInLine (refused_rows (refusals_of replies))
refused_lines replies few = All-from_recursion IsInLine (refused_rows (refusals_of replies)) (
  refused_line (codes "LoaderExists") replies few (omega arith),
  (
    refused_line (codes "IdsUsedUp") replies few (omega arith),
    (
      refused_line (codes "NoLoader") replies few (omega arith),
      (
        refused_line (codes "BlockExists") replies few (omega arith),
        (
          refused_line (codes "ZeroWords") replies few (omega arith),
          (
            refused_line (codes "TooLarge") replies few (omega arith),
            (
              refused_line (codes "OutOfMemory") replies few (omega arith),
              (
                refused_line (codes "ReserveLimit") replies few (omega arith),
                (
                  refused_line (codes "CommitLimit") replies few (omega arith),
                  (
                    refused_line (codes "NoBlock") replies few (omega arith),
                    (
                      refused_line (codes "OutOfRange") replies few (omega arith),
                      tt,
                    ),
                  ),
                ),
              ),
            ),
          ),
        ),
      ),
    ),
  ),
)

-- A space has 64 nodes at most; a granule and a chunk have a word at least.
few_slots : (space : Space) → most_slots space ≤ 64
few_slots NonClass = omega arith
few_slots Class = omega arith

granules_have_words : (policy : Policy) (count : ℕ) → count ≤ count * granule_of policy
granules_have_words Balanced count = omega arith
granules_have_words Aggressive count = omega arith
granules_have_words Never count = omega arith

chunks_have_words : (chunks : List Chunk) → length chunks ≤ capacity_of chunks
chunks_have_words [] = omega arith
chunks_have_words (chunk ∷ chunks) =
    omega (
      arith,
      sum_by-cons (λ (c : Chunk). size_of c.level) chunk chunks,
      chunks_have_words chunks,
      size_some chunk.level,
    )

pub space_lines : (space : Space) (m : Machine) → IsGood m → All IsInLine (space_rows (space_sums space m))
space_lines space m good =
    let its = sums_are_bounded space m good in
    let sums = space_sums space m in
    let few = few_slots space in
    let reserved : sums.reserved < 10 ^ 12 = omega (arith, few, its.slots) in
    let capacity : sums.capacity < 10 ^ 12 = omega (arith, few, its.slots, its.capacity) in
    let fronts : sums.fronts < 10 ^ 12 = omega (arith, capacity, its.lent) in
    let used : sums.used < 10 ^ 12 = omega (arith, fronts, its.used) in
    let committed : sums.committed < 10 ^ 12 = omega (arith, few, its.slots, its.committed) in
    All-from_recursion IsInLine (space_rows sums) (
      number_line_length (codes "nodes") sums.nodes (omega arith) (omega (arith, few, its.slots)),
      (
        number_line_length (codes "reserved") sums.reserved (omega arith) reserved,
        (
          number_line_length (codes "granules") sums.granules (omega arith) (omega (arith, committed, granules_have_words m.limits.policy (length (committed_in space m)))),
          (
            number_line_length (codes "committed") sums.committed (omega arith) committed,
            (
              number_line_length (codes "chunks") sums.chunks (omega arith) (omega (arith, capacity, chunks_have_words (pool_of space m).held)),
              (
                number_line_length (codes "capacity") sums.capacity (omega arith) capacity,
                (
                  number_line_length (codes "fronts") sums.fronts (omega arith) fronts,
                  (
                    number_line_length (codes "used") sums.used (omega arith) used,
                    (
                      number_line_length (codes "live") sums.live (omega arith) (omega (arith, used, its.blocks)),
                      (
                        number_line_length (codes "free blocks") sums.free_blocks (omega arith) (omega (arith, used, its.blocks)),
                        (
                          number_line_length (codes "waste") sums.waste (omega arith) (omega (arith, used)),
                          tt,
                        ),
                      ),
                    ),
                  ),
                ),
              ),
            ),
          ),
        ),
      ),
    )

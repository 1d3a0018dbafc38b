-- How many command lines were refused, by name: the part Refused of a full report (this project's
-- choice).
use Rattle.std.specs.Prelude.{ℕ, ◌+◌, ◌<◌, Bool, false, List, [], ◌∷◌, ◌++◌, codes, cond, nat_eq}
use Rattle.std.specs.List.{count_by}
use Rattle.std.specs.Cmp.Lexicographic.{pointwise}
use Rattle.ms_base.specs.declared.step.Reply.{Reply}
use Rattle.ms_base.specs.declared.step.Reply.TheVariants.{Refused}
use Rattle.ms_base.specs.ReplyText.{name_of}
use Rattle.ms_report.specs.declared.refused.Refusals.{Refusals}
use Rattle.ms_report.specs.Layout.{number_lines}

-- The reply is a refusal of that name.
abbrev pub is_refused_as : List ℕ → Reply → Bool
is_refused_as name (Refused refusal) = pointwise nat_eq name (name_of refusal)
is_refused_as name _ = false

-- How many of the replies are.
abbrev pub refused_as : List ℕ → List Reply → ℕ
refused_as name replies = count_by (is_refused_as name) replies

-- A number for each name.
abbrev pub by_name : (List ℕ → ℕ) → Refusals
by_name number = record {
  loader_exists = number (codes "LoaderExists");
  ids_used_up = number (codes "IdsUsedUp");
  no_loader = number (codes "NoLoader");
  block_exists = number (codes "BlockExists");
  zero_words = number (codes "ZeroWords");
  too_large = number (codes "TooLarge");
  out_of_memory = number (codes "OutOfMemory");
  reserve_limit = number (codes "ReserveLimit");
  commit_limit = number (codes "CommitLimit");
  no_block = number (codes "NoBlock");
  out_of_range = number (codes "OutOfRange");
}

-- How many of the replies are refusals, by their names.
abbrev pub refusals_of : List Reply → Refusals
refusals_of replies = by_name (λ name. refused_as name replies)

-- The numbers once one more reply is counted.
abbrev pub with_reply : Refusals → Reply → Refusals
with_reply counts reply = record {
  loader_exists = counts.loader_exists + cond (is_refused_as (codes "LoaderExists") reply) 1 0;
  ids_used_up = counts.ids_used_up + cond (is_refused_as (codes "IdsUsedUp") reply) 1 0;
  no_loader = counts.no_loader + cond (is_refused_as (codes "NoLoader") reply) 1 0;
  block_exists = counts.block_exists + cond (is_refused_as (codes "BlockExists") reply) 1 0;
  zero_words = counts.zero_words + cond (is_refused_as (codes "ZeroWords") reply) 1 0;
  too_large = counts.too_large + cond (is_refused_as (codes "TooLarge") reply) 1 0;
  out_of_memory = counts.out_of_memory + cond (is_refused_as (codes "OutOfMemory") reply) 1 0;
  reserve_limit = counts.reserve_limit + cond (is_refused_as (codes "ReserveLimit") reply) 1 0;
  commit_limit = counts.commit_limit + cond (is_refused_as (codes "CommitLimit") reply) 1 0;
  no_block = counts.no_block + cond (is_refused_as (codes "NoBlock") reply) 1 0;
  out_of_range = counts.out_of_range + cond (is_refused_as (codes "OutOfRange") reply) 1 0;
}

-- Each is less than a bound.
pub record AreFew (bound : ℕ) (counts : Refusals) : Type 0 where
  pub loader_exists : counts.loader_exists < bound
  pub ids_used_up : counts.ids_used_up < bound
  pub no_loader : counts.no_loader < bound
  pub block_exists : counts.block_exists < bound
  pub zero_words : counts.zero_words < bound
  pub too_large : counts.too_large < bound
  pub out_of_memory : counts.out_of_memory < bound
  pub reserve_limit : counts.reserve_limit < bound
  pub commit_limit : counts.commit_limit < bound
  pub no_block : counts.no_block < bound
  pub out_of_range : counts.out_of_range < bound

-- The numbers with their labels, the names of the refusals.
abbrev pub refused_rows : Refusals → List (List ℕ × ℕ)
refused_rows counts =
    (codes "LoaderExists", counts.loader_exists)
    ∷ (codes "IdsUsedUp", counts.ids_used_up)
    ∷ (codes "NoLoader", counts.no_loader)
    ∷ (codes "BlockExists", counts.block_exists)
    ∷ (codes "ZeroWords", counts.zero_words)
    ∷ (codes "TooLarge", counts.too_large)
    ∷ (codes "OutOfMemory", counts.out_of_memory)
    ∷ (codes "ReserveLimit", counts.reserve_limit)
    ∷ (codes "CommitLimit", counts.commit_limit)
    ∷ (codes "NoBlock", counts.no_block)
    ∷ (codes "OutOfRange", counts.out_of_range)
    ∷ []

-- A line for each name.
abbrev pub refused_part : Refusals → List ℕ
refused_part counts = codes "Refused\n" ++ number_lines (refused_rows counts)

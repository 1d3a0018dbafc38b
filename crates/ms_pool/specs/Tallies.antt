-- Tallies of refusals, which contracts alone see: whoever makes up a refusal raises none (this
-- project's choice).
use Rattle.std.specs.Prelude.{ℕ, ◌+◌, ◌%◌, ◌^◌, ◌<◌}

-- How often `take` met the commit limit and the reserve limit, `grow` the commit limit and a want
-- of room, and an account was refused a number, each modulo 2^64.
pub record Tallies : Type 0 where
  pub take_commit : ℕ
  pub take_reserve : ℕ
  pub grow_commit : ℕ
  pub grow_room : ℕ
  pub open_ids : ℕ

abbrev pub no_tallies : Tallies
no_tallies = record { take_commit = 0; take_reserve = 0; grow_commit = 0; grow_room = 0; open_ids = 0 }

-- One more, modulo 2^64.
abbrev pub one_more : ℕ → ℕ
one_more tally = (tally + 1) % 2 ^ 64

-- Each tally is a number of 64 bits.
pub record AreTallies (tallies : Tallies) : Type 0 where
  pub take_commit : tallies.take_commit < 2 ^ 64
  pub take_reserve : tallies.take_reserve < 2 ^ 64
  pub grow_commit : tallies.grow_commit < 2 ^ 64
  pub grow_room : tallies.grow_room < 2 ^ 64
  pub open_ids : tallies.open_ids < 2 ^ 64

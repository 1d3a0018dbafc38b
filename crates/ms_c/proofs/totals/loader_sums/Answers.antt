use Rattle.ms_c.proofs.totals.loader_sums.Goals as goal

pub returns : goal.returns
returns c =
    λ i. record { kind = c.number_of.ensures i; space = c.arena_sums.ensures i; class_space = c.arena_sums-2.ensures i }

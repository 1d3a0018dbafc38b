use Rattle.ms_shared.proofs.shared_pool.SharedPool.hand.Given as goal

abbrev pub ghosts-pass : goal.ghosts-pass
ghosts-pass a = record { owner = a.«_account».now.owner; space = a.«_account».now.space }

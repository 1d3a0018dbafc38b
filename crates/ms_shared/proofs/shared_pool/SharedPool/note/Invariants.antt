use Rattle.ms_shared.proofs.shared_pool.SharedPool.note.Given as goal

abbrev pub ghosts-note_named : goal.ghosts-note_named
ghosts-note_named a = record { pool = a.«_pool».now }

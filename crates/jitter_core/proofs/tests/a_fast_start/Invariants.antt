use Rattle.jitter_core.proofs.tests.a_fast_start.Given as goal

abbrev pub ghosts-fast_start : goal.ghosts-fast_start
ghosts-fast_start g a = record { name = a.blank.name; parts = a.blank.parts }

use Rattle.jitter_timers.proofs.tests.a_queue_runs_beside_a_table.Given as goal

abbrev pub ghosts-runs_beside_a_table : goal.ghosts-runs_beside_a_table
ghosts-runs_beside_a_table g a = record { name = a.blank.name; parts = a.blank.parts }

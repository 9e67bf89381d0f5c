use Rattle.jitter_core.proofs.tests.the_window_forgets_its_first_difference.Given as goal

abbrev pub ghosts-after_the_window : goal.ghosts-after_the_window
ghosts-after_the_window g a = record { name = a.blank.name; parts = a.blank.parts }

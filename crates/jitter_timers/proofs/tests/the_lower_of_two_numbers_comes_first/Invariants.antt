use Rattle.jitter_timers.proofs.tests.the_lower_of_two_numbers_comes_first.Given as goal

abbrev pub ghosts-ties : goal.ghosts-ties
ghosts-ties g a = record { name = a.blank.name; parts = a.blank.parts }

use Rattle.live_bin.proofs.tests.answers.Given as goal

abbrev pub ghosts-call_by_call : goal.ghosts-call_by_call
ghosts-call_by_call a = record { plan = a.plan.now }

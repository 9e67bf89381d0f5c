use Rattle.live_text.proofs.lane_tests.called.Given as goal

abbrev pub ghosts-call_by_call : goal.ghosts-call_by_call
ghosts-call_by_call a = record { plan = a.plan.now }

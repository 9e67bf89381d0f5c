use Rattle.std.proofs.Common.{◌≡◌, ℕ, [], take}
use Rattle.std.specs.Prelude.{nat_eq, if◌then◌else◌}
use Rattle.std.specs.List.{list_any}
use Rattle.rtp_session.specs.Runs.{run_of}
use Rattle.rtp_session.proofs.held.forget.Given as goal

abbrev pub invariant-loop-ssrc : goal.invariant-loop-ssrc
invariant-loop-ssrc l = (q : ℕ) → run_of l.held.entries q ≡ (if list_any (nat_eq q) (take l.ssrc-index l.ssrcs) then [] else run_of l.initial.held.entries q)

use Rattle.std.proofs.Common.{◌≡◌, ℕ, take}
use Rattle.std.specs.Prelude.{nat_eq}
use Rattle.std.specs.List.{list_any}
use Rattle.rtp_session.proofs.session.Session.new.Given as goal

abbrev pub invariant-loop-ssrc : goal.invariant-loop-ssrc
invariant-loop-ssrc l = (q : ℕ) → list_any (nat_eq q) l.known.keys ≡ list_any (nat_eq q) (take l.ssrc-index l.quick)

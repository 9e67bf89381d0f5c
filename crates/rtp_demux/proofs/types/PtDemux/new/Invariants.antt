use Rattle.std.proofs.Common.{◌≡◌, ℕ, nat_eq, take}
use Rattle.std.specs.Prelude.{option_map}
use Rattle.std.specs.Map.{lookup}
use Rattle.rtp_demux.specs.Types.{route, rate_of}
use Rattle.std.specs.Prelude.{false}
use Rattle.rtp_demux.proofs.types.PtDemux.new.Given as goal

abbrev pub invariant-loop-pt : goal.invariant-loop-pt
invariant-loop-pt l = (q : ℕ) → lookup (nat_eq q) l.routes.entries ≡ option_map (λ r. route r false) (rate_of (take l.pt-index l.rates) q)

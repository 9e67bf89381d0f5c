use Rattle.std.proofs.Common.{◌≡◌, take}
use Rattle.std.specs.List.{filter_map}
use Rattle.front_model.specs.Types.{rate_in}
use Rattle.rtp_front.proofs.streams.rates_in.Given as goal

abbrev pub invariant-loop-line : goal.invariant-loop-line
invariant-loop-line l =
    l.rates.items ≡ filter_map (rate_in l.session) (take l.line-index l.pts)

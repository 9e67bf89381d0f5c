use Rattle.std.proofs.Common.{◌≡◌, ℕ, take}
use Rattle.std.specs.List.{filter_map}
use Rattle.std.specs.Map.{lookup}
use Rattle.rtp_demux.specs.Types.{rate_of}
use Rattle.front_model.specs.Types.{rate_in}
use Rattle.rtp_front.specs.Chosen.{is_type}
use Rattle.rtp_front.proofs.choices.rates_of.Given as goal

abbrev pub invariant-loop-line : goal.invariant-loop-line
invariant-loop-line l =
    (session pt : ℕ) → lookup (is_type (session, pt)) l.rates.entries
    ≡ rate_of (filter_map (rate_in session) (take l.line-index l.line-items)) pt

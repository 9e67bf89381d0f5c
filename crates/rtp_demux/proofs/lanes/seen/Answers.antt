use Rattle.std.proofs.Common.{◌∙◌, Some, sym, ap}
use Rattle.std.proofs.lemmas.Map.Made.{lookup_key_passes}
use Rattle.rtp_demux.specs.Lanes.{Stream, is_stream}
use Rattle.rtp_demux.proofs.Sights.{same_stream}
use Rattle.rtp_demux.proofs.lanes.seen.Goals as goal

pub returns : goal.returns
returns c =
    let here = c.in_ok-lane.ensures in
    let passes = lookup_key_passes (is_stream c.args.stream) c.args.lanes.now.entries c.in_ok-lane._stream.now (sym here.key) in
    here.entry ∙ ap (λ (s : Stream). Some (s, c.in_ok-lane.rate.now)) (sym (same_stream c.args.stream c.in_ok-lane._stream.now passes))

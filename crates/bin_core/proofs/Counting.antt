-- Lines that count nothing.
use Rattle.std.proofs.Common.{◌≡◌, true, refl, [], ◌∷◌}
use Rattle.timeline.specs.declared.line.BinLine.{BinLine}
use Rattle.timeline.specs.declared.line.BinLine.TheVariants as line
use Rattle.replay_sound.specs.Suited.{counts_none}
use Rattle.lane_core.specs.Lanes.{Sums}

pub line_sums : (x : BinLine) → counts_none x ≡ true → Sums (x ∷ []) 0 0 0
line_sums (line.Skip a0 a1 a2) = λ e. record { out_is = refl; lost_is = refl; refused_is = refl }
line_sums (line.Bad a0 a1 a2) = λ e. record { out_is = refl; lost_is = refl; refused_is = refl }
line_sums (line.RtcpBad a0 a1 a2 a3) = λ e. record { out_is = refl; lost_is = refl; refused_is = refl }
line_sums (line.Hold a0 a1 a2 a3) = λ e. record { out_is = refl; lost_is = refl; refused_is = refl }
line_sums (line.Drop a0 a1 a2 a3 a4) = λ e. record { out_is = refl; lost_is = refl; refused_is = refl }
line_sums (line.Pt a0 a1 a2 a3) = λ e. record { out_is = refl; lost_is = refl; refused_is = refl }
line_sums (line.Lane a0 a1 a2 a3) = λ e. record { out_is = refl; lost_is = refl; refused_is = refl }
line_sums (line.Unaside a0 a1 a2) = λ e. record { out_is = refl; lost_is = refl; refused_is = refl }
line_sums (line.Aside a0 a1 a2) = λ e. record { out_is = refl; lost_is = refl; refused_is = refl }
line_sums (line.Restart a0 a1 a2 a3) = λ e. record { out_is = refl; lost_is = refl; refused_is = refl }
line_sums (line.Refuse a0 a1 a2 a3 a4) = λ e. cc
line_sums (line.Out a0 a1 a2 a3 a4 a5 a6 a7) = λ e. cc
line_sums (line.Lost a0 a1 a2 a3 a4 a5) = λ e. cc
line_sums (line.Request a0 a1 a2 a3) = λ e. record { out_is = refl; lost_is = refl; refused_is = refl }
line_sums (line.Nack a0 a1 a2) = λ e. record { out_is = refl; lost_is = refl; refused_is = refl }
line_sums (line.Flush a0 a1 a2) = λ e. record { out_is = refl; lost_is = refl; refused_is = refl }
line_sums (line.Flushed a0 a1) = λ e. record { out_is = refl; lost_is = refl; refused_is = refl }
line_sums (line.Latency a0 a1 a2) = λ e. record { out_is = refl; lost_is = refl; refused_is = refl }
line_sums (line.Cname a0 a1 a2 a3) = λ e. record { out_is = refl; lost_is = refl; refused_is = refl }
line_sums (line.Sr a0 a1 a2 a3 a4) = λ e. record { out_is = refl; lost_is = refl; refused_is = refl }
line_sums (line.RtcpStray a0 a1 a2) = λ e. record { out_is = refl; lost_is = refl; refused_is = refl }
line_sums (line.Bye a0 a1 a2) = λ e. record { out_is = refl; lost_is = refl; refused_is = refl }
line_sums (line.Sync a0 a1 a2) = λ e. record { out_is = refl; lost_is = refl; refused_is = refl }
line_sums (line.Offset a0 a1 a2) = λ e. record { out_is = refl; lost_is = refl; refused_is = refl }
line_sums (line.Gone a0 a1 a2) = λ e. record { out_is = refl; lost_is = refl; refused_is = refl }
line_sums (line.Report a0 a1 a2) = λ e. record { out_is = refl; lost_is = refl; refused_is = refl }
line_sums (line.End a0 a1) = λ e. record { out_is = refl; lost_is = refl; refused_is = refl }
line_sums (line.Done a0 a1 a2 a3 a4) = λ e. record { out_is = refl; lost_is = refl; refused_is = refl }

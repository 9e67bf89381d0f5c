-- What became of the packets of a run.
use Rattle.std.specs.Prelude.{◌≡◌, ℕ, ◌+◌, List, length, sum_by, flat_map}
use Rattle.jitter_model.specs.declared.Verdict.{Verdict}
use Rattle.jitter_model.specs.declared.Verdict.TheVariants.{Accepted, Aside, Restart}
use Rattle.timeline.specs.declared.line.BinLine.{BinLine}
use Rattle.timeline.specs.declared.line.BinLine.TheVariants.{Done}
use Rattle.live_bin.specs.declared.entry.Entry.{Entry}
use Rattle.live_bin.specs.declared.entry.Entry.TheVariants.{Push, Packet, Lost}
use Rattle.live_bin.specs.declared.history.LaneHistory.{LaneHistory}
use Rattle.live_bin.specs.declared.plan.Plan.{Plan}
use Rattle.live_output.specs.declared.totals.Totals.{Totals}

-- packets that left
abbrev pub out_in : Entry → ℕ
out_in (Packet number pts packet) = 1
out_in e = 0

-- numbers that were lost
abbrev pub lost_in : Entry → ℕ
lost_in (Lost number count pts duration) = count
lost_in e = 0

abbrev pub refused_by : Verdict → ℕ
refused_by Accepted = 0
refused_by Aside = 0
refused_by (Restart count) = 0
refused_by v = 1

-- packets that their lane did not take
abbrev pub refused_in : Entry → ℕ
refused_in (Push pusher k stamp seq kind v number aside_dropped) = refused_by v
refused_in e = 0

-- these entries were counted too
pub record Counts (es : List Entry) (old new : Totals) : Type 0 where
  pub out : new.out ≡ old.out + sum_by out_in es
  pub lost : new.lost ≡ old.lost + sum_by lost_in es
  pub refused : new.refused ≡ old.refused + sum_by refused_in es

abbrev pub journal : LaneHistory → List Entry
journal h = h.entries.items

-- the entries of all journals
abbrev pub entries_of : List LaneHistory → List Entry
entries_of hs = flat_map journal hs

-- records, lanes, packets that left, numbers lost, packets refused
abbrev pub done_line : Plan → List LaneHistory → BinLine
done_line p hs =
    Done p.records (length p.lanes) (sum_by out_in (entries_of hs)) (sum_by lost_in (entries_of hs))
    (sum_by refused_in (entries_of hs))

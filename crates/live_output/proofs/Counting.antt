-- Counting more entries.
use Rattle.std.proofs.Common.{◌≡◌, ◌<◌, ℕ, ◌+◌, List, [], ◌∷◌, ◌++◌, length, take, get_or, ap, ◌∙◌}
use Rattle.std.proofs.Common.{arith}
use Rattle.std.specs.Prelude.{sum_by}
use Rattle.std.proofs.lemmas.List.{append-nil}
use Rattle.std.proofs.lemmas.List.Concat.{flat_map-append}
use Rattle.std.proofs.lemmas.List.Sums.{sum_by-append}
use Rattle.live_bin.specs.declared.entry.Entry.{Entry}
use Rattle.live_output.specs.declared.totals.Totals.{Totals}
use Rattle.live_bin.specs.declared.history.LaneHistory.{LaneHistory}
use Rattle.live_output.specs.Totals.{Counts, entries_of, journal, out_in}
use Rattle.live_output.specs.Totals.{lost_in, refused_in}
use Rattle.live_output.proofs.Numbering.{take_next}

pub counts_then : (xs ys : List Entry) (a b c : Totals)
    → Counts xs a b → Counts ys b c → Counts (xs ++ ys) a c
counts_then xs ys a b c first second = record {
  out = omega (arith, first.out, second.out, sum_by-append out_in xs ys);
  lost = omega (arith, first.lost, second.lost, sum_by-append lost_in xs ys);
  refused = omega (arith, first.refused, second.refused, sum_by-append refused_in xs ys);
}

-- the entries of one journal more
pub entries_next : (hs : List LaneHistory) (i : ℕ) (h : LaneHistory) → i < length hs
    → h ≡ get_or hs i h → entries_of (take (i + 1) hs) ≡ entries_of (take i hs) ++ journal h
entries_next hs i h lt is =
    ap entries_of (take_next hs i h lt is)
    ∙ flat_map-append journal (take i hs) (h ∷ [])
    ∙ ap (λ (l : List Entry). entries_of (take i hs) ++ l) (append-nil (journal h))

-- The counts of a lane are those of the lines.
use Rattle.std.proofs.Common.{ℕ, ◌≡◌, ◌+◌, Bool, true, false, refl, sym, ap, subst, ◌∙◌, List, [], ◌∷◌, ◌++◌, arith}
use Rattle.std.specs.Prelude.{◌==◌, sum_by, if◌then◌else◌}
use Rattle.std.proofs.lemmas.List.{append_assoc}
use Rattle.std.proofs.lemmas.List.Sums.{sum_by-append}
use Rattle.jitter_model.specs.declared.Origin.{Origin}
use Rattle.jitter_model.specs.declared.Turn.{Turn}
use Rattle.jitter_model.specs.declared.Turn.TheVariants.{Packet, Lost, Request, End, Idle, Flushing}
use Rattle.jitter_model.specs.declared.Verdict.{Verdict}
use Rattle.jitter_model.specs.declared.Verdict.TheVariants as verdict
use Rattle.timeline.specs.declared.line.BinLine.{BinLine}
use Rattle.timeline.specs.declared.line.BinLine.TheVariants as told
use Rattle.replay_model.specs.Lines.{turn_lines, dropped_lines, verdict_lines, out_in, lost_in, refused_in}
use Rattle.lane_core.specs.declared.counts.Counts.{Counts}
use Rattle.lane_core.specs.Totals.{turn_out, turn_lost, refusal, with_turn, with_push}
use Rattle.lane_core.specs.Lanes.{Base, Adds, Tallies, Sums}

-- the same lines are added to the list and to the log
pub adds_more : (base : Base) (told more all ys : List BinLine) → Adds base told all → more ≡ told ++ ys → Adds base more (all ++ ys)
adds_more base told more all ys h e =
    record {
      more = h.more ++ ys;
      told_is = e ∙ ap (λ (x : List BinLine). x ++ ys) h.told_is ∙ append_assoc base.before h.more ys;
      all_is = ap (λ (x : List BinLine). x ++ ys) h.all_is ∙ append_assoc base.log h.more ys;
    }

turn_sums : (t n : ℕ) (r : Turn) → Sums (turn_lines t n r) (turn_out r) (turn_lost r) 0
turn_sums t n (Packet m pts p) = record { out_is = refl; lost_is = refl; refused_is = refl }
turn_sums t n (Lost m count pts d) = record { out_is = refl; lost_is = omega arith; refused_is = refl }
turn_sums t n (Request m k) = record { out_is = refl; lost_is = refl; refused_is = refl }
turn_sums t n End = record { out_is = refl; lost_is = refl; refused_is = refl }
turn_sums t n (Idle wake) = record { out_is = refl; lost_is = refl; refused_is = refl }
turn_sums t n Flushing = record { out_is = refl; lost_is = refl; refused_is = refl }

verdict_sums : (t n seq : ℕ) (kind : Origin) (v : Verdict) → Sums (verdict_lines t n seq kind v) 0 0 (refusal v)
verdict_sums t n seq kind verdict.Accepted = record { out_is = refl; lost_is = refl; refused_is = refl }
verdict_sums t n seq kind verdict.Aside = record { out_is = refl; lost_is = refl; refused_is = refl }
verdict_sums t n seq kind (verdict.Restart d) = record { out_is = refl; lost_is = refl; refused_is = refl }
verdict_sums t n seq kind verdict.Late = record { out_is = refl; lost_is = refl; refused_is = refl }
verdict_sums t n seq kind verdict.Duplicate = record { out_is = refl; lost_is = refl; refused_is = refl }
verdict_sums t n seq kind verdict.Full = record { out_is = refl; lost_is = refl; refused_is = refl }
verdict_sums t n seq kind verdict.Stray = record { out_is = refl; lost_is = refl; refused_is = refl }
verdict_sums t n seq kind verdict.Flushing = record { out_is = refl; lost_is = refl; refused_is = refl }
verdict_sums t n seq kind verdict.Ended = record { out_is = refl; lost_is = refl; refused_is = refl }

dropped_sums_by : (b : Bool) (t n count : ℕ) → Sums (if b then [] else told.Unaside t n count ∷ []) 0 0 0
dropped_sums_by true t n count = record { out_is = refl; lost_is = refl; refused_is = refl }
dropped_sums_by false t n count = record { out_is = refl; lost_is = refl; refused_is = refl }

both_sums : (xs ys : List BinLine) (refused : ℕ) → Sums xs 0 0 0 → Sums ys 0 0 refused → Sums (xs ++ ys) 0 0 refused
both_sums xs ys refused a b =
    record {
      out_is = omega (arith, sum_by-append out_in xs ys, a.out_is, b.out_is);
      lost_is = omega (arith, sum_by-append lost_in xs ys, a.lost_is, b.lost_is);
      refused_is = omega (arith, sum_by-append refused_in xs ys, a.refused_is, b.refused_is);
    }

pub tallies_more : (others old new : Counts) (xs ys : List BinLine) (out lost refused : ℕ) → Tallies others old xs → Sums ys out lost refused → new.out ≡ old.out + out → new.lost ≡ old.lost + lost → new.refused ≡ old.refused + refused → Tallies others new (xs ++ ys)
tallies_more others old new xs ys out lost refused k s a b c =
    record {
      out = omega (arith, sum_by-append out_in xs ys, s.out_is, k.out);
      lost = omega (arith, sum_by-append lost_in xs ys, s.lost_is, k.lost);
      refused = omega (arith, sum_by-append refused_in xs ys, s.refused_is, k.refused);
    }

pub turn_tallied : (others old new : Counts) (xs : List BinLine) (t n : ℕ) (r : Turn) → Tallies others old xs → new ≡ with_turn old r → Tallies others new (xs ++ turn_lines t n r)
turn_tallied others old new xs t n r k e =
    subst (λ (c : Counts). Tallies others c (xs ++ turn_lines t n r)) (sym e)
    (tallies_more others old (with_turn old r) xs (turn_lines t n r) (turn_out r) (turn_lost r) 0 k (turn_sums t n r) refl refl (omega arith))

pub push_tallied : (others old new : Counts) (xs : List BinLine) (t n dropped seq : ℕ) (kind : Origin) (v : Verdict) → Tallies others old xs → new ≡ with_push old v → Tallies others new (xs ++ (dropped_lines t n dropped ++ verdict_lines t n seq kind v))
push_tallied others old new xs t n dropped seq kind v k e =
    subst (λ (c : Counts). Tallies others c (xs ++ (dropped_lines t n dropped ++ verdict_lines t n seq kind v))) (sym e)
    (tallies_more others old (with_push old v) xs (dropped_lines t n dropped ++ verdict_lines t n seq kind v) 0 0 (refusal v) k
    (both_sums (dropped_lines t n dropped) (verdict_lines t n seq kind v) (refusal v) (dropped_sums_by (dropped == 0) t n dropped) (verdict_sums t n seq kind v)) (omega arith) (omega arith) refl)

-- lines that count nothing
pub none_tallied : (others c : Counts) (xs ys : List BinLine) → Tallies others c xs → Sums ys 0 0 0 → Tallies others c (xs ++ ys)
none_tallied others c xs ys k s = tallies_more others c c xs ys 0 0 0 k s (omega arith) (omega arith) (omega arith)

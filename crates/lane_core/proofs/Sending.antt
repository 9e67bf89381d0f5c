-- What a lane asked for is sent: no lane is changed by that, and its line counts nothing.
use Rattle.std.proofs.Common.{ℕ, ◌≡◌, Bool, refl, sym, ◌∙◌, List, [], ◌∷◌, ◌++◌}
use Rattle.std.proofs.lemmas.List.{append-nil}
use Rattle.script_lang.specs.Contents.{Contents}
use Rattle.timeline.specs.declared.line.BinLine.{BinLine}
use Rattle.timeline.specs.declared.line.BinLine.TheVariants as line
use Rattle.front_model.specs.declared.Opening.{Opening}
use Rattle.front_model.specs.Events.{Requested}
use Rattle.front_model.specs.Reports.{nack_bytes}
use Rattle.replay_model.specs.Events.{Timeline, Fronted, Told, lane}
use Rattle.replay_model.specs.Lines.{lines}
use Rattle.replay_model.specs.Turning.{request, all_requested, sent}
use Rattle.lane_core.specs.declared.lane.Lane.{Lane}
use Rattle.lane_core.specs.Lanes.{Base, Sums, nack_lines}
use Rattle.lane_core.specs.AllLanes.{LanesRest}
use Rattle.lane_core.proofs.Placing.{lanes_apart}

requested_lane : (o : Opening) (t : ℕ) (xs : List ℕ) (k : ℕ) (tl : Timeline) → lane k (all_requested o t xs tl) ≡ lane k tl
requested_lane o t [] k tl = refl
requested_lane o t (x ∷ xs) k tl = requested_lane o t xs k (Fronted t (Requested (request o x)) ∷ tl)

requested_lines : (o : Opening) (t : ℕ) (xs : List ℕ) (tl : Timeline) → lines (all_requested o t xs tl) ≡ lines tl
requested_lines o t [] tl = refl
requested_lines o t (x ∷ xs) tl = requested_lines o t xs (Fronted t (Requested (request o x)) ∷ tl) ∙ append-nil (lines tl)

sent_lane : (c : Contents) (o : Opening) (t : ℕ) (xs : List ℕ) (k : ℕ) (tl : Timeline) → lane k (sent c o t xs tl) ≡ lane k tl
sent_lane c o t [] k tl = refl
sent_lane c o t (x ∷ xs) k tl =
    requested_lane o t (x ∷ xs) k (Told t (line.Nack t o.session (nack_bytes c.settings.ssrc o.ssrc (x ∷ xs))) ∷ tl)

sent_lines : (c : Contents) (o : Opening) (t : ℕ) (xs : List ℕ) (tl : Timeline) → lines (sent c o t xs tl) ≡ lines tl ++ nack_lines c o t xs
sent_lines c o t [] tl = sym (append-nil (lines tl))
sent_lines c o t (x ∷ xs) tl =
    requested_lines o t (x ∷ xs) (Told t (line.Nack t o.session (nack_bytes c.settings.ssrc o.ssrc (x ∷ xs))) ∷ tl)

nack_sums : (c : Contents) (o : Opening) (t : ℕ) (xs : List ℕ) → Sums (nack_lines c o t xs) 0 0 0
nack_sums c o t [] = record { out_is = refl; lost_is = refl; refused_is = refl }
nack_sums c o t (x ∷ xs) = record { out_is = refl; lost_is = refl; refused_is = refl }

pub lanes_sent :
    (c : Contents) (o : ℕ → Opening) (base : Base) (resting : ℕ → Bool) (ls : List Lane) (opening : Opening) (t : ℕ) (numbers : List ℕ) (told more : List BinLine) (tl : Timeline)
    → more ≡ told ++ nack_lines c opening t numbers
    → LanesRest o base resting ls told tl
    → LanesRest o base resting ls more (sent c opening t numbers tl)
lanes_sent c o base resting ls opening t numbers told more tl is h =
    lanes_apart o base resting ls told more (nack_lines c opening t numbers) tl (sent c opening t numbers tl)
    (λ k. sent_lane c opening t numbers k tl) (sent_lines c opening t numbers tl) is (nack_sums c opening t numbers) h

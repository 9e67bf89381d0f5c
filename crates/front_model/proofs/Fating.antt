-- A packet that a session released has one fate, and what goes to a lane is true.
use Rattle.std.proofs.Common.{ℕ, ◌≡◌, refl, ap, ◌∙◌, Bool, true, false, List, [], ◌++◌, Option, None, Some}
use Rattle.std.specs.Prelude.{if◌then◌else◌, filter}
use Rattle.rtp_wire.specs.Packet.{Packet as View}
use Rattle.rtp_demux.specs.declared.lanes.LaneOf.{LaneOf}
use Rattle.rtp_demux.specs.declared.lanes.LaneOf.TheVariants as lane
use Rattle.rtp_demux.specs.declared.types.PtRoute.{PtRoute}
use Rattle.rtp_demux.specs.declared.types.PtRoute.TheVariants as pt
use Rattle.rtp_demux.specs.Lanes.{sight, lane_for}
use Rattle.script_lang.specs.Contents.{Contents}
use Rattle.front_model.specs.declared.Step.{Step}
use Rattle.front_model.specs.Moves.{Move}
use Rattle.front_model.specs.Types.{rate, is_rtx}
use Rattle.front_model.specs.Lanes.{route, lanes}
use Rattle.front_model.specs.Fates.{Fate, Dropped, Goes, fate}
use Rattle.front_model.specs.Steps.{route_steps, lane_steps, stream_steps, way_steps, fate_steps, release_steps}
use Rattle.front_model.specs.Laws.{is_fate, HasOneFate}
use Rattle.front_model.proofs.Lists.{filter_append}

no_route : (time session p : ℕ) (r : PtRoute) → filter is_fate (route_steps time session p r) ≡ []
no_route time session p (pt.First rate) = refl
no_route time session p (pt.Known rate) = refl
no_route time session p pt.Unmapped = refl

no_lane : (c : Contents) (time session ssrc rate : ℕ) (l : LaneOf) → filter is_fate (lane_steps c time session ssrc rate l) ≡ []
no_lane c time session ssrc rate (lane.New n) = refl
no_lane c time session ssrc rate (lane.Known n) = refl
no_lane c time session ssrc rate (lane.Rate n kept) = refl
no_lane c time session ssrc rate lane.Full = refl

no_stream : (c : Contents) (time : ℕ) (older : List Move) (session : ℕ) (p : View) (o : Option ℕ) → filter is_fate (stream_steps c time older session p o) ≡ []
no_stream c time older session p None = refl
no_stream c time older session p (Some rate) = no_lane c time session p.ssrc rate (lane_for (lanes c older) (sight session p.ssrc rate))

none_of_both : (xs ys : List Step) → filter is_fate xs ≡ [] → filter is_fate ys ≡ [] → filter is_fate (xs ++ ys) ≡ []
none_of_both xs ys e f = filter_append is_fate xs ys ∙ ap (λ (l : List Step). l ++ filter is_fate ys) e ∙ f

none_if : (b : Bool) (xs : List Step) → filter is_fate xs ≡ [] → filter is_fate (if b then [] else xs) ≡ []
none_if true xs e = refl
none_if false xs e = e

no_way : (c : Contents) (time : ℕ) (older : List Move) (session : ℕ) (p : View) → filter is_fate (way_steps c time older session p) ≡ []
no_way c time older session p =
    none_if (is_rtx c session p.pt) _
    (none_of_both (route_steps time session p.pt (route c session older p.pt)) (stream_steps c time older session p (rate c session p.pt))
    (no_route time session p.pt (route c session older p.pt)) (no_stream c time older session p (rate c session p.pt)))

fate_is_one : (c : Contents) (time : ℕ) (older : List Move) (session stamp : ℕ) (p : View) (f : Fate) → HasOneFate (fate_steps c time older session stamp p f) session stamp p f
fate_is_one c time older session stamp p (Dropped why) = record { step = _; only = refl; own = (refl, refl, refl, refl) }
fate_is_one c time older session stamp p (Goes lane kind q) = record { step = _; only = refl; own = (refl, refl, refl, refl, refl) }

behind : (session stamp : ℕ) (p : View) (f : Fate) (xs ys : List Step) → filter is_fate xs ≡ [] → HasOneFate ys session stamp p f → HasOneFate (xs ++ ys) session stamp p f
behind session stamp p f xs ys e h = record { step = h.step; only = filter_append is_fate xs ys ∙ ap (λ (l : List Step). l ++ filter is_fate ys) e ∙ h.only; own = h.own }

pub one_fate : (c : Contents) (time : ℕ) (older : List Move) (session stamp : ℕ) (p : View) → HasOneFate (release_steps c time older session stamp p) session stamp p (fate c older session p)
one_fate c time older session stamp p =
    behind session stamp p (fate c older session p) (way_steps c time older session p) (fate_steps c time older session stamp p (fate c older session p))
    (no_way c time older session p) (fate_is_one c time older session stamp p (fate c older session p))

-- The steps of a packet that a session released, by how its lane was found.
use Rattle.std.proofs.Common.{◌≡◌, ℕ, Bool, true, false, List, [], ◌∷◌, ◌++◌, Option}
use Rattle.std.proofs.Common.{Some, None, Result, Ok, refl, sym, ap, subst, ◌∙◌, append_assoc}
use Rattle.std.specs.Prelude.{if◌then◌else◌}
use Rattle.std.specs.List.{filter_map}
use Rattle.std.proofs.lemmas.List.{append-nil}
use Rattle.rtp_wire.specs.Packet.{Packet as View}
use Rattle.rtp_demux.specs.declared.lanes.LaneOf.{LaneOf}
use Rattle.rtp_demux.specs.declared.types.PtRoute.{PtRoute}
use Rattle.rtp_demux.specs.declared.types.PtRoute.TheVariants as pt
use Rattle.rtp_demux.specs.declared.lanes.LaneOf.TheVariants.{New, Known}
use Rattle.rtp_demux.specs.Lanes.{Sight, Stream, sight, lane_for, lane_of, IsLane, IsFound}
use Rattle.rtp_demux.specs.Lanes.{IsOneLane, IsOneFinding}
use Rattle.rtp_demux.specs.Types.{route_by}
use Rattle.rtx.specs.declared.receiver.Original.{Original}
use Rattle.rtx.specs.declared.answers.RtxFault.{RtxFault}
use Rattle.rtx.specs.Restoring.{restored}
use Rattle.jitter_model.specs.declared.Arrival.{Arrival}
use Rattle.jitter_model.specs.declared.Origin.{Origin}
use Rattle.jitter_model.specs.declared.Packet.{Packet}
use Rattle.script_lang.specs.Contents.{Contents}
use Rattle.timeline.specs.declared.line.BinLine.TheVariants as line
use Rattle.timeline.specs.declared.line.Word.{Word}
use Rattle.timeline.specs.declared.line.Word.TheVariants as word
use Rattle.jitter_model.specs.declared.Origin.TheVariants as origin
use Rattle.front_model.specs.declared.Opening.{Opening}
use Rattle.front_model.specs.declared.SenderReport.{SenderReport}
use Rattle.front_model.specs.declared.Step.TheVariants.{Tell, Open, Push, Sync}
use Rattle.front_model.specs.declared.Step.{Step}
use Rattle.front_model.specs.Fates.{Fate, Dropped, Goes, packet_from, own_fate, rated_fate}
use Rattle.front_model.specs.Fates.{carried_fate, restored_fate, rtx_fate, fate, count}
use Rattle.front_model.specs.Lanes.{route, lanes, sight_of}
use Rattle.front_model.specs.Moves.{Move}
use Rattle.front_model.specs.Restoring.{original}
use Rattle.front_model.specs.Steps.{arrival, opening, sync_steps, route_steps, lane_steps}
use Rattle.front_model.specs.Steps.{stream_steps, way_steps, fate_steps, release_steps}
use Rattle.front_model.specs.Types.{rate, is_rtx}

-- a lane that a demultiplexer told is the one of the stream
pub told_lane : IsOneLane → (c : Contents) (older : List Move) (of session at ssrc r : ℕ)
    (ls : List Sight) (answer : LaneOf) → ls ≡ lanes c older → of ≡ session → at ≡ ssrc
    → IsLane ls (sight of at r) answer
    → answer ≡ lane_for (lanes c older) (sight session ssrc r)
told_lane law c older of session at ssrc r ls answer same e f h =
    law (filter_map (sight_of c) older) (sight session ssrc r) answer
    (subst (λ (y : ℕ). IsLane (lanes c older) (sight y ssrc r) answer) e
    (subst (λ (x : ℕ). IsLane (lanes c older) (sight of x r) answer) f
    (subst (λ (l : List Sight). IsLane l (sight of at r) answer) same h)))

-- and so is one that it found
pub found_lane : IsOneFinding → (c : Contents) (older : List Move) (stream : Stream) (ls : List Sight)
    (answer : Option ℕ) → ls ≡ lanes c older → IsFound ls stream answer
    → lane_of (lanes c older) stream ≡ answer
found_lane law c older stream ls answer same h =
    sym (law (filter_map (sight_of c) older) stream answer
    (subst (λ (l : List Sight). IsFound l stream answer) same h))

abbrev pub given : ℕ → ℕ → ℕ → Origin → Packet → Arrival
given session k stamp kind q =
    record { pusher = session; k = k; stamp = stamp; origin = kind; packet = q }

-- what is given to a lane is counted
pub given_as : (c : Contents) (older : List Move) (session lane k at stamp : ℕ) (kind : Origin)
    (x q : Packet) → k ≡ count c older (session, lane) → at ≡ stamp → x ≡ q
    → given session k at kind x ≡ arrival c older session lane stamp kind q
given_as c older session lane k at stamp kind x q e f g =
    ap (λ (n : ℕ). given session n at kind x) e
    ∙ ap (λ (n : ℕ). given session (count c older (session, lane)) n kind x) f
    ∙ ap (λ (y : Packet). given session (count c older (session, lane)) stamp kind y) g

module _ (c : Contents) (time : ℕ) (older : List Move) (session stamp : ℕ) (p : View) where
  -- ---- the fate

  pub own_fate_is : (r : ℕ) → is_rtx c session p.pt ≡ false → rate c session p.pt ≡ Some r
      → (answer : LaneOf) → answer ≡ lane_for (lanes c older) (sight session p.ssrc r)
      → fate c older session p ≡ own_fate p answer
  own_fate_is r own e answer told =
      ap (λ (b : Bool). if b then rtx_fate c older p (original c older session p)
      else rated_fate (lanes c older) session p (rate c session p.pt)) own
      ∙ ap (rated_fate (lanes c older) session p) e
      ∙ ap (own_fate p) (sym told)

  pub unmapped_fate : is_rtx c session p.pt ≡ false → rate c session p.pt ≡ None
      → fate c older session p ≡ Dropped word.Unmapped
  unmapped_fate own e =
      ap (λ (b : Bool). if b then rtx_fate c older p (original c older session p)
      else rated_fate (lanes c older) session p (rate c session p.pt)) own
      ∙ ap (rated_fate (lanes c older) session p) e

  pub rtx_fate_is : (found : Result Original RtxFault) → is_rtx c session p.pt ≡ true
      → original c older session p ≡ found → fate c older session p ≡ rtx_fate c older p found
  rtx_fate_is found rtx e =
      ap (λ (b : Bool). if b then rtx_fate c older p (original c older session p)
      else rated_fate (lanes c older) session p (rate c session p.pt)) rtx
      ∙ ap (rtx_fate c older p) e

  pub carried_fate_is : (o : Original) (r : ℕ) (answer : LaneOf) → is_rtx c session p.pt ≡ true
      → original c older session p ≡ Ok o → rate c o.session o.apt ≡ Some r
      → answer ≡ lane_for (lanes c older) (sight o.session o.ssrc r)
      → fate c older session p ≡ restored_fate (restored o p) answer
  carried_fate_is o r answer rtx e rated told =
      rtx_fate_is (Ok o) rtx e
      ∙ ap (carried_fate (lanes c older) o p) rated
      ∙ ap (restored_fate (restored o p)) (sym told)

  pub unrated_fate : (o : Original) → is_rtx c session p.pt ≡ true
      → original c older session p ≡ Ok o → rate c o.session o.apt ≡ None
      → fate c older session p ≡ Dropped word.Unmapped
  unrated_fate o rtx e rated = rtx_fate_is (Ok o) rtx e ∙ ap (carried_fate (lanes c older) o p) rated

  -- ---- the steps of a fate

  pub fate_is : (f : Fate) (items news : List Step) → fate c older session p ≡ f
      → news ≡ items ++ fate_steps c time older session stamp p f
      → news ≡ items ++ fate_steps c time older session stamp p (fate c older session p)
  fate_is f items news e h =
      h ∙ ap (λ (x : Fate). items ++ fate_steps c time older session stamp p x) (sym e)

  pub own_steps : (r : ℕ) (answer : LaneOf) (items news : List Step)
      → is_rtx c session p.pt ≡ false → rate c session p.pt ≡ Some r
      → answer ≡ lane_for (lanes c older) (sight session p.ssrc r)
      → news ≡ items ++ lane_steps c time session p.ssrc r answer
      ++ fate_steps c time older session stamp p (own_fate p answer)
      → news ≡ items ++ stream_steps c time older session p (Some r)
      ++ fate_steps c time older session stamp p (fate c older session p)
  own_steps r answer items news own e told h =
      h
      ∙ ap (λ (a : LaneOf). items ++ lane_steps c time session p.ssrc r a
      ++ fate_steps c time older session stamp p (own_fate p answer)) told
      ∙ ap (λ (x : Fate). items ++ stream_steps c time older session p (Some r)
      ++ fate_steps c time older session stamp p x) (sym (own_fate_is r own e answer told))

  pub new_lane : (r lane k : ℕ) (o : Opening) (items mid news : List Step)
      → is_rtx c session p.pt ≡ false → rate c session p.pt ≡ Some r
      → New lane ≡ lane_for (lanes c older) (sight session p.ssrc r)
      → o ≡ opening c lane session p.ssrc r → k ≡ count c older (session, lane)
      → mid ≡ items ++ Tell (line.Lane time o.lane o.session o.ssrc) ∷ Open o ∷ []
      → news ≡ mid ++ Push lane (given session k stamp origin.Original (packet_from p)) ∷ []
      → news ≡ items ++ stream_steps c time older session p (Some r)
      ++ fate_steps c time older session stamp p (fate c older session p)
  new_lane r lane k o items mid news own e told_as opened counted first h =
      own_steps r (New lane) items news own e told_as
      (h
      ∙ ap (λ (l : List Step). l
      ++ Push lane (given session k stamp origin.Original (packet_from p)) ∷ [])
      (first ∙ ap (λ (x : Opening). items
      ++ Tell (line.Lane time x.lane x.session x.ssrc) ∷ Open x ∷ []) opened)
      ∙ ap (λ (a : Arrival). items ++ lane_steps c time session p.ssrc r (New lane) ++ Push lane a ∷ [])
      (given_as c older session lane k stamp stamp origin.Original (packet_from p) (packet_from p)
      counted refl refl))

  pub known_lane : (r lane k : ℕ) (items news : List Step)
      → is_rtx c session p.pt ≡ false → rate c session p.pt ≡ Some r
      → Known lane ≡ lane_for (lanes c older) (sight session p.ssrc r)
      → k ≡ count c older (session, lane)
      → news ≡ items ++ Push lane (given session k stamp origin.Original (packet_from p)) ∷ []
      → news ≡ items ++ stream_steps c time older session p (Some r)
      ++ fate_steps c time older session stamp p (fate c older session p)
  known_lane r lane k items news own e told_as counted h =
      own_steps r (Known lane) items news own e told_as
      (h
      ∙ ap (λ (a : Arrival). items ++ Push lane a ∷ [])
      (given_as c older session lane k stamp stamp origin.Original (packet_from p) (packet_from p)
      counted refl refl)
      ∙ ap (λ (l : List Step). l
      ++ Push lane (arrival c older session lane stamp origin.Original (packet_from p)) ∷ [])
      (sym (append-nil items)))

  pub no_lane : (r : ℕ) (answer : LaneOf) (why : Word) (items news : List Step)
      → lane_steps c time session p.ssrc r answer ≡ [] → own_fate p answer ≡ Dropped why
      → is_rtx c session p.pt ≡ false → rate c session p.pt ≡ Some r
      → answer ≡ lane_for (lanes c older) (sight session p.ssrc r)
      → news ≡ items ++ fate_steps c time older session stamp p (Dropped why)
      → news ≡ items ++ stream_steps c time older session p (Some r)
      ++ fate_steps c time older session stamp p (fate c older session p)
  no_lane r answer why items news none drops own e told_as h =
      own_steps r answer items news own e told_as
      (h
      ∙ ap (λ (l : List Step). l ++ fate_steps c time older session stamp p (Dropped why))
      (sym (append-nil items))
      ∙ ap (λ (l : List Step). items ++ l ++ fate_steps c time older session stamp p (Dropped why))
      (sym none)
      ∙ ap (λ (f : Fate). items ++ lane_steps c time session p.ssrc r answer
      ++ fate_steps c time older session stamp p f) (sym drops))

  pub known_restored : (o : Original) (r lane k at : ℕ) (x : Packet) (items news : List Step)
      → is_rtx c session p.pt ≡ true → original c older session p ≡ Ok o
      → rate c o.session o.apt ≡ Some r
      → Known lane ≡ lane_for (lanes c older) (sight o.session o.ssrc r)
      → k ≡ count c older (session, lane) → at ≡ stamp → x ≡ packet_from (restored o p)
      → news ≡ items ++ Push lane (given session k at origin.Retransmission x) ∷ []
      → news ≡ items ++ fate_steps c time older session stamp p (fate c older session p)
  known_restored o r lane k at x items news rtx found rated told_as counted same is h =
      fate_is (Goes lane origin.Retransmission (packet_from (restored o p))) items news
      (carried_fate_is o r (Known lane) rtx found rated told_as)
      (h
      ∙ ap (λ (a : Arrival). items ++ Push lane a ∷ [])
      (given_as c older session lane k at stamp origin.Retransmission x (packet_from (restored o p))
      counted same is))

  -- ---- all steps

  pub rtx_steps : (items news : List Step) → is_rtx c session p.pt ≡ true
      → news ≡ items ++ fate_steps c time older session stamp p (fate c older session p)
      → news ≡ items ++ release_steps c time older session stamp p
  rtx_steps items news rtx h =
      h
      ∙ ap (λ (b : Bool). items ++ ((if b then []
      else route_steps time session p.pt (route c session older p.pt)
      ++ stream_steps c time older session p (rate c session p.pt))
      ++ fate_steps c time older session stamp p (fate c older session p))) (sym rtx)

  pub way_is : (a : PtRoute) (o : Option ℕ) → is_rtx c session p.pt ≡ false
      → a ≡ route c session older p.pt → rate c session p.pt ≡ o
      → way_steps c time older session p
      ≡ route_steps time session p.pt a ++ stream_steps c time older session p o
  way_is a o own routed_as rated =
      ap (λ (b : Bool). if b then []
      else route_steps time session p.pt (route c session older p.pt)
      ++ stream_steps c time older session p (rate c session p.pt)) own
      ∙ ap (λ (x : PtRoute). route_steps time session p.pt x
      ++ stream_steps c time older session p (rate c session p.pt)) (sym routed_as)
      ∙ ap (λ (x : Option ℕ). route_steps time session p.pt a
      ++ stream_steps c time older session p x) rated

  pub unmapped_steps : (items news : List Step) → is_rtx c session p.pt ≡ false
      → pt.Unmapped ≡ route c session older p.pt → rate c session p.pt ≡ None
      → news ≡ items ++ fate_steps c time older session stamp p (Dropped word.Unmapped)
      → news ≡ items ++ release_steps c time older session stamp p
  unmapped_steps items news own routed_as rated h =
      h
      ∙ ap (λ (x : Fate). items ++ fate_steps c time older session stamp p x)
      (sym (unmapped_fate own rated))
      ∙ ap (λ (l : List Step). items ++ (l ++ fate_steps c time older session stamp p (fate c older session p)))
      (sym (way_is pt.Unmapped None own routed_as rated))

  pub known_steps : (r : ℕ) (items news : List Step) → is_rtx c session p.pt ≡ false
      → pt.Known r ≡ route c session older p.pt → rate c session p.pt ≡ Some r
      → news ≡ items ++ stream_steps c time older session p (Some r)
      ++ fate_steps c time older session stamp p (fate c older session p)
      → news ≡ items ++ release_steps c time older session stamp p
  known_steps r items news own routed_as rated h =
      h
      ∙ append_assoc items (stream_steps c time older session p (Some r))
      (fate_steps c time older session stamp p (fate c older session p))
      ∙ ap (λ (l : List Step). items ++ (l ++ fate_steps c time older session stamp p (fate c older session p)))
      (sym (way_is (pt.Known r) (Some r) own routed_as rated))

  pub first_steps : (r : ℕ) (items mid news : List Step) → is_rtx c session p.pt ≡ false
      → pt.First r ≡ route c session older p.pt → rate c session p.pt ≡ Some r
      → mid ≡ items ++ route_steps time session p.pt (pt.First r)
      → news ≡ mid ++ stream_steps c time older session p (Some r)
      ++ fate_steps c time older session stamp p (fate c older session p)
      → news ≡ items ++ release_steps c time older session stamp p
  first_steps r items mid news own routed_as rated first h =
      h
      ∙ ap (λ (l : List Step). l ++ stream_steps c time older session p (Some r)
      ++ fate_steps c time older session stamp p (fate c older session p)) first
      ∙ ap (λ (l : List Step). l ++ fate_steps c time older session stamp p (fate c older session p))
      (append_assoc items (route_steps time session p.pt (pt.First r))
      (stream_steps c time older session p (Some r)))
      ∙ append_assoc items (route_steps time session p.pt (pt.First r)
      ++ stream_steps c time older session p (Some r))
      (fate_steps c time older session stamp p (fate c older session p))
      ∙ ap (λ (l : List Step). items ++ (l ++ fate_steps c time older session stamp p (fate c older session p)))
      (sym (way_is (pt.First r) (Some r) own routed_as rated))

-- ---- rates by routes

pub unmapped_rate : (o : Option ℕ) (b : Bool) → pt.Unmapped ≡ route_by o b → o ≡ None
unmapped_rate None b e = refl
unmapped_rate (Some r) true e = absurd cc
unmapped_rate (Some r) false e = absurd cc

pub known_rate : (o : Option ℕ) (b : Bool) (r : ℕ) → pt.Known r ≡ route_by o b → o ≡ Some r
known_rate None b r e = absurd cc
known_rate (Some x) true r e = cc
known_rate (Some x) false r e = absurd cc

pub first_rate : (o : Option ℕ) (b : Bool) (r : ℕ) → pt.First r ≡ route_by o b → o ≡ Some r
first_rate None b r e = absurd cc
first_rate (Some x) true r e = absurd cc
first_rate (Some x) false r e = cc

-- ---- a sender report

module _ (c : Contents) (older : List Move) (session ssrc ntp rtp : ℕ) where
  pub synced : (lane k : ℕ) (items news : List Step)
      → lane_of (lanes c older) (session, ssrc) ≡ Some lane → k ≡ count c older (session, lane)
      → news ≡ items ++ Sync lane (record { pusher = session; k = k; ntp_ns = ntp; rtp = rtp }) ∷ []
      → news ≡ items ++ sync_steps c older session ntp rtp (lane_of (lanes c older) (session, ssrc))
  synced lane k items news e counted h =
      let at : ℕ → SenderReport =
      λ n. record { pusher = session; k = n; ntp_ns = ntp; rtp = rtp } in
      h
      ∙ ap (λ (n : ℕ). items ++ Sync lane (at n) ∷ []) counted
      ∙ ap (λ (o : Option ℕ). items ++ sync_steps c older session ntp rtp o) (sym e)

  pub unseen : (items : List Step) → lane_of (lanes c older) (session, ssrc) ≡ None
      → items ≡ items ++ sync_steps c older session ntp rtp (lane_of (lanes c older) (session, ssrc))
  unseen items e =
      sym (append-nil items)
      ∙ ap (λ (o : Option ℕ). items ++ sync_steps c older session ntp rtp o) (sym e)

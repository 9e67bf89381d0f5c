-- What one move more leaves of the streams.
use Rattle.std.proofs.Common.{◌≡◌, ℕ, ◌+◌, Bool, true, false, cond, nat_eq, List, ◌∷◌, ◌++◌}
use Rattle.std.proofs.Common.{length, Option, Some, None, Ok, refl, sym, ap, subst, ◌∙◌, arith}
use Rattle.std.proofs.Common.{eqb-true}
use Rattle.std.specs.Prelude.{if◌then◌else◌, ◌&&◌, ◌==◌, filter, option_map}
use Rattle.std.specs.List.{filter_map, cons_option}
use Rattle.std.specs.Map.{lookup}
use Rattle.std.proofs.lemmas.Bool.Decides.{nat_tests}
use Rattle.rtp_wire.specs.Packet.{Packet as View}
use Rattle.rtp_demux.specs.declared.types.Route.{Route}
use Rattle.rtp_demux.specs.Lanes.{Sight, sight, lane_of, lanes_of}
use Rattle.rtp_demux.specs.Types.{StandsFor as RoutesFor}
use Rattle.rtx.specs.declared.answers.Restored.{Restored}
use Rattle.rtx.specs.declared.receiver.Original.{Original}
use Rattle.rtx.specs.Restored.{Restoring as RestoringCall}
use Rattle.rtx.specs.Restoring.{Receiving, found, IsRestored, Restores}
use Rattle.jitter_model.specs.declared.Packet.{Packet}
use Rattle.jitter_model.specs.declared.Origin.{Origin}
use Rattle.script_lang.specs.Contents.{Contents}
use Rattle.timeline.specs.declared.line.Word.{Word}
use Rattle.front_model.specs.Fates.{Way, is_way, Fate, Dropped, Goes, fate, way_of, way_to, ways}
use Rattle.front_model.specs.Fates.{count}
use Rattle.front_model.specs.Lanes.{routed, lanes, sight_of}
use Rattle.front_model.specs.Moves.{Move, Released, Reported}
use Rattle.front_model.specs.Restoring.{calls, receiver, original}
use Rattle.front_model.specs.Types.{rate, rates, is_rtx}
use Rattle.rtp_front.specs.Standing.{StreamsState, routes_in, number_or, next_in}
use Rattle.rtp_front.specs.Standing.{IsLeftBy, IsRouted, IsCounted, IsSameButCounts, Carried}

-- ---- counts

both : (x y : Bool) → (x && y) ≡ true → (x ≡ true) × (y ≡ true)
both true true e = (refl, refl)
both true false e = absurd cc
both false y e = absurd cc

same_way : (a b : Way) → is_way a b ≡ true → a ≡ b
same_way a b h =
    let e = both (nat_eq a.0 b.0) (nat_eq a.1 b.1) h in
    ap (λ (x : ℕ). (x, a.1)) (eqb-true a.0 b.0 e.0) ∙ ap (λ (y : ℕ). (b.0, y)) (eqb-true a.1 b.1 e.1)

turned : (a b : ℕ) → nat_eq a b ≡ nat_eq b a
turned a b = grind (arith, nat_tests)

way_turned : (a b : Way) → is_way a b ≡ is_way b a
way_turned a b =
    ap (λ (x : Bool). x && nat_eq a.1 b.1) (turned a.0 b.0)
    ∙ ap (λ (x : Bool). nat_eq b.0 a.0 && x) (turned a.1 b.1)

number_by : (b : Bool) (n : ℕ) (o : Option ℕ) → (b ≡ true → n ≡ number_or o + 1)
    → number_or (cond b (Some n) o) ≡ number_or o + cond b 1 0
number_by true n o h = h refl
number_by false n o h = omega arith

-- a map of counts with one more at a way
pub counted_in : (old new : List (Way × ℕ)) (to way : Way) (n : ℕ) → n ≡ next_in old to + 1
    → lookup (is_way way) new ≡ cond (is_way to way) (Some n) (lookup (is_way way) old)
    → next_in new way ≡ next_in old way + cond (is_way way to) 1 0
counted_in old new to way n is put =
    ap number_or put
    ∙ number_by (is_way to way) n (lookup (is_way way) old)
    (λ same. is ∙ ap (λ (w : Way). next_in old w + 1) (same_way to way same))
    ∙ ap (λ (b : Bool). next_in old way + cond b 1 0) (way_turned to way)

length_by : (b : Bool) (to : Way) (ws : List Way) → length (cond b (to ∷ ws) ws) ≡ length ws + cond b 1 0
length_by true to ws = omega arith
length_by false to ws = omega arith

one_way : (way to : Way) (ws : List Way)
    → length (filter (is_way way) (to ∷ ws)) ≡ length (filter (is_way way) ws) + cond (is_way way to) 1 0
one_way way to ws = length_by (is_way way to) to (filter (is_way way) ws)

-- ---- moves that tell no type and no lane

none_if : {X : Type 0} (b : Bool) (xs : List X) → cons_option (if b then None else None) xs ≡ xs
none_if true xs = refl
none_if false xs = refl

module _ (c : Contents) (older : List Move) (session stamp : ℕ) (p : View) where
  -- ---- a packet that came by itself

  module _ (own : is_rtx c session p.pt ≡ false) where
    pub own_calls : calls c (Released session stamp p ∷ older) ≡ calls c older
    own_calls =
        ap (λ (b : Bool). cons_option (if b then Some (RestoringCall session p) else None) (calls c older)) own

    own_lanes : (r : ℕ) → rate c session p.pt ≡ Some r
        → lanes c (Released session stamp p ∷ older)
        ≡ lanes_of (sight session p.ssrc r ∷ filter_map (sight_of c) older)
    own_lanes r e =
        ap (λ (b : Bool). lanes_of (cons_option
        (if b then None else option_map (sight session p.ssrc) (rate c session p.pt))
        (filter_map (sight_of c) older))) own
        ∙ ap (λ (o : Option ℕ). lanes_of (cons_option (option_map (sight session p.ssrc) o)
        (filter_map (sight_of c) older))) e

    -- the lanes that a demultiplexer has then
    pub next_lanes : (r at : ℕ) (ls : List Sight) → rate c session p.pt ≡ Some r → at ≡ p.ssrc
        → ls ≡ lanes_of (sight session at r ∷ filter_map (sight_of c) older)
        → ls ≡ lanes c (Released session stamp p ∷ older)
    next_lanes r at ls e same h =
        h
        ∙ ap (λ (x : ℕ). lanes_of (sight session x r ∷ filter_map (sight_of c) older)) same
        ∙ sym (own_lanes r e)

    pub unmapped_lanes : rate c session p.pt ≡ None
        → lanes c (Released session stamp p ∷ older) ≡ lanes c older
    unmapped_lanes e =
        ap (λ (b : Bool). lanes_of (cons_option
        (if b then None else option_map (sight session p.ssrc) (rate c session p.pt))
        (filter_map (sight_of c) older))) own
        ∙ ap (λ (o : Option ℕ). lanes_of (cons_option (option_map (sight session p.ssrc) o)
        (filter_map (sight_of c) older))) e

    own_type : (s : ℕ) → routed c s (Released session stamp p ∷ older)
        ≡ cons_option (if session == s then Some p.pt else None) (routed c s older)
    own_type s =
        ap (λ (b : Bool). cons_option (if session == s then (if b then None else Some p.pt) else None)
        (routed c s older)) own

    routes_by : (old new : List (ℕ × List (ℕ × Route)))
        → ((s : ℕ) → RoutesFor (routes_in old s) (rates c s) (routed c s older))
        → RoutesFor (routes_in new session) (rates c session) (p.pt ∷ routed c session older)
        → ((q : ℕ) → nat_eq session q ≡ false → routes_in new q ≡ routes_in old q)
        → (s : ℕ) (b : Bool) → nat_eq session s ≡ b
        → RoutesFor (routes_in new s) (rates c s) (cons_option (if b then Some p.pt else None) (routed c s older))
    routes_by old new before here others s true e =
        subst (λ (x : ℕ). RoutesFor (routes_in new x) (rates c x) (p.pt ∷ routed c x older))
        (eqb-true session s e) here
    routes_by old new before here others s false e =
        subst (λ (rs : List (ℕ × Route)). RoutesFor rs (rates c s) (routed c s older))
        (sym (others s e)) (before s)

    -- the routes go on, and nothing else
    pub is_routed : (t : ℕ) (x y : StreamsState) → p.pt ≡ t → IsLeftBy c older x
        → RoutesFor (routes_in y.types session) (rates c session) (t ∷ routed c session older)
        → ((q : ℕ) → nat_eq session q ≡ false → routes_in y.types q ≡ routes_in x.types q)
        → y.lanes ≡ x.lanes → y.receiver ≡ x.receiver → y.given ≡ x.given
        → IsRouted c older (Released session stamp p) y
    is_routed t x y same left here others same_lanes same_receiver same_given = record {
      lanes = same_lanes ∙ left.lanes;
      routes = λ s.
          subst (λ (ts : List ℕ). RoutesFor (routes_in y.types s) (rates c s) ts) (sym (own_type s))
          (routes_by x.types y.types left.routes
          (subst (λ (k : ℕ). RoutesFor (routes_in y.types session) (rates c session)
          (k ∷ routed c session older)) (sym same) here)
          others s (nat_eq session s) refl);
      receiver = same_receiver ∙ left.receiver ∙ ap (receiver c) (sym own_calls);
      next = λ way. ap (λ (g : List (Way × ℕ)). next_in g way) same_given ∙ left.next way;
    }

  -- ---- a retransmission

  module _ (rtx : is_rtx c session p.pt ≡ true) where
    rtx_calls : calls c (Released session stamp p ∷ older) ≡ RestoringCall session p ∷ calls c older
    rtx_calls =
        ap (λ (b : Bool). cons_option (if b then Some (RestoringCall session p) else None) (calls c older)) rtx

    pub rtx_lanes : lanes c (Released session stamp p ∷ older) ≡ lanes c older
    rtx_lanes =
        ap (λ (b : Bool). lanes_of (cons_option
        (if b then None else option_map (sight session p.ssrc) (rate c session p.pt))
        (filter_map (sight_of c) older))) rtx

    rtx_type : (s : ℕ) → routed c s (Released session stamp p ∷ older) ≡ routed c s older
    rtx_type s =
        ap (λ (b : Bool). cons_option (if session == s then (if b then None else Some p.pt) else None)
        (routed c s older)) rtx
        ∙ none_if (session == s) (routed c s older)

    -- the receiver goes on, and nothing else
    pub is_called : (x y : StreamsState) → IsLeftBy c older x
        → y.receiver ≡ receiver c (RestoringCall session p ∷ calls c older)
        → y.lanes ≡ x.lanes → y.types ≡ x.types → y.given ≡ x.given
        → IsRouted c older (Released session stamp p) y
    is_called x y left called same_lanes same_types same_given = record {
      lanes = same_lanes ∙ left.lanes;
      routes = λ s.
          subst (λ (ts : List ℕ). RoutesFor (routes_in y.types s) (rates c s) ts) (sym (rtx_type s))
          (subst (λ (m : List (ℕ × List (ℕ × Route))). RoutesFor (routes_in m s) (rates c s) (routed c s older))
          (sym same_types) (left.routes s));
      receiver = called ∙ ap (receiver c) (sym rtx_calls);
      next = λ way. ap (λ (g : List (Way × ℕ)). next_in g way) same_given ∙ left.next way;
    }

  -- ---- either, once it is routed

  goes_count : (lane : ℕ) (kind : Origin) (q : Packet) (way : Way)
      → fate c older session p ≡ Goes lane kind q
      → count c (Released session stamp p ∷ older) way
      ≡ count c older way + cond (is_way way (session, lane)) 1 0
  goes_count lane kind q way e =
      ap (λ (f : Fate). length (filter (is_way way) (way_of session f ++ ways c older))) e
      ∙ one_way way (session, lane) (ways c older)

  drop_count : (why : Word) (way : Way) → fate c older session p ≡ Dropped why
      → count c (Released session stamp p ∷ older) way ≡ count c older way
  drop_count why way e =
      ap (λ (f : Fate). length (filter (is_way way) (way_of session f ++ ways c older))) e

  pub goes_left : (lane : ℕ) (kind : Origin) (q : Packet) (x mid y : StreamsState)
      → IsRouted c older (Released session stamp p) x
      → mid.lanes ≡ lanes c (Released session stamp p ∷ older)
      → mid.types ≡ x.types → mid.receiver ≡ x.receiver → mid.given ≡ x.given
      → fate c older session p ≡ Goes lane kind q
      → IsCounted (session, lane) mid y → IsSameButCounts mid y
      → IsLeftBy c (Released session stamp p ∷ older) y
  goes_left lane kind q x mid y left new_lanes same_types same_receiver same_given e counted same = record {
    lanes = same.lanes ∙ new_lanes;
    routes = λ s.
        subst (λ (m : List (ℕ × List (ℕ × Route))).
        RoutesFor (routes_in m s) (rates c s) (routed c s (Released session stamp p ∷ older)))
        (sym (same.types ∙ same_types)) (left.routes s);
    receiver = same.receiver ∙ same_receiver ∙ left.receiver;
    next = λ way.
        counted way
        ∙ ap (λ (n : ℕ). n + cond (is_way way (session, lane)) 1 0)
        (ap (λ (g : List (Way × ℕ)). next_in g way) same_given ∙ left.next way)
        ∙ sym (goes_count lane kind q way e);
  }

  pub drop_left : (why : Word) (x mid : StreamsState)
      → IsRouted c older (Released session stamp p) x
      → mid.lanes ≡ lanes c (Released session stamp p ∷ older)
      → mid.types ≡ x.types → mid.receiver ≡ x.receiver → mid.given ≡ x.given
      → fate c older session p ≡ Dropped why
      → IsLeftBy c (Released session stamp p ∷ older) mid
  drop_left why x mid left new_lanes same_types same_receiver same_given e = record {
    lanes = new_lanes;
    routes = λ s.
        subst (λ (m : List (ℕ × List (ℕ × Route))).
        RoutesFor (routes_in m s) (rates c s) (routed c s (Released session stamp p ∷ older)))
        (sym same_types) (left.routes s);
    receiver = same_receiver ∙ left.receiver;
    next = λ way.
        ap (λ (g : List (Way × ℕ)). next_in g way) same_given ∙ left.next way ∙ sym (drop_count why way e);
  }

-- ---- a sender report

module _ (c : Contents) (older : List Move) (session ssrc ntp rtp : ℕ) where
  pub unseen_left : (x : StreamsState) → IsLeftBy c older x
      → lane_of (lanes c older) (session, ssrc) ≡ None
      → IsLeftBy c (Reported session ssrc ntp rtp ∷ older) x
  unseen_left x left e = record {
    lanes = left.lanes;
    routes = left.routes;
    receiver = left.receiver;
    next = λ way.
        left.next way
        ∙ sym (ap (λ (o : Option ℕ). length (filter (is_way way) (way_to session o ++ ways c older))) e);
  }

  pub synced_left : (lane : ℕ) (x y : StreamsState) → IsLeftBy c older x
      → lane_of (lanes c older) (session, ssrc) ≡ Some lane
      → IsCounted (session, lane) x y → IsSameButCounts x y
      → IsLeftBy c (Reported session ssrc ntp rtp ∷ older) y
  synced_left lane x y left e counted same = record {
    lanes = same.lanes ∙ left.lanes;
    routes = λ s.
        subst (λ (m : List (ℕ × List (ℕ × Route))).
        RoutesFor (routes_in m s) (rates c s) (routed c s older))
        (sym same.types) (left.routes s);
    receiver = same.receiver ∙ left.receiver;
    next = λ way.
        counted way
        ∙ ap (λ (n : ℕ). n + cond (is_way way (session, lane)) 1 0) (left.next way)
        ∙ sym (one_way way (session, lane) (ways c older))
        ∙ sym (ap (λ (o : Option ℕ). length (filter (is_way way) (way_to session o ++ ways c older))) e);
  }

-- ---- what a retransmission carried

pub carried : (r new : Receiving) (session : ℕ) (v p : View) (x : Restored) → v ≡ p
    → Restores r session v (Ok x) new → Carried p x
carried r new session v p x same h =
    let here : Restores r session p (Ok x) new =
    subst (λ (w : View). Restores r session w (Ok x) new) same h in
    (here.0, here.2)

pub restored_state : (c : Contents) (older : List Move) (session stamp : ℕ) (p v : View)
    (x : StreamsState) (carried_one : Restored) (new : Receiving)
    → is_rtx c session p.pt ≡ true → v ≡ p → IsLeftBy c older x
    → Restores x.receiver session v (Ok carried_one) new
    → new ≡ receiver c (RestoringCall session v ∷ calls c older)
    → (o : Original) × (original c older session p ≡ Ok o) × IsRestored o p carried_one
    × IsRouted c older (Released session stamp p) (record x { receiver = new })
restored_state c older session stamp p v x carried_one new rtx same left h stands =
    let here : Restores x.receiver session p (Ok carried_one) new =
    subst (λ (w : View). Restores x.receiver session w (Ok carried_one) new) same h in (
      here.0,
      ap (λ (r : Receiving). found r session p) (sym left.receiver) ∙ here.1,
      here.2,
      is_called c older session stamp p rtx x (record x { receiver = new }) left
          (stands ∙ ap (λ (w : View). receiver c (RestoringCall session w ∷ calls c older)) same)
          refl refl refl,
    )

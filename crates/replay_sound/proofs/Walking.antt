-- The steps of a script's front name lanes that there are by then, from their own pushers, and lanes begin with valid settings.
use Rattle.std.proofs.Common.{ℕ, ◌≡◌, ◌<◌, refl, sym, ap, subst, ◌∙◌, arith, Bool, true, false, List, [], ◌∷◌, ◌++◌, Option, None, Some, Result, Ok, Err, length, slice_get}
use Rattle.std.specs.Prelude.{if◌then◌else◌, ◌==◌, nat_lt, filter_map, flat_map, map, reverse, option_map, option_to_list}
use Rattle.std.specs.List.{cons_option}
use Rattle.std.proofs.lemmas.Bool.{ltb-true, ltb-false}
use Rattle.std.proofs.lemmas.List.{append_assoc, reverse-append}
use Rattle.rtp_wire.specs.Packet.{Packet as View}
use Rattle.rtp_demux.specs.declared.lanes.LaneOf.TheVariants as lane
use Rattle.rtp_demux.specs.declared.types.PtRoute.{PtRoute}
use Rattle.rtp_demux.specs.declared.types.PtRoute.TheVariants as pt
use Rattle.rtp_demux.specs.Lanes.{Sight, sight, lanes_of, lane_of, lane_by, rate_of, found_from, IsNewLane, IsKnownLane, StaysFull}
use Rattle.rtx.specs.Restoring.{restored}
use Rattle.rtx.specs.declared.receiver.Original.{Original}
use Rattle.rtx.specs.declared.answers.RtxFault.{RtxFault}
use Rattle.jitter_model.specs.History.{is_pusher}
use Rattle.source_table.specs.Table.{gone, expired, blocks}
use Rattle.timeline.specs.declared.line.Word.{Word}
use Rattle.timeline.specs.Words.{rtcp_word}
use Rattle.script_lang.specs.Contents.{Contents, IsScript}
use Rattle.front_model.specs.declared.Opening.{Opening}
use Rattle.front_model.specs.declared.Step.{Step}
use Rattle.front_model.specs.declared.Step.TheVariants as step
use Rattle.front_model.specs.Events.{FrontEvent, Came, ReportsDue, Requested}
use Rattle.front_model.specs.Reports.{report_bytes}
use Rattle.front_model.specs.Given.{Rtp, Rtcp, asks, table}
use Rattle.front_model.specs.Notes.{Note, Holds, Drops, Releases, NewName, Synced, Stray, Left, Gone, Says}
use Rattle.front_model.specs.Records.{Holding, Nothing, BadPacket, BadCompound, Packet, Compound, holding}
use Rattle.front_model.specs.Sessions.{setting, given, sessions}
use Rattle.front_model.specs.Moves.{Move, Released, move_of, session_notes, moves_in, moves}
use Rattle.front_model.specs.Types.{rate, is_rtx}
use Rattle.front_model.specs.Lanes.{route, lanes, sight_of}
use Rattle.front_model.specs.Fates.{Fate, Dropped, Goes, own_fate, rated_fate, restored_fate, carried_fate, rtx_fate}
use Rattle.front_model.specs.Restoring.{original}
use Rattle.front_model.specs.Steps.{pushers, route_steps, lane_steps, stream_steps, fate_steps, release_steps, sync_steps, note_steps, notes_steps, bad_steps, record_steps, report_time_steps, steps, all_steps}
use Rattle.front_model.specs.Laws.{opening, openings}
use Rattle.replay_model.specs.Fitting.{with_step, with_steps}
use Rattle.replay_sound.specs.Suited.{counts_none, IsNext, OnlyTell}
use Rattle.replay_sound.proofs.Choosing.{valid_settings, own_pushes, repeats_push}
use Rattle.replay_sound.proofs.Lines.{IsRate, rate_is, IsOfSession, session_is}
use Rattle.replay_sound.proofs.Places.{as_many, opening_at, place_below, last_at, one_from, lane_at, rate_found}
use Rattle.replay_sound.proofs.Origins.{original_repeats}

-- ---- a step that fits but for ranges

pub record IsTaken (os : List Opening) (l pusher : ℕ) : Type 0 where
  pub opening : Opening
  pub is : slice_get os l ≡ Some opening
  pub pushes : is_pusher opening.settings.pushers pusher ≡ true

abbrev pub IsPlaced : List Opening → Step → Type 0
IsPlaced os (step.Tell line) = counts_none line ≡ true
IsPlaced os (step.Open o) = IsNext os o
IsPlaced os (step.Push l a) = IsTaken os l a.pusher
IsPlaced os (step.Sync l r) = l < length os

abbrev pub ArePlaced : List Opening → List Step → Type 0
ArePlaced os [] = Unit {0}
ArePlaced os (x ∷ xs) = IsPlaced os x × ArePlaced (with_step os x) xs

placed_then : (os : List Opening) (xs ys : List Step) → ArePlaced os xs → ArePlaced (with_steps os xs) ys → ArePlaced os (xs ++ ys)
placed_then os [] ys f g = g
placed_then os (x ∷ xs) ys f g = (f.0, placed_then (with_step os x) xs ys f.1 g)

steps_then : (os : List Opening) (xs ys : List Step) → with_steps os (xs ++ ys) ≡ with_steps (with_steps os xs) ys
steps_then os [] ys = refl
steps_then os (x ∷ xs) ys = steps_then (with_step os x) xs ys

-- ---- steps from some lanes to others

pub record Leads (c : Contents) (a : List Sight) (xs : List Step) (b : List Sight) : Type 0 where
  pub placed : ArePlaced (openings c 0 a) xs
  pub opens : with_steps (openings c 0 a) xs ≡ openings c 0 b

none : (c : Contents) (a : List Sight) → Leads c a [] a
none c a = record { placed = tt; opens = refl }

then_more : (c : Contents) (a b d : List Sight) (xs ys : List Step) → Leads c a xs b → Leads c b ys d → Leads c a (xs ++ ys) d
then_more c a b d xs ys f g =
    record {
      placed = placed_then (openings c 0 a) xs ys f.placed (subst (λ (os : List Opening). ArePlaced os ys) (sym f.opens) g.placed);
      opens = steps_then (openings c 0 a) xs ys ∙ ap (λ (os : List Opening). with_steps os ys) f.opens ∙ g.opens;
    }

same_lanes : (c : Contents) (a b : List Sight) (xs : List Step) → b ≡ a → Leads c a xs a → Leads c a xs b
same_lanes c a b xs e f = subst (Leads c a xs) (sym e) f

-- how the lanes of a demultiplexer go on
pub record GoOn : Type 0 where
  pub new : IsNewLane
  pub known : IsKnownLane
  pub full : StaysFull

-- ---- where a packet goes

-- to a lane of these, one of whose pushers the session is
record IsLaneFor (c : Contents) (a : List Sight) (session l : ℕ) : Type 0 where
  of : Sight
  here : slice_get a l ≡ Some of
  pushes : is_pusher (pushers c of.0.0) session ≡ true

abbrev GoesToLane : Contents → List Sight → ℕ → Fate → Type 0
GoesToLane c a session (Dropped why) = Unit {0}
GoesToLane c a session (Goes l kind q) = IsLaneFor c a session l

fate_leads : (c : Contents) (time : ℕ) (older : List Move) (session stamp : ℕ) (p : View) (a : List Sight) (f : Fate) → GoesToLane c a session f → Leads c a (fate_steps c time older session stamp p f) a
fate_leads c time older session stamp p a (Dropped why) h = record { placed = (refl, tt); opens = refl }
fate_leads c time older session stamp p a (Goes l kind q) h =
    record {
      placed = (record { opening = opening c l h.of; is = opening_at c 0 a l h.of h.here ∙ ap (λ (k : ℕ). Some (opening c k h.of)) (omega arith); pushes = h.pushes }, tt);
      opens = refl;
    }

-- ---- a retransmission

module _ (c : Contents) (older : List Move) (session : ℕ) (lt : session < 8) where
  known_goes : (o : Original) (p : View) (rate : ℕ) (e : ℕ × ℕ) → is_pusher (pushers c o.session) session ≡ true → found_from 0 (o.session, o.ssrc) (lanes c older) ≡ Some e
      → (b : Bool) → GoesToLane c (lanes c older) session (restored_fate p (if b then lane.Known e.0 else lane.Rate e.0 e.1))
  known_goes o p rate e pushes found true = record { of = ((o.session, o.ssrc), e.1); here = lane_at (o.session, o.ssrc) (lanes c older) e found; pushes = pushes }
  known_goes o p rate e pushes found false = tt

  new_goes : (p : View) (n : ℕ) (b : Bool) → GoesToLane c (lanes c older) session (restored_fate p (if b then lane.New n else lane.Full))
  new_goes p n true = tt
  new_goes p n false = tt

  restored_goes : (o : Original) (p : View) (rate : ℕ) (f : Option (ℕ × ℕ)) → is_pusher (pushers c o.session) session ≡ true → found_from 0 (o.session, o.ssrc) (lanes c older) ≡ f
      → GoesToLane c (lanes c older) session (restored_fate p (lane_by (lanes c older) rate f))
  restored_goes o p rate None pushes found = new_goes p (length (lanes c older)) (nat_lt (length (lanes c older)) 64)
  restored_goes o p rate (Some e) pushes found = known_goes o p rate e pushes found (e.1 == rate)

  carried_goes : (o : Original) (p : View) (r : Option ℕ) → is_pusher (pushers c o.session) session ≡ true → GoesToLane c (lanes c older) session (carried_fate (lanes c older) o p r)
  carried_goes o p None pushes = tt
  carried_goes o p (Some rate) pushes = restored_goes o (restored o p) rate (found_from 0 (o.session, o.ssrc) (lanes c older)) pushes refl

  rtx_goes : (p : View) (r : Result Original RtxFault) → original c older session p ≡ r → GoesToLane c (lanes c older) session (rtx_fate c older p r)
  rtx_goes p (Err fault) e = tt
  rtx_goes p (Ok o) e = carried_goes o p (rate c o.session o.apt) (repeats_push c o.session session lt (original_repeats c older session p o e))

-- ---- a packet that came by itself

module _ (laws : GoOn) (c : Contents) (script : IsScript c) where
  -- it makes its stream's lane where there is none
  known_leads : (time session ssrc rate : ℕ) (a : List Sight) (e : ℕ × ℕ) (b : Bool) → Leads c a (lane_steps c time session ssrc rate (if b then lane.Known e.0 else lane.Rate e.0 e.1)) a
  known_leads time session ssrc rate a e true = none c a
  known_leads time session ssrc rate a e false = none c a

  room_leads : (time : ℕ) (before : List Sight) (session ssrc rate : ℕ) (b : Bool) → session < 8 → IsRate rate → rate_of (lanes_of before) (session, ssrc) ≡ None → nat_lt (length (lanes_of before)) 64 ≡ b
      → Leads c (lanes_of before) (lane_steps c time session ssrc rate (if b then lane.New (length (lanes_of before)) else lane.Full)) (lanes_of (sight session ssrc rate ∷ before))
  room_leads time before session ssrc rate true small is absent e =
      let room : length (lanes_of before) < 64 = ltb-true (length (lanes_of before)) 64 e in
      let long : length (openings c 0 (lanes_of before)) ≡ length (lanes_of before) = as_many c 0 (lanes_of before) in
      record {
        placed = (
          refl,
          (
            record { number = sym long; room = omega (arith, long, room); session = small; valid = valid_settings c session rate script is.from is.to },
            tt,
          ),
        );
        opens = sym (one_from c 0 (length (lanes_of before)) (lanes_of before) (sight session ssrc rate) (omega arith))
            ∙ ap (openings c 0) (sym (laws.new before (sight session ssrc rate) absent (ltb-true (length (lanes_of before)) 64 e)));
      }
  room_leads time before session ssrc rate false small is absent e =
      same_lanes c (lanes_of before) (lanes_of (sight session ssrc rate ∷ before)) [] (laws.full before (sight session ssrc rate) (ltb-false (length (lanes_of before)) 64 e)) (none c (lanes_of before))

  lane_leads : (time : ℕ) (before : List Sight) (session ssrc rate : ℕ) (f : Option (ℕ × ℕ)) → session < 8 → IsRate rate → found_from 0 (session, ssrc) (lanes_of before) ≡ f
      → Leads c (lanes_of before) (lane_steps c time session ssrc rate (lane_by (lanes_of before) rate f)) (lanes_of (sight session ssrc rate ∷ before))
  lane_leads time before session ssrc rate None small is e =
      room_leads time before session ssrc rate (nat_lt (length (lanes_of before)) 64) small is
      (rate_found 0 (session, ssrc) (lanes_of before) ∙ ap (option_map (λ x. x.1)) e) refl
  lane_leads time before session ssrc rate (Some x) small is e =
      same_lanes c (lanes_of before) (lanes_of (sight session ssrc rate ∷ before)) _
      (laws.known before (sight session ssrc rate) x.1 (rate_found 0 (session, ssrc) (lanes_of before) ∙ ap (option_map (λ y. y.1)) e))
      (known_leads time session ssrc rate (lanes_of before) x (x.1 == rate))

  -- it goes to that lane
  seen_goes : (before : List Sight) (session ssrc rate : ℕ) (p : View) (e : ℕ × ℕ) → session < 8 → found_from 0 (session, ssrc) (lanes_of before) ≡ Some e
      → lanes_of (sight session ssrc rate ∷ before) ≡ lanes_of before
      → (b : Bool) → GoesToLane c (lanes_of (sight session ssrc rate ∷ before)) session (own_fate p (if b then lane.Known e.0 else lane.Rate e.0 e.1))
  seen_goes before session ssrc rate p e lt found same true =
      record {
        of = ((session, ssrc), e.1);
        here = ap (λ (l : List Sight). slice_get l e.0) same ∙ lane_at (session, ssrc) (lanes_of before) e found;
        pushes = own_pushes c session lt;
      }
  seen_goes before session ssrc rate p e lt found same false = tt

  room_goes : (before : List Sight) (session ssrc rate : ℕ) (p : View) (b : Bool) → session < 8 → rate_of (lanes_of before) (session, ssrc) ≡ None → nat_lt (length (lanes_of before)) 64 ≡ b
      → GoesToLane c (lanes_of (sight session ssrc rate ∷ before)) session (own_fate p (if b then lane.New (length (lanes_of before)) else lane.Full))
  room_goes before session ssrc rate p true lt absent e =
      record {
        of = sight session ssrc rate;
        here = ap (λ (l : List Sight). slice_get l (length (lanes_of before))) (laws.new before (sight session ssrc rate) absent (ltb-true (length (lanes_of before)) 64 e))
            ∙ last_at (lanes_of before) (sight session ssrc rate);
        pushes = own_pushes c session lt;
      }
  room_goes before session ssrc rate p false lt absent e = tt

  own_goes : (before : List Sight) (session ssrc rate : ℕ) (p : View) (f : Option (ℕ × ℕ)) → session < 8 → found_from 0 (session, ssrc) (lanes_of before) ≡ f
      → GoesToLane c (lanes_of (sight session ssrc rate ∷ before)) session (own_fate p (lane_by (lanes_of before) rate f))
  own_goes before session ssrc rate p None lt e =
      room_goes before session ssrc rate p (nat_lt (length (lanes_of before)) 64) lt (rate_found 0 (session, ssrc) (lanes_of before) ∙ ap (option_map (λ x. x.1)) e) refl
  own_goes before session ssrc rate p (Some x) lt e =
      seen_goes before session ssrc rate p x lt e (laws.known before (sight session ssrc rate) x.1 (rate_found 0 (session, ssrc) (lanes_of before) ∙ ap (option_map (λ y. y.1)) e)) (x.1 == rate)

  route_leads : (time session p : ℕ) (a : List Sight) (r : PtRoute) → Leads c a (route_steps time session p r) a
  route_leads time session p a (pt.First rate) = record { placed = (refl, tt); opens = refl }
  route_leads time session p a (pt.Known rate) = none c a
  route_leads time session p a pt.Unmapped = none c a

  -- the lanes behind it
  abbrev behind : ℕ → ℕ → List Move → Option ℕ → List Sight
  behind session ssrc older r = lanes_of (cons_option (option_map (sight session ssrc) r) (filter_map (sight_of c) older))

  rated_leads : (time : ℕ) (older : List Move) (session stamp : ℕ) (p : View) (r : Option ℕ) → session < 8 → rate c session p.pt ≡ r
      → Leads c (lanes c older) (stream_steps c time older session p r ++ fate_steps c time older session stamp p (rated_fate (lanes c older) session p r)) (behind session p.ssrc older r)
  rated_leads time older session stamp p None lt e = record { placed = (refl, tt); opens = refl }
  rated_leads time older session stamp p (Some rate) lt e =
      let before : List Sight = filter_map (sight_of c) older in
      let f : Option (ℕ × ℕ) = found_from 0 (session, p.ssrc) (lanes_of before) in
      let after : List Sight = lanes_of (sight session p.ssrc rate ∷ before) in
      then_more c (lanes_of before) after after
      (lane_steps c time session p.ssrc rate (lane_by (lanes_of before) rate f))
      (fate_steps c time older session stamp p (own_fate p (lane_by (lanes_of before) rate f)))
      (lane_leads time before session p.ssrc rate f lt (rate_is c session p.pt rate script e) refl)
      (fate_leads c time older session stamp p after (own_fate p (lane_by (lanes_of before) rate f)) (own_goes before session p.ssrc rate p f lt refl))

  release_leads : (time : ℕ) (older : List Move) (session stamp : ℕ) (p : View) → session < 8
      → Leads c (lanes c older) (release_steps c time older session stamp p) (lanes c (Released session stamp p ∷ older))
  release_leads time older session stamp p lt = by (is_rtx c session p.pt)
    where
      routes : List Step
      routes = route_steps time session p.pt (route c session older p.pt)

      streams : List Step
      streams = stream_steps c time older session p (rate c session p.pt)

      own : List Step
      own = fate_steps c time older session stamp p (rated_fate (lanes c older) session p (rate c session p.pt))

      by : (b : Bool)
          → Leads c (lanes c older)
          ((if b then [] else routes ++ streams)
          ++ fate_steps c time older session stamp p (if b then rtx_fate c older p (original c older session p) else rated_fate (lanes c older) session p (rate c session p.pt)))
          (lanes_of (cons_option (if b then None else option_map (sight session p.ssrc) (rate c session p.pt)) (filter_map (sight_of c) older)))
      by true =
          fate_leads c time older session stamp p (lanes c older) (rtx_fate c older p (original c older session p)) (rtx_goes c older session lt p (original c older session p) refl)
      by false =
          subst (λ (xs : List Step). Leads c (lanes c older) xs (behind session p.ssrc older (rate c session p.pt)))
          (sym (append_assoc routes streams own))
          (then_more c (lanes c older) (lanes c older) (behind session p.ssrc older (rate c session p.pt)) routes (streams ++ own)
          (route_leads time session p.pt (lanes c older) (route c session older p.pt))
          (rated_leads time older session stamp p (rate c session p.pt) lt refl))

  -- ---- notes

  sync_leads : (older : List Move) (session ssrc ntp rtp : ℕ) (f : Option (ℕ × ℕ)) → found_from 0 (session, ssrc) (lanes c older) ≡ f
      → Leads c (lanes c older) (sync_steps c older session ntp rtp (option_map (λ e. e.0) f)) (lanes c older)
  sync_leads older session ssrc ntp rtp None found = none c (lanes c older)
  sync_leads older session ssrc ntp rtp (Some e) found =
      record { placed = (place_below c 0 (lanes c older) e.0 ((session, ssrc), e.1) (lane_at (session, ssrc) (lanes c older) e found), tt); opens = refl }

  report_leads : (time : ℕ) (older : List Move) (session ssrc ntp rtp : ℕ)
      → Leads c (lanes c older) (note_steps c time older session (Synced ssrc ntp rtp)) (lanes c older)
  report_leads time older session ssrc ntp rtp =
      let rest : Leads c (lanes c older) (sync_steps c older session ntp rtp (lane_of (lanes c older) (session, ssrc))) (lanes c older) =
      sync_leads older session ssrc ntp rtp (found_from 0 (session, ssrc) (lanes c older)) refl in
      record { placed = (refl, rest.placed); opens = rest.opens }

  note_leads : (time : ℕ) (older : List Move) (session : ℕ) (n : Note) → session < 8
      → Leads c (lanes c older) (note_steps c time older session n) (lanes c (option_to_list (move_of session n) ++ older))
  note_leads time older session (Holds k) lt = record { placed = (refl, tt); opens = refl }
  note_leads time older session (Drops k why) lt = record { placed = (refl, tt); opens = refl }
  note_leads time older session (Releases k) lt = release_leads time older session k.stamp k.packet lt
  note_leads time older session (NewName ssrc name) lt = record { placed = (refl, tt); opens = refl }
  note_leads time older session (Synced ssrc ntp rtp) lt = report_leads time older session ssrc ntp rtp
  note_leads time older session (Stray ssrc) lt = record { placed = (refl, tt); opens = refl }
  note_leads time older session (Left ssrc) lt = record { placed = (refl, tt); opens = refl }
  note_leads time older session (Gone ssrc) lt = record { placed = (refl, tt); opens = refl }
  note_leads time older session (Says bytes) lt = record { placed = (refl, tt); opens = refl }

  -- one move after the other, or all at once
  moved : (o : Option Move) (ms older : List Move) → reverse ms ++ (option_to_list o ++ older) ≡ reverse (cons_option o ms) ++ older
  moved None ms older = refl
  moved (Some m) ms older =
      sym (append_assoc (reverse ms) (m ∷ []) older) ∙ ap (λ (l : List Move). l ++ older) (sym (reverse-append (m ∷ []) ms))

  notes_lead : (time : ℕ) (older : List Move) (session : ℕ) (ns : List Note) → session < 8
      → Leads c (lanes c older) (notes_steps c time older session ns) (lanes c (reverse (filter_map (move_of session) ns) ++ older))
  notes_lead time older session [] lt = none c (lanes c older)
  notes_lead time older session (n ∷ more) lt =
      let next : List Move = option_to_list (move_of session n) ++ older in
      then_more c (lanes c older) (lanes c next) (lanes c (reverse (filter_map (move_of session) (n ∷ more)) ++ older))
      (note_steps c time older session n) (notes_steps c time next session more)
      (note_leads time older session n lt)
      (subst (λ (ms : List Move). Leads c (lanes c next) (notes_steps c time next session more) (lanes c ms))
      (moved (move_of session n) (filter_map (move_of session) more) older)
      (notes_lead time next session more lt))

  -- ---- all steps

  gone_leads : (time : ℕ) (older : List Move) (session : ℕ) (ssrcs bytes : List ℕ) (a : List Sight) → Leads c a (notes_steps c time older session ((map Gone ssrcs ++ Says bytes ∷ []) ++ [])) a
  gone_leads time older session [] bytes a = record { placed = (refl, tt); opens = refl }
  gone_leads time older session (x ∷ xs) bytes a =
      let rest : Leads c a (notes_steps c time older session ((map Gone xs ++ Says bytes ∷ []) ++ [])) a = gone_leads time older session xs bytes a in
      record { placed = (refl, rest.placed); opens = rest.opens }

  due_leads : (time : ℕ) (older : List FrontEvent) (a : List Sight) (ss : List ℕ) → Leads c a (flat_map (report_time_steps c time older) ss) a
  due_leads time older a [] = none c a
  due_leads time older a (s ∷ ss) =
      then_more c a a a (report_time_steps c time older s) (flat_map (report_time_steps c time older) ss)
      (gone_leads time (moves c older) s (gone (table (setting c s) (asks (given c s older))) time c.settings.timeout)
      (report_bytes c.settings.ssrc (blocks (expired (table (setting c s) (asks (given c s older))) time c.settings.timeout) time)) a)
      (due_leads time older a ss)

  bad_leads : (time session : ℕ) (a : List Sight) (o : Option (Word × ℕ)) → Leads c a (bad_steps time session o) a
  bad_leads time session a None = none c a
  bad_leads time session a (Some bad) = record { placed = (refl, tt); opens = refl }

  record_leads : (time : ℕ) (older : List FrontEvent) (h : Holding) → IsOfSession h
      → Leads c (lanes c (moves c older)) (record_steps c time older h) (lanes c (reverse (moves_in c older time h) ++ moves c older))
  record_leads time older (Nothing why) is = record { placed = (refl, tt); opens = refl }
  record_leads time older (BadPacket session fault) is = record { placed = (refl, tt); opens = refl }
  record_leads time older (BadCompound session fault) is = bad_leads time session (lanes c (moves c older)) (rtcp_word fault)
  record_leads time older (Packet session from p) is = notes_lead time (moves c older) session (session_notes c older session (Rtp time from p (rate c session p.pt))) is
  record_leads time older (Compound session packets) is = notes_lead time (moves c older) session (session_notes c older session (Rtcp time packets)) is

  pub event_leads : (older : List FrontEvent) (e : FrontEvent) → Leads c (lanes c (moves c older)) (steps c older e) (lanes c (moves c (e ∷ older)))
  event_leads older (Came time r) = record_leads time older (holding c.sessions r) (session_is c r script)
  event_leads older (ReportsDue time) = due_leads time older (lanes c (moves c older)) (sessions c)
  event_leads older (Requested r) = none c (lanes c (moves c older))

  pub all_lead : (events : List FrontEvent) → Leads c [] (all_steps c events) (lanes c (moves c events))
  all_lead [] = none c []
  all_lead (e ∷ older) =
      then_more c [] (lanes c (moves c older)) (lanes c (moves c (e ∷ older))) (all_steps c older) (steps c older e) (all_lead older) (event_leads older e)

-- ---- report times

tells_then : (xs ys : List Step) → OnlyTell xs → OnlyTell ys → OnlyTell (xs ++ ys)
tells_then [] ys f g = g
tells_then (step.Tell x ∷ xs) ys f g = tells_then xs ys f g
tells_then (step.Open o ∷ xs) ys f g = absurd f
tells_then (step.Push l a ∷ xs) ys f g = absurd f
tells_then (step.Sync l r ∷ xs) ys f g = absurd f

gone_tell : (c : Contents) (time : ℕ) (older : List Move) (session : ℕ) (ssrcs bytes : List ℕ) → OnlyTell (notes_steps c time older session ((map Gone ssrcs ++ Says bytes ∷ []) ++ []))
gone_tell c time older session [] bytes = tt
gone_tell c time older session (x ∷ xs) bytes = gone_tell c time older session xs bytes

due_tell : (c : Contents) (time : ℕ) (older : List FrontEvent) (ss : List ℕ) → OnlyTell (flat_map (report_time_steps c time older) ss)
due_tell c time older [] = tt
due_tell c time older (s ∷ ss) =
    tells_then (report_time_steps c time older s) (flat_map (report_time_steps c time older) ss)
    (gone_tell c time (moves c older) s (gone (table (setting c s) (asks (given c s older))) time c.settings.timeout)
    (report_bytes c.settings.ssrc (blocks (expired (table (setting c s) (asks (given c s older))) time c.settings.timeout) time)))
    (due_tell c time older ss)

pub reports_tell : (c : Contents) (older : List FrontEvent) (time : ℕ) → OnlyTell (steps c older (ReportsDue time))
reports_tell c older time = due_tell c time older (sessions c)

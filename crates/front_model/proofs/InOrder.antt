-- The steps open the lanes, each once and in the order of their numbers.
use Rattle.std.proofs.Common.{ℕ, ◌+◌, ◌≡◌, refl, sym, ap, subst, ◌∙◌, arith, Bool, true, false, cond, List, [], ◌∷◌, ◌++◌, Option, None, Some}
use Rattle.std.specs.Prelude.{if◌then◌else◌, nat_lt, filter_map, flat_map, length, map, reverse, option_map, option_to_list, ◌==◌}
use Rattle.std.specs.List.{cons_option}
use Rattle.std.proofs.lemmas.Bool.{ltb-true, ltb-false}
use Rattle.std.proofs.lemmas.List.{append_assoc, append-nil}
use Rattle.std.proofs.lemmas.List.Elements.{filter_map-append}
use Rattle.rtp_wire.specs.Packet.{Packet as View}
use Rattle.rtp_demux.specs.declared.lanes.LaneOf.TheVariants as lane
use Rattle.rtp_demux.specs.declared.types.PtRoute.{PtRoute}
use Rattle.rtp_demux.specs.declared.types.PtRoute.TheVariants as pt
use Rattle.rtp_demux.specs.Lanes.{Stream, Sight, sight, is_stream, rate_of, lanes_of, lane_of, lane_by, found_from, IsNewLane, IsKnownLane, StaysFull}
use Rattle.script_lang.specs.Contents.{Contents}
use Rattle.timeline.specs.declared.line.Word.{Word}
use Rattle.timeline.specs.Words.{rtcp_word}
use Rattle.source_table.specs.Table.{gone, expired, blocks}
use Rattle.front_model.specs.declared.Opening.{Opening}
use Rattle.front_model.specs.declared.Step.{Step}
use Rattle.front_model.specs.Events.{FrontEvent, Came, ReportsDue, Requested}
use Rattle.front_model.specs.Reports.{report_bytes}
use Rattle.front_model.specs.Given.{Rtp, Rtcp, asks, table}
use Rattle.front_model.specs.Notes.{Note, Holds, Drops, Releases, NewName, Synced, Stray, Left, Gone, Says}
use Rattle.front_model.specs.Records.{Holding, Nothing, BadPacket, BadCompound, Packet, Compound, holding}
use Rattle.front_model.specs.Sessions.{setting, given, sessions}
use Rattle.front_model.specs.Moves.{Move, Released, Reported, move_of, session_notes, moves_in, moves}
use Rattle.front_model.specs.Types.{rate, is_rtx}
use Rattle.front_model.specs.Lanes.{route, lanes, sight_of}
use Rattle.front_model.specs.Fates.{Fate, Dropped, Goes, fate}
use Rattle.front_model.specs.Steps.{route_steps, lane_steps, stream_steps, way_steps, fate_steps, release_steps, sync_steps, note_steps, notes_steps, bad_steps, record_steps, report_time_steps, steps, all_steps}
use Rattle.front_model.specs.Laws.{opened_by, opening, openings}
use Rattle.front_model.proofs.Counting.{moved}

abbrev opened : List Step → List Opening
opened steps = filter_map opened_by steps

-- ---- lanes from one list to another

abbrev Opens : Contents → List Sight → List Opening → List Sight → Type 0
Opens c a xs b = openings c 0 a ++ xs ≡ openings c 0 b

none : (c : Contents) (a : List Sight) → Opens c a [] a
none c a = append-nil (openings c 0 a)

one_from : (c : Contents) (n k : ℕ) (a : List Sight) (s : Sight) → k ≡ n + length a → openings c n (a ++ s ∷ []) ≡ openings c n a ++ opening c k s ∷ []
one_from c n k [] s e = ap (λ (x : ℕ). opening c x s ∷ []) (omega (arith, e))
one_from c n k (x ∷ a) s e = ap (λ (l : List Opening). opening c n x ∷ l) (one_from c (n + 1) k a s (omega (arith, e)))

one : (c : Contents) (a : List Sight) (s : Sight) → Opens c a (opening c (length a) s ∷ []) (a ++ s ∷ [])
one c a s = sym (one_from c 0 (length a) a s (omega arith))

then_more : (c : Contents) (a b d : List Sight) (xs ys : List Opening) → Opens c a xs b → Opens c b ys d → Opens c a (xs ++ ys) d
then_more c a b d xs ys f g = sym (append_assoc (openings c 0 a) xs ys) ∙ ap (λ (l : List Opening). l ++ ys) f ∙ g

nothing : (c : Contents) (a b : List Sight) (xs : List Opening) → xs ≡ [] → b ≡ a → Opens c a xs b
nothing c a b xs e f = subst (λ (l : List Sight). Opens c a xs l) (sym f) (subst (λ (l : List Opening). Opens c a l a) (sym e) (none c a))

-- ---- a stream

rate_if : (b : Bool) (n v : ℕ) (o : Option ℕ) (f : Option (ℕ × ℕ)) → o ≡ option_map (λ e. e.1) f → cond b (Some v) o ≡ option_map (λ e. e.1) (if b then Some (n, v) else f)
rate_if true n v o f e = refl
rate_if false n v o f e = e

pub rate_found : (n : ℕ) (stream : Stream) (es : List Sight) → rate_of es stream ≡ option_map (λ e. e.1) (found_from n stream es)
rate_found n stream [] = refl
rate_found n stream (s ∷ es) = rate_if (is_stream stream s.0) n s.1 (rate_of es stream) (found_from (n + 1) stream es) (rate_found (n + 1) stream es)

-- how the lanes of a demultiplexer go on
pub record GoOn : Type 0 where
  pub new : IsNewLane
  pub known : IsKnownLane
  pub full : StaysFull

module _ (laws : GoOn) where
  known_opens : (c : Contents) (time session ssrc rate : ℕ) (e : ℕ × ℕ) (b : Bool) → opened (lane_steps c time session ssrc rate (if b then lane.Known e.0 else lane.Rate e.0 e.1)) ≡ []
  known_opens c time session ssrc rate e true = refl
  known_opens c time session ssrc rate e false = refl

  room_opens : (c : Contents) (time : ℕ) (before : List Sight) (session ssrc rate : ℕ) (b : Bool) → rate_of (lanes_of before) (session, ssrc) ≡ None → nat_lt (length (lanes_of before)) 64 ≡ b
      → Opens c (lanes_of before) (opened (lane_steps c time session ssrc rate (if b then lane.New (length (lanes_of before)) else lane.Full))) (lanes_of (sight session ssrc rate ∷ before))
  room_opens c time before session ssrc rate true absent e =
      subst (λ (l : List Sight). Opens c (lanes_of before) (opening c (length (lanes_of before)) (sight session ssrc rate) ∷ []) l)
      (sym (laws.new before (sight session ssrc rate) absent (ltb-true (length (lanes_of before)) 64 e))) (one c (lanes_of before) (sight session ssrc rate))
  room_opens c time before session ssrc rate false absent e =
      nothing c (lanes_of before) (lanes_of (sight session ssrc rate ∷ before)) [] refl (laws.full before (sight session ssrc rate) (ltb-false (length (lanes_of before)) 64 e))

  lane_opens : (c : Contents) (time : ℕ) (before : List Sight) (session ssrc rate : ℕ) (f : Option (ℕ × ℕ)) → found_from 0 (session, ssrc) (lanes_of before) ≡ f
      → Opens c (lanes_of before) (opened (lane_steps c time session ssrc rate (lane_by (lanes_of before) rate f))) (lanes_of (sight session ssrc rate ∷ before))
  lane_opens c time before session ssrc rate None e =
      room_opens c time before session ssrc rate (nat_lt (length (lanes_of before)) 64)
      (rate_found 0 (session, ssrc) (lanes_of before) ∙ ap (option_map (λ x. x.1)) e) refl
  lane_opens c time before session ssrc rate (Some x) e =
      nothing c (lanes_of before) (lanes_of (sight session ssrc rate ∷ before)) _ (known_opens c time session ssrc rate x (x.1 == rate))
      (laws.known before (sight session ssrc rate) x.1 (rate_found 0 (session, ssrc) (lanes_of before) ∙ ap (option_map (λ y. y.1)) e))

  -- ---- a packet

  stream_opens : (c : Contents) (time : ℕ) (older : List Move) (session : ℕ) (p : View) (o : Option ℕ)
      → Opens c (lanes c older) (opened (stream_steps c time older session p o)) (lanes_of (cons_option (option_map (sight session p.ssrc) o) (filter_map (sight_of c) older)))
  stream_opens c time older session p None = none c (lanes c older)
  stream_opens c time older session p (Some rate) =
      lane_opens c time (filter_map (sight_of c) older) session p.ssrc rate (found_from 0 (session, p.ssrc) (lanes c older)) refl

  no_route : (time session p : ℕ) (r : PtRoute) → opened (route_steps time session p r) ≡ []
  no_route time session p (pt.First rate) = refl
  no_route time session p (pt.Known rate) = refl
  no_route time session p pt.Unmapped = refl

  behind : (xs ys : List Step) → opened xs ≡ [] → opened (xs ++ ys) ≡ opened ys
  behind xs ys e = filter_map-append opened_by xs ys ∙ ap (λ (l : List Opening). l ++ opened ys) e

  routed_opens : (c : Contents) (time : ℕ) (older : List Move) (session : ℕ) (p : View) (b : Bool)
      → Opens c (lanes c older) (opened (if b then [] else route_steps time session p.pt (route c session older p.pt) ++ stream_steps c time older session p (rate c session p.pt)))
      (lanes_of (cons_option (if b then None else option_map (sight session p.ssrc) (rate c session p.pt)) (filter_map (sight_of c) older)))
  routed_opens c time older session p true = none c (lanes c older)
  routed_opens c time older session p false =
      subst (λ (l : List Opening). Opens c (lanes c older) l (lanes_of (cons_option (option_map (sight session p.ssrc) (rate c session p.pt)) (filter_map (sight_of c) older))))
      (sym (behind (route_steps time session p.pt (route c session older p.pt)) (stream_steps c time older session p (rate c session p.pt)) (no_route time session p.pt (route c session older p.pt))))
      (stream_opens c time older session p (rate c session p.pt))

  no_fate : (c : Contents) (time : ℕ) (older : List Move) (session stamp : ℕ) (p : View) (f : Fate) → opened (fate_steps c time older session stamp p f) ≡ []
  no_fate c time older session stamp p (Dropped why) = refl
  no_fate c time older session stamp p (Goes lane kind q) = refl

  in_front : (xs ys : List Step) → opened ys ≡ [] → opened (xs ++ ys) ≡ opened xs
  in_front xs ys e = filter_map-append opened_by xs ys ∙ ap (λ (l : List Opening). opened xs ++ l) e ∙ append-nil (opened xs)

  release_opens : (c : Contents) (time : ℕ) (older : List Move) (session stamp : ℕ) (p : View)
      → Opens c (lanes c older) (opened (release_steps c time older session stamp p)) (lanes c (Released session stamp p ∷ older))
  release_opens c time older session stamp p =
      subst (λ (l : List Opening). Opens c (lanes c older) l (lanes c (Released session stamp p ∷ older)))
      (sym (in_front (way_steps c time older session p) (fate_steps c time older session stamp p (fate c older session p)) (no_fate c time older session stamp p (fate c older session p))))
      (routed_opens c time older session p (is_rtx c session p.pt))

  -- ---- notes

  no_sync : (c : Contents) (older : List Move) (session ntp rtp : ℕ) (o : Option ℕ) → opened (sync_steps c older session ntp rtp o) ≡ []
  no_sync c older session ntp rtp None = refl
  no_sync c older session ntp rtp (Some lane) = refl

  note_opens : (c : Contents) (time : ℕ) (older : List Move) (session : ℕ) (n : Note)
      → Opens c (lanes c older) (opened (note_steps c time older session n)) (lanes c (option_to_list (move_of session n) ++ older))
  note_opens c time older session (Holds k) = none c (lanes c older)
  note_opens c time older session (Drops k why) = none c (lanes c older)
  note_opens c time older session (Releases k) = release_opens c time older session k.stamp k.packet
  note_opens c time older session (NewName ssrc name) = none c (lanes c older)
  note_opens c time older session (Synced ssrc ntp rtp) =
      nothing c (lanes c older) (lanes c (Reported session ssrc ntp rtp ∷ older)) _ (no_sync c older session ntp rtp (lane_of (lanes c older) (session, ssrc))) refl
  note_opens c time older session (Stray ssrc) = none c (lanes c older)
  note_opens c time older session (Left ssrc) = none c (lanes c older)
  note_opens c time older session (Gone ssrc) = none c (lanes c older)
  note_opens c time older session (Says bytes) = none c (lanes c older)

  notes_open : (c : Contents) (time : ℕ) (older : List Move) (session : ℕ) (ns : List Note)
      → Opens c (lanes c older) (opened (notes_steps c time older session ns)) (lanes c (reverse (filter_map (move_of session) ns) ++ older))
  notes_open c time older session [] = none c (lanes c older)
  notes_open c time older session (n ∷ more) =
      subst (λ (l : List Opening). Opens c (lanes c older) l (lanes c (reverse (filter_map (move_of session) (n ∷ more)) ++ older)))
      (sym (filter_map-append opened_by (note_steps c time older session n) (notes_steps c time (option_to_list (move_of session n) ++ older) session more)))
      (then_more c (lanes c older) (lanes c (option_to_list (move_of session n) ++ older)) _ _ _
      (note_opens c time older session n)
      (subst (λ (ms : List Move). Opens c (lanes c (option_to_list (move_of session n) ++ older)) (opened (notes_steps c time (option_to_list (move_of session n) ++ older) session more)) (lanes c ms))
      (moved session (move_of session n) (filter_map (move_of session) more) older)
      (notes_open c time (option_to_list (move_of session n) ++ older) session more)))

  -- ---- all steps

  gone_quiet : (c : Contents) (time : ℕ) (older : List Move) (session : ℕ) (ssrcs bytes : List ℕ) → opened (notes_steps c time older session ((map Gone ssrcs ++ Says bytes ∷ []) ++ [])) ≡ []
  gone_quiet c time older session [] bytes = refl
  gone_quiet c time older session (x ∷ xs) bytes = gone_quiet c time older session xs bytes

  due_quiet : (c : Contents) (time : ℕ) (older : List FrontEvent) (ss : List ℕ) → opened (flat_map (report_time_steps c time older) ss) ≡ []
  due_quiet c time older [] = refl
  due_quiet c time older (s ∷ ss) =
      behind (report_time_steps c time older s) (flat_map (report_time_steps c time older) ss)
      (gone_quiet c time (moves c older) s (gone (table (setting c s) (asks (given c s older))) time c.settings.timeout)
      (report_bytes c.settings.ssrc (blocks (expired (table (setting c s) (asks (given c s older))) time c.settings.timeout) time)))
      ∙ due_quiet c time older ss

  bad_quiet : (time session : ℕ) (o : Option (Word × ℕ)) → opened (bad_steps time session o) ≡ []
  bad_quiet time session None = refl
  bad_quiet time session (Some bad) = refl

  record_opens : (c : Contents) (time : ℕ) (older : List FrontEvent) (h : Holding)
      → Opens c (lanes c (moves c older)) (opened (record_steps c time older h)) (lanes c (reverse (moves_in c older time h) ++ moves c older))
  record_opens c time older (Nothing why) = none c (lanes c (moves c older))
  record_opens c time older (BadPacket session fault) = none c (lanes c (moves c older))
  record_opens c time older (BadCompound session fault) = nothing c (lanes c (moves c older)) (lanes c (moves c older)) _ (bad_quiet time session (rtcp_word fault)) refl
  record_opens c time older (Packet session from p) = notes_open c time (moves c older) session (session_notes c older session (Rtp time from p (rate c session p.pt)))
  record_opens c time older (Compound session packets) = notes_open c time (moves c older) session (session_notes c older session (Rtcp time packets))

  event_opens : (c : Contents) (older : List FrontEvent) (e : FrontEvent) → Opens c (lanes c (moves c older)) (opened (steps c older e)) (lanes c (moves c (e ∷ older)))
  event_opens c older (Came time r) = record_opens c time older (holding c.sessions r)
  event_opens c older (ReportsDue time) = nothing c (lanes c (moves c older)) (lanes c (moves c older)) _ (due_quiet c time older (sessions c)) refl
  event_opens c older (Requested r) = none c (lanes c (moves c older))

  pub open_in_order : (c : Contents) (events : List FrontEvent) → filter_map opened_by (all_steps c events) ≡ openings c 0 (lanes c (moves c events))
  open_in_order c [] = refl
  open_in_order c (e ∷ older) =
      filter_map-append opened_by (all_steps c older) (steps c older e)
      ∙ ap (λ (l : List Opening). l ++ opened (steps c older e)) (open_in_order c older)
      ∙ event_opens c older e

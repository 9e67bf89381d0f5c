-- What the steps of a front give lanes comes from sessions, and a report goes to a lane of its own session.
use Rattle.std.proofs.Common.{ℕ, ◌≡◌, ◌≤◌, ◌<◌, Bool, true, false, cond, refl, sym, ap, subst, ◌∙◌, List, [], ◌∷◌, ◌++◌, Option, Some, None, Result, Ok, Err, arith, find}
use Rattle.std.specs.Prelude.{if◌then◌else◌, ◌==◌, ◌&&◌, ◌%◌, ◌/◌, nat_le, filter_map, reverse, option_map, option_to_list}
use Rattle.std.specs.List.{list_all, cons_option}
use Rattle.std.proofs.lemmas.Bool.{and_parts, leb-true}
use Rattle.std.proofs.lemmas.List.{append_assoc, reverse-append}
use Rattle.rtp_wire.specs.Packet.{Packet as View, first_fault}
use Rattle.rtp_wire.specs.declared.fault.RtpFault.{RtpFault}
use Rattle.rtcp_wire.specs.Compound.{compound_of}
use Rattle.rtcp_wire.specs.declared.packet.Rtcp.{Rtcp as RtcpPacket}
use Rattle.rtcp_wire.specs.declared.fault.RtcpFault.{RtcpFault}
use Rattle.rtp_units.specs.declared.shared.Address.{Address}
use Rattle.pcap_file.specs.Capture.{Record}
use Rattle.pcap_file.specs.Datagrams.{Sent, datagram_of}
use Rattle.pcap_file.specs.declared.udp.Skip.{Skip}
use Rattle.rtp_demux.specs.declared.lanes.LaneOf.{LaneOf}
use Rattle.rtp_demux.specs.declared.lanes.LaneOf.TheVariants as lane
use Rattle.rtp_demux.specs.declared.types.PtRoute.{PtRoute}
use Rattle.rtp_demux.specs.declared.types.PtRoute.TheVariants as pt
use Rattle.rtp_demux.specs.Lanes.{sight, lane_for, found_from}
use Rattle.timeline.specs.declared.line.Word.{Word}
use Rattle.timeline.specs.Words.{rtcp_word}
use Rattle.script_lang.specs.Contents.{Contents, IsScript}
use Rattle.script_lang.specs.Entries.{session_fits}
use Rattle.script_lang.specs.Settings.{is_within}
use Rattle.script_lang.specs.declared.script.SessionLine.{SessionLine}
use Rattle.front_model.specs.declared.Step.{Step}
use Rattle.front_model.specs.declared.Step.TheVariants as step
use Rattle.front_model.specs.Events.{FrontEvent, Came, ReportsDue, Requested}
use Rattle.front_model.specs.Given.{Rtp, Rtcp}
use Rattle.front_model.specs.Notes.{Note, Holds, Drops, Releases, NewName, Synced, Stray, Left, Gone, Says}
use Rattle.front_model.specs.Records.{Holding, Nothing, BadPacket, BadCompound, Packet, Compound, is_rtcp, is_to, packet_in, compound_in, payload_in, datagram_in, record_in, holding}
use Rattle.front_model.specs.Moves.{Move, Released, move_of, session_notes, moves_in, moves_of, moves}
use Rattle.front_model.specs.Types.{rate, is_rtx}
use Rattle.front_model.specs.Lanes.{route, lanes}
use Rattle.front_model.specs.Fates.{Fate, Dropped, Goes, fate}
use Rattle.front_model.specs.Laws.{StayAfter}
use Rattle.front_model.specs.Steps.{route_steps, lane_steps, stream_steps, way_steps, fate_steps, release_steps, sync_steps, note_steps, notes_steps, bad_steps, record_steps, steps, all_steps}
use Rattle.replay_sound.specs.Suited.{OnlyTell}

-- ---- the session of what a record holds

within : (least most n : ℕ) → is_within least most n ≡ true → n ≤ most
within least most n h = leb-true n most (and_parts (nat_le least n) (nat_le n most) h).1

-- what is found passes each test that all pass
found_passes : {A : Type 0} (test passes : A → Bool) (xs : List A) (x : A) → list_all passes xs ≡ true → find test xs ≡ Some x → passes x ≡ true
found_passes test passes [] x all e = absurd cc
found_passes test passes (y ∷ ys) x all e =
    let both = and_parts (passes y) (list_all passes ys) all in
    by (test y) both.0 (λ rest. found_passes test passes ys x both.1 rest) e
  where
    by : (b : Bool) → passes y ≡ true → (find test ys ≡ Some x → passes x ≡ true) → cond b (Some y) (find test ys) ≡ Some x → passes x ≡ true
    by true here rest e = let same : y ≡ x = cc in ap passes (sym same) ∙ here
    by false here rest e = rest e

abbrev IsOfSession : Holding → Type 0
IsOfSession (Nothing why) = Unit {0}
IsOfSession (BadPacket session fault) = Unit {0}
IsOfSession (BadCompound session fault) = Unit {0}
IsOfSession (Packet session from p) = session < 8
IsOfSession (Compound session packets) = session < 8

line_session : (l : SessionLine) → session_fits l ≡ true → l.session < 8
line_session l h =
    let parts = and_parts (is_within 0 7 l.session && is_within 1 65535 l.rtp) (is_within 1 65535 l.rtcp) h in
    let first = and_parts (is_within 0 7 l.session) (is_within 1 65535 l.rtp) parts.0 in
    omega (arith, within 0 7 l.session first.0)

packet_session : (session : ℕ) (from : Address) (payload : List ℕ) (o : Option RtpFault) → session < 8 → IsOfSession (packet_in session from payload o)
packet_session session from payload None lt = lt
packet_session session from payload (Some fault) lt = tt

compound_session : (session : ℕ) (r : Result (List RtcpPacket) RtcpFault) → session < 8 → IsOfSession (compound_in session r)
compound_session session (Ok packets) lt = lt
compound_session session (Err fault) lt = tt

payload_session : (l : SessionLine) (sent : Sent) → l.session < 8 → IsOfSession (payload_in l sent)
payload_session l sent lt =
    elim (is_rtcp l sent) as (λ b. IsOfSession (if b then compound_in l.session (compound_of sent.payload) else packet_in l.session sent.from sent.payload (first_fault sent.payload))) [
      | true ↦ compound_session l.session (compound_of sent.payload) lt
      | false ↦ packet_session l.session sent.from sent.payload (first_fault sent.payload) lt
    ]

datagram_session : (ls : List SessionLine) (o : Option SessionLine) (sent : Sent) → ((l : SessionLine) → o ≡ Some l → l.session < 8) → IsOfSession (datagram_in o sent)
datagram_session ls None sent small = tt
datagram_session ls (Some l) sent small = payload_session l sent (small l refl)

record_session : (ls : List SessionLine) (r : Result Sent Skip) → list_all session_fits ls ≡ true → IsOfSession (record_in ls r)
record_session ls (Err why) all = tt
record_session ls (Ok sent) all =
    datagram_session ls (find (is_to sent.to.port) ls) sent (λ l e. line_session l (found_passes (is_to sent.to.port) session_fits ls l all e))

session_is : (c : Contents) (r : Record) → IsScript c → IsOfSession (holding c.sessions r)
session_is c r script = record_session c.sessions (datagram_of r) script.sessions_fit

-- ---- who sends what

-- a stream of the session has this lane after these moves
pub record HasLane (c : Contents) (older : List Move) (session l : ℕ) : Type 0 where
  pub ssrc : ℕ
  pub rate : ℕ
  pub found : found_from 0 (session, ssrc) (lanes c older) ≡ Some (l, rate)

-- Packets are of sessions, and reports of sessions that have the lane.
abbrev pub IsSent : Contents → List Move → Step → Type 0
IsSent c older (step.Tell line) = Unit {0}
IsSent c older (step.Open o) = Unit {0}
IsSent c older (step.Push l a) = a.pusher < 8
IsSent c older (step.Sync l r) = (r.pusher < 8) × HasLane c older r.pusher l

abbrev pub AreSent : Contents → List Move → List Step → Type 0
AreSent c older [] = Unit {0}
AreSent c older (x ∷ xs) = IsSent c older x × AreSent c older xs

both_sent : (c : Contents) (older : List Move) (xs ys : List Step) → AreSent c older xs → AreSent c older ys → AreSent c older (xs ++ ys)
both_sent c older [] ys f g = g
both_sent c older (x ∷ xs) ys f g = (f.0, both_sent c older xs ys f.1 g)

-- and so it is after more moves
one_later : StayAfter → (c : Contents) (newer older : List Move) (x : Step) → IsSent c older x → IsSent c (newer ++ older) x
one_later stay c newer older (step.Tell line) h = tt
one_later stay c newer older (step.Open o) h = tt
one_later stay c newer older (step.Push l a) h = h
one_later stay c newer older (step.Sync l r) h =
    (h.0, record { ssrc = h.1.ssrc; rate = h.1.rate; found = stay c newer older (r.pusher, h.1.ssrc) (l, h.1.rate) h.1.found })

all_later : StayAfter → (c : Contents) (newer older : List Move) (xs : List Step) → AreSent c older xs → AreSent c (newer ++ older) xs
all_later stay c newer older [] h = tt
all_later stay c newer older (x ∷ xs) h = (one_later stay c newer older x h.0, all_later stay c newer older xs h.1)

-- ---- a packet that a session released

module _ (c : Contents) (ms : List Move) where
  route_sent : (time session p : ℕ) (r : PtRoute) → AreSent c ms (route_steps time session p r)
  route_sent time session p (pt.First rate) = (tt, tt)
  route_sent time session p (pt.Known rate) = tt
  route_sent time session p pt.Unmapped = tt

  lane_sent : (time session ssrc rate : ℕ) (l : LaneOf) → AreSent c ms (lane_steps c time session ssrc rate l)
  lane_sent time session ssrc rate (lane.New n) = (tt, (tt, tt))
  lane_sent time session ssrc rate (lane.Known n) = tt
  lane_sent time session ssrc rate (lane.Rate n kept) = tt
  lane_sent time session ssrc rate lane.Full = tt

  stream_sent : (time : ℕ) (older : List Move) (session : ℕ) (p : View) (r : Option ℕ) → AreSent c ms (stream_steps c time older session p r)
  stream_sent time older session p None = tt
  stream_sent time older session p (Some rate) = lane_sent time session p.ssrc rate (lane_for (lanes c older) (sight session p.ssrc rate))

  fate_sent : (time : ℕ) (older : List Move) (session stamp : ℕ) (p : View) (f : Fate) → session < 8 → AreSent c ms (fate_steps c time older session stamp p f)
  fate_sent time older session stamp p (Dropped why) lt = (tt, tt)
  fate_sent time older session stamp p (Goes l kind q) lt = (lt, tt)

  way_sent : (time : ℕ) (older : List Move) (session : ℕ) (p : View) → AreSent c ms (way_steps c time older session p)
  way_sent time older session p = by (is_rtx c session p.pt)
    where
      by : (b : Bool)
          → AreSent c ms (if b then [] else route_steps time session p.pt (route c session older p.pt) ++ stream_steps c time older session p (rate c session p.pt))
      by true = tt
      by false =
          both_sent c ms (route_steps time session p.pt (route c session older p.pt)) (stream_steps c time older session p (rate c session p.pt))
          (route_sent time session p.pt (route c session older p.pt))
          (stream_sent time older session p (rate c session p.pt))

  release_sent : (time : ℕ) (older : List Move) (session stamp : ℕ) (p : View) → session < 8 → AreSent c ms (release_steps c time older session stamp p)
  release_sent time older session stamp p lt =
      both_sent c ms (way_steps c time older session p) (fate_steps c time older session stamp p (fate c older session p))
      (way_sent time older session p)
      (fate_sent time older session stamp p (fate c older session p) lt)

-- ---- what a session tells

sync_sent : (c : Contents) (older : List Move) (session ssrc ntp rtp : ℕ) (f : Option (ℕ × ℕ)) → session < 8 → found_from 0 (session, ssrc) (lanes c older) ≡ f
    → AreSent c older (sync_steps c older session ntp rtp (option_map (λ e. e.0) f))
sync_sent c older session ssrc ntp rtp None lt found = tt
sync_sent c older session ssrc ntp rtp (Some e) lt found = ((lt, record { ssrc = ssrc; rate = e.1; found = found }), tt)

note_sent : (c : Contents) (time : ℕ) (older : List Move) (session : ℕ) (n : Note) → session < 8 → AreSent c older (note_steps c time older session n)
note_sent c time older session (Holds k) lt = (tt, tt)
note_sent c time older session (Drops k why) lt = (tt, tt)
note_sent c time older session (Releases k) lt = release_sent c older time older session k.stamp k.packet lt
note_sent c time older session (NewName ssrc name) lt = (tt, tt)
note_sent c time older session (Synced ssrc ntp rtp) lt = (tt, sync_sent c older session ssrc ntp rtp (found_from 0 (session, ssrc) (lanes c older)) lt refl)
note_sent c time older session (Stray ssrc) lt = (tt, tt)
note_sent c time older session (Left ssrc) lt = (tt, tt)
note_sent c time older session (Gone ssrc) lt = (tt, tt)
note_sent c time older session (Says bytes) lt = (tt, tt)

-- one move after the other, or all at once
moved : (o : Option Move) (ms older : List Move) → reverse ms ++ (option_to_list o ++ older) ≡ reverse (cons_option o ms) ++ older
moved None ms older = refl
moved (Some m) ms older =
    sym (append_assoc (reverse ms) (m ∷ []) older) ∙ ap (λ (l : List Move). l ++ older) (sym (reverse-append (m ∷ []) ms))

notes_sent : StayAfter → (c : Contents) (time : ℕ) (older : List Move) (session : ℕ) (ns : List Note) → session < 8
    → AreSent c (reverse (filter_map (move_of session) ns) ++ older) (notes_steps c time older session ns)
notes_sent stay c time older session [] lt = tt
notes_sent stay c time older session (n ∷ more) lt =
    let next : List Move = option_to_list (move_of session n) ++ older in
    let newer : List Move = reverse (filter_map (move_of session) (n ∷ more)) in
    both_sent c (newer ++ older) (note_steps c time older session n) (notes_steps c time next session more)
    (all_later stay c newer older (note_steps c time older session n) (note_sent c time older session n lt))
    (subst (λ (ms : List Move). AreSent c ms (notes_steps c time next session more))
    (moved (move_of session n) (filter_map (move_of session) more) older)
    (notes_sent stay c time next session more lt))

-- ---- all steps

told_sent : (c : Contents) (ms : List Move) (xs : List Step) → OnlyTell xs → AreSent c ms xs
told_sent c ms [] h = tt
told_sent c ms (step.Tell line ∷ xs) h = (tt, told_sent c ms xs h)
told_sent c ms (step.Open o ∷ xs) h = absurd h
told_sent c ms (step.Push l a ∷ xs) h = absurd h
told_sent c ms (step.Sync l r ∷ xs) h = absurd h

bad_sent : (c : Contents) (ms : List Move) (time session : ℕ) (o : Option (Word × ℕ)) → AreSent c ms (bad_steps time session o)
bad_sent c ms time session None = tt
bad_sent c ms time session (Some bad) = (tt, tt)

record_sent : StayAfter → (c : Contents) (time : ℕ) (older : List FrontEvent) (h : Holding) → IsOfSession h
    → AreSent c (reverse (moves_in c older time h) ++ moves c older) (record_steps c time older h)
record_sent stay c time older (Nothing why) is = (tt, tt)
record_sent stay c time older (BadPacket session fault) is = (tt, tt)
record_sent stay c time older (BadCompound session fault) is = bad_sent c (moves c older) time session (rtcp_word fault)
record_sent stay c time older (Packet session from p) is =
    notes_sent stay c time (moves c older) session (session_notes c older session (Rtp time from p (rate c session p.pt))) is
record_sent stay c time older (Compound session packets) is =
    notes_sent stay c time (moves c older) session (session_notes c older session (Rtcp time packets)) is

-- the laws that this stands on
pub record SendLaws : Type 0 where
  pub stay : StayAfter
  pub tell : (c : Contents) (older : List FrontEvent) (time : ℕ) → OnlyTell (steps c older (ReportsDue time))

pub event_sent : SendLaws → (c : Contents) → IsScript c → (older : List FrontEvent) (e : FrontEvent) → AreSent c (moves c (e ∷ older)) (steps c older e)
event_sent laws c script older (Came time r) = record_sent laws.stay c time older (holding c.sessions r) (session_is c r script)
event_sent laws c script older (ReportsDue time) = told_sent c (moves c older) (steps c older (ReportsDue time)) (laws.tell c older time)
event_sent laws c script older (Requested r) = tt

pub all_sent : SendLaws → (c : Contents) → IsScript c → (events : List FrontEvent) → AreSent c (moves c events) (all_steps c events)
all_sent laws c script [] = tt
all_sent laws c script (e ∷ older) =
    both_sent c (moves c (e ∷ older)) (all_steps c older) (steps c older e)
    (all_later laws.stay c (reverse (moves_of c older e)) (moves c older) (all_steps c older) (all_sent laws c script older))
    (event_sent laws c script older e)

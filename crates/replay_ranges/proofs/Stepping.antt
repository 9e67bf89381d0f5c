-- The steps of a front are in their ranges, and few of them give packets.
use Rattle.std.proofs.Common.{ℕ, ◌≡◌, ◌+◌, ◌*◌, ◌≤◌, ◌<◌, ◌^◌, Bool, true, false, cond, refl, sym, ap, subst, ◌∙◌, List, [], ◌∷◌, ◌++◌, Option, None, Some, length, arith}
use Rattle.std.specs.Prelude.{if◌then◌else◌, ◌&&◌, reverse, filter, filter_map, flat_map, option_to_list}
use Rattle.std.specs.List.{AllByRecursion, list_all, cons_option}
use Rattle.std.proofs.lemmas.Bool.{and_parts}
use Rattle.std.proofs.lemmas.List.{append_assoc, reverse-append}
use Rattle.rtp_wire.specs.Packet.{Packet as View}
use Rattle.rtp_demux.specs.declared.lanes.LaneOf.{LaneOf}
use Rattle.rtp_demux.specs.declared.lanes.LaneOf.TheVariants as lane
use Rattle.rtp_demux.specs.declared.types.PtRoute.{PtRoute}
use Rattle.rtp_demux.specs.declared.types.PtRoute.TheVariants as pt
use Rattle.rtp_demux.specs.Lanes.{sight, lane_of, lane_for}
use Rattle.timeline.specs.Words.{rtcp_word}
use Rattle.timeline.specs.declared.line.Word.{Word}
use Rattle.script_lang.specs.Contents.{Contents, IsScript}
use Rattle.script_lang.specs.Entries.{session_fits, rtx_fits}
use Rattle.script_lang.specs.Facts.{session_numbers}
use Rattle.script_lang.specs.declared.setting.ScriptSettings.{ScriptSettings}
use Rattle.script_lang.specs.Settings.{is_within, is_time_within}
use Rattle.script_lang.specs.Tests.{is_declared}
use Rattle.front_model.specs.declared.Step.{Step}
use Rattle.front_model.specs.Events.{FrontEvent, Came, ReportsDue, Requested, records}
use Rattle.front_model.specs.Given.{Given, Rtp, Rtcp, Report}
use Rattle.front_model.specs.Notes.{Note, Holds, Drops, Releases, NewName, Synced, Stray, Left, Gone, Says}
use Rattle.front_model.specs.Records.{Holding, Nothing, BadPacket, BadCompound, Packet, Compound, holding}
use Rattle.front_model.specs.Sessions.{sessions, setting, given as given_to}
use Rattle.front_model.specs.Moves.{Move, move_of, session_notes, moves_in, moves}
use Rattle.front_model.specs.Types.{rate, is_rtx}
use Rattle.front_model.specs.Lanes.{route, lanes}
use Rattle.front_model.specs.Fates.{Fate, Dropped, Goes, Way, is_way, way_to, way_of, ways, fate, count}
use Rattle.front_model.specs.Steps.{route_steps, lane_steps, stream_steps, way_steps, fate_steps, sync_steps, note_steps, notes_steps, session_steps, bad_steps, record_steps, report_time_steps, steps, all_steps}
use Rattle.replay_model.specs.Fitting.{AreComing, given}
use Rattle.replay_ranges.specs.Ranges.{AreRanged}
use Rattle.replay_ranges.proofs.Lists.{each_filter, total}
use Rattle.replay_ranges.proofs.Views.{IsHolding, within, holding_held}
use Rattle.replay_ranges.proofs.Waiting.{FewWait}
use Rattle.replay_ranges.proofs.Notes.{IsNote, IsGiven, notes_each, given_each, weight, most, notes_few, no_packets, few_reports}
use Rattle.replay_ranges.proofs.Fates.{IsFate, fated}

-- ---- of a script

pub record Fits (c : Contents) : Type 0 where
  pub sessions : list_all session_fits c.sessions ≡ true
  pub rtx : list_all rtx_fits c.rtx ≡ true
  pub probation : c.settings.probation ≤ 16
  pub wait : FewWait

rest : (a b : Bool) → (a && b) ≡ true → b ≡ true
rest a b h = (and_parts a b h).1

pub script_fits : (c : Contents) → FewWait → IsScript c → Fits c
script_fits c wait h =
    let s : ScriptSettings = c.settings in
    let own : is_within 0 16 c.settings.probation ≡ true =
    (and_parts _ _
    (rest (is_within 0 1000 s.misorder) _
    (rest (is_within 1 30000 s.dropout) _
    (rest (is_within 0 100 s.reorder) _
    (rest (is_within 0 255 s.rtx_max) _
    (rest (is_time_within 1 60000 s.rtx_retry) _
    (rest (is_time_within 0 60000 s.rtx_delay) _
    (rest (is_time_within 0 600000 s.latency) _ h.settings_fit)))))))).0 in
    record { sessions = h.sessions_fit; rtx = h.rtx_fit; probation = (within 0 16 c.settings.probation own).1; wait = wait }

-- ---- how often a pusher gave a lane something

one_more : (b : Bool) (x : Way) (l : List Way) (n : ℕ) → length l ≤ n → length (cond b (x ∷ l) l) ≤ n + 1
one_more true x l n le = omega (arith, le)
one_more false x l n le = omega (arith, le)

filter_more : (test : Way → Bool) (xs ys : List Way) → length (filter test (xs ++ ys)) ≤ length (filter test ys) + length xs
filter_more test [] ys = omega arith
filter_more test (x ∷ xs) ys =
    omega (arith, one_more (test x) x (filter test (xs ++ ys)) (length (filter test ys) + length xs) (filter_more test xs ys))

way_short : (session : ℕ) (f : Fate) → length (way_of session f) ≤ 1
way_short session (Dropped why) = omega arith
way_short session (Goes lane kind p) = omega arith

to_short : (session : ℕ) (o : Option ℕ) → length (way_to session o) ≤ 1
to_short session None = omega arith
to_short session (Some lane) = omega arith

note_counts : (c : Contents) (older : List Move) (way : Way) (session : ℕ) (n : Note) → count c (option_to_list (move_of session n) ++ older) way ≤ count c older way + weight 1 n
note_counts c older way session (Releases k) =
    omega (arith, filter_more (is_way way) (way_of session (fate c older session k.packet)) (ways c older), way_short session (fate c older session k.packet))
note_counts c older way session (Synced ssrc ntp rtp) =
    omega (arith, filter_more (is_way way) (way_to session (lane_of (lanes c older) (session, ssrc))) (ways c older), to_short session (lane_of (lanes c older) (session, ssrc)))
note_counts c older way session (Holds k) = omega arith
note_counts c older way session (Drops k why) = omega arith
note_counts c older way session (NewName ssrc name) = omega arith
note_counts c older way session (Stray ssrc) = omega arith
note_counts c older way session (Left ssrc) = omega arith
note_counts c older way session (Gone ssrc) = omega arith
note_counts c older way session (Says bytes) = omega arith

-- the moves of a session, one after the other
moved : (o : Option Move) (ms older : List Move) → reverse ms ++ (option_to_list o ++ older) ≡ reverse (cons_option o ms) ++ older
moved None ms older = refl
moved (Some m) ms older = sym (append_assoc (reverse ms) (m ∷ []) older) ∙ ap (λ (l : List Move). l ++ older) (sym (reverse-append (m ∷ []) ms))

notes_counts : (c : Contents) (older : List Move) (way : Way) (session : ℕ) (ns : List Note) → count c (reverse (filter_map (move_of session) ns) ++ older) way ≤ count c older way + total (weight 1) ns
notes_counts c older way session [] = omega arith
notes_counts c older way session (n ∷ more) =
    let next : List Move = option_to_list (move_of session n) ++ older in
    let rest : count c (reverse (filter_map (move_of session) more) ++ next) way ≤ count c next way + total (weight 1) more = notes_counts c next way session more in
    let all : count c (reverse (filter_map (move_of session) more) ++ next) way ≤ count c older way + total (weight 1) (n ∷ more) = omega (arith, rest, note_counts c older way session n) in
    subst (λ (ms : List Move). count c ms way ≤ count c older way + total (weight 1) (n ∷ more)) (moved (move_of session n) (filter_map (move_of session) more) older) all

holding_counts : (c : Contents) (older : List FrontEvent) (time : ℕ) (x : Holding) (way : Way) → Fits c → IsHolding x → count c (reverse (moves_in c older time x) ++ moves c older) way ≤ count c (moves c older) way + 9216
holding_counts c older time (Packet session from p) way fits h =
    let g : Given = Rtp time from p (rate c session p.pt) in
    omega (arith, notes_counts c (moves c older) way session (session_notes c older session g), notes_few 1 (setting c session) (given_to c session older) g fits.wait fits.probation)
holding_counts c older time (Compound session packets) way fits h =
    let g : Given = Rtcp time packets in
    omega (
      arith,
      notes_counts c (moves c older) way session (session_notes c older session g),
      notes_few 1 (setting c session) (given_to c session older) g fits.wait fits.probation,
      few_reports packets,
      h.1,
    )
holding_counts c older time (Nothing why) way fits h = omega arith
holding_counts c older time (BadPacket session fault) way fits h = omega arith
holding_counts c older time (BadCompound session fault) way fits h = omega arith

few_counts : (c : Contents) (events : List FrontEvent) (way : Way) → Fits c → AreComing events → count c (moves c events) way ≤ 9216 * records events
few_counts c [] way fits h = omega arith
few_counts c (Came time r ∷ older) way fits h =
    omega (arith, holding_counts c older time (holding c.sessions r) way fits (holding_held c.sessions r fits.sessions h.0.bytes).fact, few_counts c older way fits h.1)
few_counts c (ReportsDue time ∷ older) way fits h = few_counts c older way fits h.1
few_counts c (Requested r ∷ older) way fits h = few_counts c older way fits h.1

-- ---- steps in their ranges

ranged_append : (xs ys : List Step) → AreRanged xs → AreRanged ys → AreRanged (xs ++ ys)
ranged_append [] ys h k = k
ranged_append (x ∷ xs) ys h k = (h.0, ranged_append xs ys h.1 k)

ranged_if : (b : Bool) (xs ys : List Step) → AreRanged xs → AreRanged ys → AreRanged (if b then xs else ys)
ranged_if true xs ys h k = h
ranged_if false xs ys h k = k

route_ranged : (time session p : ℕ) (r : PtRoute) → AreRanged (route_steps time session p r)
route_ranged time session p (pt.First rate) = (tt, tt)
route_ranged time session p (pt.Known rate) = tt
route_ranged time session p pt.Unmapped = tt

lane_ranged : (c : Contents) (time session ssrc rate : ℕ) (l : LaneOf) → AreRanged (lane_steps c time session ssrc rate l)
lane_ranged c time session ssrc rate (lane.New n) = (tt, (tt, tt))
lane_ranged c time session ssrc rate (lane.Known n) = tt
lane_ranged c time session ssrc rate (lane.Rate n kept) = tt
lane_ranged c time session ssrc rate lane.Full = tt

stream_ranged : (c : Contents) (time : ℕ) (older : List Move) (session : ℕ) (p : View) (o : Option ℕ) → AreRanged (stream_steps c time older session p o)
stream_ranged c time older session p None = tt
stream_ranged c time older session p (Some rate) = lane_ranged c time session p.ssrc rate (lane_for (lanes c older) (sight session p.ssrc rate))

way_ranged : (c : Contents) (time : ℕ) (older : List Move) (session : ℕ) (p : View) → AreRanged (way_steps c time older session p)
way_ranged c time older session p =
    ranged_if (is_rtx c session p.pt) [] (route_steps time session p.pt (route c session older p.pt) ++ stream_steps c time older session p (rate c session p.pt)) tt
    (ranged_append (route_steps time session p.pt (route c session older p.pt)) (stream_steps c time older session p (rate c session p.pt))
    (route_ranged time session p.pt (route c session older p.pt)) (stream_ranged c time older session p (rate c session p.pt)))

fate_ranged : (c : Contents) (time : ℕ) (older : List Move) (session stamp : ℕ) (p : View) (f : Fate) → session < 8 → stamp < 2 ^ 63 → ((way : Way) → count c older way < 2 ^ 64) → IsFate f
    → AreRanged (fate_steps c time older session stamp p f)
fate_ranged c time older session stamp p (Dropped why) small early few h = (tt, tt)
fate_ranged c time older session stamp p (Goes lane kind q) small early few h =
    (record { pusher = omega (arith, small); k = few (session, lane); stamp = early; seq = h.0; rtp = h.1; pt = h.2; payload = h.3 }, tt)

sync_ranged : (c : Contents) (older : List Move) (session ntp rtp : ℕ) (o : Option ℕ) → ntp < 2 ^ 63 → rtp < 2 ^ 32 → AreRanged (sync_steps c older session ntp rtp o)
sync_ranged c older session ntp rtp None n r = tt
sync_ranged c older session ntp rtp (Some lane) n r = ((n, r), tt)

note_ranged : (c : Contents) (time : ℕ) (older : List Move) (session : ℕ) (n : Note) → Fits c → session < 8 → ((way : Way) → count c older way < 2 ^ 64) → IsNote n
    → AreRanged (note_steps c time older session n)
note_ranged c time older session (Releases k) fits small few h =
    ranged_append (way_steps c time older session k.packet) (fate_steps c time older session k.stamp k.packet (fate c older session k.packet))
    (way_ranged c time older session k.packet)
    (fate_ranged c time older session k.stamp k.packet (fate c older session k.packet) small h.stamp few (fated c older session k.packet fits.rtx h.packet).fact)
note_ranged c time older session (Synced ssrc ntp rtp) fits small few h = (tt, sync_ranged c older session ntp rtp (lane_of (lanes c older) (session, ssrc)) h.0 h.1)
note_ranged c time older session (Holds k) fits small few h = (tt, tt)
note_ranged c time older session (Drops k why) fits small few h = (tt, tt)
note_ranged c time older session (NewName ssrc name) fits small few h = (tt, tt)
note_ranged c time older session (Stray ssrc) fits small few h = (tt, tt)
note_ranged c time older session (Left ssrc) fits small few h = (tt, tt)
note_ranged c time older session (Gone ssrc) fits small few h = (tt, tt)
note_ranged c time older session (Says bytes) fits small few h = (tt, tt)

notes_ranged : (c : Contents) (time m : ℕ) (older : List Move) (session : ℕ) (ns : List Note) → Fits c → session < 8 → ((way : Way) → count c older way ≤ m) → m + total (weight 1) ns < 2 ^ 64
    → AllByRecursion IsNote ns → AreRanged (notes_steps c time older session ns)
notes_ranged c time m older session [] fits small few lt h = tt
notes_ranged c time m older session (n ∷ more) fits small few lt h =
    let next : List Move = option_to_list (move_of session n) ++ older in
    ranged_append (note_steps c time older session n) (notes_steps c time next session more)
    (note_ranged c time older session n fits small (λ way. omega (arith, few way, lt)) h.0)
    (notes_ranged c time (m + weight 1 n) next session more fits small (λ way. omega (arith, note_counts c older way session n, few way)) (omega (arith, lt)) h.1)

session_ranged : (c : Contents) (time : ℕ) (older : List FrontEvent) (session : ℕ) (g : Given) → Fits c → session < 8 → AreComing older → records older ≤ 100000000 → most 1 g ≤ 9216 → IsGiven g
    → AreRanged (session_steps c time older session g)
session_ranged c time older session g fits small coming few le h =
    notes_ranged c time (9216 * records older) (moves c older) session (session_notes c older session g) fits small (λ way. few_counts c older way fits coming)
    (omega (arith, notes_few 1 (setting c session) (given_to c session older) g fits.wait fits.probation, le, few))
    (notes_each (setting c session) (given_to c session older) g (given_each c session older fits.sessions coming) h)

bad_ranged : (time session : ℕ) (o : Option (Word × ℕ)) → AreRanged (bad_steps time session o)
bad_ranged time session None = tt
bad_ranged time session (Some bad) = (tt, tt)

record_ranged : (c : Contents) (time : ℕ) (older : List FrontEvent) (x : Holding) → Fits c → AreComing older → records older ≤ 100000000 → time < 2 ^ 63 → IsHolding x → AreRanged (record_steps c time older x)
record_ranged c time older (Nothing why) fits coming few early h = (tt, tt)
record_ranged c time older (BadPacket session fault) fits coming few early h = (tt, tt)
record_ranged c time older (BadCompound session fault) fits coming few early h = bad_ranged time session (rtcp_word fault)
record_ranged c time older (Packet session from p) fits coming few early h =
    session_ranged c time older session (Rtp time from p (rate c session p.pt)) fits h.0 coming few (omega arith) (early, h.1)
record_ranged c time older (Compound session packets) fits coming few early h =
    session_ranged c time older session (Rtcp time packets) fits h.0 coming few (omega (arith, few_reports packets, h.1)) h.2

due_ranged : (c : Contents) (time : ℕ) (older : List FrontEvent) (ss : List ℕ) → Fits c → AreComing older → records older ≤ 100000000 → AllByRecursion (λ s. s < 8) ss
    → AreRanged (flat_map (report_time_steps c time older) ss)
due_ranged c time older [] fits coming few h = tt
due_ranged c time older (s ∷ ss) fits coming few h =
    ranged_append (report_time_steps c time older s) (flat_map (report_time_steps c time older) ss)
    (session_ranged c time older s (Report time c.settings.timeout) fits h.0 coming few (omega arith) tt) (due_ranged c time older ss fits coming few h.1)

small_sessions : (c : Contents) → AllByRecursion (λ s. s < 8) (sessions c)
small_sessions c =
    each_filter (λ s. s < 8) (is_declared c.sessions) session_numbers
    (omega arith, (omega arith, (omega arith, (omega arith, (omega arith, (omega arith, (omega arith, (omega arith, tt))))))))

event_ranged : (c : Contents) (older : List FrontEvent) (e : FrontEvent) → Fits c → AreComing (e ∷ older) → records (e ∷ older) ≤ 100000000 → AreRanged (steps c older e)
event_ranged c older (Came time r) fits h few = record_ranged c time older (holding c.sessions r) fits h.1 (omega (arith, few)) h.0.early (holding_held c.sessions r fits.sessions h.0.bytes).fact
event_ranged c older (ReportsDue time) fits h few = due_ranged c time older (sessions c) fits h.1 few (small_sessions c)
event_ranged c older (Requested r) fits h few = tt

pub stay_in_range : FewWait → (c : Contents) (older : List FrontEvent) (e : FrontEvent) → IsScript c → AreComing (e ∷ older) → records (e ∷ older) ≤ 100000000 → AreRanged (steps c older e)
stay_in_range wait c older e script h few = event_ranged c older e (script_fits c wait script) h few

-- ---- how many packets are given

given_append : (xs ys : List Step) → given (xs ++ ys) ≡ given xs + given ys
given_append [] ys = omega arith
given_append (x ∷ xs) ys = omega (arith, given_append xs ys)

given_if : (b : Bool) (xs : List Step) → given xs ≡ 0 → given (if b then [] else xs) ≡ 0
given_if true xs e = refl
given_if false xs e = e

route_given : (time session p : ℕ) (r : PtRoute) → given (route_steps time session p r) ≡ 0
route_given time session p (pt.First rate) = refl
route_given time session p (pt.Known rate) = refl
route_given time session p pt.Unmapped = refl

lane_given : (c : Contents) (time session ssrc rate : ℕ) (l : LaneOf) → given (lane_steps c time session ssrc rate l) ≡ 0
lane_given c time session ssrc rate (lane.New n) = refl
lane_given c time session ssrc rate (lane.Known n) = refl
lane_given c time session ssrc rate (lane.Rate n kept) = refl
lane_given c time session ssrc rate lane.Full = refl

stream_given : (c : Contents) (time : ℕ) (older : List Move) (session : ℕ) (p : View) (o : Option ℕ) → given (stream_steps c time older session p o) ≡ 0
stream_given c time older session p None = refl
stream_given c time older session p (Some rate) = lane_given c time session p.ssrc rate (lane_for (lanes c older) (sight session p.ssrc rate))

way_given : (c : Contents) (time : ℕ) (older : List Move) (session : ℕ) (p : View) → given (way_steps c time older session p) ≡ 0
way_given c time older session p =
    let xs : List Step = route_steps time session p.pt (route c session older p.pt) in
    let ys : List Step = stream_steps c time older session p (rate c session p.pt) in
    given_if (is_rtx c session p.pt) (xs ++ ys)
    (omega (arith, given_append xs ys, route_given time session p.pt (route c session older p.pt), stream_given c time older session p (rate c session p.pt)))

fate_given : (c : Contents) (time : ℕ) (older : List Move) (session stamp : ℕ) (p : View) (f : Fate) → given (fate_steps c time older session stamp p f) ≤ 1
fate_given c time older session stamp p (Dropped why) = omega arith
fate_given c time older session stamp p (Goes lane kind q) = omega arith

sync_given : (c : Contents) (older : List Move) (session ntp rtp : ℕ) (o : Option ℕ) → given (sync_steps c older session ntp rtp o) ≡ 0
sync_given c older session ntp rtp None = refl
sync_given c older session ntp rtp (Some lane) = refl

note_given : (c : Contents) (time : ℕ) (older : List Move) (session : ℕ) (n : Note) → given (note_steps c time older session n) ≤ weight 0 n
note_given c time older session (Releases k) =
    let f : Fate = fate c older session k.packet in
    omega (
      arith,
      given_append (way_steps c time older session k.packet) (fate_steps c time older session k.stamp k.packet f),
      way_given c time older session k.packet,
      fate_given c time older session k.stamp k.packet f,
    )
note_given c time older session (Synced ssrc ntp rtp) = omega (arith, sync_given c older session ntp rtp (lane_of (lanes c older) (session, ssrc)))
note_given c time older session (Holds k) = omega arith
note_given c time older session (Drops k why) = omega arith
note_given c time older session (NewName ssrc name) = omega arith
note_given c time older session (Stray ssrc) = omega arith
note_given c time older session (Left ssrc) = omega arith
note_given c time older session (Gone ssrc) = omega arith
note_given c time older session (Says bytes) = omega arith

notes_given : (c : Contents) (time : ℕ) (older : List Move) (session : ℕ) (ns : List Note) → given (notes_steps c time older session ns) ≤ total (weight 0) ns
notes_given c time older session [] = omega arith
notes_given c time older session (n ∷ more) =
    let next : List Move = option_to_list (move_of session n) ++ older in
    omega (arith, given_append (note_steps c time older session n) (notes_steps c time next session more), note_given c time older session n, notes_given c time next session more)

session_given : (c : Contents) (time : ℕ) (older : List FrontEvent) (session : ℕ) (g : Given) → Fits c → given (session_steps c time older session g) ≤ most 0 g
session_given c time older session g fits =
    omega (arith, notes_given c time (moves c older) session (session_notes c older session g), notes_few 0 (setting c session) (given_to c session older) g fits.wait fits.probation)

bad_given : (time session : ℕ) (o : Option (Word × ℕ)) → given (bad_steps time session o) ≡ 0
bad_given time session None = refl
bad_given time session (Some bad) = refl

record_given : (c : Contents) (time : ℕ) (older : List FrontEvent) (x : Holding) → Fits c → given (record_steps c time older x) ≤ 16
record_given c time older (Nothing why) fits = omega arith
record_given c time older (BadPacket session fault) fits = omega arith
record_given c time older (BadCompound session fault) fits = omega (arith, bad_given time session (rtcp_word fault))
record_given c time older (Packet session from p) fits = session_given c time older session (Rtp time from p (rate c session p.pt)) fits
record_given c time older (Compound session packets) fits = omega (arith, session_given c time older session (Rtcp time packets) fits, no_packets packets)

due_given : (c : Contents) (time : ℕ) (older : List FrontEvent) (ss : List ℕ) → Fits c → given (flat_map (report_time_steps c time older) ss) ≤ 0
due_given c time older [] fits = omega arith
due_given c time older (s ∷ ss) fits =
    omega (
      arith,
      given_append (report_time_steps c time older s) (flat_map (report_time_steps c time older) ss),
      session_given c time older s (Report time c.settings.timeout) fits,
      due_given c time older ss fits,
    )

few_given : (c : Contents) (events : List FrontEvent) → Fits c → given (all_steps c events) ≤ 16 * records events
few_given c [] fits = omega arith
few_given c (Came time r ∷ older) fits =
    omega (arith, given_append (all_steps c older) (steps c older (Came time r)), record_given c time older (holding c.sessions r) fits, few_given c older fits)
few_given c (ReportsDue time ∷ older) fits =
    omega (arith, given_append (all_steps c older) (steps c older (ReportsDue time)), due_given c time older (sessions c) fits, few_given c older fits)
few_given c (Requested r ∷ older) fits = omega (arith, given_append (all_steps c older) (steps c older (Requested r)), few_given c older fits)

pub are_few : FewWait → (c : Contents) (events : List FrontEvent) → IsScript c → AreComing events → given (all_steps c events) ≤ 16 * records events
are_few wait c events script h = few_given c events (script_fits c wait script)

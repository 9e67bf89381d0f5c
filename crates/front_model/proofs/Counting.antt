-- The numbers of what goes to a lane count up.
use Rattle.std.proofs.Common.{ℕ, zero, suc, ◌+◌, ◌≡◌, refl, sym, ap, subst, ◌∙◌, arith, Bool, true, false, List, [], ◌∷◌, ◌++◌, Option, None, Some, eqb-true}
use Rattle.std.specs.Prelude.{if◌then◌else◌, ◌&&◌, nat_eq, filter, filter_map, flat_map, length, map, reverse, option_to_list}
use Rattle.std.specs.List.{range_with_len, cons_option}
use Rattle.std.proofs.lemmas.List.{append_assoc, append-nil, reverse-append}
use Rattle.std.proofs.lemmas.List.Elements.{filter_map-append}
use Rattle.rtp_wire.specs.Packet.{Packet as View}
use Rattle.rtp_demux.specs.declared.lanes.LaneOf.{LaneOf}
use Rattle.rtp_demux.specs.declared.lanes.LaneOf.TheVariants as lane
use Rattle.rtp_demux.specs.declared.types.PtRoute.{PtRoute}
use Rattle.rtp_demux.specs.declared.types.PtRoute.TheVariants as pt
use Rattle.rtp_demux.specs.Lanes.{sight, lane_of, lane_for}
use Rattle.script_lang.specs.Contents.{Contents}
use Rattle.timeline.specs.declared.line.Word.{Word}
use Rattle.timeline.specs.Words.{rtcp_word}
use Rattle.front_model.specs.declared.Step.{Step}
use Rattle.front_model.specs.Events.{FrontEvent, Came, ReportsDue, Requested}
use Rattle.front_model.specs.Given.{Rtp, Rtcp, asks, table}
use Rattle.front_model.specs.Notes.{Note, Holds, Drops, Releases, NewName, Synced, Stray, Left, Gone, Says}
use Rattle.source_table.specs.Table.{gone, expired, blocks}
use Rattle.front_model.specs.Reports.{report_bytes}
use Rattle.front_model.specs.Records.{Holding, Nothing, BadPacket, BadCompound, Packet, Compound, holding}
use Rattle.front_model.specs.Sessions.{setting, given, sessions}
use Rattle.front_model.specs.Moves.{Move, Released, move_of, session_notes, moves_in, moves}
use Rattle.front_model.specs.Types.{rate, is_rtx}
use Rattle.front_model.specs.Lanes.{route, lanes}
use Rattle.front_model.specs.Fates.{Way, is_way, Fate, Dropped, Goes, fate, ways, way_of, way_to, count}
use Rattle.front_model.specs.Steps.{route_steps, lane_steps, stream_steps, way_steps, fate_steps, release_steps, sync_steps, note_steps, notes_steps, bad_steps, record_steps, report_time_steps, steps, all_steps}
use Rattle.front_model.specs.Laws.{number_on, numbers_on}

-- ---- numbers from one count to another

abbrev Counts : ℕ → List ℕ → ℕ → Type 0
Counts a xs b = range_with_len 0 a ++ xs ≡ range_with_len 0 b

none : (a : ℕ) → Counts a [] a
none a = append-nil (range_with_len 0 a)

up_to : (from n last : ℕ) → last ≡ from + n → range_with_len from n ++ last ∷ [] ≡ range_with_len from (suc n)
up_to from zero last e = ap (λ (x : ℕ). x ∷ []) (omega (arith, e))
up_to from (suc n) last e = ap (λ (l : List ℕ). from ∷ l) (up_to (from + 1) n last (omega (arith, e)))

one : (a : ℕ) → Counts a (a ∷ []) (suc a)
one a = up_to 0 a a (omega arith)

then_more : (a b d : ℕ) (xs ys : List ℕ) → Counts a xs b → Counts b ys d → Counts a (xs ++ ys) d
then_more a b d xs ys f g = sym (append_assoc (range_with_len 0 a) xs ys) ∙ ap (λ (l : List ℕ). l ++ ys) f ∙ g

-- ---- a way that one goes

abbrev IsNot : Bool → Type 0
IsNot true = ⊥
IsNot false = Unit {0}

both : (a b : Bool) → (a && b) ≡ true → (a ≡ true) × (b ≡ true)
both true b h = (refl, h)
both false b h = absurd (subst IsNot h tt)

same_way : (a b : Way) → is_way a b ≡ true → a ≡ b
same_way a b h =
    let e = both (nat_eq a.0 b.0) (nat_eq a.1 b.1) h in
    ap (λ (x : ℕ). (x, a.1)) (eqb-true a.0 b.0 e.0) ∙ ap (λ (y : ℕ). (b.0, y)) (eqb-true a.1 b.1 e.1)

-- something goes on a way, with the count of the way as its number
goes_by : (way here : Way) (b : Bool) → is_way way here ≡ b → (at : Way → ℕ) (found : List Way) → at way ≡ length found
    → Counts (length found) (cons_option (if b then Some (at here) else None) []) (length (if b then here ∷ found else found))
goes_by way here true h at found e =
    let k : at here ≡ length found = ap at (sym (same_way way here h)) ∙ e in
    subst (λ (x : ℕ). Counts (length found) (x ∷ []) (suc (length found))) (sym k) (one (length found))
goes_by way here false h at found e = none (length found)

goes : (c : Contents) (older : List Move) (way here : Way)
    → Counts (count c older way) (cons_option (if is_way way here then Some (count c older here) else None) []) (length (filter (is_way way) (here ∷ ways c older)))
goes c older way here = goes_by way here (is_way way here) refl (count c older) (filter (is_way way) (ways c older)) refl

-- ---- the steps of a packet

no_route : (way : Way) (time session p : ℕ) (r : PtRoute) → numbers_on way (route_steps time session p r) ≡ []
no_route way time session p (pt.First rate) = refl
no_route way time session p (pt.Known rate) = refl
no_route way time session p pt.Unmapped = refl

no_lane : (way : Way) (c : Contents) (time session ssrc rate : ℕ) (l : LaneOf) → numbers_on way (lane_steps c time session ssrc rate l) ≡ []
no_lane way c time session ssrc rate (lane.New n) = refl
no_lane way c time session ssrc rate (lane.Known n) = refl
no_lane way c time session ssrc rate (lane.Rate n kept) = refl
no_lane way c time session ssrc rate lane.Full = refl

no_stream : (way : Way) (c : Contents) (time : ℕ) (older : List Move) (session : ℕ) (p : View) (o : Option ℕ) → numbers_on way (stream_steps c time older session p o) ≡ []
no_stream way c time older session p None = refl
no_stream way c time older session p (Some rate) = no_lane way c time session p.ssrc rate (lane_for (lanes c older) (sight session p.ssrc rate))

none_of_both : (way : Way) (xs ys : List Step) → numbers_on way xs ≡ [] → numbers_on way ys ≡ [] → numbers_on way (xs ++ ys) ≡ []
none_of_both way xs ys e f = filter_map-append (number_on way) xs ys ∙ ap (λ (l : List ℕ). l ++ numbers_on way ys) e ∙ f

none_if : (way : Way) (b : Bool) (xs : List Step) → numbers_on way xs ≡ [] → numbers_on way (if b then [] else xs) ≡ []
none_if way true xs e = refl
none_if way false xs e = e

no_way : (way : Way) (c : Contents) (time : ℕ) (older : List Move) (session : ℕ) (p : View) → numbers_on way (way_steps c time older session p) ≡ []
no_way way c time older session p =
    none_if way (is_rtx c session p.pt) _
    (none_of_both way (route_steps time session p.pt (route c session older p.pt)) (stream_steps c time older session p (rate c session p.pt))
    (no_route way time session p.pt (route c session older p.pt)) (no_stream way c time older session p (rate c session p.pt)))

fate_counts : (way : Way) (c : Contents) (time : ℕ) (older : List Move) (session stamp : ℕ) (p : View) (f : Fate)
    → Counts (count c older way) (numbers_on way (fate_steps c time older session stamp p f)) (length (filter (is_way way) (way_of session f ++ ways c older)))
fate_counts way c time older session stamp p (Dropped why) = none (count c older way)
fate_counts way c time older session stamp p (Goes lane kind q) = goes c older way (session, lane)

release_counts : (way : Way) (c : Contents) (time : ℕ) (older : List Move) (session stamp : ℕ) (p : View)
    → Counts (count c older way) (numbers_on way (release_steps c time older session stamp p)) (count c (Released session stamp p ∷ older) way)
release_counts way c time older session stamp p =
    subst (λ (l : List ℕ). Counts (count c older way) l (count c (Released session stamp p ∷ older) way))
    (sym (filter_map-append (number_on way) (way_steps c time older session p) (fate_steps c time older session stamp p (fate c older session p))
    ∙ ap (λ (l : List ℕ). l ++ numbers_on way (fate_steps c time older session stamp p (fate c older session p))) (no_way way c time older session p)))
    (fate_counts way c time older session stamp p (fate c older session p))

-- ---- the steps of a note

sync_counts : (way : Way) (c : Contents) (older : List Move) (session ntp rtp : ℕ) (o : Option ℕ)
    → Counts (count c older way) (numbers_on way (sync_steps c older session ntp rtp o)) (length (filter (is_way way) (way_to session o ++ ways c older)))
sync_counts way c older session ntp rtp None = none (count c older way)
sync_counts way c older session ntp rtp (Some lane) = goes c older way (session, lane)

note_counts : (way : Way) (c : Contents) (time : ℕ) (older : List Move) (session : ℕ) (n : Note)
    → Counts (count c older way) (numbers_on way (note_steps c time older session n)) (count c (option_to_list (move_of session n) ++ older) way)
note_counts way c time older session (Holds k) = none (count c older way)
note_counts way c time older session (Drops k why) = none (count c older way)
note_counts way c time older session (Releases k) = release_counts way c time older session k.stamp k.packet
note_counts way c time older session (NewName ssrc name) = none (count c older way)
note_counts way c time older session (Synced ssrc ntp rtp) = sync_counts way c older session ntp rtp (lane_of (lanes c older) (session, ssrc))
note_counts way c time older session (Stray ssrc) = none (count c older way)
note_counts way c time older session (Left ssrc) = none (count c older way)
note_counts way c time older session (Gone ssrc) = none (count c older way)
note_counts way c time older session (Says bytes) = none (count c older way)

pub moved : (session : ℕ) (o : Option Move) (ms older : List Move) → reverse ms ++ (option_to_list o ++ older) ≡ reverse (cons_option o ms) ++ older
moved session None ms older = refl
moved session (Some m) ms older = sym (append_assoc (reverse ms) (m ∷ []) older) ∙ ap (λ (l : List Move). l ++ older) (sym (reverse-append (m ∷ []) ms))

notes_counts : (way : Way) (c : Contents) (time : ℕ) (older : List Move) (session : ℕ) (ns : List Note)
    → Counts (count c older way) (numbers_on way (notes_steps c time older session ns)) (count c (reverse (filter_map (move_of session) ns) ++ older) way)
notes_counts way c time older session [] = none (count c older way)
notes_counts way c time older session (n ∷ more) =
    subst (λ (l : List ℕ). Counts (count c older way) l (count c (reverse (filter_map (move_of session) (n ∷ more)) ++ older) way))
    (sym (filter_map-append (number_on way) (note_steps c time older session n) (notes_steps c time (option_to_list (move_of session n) ++ older) session more)))
    (then_more (count c older way) (count c (option_to_list (move_of session n) ++ older) way) _ _ _
    (note_counts way c time older session n)
    (subst (λ (ms : List Move). Counts (count c (option_to_list (move_of session n) ++ older) way) (numbers_on way (notes_steps c time (option_to_list (move_of session n) ++ older) session more)) (count c ms way))
    (moved session (move_of session n) (filter_map (move_of session) more) older)
    (notes_counts way c time (option_to_list (move_of session n) ++ older) session more)))

-- ---- report times: nothing goes to a lane

gone_quiet : (way : Way) (c : Contents) (time : ℕ) (older : List Move) (session : ℕ) (ssrcs bytes : List ℕ)
    → numbers_on way (notes_steps c time older session ((map Gone ssrcs ++ Says bytes ∷ []) ++ [])) ≡ []
gone_quiet way c time older session [] bytes = refl
gone_quiet way c time older session (x ∷ xs) bytes = gone_quiet way c time older session xs bytes

due_quiet : (way : Way) (c : Contents) (time : ℕ) (older : List FrontEvent) (ss : List ℕ) → numbers_on way (flat_map (report_time_steps c time older) ss) ≡ []
due_quiet way c time older [] = refl
due_quiet way c time older (s ∷ ss) =
    none_of_both way (report_time_steps c time older s) (flat_map (report_time_steps c time older) ss)
    (gone_quiet way c time (moves c older) s (gone (table (setting c s) (asks (given c s older))) time c.settings.timeout)
    (report_bytes c.settings.ssrc (blocks (expired (table (setting c s) (asks (given c s older))) time c.settings.timeout) time)))
    (due_quiet way c time older ss)

-- ---- all steps

bad_quiet : (way : Way) (time session : ℕ) (o : Option (Word × ℕ)) → numbers_on way (bad_steps time session o) ≡ []
bad_quiet way time session None = refl
bad_quiet way time session (Some bad) = refl

record_counts : (way : Way) (c : Contents) (time : ℕ) (older : List FrontEvent) (h : Holding)
    → Counts (count c (moves c older) way) (numbers_on way (record_steps c time older h)) (count c (reverse (moves_in c older time h) ++ moves c older) way)
record_counts way c time older (Nothing why) = none (count c (moves c older) way)
record_counts way c time older (BadPacket session fault) = none (count c (moves c older) way)
record_counts way c time older (BadCompound session fault) =
    subst (λ (l : List ℕ). Counts (count c (moves c older) way) l (count c (moves c older) way)) (sym (bad_quiet way time session (rtcp_word fault))) (none (count c (moves c older) way))
record_counts way c time older (Packet session from p) = notes_counts way c time (moves c older) session (session_notes c older session (Rtp time from p (rate c session p.pt)))
record_counts way c time older (Compound session packets) = notes_counts way c time (moves c older) session (session_notes c older session (Rtcp time packets))

event_counts : (way : Way) (c : Contents) (older : List FrontEvent) (e : FrontEvent)
    → Counts (count c (moves c older) way) (numbers_on way (steps c older e)) (count c (moves c (e ∷ older)) way)
event_counts way c older (Came time r) = record_counts way c time older (holding c.sessions r)
event_counts way c older (ReportsDue time) =
    subst (λ (l : List ℕ). Counts (count c (moves c older) way) l (count c (moves c older) way)) (sym (due_quiet way c time older (sessions c))) (none (count c (moves c older) way))
event_counts way c older (Requested r) = none (count c (moves c older) way)

pub count_up : (c : Contents) (events : List FrontEvent) (way : Way) → numbers_on way (all_steps c events) ≡ range_with_len 0 (count c (moves c events) way)
count_up c [] way = refl
count_up c (e ∷ older) way =
    filter_map-append (number_on way) (all_steps c older) (steps c older e)
    ∙ ap (λ (l : List ℕ). l ++ numbers_on way (steps c older e)) (count_up c older way)
    ∙ event_counts way c older e

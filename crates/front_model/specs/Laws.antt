-- What the laws of a front speak of.
use Rattle.std.specs.Prelude.{option_map, not, ◌≡◌, ℕ, ◌+◌, nat_eq, nat_lt, if◌then◌else◌, Bool, true, false, List, [], ◌∷◌, ◌++◌, length, filter, filter_map, Option, Some, None, Ok}
use Rattle.rtp_wire.specs.Packet.{Packet as View}
use Rattle.rtp_wire.specs.Network.{number16}
use Rattle.pcap_file.specs.Capture.{Record}
use Rattle.rtx.specs.Restoring.{restored, found}
use Rattle.rtx.specs.Restored.{after_calls}
use Rattle.rtx.specs.declared.receiver.Original.{Original}
use Rattle.source_table.specs.Table.{kept, name_of, gone}
use Rattle.jitter_model.specs.declared.Origin.TheVariants as origin
use Rattle.timeline.specs.declared.line.BinLine.{BinLine}
use Rattle.timeline.specs.declared.line.BinLine.TheVariants as told
use Rattle.timeline.specs.declared.line.Word.{Word}
use Rattle.script_lang.specs.Contents.{Contents}
use Rattle.rtp_demux.specs.Lanes.{Sight, found_from, Stream}
use Rattle.front_model.specs.declared.Opening.{Opening}
use Rattle.front_model.specs.declared.Step.{Step}
use Rattle.front_model.specs.declared.Step.TheVariants.{Tell, Open, Push, Sync}
use Rattle.front_model.specs.Given.{Setting, Ask, Hears, Names, Reports, Leaves, Closes, table}
use Rattle.front_model.specs.Probation.{Kept, kept_at, waiting, is_removed}
use Rattle.front_model.specs.Notes.{Note, Drops, Releases, ask_notes}
use Rattle.front_model.specs.Moves.{Move, moves}
use Rattle.front_model.specs.Plan.{captured}
use Rattle.front_model.specs.Restoring.{calls, original}
use Rattle.front_model.specs.Types.{is_rtx}
use Rattle.front_model.specs.Steps.{opening_settings, release_steps, all_steps}
use Rattle.front_model.specs.Lanes.{lanes}
use Rattle.front_model.specs.Events.{FrontEvent}
use Rattle.source_table.specs.History.{only_if}
use Rattle.source_table.specs.Sources.{is_gone, reported}
use Rattle.std.specs.List.{range_with_len, list_any}
use Rattle.front_model.specs.Fates.{Way, is_way, Fate, Dropped, Goes, packet_from, fate, count}

-- ---- numbers of deliveries

-- the number k of a step on this way, if it goes there
abbrev pub number_on : Way → Step → Option ℕ
number_on way (Tell line) = None
number_on way (Open opening) = None
number_on way (Push lane a) = if is_way way (a.pusher, lane) then Some a.k else None
number_on way (Sync lane r) = if is_way way (r.pusher, lane) then Some r.k else None

abbrev pub numbers_on : Way → List Step → List ℕ
numbers_on way steps = filter_map (number_on way) steps

-- ---- lanes

abbrev pub opened_by : Step → Option Opening
opened_by (Tell line) = None
opened_by (Open opening) = Some opening
opened_by (Push lane a) = None
opened_by (Sync lane r) = None

-- how a lane begins by its stream and its rate
abbrev pub opening : Contents → ℕ → Sight → Opening
opening c n s =
    record { lane = n; session = s.0.0; ssrc = s.0.1; settings = opening_settings c s.0.0 s.1 }

-- how lanes begin, where numbers begin with this one
abbrev pub openings : Contents → ℕ → List Sight → List Opening
openings c n [] = []
openings c n (s ∷ more) = opening c n s ∷ openings c (n + 1) more

-- ---- fates in a session

-- the packets of an SSRC that came
abbrev pub came : ℕ → List Ask → List Kept
came ssrc [] = []
came ssrc (Hears now from view rate ∷ before) =
    if nat_eq ssrc view.ssrc then kept_at now view ∷ came ssrc before else came ssrc before
came ssrc (Names x text ∷ before) = came ssrc before
came ssrc (Reports now x seconds fraction rtp ∷ before) = came ssrc before
came ssrc (Leaves x ∷ before) = came ssrc before
came ssrc (Closes now timeout ∷ before) = came ssrc before

-- the packet that is dropped or given on
abbrev pub ended_by : Note → Option Kept
ended_by (Releases k) = Some k
ended_by (Drops k why) = Some k
ended_by note = None

-- the packets of an SSRC that were given on, dropped with a cause, or went with their source
abbrev pub ended : Setting → ℕ → List Ask → List Kept
ended s ssrc [] = []
ended s ssrc (Hears now from view rate ∷ before) =
    if nat_eq ssrc view.ssrc then filter_map ended_by
    (ask_notes s before (Hears now from view rate))
    ++ ended s ssrc before
    else ended s ssrc before
ended s ssrc (Names x text ∷ before) = ended s ssrc before
ended s ssrc (Reports now x seconds fraction rtp ∷ before) = ended s ssrc before
ended s ssrc (Leaves x ∷ before) = ended s ssrc before
ended s ssrc (Closes now timeout ∷ before) =
    if is_removed (kept (table s before) ssrc) now timeout then waiting s ssrc before
    ++ ended s ssrc before
    else ended s ssrc before

-- how many pass a test
abbrev pub passing : (Kept → Bool) → List Kept → ℕ
passing test ks = length (filter test ks)

-- ---- the fate of a packet that a session released

-- Of the steps of a packet this one says what becomes of it.
abbrev pub is_drop : BinLine → Bool
is_drop (told.Drop time session ssrc seq why) = true
is_drop line = false

abbrev pub is_fate : Step → Bool
is_fate (Tell line) = is_drop line
is_fate (Open opening) = false
is_fate (Push lane a) = true
is_fate (Sync lane r) = false

-- It tells this packet's drop with the cause of its fate, or gives the packet of its fate to the
-- lane of its fate, from its session and with its own stamp.
abbrev pub IsDropOf : BinLine → ℕ → View → Word → Type 0
IsDropOf (told.Drop time of ssrc seq cause) session p why =
    (of ≡ session) × (ssrc ≡ p.ssrc) × (seq ≡ p.seq) × (cause ≡ why)
IsDropOf line session p why = ⊥

abbrev pub IsFateOf : Step → ℕ → ℕ → View → Fate → Type 0
IsFateOf (Tell line) session stamp p (Dropped why) = IsDropOf line session p why
IsFateOf (Push lane a) session stamp p (Goes to kind q) =
    (lane ≡ to) × (a.pusher ≡ session) × (a.stamp ≡ stamp) × (a.origin ≡ kind) × (a.packet ≡ q)
IsFateOf step session stamp p f = ⊥

pub record HasOneFate (steps : List Step) (session stamp : ℕ) (p : View) (f : Fate) : Type 0 where
  pub step : Step
  pub only : filter is_fate steps ≡ step ∷ []
  pub own : IsFateOf step session stamp p f

-- What goes to a lane is the packet itself where it came by itself; a retransmission is what
-- restoring gives, under the number in the first two bytes of its payload.
abbrev pub IsTrueFate : Contents → List Move → ℕ → View → Fate → Type 0
IsTrueFate c older session p (Dropped why) = Unit {0}
IsTrueFate c older session p (Goes lane origin.Original q) =
    (is_rtx c session p.pt ≡ false) × (q ≡ packet_from p)
IsTrueFate c older session p (Goes lane origin.Retransmission q) =
    (is_rtx c session p.pt ≡ true)
    × ((o : Original) × (original c older session p ≡ Ok o) × (q ≡ packet_from (restored o p))
    × (q.seq ≡ number16 p.payload 0))

-- ---- one source among others

-- The call may change what a session tells of this SSRC later: a report time may change all.
abbrev pub concerns : ℕ → Ask → Bool
concerns ssrc (Hears now from view rate) = nat_eq ssrc view.ssrc
concerns ssrc (Names x text) = nat_eq ssrc x
concerns ssrc (Reports now x seconds fraction rtp) = nat_eq ssrc x
concerns ssrc (Leaves x) = nat_eq ssrc x
concerns ssrc (Closes now timeout) = true

-- After either list the source is the same, has the same name, and the same packets of it wait.
pub record IsAlike (s : Setting) (ssrc : ℕ) (here there : List Ask) : Type 0 where
  pub source : kept (table s here) ssrc ≡ kept (table s there) ssrc
  pub name : name_of (table s here) ssrc ≡ name_of (table s there) ssrc
  pub waiting : waiting s ssrc here ≡ waiting s ssrc there

-- the SSRC that a call is about; a report time is about all
abbrev pub subject : Ask → Option ℕ
subject (Hears now from view rate) = Some view.ssrc
subject (Names x text) = Some x
subject (Reports now x seconds fraction rtp) = Some x
subject (Leaves x) = Some x
subject (Closes now timeout) = None

-- whether a new source is taken in
abbrev pub has_room : Setting → List Ask → Bool
has_room s asks = nat_lt (length (table s asks).sources) 64

-- Both take in the source of a packet, or neither does: room matters to a source that is not kept,
-- and to no other call.
abbrev pub IsTakenAlike : Setting → Ask → List Ask → List Ask → Type 0
IsTakenAlike s (Hears now from view rate) here there =
    kept (table s here) view.ssrc ≡ None → has_room s here ≡ has_room s there
IsTakenAlike s ask here there = Unit {0}

-- Where a source, its name and its waiting packets are alike, and so is whether it is taken in, a
-- call about it is told alike, and leaves them alike.
abbrev pub HangsOnItsOwn : Type 0
HangsOnItsOwn =
    (s : Setting) (ssrc : ℕ) (ask : Ask) (here there : List Ask) → subject ask ≡ Some ssrc
    → IsAlike s ssrc here there → IsTakenAlike s ask here there
    → (ask_notes s here ask ≡ ask_notes s there ask) × IsAlike s ssrc (ask ∷ here) (ask ∷ there)

-- A report time leaves of a source what it would leave of it alone.
abbrev pub IsClosedAlone : Type 0
IsClosedAlone =
    (s : Setting) (before : List Ask) (now timeout ssrc : ℕ)
    → kept (table s (Closes now timeout ∷ before)) ssrc
    ≡ option_map reported (only_if (λ x. not (is_gone x now timeout)) (kept (table s before) ssrc))

-- It takes the names of the sources that it removes, and no others.
abbrev pub NamesGoWithSources : Type 0
NamesGoWithSources =
    (s : Setting) (before : List Ask) (now timeout ssrc : ℕ)
    → name_of (table s (Closes now timeout ∷ before)) ssrc
    ≡ (if is_removed (kept (table s before) ssrc) now timeout then None
    else name_of (table s before) ssrc)

-- Where a source, its name and its waiting packets are alike, a report time leaves them alike.
abbrev pub IsClosedAlike : Type 0
IsClosedAlike =
    (s : Setting) (ssrc now timeout : ℕ) (here there : List Ask) → IsAlike s ssrc here there
    → IsAlike s ssrc (Closes now timeout ∷ here) (Closes now timeout ∷ there)

-- The SSRCs that a report time names as removed are those whose sources it removes.
abbrev pub NamesTheRemoved : Type 0
NamesTheRemoved =
    (s : Setting) (before : List Ask) (now timeout ssrc : ℕ)
    → list_any (nat_eq ssrc) (gone (table s before) now timeout)
    ≡ is_removed (kept (table s before) ssrc) now timeout

-- A call on another SSRC leaves the source, its name and its waiting packets as they are.
abbrev pub IsLeftByOthers : Type 0
IsLeftByOthers =
    (s : Setting) (ssrc : ℕ) (ask : Ask) (before : List Ask)
    → concerns ssrc ask ≡ false → IsAlike s ssrc (ask ∷ before) before

-- By any test of packets and their times, as many came as wait and ended.
abbrev pub EndOnce : Type 0
EndOnce =
    (s : Setting) (ssrc : ℕ) (asks : List Ask) (test : Kept → Bool)
    → passing test (came ssrc asks)
    ≡ passing test (ended s ssrc asks) + passing test (waiting s ssrc asks)

-- ---- over all that came

abbrev pub StayAfter : Type 0
StayAfter =
    (c : Contents) (newer older : List Move) (stream : Stream) (e : ℕ × ℕ)
    → found_from 0 stream (lanes c older) ≡ Some e
    → found_from 0 stream (lanes c (newer ++ older)) ≡ Some e

abbrev pub StayAtEvents : Type 0
StayAtEvents =
    (c : Contents) (newer older : List FrontEvent) (stream : Stream) (e : ℕ × ℕ)
    → found_from 0 stream (lanes c (moves c older)) ≡ Some e
    → found_from 0 stream (lanes c (moves c (newer ++ older))) ≡ Some e

abbrev pub OpenInOrder : Type 0
OpenInOrder =
    (c : Contents) (events : List FrontEvent)
    → filter_map opened_by (all_steps c events) ≡ openings c 0 (lanes c (moves c events))

abbrev pub CountUp : Type 0
CountUp =
    (c : Contents) (events : List FrontEvent) (way : Way)
    → numbers_on way (all_steps c events) ≡ range_with_len 0 (count c (moves c events) way)

abbrev pub HaveOneFate : Type 0
HaveOneFate =
    (c : Contents) (time : ℕ) (older : List Move) (session stamp : ℕ) (p : View)
    → HasOneFate (release_steps c time older session stamp p) session stamp p
    (fate c older session p)

abbrev pub GetTruePackets : Type 0
GetTruePackets =
    (c : Contents) (older : List Move) (session : ℕ) (p : View)
    → IsTrueFate c older session p (fate c older session p)

-- A capture by itself brings no request: what its retransmissions carry is found without any.
abbrev pub NeedNoRequests : Type 0
NeedNoRequests =
    (c : Contents) (records : List Record) (session : ℕ) (p : View)
    → original c (moves c (captured records)) session p
    ≡ found (after_calls c.rtx c.fids false (calls c (moves c (captured records)))) session p

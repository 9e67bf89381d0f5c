-- What a front stands for: all that came to it, the latest first.
use Rattle.std.specs.Prelude.{◌≡◌, ◌<◌, ℕ, ◌+◌, nat_eq, if◌then◌else◌, Bool, true, false, List}
use Rattle.std.specs.Prelude.{[], ◌∷◌, ◌++◌, reverse, find, Option, Some, None, IsSome, IfSome}
use Rattle.std.specs.Map.{lookup}
use Rattle.rtp_wire.specs.Packet.{Packet as View}
use Rattle.rtp_demux.specs.declared.types.Route.{Route}
use Rattle.rtp_demux.specs.Lanes.{Sight}
use Rattle.rtp_demux.specs.Types.{StandsFor as RoutesFor}
use Rattle.rtx.specs.declared.answers.Restored.{Restored}
use Rattle.rtx.specs.declared.receiver.Original.{Original}
use Rattle.rtx.specs.Restoring.{Receiving, IsRestored}
use Rattle.pcap_file.specs.Datagrams.{Sent}
use Rattle.pcap_file.specs.declared.udp.Datagram.{Datagram}
use Rattle.script_lang.specs.Contents.{Contents}
use Rattle.front_model.specs.declared.Step.{Step}
use Rattle.front_model.specs.Events.{FrontEvent, records}
use Rattle.front_model.specs.Fates.{Way, is_way, count}
use Rattle.front_model.specs.Given.{Given}
use Rattle.front_model.specs.Lanes.{routed, lanes}
use Rattle.front_model.specs.Moves.{Move, moves, moves_in}
use Rattle.front_model.specs.Records.{Holding, is_to}
use Rattle.front_model.specs.Restoring.{calls, receiver}
use Rattle.front_model.specs.Types.{rates}
use Rattle.front_model.specs.Sessions.{given, given_in}
use Rattle.front_model.specs.Standing.{Streams, StreamsStandFor}
use Rattle.front_model.specs.Steps.{record_steps}
use Rattle.rtp_front.specs.Chosen.{Chosen, IsReadOf}
use Rattle.rtp_front.specs.Sessions.{Sessions, session_at, IsKept}

-- the streams: the lanes, by session the routes of types, the receiver, and by way the next number
pub record StreamsState : Type 0 where
  pub lanes : List Sight
  pub types : List (ℕ × List (ℕ × Route))
  pub receiver : Receiving
  pub given : List (Way × ℕ)

-- what takes what comes: what was read of the script, the program's own SSRC, the silence after
-- which a source is removed, the sessions, and the streams
pub record IntakeState : Type 0 where
  pub chosen : Chosen
  pub own : ℕ
  pub timeout : ℕ
  pub sessions : Sessions
  pub streams : StreamsState

-- a front: what takes what comes, how many records came, and whether memory was refused
pub record State : Type 0 where
  pub intake : IntakeState
  pub taken : ℕ
  pub failed : Bool

-- ---- what maps hold, as functions

abbrev pub routes_or : Option (List (ℕ × Route)) → List (ℕ × Route)
routes_or None = []
routes_or (Some routes) = routes

abbrev pub number_or : Option ℕ → ℕ
number_or None = 0
number_or (Some k) = k

-- the routes of a session
abbrev pub routes_in : List (ℕ × List (ℕ × Route)) → ℕ → List (ℕ × Route)
routes_in types session = routes_or (lookup (nat_eq session) types)

-- the next number of a way
abbrev pub next_in : List (Way × ℕ) → Way → ℕ
next_in counts way = number_or (lookup (is_way way) counts)

-- the streams with functions in place of maps
abbrev pub streams_of : StreamsState → Streams
streams_of x = record {
  lanes = x.lanes;
  routes = routes_in x.types;
  receiver = x.receiver;
  next = next_in x.given;
}

-- ---- standing

-- The streams are those that these moves leave.
abbrev pub IsLeftBy : Contents → List Move → StreamsState → Type 0
IsLeftBy c older x = StreamsStandFor c older (streams_of x)

-- Each session was given its own, and the streams went on by these moves.
pub record TakesIn (x : IntakeState) (c : Contents) (given : ℕ → List Given) (older : List Move)
    : Type 0 where
  pub chosen : IsReadOf c x.chosen
  pub own : x.own ≡ c.settings.ssrc
  pub timeout : x.timeout ≡ c.settings.timeout
  pub sessions : (number : ℕ) → IsKept c number (given number) (session_at x.sessions number)
  pub streams : IsLeftBy c older x.streams

-- Each session was given its own of what came, and the streams went on by what the sessions gave
-- on.
abbrev pub StandsIn : IntakeState → Contents → List FrontEvent → Type 0
StandsIn x c events = TakesIn x c (λ number. given c number events) (moves c events)

-- A front of this script to which these came, and memory served.
pub record StandsFor (x : State) (c : Contents) (events : List FrontEvent) : Type 0 where
  pub intake : StandsIn x.intake c events
  pub taken : x.taken ≡ records events
  pub works : x.failed ≡ false

-- a datagram without where its payload lies in memory
abbrev pub sent_as : Datagram → Sent
sent_as d = record { from = d.from; to = d.to; payload = d.payload.now }

-- What a record holds became steps behind those before, and the sessions and the streams went on.
pub record TakesHolding (c : Contents) (time : ℕ) (older : List FrontEvent) (h : Holding)
    (before after : List Step) (new : IntakeState) : Type 0 where
  pub steps : after ≡ before ++ record_steps c time older h
  pub stands : TakesIn new c (λ number. given_in c number time h ++ given c number older)
      (reverse (moves_in c older time h) ++ moves c older)

-- Some script was read. The sessions of its ports are kept, and their numbers are 0 to 7.
pub record HasScript (chosen : Chosen) (sessions : Sessions) : Type 0 where
  pub script : Contents
  pub read : IsReadOf script chosen
  pub kept : (port : ℕ)
      → IfSome (find (is_to port) script.sessions) (λ l. IsSome (session_at sessions l.session))
  pub small : (number : ℕ) → IsSome (session_at sessions number) → number < 8

-- The routes of types and the receiver are those after this move; the lanes and the counts are as
-- before it.
pub record IsRouted (c : Contents) (older : List Move) (m : Move) (x : StreamsState) : Type 0 where
  pub lanes : x.lanes ≡ lanes c older
  pub routes : (session : ℕ)
      → RoutesFor (routes_in x.types session) (rates c session) (routed c session (m ∷ older))
  pub receiver : x.receiver ≡ receiver c (calls c (m ∷ older))
  pub next : (way : Way) → next_in x.given way ≡ count c older way

-- One delivery more is counted on this way.
abbrev pub IsCounted : Way → StreamsState → StreamsState → Type 0
IsCounted to before after =
    (way : Way)
    → next_in after.given way ≡ next_in before.given way + (if is_way way to then 1 else 0)

-- All but the counts is as it was.
pub record IsSameButCounts (before after : StreamsState) : Type 0 where
  pub lanes : after.lanes ≡ before.lanes
  pub types : after.types ≡ before.types
  pub receiver : after.receiver ≡ before.receiver

-- This was restored of that retransmission.
abbrev pub Carried : View → Restored → Type 0
Carried p x = (o : Original) × IsRestored o p x

-- Memory was refused: from then on the front stands for no list.
abbrev pub HasFailed : State → Type 0
HasFailed x = x.failed ≡ true

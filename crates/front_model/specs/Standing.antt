-- What the parts of a front stand for. Each names only what the part holds.
use Rattle.std.specs.Prelude.{◌≡◌, ℕ, List}
use Rattle.source_table.specs.Table.{Table}
use Rattle.rtp_demux.specs.declared.types.Route.{Route}
use Rattle.rtp_demux.specs.Lanes.{Sight}
use Rattle.rtp_demux.specs.Types.{StandsFor as RoutesFor}
use Rattle.rtx.specs.Restoring.{Receiving}
use Rattle.script_lang.specs.Contents.{Contents}
use Rattle.front_model.specs.Events.{FrontEvent}
use Rattle.front_model.specs.Given.{Setting, Given, asks, table}
use Rattle.front_model.specs.Probation.{Kept, waiting}
use Rattle.front_model.specs.Sessions.{setting, given}
use Rattle.front_model.specs.Moves.{Move, moves}
use Rattle.front_model.specs.Types.{rates}
use Rattle.front_model.specs.Lanes.{routed, lanes}
use Rattle.front_model.specs.Restoring.{calls, receiver}
use Rattle.front_model.specs.Fates.{Way, count}

-- what a session holds: its table, and by SSRC the packets that wait
pub record Session : Type 0 where
  pub sources : Table
  pub held : ℕ → List Kept

-- A session that was made so and given these, the latest first, has their table, and the packets
-- that wait after them.
pub record SessionStandsFor (s : Setting) (older : List Given) (x : Session) : Type 0 where
  pub sources : x.sources ≡ table s (asks older)
  pub held : (ssrc : ℕ) → x.held ssrc ≡ waiting s ssrc (asks older)

-- what a front holds beside its sessions: the lanes, each session's routes, the receiver, and the
-- next number of each way
pub record Streams : Type 0 where
  pub lanes : List Sight
  pub routes : ℕ → List (ℕ × Route)
  pub receiver : Receiving
  pub next : Way → ℕ

-- They are those that these moves leave.
pub record StreamsStandFor (c : Contents) (older : List Move) (x : Streams) : Type 0 where
  pub lanes : x.lanes ≡ lanes c older
  pub routes : (session : ℕ)
      → RoutesFor (x.routes session) (rates c session) (routed c session older)
  pub receiver : x.receiver ≡ receiver c (calls c older)
  pub next : (way : Way) → x.next way ≡ count c older way

-- A front to which these came, the latest first: each session was given its own, and the streams
-- are those of what went on.
pub record FrontStandsFor (c : Contents) (older : List FrontEvent) (at : ℕ → Session) (x : Streams)
    : Type 0 where
  pub sessions : (session : ℕ)
      → SessionStandsFor (setting c session) (given c session older) (at session)
  pub streams : StreamsStandFor c (moves c older) x

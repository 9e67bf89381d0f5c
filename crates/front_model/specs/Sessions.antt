-- What a front gives its sessions: for each one a filter of what came.
use Rattle.std.specs.Prelude.{ℕ, ◌==◌, if◌then◌else◌, List, [], ◌∷◌, ◌++◌, flat_map, filter}
use Rattle.rtp_units.specs.declared.shared.Fid.{Fid}
use Rattle.script_lang.specs.Contents.{Contents}
use Rattle.script_lang.specs.Facts.{session_numbers}
use Rattle.script_lang.specs.Tests.{is_declared}
use Rattle.source_table.specs.Table.{name_of}
use Rattle.std.specs.Prelude.{Option}
use Rattle.front_model.specs.Events.{FrontEvent, Came, ReportsDue, Requested}
use Rattle.front_model.specs.Given.{Setting, Given, Rtp, Rtcp, Report, asks, table}
use Rattle.front_model.specs.Records.{Holding, Nothing, BadPacket, BadCompound, Packet, Compound, holding}
use Rattle.front_model.specs.Types.{rate}

-- ---- by the script

-- the sessions in the order of their numbers
abbrev pub sessions : Contents → List ℕ
sessions c = filter (is_declared c.sessions) session_numbers

abbrev pub fid_ssrcs : ℕ → Fid → List ℕ
fid_ssrcs session f = if f.session == session then f.ssrc ∷ f.rtx_ssrc ∷ [] else []

-- Sources that the script pairs need no probation.
abbrev pub setting : Contents → ℕ → Setting
setting c session = record {
  own = c.settings.ssrc;
  probation = c.settings.probation;
  quick = flat_map (fid_ssrcs session) c.fids;
}

-- ---- by what came

abbrev pub only : ℕ → ℕ → Given → List Given
only session of g = if of == session then g ∷ [] else []

-- what a session is given of what a record holds
abbrev pub given_in : Contents → ℕ → ℕ → Holding → List Given
given_in c session time (Packet of from p) = only session of (Rtp time from p (rate c of p.pt))
given_in c session time (Compound of packets) = only session of (Rtcp time packets)
given_in c session time (Nothing why) = []
given_in c session time (BadPacket of fault) = []
given_in c session time (BadCompound of fault) = []

abbrev pub given_of : Contents → ℕ → FrontEvent → List Given
given_of c session (Came time r) = given_in c session time (holding c.sessions r)
given_of c session (ReportsDue time) = Report time c.settings.timeout ∷ []
given_of c session (Requested r) = []

-- all that a session was given
abbrev pub given : Contents → ℕ → List FrontEvent → List Given
given c session [] = []
given c session (e ∷ older) = given_of c session e ++ given c session older

-- the CNAME of a source, where it is kept and has one
abbrev pub cname : Contents → List FrontEvent → ℕ → ℕ → Option (List ℕ)
cname c events session ssrc =
    name_of (table (setting c session) (asks (given c session events))) ssrc

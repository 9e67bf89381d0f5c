-- What goes on from the sessions: packets and sender reports, and between them the requests of the
-- lanes. Lists have the newest first.
use Rattle.std.specs.Prelude.{ℕ, List, [], ◌∷◌, ◌++◌, reverse, filter_map, Option, Some, None}
use Rattle.rtp_wire.specs.Packet.{Packet as View}
use Rattle.rtx.specs.declared.requests.Request.{Request}
use Rattle.script_lang.specs.Contents.{Contents}
use Rattle.front_model.specs.Events.{FrontEvent, Came, ReportsDue, Requested}
use Rattle.front_model.specs.Given.{Given, Rtp, Rtcp}
use Rattle.front_model.specs.Notes.{Note, Releases, Synced, notes}
use Rattle.front_model.specs.Records.{Holding, Nothing, BadPacket, BadCompound, Packet, Compound, holding}
use Rattle.front_model.specs.Sessions.{setting, given}
use Rattle.front_model.specs.Types.{rate}

-- a packet that a session released, with the time at which it came; a sender report of an SSRC that
-- a session heard, with its NTP and its RTP time; a number that a lane asked for again
pub data Move : Type 0 where
  Released : ℕ → ℕ → View → Move
  Reported : ℕ → ℕ → ℕ → ℕ → Move
  Asked : Request → Move

-- what goes on of a session's note, if anything
abbrev pub move_of : ℕ → Note → Option Move
move_of session (Releases k) = Some (Released session k.stamp k.packet)
move_of session (Synced ssrc ntp rtp) = Some (Reported session ssrc ntp rtp)
move_of session note = None

-- what a session tells of what it is given after these events
abbrev pub session_notes : Contents → List FrontEvent → ℕ → Given → List Note
session_notes c older session g = notes (setting c session) (given c session older) g

-- what a session tells of what a record holds
abbrev pub moves_in : Contents → List FrontEvent → ℕ → Holding → List Move
moves_in c older time (Packet session from p) =
    filter_map (move_of session)
    (session_notes c older session (Rtp time from p (rate c session p.pt)))
moves_in c older time (Compound session packets) =
    filter_map (move_of session) (session_notes c older session (Rtcp time packets))
moves_in c older time (Nothing why) = []
moves_in c older time (BadPacket session fault) = []
moves_in c older time (BadCompound session fault) = []

-- the first one first; at report times nothing goes on
abbrev pub moves_of : Contents → List FrontEvent → FrontEvent → List Move
moves_of c older (Came time r) = moves_in c older time (holding c.sessions r)
moves_of c older (ReportsDue time) = []
moves_of c older (Requested r) = Asked r ∷ []

-- all that went on
abbrev pub moves : Contents → List FrontEvent → List Move
moves c [] = []
moves c (e ∷ older) = reverse (moves_of c older e) ++ moves c older

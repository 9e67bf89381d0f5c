-- What a front tells of one source among others.
use Rattle.std.specs.Prelude.{◌≡◌, ℕ, List, ◌++◌, IsSome}
use Rattle.std.specs.List.{AllByRecursion}
use Rattle.rtp_units.specs.declared.shared.Address.{Address}
use Rattle.rtp_wire.specs.Packet.{Packet as View}
use Rattle.rtcp_wire.specs.declared.packet.Rtcp.{Rtcp as RtcpPacket}
use Rattle.source_table.specs.Table.{kept}
use Rattle.script_lang.specs.Contents.{Contents}
use Rattle.front_model.specs.Events.{FrontEvent}
use Rattle.front_model.specs.Given.{Rtp, Rtcp, asks, table}
use Rattle.front_model.specs.Laws.{IsAlike}
use Rattle.front_model.specs.Moves.{session_notes}
use Rattle.front_model.specs.Sessions.{setting, given_of, given}
use Rattle.front_model.specs.Types.{rate}
use Rattle.rtp_session.specs.Laws.{IsApart, told_of}

-- The event gives this session nothing about this SSRC. A report time is about all.
abbrev pub PassesBy : Contents → ℕ → ℕ → FrontEvent → Type 0
PassesBy c session ssrc e = AllByRecursion (IsApart ssrc) (given_of c session e)

-- Events that pass a source by leave it, its name and its waiting packets as they are, however many
-- they are.
abbrev pub IsLeftAsItWas : Type 0
IsLeftAsItWas =
    (c : Contents) (session ssrc : ℕ) (newer older : List FrontEvent)
    → AllByRecursion (PassesBy c session ssrc) newer
    → IsAlike (setting c session) ssrc (asks (given c session (newer ++ older)))
    (asks (given c session older))

-- A packet of a source that is kept is told behind them as without them.
abbrev pub IsPacketToldAsBefore : Type 0
IsPacketToldAsBefore =
    (c : Contents) (session time : ℕ) (from : Address) (p : View) (newer older : List FrontEvent)
    → AllByRecursion (PassesBy c session p.ssrc) newer
    → IsSome (kept (table (setting c session) (asks (given c session older))) p.ssrc)
    → session_notes c (newer ++ older) session (Rtp time from p (rate c session p.pt))
    ≡ session_notes c older session (Rtp time from p (rate c session p.pt))

-- So is what a compound tells of a source, kept or not.
abbrev pub IsCompoundToldAsBefore : Type 0
IsCompoundToldAsBefore =
    (c : Contents) (session ssrc time : ℕ) (packets : List RtcpPacket) (newer older : List FrontEvent)
    → AllByRecursion (PassesBy c session ssrc) newer
    → told_of ssrc (session_notes c (newer ++ older) session (Rtcp time packets))
    ≡ told_of ssrc (session_notes c older session (Rtcp time packets))

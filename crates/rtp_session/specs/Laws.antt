-- What a session tells of one source.
use Rattle.std.specs.Prelude.{◌≡◌, ℕ, nat_eq, Bool, false, List, ◌∷◌, filter, Option, None}
use Rattle.std.specs.List.{AllByRecursion}
use Rattle.rtp_units.specs.declared.shared.Address.{Address}
use Rattle.rtp_wire.specs.Packet.{Packet as View}
use Rattle.rtcp_wire.specs.declared.packet.Rtcp.{Rtcp as RtcpPacket}
use Rattle.source_table.specs.Table.{kept}
use Rattle.front_model.specs.Given.{Setting, Given, Rtp, Rtcp, Report, asks_of, asks, table}
use Rattle.front_model.specs.Notes.{Note, Holds, Drops, Releases, NewName, Synced, Stray, Left, Gone, Says, notes}
use Rattle.front_model.specs.Laws.{concerns, IsAlike, has_room}

-- The note tells of this SSRC; a report's bytes tell of all sources.
abbrev pub is_about : ℕ → Note → Bool
is_about ssrc (Holds k) = nat_eq ssrc k.packet.ssrc
is_about ssrc (Drops k why) = nat_eq ssrc k.packet.ssrc
is_about ssrc (Releases k) = nat_eq ssrc k.packet.ssrc
is_about ssrc (NewName x text) = nat_eq ssrc x
is_about ssrc (Synced x ntp rtp) = nat_eq ssrc x
is_about ssrc (Stray x) = nat_eq ssrc x
is_about ssrc (Left x) = nat_eq ssrc x
is_about ssrc (Gone x) = nat_eq ssrc x
is_about ssrc (Says bytes) = false

abbrev pub told_of : ℕ → List Note → List Note
told_of ssrc ns = filter (is_about ssrc) ns

-- It asks nothing about this SSRC; a report time asks about all.
abbrev pub IsApart : ℕ → Given → Type 0
IsApart ssrc g = AllByRecursion (λ ask. concerns ssrc ask ≡ false) (asks_of g)

-- What is about others leaves a source, its name and its waiting packets as they are.
abbrev pub IsLeftAlone : Type 0
IsLeftAlone =
    (s : Setting) (ssrc : ℕ) (g : Given) (older : List Given)
    → IsApart ssrc g → IsAlike s ssrc (asks (g ∷ older)) (asks older)

-- Where a source, its name and its waiting packets are alike, a packet of it is told alike; if it is
-- not kept, where so is whether a new source is taken in.
abbrev pub IsPacketToldAlone : Type 0
IsPacketToldAlone =
    (s : Setting) (now : ℕ) (from : Address) (view : View) (rate : Option ℕ) (here there : List Given)
    → IsAlike s view.ssrc (asks here) (asks there)
    → (kept (table s (asks here)) view.ssrc ≡ None
    → has_room s (asks here) ≡ has_room s (asks there))
    → (notes s here (Rtp now from view rate) ≡ notes s there (Rtp now from view rate))
    × IsAlike s view.ssrc (asks (Rtp now from view rate ∷ here)) (asks (Rtp now from view rate ∷ there))

-- So is what a compound tells of it.
abbrev pub IsCompoundToldAlone : Type 0
IsCompoundToldAlone =
    (s : Setting) (ssrc now : ℕ) (packets : List RtcpPacket) (here there : List Given)
    → IsAlike s ssrc (asks here) (asks there)
    → (told_of ssrc (notes s here (Rtcp now packets)) ≡ told_of ssrc (notes s there (Rtcp now packets)))
    × IsAlike s ssrc (asks (Rtcp now packets ∷ here)) (asks (Rtcp now packets ∷ there))

-- A report time leaves them alike.
abbrev pub IsReportedAlone : Type 0
IsReportedAlone =
    (s : Setting) (ssrc now timeout : ℕ) (here there : List Given)
    → IsAlike s ssrc (asks here) (asks there)
    → IsAlike s ssrc (asks (Report now timeout ∷ here)) (asks (Report now timeout ∷ there))

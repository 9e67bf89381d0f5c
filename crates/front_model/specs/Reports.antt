-- The bytes that a session sends: reports (RFC 3550, section 6.4) and requests (RFC 4585, section
-- 6.2.1).
use Rattle.std.specs.Prelude.{ℕ, zero, suc, nat_lt, if◌then◌else◌, List, [], ◌∷◌, ◌++◌, map, length, take, drop}
use Rattle.rtcp_wire.specs.declared.block.ReportBlock.{ReportBlock}
use Rattle.rtcp_wire.specs.declared.packet.Rtcp.{Rtcp}
use Rattle.rtcp_wire.specs.declared.packet.Rtcp.TheVariants.{Rr, Sdes, Nacks}
use Rattle.rtcp_wire.specs.Nacking.{greedy}
use Rattle.rtcp_wire.specs.Written.{compound_bytes}

-- the blocks, 31 for each packet, and one packet at least; so many packets and one at most
abbrev pub parts_up_to : ℕ → List ReportBlock → List (List ReportBlock)
parts_up_to zero blocks = take 31 blocks ∷ []
parts_up_to (suc n) blocks =
    take 31 blocks ∷ (if nat_lt 31 (length blocks) then parts_up_to n (drop 31 blocks) else [])

-- as many packets as blocks serve
abbrev pub parts : List ReportBlock → List (List ReportBlock)
parts blocks = parts_up_to (length blocks) blocks

abbrev pub receiver_report : ℕ → List ReportBlock → Rtcp
receiver_report own blocks = Rr own (record { items = blocks }) []

-- `rtpbin`, the program's own CNAME
abbrev pub own_name : List ℕ
own_name = 0x72 ∷ 0x74 ∷ 0x70 ∷ 0x62 ∷ 0x69 ∷ 0x6e ∷ []

abbrev pub own_description : ℕ → Rtcp
own_description own =
    Sdes (record { ssrc = own; items = record { kind = 1; text = own_name } ∷ [] } ∷ [])

-- receiver reports with these blocks, and the description of the program
abbrev pub report_packets : ℕ → List ReportBlock → List Rtcp
report_packets own blocks = map (receiver_report own) (parts blocks) ++ own_description own ∷ []

abbrev pub report_bytes : ℕ → List ReportBlock → List ℕ
report_bytes own blocks = compound_bytes (report_packets own blocks)

-- a request for these numbers of a stream
abbrev pub nack_bytes : ℕ → ℕ → List ℕ → List ℕ
nack_bytes own media numbers = compound_bytes (Nacks own media (greedy numbers) ∷ [])

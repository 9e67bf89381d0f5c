-- What a record holds has its numbers in their ranges.
use Rattle.std.proofs.Common.{ℕ, zero, suc, ◌≡◌, ◌+◌, ◌-◌, ◌*◌, ◌≤◌, ◌<◌, ◌^◌, Bool, true, List, [], ◌∷◌, Option, None, Some, length, drop, arith}
use Rattle.std.specs.Prelude.{All, Result, Ok, Err, ◌==◌, ◌&&◌, slice_index, option_map, nat_lt, find}
use Rattle.std.specs.List.{AllByRecursion, list_all}
use Rattle.std.proofs.lemmas.Bool.{and_parts, leb-true}
use Rattle.std.proofs.lemmas.List.{length-take, length-drop}
use Rattle.std.proofs.lemmas.List.Elements.{All-head, All-tail, All-drop, All-take}
use Rattle.rtp_units.specs.declared.shared.Address.{Address}
use Rattle.pcap_file.specs.Capture.{Record}
use Rattle.pcap_file.specs.Datagrams.{Sent, datagram_of}
use Rattle.pcap_file.specs.declared.udp.Skip.{Skip}
use Rattle.rtp_wire.specs.Network.{number16, number32}
use Rattle.rtp_wire.specs.Packet.{Packet as View, first_fault, header_end}
use Rattle.rtp_wire.specs.View.{packet_of, payload_of, padding_of}
use Rattle.rtp_wire.specs.declared.fault.RtpFault.{RtpFault}
use Rattle.rtcp_wire.specs.declared.packet.Chunk.{Chunk}
use Rattle.rtcp_wire.specs.declared.packet.Rtcp.{Rtcp}
use Rattle.rtcp_wire.specs.declared.packet.Rtcp.TheVariants.{Sr, Rr, Sdes, Bye, App, Nacks, Feedback, Unknown}
use Rattle.rtcp_wire.specs.declared.fault.RtcpFault.{RtcpFault}
use Rattle.rtcp_wire.specs.Sdes.{chunks_at}
use Rattle.rtcp_wire.specs.Bodies.{numbers_at, reason_at, packet_of as body_packet, sr_of, rr_of, bye_of, app_of, nacks_of, feedback_of}
use Rattle.rtcp_wire.specs.Compound.{count_of, kind_of, size_of, padding_of as padding_in, body_of, headers_fault, with_packet, body_or_fault, packet_then, packets_at, compound_behind, compound_of}
use Rattle.script_lang.specs.declared.script.SessionLine.{SessionLine}
use Rattle.script_lang.specs.Entries.{session_fits}
use Rattle.script_lang.specs.Settings.{is_within}
use Rattle.front_model.specs.Records.{Holding, Nothing, BadPacket, BadCompound, Packet, Compound, is_rtcp, packet_in, compound_in, is_to, datagram_in, record_in, holding}
use Rattle.replay_ranges.proofs.Bytes.{IsByte, Good, pick, datagram_good}

-- ---- numbers of bytes

index_small : (xs : List ℕ) (i : ℕ) → All IsByte xs → slice_index xs i < 256
index_small [] i h = omega arith
index_small (x ∷ xs) zero h = All-head IsByte x xs h
index_small (x ∷ xs) (suc i) h = index_small xs i (All-tail IsByte x xs h)

pub small16 : (xs : List ℕ) (i : ℕ) → All IsByte xs → number16 xs i < 65536
small16 xs i h = omega (arith, index_small xs i h, index_small xs (i + 1) h)

pub small32 : (xs : List ℕ) (i : ℕ) → All IsByte xs → number32 xs i < 2 ^ 32
small32 xs i h = omega (arith, index_small xs i h, index_small xs (i + 1) h, index_small xs (i + 2) h, index_small xs (i + 3) h)

-- ---- a packet

-- the numbers of a packet are in their ranges, and its payload is short, and of bytes
pub record IsView (p : View) : Type 0 where
  pub seq : p.seq < 65536
  pub rtp : p.timestamp < 2 ^ 32
  pub pt : p.pt < 256
  pub short : length p.payload ≤ 9216
  pub bytes : All IsByte p.payload

payload_short : (bytes : List ℕ) (from padding : ℕ) → length bytes ≤ 9216 → length (payload_of bytes from padding) ≤ 9216
payload_short bytes from padding le = omega (arith, length-take (length bytes - padding - from) (drop from bytes), length-drop from bytes)

view_ranged : (bytes : List ℕ) → length bytes ≤ 9216 → All IsByte bytes → IsView (packet_of bytes)
view_ranged bytes short h =
    record {
      seq = small16 bytes 2 h;
      rtp = small32 bytes 4 h;
      pt = omega (arith, index_small bytes 1 h);
      short = payload_short bytes (header_end bytes) (padding_of bytes) short;
      bytes = All-take IsByte (length bytes - padding_of bytes - header_end bytes) (drop (header_end bytes) bytes) (All-drop IsByte (header_end bytes) bytes h);
    }

-- ---- packets of a compound

-- the numbers of a sender report are of 32 bits
abbrev pub IsReport : Rtcp → Type 0
IsReport (Sr ssrc seconds fraction rtp packets octets blocks rest) = (seconds < 2 ^ 32) × (fraction < 2 ^ 32) × (rtp < 2 ^ 32)
IsReport (Rr ssrc blocks rest) = Unit {0}
IsReport (Sdes chunks) = Unit {0}
IsReport (Bye ssrcs reason) = Unit {0}
IsReport (App subtype ssrc name rest) = Unit {0}
IsReport (Nacks sender media list) = Unit {0}
IsReport (Feedback kind format sender media rest) = Unit {0}
IsReport (Unknown kind count rest) = Unit {0}

abbrev MaybeReport : Option Rtcp → Type 0
MaybeReport None = Unit {0}
MaybeReport (Some p) = IsReport p

record ReportIn (o : Option Rtcp) : Type 0 where
  fact : MaybeReport o

no_report : ReportIn None
no_report = record { fact = tt }

sr_in : (count : ℕ) (b : List ℕ) → All IsByte b → ReportIn (sr_of count b)
sr_in count b h = pick ReportIn (nat_lt (length b) (24 + 24 * count)) _ _ (λ _. no_report) (λ _. record { fact = (small32 b 4 h, small32 b 8 h, small32 b 12 h) })

rr_in : (count : ℕ) (b : List ℕ) → ReportIn (rr_of count b)
rr_in count b = pick ReportIn (nat_lt (length b) (4 + 24 * count)) _ _ (λ _. no_report) (λ _. record { fact = tt })

sdes_in : (o : Option (List Chunk)) → ReportIn (option_map Sdes o)
sdes_in None = no_report
sdes_in (Some chunks) = record { fact = tt }

bye_with : (ssrcs : List ℕ) (o : Option (Option (List ℕ))) → ReportIn (option_map (λ reason. Bye ssrcs reason) o)
bye_with ssrcs None = no_report
bye_with ssrcs (Some reason) = record { fact = tt }

bye_in : (count : ℕ) (b : List ℕ) → ReportIn (bye_of count b)
bye_in count b = pick ReportIn (nat_lt (length b) (4 * count)) _ _ (λ _. no_report) (λ _. bye_with (numbers_at b count) (reason_at (drop (4 * count) b)))

app_in : (count : ℕ) (b : List ℕ) → ReportIn (app_of count b)
app_in count b = pick ReportIn (nat_lt (length b) 8) _ _ (λ _. no_report) (λ _. record { fact = tt })

nacks_in : (b : List ℕ) → ReportIn (nacks_of b)
nacks_in b = pick ReportIn (nat_lt (length b) 8) _ _ (λ _. no_report) (λ _. record { fact = tt })

feedback_in : (kind count : ℕ) (b : List ℕ) → ReportIn (feedback_of kind count b)
feedback_in kind count b = pick ReportIn (nat_lt (length b) 8) _ _ (λ _. no_report) (λ _. record { fact = tt })

body_in : (kind count : ℕ) (b : List ℕ) → All IsByte b → ReportIn (body_packet kind count b)
unfolding body_packet
body_in kind count b h =
    pick ReportIn (kind == 200) _ _ (λ _. sr_in count b h) (λ _.
    pick ReportIn (kind == 201) _ _ (λ _. rr_in count b) (λ _.
    pick ReportIn (kind == 202) _ _ (λ _. sdes_in (chunks_at count b)) (λ _.
    pick ReportIn (kind == 203) _ _ (λ _. bye_in count b) (λ _.
    pick ReportIn (kind == 204) _ _ (λ _. app_in count b) (λ _.
    pick ReportIn (kind == 205) _ _ (λ _. pick ReportIn (count == 1) _ _ (λ _. nacks_in b) (λ _. feedback_in kind count b)) (λ _.
    pick ReportIn (kind == 206) _ _ (λ _. feedback_in kind count b) (λ _. record { fact = tt })))))))

-- ---- compounds

-- at most so many packets
abbrev AreReports : ℕ → Result (List Rtcp) RtcpFault → Type 0
AreReports n (Ok ps) = (length ps ≤ n) × AllByRecursion IsReport ps
AreReports n (Err fault) = Unit {0}

record ReportsIn (n : ℕ) (r : Result (List Rtcp) RtcpFault) : Type 0 where
  fact : AreReports n r

with_in : (n : ℕ) (p : Rtcp) (r : Result (List Rtcp) RtcpFault) → IsReport p → ReportsIn n r → ReportsIn (suc n) (with_packet p r)
with_in n p (Ok ps) one h = record { fact = (omega (arith, h.fact.0), (one, h.fact.1)) }
with_in n p (Err fault) one h = record { fact = tt }

then_in : (n offset : ℕ) (bytes : List ℕ) (o : Option Rtcp) → ReportIn o → ReportsIn n (packets_at n (offset + size_of bytes) (drop (size_of bytes) bytes))
    → ReportsIn (suc n) (packet_then (packets_at n) offset bytes (body_or_fault offset (kind_of bytes) o))
then_in n offset bytes None one h = record { fact = tt }
then_in n offset bytes (Some p) one h =
    pick (ReportsIn (suc n)) (length bytes == size_of bytes) _ _ (λ _. record { fact = (omega arith, (one.fact, tt)) })
    (λ _. with_in n p (packets_at n (offset + size_of bytes) (drop (size_of bytes) bytes)) one.fact h)

body_bytes : (bytes : List ℕ) → All IsByte bytes → All IsByte (body_of bytes)
body_bytes bytes h = All-take IsByte (size_of bytes - 4 - padding_in bytes) (drop 4 bytes) (All-drop IsByte 4 bytes h)

packets_in : (n offset : ℕ) (bytes : List ℕ) → All IsByte bytes → ReportsIn n (packets_at n offset bytes)
unfolding packets_at
packets_in zero offset bytes h = record { fact = (omega arith, tt) }
packets_in (suc n) offset bytes h =
    then_in n offset bytes (body_packet (kind_of bytes) (count_of bytes) (body_of bytes)) (body_in (kind_of bytes) (count_of bytes) (body_of bytes) (body_bytes bytes h))
    (packets_in n (offset + size_of bytes) (drop (size_of bytes) bytes) (All-drop IsByte (size_of bytes) bytes h))

behind_in : (n : ℕ) (o : Option RtcpFault) (r : Result (List Rtcp) RtcpFault) → ReportsIn n r → ReportsIn n (compound_behind o r)
behind_in n (Some fault) r h = record { fact = tt }
behind_in n None r h = h

compound_reports : (bytes : List ℕ) → All IsByte bytes → ReportsIn (length bytes) (compound_of bytes)
unfolding compound_of
compound_reports bytes h = behind_in (length bytes) (headers_fault (length bytes) 0 bytes) (packets_at (length bytes) 0 bytes) (packets_in (length bytes) 0 bytes h)

-- ---- records

abbrev pub IsHolding : Holding → Type 0
IsHolding (Nothing why) = Unit {0}
IsHolding (BadPacket session fault) = Unit {0}
IsHolding (BadCompound session fault) = Unit {0}
IsHolding (Packet session from p) = (session < 8) × IsView p
IsHolding (Compound session packets) = (session < 8) × (length packets ≤ 9216) × AllByRecursion IsReport packets

pub record Held (h : Holding) : Type 0 where
  pub fact : IsHolding h

pub within : (least most n : ℕ) → is_within least most n ≡ true → (least ≤ n) × (n ≤ most)
within least most n h = let both = and_parts _ _ h in (leb-true least n both.0, leb-true n most both.1)

session_small : (l : SessionLine) → session_fits l ≡ true → l.session < 8
session_small l h =
    let first = and_parts (is_within 0 7 l.session && is_within 1 65535 l.rtp) (is_within 1 65535 l.rtcp) h in
    let own = and_parts (is_within 0 7 l.session) (is_within 1 65535 l.rtp) first.0 in
    omega (arith, (within 0 7 l.session own.0).1)

abbrev IsLine : Option SessionLine → Type 0
IsLine None = Unit {0}
IsLine (Some l) = l.session < 8

record LineIn (o : Option SessionLine) : Type 0 where
  fact : IsLine o

line_in : (test : SessionLine → Bool) (ls : List SessionLine) → list_all session_fits ls ≡ true → LineIn (find test ls)
line_in test [] h = record { fact = tt }
line_in test (l ∷ ls) h =
    let both = and_parts (session_fits l) (list_all session_fits ls) h in
    pick LineIn (test l) (Some l) (find test ls) (λ _. record { fact = session_small l both.0 }) (λ _. line_in test ls both.1)

packet_held : (session : ℕ) (from : Address) (bytes : List ℕ) (o : Option RtpFault) → session < 8 → length bytes ≤ 9216 → All IsByte bytes → Held (packet_in session from bytes o)
packet_held session from bytes (Some fault) small short h = record { fact = tt }
packet_held session from bytes None small short h = record { fact = (small, view_ranged bytes short h) }

compound_held : (session n : ℕ) (r : Result (List Rtcp) RtcpFault) → session < 8 → n ≤ 9216 → ReportsIn n r → Held (compound_in session r)
compound_held session n (Err fault) small short h = record { fact = tt }
compound_held session n (Ok packets) small short h = record { fact = (small, omega (arith, h.fact.0, short), h.fact.1) }

payload_held : (o : Option SessionLine) (sent : Sent) → LineIn o → length sent.payload ≤ 9216 → All IsByte sent.payload → Held (datagram_in o sent)
payload_held None sent line short h = record { fact = tt }
payload_held (Some l) sent line short h =
    pick Held (is_rtcp l sent) _ _ (λ _. compound_held l.session (length sent.payload) (compound_of sent.payload) line.fact short (compound_reports sent.payload h))
    (λ _. packet_held l.session sent.from sent.payload (first_fault sent.payload) line.fact short h)

record_held : (ls : List SessionLine) (o : Result Sent Skip) → list_all session_fits ls ≡ true → Good o → Held (record_in ls o)
record_held ls (Err why) fits g = record { fact = tt }
record_held ls (Ok sent) fits g = payload_held (find (is_to sent.to.port) ls) sent (line_in (is_to sent.to.port) ls fits) g.fact.0 g.fact.1

pub holding_held : (ls : List SessionLine) (r : Record) → list_all session_fits ls ≡ true → All IsByte r.bytes → Held (holding ls r)
holding_held ls r fits h = record_held ls (datagram_of r) fits (datagram_good r h)

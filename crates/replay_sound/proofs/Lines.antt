-- What is known of the lines of a script: ranges, and what look-ups find.
use Rattle.std.proofs.Common.{ℕ, ◌≡◌, ◌≤◌, ◌<◌, ◌&&◌, Bool, true, false, cond, refl, sym, ap, subst, ◌∙◌, List, [], ◌∷◌, Option, Some, None, Result, Ok, Err, arith, nat_eq, find, filter_map}
use Rattle.std.specs.Prelude.{◌==◌, if◌then◌else◌}
use Rattle.std.specs.List.{list_all, cons_option}
use Rattle.std.specs.Map.{lookup}
use Rattle.std.proofs.lemmas.Bool.{and_parts}
use Rattle.rtp_wire.specs.Packet.{first_fault}
use Rattle.rtp_wire.specs.declared.fault.RtpFault.{RtpFault}
use Rattle.rtcp_wire.specs.Compound.{compound_of}
use Rattle.rtcp_wire.specs.declared.packet.Rtcp.{Rtcp}
use Rattle.rtcp_wire.specs.declared.fault.RtcpFault.{RtcpFault}
use Rattle.rtp_units.specs.declared.shared.Address.{Address}
use Rattle.pcap_file.specs.Capture.{Record}
use Rattle.pcap_file.specs.Datagrams.{Sent, datagram_of}
use Rattle.pcap_file.specs.declared.udp.Skip.{Skip}
use Rattle.script_lang.specs.Contents.{Contents, IsScript}
use Rattle.script_lang.specs.Entries.{session_fits, pt_fits}
use Rattle.script_lang.specs.Settings.{is_within}
use Rattle.script_lang.specs.declared.script.SessionLine.{SessionLine}
use Rattle.script_lang.specs.declared.script.PtLine.{PtLine}
use Rattle.front_model.specs.Types.{rate_in, rate}
use Rattle.front_model.specs.Records.{Holding, Nothing, BadPacket, BadCompound, Packet, Compound, is_rtcp, is_to, packet_in, compound_in, payload_in, datagram_in, record_in, holding}
use Rattle.replay_sound.proofs.Choosing.{within}

-- what is found passes each test that all pass
pub found_passes : {A : Type 0} (test passes : A → Bool) (xs : List A) (x : A) → list_all passes xs ≡ true → find test xs ≡ Some x → passes x ≡ true
found_passes test passes [] x all e = absurd cc
found_passes test passes (y ∷ ys) x all e =
    let both = and_parts (passes y) (list_all passes ys) all in
    by (test y) both.0 (λ rest. found_passes test passes ys x both.1 rest) e
  where
    by : (b : Bool) → passes y ≡ true → (find test ys ≡ Some x → passes x ≡ true) → cond b (Some y) (find test ys) ≡ Some x → passes x ≡ true
    by true here rest e = let same : y ≡ x = cc in ap passes (sym same) ∙ here
    by false here rest e = rest e

-- ---- clock rates

pub record IsRate (n : ℕ) : Type 0 where
  pub from : 1 ≤ n
  pub to : n ≤ 1000000

line_rate : (l : PtLine) → pt_fits l ≡ true → IsRate l.rate
line_rate l h =
    let parts = and_parts (is_within 0 7 l.session && is_within 0 127 l.pt) (is_within 1 1000000 l.rate) h in
    let range = within 1 1000000 l.rate parts.1 in
    record { from = range.0; to = range.1 }

rate_among : (session pt n : ℕ) (ls : List PtLine) → list_all pt_fits ls ≡ true → lookup (nat_eq pt) (filter_map (rate_in session) ls) ≡ Some n → IsRate n
rate_among session pt n [] all e = absurd cc
rate_among session pt n (l ∷ ls) all e =
    let both = and_parts (pt_fits l) (list_all pt_fits ls) all in
    by (l.session == session) (line_rate l both.0) (λ rest. rate_among session pt n ls both.1 rest) e
  where
    more : List (ℕ × ℕ)
    more = filter_map (rate_in session) ls

    first : (b : Bool) → IsRate l.rate → (lookup (nat_eq pt) more ≡ Some n → IsRate n) → cond b (Some l.rate) (lookup (nat_eq pt) more) ≡ Some n → IsRate n
    first true here rest e = let same : l.rate ≡ n = cc in subst IsRate same here
    first false here rest e = rest e

    by : (b : Bool) → IsRate l.rate → (lookup (nat_eq pt) more ≡ Some n → IsRate n) → lookup (nat_eq pt) (cons_option (if b then Some (l.pt, l.rate) else None) more) ≡ Some n → IsRate n
    by true here rest e = first (nat_eq pt l.pt) here rest e
    by false here rest e = rest e

pub rate_is : (c : Contents) (session pt n : ℕ) → IsScript c → rate c session pt ≡ Some n → IsRate n
rate_is c session pt n script e = rate_among session pt n c.pts script.pts_fit e

-- ---- the session of what a record holds

abbrev pub IsOfSession : Holding → Type 0
IsOfSession (Nothing why) = Unit {0}
IsOfSession (BadPacket session fault) = Unit {0}
IsOfSession (BadCompound session fault) = Unit {0}
IsOfSession (Packet session from p) = session < 8
IsOfSession (Compound session packets) = session < 8

line_session : (l : SessionLine) → session_fits l ≡ true → l.session < 8
line_session l h =
    let parts = and_parts (is_within 0 7 l.session && is_within 1 65535 l.rtp) (is_within 1 65535 l.rtcp) h in
    let first = and_parts (is_within 0 7 l.session) (is_within 1 65535 l.rtp) parts.0 in
    let range = within 0 7 l.session first.0 in
    omega (arith, range.1)

packet_session : (session : ℕ) (from : Address) (payload : List ℕ) (o : Option RtpFault) → session < 8 → IsOfSession (packet_in session from payload o)
packet_session session from payload None lt = lt
packet_session session from payload (Some fault) lt = tt

compound_session : (session : ℕ) (r : Result (List Rtcp) RtcpFault) → session < 8 → IsOfSession (compound_in session r)
compound_session session (Ok packets) lt = lt
compound_session session (Err fault) lt = tt

payload_session : (l : SessionLine) (sent : Sent) → l.session < 8 → IsOfSession (payload_in l sent)
payload_session l sent lt =
    elim (is_rtcp l sent) as (λ b. IsOfSession (if b then compound_in l.session (compound_of sent.payload) else packet_in l.session sent.from sent.payload (first_fault sent.payload))) [
      | true ↦ compound_session l.session (compound_of sent.payload) lt
      | false ↦ packet_session l.session sent.from sent.payload (first_fault sent.payload) lt
    ]

datagram_session : (ls : List SessionLine) (o : Option SessionLine) (sent : Sent) → ((l : SessionLine) → o ≡ Some l → l.session < 8) → IsOfSession (datagram_in o sent)
datagram_session ls None sent small = tt
datagram_session ls (Some l) sent small = payload_session l sent (small l refl)

record_session : (ls : List SessionLine) (r : Result Sent Skip) → list_all session_fits ls ≡ true → IsOfSession (record_in ls r)
record_session ls (Err why) all = tt
record_session ls (Ok sent) all =
    datagram_session ls (find (is_to sent.to.port) ls) sent (λ l e. line_session l (found_passes (is_to sent.to.port) session_fits ls l all e))

pub session_is : (c : Contents) (r : Record) → IsScript c → IsOfSession (holding c.sessions r)
session_is c r script = record_session c.sessions (datagram_of r) script.sessions_fit

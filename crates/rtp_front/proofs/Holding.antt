-- What a record holds, by the tests of its payload, and of which session it is.
use Rattle.std.proofs.Common.{◌≡◌, ℕ, Bool, true, false, cond, nat_eq, List, [], ◌∷◌, ◌++◌, refl, sym, ap, subst, ◌∙◌, eqb-true}
use Rattle.std.specs.Prelude.{Option, Some, None, Result, Ok, Err, find, IfSome, is_some, option_map}
use Rattle.std.specs.List.{list_any, filter}
use Rattle.std.specs.Map.{lookup}
use Rattle.pcap_file.specs.Capture.{Record}
use Rattle.pcap_file.specs.Datagrams.{Sent, datagram_of}
use Rattle.pcap_file.specs.declared.udp.Skip.{Skip}
use Rattle.rtp_wire.specs.Packet.{Packet as View, first_fault}
use Rattle.rtp_wire.specs.View.{packet_of}
use Rattle.rtp_wire.specs.declared.fault.RtpFault.{RtpFault}
use Rattle.rtcp_wire.specs.Compound.{compound_of}
use Rattle.rtcp_wire.specs.declared.packet.Rtcp.{Rtcp as RtcpPacket}
use Rattle.rtcp_wire.specs.declared.fault.RtcpFault.{RtcpFault}
use Rattle.script_lang.specs.Contents.{Contents}
use Rattle.script_lang.specs.Tests.{is_declared}
use Rattle.script_lang.specs.declared.script.SessionLine.{SessionLine}
use Rattle.source_table.specs.Table.{Table, name_of}
use Rattle.front_model.specs.Events.{FrontEvent, Came, ReportsDue, Requested}
use Rattle.front_model.specs.Given.{Setting, Given, asks, table}
use Rattle.front_model.specs.Records.{Holding, Nothing, BadPacket, BadCompound, Packet, Compound, is_rtcp, packet_in, compound_in, payload_in, datagram_in, record_in, holding, is_to}
use Rattle.front_model.specs.Sessions.{given_in, given, setting, cname}
use Rattle.rtp_session.specs.Standing.{State}
use Rattle.rtp_front.specs.Sessions.{Sessions, session_at, StandsAt, IsKept}
use Rattle.rtp_front.proofs.Keeping.{port_declared}

-- ---- a payload

module _ (l : SessionLine) (sent : Sent) where
  abbrev rtp : Holding
  rtp = packet_in l.session sent.from sent.payload (first_fault sent.payload)

  abbrev rtcp : Holding
  rtcp = compound_in l.session (compound_of sent.payload)

  pub as_compound : is_rtcp l sent ≡ true → compound_in l.session (compound_of sent.payload) ≡ payload_in l sent
  as_compound e = sym (ap (λ (b : Bool). cond b rtcp rtp) e)

  pub as_packet : (p : View) → is_rtcp l sent ≡ false → first_fault sent.payload ≡ None
      → p ≡ packet_of sent.payload → Packet l.session sent.from p ≡ payload_in l sent
  as_packet p e none same =
      ap (Packet l.session sent.from) same
      ∙ sym (ap (packet_in l.session sent.from sent.payload) none)
      ∙ sym (ap (λ (b : Bool). cond b rtcp rtp) e)

  pub as_bad : (fault : RtpFault) → is_rtcp l sent ≡ false
      → first_fault sent.payload ≡ Some fault → BadPacket l.session fault ≡ payload_in l sent
  as_bad fault e some =
      sym (ap (packet_in l.session sent.from sent.payload) some)
      ∙ sym (ap (λ (b : Bool). cond b rtcp rtp) e)

-- ---- of which session

-- The session of what it holds is declared.
abbrev IsOfScript : Contents → Holding → Type 0
IsOfScript c (Packet of from p) = is_declared c.sessions of ≡ true
IsOfScript c (Compound of ps) = is_declared c.sessions of ≡ true
IsOfScript c (Nothing why) = Unit {0}
IsOfScript c (BadPacket of fault) = Unit {0}
IsOfScript c (BadCompound of fault) = Unit {0}

packet_of_script : (c : Contents) (l : SessionLine) (sent : Sent) (o : Option RtpFault)
    → is_declared c.sessions l.session ≡ true
    → IsOfScript c (packet_in l.session sent.from sent.payload o)
packet_of_script c l sent None e = e
packet_of_script c l sent (Some fault) e = tt

compound_of_script : (c : Contents) (l : SessionLine) (r : Result (List RtcpPacket) RtcpFault)
    → is_declared c.sessions l.session ≡ true → IsOfScript c (compound_in l.session r)
compound_of_script c l (Ok ps) e = e
compound_of_script c l (Err fault) e = tt

payload_of_script : (c : Contents) (l : SessionLine) (sent : Sent) (b : Bool)
    → is_declared c.sessions l.session ≡ true
    → IsOfScript c (cond b (compound_in l.session (compound_of sent.payload))
    (packet_in l.session sent.from sent.payload (first_fault sent.payload)))
payload_of_script c l sent true e = compound_of_script c l (compound_of sent.payload) e
payload_of_script c l sent false e = packet_of_script c l sent (first_fault sent.payload) e

datagram_of_script : (c : Contents) (o : Option SessionLine) (sent : Sent)
    → IfSome o (λ l. is_declared c.sessions l.session ≡ true) → IsOfScript c (datagram_in o sent)
datagram_of_script c None sent h = tt
datagram_of_script c (Some l) sent h = payload_of_script c l sent (is_rtcp l sent) h

record_of_script : (c : Contents) (d : Result Sent Skip) → IsOfScript c (record_in c.sessions d)
record_of_script c (Err why) = tt
record_of_script c (Ok sent) =
    datagram_of_script c (find (is_to sent.to.port) c.sessions) sent
    (port_declared c.sessions sent.to.port)

-- ---- a session that is not declared is given nothing but report times, and knows no name

other : (c : Contents) (of q : ℕ) (g : Given) (b : Bool) → nat_eq of q ≡ b
    → is_declared c.sessions of ≡ true → is_declared c.sessions q ≡ false
    → cond b (g ∷ []) [] ≡ []
other c of q g true same is isnt =
    let also : is_declared c.sessions q ≡ true =
    ap (is_declared c.sessions) (sym (eqb-true of q same)) ∙ is
    in
    absurd cc
other c of q g false same is isnt = refl

nothing_given : (c : Contents) (q time : ℕ) (h : Holding) → IsOfScript c h
    → is_declared c.sessions q ≡ false → given_in c q time h ≡ []
nothing_given c q time (Packet of from p) is isnt = other c of q _ (nat_eq of q) refl is isnt
nothing_given c q time (Compound of ps) is isnt = other c of q _ (nat_eq of q) refl is isnt
nothing_given c q time (Nothing why) is isnt = refl
nothing_given c q time (BadPacket of fault) is isnt = refl
nothing_given c q time (BadCompound of fault) is isnt = refl

abbrev names_of : Contents → ℕ → List Given → List (ℕ × List ℕ)
names_of c q g = (table (setting c q) (asks g)).names

no_names : (c : Contents) (q : ℕ) (events : List FrontEvent) → is_declared c.sessions q ≡ false
    → names_of c q (given c q events) ≡ []
no_names c q [] isnt = refl
no_names c q (Came time r ∷ older) isnt =
    ap (λ (l : List Given). names_of c q (l ++ given c q older))
    (nothing_given c q time (holding c.sessions r) (record_of_script c (datagram_of r)) isnt)
    ∙ no_names c q older isnt
no_names c q (ReportsDue time ∷ older) isnt =
    ap (filter _) (no_names c q older isnt)
no_names c q (Requested r ∷ older) isnt = no_names c q older isnt

pub nameless : (c : Contents) (q ssrc : ℕ) (events : List FrontEvent)
    → is_declared c.sessions q ≡ false → cname c events q ssrc ≡ None
nameless c q ssrc events isnt =
    ap (λ (l : List (ℕ × List ℕ)). lookup (nat_eq ssrc) l) (no_names c q events isnt)

pub none_mapped : {X Y : Type 0} (o : Option X) (f : X → Y) → is_some o ≡ false
    → option_map f o ≡ None
none_mapped None f e = refl
none_mapped (Some x) f e = absurd cc

named_by : (c : Contents) (q ssrc : ℕ) (events : List FrontEvent) (s : Sessions)
    (r : Option (List ℕ)) (o : Option State) → session_at s q ≡ o
    → IsKept c q (given c q events) o
    → ((t : Setting) (older : List Given) → StandsAt s q t older
    → r ≡ name_of (table t (asks older)) ssrc)
    → (is_some o ≡ false → r ≡ None) → r ≡ cname c events q ssrc
named_by c q ssrc events s r None e kept found none =
    none refl ∙ sym (nameless c q ssrc events kept)
named_by c q ssrc events s r (Some x) e kept found none =
    found (setting c q) (given c q events) (record { state = x; found = e; stands = kept.1 })

-- the name that a session has for a source
pub named : (c : Contents) (q ssrc : ℕ) (events : List FrontEvent) (s : Sessions)
    (r : Option (List ℕ)) → IsKept c q (given c q events) (session_at s q)
    → ((t : Setting) (older : List Given) → StandsAt s q t older
    → r ≡ name_of (table t (asks older)) ssrc)
    → (is_some (session_at s q) ≡ false → r ≡ None) → r ≡ cname c events q ssrc
named c q ssrc events s r kept found none =
    named_by c q ssrc events s r (session_at s q) refl kept found none

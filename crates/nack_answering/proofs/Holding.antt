-- What a datagram to a session holds.
use Rattle.std.proofs.Common.{◌≡◌, ℕ, Bool, true, false, cond, List, [], ◌∷◌, ◌++◌, Option, Some, None, Result, Ok, Err, refl, sym, ap, subst, ◌∙◌}
use Rattle.std.specs.Prelude.{OnOk}
use Rattle.rtp_units.specs.declared.shared.Address.{Address}
use Rattle.pcap_file.specs.Datagrams.{Sent}
use Rattle.rtp_wire.specs.Packet.{Packet as View, first_fault}
use Rattle.rtp_wire.specs.View.{packet_of}
use Rattle.rtp_wire.specs.declared.fault.RtpFault.{RtpFault}
use Rattle.rtcp_wire.specs.Compound.{compound_of}
use Rattle.rtcp_wire.specs.declared.packet.Rtcp.{Rtcp}
use Rattle.rtcp_wire.specs.declared.fault.RtcpFault.{RtcpFault}
use Rattle.script_lang.specs.declared.script.SessionLine.{SessionLine}
use Rattle.rtx.specs.Answering.{Call, Remembers}
use Rattle.front_model.specs.Records.{Holding, is_rtcp, compound_in, packet_in, datagram_in}
use Rattle.nack_answering.specs.Asking.{requests_in}
use Rattle.nack_answering.specs.Standing.{State, StandsFor, remembered_in}

-- what holds whatever is answered
pub on_ok : {A : Type 0} {E : Type 0} {P : Type 0} (r : Result A E) → P → OnOk r P
on_ok (Ok x) p = p
on_ok (Err e) p = tt

choose_true : (b : Bool) (x y : Holding) → b ≡ true → cond b x y ≡ x
choose_true true x y e = refl
choose_true false x y e = absurd cc

choose_false : (b : Bool) (x y : Holding) → b ≡ false → cond b x y ≡ y
choose_false true x y e = absurd cc
choose_false false x y e = refl

pub as_compound : (found : Option SessionLine) (l : SessionLine) (sent : Sent)
    → found ≡ Some l → is_rtcp l sent ≡ true
    → datagram_in found sent ≡ compound_in l.session (compound_of sent.payload)
as_compound found l sent is e =
    ap (λ (o : Option SessionLine). datagram_in o sent) is ∙ choose_true (is_rtcp l sent) _ _ e

pub as_packet : (found : Option SessionLine) (l : SessionLine) (sent : Sent)
    → found ≡ Some l → is_rtcp l sent ≡ false
    → datagram_in found sent ≡ packet_in l.session sent.from sent.payload (first_fault sent.payload)
as_packet found l sent is e =
    ap (λ (o : Option SessionLine). datagram_in o sent) is ∙ choose_false (is_rtcp l sent) _ _ e

pub nothing_remembered : (session : ℕ) (found : Result (List Rtcp) RtcpFault)
    → remembered_in (compound_in session found) ≡ []
nothing_remembered session (Ok packets) = refl
nothing_remembered session (Err fault) = refl

pub nothing_asked : (session : ℕ) (from : Address) (payload : List ℕ) (fault : Option RtpFault)
    → requests_in (packet_in session from payload fault) ≡ []
nothing_asked session from payload None = refl
nothing_asked session from payload (Some fault) = refl

pub kept_packet : (x : State) (calls : List Call) (session : ℕ) (from : Address) (payload : List ℕ)
    (p : View) → first_fault payload ≡ None → p ≡ packet_of payload
    → StandsFor x (Remembers session p ∷ calls)
    → StandsFor x (remembered_in (packet_in session from payload (first_fault payload)) ++ calls)
kept_packet x calls session from payload p none same stands =
    subst (λ (o : Option RtpFault). StandsFor x (remembered_in (packet_in session from payload o) ++ calls))
    (sym none) (subst (λ (q : View). StandsFor x (Remembers session q ∷ calls)) same stands)

-- What goes to a lane has its numbers in their ranges.
use Rattle.std.proofs.Common.{ℕ, ◌≡◌, ◌<◌, ◌^◌, Bool, true, List, [], ◌∷◌, Option, None, Some, length, arith}
use Rattle.std.specs.Prelude.{nat_lt, ◌&&◌, find, Result, Ok, Err}
use Rattle.std.specs.List.{list_all}
use Rattle.std.proofs.lemmas.Bool.{and_parts}
use Rattle.std.proofs.lemmas.List.{length-drop}
use Rattle.std.proofs.lemmas.List.Elements.{All-drop}
use Rattle.rtp_units.specs.declared.shared.RtxLine.{RtxLine}
use Rattle.rtp_wire.specs.Network.{number16}
use Rattle.rtp_wire.specs.Packet.{Packet as View}
use Rattle.rtp_demux.specs.declared.lanes.LaneOf.{LaneOf}
use Rattle.rtp_demux.specs.declared.lanes.LaneOf.TheVariants.{New, Known, Rate, Full}
use Rattle.rtp_demux.specs.Lanes.{Sight, sight, lane_for}
use Rattle.rtx.specs.declared.receiver.Original.{Original}
use Rattle.rtx.specs.declared.answers.RtxFault.{RtxFault}
use Rattle.rtx.specs.declared.answers.RtxFault.TheVariants as fault
use Rattle.rtx.specs.Pairs.{carries}
use Rattle.rtx.specs.Requests.{oldest, oldest_other}
use Rattle.rtx.specs.Restoring.{Receiving, stream_of, by_only_request, by_oldest_request, by_stream, by_line, found, restored}
use Rattle.script_lang.specs.Contents.{Contents}
use Rattle.script_lang.specs.Entries.{rtx_fits}
use Rattle.script_lang.specs.Settings.{is_within}
use Rattle.front_model.specs.Moves.{Move}
use Rattle.front_model.specs.Types.{rate, is_rtx}
use Rattle.front_model.specs.Lanes.{lanes}
use Rattle.front_model.specs.Restoring.{calls, receiver, original as original_of}
use Rattle.front_model.specs.Fates.{Fate, Dropped, Goes, own_fate, rated_fate, restored_fate, carried_fate, rtx_fate, fate}
use Rattle.replay_ranges.proofs.Bytes.{IsByte, pick}
use Rattle.replay_ranges.proofs.Views.{IsView, within, small16}

abbrev pub IsFate : Fate → Type 0
IsFate (Dropped why) = Unit {0}
IsFate (Goes lane kind p) = (p.seq < 65536) × (p.rtp < 2 ^ 32) × (p.pt < 256) × (p.payload < 65536)

pub record Fated (f : Fate) : Type 0 where
  pub fact : IsFate f

-- ---- a packet that came by itself

own_fated : (p : View) (l : LaneOf) → IsView p → Fated (own_fate p l)
own_fated p (New lane) h = record { fact = (h.seq, h.rtp, h.pt, omega (arith, h.short)) }
own_fated p (Known lane) h = record { fact = (h.seq, h.rtp, h.pt, omega (arith, h.short)) }
own_fated p (Rate lane kept) h = record { fact = tt }
own_fated p Full h = record { fact = tt }

rated_fated : (ls : List Sight) (session : ℕ) (p : View) (o : Option ℕ) → IsView p → Fated (rated_fate ls session p o)
rated_fated ls session p None h = record { fact = tt }
rated_fated ls session p (Some rate) h = own_fated p (lane_for ls (sight session p.ssrc rate)) h

-- ---- what a retransmission carries

abbrev IsOriginal : Result Original RtxFault → Type 0
IsOriginal (Ok o) = (o.apt < 256) × (o.seq < 65536)
IsOriginal (Err why) = Unit {0}

record OriginalIn (r : Result Original RtxFault) : Type 0 where
  fact : IsOriginal r

by_only : (l : RtxLine) (p : View) (first : ℕ) (o : Option ℕ) → l.apt < 256 → IsView p → OriginalIn (by_only_request l p first o)
by_only l p first None small h = record { fact = (small, small16 p.payload 0 h.bytes) }
by_only l p first (Some second) small h = record { fact = tt }

by_oldest : (r : Receiving) (session : ℕ) (l : RtxLine) (p : View) (o : Option ℕ) → l.apt < 256 → IsView p → OriginalIn (by_oldest_request r session l p o)
by_oldest r session l p None small h = record { fact = tt }
by_oldest r session l p (Some first) small h = by_only l p first (oldest_other r.requests session (number16 p.payload 0) first) small h

in_stream : (r : Receiving) (session : ℕ) (l : RtxLine) (p : View) (o : Option ℕ) → l.apt < 256 → IsView p → OriginalIn (by_stream r session l p o)
in_stream r session l p (Some ssrc) small h = record { fact = (small, small16 p.payload 0 h.bytes) }
in_stream r session l p None small h =
    pick OriginalIn r.setting.by_request (by_oldest_request r session l p (oldest r.requests session (number16 p.payload 0))) (Err fault.UnknownSsrc)
    (λ _. by_oldest r session l p (oldest r.requests session (number16 p.payload 0)) small h) (λ _. record { fact = tt })

abbrev IsLine : Option RtxLine → Type 0
IsLine None = Unit {0}
IsLine (Some l) = l.apt < 256

record LineIn (o : Option RtxLine) : Type 0 where
  fact : IsLine o

line_small : (l : RtxLine) → rtx_fits l ≡ true → l.apt < 256
line_small l h =
    let both = and_parts (is_within 0 7 l.session && is_within 0 127 l.pt && is_within 0 7 l.osession) (is_within 0 127 l.apt) h in
    omega (arith, (within 0 127 l.apt both.1).1)

line_in : (test : RtxLine → Bool) (ls : List RtxLine) → list_all rtx_fits ls ≡ true → LineIn (find test ls)
line_in test [] h = record { fact = tt }
line_in test (l ∷ ls) h =
    let both = and_parts (rtx_fits l) (list_all rtx_fits ls) h in
    pick LineIn (test l) (Some l) (find test ls) (λ _. record { fact = line_small l both.0 }) (λ _. line_in test ls both.1)

in_line : (r : Receiving) (session : ℕ) (p : View) (o : Option RtxLine) → LineIn o → IsView p → OriginalIn (by_line r session p o)
in_line r session p None line h = record { fact = tt }
in_line r session p (Some l) line h = in_stream r session l p (stream_of r l p.ssrc) line.fact h

found_in : (r : Receiving) (session : ℕ) (p : View) → list_all rtx_fits r.setting.lines ≡ true → IsView p → OriginalIn (found r session p)
found_in r session p fits h =
    pick OriginalIn (nat_lt (length p.payload) 2) (Err fault.Short) (by_line r session p (find (carries session p.pt) r.setting.lines)) (λ _. record { fact = tt })
    (λ _. in_line r session p (find (carries session p.pt) r.setting.lines) (line_in (carries session p.pt) r.setting.lines fits) h)

-- ---- a restored packet

restored_view : (o : Original) (p : View) → o.apt < 256 → o.seq < 65536 → IsView p → IsView (restored o p)
restored_view o p apt seq h =
    record { seq = seq; rtp = h.rtp; pt = apt; short = omega (arith, length-drop 2 p.payload, h.short); bytes = All-drop IsByte 2 p.payload h.bytes }

restored_fated : (p : View) (l : LaneOf) → IsView p → Fated (restored_fate p l)
restored_fated p (Known lane) h = record { fact = (h.seq, h.rtp, h.pt, omega (arith, h.short)) }
restored_fated p (New lane) h = record { fact = tt }
restored_fated p (Rate lane kept) h = record { fact = tt }
restored_fated p Full h = record { fact = tt }

carried_fated : (ls : List Sight) (o : Original) (p : View) (x : Option ℕ) → o.apt < 256 → o.seq < 65536 → IsView p → Fated (carried_fate ls o p x)
carried_fated ls o p None apt seq h = record { fact = tt }
carried_fated ls o p (Some rate) apt seq h = restored_fated (restored o p) (lane_for ls (sight o.session o.ssrc rate)) (restored_view o p apt seq h)

rtx_fated : (c : Contents) (moves : List Move) (p : View) (r : Result Original RtxFault) → OriginalIn r → IsView p → Fated (rtx_fate c moves p r)
rtx_fated c moves p (Err why) g h = record { fact = tt }
rtx_fated c moves p (Ok o) g h = carried_fated (lanes c moves) o p (rate c o.session o.apt) g.fact.0 g.fact.1 h

pub fated : (c : Contents) (moves : List Move) (session : ℕ) (p : View) → list_all rtx_fits c.rtx ≡ true → IsView p → Fated (fate c moves session p)
fated c moves session p fits h =
    pick Fated (is_rtx c session p.pt) (rtx_fate c moves p (original_of c moves session p)) (rated_fate (lanes c moves) session p (rate c session p.pt))
    (λ _. rtx_fated c moves p (original_of c moves session p) (found_in (receiver c (calls c moves)) session p fits h) h)
    (λ _. rated_fated (lanes c moves) session p (rate c session p.pt) h)

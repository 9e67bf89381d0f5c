-- Which types were routed, and the lanes, by what went on from the sessions.
use Rattle.std.specs.Prelude.{ℕ, ◌==◌, if◌then◌else◌, List, filter_map, Option, Some, None, option_map}
use Rattle.rtp_demux.specs.declared.types.PtRoute.{PtRoute}
use Rattle.rtp_demux.specs.Lanes.{Sight, sight, lanes_of}
use Rattle.rtp_demux.specs.Types.{route_of}
use Rattle.script_lang.specs.Contents.{Contents}
use Rattle.front_model.specs.Moves.{Move, Released, Reported, Asked}
use Rattle.front_model.specs.Types.{rates, rate, is_rtx}

-- ---- types: those of a session's packets that are no retransmissions

abbrev pub type_of : Contents → ℕ → Move → Option ℕ
type_of c session (Released of stamp p) =
    if of == session then (if is_rtx c of p.pt then None else Some p.pt) else None
type_of c session (Reported of ssrc ntp rtp) = None
type_of c session (Asked r) = None

abbrev pub routed : Contents → ℕ → List Move → List ℕ
routed c session moves = filter_map (type_of c session) moves

-- how a packet of this type is routed
abbrev pub route : Contents → ℕ → List Move → ℕ → PtRoute
route c session moves pt = route_of (rates c session) (routed c session moves) pt

-- ---- lanes: the streams of packets whose type has a rate

abbrev pub sight_of : Contents → Move → Option Sight
sight_of c (Released session stamp p) =
    if is_rtx c session p.pt then None else option_map (sight session p.ssrc) (rate c session p.pt)
sight_of c (Reported session ssrc ntp rtp) = None
sight_of c (Asked r) = None

-- the lanes in the order of their numbers, each a stream with the rate that it began with
abbrev pub lanes : Contents → List Move → List Sight
lanes c moves = lanes_of (filter_map (sight_of c) moves)

-- Payload types of a session by a script: their clock rates, and which carry retransmissions.
use Rattle.std.specs.Prelude.{ℕ, ◌==◌, if◌then◌else◌, Bool, List, filter_map, Option, Some, None}
use Rattle.std.specs.List.{list_any}
use Rattle.script_lang.specs.declared.script.PtLine.{PtLine}
use Rattle.script_lang.specs.Contents.{Contents}
use Rattle.rtp_demux.specs.Types.{rate_of}
use Rattle.rtx.specs.Pairs.{carries}

abbrev pub rate_in : ℕ → PtLine → Option (ℕ × ℕ)
rate_in session l = if l.session == session then Some (l.pt, l.rate) else None

-- the types of a session that have a rate
abbrev pub rates : Contents → ℕ → List (ℕ × ℕ)
rates c session = filter_map (rate_in session) c.pts

abbrev pub rate : Contents → ℕ → ℕ → Option ℕ
rate c session pt = rate_of (rates c session) pt

-- Packets of this type of this session are retransmissions.
abbrev pub is_rtx : Contents → ℕ → ℕ → Bool
is_rtx c session pt = list_any (carries session pt) c.rtx

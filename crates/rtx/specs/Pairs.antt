-- Which payload types and streams carry retransmissions of which.
use Rattle.std.specs.Prelude.{◌<◌, ℕ, ◌&&◌, nat_eq, Bool, List, find, Option, option_map, All}
use Rattle.rtp_units.specs.declared.shared.RtxLine.{RtxLine}
use Rattle.rtp_units.specs.declared.shared.Fid.{Fid}

-- The payload types are numbers of seven bits.
abbrev pub AreTypes : List RtxLine → Type 0
AreTypes lines = All (λ l. (l.pt < 128) × (l.apt < 128)) lines

-- By this line this type of this session carries retransmissions.
abbrev pub carries : ℕ → ℕ → RtxLine → Bool
carries session pt l = nat_eq l.session session && nat_eq l.pt pt

-- By this line packets of this type of this session are retransmitted.
abbrev pub repeats : ℕ → ℕ → RtxLine → Bool
repeats session apt l = nat_eq l.osession session && nat_eq l.apt apt

-- The pair has this retransmission stream of this session.
abbrev pub has_retransmission : ℕ → ℕ → Fid → Bool
has_retransmission session rtx_ssrc f = nat_eq f.session session && nat_eq f.rtx_ssrc rtx_ssrc

-- The pair has this original stream of this session.
abbrev pub has_original : ℕ → ℕ → Fid → Bool
has_original session ssrc f = nat_eq f.session session && nat_eq f.ssrc ssrc

-- the stream that a retransmission stream is paired with
abbrev pub original_of : List Fid → ℕ → ℕ → Option ℕ
original_of fids session rtx_ssrc = option_map (λ f. f.ssrc) (find (has_retransmission session rtx_ssrc) fids)

-- the retransmission stream that a stream is paired with
abbrev pub retransmission_of : List Fid → ℕ → ℕ → Option ℕ
retransmission_of fids session ssrc = option_map (λ f. f.rtx_ssrc) (find (has_original session ssrc) fids)

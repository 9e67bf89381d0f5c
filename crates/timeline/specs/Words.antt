-- The words for what the layers below answer.
use Rattle.pcap_file.specs.declared.udp.Skip.{Skip}
use Rattle.pcap_file.specs.declared.udp.Skip.TheVariants as skip
use Rattle.rtp_wire.specs.declared.fault.RtpFault.{RtpFault}
use Rattle.rtp_wire.specs.declared.fault.RtpFault.TheVariants as fault
use Rattle.std.specs.Prelude.{ℕ, Option, Some, None}
use Rattle.rtcp_wire.specs.declared.fault.RtcpFault.{RtcpFault}
use Rattle.rtcp_wire.specs.declared.fault.RtcpFault.TheVariants as rtcp
use Rattle.timeline.specs.declared.line.Word.{Word}
use Rattle.timeline.specs.declared.line.Word.TheVariants as word

abbrev pub skip_word : Skip → Word
skip_word skip.Cut = word.Cut
skip_word skip.NotIp = word.NotIp
skip_word skip.Fragment = word.Fragment
skip_word skip.NotUdp = word.NotUdp
skip_word skip.Malformed = word.Malformed
skip_word skip.Big = word.Big

abbrev pub rtp_word : RtpFault → Word
rtp_word fault.Short = word.Short
rtp_word fault.Version = word.Version
rtp_word fault.Csrc = word.Csrc
rtp_word fault.Extension = word.Extension
rtp_word fault.Padding = word.Padding

-- with the offset of the bad packet; none for want of memory
abbrev pub rtcp_word : RtcpFault → Option (Word × ℕ)
rtcp_word (rtcp.Short offset) = Some (word.Short, offset)
rtcp_word (rtcp.Version offset) = Some (word.Version, offset)
rtcp_word (rtcp.Length offset) = Some (word.Length, offset)
rtcp_word (rtcp.Padding offset) = Some (word.Padding, offset)
rtcp_word (rtcp.First offset) = Some (word.First, offset)
rtcp_word (rtcp.Body offset kind) = Some (word.Body, offset)
rtcp_word rtcp.OutOfMemory = None

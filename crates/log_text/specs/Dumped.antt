-- The text of a dump's lines.
use Rattle.std.specs.Prelude.{ℕ, List, [], ◌∷◌, ◌++◌, codes}
use Rattle.std.specs.List.{flat_map}
use Rattle.std.specs.Fmt.{decimal}
use Rattle.log_text.specs.Text.{ssrc_text, word_text, marker_text}
use Rattle.timeline.specs.declared.dumped.Ports.{Ports}
use Rattle.timeline.specs.declared.dumped.RtpFacts.{RtpFacts}
use Rattle.timeline.specs.declared.word.BadPacket.{BadPacket}
use Rattle.timeline.specs.declared.dumped.DumpLine.{DumpLine}
use Rattle.timeline.specs.declared.dumped.DumpLine.TheVariants.{Rtp, Rtcp, BadRtcp, Bad, Skip, Done}

abbrev pub ports_text : Ports → List ℕ
ports_text ports = decimal ports.from ++ codes " " ++ decimal ports.to

-- payload type, sequence number, timestamp, SSRC
abbrev pub header_text : RtpFacts → List ℕ
header_text facts = decimal facts.pt ++ codes " " ++ decimal facts.seq ++ codes " " ++ decimal facts.timestamp ++ codes " " ++ ssrc_text facts.ssrc

-- marker, CSRCs, words of the extension, padding, payload length
abbrev pub sizes_text : RtpFacts → List ℕ
sizes_text facts = marker_text facts.marker ++ codes " " ++ decimal facts.csrcs ++ codes " " ++ decimal facts.words ++ codes " " ++ decimal facts.padding ++ codes " " ++ decimal facts.len

-- why, and the offset
abbrev pub bad_text : BadPacket → List ℕ
bad_text bad = word_text bad.word ++ codes " " ++ decimal bad.offset

abbrev pub packet_text : Ports → RtpFacts → List ℕ
packet_text ports facts = ports_text ports ++ codes " " ++ header_text facts ++ codes " " ++ sizes_text facts

abbrev pub after_comma : ℕ → List ℕ
after_comma n = codes "," ++ decimal n

-- numbers in decimal, joined by commas
abbrev pub numbers_text : List ℕ → List ℕ
numbers_text [] = []
numbers_text (n ∷ more) = decimal n ++ flat_map after_comma more

-- a line's words, without the types of a compound and the newline
abbrev pub dump_words : DumpLine → List ℕ
dump_words (Rtp number time ports facts) = decimal number ++ codes " " ++ decimal time ++ codes " rtp " ++ packet_text ports facts
dump_words (Rtcp number time ports types) = decimal number ++ codes " " ++ decimal time ++ codes " rtcp " ++ ports_text ports
dump_words (BadRtcp number time ports bad) = decimal number ++ codes " " ++ decimal time ++ codes " bad " ++ ports_text ports ++ codes " rtcp " ++ bad_text bad
dump_words (Bad number time ports why) = decimal number ++ codes " " ++ decimal time ++ codes " bad " ++ ports_text ports ++ codes " rtp " ++ word_text why
dump_words (Skip number time reason) = decimal number ++ codes " " ++ decimal time ++ codes " skip " ++ word_text reason
dump_words (Done records) = codes "done " ++ decimal records

-- the types of a compound's packets, behind a space
abbrev pub types_text : DumpLine → List ℕ
types_text (Rtcp number time ports types) = codes " " ++ numbers_text types
types_text line = []

abbrev pub dump_text : DumpLine → List ℕ
dump_text line = dump_words line ++ types_text line ++ codes "\n"

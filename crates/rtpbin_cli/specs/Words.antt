-- The words of a command line.
use Rattle.std.specs.Prelude.{ℕ, ◌≤◌, List, [], ◌∷◌, map, codes, Option, Some, None}
use Rattle.std.specs.Prelude.{Bool, true, false}
use Rattle.std.specs.Prelude.{bytes_eq, ◌&&◌, not, if◌then◌else◌, string_bytes, String}
use Rattle.std.specs.declared.alloc.Global.{Global}
use Rattle.depay.specs.declared.outcome.Format.{Format}
use Rattle.depay.specs.declared.outcome.Format.TheVariants.{Pcmu, H264}
use Rattle.replay_command.specs.declared.rendering.Style.{Style}
use Rattle.replay_command.specs.declared.rendering.Style.TheVariants as style
use Rattle.rtpbin_cli.specs.Numbers.{number_in}
use Rattle.rtpbin_cli.specs.declared.words.Way.{Way}
use Rattle.rtpbin_cli.specs.declared.words.Way.TheVariants.{Play, Answer}
use Rattle.rtpbin_cli.specs.declared.words.Asked.{Asked}
use Rattle.rtpbin_cli.specs.declared.words.Asked.TheVariants as asked

-- what is asked for: what is done with a capture by a script; the replay of a capture by a session
-- description and a text with settings and timed lines; a capture to be dumped; or the replay of
-- generated packets, by the number of the first one and their count
pub data Form : Type 0 where
  Scripted : Way → List ℕ → List ℕ → Form
  Described : List ℕ → List ℕ → List ℕ → Form
  Dump : List ℕ → Form
  Gen : ℕ → ℕ → Form

abbrev pub texts : List (String Global) → List (List ℕ)
texts words = map (λ w. string_bytes w) words

-- not both names are standard input
abbrev pub may_be_read : List ℕ → List ℕ → Bool
may_be_read capture script = not (bytes_eq capture (codes "-") && bytes_eq script (codes "-"))

-- the command is `replay`
abbrev pub replay_of : List ℕ → Bool → List ℕ → List ℕ → Option Form
replay_of command hex capture script =
    if bytes_eq command (codes "replay") && may_be_read capture script
    then Some (Scripted (Play (style.Log hex)) capture script)
    else None

-- a payload format by its name
abbrev pub format_named : List ℕ → Option Format
format_named word =
    if bytes_eq word (codes "pcmu") then Some Pcmu
    else if bytes_eq word (codes "h264") then Some H264
    else None

-- media units of this format and payload type, where both are some
abbrev pub units_of : Option Format → Option ℕ → Option Style
units_of (Some format) (Some pt) = Some (style.Units format pt)
units_of format pt = None

abbrev pub replay_in : Option Style → List ℕ → List ℕ → Option Form
replay_in (Some s) capture script = Some (Scripted (Play s) capture script)
replay_in None capture script = None

-- the command is `depay`, with the name of a format and a payload type
abbrev pub depay_of : List ℕ → List ℕ → List ℕ → List ℕ → List ℕ → Option Form
depay_of command format pt capture script =
    if bytes_eq command (codes "depay") && may_be_read capture script
    then replay_in (units_of (format_named format) (number_in 0 127 pt)) capture script
    else None

-- behind `rtxsend`
abbrev pub rtxsend_of : List ℕ → List ℕ → Option Form
rtxsend_of capture script =
    if may_be_read capture script then Some (Scripted Answer capture script) else None

abbrev pub gen_in : Option ℕ → Option ℕ → Option Form
gen_in (Some first) (Some count) = Some (Gen first count)
gen_in first count = None

-- behind `gen`: the number of the first packet, and how many there are
abbrev pub gen_of : List ℕ → List ℕ → Option Form
gen_of first count = gen_in (number_in 0 65535 first) (number_in 1 1000000 count)

-- a command with two words
abbrev pub three_of : List ℕ → List ℕ → List ℕ → Option Form
three_of command second third =
    if bytes_eq command (codes "rtxsend") then rtxsend_of second third
    else if bytes_eq command (codes "gen") then gen_of second third
    else replay_of command false second third

-- behind `sdp`; any name may be `-x`
abbrev pub sdp_of : List ℕ → List ℕ → List ℕ → Option Form
sdp_of capture sdp times =
    if may_be_read capture sdp && may_be_read capture times && may_be_read sdp times
    then Some (Described capture sdp times)
    else None

-- a command with three words
abbrev pub four_of : List ℕ → List ℕ → List ℕ → List ℕ → Option Form
four_of command second third fourth =
    if bytes_eq command (codes "sdp") then sdp_of second third fourth
    else if bytes_eq second (codes "-x") then replay_of command true third fourth
    else None

abbrev pub form_of : List (List ℕ) → Option Form
form_of (command ∷ capture ∷ []) =
    if bytes_eq command (codes "dump") then Some (Dump capture) else None
form_of (command ∷ second ∷ third ∷ []) = three_of command second third
form_of (command ∷ second ∷ third ∷ fourth ∷ []) = four_of command second third fourth
form_of (command ∷ format ∷ pt ∷ capture ∷ script ∷ []) =
    depay_of command format pt capture script
form_of words = None

-- a form as the program holds it
abbrev pub form_view : Asked → Form
form_view (asked.Scripted way capture script) = Scripted way capture.now script.now
form_view (asked.Described capture sdp times) = Described capture.now sdp.now times.now
form_view (asked.Dump capture) = Dump capture.now
form_view (asked.Gen first count) = Gen first count

-- generated packets are few
abbrev pub IsSmall : Asked → Type 0
IsSmall (asked.Gen first count) = count ≤ 1000000
IsSmall asked = Unit {0}

-- the name of the capture, where one is read
abbrev pub capture_name : Form → List ℕ
capture_name (Scripted way capture script) = capture
capture_name (Described capture sdp times) = capture
capture_name (Dump capture) = capture
capture_name (Gen first count) = []

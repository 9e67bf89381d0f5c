-- The tests of a line against the lines before it.
use Rattle.std.specs.Prelude.{ℕ, List, length, Bool, false, not, Option, Some, None, is_some, slice_index_or, ◌==◌, ◌&&◌, ◌||◌, nat_lt, nat_le, if◌then◌else◌}
use Rattle.std.specs.List.{list_any}
use Rattle.rtp_units.specs.declared.shared.RtxLine.{RtxLine}
use Rattle.rtp_units.specs.declared.shared.Fid.{Fid}
use Rattle.script_lang.specs.declared.fault.ScriptCause.{ScriptCause}
use Rattle.script_lang.specs.declared.fault.ScriptCause.TheVariants as cause
use Rattle.script_lang.specs.declared.script.SessionLine.{SessionLine}
use Rattle.script_lang.specs.declared.script.PtLine.{PtLine}
use Rattle.script_lang.specs.declared.script.Item.{Item}
use Rattle.script_lang.specs.declared.script.Action.{Action}
use Rattle.script_lang.specs.declared.script.Action.TheVariants as action
use Rattle.script_lang.specs.declared.setting.Setting.{Setting}
use Rattle.script_lang.specs.declared.entry.Entry.{Entry}
use Rattle.script_lang.specs.declared.entry.Entry.TheVariants as entry
use Rattle.script_lang.specs.Settings.{place_of}
use Rattle.script_lang.specs.Facts.{Facts}

-- ---- what earlier lines have

abbrev pub is_declared : List SessionLine → ℕ → Bool
is_declared sessions session = list_any (λ l. l.session == session) sessions

abbrev pub has_port : List SessionLine → ℕ → Bool
has_port sessions port = list_any (λ l. l.rtp == port || l.rtcp == port) sessions

-- a `pt` line of the session has the payload type
abbrev pub has_pt : List PtLine → ℕ → ℕ → Bool
has_pt pts session pt = list_any (λ l. session == l.session && pt == l.pt) pts

-- an `rtx` line of the session has it
abbrev pub has_rtx : List RtxLine → ℕ → ℕ → Bool
has_rtx rtx session pt = list_any (λ l. session == l.session && pt == l.pt) rtx

-- a `fid` line of the session has the SSRC, in either place
abbrev pub has_ssrc : List Fid → ℕ → ℕ → Bool
has_ssrc fids session ssrc = list_any (λ f. f.session == session && (f.ssrc == ssrc || f.rtx_ssrc == ssrc)) fids

abbrev pub is_set : List Setting → Setting → Bool
is_set settings setting = list_any (λ s. place_of s == place_of setting) settings

-- an earlier timed line has a greater time
abbrev pub has_later : List Item → ℕ → Bool
has_later items time = list_any (λ i. nat_lt time i.time) items

abbrev pub is_flushing : List (Option ℕ) → ℕ → Bool
is_flushing flushes session = is_some (slice_index_or flushes session None)

-- the most `fid` lines, and the most timed lines
abbrev pub max_fids : ℕ
max_fids = 64

abbrev pub max_items : ℕ
max_items = 100000

-- ---- the tests, of which each says whether a line fails it

abbrev pub action_lacks_session : List SessionLine → Action → Bool
action_lacks_session sessions action.Clock = false
action_lacks_session sessions (action.FlushStart session) = not (is_declared sessions session)
action_lacks_session sessions (action.FlushStop session) = not (is_declared sessions session)
action_lacks_session sessions (action.Latency session ns) = not (is_declared sessions session)

-- a session that is declared already in its own line, and that is not declared in another
abbrev pub fails_session : Facts → Entry → Bool
fails_session f (entry.Session l) = is_declared f.sessions l.session
fails_session f (entry.Pt l) = not (is_declared f.sessions l.session)
fails_session f (entry.Rtx l) = not (is_declared f.sessions l.session) || not (is_declared f.sessions l.osession)
fails_session f (entry.Fid l) = not (is_declared f.sessions l.session)
fails_session f (entry.Setting s) = false
fails_session f (entry.Timed i) = action_lacks_session f.sessions i.action

-- a port of an earlier session
abbrev pub fails_port : Facts → Entry → Bool
fails_port f (entry.Session l) = has_port f.sessions l.rtp || has_port f.sessions l.rtcp
fails_port f e = false

-- a payload type that the session has already, and an original type without a `pt` line
abbrev pub fails_pt : Facts → Entry → Bool
fails_pt f (entry.Pt l) = has_pt f.pts l.session l.pt || has_rtx f.rtx l.session l.pt
fails_pt f (entry.Rtx l) = has_pt f.pts l.session l.pt || has_rtx f.rtx l.session l.pt || not (has_pt f.pts l.osession l.apt)
fails_pt f e = false

-- two equal SSRCs, and one of an earlier line
abbrev pub fails_ssrc : Facts → Entry → Bool
fails_ssrc f (entry.Fid l) = l.ssrc == l.rtx_ssrc || has_ssrc f.fids l.session l.ssrc || has_ssrc f.fids l.session l.rtx_ssrc
fails_ssrc f e = false

-- a name that was set before
abbrev pub fails_repeat : Facts → Entry → Bool
fails_repeat f (entry.Setting s) = is_set f.settings s
fails_repeat f e = false

-- a time before that of an earlier line
abbrev pub fails_order : Facts → Entry → Bool
fails_order f (entry.Timed i) = has_later f.items i.time
fails_order f e = false

abbrev pub action_fails_flush : List (Option ℕ) → Action → Bool
action_fails_flush flushes (action.FlushStart session) = is_flushing flushes session
action_fails_flush flushes (action.FlushStop session) = not (is_flushing flushes session)
action_fails_flush flushes other = false

-- a flush-start while the session flushes, and a flush-stop while it doesn't
abbrev pub fails_flush : Facts → Entry → Bool
fails_flush f (entry.Timed i) = action_fails_flush f.flushes i.action
fails_flush f e = false

-- one line more than a script may have
abbrev pub fails_many : Facts → Entry → Bool
fails_many f (entry.Fid l) = nat_le max_fids (length f.fids)
fails_many f (entry.Timed i) = nat_le max_items (length f.items)
fails_many f e = false

-- the first test that a line fails
unfoldable pub cause_of : Facts → Entry → Option ScriptCause
cause_of f e =
    if fails_session f e then Some cause.Session
    else if fails_port f e then Some cause.Port
    else if fails_pt f e then Some cause.Pt
    else if fails_ssrc f e then Some cause.Ssrc
    else if fails_repeat f e then Some cause.Repeat
    else if fails_order f e then Some cause.Order
    else if fails_flush f e then Some cause.Flush
    else if fails_many f e then Some cause.Many
    else None

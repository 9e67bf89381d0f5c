-- What lines say by the values of their arguments, which are tested from left to right.
use Rattle.std.specs.Prelude.{ℕ, ◌^◌, List, Bool, true, ◌&&◌, nat_lt, Result, Ok, Err}
use Rattle.rtp_units.specs.declared.shared.RtxLine.{RtxLine}
use Rattle.rtp_units.specs.declared.shared.Fid.{Fid}
use Rattle.script_lang.specs.declared.fault.ScriptCause.{ScriptCause}
use Rattle.script_lang.specs.declared.script.SessionLine.{SessionLine}
use Rattle.script_lang.specs.declared.script.PtLine.{PtLine}
use Rattle.script_lang.specs.declared.script.Item.{Item}
use Rattle.script_lang.specs.declared.script.Action.{Action}
use Rattle.script_lang.specs.declared.script.Action.TheVariants as action
use Rattle.script_lang.specs.declared.entry.Entry.{Entry}
use Rattle.script_lang.specs.declared.entry.Entry.TheVariants as entry
use Rattle.script_lang.specs.Causes.{◌>>=◌}
use Rattle.script_lang.specs.Numbers.{number_in, time_in, ssrc_in}
use Rattle.script_lang.specs.Settings.{setting_of, setting_fits, is_within, is_time_within}
use Rattle.script_lang.specs.Forms.{WrittenAction, Clock, FlushStart, FlushStop, Latency, WrittenLine, Session, Pt, Rtx, Fid as FidForm, Setting, At}

abbrev pub session_in : List ℕ → Result ℕ ScriptCause
session_in word = number_in 0 7 word

abbrev pub port_in : List ℕ → Result ℕ ScriptCause
port_in word = number_in 1 65535 word

-- a payload type
abbrev pub pt_in : List ℕ → Result ℕ ScriptCause
pt_in word = number_in 0 127 word

unfoldable pub session_line : List ℕ → List ℕ → List ℕ → Result SessionLine ScriptCause
session_line session rtp rtcp = do
  session ← session_in session
  rtp ← port_in rtp
  rtcp ← port_in rtcp
  Ok (record { session = session; rtp = rtp; rtcp = rtcp })

unfoldable pub pt_line : List ℕ → List ℕ → List ℕ → Result PtLine ScriptCause
pt_line session pt rate = do
  session ← session_in session
  pt ← pt_in pt
  rate ← number_in 1 1000000 rate
  Ok (record { session = session; pt = pt; rate = rate })

unfoldable pub rtx_line : List ℕ → List ℕ → List ℕ → List ℕ → Result RtxLine ScriptCause
rtx_line session pt osession apt = do
  session ← session_in session
  pt ← pt_in pt
  osession ← session_in osession
  apt ← pt_in apt
  Ok (record { session = session; pt = pt; osession = osession; apt = apt })

unfoldable pub fid_line : List ℕ → List ℕ → List ℕ → Result Fid ScriptCause
fid_line session ssrc rtx_ssrc = do
  session ← session_in session
  ssrc ← ssrc_in ssrc
  rtx_ssrc ← ssrc_in rtx_ssrc
  Ok (record { session = session; ssrc = ssrc; rtx_ssrc = rtx_ssrc })

unfoldable pub action_of : WrittenAction → Result Action ScriptCause
action_of Clock = Ok action.Clock
action_of (FlushStart session) = do
  session ← session_in session
  Ok (action.FlushStart session)
action_of (FlushStop session) = do
  session ← session_in session
  Ok (action.FlushStop session)
action_of (Latency session latency) = do
  session ← session_in session
  ns ← time_in 0 600000 latency
  Ok (action.Latency session ns)

unfoldable pub item_of : List ℕ → WrittenAction → Result Item ScriptCause
item_of time act = do
  time ← time_in 0 4294967295 time
  action ← action_of act
  Ok (record { time = time; action = action })

abbrev pub as_entry : {A : Type 0} → (A → Entry) → Result A ScriptCause → Result Entry ScriptCause
as_entry make (Ok value) = Ok (make value)
as_entry make (Err cause) = Err cause

-- what a line says, or what the first bad argument has against it
unfoldable pub entry_of : WrittenLine → Result Entry ScriptCause
entry_of (Session session rtp rtcp) = as_entry entry.Session (session_line session rtp rtcp)
entry_of (Pt session pt rate) = as_entry entry.Pt (pt_line session pt rate)
entry_of (Rtx session pt osession apt) = as_entry entry.Rtx (rtx_line session pt osession apt)
entry_of (FidForm session ssrc rtx_ssrc) = as_entry entry.Fid (fid_line session ssrc rtx_ssrc)
entry_of (Setting name value) = as_entry entry.Setting (setting_of name value)
entry_of (At time act) = as_entry entry.Timed (item_of time act)

-- ---- the ranges of the values

abbrev pub session_fits : SessionLine → Bool
session_fits l = is_within 0 7 l.session && is_within 1 65535 l.rtp && is_within 1 65535 l.rtcp

abbrev pub pt_fits : PtLine → Bool
pt_fits l = is_within 0 7 l.session && is_within 0 127 l.pt && is_within 1 1000000 l.rate

abbrev pub rtx_fits : RtxLine → Bool
rtx_fits l = is_within 0 7 l.session && is_within 0 127 l.pt && is_within 0 7 l.osession && is_within 0 127 l.apt

abbrev pub fid_fits : Fid → Bool
fid_fits f = is_within 0 7 f.session && nat_lt f.ssrc (2 ^ 32) && nat_lt f.rtx_ssrc (2 ^ 32)

abbrev pub action_fits : Action → Bool
action_fits action.Clock = true
action_fits (action.FlushStart session) = is_within 0 7 session
action_fits (action.FlushStop session) = is_within 0 7 session
action_fits (action.Latency session ns) = is_within 0 7 session && is_time_within 0 600000 ns

abbrev pub item_fits : Item → Bool
item_fits i = is_time_within 0 4294967295 i.time && action_fits i.action

abbrev pub entry_fits : Entry → Bool
entry_fits (entry.Session l) = session_fits l
entry_fits (entry.Pt l) = pt_fits l
entry_fits (entry.Rtx l) = rtx_fits l
entry_fits (entry.Fid f) = fid_fits f
entry_fits (entry.Setting s) = setting_fits s
entry_fits (entry.Timed i) = item_fits i

-- The forms of lines: a first word, for timed lines an action, and a count of words.
use Rattle.std.specs.Prelude.{ℕ, List, [], ◌∷◌, codes, Bool, true, false, Option, Some, None, option_map, bytes_eq, if◌then◌else◌}
use Rattle.script_lang.specs.declared.form.Form.{Form}
use Rattle.script_lang.specs.declared.form.Form.TheVariants as form
use Rattle.script_lang.specs.declared.form.ActionForm.{ActionForm}
use Rattle.script_lang.specs.declared.form.ActionForm.TheVariants as action

-- what happens at a time, with words for the arguments
pub data WrittenAction : Type 0 where
  Clock : WrittenAction
  FlushStart : List ℕ → WrittenAction
  FlushStop : List ℕ → WrittenAction
  Latency : List ℕ → List ℕ → WrittenAction

-- what a line says, with words for the arguments
pub data WrittenLine : Type 0 where
  Session : List ℕ → List ℕ → List ℕ → WrittenLine
  Pt : List ℕ → List ℕ → List ℕ → WrittenLine
  Rtx : List ℕ → List ℕ → List ℕ → List ℕ → WrittenLine
  Fid : List ℕ → List ℕ → List ℕ → WrittenLine
  Setting : List ℕ → List ℕ → WrittenLine
  At : List ℕ → WrittenAction → WrittenLine

-- ---- what the words behind a first word or an action make, where their count is right

-- S R C
abbrev pub session_form : List (List ℕ) → Option WrittenLine
session_form (session ∷ rtp ∷ rtcp ∷ []) = Some (Session session rtp rtcp)
session_form args = None

-- S PT RATE
abbrev pub pt_form : List (List ℕ) → Option WrittenLine
pt_form (session ∷ pt ∷ rate ∷ []) = Some (Pt session pt rate)
pt_form args = None

-- S PT O APT
abbrev pub rtx_form : List (List ℕ) → Option WrittenLine
rtx_form (session ∷ pt ∷ osession ∷ apt ∷ []) = Some (Rtx session pt osession apt)
rtx_form args = None

-- S SSRC RTXSSRC
abbrev pub fid_form : List (List ℕ) → Option WrittenLine
fid_form (session ∷ ssrc ∷ rtx_ssrc ∷ []) = Some (Fid session ssrc rtx_ssrc)
fid_form args = None

-- NAME VALUE
abbrev pub setting_form : List (List ℕ) → Option WrittenLine
setting_form (name ∷ value ∷ []) = Some (Setting name value)
setting_form args = None

abbrev pub clock_form : List (List ℕ) → Option WrittenAction
clock_form [] = Some Clock
clock_form args = None

-- S
abbrev pub flush_start_form : List (List ℕ) → Option WrittenAction
flush_start_form (session ∷ []) = Some (FlushStart session)
flush_start_form args = None

-- S
abbrev pub flush_stop_form : List (List ℕ) → Option WrittenAction
flush_stop_form (session ∷ []) = Some (FlushStop session)
flush_stop_form args = None

-- S LATENCY
abbrev pub latency_form : List (List ℕ) → Option WrittenAction
latency_form (session ∷ latency ∷ []) = Some (Latency session latency)
latency_form args = None

unfoldable pub action_form : List ℕ → List (List ℕ) → Option WrittenAction
action_form action args =
    if bytes_eq action (codes "clock") then clock_form args
    else if bytes_eq action (codes "flush-start") then flush_start_form args
    else if bytes_eq action (codes "flush-stop") then flush_stop_form args
    else if bytes_eq action (codes "latency") then latency_form args
    else None

-- MS ACTION ..
abbrev pub at_form : List (List ℕ) → Option WrittenLine
at_form (time ∷ action ∷ args) = option_map (At time) (action_form action args)
at_form args = None

unfoldable pub form_behind : List ℕ → List (List ℕ) → Option WrittenLine
form_behind first args =
    if bytes_eq first (codes "session") then session_form args
    else if bytes_eq first (codes "pt") then pt_form args
    else if bytes_eq first (codes "rtx") then rtx_form args
    else if bytes_eq first (codes "fid") then fid_form args
    else if bytes_eq first (codes "set") then setting_form args
    else if bytes_eq first (codes "at") then at_form args
    else None

-- the form of the words of a line, if they have one
abbrev pub form_of : List (List ℕ) → Option WrittenLine
form_of [] = None
form_of (first ∷ args) = form_behind first args

abbrev pub is_timed : WrittenLine → Bool
is_timed (At time action) = true
is_timed line = false

-- ---- a form as the code holds it

abbrev pub written_action : ActionForm → WrittenAction
written_action action.Clock = Clock
written_action (action.FlushStart session) = FlushStart session.now
written_action (action.FlushStop session) = FlushStop session.now
written_action (action.Latency session latency) = Latency session.now latency.now

abbrev pub written : Form → WrittenLine
written (form.Session session rtp rtcp) = Session session.now rtp.now rtcp.now
written (form.Pt session pt rate) = Pt session.now pt.now rate.now
written (form.Rtx session pt osession apt) = Rtx session.now pt.now osession.now apt.now
written (form.Fid session ssrc rtx_ssrc) = Fid session.now ssrc.now rtx_ssrc.now
written (form.Setting name value) = Setting name.now value.now
written (form.At time act) = At time.now (written_action act)

-- What a script is: its lists and settings, and what holds of them.
use Rattle.std.specs.Prelude.{ℕ, List, [], ◌∷◌, ◌++◌, length, fold, IsTrue, Bool, true, false, not, ◌==◌, ◌&&◌, nat_le, if◌then◌else◌}
use Rattle.std.specs.List.{list_all}
use Rattle.rtp_units.specs.declared.shared.RtxLine.{RtxLine}
use Rattle.rtp_units.specs.declared.shared.Fid.{Fid}
use Rattle.script_lang.specs.declared.script.SessionLine.{SessionLine}
use Rattle.script_lang.specs.declared.script.PtLine.{PtLine}
use Rattle.script_lang.specs.declared.script.Item.{Item}
use Rattle.script_lang.specs.declared.script.Action.{Action}
use Rattle.script_lang.specs.declared.script.Action.TheVariants as action
use Rattle.script_lang.specs.declared.setting.ScriptSettings.{ScriptSettings}
use Rattle.script_lang.specs.Settings.{settings_list, setting_fits, settings_of}
use Rattle.script_lang.specs.Entries.{session_fits, pt_fits, rtx_fits, fid_fits, item_fits}
use Rattle.script_lang.specs.Facts.{Facts, session_numbers}
use Rattle.script_lang.specs.Tests.{is_declared, has_port, has_pt, has_rtx, has_ssrc, has_later, max_fids, max_items, action_lacks_session}

pub record Contents : Type 0 where
  pub sessions : List SessionLine
  pub pts : List PtLine
  pub rtx : List RtxLine
  pub fids : List Fid
  pub items : List Item
  pub settings : ScriptSettings

-- what all lines of a script say
abbrev pub contents_of : Facts → Contents
contents_of f = record { sessions = f.sessions; pts = f.pts; rtx = f.rtx; fids = f.fids; items = f.items; settings = settings_of f.settings }

-- each element passes a test against those before it, of which some stand already
abbrev pub each_behind : {A : Type 0} → (List A → A → Bool) → List A → List A → Bool
each_behind test before [] = true
each_behind test before (x ∷ xs) = test before x && each_behind test (before ++ x ∷ []) xs

-- its number and its ports are no earlier session's
abbrev pub is_new_session : List SessionLine → SessionLine → Bool
is_new_session before l = not (is_declared before l.session) && not (has_port before l.rtp) && not (has_port before l.rtcp)

-- the session is declared, and no earlier line of it has the type
abbrev pub is_new_pt : List SessionLine → List PtLine → PtLine → Bool
is_new_pt sessions before l = is_declared sessions l.session && not (has_pt before l.session l.pt)

-- both sessions are declared, the original type has a `pt` line, and no `pt` line and no earlier `rtx` line of the session has the type
abbrev pub is_new_rtx : List SessionLine → List PtLine → List RtxLine → RtxLine → Bool
is_new_rtx sessions pts before l =
    is_declared sessions l.session && is_declared sessions l.osession && has_pt pts l.osession l.apt
    && not (has_pt pts l.session l.pt) && not (has_rtx before l.session l.pt)

-- the session is declared, and two SSRCs that no earlier line of it has
abbrev pub is_new_fid : List SessionLine → List Fid → Fid → Bool
is_new_fid sessions before f =
    is_declared sessions f.session && not (f.ssrc == f.rtx_ssrc) && not (has_ssrc before f.session f.ssrc) && not (has_ssrc before f.session f.rtx_ssrc)

-- ---- flushes

abbrev pub flushing_by : ℕ → Bool → Item → Bool
flushing_by session was i = elim i.action [ action.FlushStart s ↦ (if s == session then true else was) | action.FlushStop s ↦ (if s == session then false else was) | _ ↦ was ]

-- the session flushes behind these items
abbrev pub flushes_behind : List Item → ℕ → Bool
flushes_behind items session = fold (flushing_by session) false items

abbrev pub action_alternates : List Item → Action → Bool
action_alternates before (action.FlushStart session) = not (flushes_behind before session)
action_alternates before (action.FlushStop session) = flushes_behind before session
action_alternates before other = true

-- the session is declared, no earlier item is later, and a flush begins or ends in its turn
abbrev pub is_next_item : List SessionLine → List Item → Item → Bool
is_next_item sessions before i = not (action_lacks_session sessions i.action) && not (has_later before i.time) && action_alternates before i.action

-- ---- all of it

-- what holds of the lists and settings of every script: the ranges, and what each line has to be against those before it
pub record IsScript (c : Contents) : Type 0 where
  -- the ranges of all values; times are whole milliseconds
  pub sessions_fit : IsTrue (list_all session_fits c.sessions)
  pub pts_fit : IsTrue (list_all pt_fits c.pts)
  pub rtx_fit : IsTrue (list_all rtx_fits c.rtx)
  pub fids_fit : IsTrue (list_all fid_fits c.fids)
  pub items_fit : IsTrue (list_all item_fits c.items)
  pub settings_fit : IsTrue (list_all setting_fits (settings_list c.settings))
  -- each line against those before it
  pub new_sessions : IsTrue (each_behind is_new_session [] c.sessions)
  pub new_pts : IsTrue (each_behind (is_new_pt c.sessions) [] c.pts)
  pub new_rtx : IsTrue (each_behind (is_new_rtx c.sessions c.pts) [] c.rtx)
  pub new_fids : IsTrue (each_behind (is_new_fid c.sessions) [] c.fids)
  pub next_items : IsTrue (each_behind (is_next_item c.sessions) [] c.items)
  -- no session flushes at the end
  pub closed : IsTrue (list_all (λ s. not (flushes_behind c.items s)) session_numbers)
  -- the counts
  pub few_fids : IsTrue (nat_le (length c.fids) max_fids)
  pub few_items : IsTrue (nat_le (length c.items) max_items)

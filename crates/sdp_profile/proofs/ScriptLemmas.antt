-- A description with the settings and timed lines of a script with the same sessions is a script.
use Rattle.std.proofs.Common.{◌≡◌, [], sym, ◌∙◌, ap}
use Rattle.script_lang.specs.Contents.{Contents, IsScript, each_behind, is_next_item}
use Rattle.sdp_profile.specs.Sections.{Described}
use Rattle.sdp_profile.specs.Scripts.{joined}
use Rattle.sdp_profile.specs.Sound.{IsSound}

pub joined_script : (d : Described) (c : Contents) → IsSound d → IsScript c → c.sessions ≡ d.sessions → IsScript (joined d c)
joined_script d c sound script same = record {
  sessions_fit = sound.sessions_fit;
  pts_fit = sound.pts_fit;
  rtx_fit = sound.rtx_fit;
  fids_fit = sound.fids_fit;
  items_fit = script.items_fit;
  settings_fit = script.settings_fit;
  new_sessions = sound.new_sessions;
  new_pts = sound.new_pts;
  new_rtx = sound.new_rtx;
  new_fids = sound.new_fids;
  next_items = sym (ap (λ sessions. each_behind (is_next_item sessions) [] c.items) same) ∙ script.next_items;
  closed = script.closed;
  few_fids = sound.few_fids;
  few_items = script.few_items;
}

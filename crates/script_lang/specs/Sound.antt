-- What holds of the facts of lines that passed their tests.
use Rattle.std.specs.Prelude.{[], length, map, IsTrue, ◌≡◌, nat_le, is_some}
use Rattle.std.specs.List.{list_all}
use Rattle.script_lang.specs.Settings.{setting_fits}
use Rattle.script_lang.specs.Entries.{session_fits, pt_fits, rtx_fits, fid_fits, item_fits}
use Rattle.script_lang.specs.Facts.{Facts, session_numbers}
use Rattle.script_lang.specs.Tests.{max_fids, max_items}
use Rattle.script_lang.specs.Contents.{each_behind, is_new_session, is_new_pt, is_new_rtx, is_new_fid, is_next_item, flushes_behind}

pub record IsSound (f : Facts) : Type 0 where
  pub sessions_fit : IsTrue (list_all session_fits f.sessions)
  pub pts_fit : IsTrue (list_all pt_fits f.pts)
  pub rtx_fit : IsTrue (list_all rtx_fits f.rtx)
  pub fids_fit : IsTrue (list_all fid_fits f.fids)
  pub items_fit : IsTrue (list_all item_fits f.items)
  pub settings_fit : IsTrue (list_all setting_fits f.settings)
  pub new_sessions : IsTrue (each_behind is_new_session [] f.sessions)
  pub new_pts : IsTrue (each_behind (is_new_pt f.sessions) [] f.pts)
  pub new_rtx : IsTrue (each_behind (is_new_rtx f.sessions f.pts) [] f.rtx)
  pub new_fids : IsTrue (each_behind (is_new_fid f.sessions) [] f.fids)
  pub next_items : IsTrue (each_behind (is_next_item f.sessions) [] f.items)
  -- the lines where flushes began are those of the sessions that flush
  pub flushes : map is_some f.flushes ≡ map (flushes_behind f.items) session_numbers
  pub few_fids : IsTrue (nat_le (length f.fids) max_fids)
  pub few_items : IsTrue (nat_le (length f.items) max_items)

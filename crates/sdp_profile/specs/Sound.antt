-- What holds of the lists that a description gives: with any settings and timed lines that fit,
-- they make a script.
use Rattle.std.specs.Prelude.{[], length, IsTrue, nat_le}
use Rattle.std.specs.List.{list_all}
use Rattle.script_lang.specs.Entries.{session_fits, pt_fits, rtx_fits, fid_fits}
use Rattle.script_lang.specs.Tests.{max_fids}
use Rattle.script_lang.specs.Contents.{each_behind, is_new_session, is_new_pt, is_new_rtx}
use Rattle.script_lang.specs.Contents.{is_new_fid}
use Rattle.sdp_profile.specs.Sections.{Described}

pub record IsSound (d : Described) : Type 0 where
  pub sessions_fit : IsTrue (list_all session_fits d.sessions)
  pub pts_fit : IsTrue (list_all pt_fits d.pts)
  pub rtx_fit : IsTrue (list_all rtx_fits d.rtx)
  pub fids_fit : IsTrue (list_all fid_fits d.fids)
  pub new_sessions : IsTrue (each_behind is_new_session [] d.sessions)
  pub new_pts : IsTrue (each_behind (is_new_pt d.sessions) [] d.pts)
  pub new_rtx : IsTrue (each_behind (is_new_rtx d.sessions d.pts) [] d.rtx)
  pub new_fids : IsTrue (each_behind (is_new_fid d.sessions) [] d.fids)
  pub few_fids : IsTrue (nat_le (length d.fids) max_fids)

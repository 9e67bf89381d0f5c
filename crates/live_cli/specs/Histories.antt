-- What `live` writes for a script and the records of a capture.
use Rattle.std.specs.Prelude.{◌≡◌, ℕ, List, Bool}
use Rattle.pcap_file.specs.Capture.{Record}
use Rattle.script_lang.specs.Contents.{Contents}
use Rattle.live_bin.specs.declared.history.LaneHistory.{LaneHistory}
use Rattle.live_bin.specs.declared.plan.Plan.{Plan}
use Rattle.live_plan.specs.Planned.{IsPlanOf}
use Rattle.live_run.specs.Histories.{AreWhole}
use Rattle.live_output.specs.Text.{live_text}

-- The bytes are the text of histories of the plan's lanes, one for each: each is a journal that
-- fits the plan and is complete.
pub record IsLiveText (hex : Bool) (c : Contents) (records : List Record) (bytes : List ℕ)
    : Type 0 where
  pub plan : Plan
  pub histories : List LaneHistory
  pub planned : IsPlanOf c records plan
  pub whole : AreWhole plan histories
  pub bytes_are : bytes ≡ live_text hex plan histories

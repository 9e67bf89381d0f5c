-- What the lines before a line say, by their lists.
use Rattle.std.specs.Prelude.{ℕ, List, [], ◌∷◌, map, fold, Option, Some, None, ◌==◌, if◌then◌else◌}
use Rattle.std.specs.List.{filter_map}
use Rattle.rtp_units.specs.declared.shared.RtxLine.{RtxLine}
use Rattle.rtp_units.specs.declared.shared.Fid.{Fid}
use Rattle.script_lang.specs.declared.script.SessionLine.{SessionLine}
use Rattle.script_lang.specs.declared.script.PtLine.{PtLine}
use Rattle.script_lang.specs.declared.script.Item.{Item}
use Rattle.script_lang.specs.declared.script.Action.{Action}
use Rattle.script_lang.specs.declared.script.Action.TheVariants as action
use Rattle.script_lang.specs.declared.setting.Setting.{Setting}
use Rattle.script_lang.specs.declared.entry.Entry.{Entry}
use Rattle.script_lang.specs.declared.entry.Entry.TheVariants as entry

-- what a line says, with the number of the line
pub record Placed : Type 0 where
  pub line : ℕ
  pub entry : Entry

-- the lines of each kind in order, and for each of the eight sessions the line where its flush began, if one is not closed
pub record Facts : Type 0 where
  pub sessions : List SessionLine
  pub pts : List PtLine
  pub rtx : List RtxLine
  pub fids : List Fid
  pub settings : List Setting
  pub items : List Item
  pub flushes : List (Option ℕ)

-- ---- the lines of one kind

abbrev pub as_session : Entry → Option SessionLine
as_session (entry.Session l) = Some l
as_session e = None

abbrev pub as_pt : Entry → Option PtLine
as_pt (entry.Pt l) = Some l
as_pt e = None

abbrev pub as_rtx : Entry → Option RtxLine
as_rtx (entry.Rtx l) = Some l
as_rtx e = None

abbrev pub as_fid : Entry → Option Fid
as_fid (entry.Fid f) = Some f
as_fid e = None

abbrev pub as_setting : Entry → Option Setting
as_setting (entry.Setting s) = Some s
as_setting e = None

abbrev pub as_item : Entry → Option Item
as_item (entry.Timed i) = Some i
as_item e = None

abbrev pub of_kind : {A : Type 0} → (Entry → Option A) → List Placed → List A
of_kind as_kind placed = filter_map (λ p. as_kind p.entry) placed

-- ---- flushes

-- a flush-start of a session begins its flush, and a flush-stop ends it
abbrev pub flush_by_action : ℕ → ℕ → Option ℕ → Action → Option ℕ
flush_by_action session line was (action.FlushStart s) = if s == session then Some line else was
flush_by_action session line was (action.FlushStop s) = if s == session then None else was
flush_by_action session line was other = was

abbrev pub flush_by : ℕ → Option ℕ → Placed → Option ℕ
flush_by session was p = elim (as_item p.entry) [ None ↦ was | Some i ↦ flush_by_action session p.line was i.action ]

-- the line where the flush of a session began that is not closed at the end of these lines
abbrev pub flush_of : List Placed → ℕ → Option ℕ
flush_of placed session = fold (flush_by session) None placed

-- ---- all of it

abbrev pub session_numbers : List ℕ
session_numbers = 0 ∷ 1 ∷ 2 ∷ 3 ∷ 4 ∷ 5 ∷ 6 ∷ 7 ∷ []

unfoldable pub facts_of : List Placed → Facts
facts_of placed = record {
  sessions = of_kind as_session placed;
  pts = of_kind as_pt placed;
  rtx = of_kind as_rtx placed;
  fids = of_kind as_fid placed;
  settings = of_kind as_setting placed;
  items = of_kind as_item placed;
  flushes = map (flush_of placed) session_numbers;
}

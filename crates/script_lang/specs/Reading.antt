-- What reading leaves, step by step.
use Rattle.std.specs.Prelude.{◌≡◌, ℕ, ◌-◌, List, [], ◌∷◌, ◌++◌, map, length, slice_get, slice_set, Option, Some, None, Result, Ok, Err, Bool, false, nat_lt}
use Rattle.std.specs.Option.{option_map_or}
use Rattle.std.specs.Borrow.{Bor}
use Rattle.rtp_units.specs.declared.shared.RtxLine.{RtxLine}
use Rattle.script_lang.specs.declared.fault.ScriptCause.{ScriptCause}
use Rattle.script_lang.specs.declared.fault.ScriptFault.{ScriptFault}
use Rattle.script_lang.specs.declared.fault.ScriptFault.TheVariants.{Bad, OutOfMemory}
use Rattle.script_lang.specs.declared.script.PtLine.{PtLine}
use Rattle.script_lang.specs.declared.script.Item.{Item}
use Rattle.script_lang.specs.declared.script.Action.{Action}
use Rattle.script_lang.specs.declared.script.Action.TheVariants as action
use Rattle.script_lang.specs.declared.entry.Entry.{Entry}
use Rattle.script_lang.specs.declared.entry.Entry.TheVariants as entry
use Rattle.script_lang.specs.Text.{lines_of}
use Rattle.script_lang.specs.Facts.{Facts}
use Rattle.script_lang.specs.Tests.{has_later}

-- words without where they lie in memory
abbrev pub texts : List (Bor (List ℕ)) → List (List ℕ)
texts words = map (λ word. word.now) words

-- the lines that are left
abbrev pub lines_left : Option (Bor (List ℕ)) → List (List ℕ)
lines_left None = []
lines_left (Some text) = lines_of text.now

-- payload types by session and number, as lines
abbrev pub pt_of : (ℕ × ℕ) × ℕ → PtLine
pt_of e = record { session = e.0.0; pt = e.0.1; rate = e.1 }

abbrev pub rtx_of : (ℕ × ℕ) × (ℕ × ℕ) → RtxLine
rtx_of e = record { session = e.0.0; pt = e.0.1; osession = e.1.0; apt = e.1.1 }

-- the last item is later than a time
abbrev pub is_last_later : List Item → ℕ → Bool
is_last_later items time = option_map_or (λ (i : Item). nat_lt time i.time) (slice_get items (length items - 1)) false

-- No item is later than the last.
abbrev pub IsInOrder : List Item → Type 0
IsInOrder items = (time : ℕ) → has_later items time ≡ is_last_later items time

-- the lines where flushes began, behind an action in this line
abbrev pub flushes_behind_action : List (Option ℕ) → ℕ → Action → List (Option ℕ)
flushes_behind_action flushes line action.Clock = flushes
flushes_behind_action flushes line (action.FlushStart session) = slice_set flushes session (Some line)
flushes_behind_action flushes line (action.FlushStop session) = slice_set flushes session None
flushes_behind_action flushes line (action.Latency session ns) = flushes

-- the facts with one line more
abbrev pub with_entry : Facts → ℕ → Entry → Facts
with_entry f line (entry.Session l) = record f { sessions = f.sessions ++ l ∷ [] }
with_entry f line (entry.Pt l) = record f { pts = f.pts ++ l ∷ [] }
with_entry f line (entry.Rtx l) = record f { rtx = f.rtx ++ l ∷ [] }
with_entry f line (entry.Fid l) = record f { fids = f.fids ++ l ∷ [] }
with_entry f line (entry.Setting s) = record f { settings = f.settings ++ s ∷ [] }
with_entry f line (entry.Timed i) = record f { items = f.items ++ i ∷ []; flushes = flushes_behind_action f.flushes line i.action }

abbrev pub with_optional : Facts → ℕ → Option Entry → Facts
with_optional f line None = f
with_optional f line (Some e) = with_entry f line e

-- what reading a line leaves, where it says this
abbrev pub AfterLine : Result (Unit {0}) ScriptFault → Result (Option Entry) ScriptCause → ℕ → Facts → Facts → Type 0
AfterLine (Ok x) said line old new = (e : Option Entry) × (said ≡ Ok e) × (new ≡ with_optional old line e)
AfterLine (Err (Bad n cause)) said line old new = (n ≡ line) × (said ≡ Err cause)
AfterLine (Err OutOfMemory) said line old new = Unit {0}

-- a call answers this, unless memory runs out
abbrev pub Answers : {A : Type 0} → Result A ScriptFault → Result A ScriptFault → Type 0
Answers (Ok value) answer = answer ≡ Ok value
Answers (Err (Bad line cause)) answer = answer ≡ Err (Bad line cause)
Answers (Err OutOfMemory) answer = Unit {0}

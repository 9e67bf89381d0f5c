-- What a history's calls leave of a sender.
use Rattle.std.proofs.Common.{◌≡◌, List, Result, Ok, Err, sym, subst}
use Rattle.std.specs.List.{AllByRecursion}
use Rattle.rtp_units.specs.declared.memory.OutOfMemory.{OutOfMemory}
use Rattle.script_lang.specs.declared.script.SessionLine.{SessionLine}
use Rattle.rtx.specs.Answering as history
use Rattle.rtx.specs.Answering.{Call, calls_after}
use Rattle.rtx.specs.Sending.{Setting, Sending}
use Rattle.nack_answering.specs.Standing.{State, StandsFor, IsSmall}

abbrev pub state : List SessionLine → Sending → State
state sessions h = record { sessions = sessions; history = h }

-- What a call does to a history, whatever it stood for.
abbrev pub Steps : {X : Type 0} → Sending → Sending → Call → Result X OutOfMemory → Type 0
Steps old new call result =
    (setting : Setting) (calls : List Call) → history.StandsFor old setting calls
    → history.StandsFor new setting (calls_after call calls result)

settled : (h : Sending) (s : Setting) (calls : List Call) → history.StandsFor h s calls
    → history.StandsFor h h.setting calls
settled h s calls p = subst (λ (t : Setting). history.StandsFor h t calls) (sym p.setting) p

small_after : {X : Type 0} (call : Call) (calls : List Call) (result : Result X OutOfMemory)
    → IsSmall call → AllByRecursion IsSmall calls
    → AllByRecursion IsSmall (calls_after call calls result)
small_after call calls (Ok x) one all = (one, all)
small_after call calls (Err e) one all = all

pub stands_after : {X : Type 0} (sessions : List SessionLine) (old new : Sending) (call : Call)
    (calls : List Call) (result : Result X OutOfMemory) → IsSmall call
    → Steps old new call result → StandsFor (state sessions old) calls
    → StandsFor (state sessions new) (calls_after call calls result)
stands_after sessions old new call calls result one step p = record {
  history = settled new old.setting (calls_after call calls result) (step old.setting calls p.history);
  small = small_after call calls result one p.small;
}

pub setting_stays : {X : Type 0} (sessions : List SessionLine) (old new : Sending) (call : Call)
    (calls : List Call) (result : Result X OutOfMemory)
    → Steps old new call result → StandsFor (state sessions old) calls
    → new.setting ≡ old.setting
setting_stays sessions old new call calls result step p = (step old.setting calls p.history).setting

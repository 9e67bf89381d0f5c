-- What was served since the last input begins the log of whatever comes next.
use Rattle.std.proofs.Common.{◌≡◌, ◌≤◌, List, [], ◌∷◌, ◌++◌, sym, ap, ◌∙◌}
use Rattle.std.specs.Prelude.{reverse}
use Rattle.std.proofs.lemmas.List.{reverse-append}
use Rattle.script_lang.specs.Contents.{Contents}
use Rattle.timeline.specs.declared.line.BinLine.{BinLine}
use Rattle.front_model.specs.Events.{Came}
use Rattle.replay_model.specs.Inputs.{Input, OfCapture, OfScript}
use Rattle.replay_model.specs.Events.{Timeline}
use Rattle.replay_model.specs.Lines.{lines}
use Rattle.replay_model.specs.Taking.{taken}
use Rattle.replay_model.specs.Log.{served, with_item, with_input, timeline, log_part, log, Begins}
use Rattle.replay_model.specs.Order.{input_time}
use Rattle.bin_core.specs.declared.bin.Bin.{Bin}
use Rattle.bin_core.specs.Words.{time_of}
use Rattle.bin_core.specs.Bins.{BinStands}

-- An input adds to what is told. The log of some inputs begins that of these and more, and the whole log of these.
pub record LogGoesOn : Type 0 where
  pub input : (c : Contents) (x : Input) (tl : Timeline) → Begins (lines tl) (lines (with_input c x tl))
  pub part : (c : Contents) (xs more : List Input) → Begins (log_part c xs) (log_part c (xs ++ more))
  pub whole : (c : Contents) (xs more : List Input) → Begins (log_part c xs) (log c (xs ++ more))

-- an input hangs on what is served up to its time alone
same_input : (c : Contents) (x : Input) (now tl : Timeline) → served c (input_time x) now ≡ served c (input_time x) tl
    → with_input c x now ≡ with_input c x tl
same_input c (OfCapture r) now tl is = ap (taken c r.time (Came r.time r.captured)) is
same_input c (OfScript i) now tl is = ap (with_item c i) is

pub ahead_begins : LogGoesOn → (c : Contents) (bin : Bin) (seen : List Input) (told : List BinLine) (x : Input)
    → time_of bin ≤ input_time x → BinStands c bin seen told
    → Begins (log_part c seen ++ told) (log_part c (seen ++ x ∷ []))
unfolding BinStands
ahead_begins law c bin seen told x late stands =
    let tl : Timeline = timeline c (reverse seen) in
    let same : with_input c x stands.now ≡ with_input c x tl =
    same_input c x stands.now tl (stands.same (input_time x) late) in
    let more = law.input c x stands.now in
    let all : log_part c (seen ++ x ∷ []) ≡ lines (with_input c x tl) =
    ap (λ (xs : List Input). lines (timeline c xs)) (reverse-append seen (x ∷ [])) in
    (more.0, all ∙ ap lines (sym same) ∙ more.1 ∙ ap (λ (l : List BinLine). l ++ more.0) stands.told_is)

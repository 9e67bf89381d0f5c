-- What is known of scripts: the front of one that is too long tells as much as the whole.
use Rattle.std.proofs.Common.{◌≡◌, ℕ, ◌+◌, ◌<◌, List, length, take, Result, Ok, Err, IsTrue, refl, sym, ap, ◌∙◌, arith, inl, inr}
use Rattle.std.proofs.lemmas.Bool.{lt-ltb, cases_lt}
use Rattle.std.proofs.lemmas.List.{length-take-le, take_all}
use Rattle.rtp_io.specs.Outside.{Disk}
use Rattle.script_lang.specs.declared.fault.ScriptCause.TheVariants.{Size}
use Rattle.script_lang.specs.declared.fault.ScriptFault.{ScriptFault}
use Rattle.script_lang.specs.declared.fault.ScriptFault.TheVariants.{Bad, OutOfMemory}
use Rattle.script_lang.specs.Contents.{Contents}
use Rattle.script_lang.specs.Grammar.{read_script}
use Rattle.script_lang.specs.Reading.{Answers}
use Rattle.command_core.specs.declared.stop.Stop.{Stop}
use Rattle.command_core.specs.declared.stop.Stop.TheVariants as stop
use Rattle.command_core.specs.Stops.{stop_of_script}
use Rattle.command_core.specs.Steps.{HasStopCause, ReadsScript, ReadsText}

script_big : (text : List ℕ) → 1048576 < length text → read_script text ≡ Err (Bad 0 Size)
unfolding read_script
script_big text big = rw (lt-ltb 1048576 (length text) big) refl

pub front_tells : (text : List ℕ) → read_script text ≡ read_script (take (1048576 + 1) text)
front_tells text = elim (cases_lt 1048576 (length text)) [
  | inl long ↦
      let size : length (take (1048576 + 1) text) ≡ 1048576 + 1 =
      length-take-le (1048576 + 1) text (omega arith) in
      script_big text long ∙ sym (script_big (take (1048576 + 1) text) (omega (arith, size)))
  | inr short ↦ ap read_script (sym (take_all (1048576 + 1) text (omega arith)))
]

-- ---- a script that was read

-- a text was read, or its fault found
pub reads_text : (fault : ScriptFault) (text : List ℕ) → Answers {A = Contents} (Err fault) (read_script text) → ReadsText (Err (stop_of_script fault)) text
reads_text (Bad line cause) text answers = answers
reads_text OutOfMemory text answers = tt

pub reads_script : (r : Result Contents Stop) (name text : List ℕ) (before after : Disk) → (IsTrue before.told → read_script (before.contents name) ≡ read_script text) → ReadsText r text → ReadsScript r name before after
reads_script (Ok c) name text before after same reads = λ told. same told ∙ reads
reads_script (Err (stop.Script line cause)) name text before after same reads = λ told. same told ∙ reads
reads_script (Err stop.Memory) name text before after same reads = tt
reads_script (Err stop.Usage) name text before after same reads = absurd reads
reads_script (Err stop.Read) name text before after same reads = absurd reads
reads_script (Err stop.Write) name text before after same reads = absurd reads
reads_script (Err (stop.Capture fault)) name text before after same reads = absurd reads

pub reads_cause : (r : Result Contents Stop) (text : List ℕ) (f f' : ℕ) → f' ≡ f → ReadsText r text → HasStopCause r f f' 0 0
reads_cause (Ok c) text f f' same reads = (same, refl)
reads_cause (Err (stop.Script line cause)) text f f' same reads = (same, refl)
reads_cause (Err stop.Memory) text f f' same reads = (same, refl)
reads_cause (Err stop.Usage) text f f' same reads = absurd reads
reads_cause (Err stop.Read) text f f' same reads = absurd reads
reads_cause (Err stop.Write) text f f' same reads = absurd reads
reads_cause (Err (stop.Capture fault)) text f f' same reads = absurd reads

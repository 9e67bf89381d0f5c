use Rattle.std.specs.Prelude.{List}
use Rattle.script_lang.specs.Contents.{Contents}
use Rattle.front_model.specs.Events.{FrontEvent}
use Rattle.rtp_front.specs.Standing.{StandsFor}
use Rattle.bin_core.proofs.Requesting.{Pending}
use Rattle.bin_core.proofs.requests.note.Given as goal

abbrev pub invariant-loop-seq : goal.invariant-loop-seq
invariant-loop-seq l =
    (c : Contents) (older : List FrontEvent) → StandsFor l.initial.front c older
    → Pending l.front c l.session l.ssrc l.numbers l.seq-index older

use Rattle.std.proofs.Common.{◌≡◌, ◌+◌, ℕ, List, take, sym, ap, ◌∙◌}
use Rattle.rtp_io.specs.Laws.{told_then}
use Rattle.sdp_profile.specs.Scripts.{described_script}
use Rattle.sdp_command.proofs.Fronts.{fronts_tell}
use Rattle.sdp_command.proofs.Texts.{reads_described}
use Rattle.sdp_command.proofs.reading.read_described.Goals as goal

pub returns-clause-after : goal.returns-clause-after
returns-clause-after g c =
    let before = g.F.Files.disk c.args.files.now in
    let mid = g.F.Files.disk c.read_input.new.files in
    let sdp = before.contents c.args.sdp.now in
    let times = before.contents c.args.times.now in
    reads_described c.script_in.result c.args.sdp.now c.args.times.now c.deref.result.now
    c.deref-2.result.now before (g.F.Files.disk c.read_input-2.new.files)
    (λ told.
    let first : take (1048576 + 1) sdp ≡ c.deref.result.now =
    sym (c.deref.ensures.value ∙ c.in_ok-sdp.ensures.after told) in
    let second : take (1048576 + 1) times ≡ c.deref-2.result.now =
    sym (c.deref-2.ensures.value
    ∙ c.in_ok-times.ensures.after (told_then before mid c.read_input.ensures.same told)
    ∙ ap (λ (f : List ℕ → List ℕ). take (1048576 + 1) (f c.args.times.now))
    c.read_input.ensures.same.contents) in
    sym (fronts_tell sdp times)
    ∙ ap (λ (s : List ℕ). described_script s (take (1048576 + 1) times)) first
    ∙ ap (λ (t : List ℕ). described_script c.deref.result.now t) second)
    c.script_in.ensures

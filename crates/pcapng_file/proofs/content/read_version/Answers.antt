use Rattle.std.proofs.Common.{◌≡◌, ◌-◌, ◌++◌, ℕ, List, length, arith, inl, inr}
use Rattle.pcap_file.specs.Numbers.{number_at}
use Rattle.pcapng_file.proofs.Parts.{part_long, stop_then, stop_exit}
use Rattle.pcapng_file.proofs.Meanings.{version_part, version_front}
use Rattle.pcapng_file.proofs.content.read_version.Goals as goal

pub returns-in_err-skip-clause-after : goal.returns-in_err-skip-clause-after
returns-in_err-skip-clause-after g c =
    stop_exit (λ (major : ℕ) (taken : List ℕ). major ≡ number_at c.args.order 2 12 (c.args.front.now ++ taken)) c.from_residual-in_err-skip.result c.in_err-skip.field-0.0 c.args.size c.args.pull.now c.skip.new.pull (g.F.Files.disk c.args.files.now) (g.F.Files.disk c.skip.new.files)
    c.from_residual-in_err-skip.ensures.1
    (stop_then (λ taken. taken ≡ c.in_ok-version.version) c.in_err-skip.field-0.0 4 (c.args.size - 4) c.args.size c.args.pull.now c.take.new.pull c.skip.new.pull (g.F.Files.disk c.args.files.now) (g.F.Files.disk c.take.new.files) (g.F.Files.disk c.skip.new.files)
    c.in_ok-version.ensures.after c.in_err-skip.ensures.after (omega arith))

pub returns-in_ok-skip-clause-after : goal.returns-in_ok-skip-clause-after
returns-in_ok-skip-clause-after g c =
    let first = c.in_ok-version.ensures.after in
    let long : length c.args.front.now ≡ 12 = elim c.requires.front [ inl e ↦ e | inr e ↦ absurd (omega arith) ] in
    version_part c.args.order c.args.front.now c.in_ok-version.version c.number16.result c.args.size c.args.pull.now c.take.new.pull c.skip.new.pull (g.F.Files.disk c.args.files.now) (g.F.Files.disk c.take.new.files) (g.F.Files.disk c.skip.new.files)
    long (part_long c.in_ok-version.version 4 c.args.pull.now c.take.new.pull (g.F.Files.disk c.args.files.now) (g.F.Files.disk c.take.new.files) first) (omega arith) c.number16.ensures first c.in_ok-skip.ensures.after

pub returns-in_ok-skip-2-clause-after : goal.returns-in_ok-skip-2-clause-after
returns-in_ok-skip-2-clause-after g c =
    let long : length c.args.front.now ≡ 24 = elim c.requires.front [ inl e ↦ absurd (omega arith) | inr e ↦ e ] in
    version_front c.args.order c.args.front.now c.number16-else-front-lt16.result c.args.size c.args.pull.now c.skip-else-front-lt16.new.pull (g.F.Files.disk c.args.files.now) (g.F.Files.disk c.skip-else-front-lt16.new.files)
    long c.number16-else-front-lt16.ensures c.in_ok-skip-2.ensures.after

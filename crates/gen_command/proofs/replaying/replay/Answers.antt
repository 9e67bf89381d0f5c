use Rattle.std.proofs.Common.{ℕ, ◌+◌, Option, ap, subst, ◌∙◌}
use Rattle.std.proofs.lemmas.Result.{on_ok_weaker}
use Rattle.pcap_file.specs.Reading.{record_view}
use Rattle.pcap_file.specs.declared.record.PcapRecord.{PcapRecord}
use Rattle.generated_capture.specs.Taking.{TakesNext}
use Rattle.gen_command.proofs.Taking.{came_next, came_all}
use Rattle.gen_command.proofs.replaying.replay.Goals as goal

pub records-preserved : goal.records-preserved
records-preserved c =
    let l = c.records in
    let taken =
    subst (λ (f : Option PcapRecord). TakesNext f l.capture c.next.new.self) c.in-Some.is
    c.in_ok-rec.ensures in
    record {
      came = came_next c.args.capture.now l.capture c.next.new.self l.bin c.take_record.new.self l.clock
          c.pass-clock.result (record_view 101 c.in-Some.rec) _ _ l.invariant.came taken.0
          c.pass-clock.ensures.passed c.in_ok-take_record-in-Some.ensures.takes
          (c.take_record.ensures.records ∙ ap (λ (n : ℕ). n + 1) c.records-number.ensures);
      time = c.take_record.ensures.time;
      small = c.pass-clock.ensures.small;
      level = c.take_record.ensures.level;
      running = c.take_record.ensures.open;
    }

pub returns-in-None : goal.returns-in-None
returns-in-None c =
    let l = c.records in
    let taken =
    subst (λ (f : Option PcapRecord). TakesNext f l.capture c.next.new.self) c.in-None.is
    c.in_ok-rec.ensures in
    on_ok_weaker c.finish.result
    (λ ends. came_all c.args.capture.now l.capture l.bin l.clock c.clear.new.self c.finish.new.lines
    l.invariant.came taken.0 c.clear.ensures c.the_end_goes_on.ensures ends)
    c.finish.ensures.completes

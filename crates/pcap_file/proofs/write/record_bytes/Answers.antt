use Rattle.std.proofs.Common.{rules, List, ℕ, subst}
use Rattle.pcap_file.specs.Writing.{ReadsBack, written_record}
use Rattle.pcap_file.proofs.Written.{record_written}
use Rattle.pcap_file.proofs.write.record_bytes.Goals as goal

pub returns-clause-reads_back : goal.returns-clause-reads_back
returns-clause-reads_back c =
    let P : List ℕ → Type 0 = λ bytes. ReadsBack c.args.time c.args.frame.now bytes in
    subst P {x = written_record c.args.time c.args.frame.now} (search rules) (record_written c.args.time c.args.frame.now c.requires.time c.requires.frame)

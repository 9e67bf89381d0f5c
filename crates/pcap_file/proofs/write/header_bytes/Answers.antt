use Rattle.std.proofs.Common.{rules, ◌≡◌, List, ℕ, Ok, subst}
use Rattle.pcap_file.specs.Capture.{format_of}
use Rattle.pcap_file.specs.Writing.{written_format}
use Rattle.pcap_file.proofs.Written.{format_written}
use Rattle.pcap_file.proofs.write.header_bytes.Goals as goal

pub returns-clause-reads_back : goal.returns-clause-reads_back
returns-clause-reads_back c = λ known.
    let P : List ℕ → Type 0 = λ bytes. format_of bytes ≡ Ok (written_format c.args.link) in
    subst P (search rules) (format_written c.args.link c.ranges.link.fits known)

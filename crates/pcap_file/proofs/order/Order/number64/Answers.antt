use Rattle.pcap_file.proofs.NumberLemmas.{little_read, big_read}
use Rattle.pcap_file.proofs.order.Order.number64.Goals as goal

pub returns-in-Little : goal.returns-in-Little
returns-in-Little c = little_read c.args.self 8 c.args.place _ c.args.bytes.now c.in-Little.is c.read_u64.ensures

pub returns-in-Big : goal.returns-in-Big
returns-in-Big c = big_read c.args.self 8 c.args.place _ c.args.bytes.now c.in-Big.is c.read_u64-in-Big.ensures

use Rattle.std.proofs.Common.{◌^◌, sym}
use Rattle.source_table.proofs.Ranging.{found_in}
use Rattle.source_table.proofs.Hearing.{kept_hears}
use Rattle.source_table.proofs.maps.hear_source.Goals as goal

pub hear_kept-requires : goal.hear_kept-requires
hear_kept-requires c =
    found_in (2 ^ 40) c.args.sources.now.entries c.args.ssrc c.in-Some.source.now c.requires (sym c.in-Some.ensures.value)

pub returns-in-Some : goal.returns-in-Some
returns-in-Some c =
    kept_hears c.args.sources.now.entries _ c.args.from.now c.args.ssrc c.args.packet.now c.hear_kept.result c.in-Some.source.now c.hear_kept.new.source
    (sym c.in-Some.ensures.value) c.hear_kept.ensures (c.get_mut.follows.holds c.hear_kept.new.source).0

use Rattle.std.proofs.Common.{◌≡◌, take}
use Rattle.std.specs.List.{flat_map}
use Rattle.nack_answering.specs.Asking.{packet_requests}
use Rattle.nack_answering.proofs.request.requests_of.Given as goal

abbrev pub invariant-loop-packet : goal.invariant-loop-packet
invariant-loop-packet l =
    l.requests.items ≡ flat_map (packet_requests l.session) (take l.packet-index l.packets)

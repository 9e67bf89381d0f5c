use Rattle.std.proofs.Common.{◌≡◌, ◌++◌, map}
use Rattle.std.specs.List.{filter, range_with_len}
use Rattle.nack_answering.specs.Asking.{request, following, has_bit}
use Rattle.nack_answering.proofs.request.add_entry.Given as goal

abbrev pub invariant-loop-bit : goal.invariant-loop-bit
invariant-loop-bit l =
    l.requests.items ≡ l.initial.requests.items
    ++ map (request l.session l.media)
    (map (following l.entry) (filter (has_bit l.entry) (range_with_len 0 l.bit)))

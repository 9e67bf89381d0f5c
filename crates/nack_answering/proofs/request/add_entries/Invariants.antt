use Rattle.std.proofs.Common.{◌≡◌, ◌++◌, take}
use Rattle.std.specs.List.{flat_map}
use Rattle.nack_answering.specs.Asking.{entry_requests}
use Rattle.nack_answering.proofs.request.add_entries.Given as goal

abbrev pub invariant-loop-entry : goal.invariant-loop-entry
invariant-loop-entry l =
    l.requests.items ≡ l.initial.requests.items
    ++ flat_map (entry_requests l.session l.media) (take l.entry-index l.entries)

-- What a call answers: what the definition gives, or want of memory.
use Rattle.std.specs.Prelude.{◌≡◌, Result, Ok, Err}
use Rattle.rtcp_wire.specs.declared.fault.RtcpFault.{RtcpFault}
use Rattle.rtcp_wire.specs.declared.fault.RtcpFault.TheVariants.{Short, Version, Length, Padding, First, Body, OutOfMemory}

abbrev pub Fails : {Y : Type 0} → RtcpFault → Result Y RtcpFault → Type 0
Fails OutOfMemory wanted = Unit {0}
Fails (Short offset) wanted = wanted ≡ Err (Short offset)
Fails (Version offset) wanted = wanted ≡ Err (Version offset)
Fails (Length offset) wanted = wanted ≡ Err (Length offset)
Fails (Padding offset) wanted = wanted ≡ Err (Padding offset)
Fails (First offset) wanted = wanted ≡ Err (First offset)
Fails (Body offset kind) wanted = wanted ≡ Err (Body offset kind)

-- What is answered, seen by view, is wanted, unless memory ran out.
abbrev pub Gives : {X Y : Type 0} → (X → Y) → Result X RtcpFault → Result Y RtcpFault → Type 0
Gives view (Ok x) wanted = wanted ≡ Ok (view x)
Gives view (Err fault) wanted = Fails fault wanted

-- Facts for each kind of fault.
use Rattle.pcap_file.specs.declared.fault.CaptureFault.{CaptureFault}
use Rattle.pcap_file.specs.declared.fault.CaptureFault.TheVariants.{CutHeader, Pcapng, Magic, Version, Link, TooMany, CutRecord, Length, Fraction, ReadFault, OutOfMemory}
use Rattle.pcap_file.specs.Faults.{OnFault, IsOfBytes}

pub of_bytes : (fault : CaptureFault) (P Q R : Type 0) → IsOfBytes fault → P → OnFault fault P Q R
of_bytes CutHeader P Q R is p = p
of_bytes Pcapng P Q R is p = p
of_bytes Magic P Q R is p = p
of_bytes Version P Q R is p = p
of_bytes Link P Q R is p = p
of_bytes (TooMany offset) P Q R is p = p
of_bytes (CutRecord offset) P Q R is p = p
of_bytes (Length offset) P Q R is p = p
of_bytes (Fraction offset) P Q R is p = p
of_bytes ReadFault P Q R is p = absurd is
of_bytes OutOfMemory P Q R is p = absurd is

pub on_each : (fault : CaptureFault) (P Q R P' Q' R' : Type 0) → (P → P') → (Q → Q') → (R → R') → OnFault fault P Q R → OnFault fault P' Q' R'
on_each CutHeader P Q R P' Q' R' f g h is = f is
on_each Pcapng P Q R P' Q' R' f g h is = f is
on_each Magic P Q R P' Q' R' f g h is = f is
on_each Version P Q R P' Q' R' f g h is = f is
on_each Link P Q R P' Q' R' f g h is = f is
on_each (TooMany offset) P Q R P' Q' R' f g h is = f is
on_each (CutRecord offset) P Q R P' Q' R' f g h is = f is
on_each (Length offset) P Q R P' Q' R' f g h is = f is
on_each (Fraction offset) P Q R P' Q' R' f g h is = f is
on_each ReadFault P Q R P' Q' R' f g h is = g is
on_each OutOfMemory P Q R P' Q' R' f g h is = h is

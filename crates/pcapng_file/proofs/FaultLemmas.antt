-- Facts for each kind of fault.
use Rattle.pcapng_file.specs.declared.fault.NgFault.{NgFault}
use Rattle.pcapng_file.specs.declared.fault.NgFault.TheVariants.{CutBlock, Order, Block, Version, Link, Options, Resolution, Many, Interface, Length, Time, TooMany, ReadFault, OutOfMemory}
use Rattle.pcapng_file.specs.Faults.{OnFault, IsOfBytes}

pub of_bytes : (fault : NgFault) (P Q R : Type 0) → IsOfBytes fault → P → OnFault fault P Q R
of_bytes (CutBlock offset) P Q R is p = p
of_bytes (Order offset) P Q R is p = p
of_bytes (Block offset) P Q R is p = p
of_bytes (Version offset) P Q R is p = p
of_bytes (Link offset) P Q R is p = p
of_bytes (Options offset) P Q R is p = p
of_bytes (Resolution offset) P Q R is p = p
of_bytes (Many offset) P Q R is p = p
of_bytes (Interface offset) P Q R is p = p
of_bytes (Length offset) P Q R is p = p
of_bytes (Time offset) P Q R is p = p
of_bytes (TooMany offset) P Q R is p = p
of_bytes ReadFault P Q R is p = absurd is
of_bytes OutOfMemory P Q R is p = absurd is

pub on_each : (fault : NgFault) (P Q R P' Q' R' : Type 0) → (P → P') → (Q → Q') → (R → R') → OnFault fault P Q R → OnFault fault P' Q' R'
on_each (CutBlock offset) P Q R P' Q' R' f g h is = f is
on_each (Order offset) P Q R P' Q' R' f g h is = f is
on_each (Block offset) P Q R P' Q' R' f g h is = f is
on_each (Version offset) P Q R P' Q' R' f g h is = f is
on_each (Link offset) P Q R P' Q' R' f g h is = f is
on_each (Options offset) P Q R P' Q' R' f g h is = f is
on_each (Resolution offset) P Q R P' Q' R' f g h is = f is
on_each (Many offset) P Q R P' Q' R' f g h is = f is
on_each (Interface offset) P Q R P' Q' R' f g h is = f is
on_each (Length offset) P Q R P' Q' R' f g h is = f is
on_each (Time offset) P Q R P' Q' R' f g h is = f is
on_each (TooMany offset) P Q R P' Q' R' f g h is = f is
on_each ReadFault P Q R P' Q' R' f g h is = g is
on_each OutOfMemory P Q R P' Q' R' f g h is = h is

-- Parts of a file, one after the other.
use Rattle.std.proofs.Common.{◌≡◌, ℕ, ◌+◌, ◌≤◌, ◌<◌, List, [], ◌++◌, length, Result, Ok, Err, refl, sym, ap, ◌∙◌, subst, arith}
use Rattle.std.specs.Result.{IsErrAnd}
use Rattle.std.proofs.lemmas.List.{length-append}
use Rattle.rtp_io.specs.Outside.{Disk}
use Rattle.rtp_io.specs.Pulled.{Keeps, Takes, Ends}
use Rattle.rtp_io.specs.Laws.{same_here, told_then, takes_none, takes_then, all_here}
use Rattle.pcapng_file.specs.declared.pieces.Stop.{Stop}
use Rattle.pcapng_file.specs.declared.pieces.Stop.TheVariants.{Cut, ReadFault, OutOfMemory}
use Rattle.pcapng_file.specs.Pieces.{TakesPart, RunsOut, GaveFewer, AfterStop, AfterPart}

pub runs_out : (n have : ℕ) (held rest : List ℕ) (a b : Disk) → Keeps held rest a b × Ends n have rest b → RunsOut n held a
runs_out n have held rest a b is t =
    omega (arith, ap length (all_here n have held rest a b is.0 is.1 t), is.1.held, is.1.few)

pub gave_fewer : (n : ℕ) (held rest : List ℕ) (a b : Disk) → Keeps held rest a b × (length rest < n) → GaveFewer n held rest a b
gave_fewer n held rest a b is = record { taken = []; takes = takes_none held rest a b is.0; few = omega (arith, is.1) }

-- nothing was taken yet
pub takes_here : (held : List ℕ) (a : Disk) → Takes [] held held a a
takes_here held a = record { same = same_here a; coming = λ t. refl; opened = λ t. refl }

pub part_none : (P : List ℕ → Type 0) (n : ℕ) (held : List ℕ) (a : Disk) → n ≡ 0 → P [] → TakesPart P n held held a a
part_none P n held a none p = record { taken = []; takes = takes_here held a; long = sym none; is = p }

pub part_then : (P Q R : List ℕ → Type 0) (m n k : ℕ) (x y z : List ℕ) (a b c : Disk) → TakesPart P m x y a b → TakesPart Q n y z b c → m + n ≡ k
    → ((p q : List ℕ) → length p ≡ m → length q ≡ n → P p → Q q → R (p ++ q)) → TakesPart R k x z a c
part_then P Q R m n k x y z a b c first second sum join = record {
  taken = first.taken ++ second.taken;
  takes = takes_then first.taken second.taken x y z a b c first.takes second.takes;
  long = omega (arith, length-append first.taken second.taken, first.long, second.long);
  is = join first.taken second.taken first.long second.long first.is second.is;
}

pub part_as : (P Q : List ℕ → Type 0) (m n : ℕ) (x y : List ℕ) (a b : Disk) → TakesPart P m x y a b → m ≡ n → ((p : List ℕ) → length p ≡ m → P p → Q p) → TakesPart Q n x y a b
part_as P Q m n x y a b part same into = record {
  taken = part.taken;
  takes = part.takes;
  long = part.long ∙ same;
  is = into part.taken part.long part.is;
}

pub part_long : (h : List ℕ) (n : ℕ) (x y : List ℕ) (a b : Disk) → TakesPart (λ taken. taken ≡ h) n x y a b → length h ≡ n
part_long h n x y a b part = ap length (sym part.is) ∙ part.long

-- a front of a part does not come
pub stop_first : (stop : Stop) (m n : ℕ) (x y : List ℕ) (a b : Disk) → AfterStop stop m x y a b → m ≤ n → AfterStop stop n x y a b
stop_first Cut m n x y a b after le = λ t. omega (arith, after t)
stop_first ReadFault m n x y a b after le = record { taken = after.taken; takes = after.takes; few = omega (arith, after.few) }
stop_first OutOfMemory m n x y a b after le = tt

-- a part does not come behind one that did
pub stop_then : (P : List ℕ → Type 0) (stop : Stop) (m n k : ℕ) (x y z : List ℕ) (a b c : Disk) → TakesPart P m x y a b → AfterStop stop n y z b c → m + n ≤ k → AfterStop stop k x z a c
stop_then P Cut m n k x y z a b c part after le = λ t.
    let rest = y ++ b.left in
    omega (arith, ap length (part.takes.coming t), length-append part.taken rest, part.long, after (told_then a b part.takes.same t))
stop_then P ReadFault m n k x y z a b c part after le = record {
  taken = part.taken ++ after.taken;
  takes = takes_then part.taken after.taken x y z a b c part.takes after.takes;
  few = omega (arith, length-append part.taken after.taken, part.long, after.few);
}
stop_then P OutOfMemory m n k x y z a b c part after le = tt

-- what the exit of a `?` returns
pub stop_exit : {A : Type 0} (P : A → List ℕ → Type 0) (r : Result A Stop) (stop : Stop) (n : ℕ) (x y : List ℕ) (a b : Disk) → IsErrAnd r (λ e. e ≡ stop) → AfterStop stop n x y a b → AfterPart P n r x y a b
stop_exit P (Ok v) stop n x y a b is after = absurd is
stop_exit P (Err e) stop n x y a b is after = subst (λ (s : Stop). AfterStop s n x y a b) (sym is) after
